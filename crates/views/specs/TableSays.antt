-- What a table says of words.
use Rattle.std.specs.Prelude.{ℕ, List}
use Rattle.kinds.specs.Kinds.{KindModel}
use Rattle.automata.specs.Shown.{sign_bytes}
use Rattle.machines.specs.Models.{meaning}
use Rattle.tables.specs.declared.grid.Grid.{Grid}
use Rattle.tables.specs.Shown.{shown}
use Rattle.views.specs.Accepted.{accepted}
use Rattle.views.specs.TableViews.{table_view}

-- the value of a word: that of the state to which it leads
abbrev pub table_says : KindModel → Grid → List ℕ → ℕ
table_says K t w = meaning (table_view K (sign_bytes t.signs) (accepted t.signs) (shown t)) w
