-- From what a press leaves to the tables and the states that it has built.
use Rattle.std.proofs.Common.{◌≡◌, ℕ, ◌≤◌, List, reverse, length, get_or, take, None, ap, ◌∙◌, subst, arith}
use mathlib.Core.List.{reverse-reverse}
use mathlib.Core.HLevel.{is_prop→PathP}
use Rattle.kinds.specs.Kinds.{KindModel}
use Rattle.automata.specs.Signs.{sign_fault}
use Rattle.automata.specs.Drafts.{DraftModel, letters}
use Rattle.automata.specs.Shown.{sign_bytes}
use Rattle.automata.proofs.FaultSet.{fault-set}
use Rattle.drafts.specs.Words.{Over, run, value}
use Rattle.drafts.proofs.Runs.{over-reverse}
use Rattle.machines.specs.Models.{MachineModel, meaning}
use Rattle.machines.specs.Tables.{count, table_step}
use Rattle.machines.specs.Built.{Built}
use Rattle.machines.proofs.Reading.{built-admitted, built-reads}
use Rattle.tables.specs.declared.grid.Grid.{Grid}
use Rattle.tables.specs.Shown.{shown}
use Rattle.tables.proofs.GridLaws.{shown-count}
use Rattle.views.specs.Accepted.{accepted}
use Rattle.views.specs.declared.colouring.Colouring.{Colouring}
use Rattle.views.specs.TableViews.{backward_table_model}
use Rattle.views.specs.ViewLaws.{DraftViewLaws, TableViewLaws}
use Rattle.views.proofs.TableReversal.{table_view_laws}
use Rattle.views.specs.TableSays.{table_says}
use Rattle.pressing.specs.Pressed.{Left, Holds, reading, TwiceLeft, DraftPressed, MachinePressed}
use Rattle.pressing.specs.Press.{Twice}

pub grid_few : (t : Grid) → count (shown t) ≤ 128
grid_few t = omega (arith, shown-count t, t.few)

-- the table of m, read backward
pub reading_is : {S : Type 0} (m : MachineModel S) (t : Grid) → sign_bytes t.signs ≡ m.signs
    → reading m.kind t ≡ backward_table_model m.kind m.signs m.acceptable (shown t)
reading_is m t e = λ i. backward_table_model m.kind (e i) (is_prop→PathP (λ j. sign_fault (e j) ≡ None) (λ j. fault-set (sign_fault (e j)) None) (accepted t.signs) m.acceptable i) (shown t)

unfoldable pub twice-built : {S : Type 0} {m : MachineModel S} {d : S} {back : Left S} {last : Left Colouring} → TwiceLeft m d back last → Twice m (shown last.table)
twice-built {S} {m} {d} {back} {last} p = record {
  back = shown back.table;
  columns = take back.len back.entries;
  rows = take last.len last.entries;
  few = grid_few back.table;
  built = p.built.built;
  again = subst (λ k. Built k (shown last.table) (take last.len last.entries)) (reading_is m back.table p.built.signs) p.again.built;
}

views_of : (K : KindModel) (t : Grid) → TableViewLaws K (sign_bytes t.signs) (accepted t.signs) (shown t)
views_of K t = table_view_laws K (sign_bytes t.signs) (accepted t.signs) (shown t) (grid_few t)

-- a table that is built says what its machine says
pub holds-says : {S : Type 0} {m : MachineModel S} {d : S} {x : Left S} → Holds m d x → (w : List ℕ) → table_says m.kind x.table w ≡ meaning m w
holds-says {S} {m} {d} {x} h w =
    let t = shown x.table in
    (views_of m.kind x.table).forward (built-admitted h.built) w
    ∙ (ap (λ (n : ℕ). get_or t.values (run (table_step n t) 0 w) m.kind.none) (ap length h.signs) ∙ built-reads h.built (built-admitted h.built) w)

-- a table read backward says of a word what the table says of the word turned round
pub reading-says : (K : KindModel) (t : Grid) (w : List ℕ) → meaning (reading K t) w ≡ table_says K t (reverse w)
reading-says K t w = (views_of K t).backward w

-- built backward of a table that is built from m, a table says of a word what m says of the word turned round
pub twice-says : {S : Type 0} {m : MachineModel S} {d : S} {back : Left S} {last : Left Colouring} → TwiceLeft m d back last
    → (w : List ℕ) → table_says m.kind last.table w ≡ meaning m (reverse w)
twice-says {S} {m} {d} {back} {last} p w = holds-says p.again w ∙ (reading-says m.kind back.table w ∙ holds-says p.built (reverse w))

pub machine-says : {S : Type 0} {m : MachineModel S} {d : S} {first : Left S} {back last : Left Colouring} → MachinePressed m d first back last
    → (w : List ℕ) → table_says m.kind last.table w ≡ meaning m w
machine-says {S} {m} {d} {first} {back} {last} p w =
    twice-says p.twice w ∙ (reading-says m.kind first.table (reverse w) ∙ (ap (table_says m.kind first.table) (reverse-reverse w) ∙ holds-says p.built w))

-- what is left of a draft says what the draft says
pub draft-says : {K : KindModel} {d : DraftModel} {ok : sign_fault d.signs ≡ None} {back last : Left Colouring} → DraftViewLaws K d ok → DraftPressed K d ok back last
    → (w : List ℕ) → Over (letters d) w → table_says K last.table w ≡ value K d w
draft-says {K} {d} {ok} {back} {last} laws p w o =
    twice-says p w ∙ (laws.backward (reverse w) (over-reverse (letters d) w o) ∙ ap (value K d) (reverse-reverse w))
