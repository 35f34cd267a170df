-- Which texts are read, in terms of the grammar: exactly those that spell a kind, acceptable signs and
-- calls that are all accepted. So what is written reads back.
use Rattle.std.specs.Prelude.{◌≡◌, ℕ, ◌≤◌, ◌↔◌, List, length, None, Ok}
use Rattle.drafts.specs.declared.calls.Call.{Call}
use Rattle.automata.specs.Signs.{sign_fault}
use Rattle.automata.specs.Drafts.{DraftModel, fresh}
use Rattle.drafts.specs.Calls.{after_all, outcomes}
use Rattle.drafts.specs.CallLaws.{AllOk}
use Rattle.texts.specs.declared.letters.KindLetter.{KindLetter}
use Rattle.texts.specs.Grammar.{kind_of, AllHaveLines, spelled, written}
use Rattle.texts.specs.Reading.{read_text}

-- the text spells the draft d of the kind k
pub record Spells (text : List ℕ) (k : KindLetter) (d : DraftModel) : Type 0 where
  pub signs : List ℕ
  pub calls : List Call
  pub short : length text ≤ 32768
  pub spelling : text ≡ spelled k signs calls
  pub accepted : sign_fault signs ≡ None
  pub lines : AllHaveLines signs calls
  pub done : AllOk (outcomes (kind_of k) (fresh signs) calls)
  pub drawn : d ≡ after_all (kind_of k) (fresh signs) calls

-- Where some list of calls drew d from acceptable signs, and its text is within the limit, that text is read as d.
abbrev pub ReadsBack : KindLetter → DraftModel → Type 0
ReadsBack k d =
    (signs : List ℕ) (calls : List Call) → sign_fault signs ≡ None → d ≡ after_all (kind_of k) (fresh signs) calls
    → length (written k d) ≤ 32768 → read_text (written k d) ≡ Ok (k, d)

pub record TextLaws : Type 0 where
  -- a text is read as a draft exactly if it spells it
  pub reads : (text : List ℕ) (k : KindLetter) (d : DraftModel) → (read_text text ≡ Ok (k, d)) ↔ Spells text k d
  -- what is written of a draft that calls drew reads back
  pub back : (k : KindLetter) (d : DraftModel) → ReadsBack k d
