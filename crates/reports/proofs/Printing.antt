-- What is printed of a draft, from what a press leaves.
use Rattle.std.proofs.Common.{◌≡◌, ℕ, List, length, IfOk, None, Ok, Result, sym, ap, ◌∙◌}
use Rattle.kinds.specs.Kinds.{KindModel}
use Rattle.automata.specs.Signs.{sign_fault}
use Rattle.automata.specs.Drafts.{DraftModel, fresh}
use Rattle.drafts.specs.Calls.{after_all}
use Rattle.drafts.proofs.ListLaws.{call_laws_lem}
use Rattle.views.specs.declared.colouring.Colouring.{Colouring}
use Rattle.pressing.specs.declared.faults.PressFault.{PressFault}
use Rattle.pressing.specs.Pressed.{Left, DraftEnded}
use Rattle.pressing.specs.Sources.{Made}
use Rattle.texts.specs.declared.letters.KindLetter.{KindLetter}
use Rattle.texts.specs.Grammar.{kind_of}
use Rattle.texts.specs.Reading.{read_text}
use Rattle.texts.proofs.TextLaws.{read_spells}
use Rattle.reports.specs.Reports.{AnswerPrints, DraftPrints}
use Rattle.reports.proofs.Adding.{made-map}

pub draft-prints : {X Y : Type 0} (K : KindModel) (k : KindLetter) (d : DraftModel) (ok : sign_fault d.signs ≡ None) (back last : Left Colouring) (room : ℕ)
    → length back.entries ≡ room → length last.entries ≡ room → (answer : Result (Unit {0}) PressFault) → DraftEnded K d ok back last answer
    → (items : X → List ℕ) (P : X → Type 0) (r : Result X Y) → ((x : X) → P x → AnswerPrints K k d ok back last room answer (items x)) → IfOk r P
    → IfOk r (λ x. DraftPrints K k d room (items x))
draft-prints K k d ok back last room columns chart answer ended items P r prints h =
    made-map P (λ x. DraftPrints K k d room (items x)) r
    (λ x p. record {
      acceptable = ok;
      back = back;
      last = last;
      columns = columns;
      chart = chart;
      answer = answer;
      ended = ended;
      prints = prints x p;
    })
    h

-- a draft that is read of a text is made by calls
pub read_made : (text : List ℕ) (k : KindLetter) (d : DraftModel) → read_text text ≡ Ok (k, d) → Made (kind_of k) d
read_made text k d e =
    let s = read_spells text k d e in
    let signs : d.signs ≡ s.signs = ap (λ (x : DraftModel). x.signs) s.drawn ∙ (call_laws_lem (kind_of k)).signs (fresh s.signs) s.calls in
    (s.calls, ap (λ (x : List ℕ). after_all (kind_of k) (fresh x) s.calls) signs ∙ sym s.drawn)
