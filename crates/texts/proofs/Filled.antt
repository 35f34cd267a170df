-- A text written into just as many bytes as it has fills them.
use Rattle.std.proofs.Common.{◌≡◌, ℕ, List, ◌++◌, length, take, drop, Ok, Err, Result, sym, ap, ◌∙◌, arith}
use Rattle.std.proofs.lemmas.List.{take_at, drop_all, append-nil}
use Rattle.fields.specs.declared.written.WriteFault.{WriteFault}
use Rattle.fields.specs.Written.{Wrote}

whole : (t before after : List ℕ) (n : ℕ) (r : Result ℕ WriteFault) → n ≡ length t → length before ≡ n → Wrote t before after r → after ≡ t
whole t before after n (Ok m) e l w =
    w.2 ∙ (ap (λ (xs : List ℕ). t ++ xs) (drop_all (length t) before (omega arith)) ∙ append-nil t)
whole t before after n (Err f) e l w = absurd (omega (arith, w.0))

pub filled : (t before after items : List ℕ) (n : ℕ) (r : Result ℕ WriteFault) → n ≡ length t → length before ≡ n → Wrote t before after r
    → take n (after ++ drop (length after) items) ≡ t
filled t before after items n r e l w =
    let f = whole t before after n r e l w in
    take_at after (drop (length after) items) n (ap length f ∙ sym e) ∙ f
