use Rattle.std.proofs.Common.{◌≡◌, ℕ, ◌≤◌, List, [], ◌∷◌, length, get_or, drop, ap, add_comm, arith, rules}
use Rattle.std.proofs.lemmas.Slice.{between_to_end}
use Rattle.texts.proofs.records.split_record.Goals as goal

shape : (xs : List ℕ) → 2 ≤ length xs → get_or xs 1 0 ≡ 9 → xs ≡ get_or xs 0 0 ∷ 9 ∷ drop 2 xs
shape [] h e = absurd (omega arith)
shape (a ∷ []) h e = absurd (omega arith)
shape (a ∷ b ∷ r) h e = ap (λ (x : ℕ). a ∷ x ∷ r) e

pub returns-in-9 : goal.returns-in-9
returns-in-9 c =
    let two : 2 ≤ length c.args.line.now = search rules in
    let nine : get_or c.args.line.now 1 0 ≡ 9 = search rules in
    let e = between_to_end c.args.line.now 2 (length c.args.line.now) (omega arith) in
    (rw e (shape c.args.line.now two nine), ap (λ (o : ℕ). (c.args.line.ref_ptr.0, o)) (add_comm 2 c.args.line.ref_ptr.1))
