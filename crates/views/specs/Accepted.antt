-- The signs of every list of signs are acceptable.
use Rattle.std.specs.Prelude.{◌≡◌, ℕ, ◌<◌, length, None, slice_index}
use Rattle.std.proofs.Common.{sym, ◌∙◌, arith}
use Rattle.std.proofs.lemmas.List.{get_or-take}
use Rattle.automata.specs.declared.signs.Signs.{Signs}
use Rattle.automata.specs.Signs.{sign_fault}
use Rattle.automata.specs.Shown.{sign_bytes}
use Rattle.automata.proofs.ShownLaws.{sign_count}
use Rattle.automata.proofs.SignLaws.{fault-none}

module _ (s : Signs) where
  sign_at : (k : ℕ) → k < length (sign_bytes s) → slice_index (sign_bytes s) k ≡ slice_index s.bytes k
  sign_at k l = get_or-take s.count s.bytes k 0 (omega (arith, sign_count s))

  pub accepted : sign_fault (sign_bytes s) ≡ None
  accepted =
      fault-none (sign_bytes s) (omega (arith, sign_count s, s.some)) (omega (arith, sign_count s, s.few))
      (λ k l. rw (sign_at k l) (s.visible k (omega (arith, sign_count s))))
      (λ k l j lj e. s.apart k (omega (arith, sign_count s)) j lj (sym (sign_at j (omega arith)) ∙ e ∙ sign_at k l))
