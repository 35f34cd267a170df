-- What a chain over the numbers below a bound makes of those that pass a test: filtered, mapped and folded.
use Rattle.std.proofs.Common.{◌≡◌, ℕ, ◌+◌, List, Bool, true, false, cond, [], ◌∷◌, ◌++◌, map, sym, refl, ap, ◌∙◌, zero-add, arith}
use mathlib.Core.List.{map-append, map-id}
use Rattle.std.specs.List.{fold, filter, range_with_len}
use Rattle.std.specs.Iterator.Runs.{Run}
use Rattle.std.proofs.iter.Yields.{nat_range_steps}
use Rattle.std.proofs.iter.runs.Made.{took}
use Rattle.std.proofs.lemmas.Iterator.{YieldsList-from_range, items_from_drains}
use Rattle.std.proofs.lemmas.List.Elements.{filter-append}
use Rattle.std.proofs.lemmas.List.FromFn.{map-range_with_len_more}
use Rattle.std.proofs.lemmas.List.Sums.{fold-append}

-- the items of a run over the numbers below n that went on to its end
pub range_items : (p : Run nat_range_steps) (n : ℕ) → p.whole ≡ true → p.from ≡ record { start = 0; end = n } → p.items ≡ range_with_len 0 n
range_items p n w e =
    sym (map-id p.items)
    ∙ items_from_drains p.items ((took p).0, (took p).1, λ _. (took p).2 w) (YieldsList-from_range 0 n n e (omega arith))

range-more : (n : ℕ) → range_with_len 0 (n + 1) ≡ range_with_len 0 n ++ n ∷ []
range-more n = sym (map-id _) ∙ map-range_with_len_more (λ x. x) 0 n n (zero-add n) ∙ ap (λ l. l ++ n ∷ []) (map-id _)

module _ {A : Type 0} (op : A → A → A) (none : A) (s : ℕ → Bool) (f : ℕ → A) where
  abbrev pub chain : ℕ → A
  chain n = fold op none (map f (filter s (range_with_len 0 n)))

  last : (x : A) (n : ℕ) (b : Bool) → fold op x (map f (cond b (n ∷ []) [])) ≡ cond b (op x (f n)) x
  last x n true = refl
  last x n false = refl

  -- one number more
  pub chain-more : (n : ℕ) → chain (n + 1) ≡ cond (s n) (op (chain n) (f n)) (chain n)
  chain-more n =
      ap (λ l. fold op none (map f (filter s l))) (range-more n)
      ∙ ap (λ l. fold op none (map f l)) (filter-append s (range_with_len 0 n) (n ∷ []))
      ∙ ap (fold op none) (map-append f (filter s (range_with_len 0 n)) (filter s (n ∷ [])))
      ∙ fold-append op none (map f (filter s (range_with_len 0 n))) (map f (filter s (n ∷ [])))
      ∙ last (chain n) n (s n)

  led : (x : A) (p : ℕ) (l : List ℕ) (b : Bool) → fold op (cond b (op x (f p)) x) (map f (filter s l)) ≡ fold op x (map f (cond b (p ∷ filter s l) (filter s l)))
  led x p l true = refl
  led x p l false = refl

  -- a fold that tests each number itself makes the same
  pub chain_in_one : (x : A) (l : List ℕ) → fold (λ y p. cond (s p) (op y (f p)) y) x l ≡ fold op x (map f (filter s l))
  chain_in_one x [] = refl
  chain_in_one x (p ∷ l) = chain_in_one (cond (s p) (op x (f p)) x) l ∙ led x p l (s p)
