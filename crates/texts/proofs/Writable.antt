-- The canonical calls of a draft have lines.
use Rattle.std.proofs.Common.{◌≡◌, ℕ, zero, suc, ◌<◌, ◌≤◌, Bool, true, false, cond, ◌⊎◌, List, [], ◌∷◌, ◌++◌, map, get_or, inl, inr, arith}
use Rattle.std.proofs.lemmas.Bool.{ltb-true, cases_lt}
use Rattle.std.proofs.lemmas.List.{get_or_past}
use Rattle.drafts.specs.declared.calls.Call.{Call}
use Rattle.drafts.specs.declared.calls.Call.TheVariants.{Grow, Enter}
use Rattle.automata.specs.Drafts.{DraftModel, size, letters}
use Rattle.drafts.specs.Canonical.{Proper, each_below, grow_calls, enter_calls, link_calls, redrawn}
use Rattle.drafts.specs.Calls.{link}
use Rattle.texts.specs.declared.letters.KindLetter.{KindLetter}
use Rattle.texts.specs.declared.letters.KindLetter.TheVariants.{Y, R, M}
use Rattle.texts.specs.Grammar.{kind_of, AllHaveLines}

all_lines_append : (signs : List ℕ) (cs ds : List Call) → AllHaveLines signs cs → AllHaveLines signs ds → AllHaveLines signs (cs ++ ds)
all_lines_append signs [] ds h k = k
all_lines_append signs (c ∷ cs) ds h k = (h.0, all_lines_append signs cs ds h.1 k)

all_lines_below : (signs : List ℕ) (n : ℕ) (f : ℕ → List Call) → ((i : ℕ) → i < n → AllHaveLines signs (f i)) → AllHaveLines signs (each_below n f)
all_lines_below signs zero f each = tt
all_lines_below signs (suc n) f each =
    all_lines_append signs (each_below n f) (f n) (all_lines_below signs n f (λ i l. each i (omega arith))) (each n (omega arith))

all_lines_if : (signs : List ℕ) (b : Bool) (cs : List Call) → AllHaveLines signs cs → AllHaveLines signs (cond b cs [])
all_lines_if signs true cs h = h
all_lines_if signs false cs h = tt

grow_lines : (signs vs : List ℕ) → ((i : ℕ) → get_or vs i 0 < 256) → AllHaveLines signs (map Grow vs)
grow_lines signs [] h = tt
grow_lines signs (v ∷ vs) h = (h 0, grow_lines signs vs (λ i. h (suc i)))

-- the canonical calls of a small draft have lines
pub redrawn-lines : (d : DraftModel) → size d ≤ 32 → ((i : ℕ) → get_or d.values i 0 < 256) → AllHaveLines d.signs (redrawn d)
redrawn-lines d few small =
    all_lines_append d.signs (grow_calls d) (enter_calls d ++ link_calls d) (grow_lines d.signs d.values small)
    (all_lines_append d.signs (enter_calls d) (link_calls d)
    (all_lines_below d.signs (size d) _ (λ p l. all_lines_if d.signs (d.entry p) (Enter p ∷ []) (omega arith, tt)))
    (all_lines_below d.signs (size d) _ (λ p lp. all_lines_below d.signs (letters d) _ (λ a la. all_lines_below d.signs (size d) _
    (λ q lq. all_lines_if d.signs (d.arrow p a q) (link p a q ∷ []) ((omega arith, la, omega arith), tt))))))

-- every value of a proper draft of a delivered kind is a byte
pub value_small : (k : KindLetter) (d : DraftModel) → Proper (kind_of k) d → (i : ℕ) → get_or d.values i 0 < 256
value_small k d h i = go (cases_lt i (size d))
  where
    byte : (k : KindLetter) (v : ℕ) → (kind_of k).admits v ≡ true → v < 256
    byte Y v a = omega (arith, ltb-true v 2 a)
    byte R v a = ltb-true v 256 a
    byte M v a = ltb-true v 256 a

    go : (i < size d) ⊎ (size d ≤ i) → get_or d.values i 0 < 256
    go (inl l) = byte k (get_or d.values i 0) (h.admitted i l)
    go (inr l) = omega (arith, get_or_past d.values i 0 l)
