-- Words, where they lead in a draft, and the value that a draft gives to each.
use Rattle.std.specs.Prelude.{◌≡◌, ℕ, zero, suc, ◌<◌, Bool, true, false, cond, ◌&&◌, ◌||◌, List, [], ◌∷◌, nat_eq, slice_index_or}
use Rattle.kinds.specs.Kinds.{KindModel, join_all}
use Rattle.automata.specs.Tests.{some}
use Rattle.automata.specs.Drafts.{DraftModel, size}

-- A word is a list of letters. Each letter of the word is below n:
abbrev pub Over : ℕ → List ℕ → Type 0
Over n [] = Unit {0}
Over n (a ∷ w) = (a < n) × Over n w

-- the first m values of f
abbrev pub tabulate : {A : Type 0} → ℕ → (ℕ → A) → List A
tabulate zero f = []
tabulate (suc m) f = f 0 ∷ tabulate m (λ i. f (suc i))

-- where a word leads from s
abbrev pub run : {S : Type 0} → (S → ℕ → S) → S → List ℕ → S
run step s [] = s
run step s (a ∷ w) = run step (step s a) w

-- A set of states is a list with a Bool for each state.
abbrev pub member : List Bool → ℕ → Bool
member s q = slice_index_or s q false

abbrev pub union : List Bool → List Bool → List Bool
union [] t = t
union (x ∷ s) [] = x ∷ s
union (x ∷ s) (y ∷ t) = (x || y) ∷ union s t

-- the set of the one state q
abbrev pub only : DraftModel → ℕ → List Bool
only d q = tabulate (size d) (λ p. nat_eq p q)

abbrev pub entries : DraftModel → List Bool
entries d = tabulate (size d) d.entry

-- the states to which an arrow of the letter a leads from a state of s
abbrev pub onward : DraftModel → List Bool → ℕ → List Bool
onward d s a = tabulate (size d) (λ q. some (size d) (λ p. member s p && d.arrow p a q))

abbrev pub reach_from : DraftModel → List Bool → List ℕ → List Bool
reach_from d s w = run (onward d) s w

abbrev pub reach : DraftModel → List ℕ → List Bool
reach d w = reach_from d (entries d) w

-- a path of arrows that spells w from p to q through states of the draft
abbrev pub Path : DraftModel → ℕ → List ℕ → ℕ → Type 0
Path d p [] q = p ≡ q
Path d p (a ∷ w) q = (r : ℕ) × (r < size d) × (d.arrow p a r ≡ true) × Path d r w q

-- the join of the codes c of the states in s
abbrev pub weigh : KindModel → DraftModel → List Bool → List ℕ → ℕ
weigh K d s c = join_all K (tabulate (size d) (λ p. cond (member s p) (slice_index_or c p K.none) K.none))

-- the value of a word: the join of the values of all states that it reaches
abbrev pub value : KindModel → DraftModel → List ℕ → ℕ
value K d w = weigh K d (reach d w) d.values

-- the value of a word where q is the only entry
abbrev pub value_from : KindModel → DraftModel → ℕ → List ℕ → ℕ
value_from K d q w = weigh K d (reach_from d (only d q) w) d.values
