-- A kind of value: a join-semilattice with a least element on some of the byte codes.
use Rattle.std.specs.Prelude.{◌≡◌, ℕ, Bool, true, cond, List, [], ◌∷◌}

-- Which codes a kind admits, how it joins two of them, and its none, the value of nothing.
-- The laws speak of admitted codes only.
pub record KindModel : Type 0 where
  pub admits : ℕ → Bool
  pub op : ℕ → ℕ → ℕ
  pub none : ℕ
  -- the one place that says which code none is
  pub none_is : none ≡ 0
  pub none_admitted : admits none ≡ true
  pub closed : (a b : ℕ) → admits a ≡ true → admits b ≡ true → admits (op a b) ≡ true
  pub unit : (a : ℕ) → admits a ≡ true → op none a ≡ a
  pub assoc : (a b c : ℕ) → admits a ≡ true → admits b ≡ true → admits c ≡ true → op (op a b) c ≡ op a (op b c)
  pub comm : (a b : ℕ) → admits a ≡ true → admits b ≡ true → op a b ≡ op b a
  pub idem : (a : ℕ) → admits a ≡ true → op a a ≡ a

-- A code that is not admitted counts as none.
abbrev pub clean : KindModel → ℕ → ℕ
clean K a = cond (K.admits a) a K.none

abbrev pub join : KindModel → ℕ → ℕ → ℕ
join K a b = K.op (clean K a) (clean K b)

-- the join of any number of codes: none where there is no code
abbrev pub join_all : KindModel → List ℕ → ℕ
join_all K [] = K.none
join_all K (c ∷ cs) = join K c (join_all K cs)
