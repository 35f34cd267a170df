-- The laws of joining any codes, admitted or not.
use Rattle.std.specs.Prelude.{◌≡◌, ℕ, true, List, [], ◌∷◌, ◌++◌}
use Rattle.kinds.specs.Kinds.{KindModel, clean, join, join_all}

pub record JoinLaws (K : KindModel) : Type 0 where
  -- whatever is joined, the result is admitted
  pub clean_admitted : (a : ℕ) → K.admits (clean K a) ≡ true
  pub join_admitted : (a b : ℕ) → K.admits (join K a b) ≡ true
  pub join_all_admitted : (cs : List ℕ) → K.admits (join_all K cs) ≡ true
  pub clean_idem : (a : ℕ) → clean K (clean K a) ≡ clean K a
  pub comm : (a b : ℕ) → join K a b ≡ join K b a
  pub assoc : (a b c : ℕ) → join K (join K a b) c ≡ join K a (join K b c)
  pub idem : (a : ℕ) → join K a a ≡ clean K a
  pub unit_left : (a : ℕ) → join K K.none a ≡ clean K a
  pub unit_right : (a : ℕ) → join K a K.none ≡ clean K a
  -- a list of codes may be joined in parts
  pub single : (c : ℕ) → join_all K (c ∷ []) ≡ clean K c
  pub append : (cs ds : List ℕ) → join_all K (cs ++ ds) ≡ join K (join_all K cs) (join_all K ds)
