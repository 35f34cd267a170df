-- The three kinds that are delivered, each fixed by the codes it admits and by its join.
use Rattle.std.specs.Prelude.{◌≡◌, ℕ, ◌<◌, max, true, bit_or, nat_lt, refl}
use Rattle.std.proofs.Common.{arith}
use Rattle.std.proofs.lemmas.Nat.{or_comm, or_lt}
use Rattle.std.specs.Int.Bits.{or_self}
use Rattle.std.proofs.lemmas.Bool.{ltb-true, lt-ltb}
use Rattle.kinds.specs.Ors.{or_assoc}
use Rattle.kinds.specs.Kinds.{KindModel}

-- the larger of two codes stays below what both stay below
pub max_below : (n a b : ℕ) → nat_lt a n ≡ true → nat_lt b n ≡ true → nat_lt (max a b) n ≡ true
max_below n a b h k = let p : a < n = ltb-true a n h in let q : b < n = ltb-true b n k in lt-ltb (max a b) n (omega arith)

-- the codes below n, joined to the larger
abbrev pub largest : (n : ℕ) → nat_lt 0 n ≡ true → KindModel
largest n some = record {
  admits = λ a. nat_lt a n;
  op = max;
  none = 0;
  none_is = refl;
  none_admitted = some;
  closed = max_below n;
  unit = λ a h. omega arith;
  assoc = λ a b c h k i. omega arith;
  comm = λ a b h k. omega arith;
  idem = λ a h. omega arith;
}

-- Y admits 0 and 1 and joins to the larger.
abbrev pub y_model : KindModel
y_model = largest 2 refl

-- R admits 0 to 255 and joins to the larger.
abbrev pub r_model : KindModel
r_model = largest 256 refl

-- M admits 0 to 255 and sets each bit that either code has.
abbrev pub m_model : KindModel
m_model = record {
  admits = λ a. nat_lt a 256;
  op = bit_or;
  none = 0;
  none_is = refl;
  none_admitted = refl;
  closed = λ a b h k. lt-ltb (bit_or a b) 256 (or_lt 8 a b (ltb-true a 256 h) (ltb-true b 256 k));
  unit = λ a h. refl;
  assoc = λ a b c h k i. or_assoc a b c;
  comm = λ a b h k. or_comm a b;
  idem = λ a h. or_self a;
}
