-- Texts put into a slice of bytes one after another.
use Rattle.std.specs.Prelude.{◌≡◌, ℕ, ◌+◌, ◌-◌, ◌^◌, ◌≤◌, min, List, length, take}
use Rattle.std.proofs.Math.Seq.{paste}
use Rattle.fields.specs.declared.writing.Writer.{Writer}

-- a place, or the largest place that a `usize` holds
abbrev pub capped : ℕ → ℕ
capped n = min n (2 ^ 64 - 1)

-- The text t put into a writer, `before`, behind what was put so far, leaves it `after`.
pub record Puts (before after : Writer) (t : List ℕ) : Type 0 where
  -- it is the same slice
  pub loan : after.out.ghost_name ≡ before.out.ghost_name
  pub place : after.len ≡ capped (before.len + length t)
  -- where there is room, t stands behind what was put before, and all else is as it was
  pub fits : before.len + length t ≤ length before.out.now → after.out.now ≡ paste before.out.now before.len t (length t)
  pub size : length after.out.now ≡ length before.out.now

-- The text t put into a writer, `before`, as much of it as there is room for, leaves it `after`.
pub record PutsCut (before after : Writer) (t : List ℕ) : Type 0 where
  -- it is the same slice
  pub loan : after.out.ghost_name ≡ before.out.ghost_name
  pub place : after.len ≡ capped (before.len + length t)
  -- t stands behind what was put before, cut at the end of the slice, and all else is as it was; from a place past the end on, nothing is written
  pub bytes : after.out.now ≡ take (length before.out.now) (paste before.out.now before.len t (length t))
