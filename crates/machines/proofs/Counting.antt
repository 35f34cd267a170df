-- The count of a built table is the number of states that words reach.
use Rattle.std.proofs.Common.{ℕ, ◌≤◌, List, length, subst, arith}
use Rattle.machines.specs.Models.{MachineModel, Covers, Spread}
use Rattle.machines.specs.Tables.{TableModel, count}
use Rattle.machines.specs.Built.{Built}
use Rattle.machines.proofs.Spreads.{spread_from, covers_spread}

module _ {S : Type 0} {m : MachineModel S} {t : TableModel} {xs : List S} (b : Built m t xs) where
  pub built-spread : Spread m (count t)
  built-spread = subst (Spread m) b.states
      (spread_from m xs (λ i h. let w = b.reached i (rw b.states at h) in (w.0, w.1.0, w.1.1)) (λ i j h k. b.apart i j (rw b.states at h) (rw b.states at k)))

  built-covers : Covers m xs
  built-covers w o = let r = b.all w o in (r.0, rw b.states r.1, r.2)

  pub built-most : (c : ℕ) → Spread m c → c ≤ count t
  built-most c s = omega (arith, covers_spread s xs built-covers, b.states)

  pub built-fewest : (ys : List S) → Covers m ys → count t ≤ length ys
  built-fewest ys all = covers_spread built-spread ys all
