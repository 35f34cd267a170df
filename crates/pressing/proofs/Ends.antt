-- What the builds of a press come to together.
use Rattle.std.proofs.Common.{◌≡◌, ℕ, length, None, Ok, Err, Result, sym, subst}
use Rattle.kinds.specs.Kinds.{KindModel}
use Rattle.automata.specs.Signs.{sign_fault}
use Rattle.automata.specs.Drafts.{DraftModel}
use Rattle.automata.specs.Shown.{sign_bytes}
use Rattle.machines.specs.Models.{MachineModel}
use Rattle.tables.specs.Builds.{Refused}
use Rattle.tables.proofs.Filled.{left_wiped, wiped_of}
use Rattle.views.specs.declared.colouring.Colouring.{Colouring}
use Rattle.views.specs.Colourings.{plain}
use Rattle.views.specs.ViewLaws.{DraftViewLaws}
use Rattle.pressing.specs.declared.faults.PressFault.{PressFault}
use Rattle.pressing.specs.declared.faults.PressFault.TheVariants.{First, Backward, Last}
use Rattle.pressing.specs.Pressed.{Left, Holds, Empty, TooMany, reading, TwiceLeft, TwiceFails, DraftEnded, MachinePressed, MachineFails, DraftSays}
use Rattle.pressing.proofs.Left.{draft-says}

-- a machine of the kind K, whose table is built
module _ {S : Type 0} (m : MachineModel S) (K : KindModel) (k : m.kind ≡ K) (d : S) (back : Left S) (b : Holds m d back) where
  pub last_fails : (room : ℕ) (last : Left Colouring) → length back.entries ≡ room → Refused (reading K back.table) (plain 0) last.table last.entries last.len
      → TwiceFails m d room (length last.entries) Last × Empty m.signs m.kind.none (plain 0) last
  last_fails room last l r = (
    (back, b, l, subst (λ K. TooMany (reading K back.table) (length last.entries)) (sym k) r.many),
    wiped_of m K (sign_bytes back.table.signs) (plain 0) last.table last.entries last.len b.signs k (left_wiped _ _ _ _ _ r),
  )

-- a press of a draft, accepted or refused
pub draft-ends : {U : Type 0} (K : KindModel) (d : DraftModel) (ok : sign_fault d.signs ≡ None) → DraftViewLaws K d ok → (back last : Left Colouring) (r : Result U PressFault)
    → DraftEnded K d ok back last r → DraftSays K d last.table r
draft-ends K d ok laws back last (Ok u) p = draft-says laws p
draft-ends K d ok laws back last (Err e) p = tt

-- a press of a machine whose table is built
module _ {S : Type 0} (m : MachineModel S) (K : KindModel) (k : m.kind ≡ K) (d : S) (first : Left S) (b : Holds m d first) (back last : Left Colouring) where
  fails : (f : PressFault) (room : ℕ) → length first.entries ≡ room → TwiceFails (reading K first.table) (plain 0) (length back.entries) (length last.entries) f
      → MachineFails m d room (length back.entries) (length last.entries) f
  fails First room l h = absurd h
  fails Backward room l h =
      (first, b, l, subst (λ K. TwiceFails (reading K first.table) (plain 0) (length back.entries) (length last.entries) Backward) (sym k) h)
  fails Last room l h = (first, b, l, subst (λ K. TwiceFails (reading K first.table) (plain 0) (length back.entries) (length last.entries) Last) (sym k) h)

  emptied : (x : Left Colouring) → Empty (sign_bytes first.table.signs) K.none (plain 0) x → Empty m.signs m.kind.none (plain 0) x
  emptied x h = wiped_of m K (sign_bytes first.table.signs) (plain 0) x.table x.entries x.len b.signs k h

  pub machine_fails : (f : PressFault) (left : Left S) → length first.entries ≡ length left.entries
      → TwiceFails (reading K first.table) (plain 0) (length back.entries) (length last.entries) f
      → Empty m.signs m.kind.none d left → Empty (sign_bytes first.table.signs) K.none (plain 0) back → Empty (sign_bytes first.table.signs) K.none (plain 0) last
      → MachineFails m d (length left.entries) (length back.entries) (length last.entries) f
      × Empty m.signs m.kind.none d left × Empty m.signs m.kind.none (plain 0) back × Empty m.signs m.kind.none (plain 0) last
  machine_fails f left l h e e' e'' = (fails f (length left.entries) l h, e, emptied back e', emptied last e'')

  pub pressed : TwiceLeft (reading K first.table) (plain 0) back last → MachinePressed m d first back last
  pressed h = record { built = b; twice = subst (λ K. TwiceLeft (reading K first.table) (plain 0) back last) (sym k) h }
