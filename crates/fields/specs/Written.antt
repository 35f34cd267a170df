-- What writing a text leaves in a slice.
use Rattle.std.specs.Prelude.{◌≡◌, ℕ, ◌<◌, ◌≤◌, List, ◌++◌, length, drop, Ok, Err, Result}
use Rattle.fields.specs.declared.written.WriteFault.{WriteFault}
use Rattle.fields.specs.declared.written.WriteFault.TheVariants.{NoRoom}

-- the number of the fault
abbrev pub write_fault_number : WriteFault → ℕ
write_fault_number NoRoom = 26

-- The text t written to the front of what a slice holds, `before`: its length, with all behind it as it was,
-- or a fault just where the slice is too short, with the slice as it was.
abbrev pub Wrote : List ℕ → List ℕ → List ℕ → Result ℕ WriteFault → Type 0
Wrote t before after (Ok n) = (n ≡ length t) × (length t ≤ length before) × (after ≡ t ++ drop (length t) before)
Wrote t before after (Err e) = (length before < length t) × (after ≡ before)
