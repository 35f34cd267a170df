-- The numbers by which refusals of a text are known.
use Rattle.std.specs.Prelude.{ℕ}
use Rattle.fields.specs.Numbers.{fault_number}
use Rattle.automata.specs.Signs.{sign_fault_number}
use Rattle.drafts.specs.Calls.{call_fault_number}
use Rattle.texts.specs.declared.faults.Refusal.{Refusal}
use Rattle.texts.specs.declared.faults.FieldFault.{FieldFault}
use Rattle.texts.specs.declared.faults.FieldFault.TheVariants.{Number, NotListed}
use Rattle.texts.specs.declared.faults.LineFault.{LineFault}
use Rattle.texts.specs.declared.faults.LineFault.TheVariants.{Record, FieldCount, Field, Open, Call}
use Rattle.texts.specs.declared.faults.TextFault.{TextFault}
use Rattle.texts.specs.declared.faults.TextFault.TheVariants.{TooLong, NoEnd, Line}

-- the cause of a field that is not well formed
abbrev pub inner_of : FieldFault → ℕ
inner_of (Number f) = fault_number f
inner_of NotListed = 5

-- Number, line, field and inner number; 0 where none applies.
abbrev pub told : ℕ → ℕ → ℕ → ℕ → Refusal
told number line field inner = record { number = number; line = line; field = field; inner = inner }

abbrev pub told_of_line : ℕ → LineFault → Refusal
told_of_line n Record = told 22 n 1 0
told_of_line n FieldCount = told 23 n 0 0
told_of_line n (Field k f) = told 24 n k (inner_of f)
told_of_line n (Open f) = told 25 n 0 (sign_fault_number f)
told_of_line n (Call f) = told 25 n 0 (call_fault_number f)

abbrev pub refusal_of : TextFault → Refusal
refusal_of TooLong = told 20 0 0 0
refusal_of NoEnd = told 21 0 0 0
refusal_of (Line n f) = told_of_line n f
