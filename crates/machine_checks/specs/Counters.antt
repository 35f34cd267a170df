-- A machine that counts letters up to a limit: it reaches one state more than the limit.
use Rattle.std.specs.Prelude.{ℕ, ◌+◌, ◌%◌, cond, ◌&&◌, length, nat_lt}
use Rattle.std.proofs.Common.{arith}
use Rattle.std.proofs.lemmas.Bool.{cond-false, lt-ltb, le-ltb, and_left}
use Rattle.kinds.specs.Delivered.{y_model}
use Rattle.automata.specs.declared.signs.Signs.{Signs}
use Rattle.automata.specs.Shown.{sign_bytes}
use Rattle.machines.specs.Models.{MachineModel}
use Rattle.views.specs.Accepted.{accepted}

abbrev pub counter : Signs → ℕ → MachineModel ℕ
counter signs limit = record {
  kind = y_model;
  signs = sign_bytes signs;
  start = 0;
  step = λ s a. cond (nat_lt a (length (sign_bytes signs)) && nat_lt s limit) (s + 1) s;
  value = λ s. s % 2;
  acceptable = accepted signs;
  idle = λ s a l. cond-false _ (s + 1) s (and_left _ (nat_lt s limit) (le-ltb a (length (sign_bytes signs)) l));
  admitted = λ s. lt-ltb (s % 2) 2 (omega arith);
}
