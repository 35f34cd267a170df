use Rattle.std.proofs.Common.{rules}
use Rattle.fields.proofs.Numerals.{answer-reads}
use Rattle.fields.proofs.numbers.read_number.Goals as goal

pub returns-then-is_empty-clause-decimal : goal.returns-then-is_empty-clause-decimal
returns-then-is_empty-clause-decimal c = answer-reads c.args.field.now _ (search rules)

pub returns-then-not-only_digits-clause-decimal : goal.returns-then-not-only_digits-clause-decimal
returns-then-not-only_digits-clause-decimal c = answer-reads c.args.field.now _ (search rules)

pub returns-in-48-clause-decimal : goal.returns-in-48-clause-decimal
returns-in-48-clause-decimal c = answer-reads c.args.field.now _ (search rules)

pub returns-clause-decimal : goal.returns-clause-decimal
returns-clause-decimal c = answer-reads c.args.field.now _ (search rules)
