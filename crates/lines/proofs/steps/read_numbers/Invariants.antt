use Rattle.std.proofs.Common.{◌≡◌, length, vec_items}
use Rattle.lines.proofs.Lists.{with_numbers}
use Rattle.lines.specs.Steps.{numbers_first}
use Rattle.script.specs.Words.{words}
use Rattle.lines.proofs.steps.read_numbers.Given as goal

-- the first numbers are those that are read and those to come
abbrev pub invariant-loop-word : goal.invariant-loop-word
invariant-loop-word l = numbers_first (words l.line) ≡ with_numbers (vec_items l.numbers) (numbers_first (words l.rest))

abbrev pub decreases-loop-word : goal.decreases-loop-word
decreases-loop-word l = length l.rest
