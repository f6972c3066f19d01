use Rattle.std.proofs.Common.{◌≡◌, length}
use Rattle.lines.specs.Books.{nothing_asked, sizes_read}
use Rattle.script.specs.Words.{words}
use Rattle.lines.proofs.books.read_sizes.Given as goal

-- what the line asks for is what is asked so far with what the rest asks for
abbrev pub invariant-loop-word : goal.invariant-loop-word
invariant-loop-word l = (length l.sizes ≡ 7) × (sizes_read nothing_asked (words l.line) ≡ sizes_read l.sizes (words l.rest))

abbrev pub decreases-loop-word : goal.decreases-loop-word
decreases-loop-word l = length l.rest
