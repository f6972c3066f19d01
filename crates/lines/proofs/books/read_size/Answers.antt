use Rattle.std.proofs.Common.{rules}
use Rattle.lines.proofs.Spans.{no_equals, at_equals}
use Rattle.lines.proofs.books.read_size.Goals as goal

pub returns-in_err-key : goal.returns-in_err-key
returns-in_err-key c = search (rules, no_equals)

pub returns-in_err-read_table : goal.returns-in_err-read_table
returns-in_err-read_table c = let cut = c.in_ok-key.ensures.parts in rw (at_equals c.args.word.now _ _ cut.0 cut.1) (search rules)
