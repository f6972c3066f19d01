use Rattle.std.proofs.Common.{rules}
use Rattle.lines.proofs.Spans.{no_plus, at_plus}
use Rattle.lines.proofs.host.read_span.Goals as goal

pub returns-in_err-start : goal.returns-in_err-start
returns-in_err-start c = search (rules, no_plus)

pub returns-in_err-unsigned : goal.returns-in_err-unsigned
returns-in_err-unsigned c = let cut = c.in_ok-start.ensures.parts in rw (at_plus c.args.written.now _ _ cut.0 cut.1) (search rules)

pub returns-in_err-unsigned-2 : goal.returns-in_err-unsigned-2
returns-in_err-unsigned-2 c = let cut = c.in_ok-start.ensures.parts in rw (at_plus c.args.written.now _ _ cut.0 cut.1) (search rules)

pub returns : goal.returns
returns c = let cut = c.in_ok-start.ensures.parts in rw (at_plus c.args.written.now _ _ cut.0 cut.1) (search rules)
