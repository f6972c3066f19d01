use Rattle.std.proofs.Common.{◌∙◌, sym}
use Rattle.finds.specs.Finds.{queue_of}
use Rattle.life.specs.Lists.{is_in}
use Rattle.resolve.specs.Walks.{known_to}
use Rattle.entries.proofs.Answered.{found_in, passed_on}
use Rattle.entries.proofs.asking.is_answered.Goals as goal

pub returns-else-knows : goal.returns-else-knows
returns-else-knows c =
    let o = c.args.oid.0 in
    let queue = queue_of c.args.finds.now in
    passed_on (known_to c.args.book.now o) (is_in o queue) c.is_some.result (sym c.knows.ensures ∙ c.if-knows.false)
    (c.is_some.ensures ∙ found_in queue o c.place_of.result c.place_of.ensures)
