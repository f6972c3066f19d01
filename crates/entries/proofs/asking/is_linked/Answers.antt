use Rattle.std.proofs.Common.{◌∙◌, ◌||◌, is_some, not, sym}
use Rattle.book.specs.Book.{held_of}
use Rattle.book.specs.Held.{book_held}
use Rattle.life.specs.Lists.{is_in}
use Rattle.resolve.specs.Walks.{known_to}
use Rattle.entries.specs.Notes.{apart_of}
use Rattle.entries.proofs.Answered.{noted_in, passed_on}
use Rattle.entries.proofs.asking.is_linked.Goals as goal

pub returns-else-is_spared : goal.returns-else-is_spared
returns-else-is_spared c =
    let e = c.args.element.0 in
    let n = c.args.notes.now in
    passed_on (not (known_to c.args.book.now e) || is_some ((book_held (held_of c.args.book.now)).arrays e)) (is_in e (apart_of n)) c.is_some.result
    (sym c.is_spared.ensures ∙ c.if-is_spared.false)
    (c.is_some.ensures ∙ noted_in n e c.array_apart.result c.array_apart.ensures)
