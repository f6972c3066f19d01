use Rattle.book.specs.Book.{held_of}
use Rattle.book.specs.Held.{book_held}
use Rattle.entries.proofs.Answered.{link_noted, link_read}
use Rattle.entries.proofs.asking.link_of.Goals as goal

pub returns-in-Some-array_apart : goal.returns-in-Some-array_apart
returns-in-Some-array_apart c = λ k all stands linked.
    link_noted k (book_held (held_of c.args.book.now)) c.args.finds.now c.args.notes.now all c.args.element.0 c.in_default.ensures
    c.in-Some-array_apart.array c.in-Some-array_apart.ensures

pub returns-in-None : goal.returns-in-None
returns-in-None c = λ k all stands linked.
    link_read k (book_held (held_of c.args.book.now)) c.args.finds.now c.args.notes.now all c.args.element.0 c.in_default.ensures
    c.array_read.result c.array_read.ensures c.in-None.ensures stands linked
