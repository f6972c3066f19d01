use Rattle.std.proofs.Common.{map, None}
use Rattle.catalog.specs.Meaning.{text_of}
use Rattle.book.specs.Adding.{label_members}
use Rattle.book.specs.Book.{held_of}
use Rattle.book.proofs.Members.{next_fits, next_laid, next_member}
use Rattle.book.proofs.tables.Book.push_labels.Goals as goal

pub push_part-requires : goal.push_part-requires
push_part-requires c =
    let items = c.as_slice-label-items.result.now in
    next_fits (held_of c.args.self.now) (held_of c.loop-label.self) (label_members (map text_of items)) c.loop-label.label-index (record { called = c.get.result.now; typed = None })
    c.loop-label.invariant
    (rw c.get.ensures (next_member (λ n. record { called = n; typed = None }) text_of items c.loop-label.label-index c.label-item.result c.label-item.is c.loop-label-test.true))
    (rw (← c.as_slice-label-items.ensures) at c.requires)

pub loop-label-preserved : goal.loop-label-preserved
loop-label-preserved c =
    let items = c.as_slice-label-items.result.now in
    next_laid (held_of c.args.self.now) (held_of c.loop-label.self) (label_members (map text_of items)) c.loop-label.label-index (record { called = c.get.result.now; typed = None })
    c.loop-label.invariant
    (rw c.get.ensures (next_member (λ n. record { called = n; typed = None }) text_of items c.loop-label.label-index c.label-item.result c.label-item.is c.loop-label-test.true))
    (held_of c.push_part.new.self) c.push_part.ensures
