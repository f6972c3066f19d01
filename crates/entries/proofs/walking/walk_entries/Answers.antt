use Rattle.std.proofs.Common.{◌∙◌, ap, length, map, sym, take}
use Rattle.book.specs.Book.{held_of}
use Rattle.book.specs.Held.{book_held}
use Rattle.life.specs.Walk.{ended}
use Rattle.entries.specs.Asking.{with_link}
use Rattle.entries.proofs.Wanting.{unasked_apart, unasked_leads, unasked_walk, wanted_walk}
use Rattle.entries.proofs.walking.walk_entries.Goals as goal

pub returns-then-any_wants-clause-outcome : goal.returns-then-any_wants-clause-outcome
returns-then-any_wants-clause-outcome g c =
    c.walk_wanted.ensures.walked.told
    ∙ sym (wanted_walk (g.C.TypeCatalog.meaning c.args.catalog.now) (book_held (held_of c.args.book.now)) c.args.host.now c.args.entries.now
    (sym c.any_wants.ensures ∙ c.if-any_wants.true))

pub returns-clause-outcome : goal.returns-clause-outcome
returns-clause-outcome g c =
    ap (ended 0) (λ i. take (length (c.clear.ensures.rows i)) (c.clear.ensures.queue i))
    ∙ sym (unasked_walk (g.C.TypeCatalog.meaning c.args.catalog.now) (book_held (held_of c.args.book.now)) c.args.host.now c.args.entries.now
    (sym c.any_wants.ensures ∙ c.if-any_wants.false))

pub returns-clause-leads : goal.returns-clause-leads
returns-clause-leads g c = λ few.
    c.note_held.ensures.leads few
    ∙ unasked_leads (g.C.TypeCatalog.meaning c.args.catalog.now) (book_held (held_of c.args.book.now)) c.args.host.now c.args.entries.now
    (sym c.any_wants.ensures ∙ c.if-any_wants.false)

pub returns-clause-apart : goal.returns-clause-apart
returns-clause-apart g c =
    c.note_held.ensures.apart
    ∙ c.clear-2.ensures.apart
    ∙ sym (ap (map (with_link (g.C.TypeCatalog.meaning c.args.catalog.now)))
    (unasked_apart (g.C.TypeCatalog.meaning c.args.catalog.now) (book_held (held_of c.args.book.now)) c.args.host.now c.args.entries.now
    (sym c.any_wants.ensures ∙ c.if-any_wants.false)))
