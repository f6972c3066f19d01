use Rattle.std.proofs.Common.{◌≡◌, ◌∙◌, ap, length, List, None, ℕ, option_map, subst, sym, take}
use Rattle.book.specs.Book.{held_of}
use Rattle.book.specs.Held.{book_held}
use Rattle.book.specs.Stands.{Stands}
use Rattle.catalog.specs.Catalog.{Catalog}
use Rattle.life.specs.Calls.{Declared, resolve}
use Rattle.life.specs.Faults.{of_layer_fill}
use Rattle.finds.specs.Finds.{ReadFrom, reads_of}
use Rattle.finds.specs.Keeping.{SettledBy}
use Rattle.finds.proofs.Landed.{settled_by}
use Rattle.finds.proofs.Passing.{from_same}
use Rattle.requests.specs.Asked.{declared_by}
use Rattle.room.specs.Added.{types_added, with_types}
use Rattle.room.specs.Sizes.{first_full, sizes_of}
use Rattle.calls.specs.Resolving.{Noted}
use Rattle.calls.proofs.Noting.{noted_still}
use Rattle.calls.proofs.resolving.keep_entries.Goals as goal
use Rattle.calls.proofs.resolving.keep_entries.Goals.{After-settle}

same_reads : (c : After-settle) → reads_of c.settle.new.self ≡ reads_of c.args.finds.now
same_reads c = λ i. take (length (c.settle.ensures.rows i)) (c.settle.ensures.queue i)

from_then : (c : After-settle) (k : Catalog) → ReadFrom k c.args.finds.now → ReadFrom k c.settle.new.self
from_then c k = from_same k c.args.finds.now c.settle.new.self c.settle.ensures.queue c.settle.ensures.rows

settled : (c : After-settle) (k : Catalog) → ReadFrom k c.args.finds.now → SettledBy k (book_held (held_of c.args.book.now)).descriptors c.settle.new.self
settled c k from =
    settled_by k (book_held (held_of c.args.book.now)).descriptors c.args.finds.now c.settle.new.self c.settle.ensures.queue c.settle.ensures.rows
    c.settle.ensures.among (c.settle.ensures.turn k from) (c.settle.ensures.settles k from)

noted_then : (c : After-settle) (k : Catalog) (ds : List Declared) (es : List ℕ) → Noted k (held_of c.args.book.now) c.args.finds.now c.args.notes.now ds es →
    Noted k (held_of c.args.book.now) c.settle.new.self c.args.notes.now ds es
noted_then c k ds es = noted_still k (held_of c.args.book.now) c.args.finds.now c.settle.new.self c.args.notes.now ds es (same_reads c)

pub returns-in-Some-clause-kept : goal.returns-in-Some-clause-kept
returns-in-Some-clause-kept c = λ k laws from t s few text names es noted.
    let at = goal.at.returns-in-Some-clause-kept c in
    let h = held_of c.args.book.now in
    let ds = declared_by c.args.host.now c.args.entries.now in
    ap (option_map (λ table. of_layer_fill 8 table c.args.rounds))
    (sym
    (c.in-Some.ensures k laws (from_then at.After-settle k from) (settled at.After-settle k from) t s few text names es (noted_then at.After-settle k ds es noted)
    ∙ ap (λ (reads : List ℕ). first_full h.capacity h.taken (sizes_of (types_added k t (resolve ds) reads es))) (same_reads at.After-settle)))

pub returns-clause-kept : goal.returns-clause-kept
returns-clause-kept c = λ k laws from t s few text names es noted.
    let at = goal.at.returns-clause-kept c in
    let h = held_of c.args.book.now in
    let ds = declared_by c.args.host.now c.args.entries.now in
    let same : reads_of c.settle.new.self ≡ reads_of c.args.finds.now = same_reads at.After-settle in
    let then = noted_then at.After-settle k ds es noted in
    let fits : first_full h.capacity h.taken (sizes_of (types_added k t (resolve ds) (reads_of c.settle.new.self) es)) ≡ None =
    sym (c.in_default.ensures k laws (from_then at.After-settle k from) (settled at.After-settle k from) t s few text names es then) in (
      ap (λ (reads : List ℕ). first_full h.capacity h.taken (sizes_of (types_added k t (resolve ds) reads es))) (sym same) ∙ fits,
      subst (λ (reads : List ℕ). Stands (held_of c.keep_resolved.new.book) (with_types k t (resolve ds) reads es)) same
          (c.keep_resolved.ensures.kept k laws (from_then at.After-settle k from) (settled at.After-settle k from) t s es (c.leads.ensures ∙ noted.leads)
          (record { told = c.apart.ensures ∙ noted.apart; once = noted.once; other = then.other }) fits),
    )
