use Rattle.std.proofs.Common.{◌∙◌, [], ap, subst, sym}
use Rattle.book.specs.Book.{held_of}
use Rattle.book.specs.Held.{Held}
use Rattle.book.specs.Stands.{Stands}
use Rattle.finds.specs.Finds.{reads_of}
use Rattle.finds.specs.Keeping.{SettledBy, array_kept, each, name_kept, read_finds, row_kept, settled_finds}
use Rattle.life.specs.Steps.{Book}
use Rattle.room.specs.Added.{with_types}
use Rattle.finds.proofs.Gathering.{array_capacity, each_capacity, name_capacity, row_capacity}
use Rattle.finds.proofs.Landed.{finds_stand}
use Rattle.finds.proofs.tables.Finds.keep.Goals as goal

pub returns-clause-capacity : goal.returns-clause-capacity
returns-clause-capacity c =
    ap (λ (h : Held). h.capacity) c.keep_arrays.ensures
    ∙ each_capacity array_kept array_capacity (held_of c.keep_names.new.book) (read_finds c.args.self.now)
    ∙ ap (λ (h : Held). h.capacity) c.keep_names.ensures
    ∙ each_capacity name_kept name_capacity (held_of c.keep_rows.new.book) (settled_finds c.args.self.now)
    ∙ ap (λ (h : Held). h.capacity) c.keep_rows.ensures
    ∙ each_capacity row_kept row_capacity (held_of c.args.book.now) (settled_finds c.args.self.now)

pub returns-clause-kept : goal.returns-clause-kept
returns-clause-kept c = λ k laws from settled t s call none room.
    let f = c.args.self.now in
    subst (λ (h : Held). Stands h (with_types k t call (reads_of f) []))
    (sym (c.keep_arrays.ensures ∙ ap (λ h. each array_kept h (read_finds f)) (c.keep_names.ensures ∙ ap (λ h. each name_kept h (settled_finds f)) c.keep_rows.ensures)))
    (finds_stand k laws f from t (subst (λ (b : Book). SettledBy k b.descriptors f) (sym s.book) settled) (held_of c.args.book.now) s call none room)
