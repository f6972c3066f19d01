use Rattle.std.proofs.Common.{◌∙◌, ap, sym}
use Rattle.std.specs.List.{list_all}
use Rattle.std.proofs.lemmas.List.Folds.{list_all-map}
use Rattle.catalog.specs.Few.{standing}
use Rattle.life.specs.InTurn.{known_so}
use Rattle.type_info.specs.declared.oid.Oid.{Oid}
use Rattle.book.specs.Book.{held_of}
use Rattle.book.specs.Held.{book_held}
use Rattle.finds.specs.Finds.{order_of}
use Rattle.finds.proofs.tables.Finds.knows_all.Goals as goal

pub returns : goal.returns
returns c =
    let known = known_so (book_held (held_of c.args.book.now)).descriptors (order_of c.args.self.now) in
    c.knows_each.ensures ∙ ap (list_all (λ (o : Oid). known o.0)) c.as_slice.ensures ∙ sym (list_all-map known (λ (o : Oid). o.0) (standing c.args.links.now))
