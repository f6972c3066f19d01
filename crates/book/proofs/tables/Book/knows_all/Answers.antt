use Rattle.std.proofs.Common.{◌∙◌, ap, sym}
use Rattle.std.specs.List.{list_all}
use Rattle.std.proofs.lemmas.List.Folds.{list_all-map}
use Rattle.catalog.specs.Few.{standing}
use Rattle.type_info.specs.declared.oid.Oid.{Oid}
use Rattle.book.specs.Adding.{is_known}
use Rattle.book.specs.Book.{held_of}
use Rattle.book.proofs.tables.Book.knows_all.Goals as goal

pub returns : goal.returns
returns c =
    let known = is_known (held_of c.args.self.now).descriptions in
    c.knows_each.ensures ∙ ap (list_all (λ (o : Oid). known o.0)) c.as_slice.ensures ∙ sym (list_all-map known (λ (o : Oid). o.0) (standing c.args.links.now))
