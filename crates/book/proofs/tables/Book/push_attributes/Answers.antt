use Rattle.std.proofs.Common.{◌∙◌, ap, map}
use Rattle.catalog.specs.Catalog.{CatalogAttribute}
use Rattle.catalog.specs.Meaning.{attribute_meaning}
use Rattle.book.specs.Adding.{attribute_members, component_for}
use Rattle.book.specs.Book.{held_of}
use Rattle.book.specs.Held.{Held}
use Rattle.book.proofs.Members.{next_fits, next_laid, next_member}
use Rattle.book.proofs.tables.Book.push_attributes.Goals as goal

pub push_part-requires : goal.push_part-requires
push_part-requires c =
    let h = held_of c.args.self.now in
    let items = c.as_slice-attribute-items.result.now in
    let typed = c.component_for-typed.ensures ∙ ap (λ (x : Held). component_for x.descriptions c.attribute-item.result.oid.0) c.loop-attribute.invariant in
    next_fits h (held_of c.loop-attribute.self) (attribute_members h.descriptions (map attribute_meaning items)) c.loop-attribute.attribute-index (record { called = c.get.result.now; typed = c.component_for-typed.result })
    c.loop-attribute.invariant
    (rw (c.get.ensures, typed) (next_member (λ (a : CatalogAttribute). record { called = a.called; typed = component_for h.descriptions a.typed }) attribute_meaning items c.loop-attribute.attribute-index c.attribute-item.result c.attribute-item.is c.loop-attribute-test.true))
    (rw (← c.as_slice-attribute-items.ensures) at c.requires)

pub loop-attribute-preserved : goal.loop-attribute-preserved
loop-attribute-preserved c =
    let h = held_of c.args.self.now in
    let items = c.as_slice-attribute-items.result.now in
    let typed = c.component_for-typed.ensures ∙ ap (λ (x : Held). component_for x.descriptions c.attribute-item.result.oid.0) c.loop-attribute.invariant in
    next_laid h (held_of c.loop-attribute.self) (attribute_members h.descriptions (map attribute_meaning items)) c.loop-attribute.attribute-index (record { called = c.get.result.now; typed = c.component_for-typed.result })
    c.loop-attribute.invariant
    (rw (c.get.ensures, typed) (next_member (λ (a : CatalogAttribute). record { called = a.called; typed = component_for h.descriptions a.typed }) attribute_meaning items c.loop-attribute.attribute-index c.attribute-item.result c.attribute-item.is c.loop-attribute-test.true))
    (held_of c.push_part.new.self) c.push_part.ensures
