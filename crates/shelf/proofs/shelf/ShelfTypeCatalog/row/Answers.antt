use Rattle.std.proofs.Common.{◌≡◌, ℕ, ◌≤◌, true, List, [], length, map, Some, None, Option, sym, refl, ap, ◌∙◌, subst}
use Rattle.std.specs.Option.{option_map}
use Rattle.std.proofs.lemmas.Bool.{lt-ltb}
use Rattle.catalog.specs.Catalog.{CatalogAttribute, CatalogRow, Nonzero}
use Rattle.catalog.specs.Limits.{nonzero}
use Rattle.catalog.specs.Meaning.{attribute_meaning, oid_told, text_of}
use Rattle.type_info.specs.declared.oid.Oid.{Oid}
use Rattle.type_info.specs.Meaning.{entry_of}
use Rattle.type_info.specs.Table.{Entry, by_oid, array_of}
use Rattle.type_info.proofs.Facts.{laws}
use Rattle.shelf.specs.Rows.{typtype_byte, category_byte, element_oid, subtype_oid, shelf_row}
use Rattle.shelf.specs.Laws.{Bounds, bounds, array-nonzero}
use Rattle.shelf.proofs.shelf.ShelfTypeCatalog.row.Goals as goal
use Rattle.shelf.proofs.shelf.ShelfTypeCatalog.row.Goals.{In_ok-entry}

tested : (o : Option Oid) → Nonzero (oid_told o) → nonzero o ≡ true
tested None h = refl
tested (Some o) h = lt-ltb 0 o.0 h

row_is :
    (e : Entry) (name : List ℕ) (typtype category : ℕ) (element subtype array : Option ℕ) (labels : List (List ℕ)) (attributes : List CatalogAttribute) → name ≡ e.name → typtype ≡ typtype_byte e.kind →
    category ≡ category_byte e.kind → element ≡ element_oid e.kind → subtype ≡ subtype_oid e.kind → array ≡ option_map (λ (a : Entry). a.oid) (array_of e.oid) → labels ≡ [] → attributes ≡ [] →
    ◌≡◌ {A = CatalogRow} (record { pretty = name; typtype = typtype; typcategory = category; typelem = element; typbasetype = None; rngsubtype = subtype; typarray = array; labels = labels; attributes = attributes }) (shelf_row e)
row_is e name typtype category element subtype array labels attributes p q r s t u v w =
    λ i. record { pretty = p i; typtype = q i; typcategory = r i; typelem = s i; typbasetype = None; rngsubtype = t i; typarray = u i; labels = v i; attributes = w i }

-- the entry that was found
found-entry : (c : In_ok-entry) → by_oid c.args.oid.0 ≡ Some (entry_of c.in_ok-entry.entry)
found-entry c = sym c.in_ok-entry.ensures

-- what the table says of the entry
bounds-at : (c : In_ok-entry) → Bounds (entry_of c.in_ok-entry.entry)
bounds-at c = bounds c.args.oid.0 (entry_of c.in_ok-entry.entry) (found-entry c)

pub returns-in_err-pretty : goal.returns-in_err-pretty
returns-in_err-pretty c =
    let a = (goal.at.returns-in_err-pretty c).In_ok-entry in
    let size = subst (λ (n : List ℕ). (1 ≤ length n) × (length n ≤ 128)) (sym c.name.ensures) (bounds-at a).name in
    absurd (c.in_err-pretty.ensures size.0 size.1)

pub invariant_of-result-clause-element : goal.invariant_of-result-clause-element
invariant_of-result-clause-element c =
    let b = bounds-at (goal.at.invariant_of-result-clause-element c).In_ok-entry in
    tested c.typelem.result (subst Nonzero (sym (c.typelem.ensures ∙ ap element_oid c.kind-kind.ensures)) b.element)

pub invariant_of-result-clause-subtype : goal.invariant_of-result-clause-subtype
invariant_of-result-clause-subtype c =
    let b = bounds-at (goal.at.invariant_of-result-clause-subtype c).In_ok-entry in
    tested c.rngsubtype.result (subst Nonzero (sym (c.rngsubtype.ensures ∙ ap subtype_oid c.kind-kind.ensures)) b.subtype)

pub invariant_of-result-clause-array : goal.invariant_of-result-clause-array
invariant_of-result-clause-array c = tested c.typarray.result (subst Nonzero (sym c.typarray.ensures) (array-nonzero c.args.oid.0))

pub returns : goal.returns
returns c =
    let a = (goal.at.returns c).In_ok-entry in
    let o : ℕ = c.args.oid.0 in
    let e : Entry = entry_of c.in_ok-entry.entry in
    let found = found-entry a in
    let same : e.oid ≡ o = (laws.name_finds_again o e found).0 in
    ap Some (row_is e _ _ _ _ _ _ _ _
    (c.in_ok-pretty.ensures ∙ c.name.ensures)
    (c.typtype.ensures ∙ ap typtype_byte c.kind-kind.ensures)
    (c.typcategory.ensures ∙ ap category_byte c.kind-kind.ensures)
    (c.typelem.ensures ∙ ap element_oid c.kind-kind.ensures)
    (c.rngsubtype.ensures ∙ ap subtype_oid c.kind-kind.ensures)
    (c.typarray.ensures ∙ ap (λ (k : ℕ). option_map (λ (x : Entry). x.oid) (array_of k)) (sym same))
    (ap (map text_of) c.new-labels.ensures)
    (ap (map attribute_meaning) c.new-attributes.ensures))
    ∙ ap (option_map shelf_row) (sym found)
