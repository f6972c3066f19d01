use Rattle.std.proofs.Common.{rules, ◌≡◌, ℕ, Bool, true, leb, ◌⊎◌, List, Some, None, Option, inl, inr, refl, sym, ap, ◌∙◌}
use Rattle.std.specs.Bool.{then_some}
use Rattle.std.proofs.lemmas.Bool.{and_parts}
use Rattle.catalog.specs.Catalog.{CatalogAttribute, CatalogRow}
use Rattle.catalog.specs.Limits.{nonzero}
use Rattle.catalog.specs.Meaning.{attribute_meaning, oid_told, row_told, text_of}
use Rattle.offers.specs.Offered.{RowOffer, offer_of, attribute_at, few, offered_row, oids_fit, row_from, text_at}
use Rattle.offers.proofs.Every.{few_read}
use Rattle.offers.proofs.Typed.{each_typed, typed_told}
use Rattle.offers.proofs.rows.read_row.Goals as goal

record LinksFit (r : RowOffer) : Type 0 where
  element : nonzero r.typelem ≡ true
  base : nonzero r.typbasetype ≡ true
  subtype : nonzero r.rngsubtype ≡ true
  array : nonzero r.typarray ≡ true

links_fit : (r : RowOffer) → true ≡ oids_fit r → LinksFit r
links_fit r e =
    let a = and_parts (leb 1 r.oid.0) _ (sym e) in
    let b = and_parts (nonzero r.typelem) _ a.1 in
    let c = and_parts (nonzero r.typbasetype) _ b.1 in
    let d = and_parts (nonzero r.rngsubtype) (nonzero r.typarray) c.1 in
    record { element = b.0; base = c.0; subtype = d.0; array = d.1 }

abbrev row_of : RowOffer → List ℕ → List (List ℕ) → List CatalogAttribute → CatalogRow
row_of r pretty labels attributes = record {
  pretty = pretty;
  typtype = r.typtype;
  typcategory = r.typcategory;
  typelem = oid_told r.typelem;
  typbasetype = oid_told r.typbasetype;
  rngsubtype = oid_told r.rngsubtype;
  typarray = oid_told r.typarray;
  labels = labels;
  attributes = attributes;
}

-- where each part is read and the OIDs fit, the row is read
row_is :
    (host : List ℕ) (r : RowOffer) (pretty : List ℕ) (labels : List (List ℕ)) (attributes : List CatalogAttribute) →
    Some pretty ≡ text_at 128 host r.pretty → Some labels ≡ few (text_at 63 host) r.labels → Some attributes ≡ few (attribute_at host) r.attributes →
    true ≡ oids_fit r → Some (row_of r pretty labels attributes) ≡ offered_row host r
row_is host r pretty labels attributes p l a fit =
    ap (λ (b : Bool). then_some b (row_of r pretty labels attributes)) fit
    ∙ ap (λ (o : Option (List ℕ)). row_from r o (Some labels) (Some attributes)) p
    ∙ ap (λ (o : Option (List (List ℕ))). row_from r (text_at 128 host r.pretty) o (Some attributes)) l
    ∙ ap (λ (o : Option (List CatalogAttribute)). row_from r (text_at 128 host r.pretty) (few (text_at 63 host) r.labels) o) a

-- where one of the parts is not read, the row is not
not_read :
    (host : List ℕ) (r : RowOffer) (pretty : List ℕ) → Some pretty ≡ text_at 128 host r.pretty → (None ≡ few (text_at 63 host) r.labels) ⊎ (None ≡ few (attribute_at host) r.attributes) →
    None ≡ offered_row host r
not_read host r pretty p (inl l) = λ i. row_from r (p i) (l i) (few (attribute_at host) r.attributes)
not_read host r pretty p (inr a) = no_attributes (few (text_at 63 host) r.labels) ∙ λ i. row_from r (p i) (few (text_at 63 host) r.labels) (a i) where
  no_attributes : (labels : Option (List (List ℕ))) → None ≡ row_from r (Some pretty) labels None
  no_attributes None = refl
  no_attributes (Some l) = refl

pub invariant_of-result : goal.invariant_of-result
invariant_of-result c =
    let fit = links_fit (offer_of c.args.offered) c.if-not-oids_fit.ensures in
    record { element = fit.element; base = fit.base; subtype = fit.subtype; array = fit.array; typed = each_typed _ (λ x a p. typed_told c.args.host.now x (attribute_meaning a) (search rules)) _ _ c.in_ok-attributes.ensures }

pub returns-in_err-labels : goal.returns-in_err-labels
returns-in_err-labels c =
    let r = offer_of c.args.offered in
    ap row_told c.from_residual-in_err-labels.ensures
    ∙ not_read c.args.host.now r _ c.in_ok-pretty.ensures (inl (few_read _ text_of (text_at 63 c.args.host.now) (λ x r p. search rules) _ _ c.in_err-labels.ensures))

pub returns-in_err-attributes : goal.returns-in_err-attributes
returns-in_err-attributes c =
    let r = offer_of c.args.offered in
    ap row_told c.from_residual-in_err-attributes.ensures
    ∙ not_read c.args.host.now r _ c.in_ok-pretty.ensures (inr (few_read _ attribute_meaning (attribute_at c.args.host.now) (λ x r p. search rules) _ _ c.in_err-attributes.ensures))

pub returns : goal.returns
returns c =
    let host = c.args.host.now in
    row_is host (offer_of c.args.offered) _ _ _
    c.in_ok-pretty.ensures
    (few_read _ text_of (text_at 63 host) (λ x r p. search rules) _ _ c.in_ok-labels.ensures)
    (few_read _ attribute_meaning (attribute_at host) (λ x r p. search rules) _ _ c.in_ok-attributes.ensures)
    c.if-not-oids_fit.ensures
