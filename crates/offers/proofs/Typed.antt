-- Attributes that are read have an OID that is not 0. Assumes nothing.
use Rattle.std.proofs.Common.{◌≡◌, ℕ, Bool, true, false, ltb, leb, List, [], ◌∷◌, Some, None, Option, refl, ap, ◌∙◌}
use Rattle.std.specs.Bool.{then_some}
use Rattle.std.proofs.lemmas.Bool.{and_from}
use Rattle.catalog.specs.declared.values.Attribute.{Attribute}
use Rattle.catalog.specs.Catalog.{CatalogAttribute}
use Rattle.catalog.specs.Limits.{all_typed}
use Rattle.offers.specs.declared.offer.OfferedAttribute.{OfferedAttribute}
use Rattle.offers.specs.Offered.{attribute_at, text_at, typed_as}
use Rattle.offers.specs.Read.{EachRead, FewRead}
use Rattle.offers.proofs.Every.{some_read}

told : (oid : ℕ) (name : Option (List ℕ)) (a : CatalogAttribute) → Some a ≡ typed_as oid name → ltb 0 a.typed ≡ true
told oid None a e = absurd cc
told oid (Some name) a e = by_cases (leb 1 oid) refl e where
  by_cases : (b : Bool) → leb 1 oid ≡ b → Some a ≡ then_some b (record { called = name; typed = oid }) → ltb 0 a.typed ≡ true
  by_cases true h e = let same : a.typed ≡ oid = cc in ap (ltb 0) same ∙ h
  by_cases false h e = absurd cc

-- what is read of an attribute
pub typed_told : (host : List ℕ) (x : OfferedAttribute) (a : CatalogAttribute) → Some a ≡ attribute_at host x → ltb 0 a.typed ≡ true
typed_told host x a e = told x.oid.0 (text_at 63 host x.name) a e

module _ {A : Type 0} (reads : A → Option Attribute → Type 0) (typed : (x : A) (a : Attribute) → reads x (Some a) → ltb 0 a.oid.0 ≡ true) where
  each : (xs : List A) (ys : List Attribute) → EachRead reads xs (Some ys) → all_typed ys ≡ true
  each [] ys h = let e : ys ≡ [] = cc in ap all_typed e
  each (x ∷ xs) [] h = absurd h
  each (x ∷ xs) (y ∷ ys) h = and_from (ltb 0 y.oid.0) (all_typed ys) (typed x y h.0) (each xs ys h.1)

  pub each_typed : (xs : List A) (ys : List Attribute) → FewRead reads xs (Some ys) → all_typed ys ≡ true
  each_typed xs ys h = each xs ys (some_read reads xs ys h)
