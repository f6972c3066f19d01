-- What the shape of a row has of the row.
-- Assumes nothing.
use Rattle.std.proofs.Common.{◌≡◌, ℕ, Bool, true, false, not, ◌&&◌, ◌==◌, if◌then◌else◌, List, [], ◌∷◌, Some, None, Option, refl, subst}
use Rattle.catalog.specs.declared.codes.TypType.TheVariants as t
use Rattle.catalog.specs.declared.codes.TypCategory.TheVariants as c
use Rattle.catalog.specs.Catalog.{CatalogRow}
use Rattle.catalog.specs.Codes.{typtype_byte, typcategory_byte}
use Rattle.catalog.specs.Shape.{Head, simple, pseudo, domain, array, range, enumeration, composite, Shape, codes_listed, linked, names_of, oids_of, shape}
use Rattle.book.specs.Adding.{PartsOf}

abbrev pub HeadOf : CatalogRow → Head → List ℕ → Type 0
HeadOf r simple links = links ≡ []
HeadOf r pseudo links = links ≡ []
HeadOf r domain links = (l : ℕ) × (links ≡ l ∷ [])
HeadOf r array links = (l : ℕ) × (links ≡ l ∷ [])
HeadOf r range links = (l : ℕ) × (links ≡ l ∷ [])
HeadOf r (enumeration labels) links = (labels ≡ r.labels) × (links ≡ [])
HeadOf r (composite names) links = (names ≡ names_of r.attributes) × (links ≡ oids_of r.attributes)

abbrev ShapeOf : CatalogRow → Option Shape → Type 0
ShapeOf r None = Unit {0}
ShapeOf r (Some s) = (s.name ≡ r.pretty) × HeadOf r s.head s.links

either : (r : CatalogRow) (b : Bool) (x y : Option Shape) → ShapeOf r x → ShapeOf r y → ShapeOf r (if b then x else y)
either r true x y p q = p
either r false x y p q = q

linked_of : (r : CatalogRow) (h : Head) (o : Option ℕ) → ((l : ℕ) → HeadOf r h (l ∷ [])) → ShapeOf r (linked r h o)
linked_of r h None p = tt
linked_of r h (Some o) p = (refl, p o)

shape_is : (r : CatalogRow) → ShapeOf r (shape r)
unfolding shape
shape_is r =
    either r (not (codes_listed r)) _ _ tt
    (either r (r.typtype == typtype_byte t.Domain) _ _ (linked_of r domain r.typbasetype (λ l. (l, refl)))
    (either r (r.typtype == typtype_byte t.Base && r.typcategory == typcategory_byte c.Array) _ _ (linked_of r array r.typelem (λ l. (l, refl)))
    (either r (r.typtype == typtype_byte t.Pseudo) _ _ (refl, refl)
    (either r (r.typtype == typtype_byte t.Range) _ _ (linked_of r range r.rngsubtype (λ l. (l, refl)))
    (either r (r.typtype == typtype_byte t.Enum) _ _ (refl, (refl, refl))
    (either r (r.typtype == typtype_byte t.Composite) _ _ (refl, (refl, refl)) (refl, refl)))))))

pub shape_of_row : (r : CatalogRow) (s : Shape) → shape r ≡ Some s → (s.name ≡ r.pretty) × HeadOf r s.head s.links
shape_of_row r s e = subst (ShapeOf r) e (shape_is r)

parts_of : (r : CatalogRow) (h : Head) (links : List ℕ) → HeadOf r h links → PartsOf r h
parts_of r simple links e = tt
parts_of r pseudo links e = tt
parts_of r domain links e = tt
parts_of r array links e = tt
parts_of r range links e = tt
parts_of r (enumeration labels) links e = e.0
parts_of r (composite names) links e = e.0

pub parts_of_row : (r : CatalogRow) (s : Shape) → shape r ≡ Some s → PartsOf r s.head
parts_of_row r s e = parts_of r s.head s.links (shape_of_row r s e).1
