-- Two rows tell the same if and only if the test on them says so. Assumes nothing.
use Rattle.std.proofs.Common.{◌≡◌, ℕ, Bool, eqb, List, [], ◌∷◌, Some, None, Decides, Option, refl, ap}
use Rattle.std.specs.Str.{bytes_eq}
use Rattle.std.proofs.lemmas.Slice.Eq.{bytes_eq-Decides}
use Rattle.std.proofs.lemmas.Bool.{false≢true}
use Rattle.std.proofs.lemmas.Bool.Decides.{Decides-and, Decides-eqb, Decides-like}
use Rattle.catalog.specs.Catalog.{CatalogAttribute, CatalogRow}
use Rattle.offers.specs.Same.{same_attribute, same_each, same_head, same_link, same_links, same_parts, same_row}

same-link : (a b : Option ℕ) → Decides (same_link a b) (a ≡ b)
same-link None None = (λ e. refl, λ e. refl)
same-link None (Some b) = (λ e. absurd (false≢true e), λ e. cc)
same-link (Some a) None = (λ e. absurd (false≢true e), λ e. cc)
same-link (Some a) (Some b) = Decides-like (eqb a b) (ap Some) (λ e. cc) (Decides-eqb a b)

same-each : {A : Type 0} (same : A → A → Bool) → ((a b : A) → Decides (same a b) (a ≡ b)) → (xs ys : List A) → Decides (same_each same xs ys) (xs ≡ ys)
same-each same each [] [] = (λ e. refl, λ e. refl)
same-each same each [] (y ∷ ys) = (λ e. absurd (false≢true e), λ e. cc)
same-each same each (x ∷ xs) [] = (λ e. absurd (false≢true e), λ e. cc)
same-each same each (x ∷ xs) (y ∷ ys) =
    Decides-like (same_each same (x ∷ xs) (y ∷ ys)) (λ e. λ i. e.0 i ∷ e.1 i) (λ e. (cc, cc))
    (Decides-and (same x y) (same_each same xs ys) (each x y) (same-each same each xs ys))

same-attribute : (a b : CatalogAttribute) → Decides (same_attribute a b) (a ≡ b)
same-attribute a b =
    Decides-like (same_attribute a b) (λ e. λ i. record { called = e.0 i; typed = e.1 i })
    (λ e. (ap (λ (x : CatalogAttribute). x.called) e, ap (λ (x : CatalogAttribute). x.typed) e))
    (Decides-and (bytes_eq a.called b.called) (eqb a.typed b.typed) (bytes_eq-Decides a.called b.called) (Decides-eqb a.typed b.typed))

record Head (a b : CatalogRow) : Type 0 where
  pretty : a.pretty ≡ b.pretty
  typtype : a.typtype ≡ b.typtype
  typcategory : a.typcategory ≡ b.typcategory

same-head : (a b : CatalogRow) → Decides (same_head a b) (Head a b)
same-head a b =
    Decides-like (same_head a b) (λ e. record { pretty = e.0; typtype = e.1.0; typcategory = e.1.1 }) (λ h. (h.pretty, (h.typtype, h.typcategory)))
    (Decides-and (bytes_eq a.pretty b.pretty) _ (bytes_eq-Decides a.pretty b.pretty)
    (Decides-and (eqb a.typtype b.typtype) (eqb a.typcategory b.typcategory) (Decides-eqb a.typtype b.typtype) (Decides-eqb a.typcategory b.typcategory)))

record Links (a b : CatalogRow) : Type 0 where
  typelem : a.typelem ≡ b.typelem
  typbasetype : a.typbasetype ≡ b.typbasetype
  rngsubtype : a.rngsubtype ≡ b.rngsubtype
  typarray : a.typarray ≡ b.typarray

same-links : (a b : CatalogRow) → Decides (same_links a b) (Links a b)
same-links a b =
    Decides-like (same_links a b) (λ e. record { typelem = e.0; typbasetype = e.1.0; rngsubtype = e.1.1.0; typarray = e.1.1.1 })
    (λ h. (h.typelem, (h.typbasetype, (h.rngsubtype, h.typarray))))
    (Decides-and (same_link a.typelem b.typelem) _ (same-link a.typelem b.typelem)
    (Decides-and (same_link a.typbasetype b.typbasetype) _ (same-link a.typbasetype b.typbasetype)
    (Decides-and (same_link a.rngsubtype b.rngsubtype) (same_link a.typarray b.typarray) (same-link a.rngsubtype b.rngsubtype) (same-link a.typarray b.typarray))))

record Parts (a b : CatalogRow) : Type 0 where
  labels : a.labels ≡ b.labels
  attributes : a.attributes ≡ b.attributes

same-parts : (a b : CatalogRow) → Decides (same_parts a b) (Parts a b)
same-parts a b =
    Decides-like (same_parts a b) (λ e. record { labels = e.0; attributes = e.1 }) (λ h. (h.labels, h.attributes))
    (Decides-and (same_each bytes_eq a.labels b.labels) (same_each same_attribute a.attributes b.attributes)
    (same-each bytes_eq bytes_eq-Decides a.labels b.labels)
    (same-each same_attribute same-attribute a.attributes b.attributes))

joined : (a b : CatalogRow) → Head a b → Links a b → Parts a b → a ≡ b
joined a b h l p = λ i. record {
  pretty = h.pretty i;
  typtype = h.typtype i;
  typcategory = h.typcategory i;
  typelem = l.typelem i;
  typbasetype = l.typbasetype i;
  rngsubtype = l.rngsubtype i;
  typarray = l.typarray i;
  labels = p.labels i;
  attributes = p.attributes i;
}

headed : (a b : CatalogRow) → a ≡ b → Head a b
headed a b e = record {
  pretty = ap (λ (r : CatalogRow). r.pretty) e;
  typtype = ap (λ (r : CatalogRow). r.typtype) e;
  typcategory = ap (λ (r : CatalogRow). r.typcategory) e;
}

linked : (a b : CatalogRow) → a ≡ b → Links a b
linked a b e = record {
  typelem = ap (λ (r : CatalogRow). r.typelem) e;
  typbasetype = ap (λ (r : CatalogRow). r.typbasetype) e;
  rngsubtype = ap (λ (r : CatalogRow). r.rngsubtype) e;
  typarray = ap (λ (r : CatalogRow). r.typarray) e;
}

parted : (a b : CatalogRow) → a ≡ b → Parts a b
parted a b e = record { labels = ap (λ (r : CatalogRow). r.labels) e; attributes = ap (λ (r : CatalogRow). r.attributes) e }

pub same-row-decides : (a b : CatalogRow) → Decides (same_row a b) (a ≡ b)
same-row-decides a b =
    Decides-like (same_row a b) (λ e. joined a b e.0 e.1.0 e.1.1) (λ e. (headed a b e, (linked a b e, parted a b e)))
    (Decides-and (same_head a b) _ (same-head a b) (Decides-and (same_links a b) (same_parts a b) (same-links a b) (same-parts a b)))
