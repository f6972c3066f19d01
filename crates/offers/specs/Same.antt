-- Whether two rows tell the same, part by part. Assumes nothing.
use Rattle.std.specs.Prelude.{ℕ, Bool, true, false, ◌&&◌, List, [], ◌∷◌, Some, None, Option, ◌==◌}
use Rattle.std.specs.Str.{bytes_eq}
use Rattle.catalog.specs.Catalog.{CatalogAttribute, CatalogRow}

-- the same OID, or both none
abbrev pub same_link : Option ℕ → Option ℕ → Bool
same_link None None = true
same_link None (Some b) = false
same_link (Some a) None = false
same_link (Some a) (Some b) = a == b

-- as many, and the same one by one
abbrev pub same_each : {A : Type 0} → (A → A → Bool) → List A → List A → Bool
same_each same [] [] = true
same_each same [] (y ∷ ys) = false
same_each same (x ∷ xs) [] = false
same_each same (x ∷ xs) (y ∷ ys) = same x y && same_each same xs ys

abbrev pub same_attribute : CatalogAttribute → CatalogAttribute → Bool
same_attribute a b = bytes_eq a.called b.called && a.typed == b.typed

-- the pretty name and the two codes
abbrev pub same_head : CatalogRow → CatalogRow → Bool
same_head a b = bytes_eq a.pretty b.pretty && (a.typtype == b.typtype && a.typcategory == b.typcategory)

-- the four OIDs
abbrev pub same_links : CatalogRow → CatalogRow → Bool
same_links a b =
    same_link a.typelem b.typelem
    && (same_link a.typbasetype b.typbasetype && (same_link a.rngsubtype b.rngsubtype && same_link a.typarray b.typarray))

-- the labels and the attributes, in their order
abbrev pub same_parts : CatalogRow → CatalogRow → Bool
same_parts a b = same_each bytes_eq a.labels b.labels && same_each same_attribute a.attributes b.attributes

abbrev pub same_row : CatalogRow → CatalogRow → Bool
same_row a b = same_head a b && (same_links a b && same_parts a b)
