-- The derived comparison of rows is the test on what they tell. Assumes nothing.
use Rattle.std.proofs.Common.{◌≡◌, Bool, ◌&&◌, List, [], ◌∷◌, map, Some, None, Option, refl, ap₂, ◌∙◌}
use Rattle.std.specs.Prelude.{◌==◌}
use Rattle.std.proofs.Math.Bool.{and_assoc}
use Rattle.std.specs.Cmp.Lexicographic.{pointwise}
use Rattle.std.specs.Option.{option_eq}
use Rattle.std.specs.Str.{bytes_eq}
use Rattle.type_info.specs.declared.oid.Oid.{Oid}
use Rattle.catalog.specs.declared.row.Row.{Row}
use Rattle.catalog.specs.contracts.row.RowPartialEq.TheImpl.{ghosts}
use Rattle.catalog.specs.Few.{standing}
use Rattle.catalog.specs.Meaning.{attribute_meaning, oid_told, row_meaning, text_of}
use Rattle.offers.specs.Same.{same_attribute, same_each, same_link, same_row}

link_alike : (like : Oid → Oid → Bool) → ((a b : Oid) → like a b ≡ (a.0 == b.0)) → (a b : Option Oid) → option_eq like a b ≡ same_link (oid_told a) (oid_told b)
link_alike like h None None = refl
link_alike like h None (Some b) = refl
link_alike like h (Some a) None = refl
link_alike like h (Some a) (Some b) = h a b

each_alike : {X A : Type 0} (like : X → X → Bool) (same : A → A → Bool) (mean : X → A) → ((x y : X) → like x y ≡ same (mean x) (mean y)) → (xs ys : List X) → pointwise like xs ys ≡ same_each same (map mean xs) (map mean ys)
each_alike like same mean h [] [] = refl
each_alike like same mean h [] (y ∷ ys) = refl
each_alike like same mean h (x ∷ xs) [] = refl
each_alike like same mean h (x ∷ xs) (y ∷ ys) = ap₂ ◌&&◌ (h x y) (each_alike like same mean h xs ys)

grouped : (p t c u v w x y z : Bool) → (p && (t && (c && (u && (v && (w && (x && (y && z)))))))) ≡ ((p && (t && c)) && ((u && (v && (w && x))) && (y && z)))
grouped p t c u v w x y z = simp and_assoc

pub row_alike : (a b : Row) → ghosts.eq a b ≡ same_row (row_meaning a) (row_meaning b)
row_alike a b =
    let m = row_meaning a in
    let n = row_meaning b in
    (λ i. bytes_eq m.pretty n.pretty && (m.typtype == n.typtype && (m.typcategory == n.typcategory
    && (link_alike _ (λ x y. refl) a.typelem b.typelem i && (link_alike _ (λ x y. refl) a.typbasetype b.typbasetype i
    && (link_alike _ (λ x y. refl) a.rngsubtype b.rngsubtype i && (link_alike _ (λ x y. refl) a.typarray b.typarray i
    && (each_alike _ bytes_eq text_of (λ x y. refl) (standing a.labels) (standing b.labels) i
    && each_alike _ same_attribute attribute_meaning (λ x y. refl) (standing a.attributes) (standing b.attributes) i))))))))
    ∙ grouped (bytes_eq m.pretty n.pretty) (m.typtype == n.typtype) (m.typcategory == n.typcategory)
    (same_link m.typelem n.typelem) (same_link m.typbasetype n.typbasetype) (same_link m.rngsubtype n.rngsubtype) (same_link m.typarray n.typarray)
    (same_each bytes_eq m.labels n.labels) (same_each same_attribute m.attributes n.attributes)
