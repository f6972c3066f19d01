-- What an accepted Bind writes is right.
-- Assumes nothing.
use Rattle.std.proofs.Common.{◌≡◌, ℕ, ◌⊎◌, [], ℤ, is_some, Some, None, Option, sym, refl, ap, ◌∙◌, subst, inl, inr, ⊎_elim}
use Rattle.catalog.specs.Catalog.{CatalogColumn}
use Rattle.catalog.specs.Shape.{Name}
use Rattle.unfolding.specs.Unfolding.{Unfolds}
use Rattle.unfolding.proofs.Unfolding.{unique}
use Rattle.life.specs.Rounds.{found}
use Rattle.life.specs.Tests.{both, source}
use Rattle.life.specs.Written.{settled_as, declared_as, Origin, expression, unknown, table, write_type, origin_found, origin_at, OriginLaw, ExpressionLaw, TypesLaw}
use Rattle.life.proofs.Known.{found_tells, found_right}
use Rattle.life.proofs.Life.{fit}
use Rattle.life.proofs.Lists.{split_option, is_some_if}
use Rattle.life.proofs.Tells.{source_is}

table_found : (x : Option CatalogColumn) (t n : Name) → origin_found x ≡ table t n → (k : CatalogColumn) × (x ≡ Some k) × (k.table ≡ t) × (k.column ≡ n)
table_found None t n e = absurd cc
table_found (Some k) t n e = (k, refl, ap table_of e, ap column_of e)
  where
    table_of : Origin → Name
    table_of expression = []
    table_of unknown = []
    table_of (table t n) = t

    column_of : Origin → Name
    column_of expression = []
    column_of unknown = []
    column_of (table t n) = n

pub origin_law : OriginLaw
origin_law b f t n = (
  λ e.
      ⊎_elim
      (λ z. let x : expression ≡ table t n = sym (ap (origin_at b) z) ∙ e in absurd cc)
      (λ z.
      let s = (source_is f z.0.0 z.0.1).0 z.1 in
      let k = table_found (b.columns z.0.0 z.0.1) t n (sym (ap (origin_at b) z.1) ∙ e) in
      (z.0.0, z.0.1, k.0, s.0, s.1, k.1, k.2, k.3))
      (split_option (source f)),
  λ x. ap (origin_at b) ((source_is f x.0 x.1).1 (x.3, x.4)) ∙ ap origin_found x.5 ∙ (λ i. table (x.6 i) (x.7 i)),
)

pub expression_law : ExpressionLaw
expression_law b f = (from f.relation f.attribute, to f.relation f.attribute)
  where
    found_not : (x : Option CatalogColumn) → origin_found x ≡ expression → ⊥
    found_not None e = absurd cc
    found_not (Some k) e = absurd cc

    from : (x : Option ℕ) (y : Option ℤ) → origin_at b (both x y) ≡ expression → (x ≡ None) ⊎ (y ≡ None)
    from None y e = inl refl
    from (Some r) None e = inr refl
    from (Some r) (Some a) e = absurd (found_not (b.columns r a) e)

    to : (x : Option ℕ) (y : Option ℤ) → (x ≡ None) ⊎ (y ≡ None) → origin_at b (both x y) ≡ expression
    to x y (inl e) = ap (λ v. origin_at b (both v y)) e
    to None y (inr e) = refl
    to (Some r) y (inr e) = ap (λ v. origin_at b (both (Some r) v)) e

pub types_law : TypesLaw
types_law h c b l o t =
    let right = (fit h c b l).sound.right in (
      λ e.
          ⊎_elim
          (λ v. let f : declared_as o ≡ settled_as o t = sym (ap (write_type o) v) ∙ e in absurd cc)
          (λ v.
          let f : settled_as o v.0 ≡ settled_as o t = sym (ap (write_type o) v.1) ∙ e in
          let z : v.0 ≡ t = cc in
          ((found_tells b.descriptors o).0 (ap is_some v.1), subst (Unfolds c o) z (found_right c b.descriptors right o v.0 v.1)))
          (split_option (found b.descriptors o)),
      λ x.
          let v = is_some_if (found b.descriptors o) ((found_tells b.descriptors o).1 x.0) in
          ap (write_type o) v.1 ∙ ap (settled_as o) (unique c o v.0 t (found_right c b.descriptors right o v.0 v.1) x.1),
    )
