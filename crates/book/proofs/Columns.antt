-- A column goes in behind the table of its relation.
-- Assumes nothing.
use Rattle.std.proofs.Common.{◌≡◌, nat_eq, Some, None, Option, sym, refl, ap, ◌∙◌, subst, arith}
use Rattle.std.proofs.lemmas.Bool.{cond-true}
use Rattle.std.proofs.lemmas.Bool.Decides.{Decides-eqb}
use Rattle.catalog.specs.Catalog.{CatalogColumn}
use Rattle.catalog.specs.Shape.{Name}
use Rattle.keys.specs.Senses.{Pair}
use Rattle.life.proofs.Lists.{not_some_none}
use Rattle.book.specs.Adding.{with_own_column, with_related}
use Rattle.book.specs.Held.{Fits, Held, column_of_relation, size_of_column, size_of_column_name, size_of_relation, sum_of, with_relation}

module _ (h : Held) (p : Pair) (k : CatalogColumn) where
  pub column_behind : (x : Option Name) → h.relations p.0 ≡ x → (g : Held) → g ≡ with_related h x p.0 k.table → with_own_column g (g.relations p.0) p k.column ≡ column_of_relation h x p k
  column_behind (Some t) e g same =
      (λ i. with_own_column (same i) ((same i).relations p.0) p k.column) ∙ ap (λ x. with_own_column h x p k.column) e
  column_behind None e g same =
      let there = cond-true (nat_eq p.0 p.0) (Some k.table) (h.relations p.0) ((Decides-eqb p.0 p.0).1 refl) in
      (λ i. with_own_column (same i) ((same i).relations p.0) p k.column) ∙ ap (λ x. with_own_column (with_relation h p.0 k.table) x p k.column) there

  -- and both fit where they do together
  pub relation_fits : (x : Option Name) → Fits (sum_of h.taken (size_of_column x k)) h.capacity → x ≡ None → Fits (sum_of h.taken (size_of_relation k.table)) h.capacity
  relation_fits (Some t) fits e = absurd (not_some_none t refl e)
  relation_fits None fits e = record {
    descriptors = omega (arith, fits.descriptors);
    parts = omega (arith, fits.parts);
    names = omega (arith, fits.names);
    arrays = omega (arith, fits.arrays);
    text = omega (arith, fits.text);
    columns = omega (arith, fits.columns);
    relations = omega (arith, fits.relations);
  }

  pub column_fits : (x : Option Name) → Fits (sum_of h.taken (size_of_column x k)) h.capacity → (g : Held) → g ≡ with_related h x p.0 k.table →
      Fits (sum_of g.taken (size_of_column_name k.column)) g.capacity
  column_fits x fits g same = subst (λ (y : Held). Fits (sum_of y.taken (size_of_column_name k.column)) y.capacity) (sym same) (go x fits)
    where
      go : (x : Option Name) → Fits (sum_of h.taken (size_of_column x k)) h.capacity → Fits (sum_of (with_related h x p.0 k.table).taken (size_of_column_name k.column)) (with_related h x p.0 k.table).capacity
      go (Some t) fits = fits
      go None fits = record {
        descriptors = omega (arith, fits.descriptors);
        parts = omega (arith, fits.parts);
        names = omega (arith, fits.names);
        arrays = omega (arith, fits.arrays);
        text = omega (arith, fits.text);
        columns = omega (arith, fits.columns);
        relations = omega (arith, fits.relations);
      }

  pub column_fresh : (x : Option Name) → (g : Held) → g ≡ with_related h x p.0 k.table → h.columns p ≡ None → g.columns p ≡ None
  column_fresh (Some t) g same e = ap (λ (y : Held). y.columns p) same ∙ e
  column_fresh None g same e = ap (λ (y : Held). y.columns p) same ∙ e
