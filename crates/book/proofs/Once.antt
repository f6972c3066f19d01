-- Tables that hold each key once do so with one entry more whose key they did not hold.
-- Assumes nothing.
use Rattle.std.proofs.Common.{◌≡◌, ℕ, ◌⊎◌, ℤ, List, [], ◌∷◌, ◌++◌, nat_eq, bytes_eq, Some, None, Option, sym, refl, ap, ◌∙◌, inl, inr, ⊎_elim}
use Rattle.std.specs.Option.{option_or}
use Rattle.std.proofs.lemmas.Bool.{cond-true}
use Rattle.std.proofs.lemmas.Bool.Decides.{Decides-eqb}
use Rattle.std.proofs.lemmas.Slice.Eq.{bytes_eq-Decides}
use Rattle.catalog.specs.Catalog.{CatalogColumn}
use Rattle.catalog.specs.Shape.{Name}
use Rattle.keys.specs.Kinds.{same-pair}
use Rattle.keys.specs.Senses.{Pair, same_pair}
use Rattle.unfolding.specs.Unfolding.{Tree}
use Rattle.life.proofs.Tells.{or_first, or_next, or_some}
use Rattle.room.specs.Added.{Held, Once}
use Rattle.room.specs.Tables.{Tables, extended, look_up}
use Rattle.room.proofs.Holding.{Related, without}
use Rattle.room.proofs.LookUp.{look_append, look_mem}
use Rattle.room.proofs.Permuted.{once_more}
use Rattle.book.specs.Stands.{one_array, one_column, one_descriptor, one_name}

module _ (t : Tables) (h : Held t) where
  same_related : Related (t.relations ++ []) (t.columns ++ [])
  same_related = without (λ l. Related l (t.columns ++ [])) t.relations (without (λ l. Related t.relations l) t.columns h.related)

  pub once_descriptor : (o : ℕ) (u : Tree) → look_up nat_eq t.descriptors o ≡ None → Held (extended t (one_descriptor o u))
  once_descriptor o u new = record {
    descriptors = once_more nat_eq Decides-eqb t.descriptors h.descriptors o u new;
    names = without (λ l. Once l) t.names h.names;
    arrays = without (λ l. Once l) t.arrays h.arrays;
    columns = without (λ l. Once l) t.columns h.columns;
    relations = without (λ l. Once l) t.relations h.relations;
    related = same_related;
  }

  pub once_name : (n : Name) (o : ℕ) → look_up bytes_eq t.names n ≡ None → Held (extended t (one_name n o))
  once_name n o new = record {
    descriptors = without (λ l. Once l) t.descriptors h.descriptors;
    names = once_more bytes_eq bytes_eq-Decides t.names h.names n o new;
    arrays = without (λ l. Once l) t.arrays h.arrays;
    columns = without (λ l. Once l) t.columns h.columns;
    relations = without (λ l. Once l) t.relations h.relations;
    related = same_related;
  }

  pub once_array : (e a : ℕ) → look_up nat_eq t.arrays e ≡ None → Held (extended t (one_array e a))
  once_array e a new = record {
    descriptors = without (λ l. Once l) t.descriptors h.descriptors;
    names = without (λ l. Once l) t.names h.names;
    arrays = once_more nat_eq Decides-eqb t.arrays h.arrays e a new;
    columns = without (λ l. Once l) t.columns h.columns;
    relations = without (λ l. Once l) t.relations h.relations;
    related = same_related;
  }

  module _ (p : Pair) (k : CatalogColumn) (new : look_up same_pair t.columns p ≡ None) where
    abbrev columns : List (Pair × CatalogColumn)
    columns = t.columns ++ (p, k) ∷ []

    abbrev held : ℕ → Option Name
    held r = look_up nat_eq t.relations r

    columns_look : (q : Pair) → look_up same_pair columns q ≡ option_or (look_up same_pair t.columns q) (look_up same_pair ((p, k) ∷ []) q)
    columns_look q = look_append same_pair same-pair t.columns ((p, k) ∷ []) q

    there : look_up same_pair columns p ≡ Some k
    there =
        columns_look p
        ∙ or_next (look_up same_pair t.columns p) (look_up same_pair ((p, k) ∷ []) p) new
        ∙ cond-true (same_pair p p) (Some k) None ((same-pair p p).1 refl)

    -- a column of the relation, by what is held of it
    abbrev Column : ℕ → Name → Type 0
    Column r n = (a : ℤ) × (c : CatalogColumn) × (look_up same_pair columns (r, a) ≡ Some c) × (c.table ≡ n)

    column_held : (r : ℕ) (n : Name) → held r ≡ Some n → Column r n
    column_held r n e =
        let x = (h.related r n).0 e in
        (x.0, x.1, columns_look (r, x.0) ∙ or_first (look_up same_pair t.columns (r, x.0)) (look_up same_pair ((p, k) ∷ []) (r, x.0)) x.1 x.2, x.3)

    -- which is held already, or the last
    column_of : (r : ℕ) (n : Name) → Column r n → (held r ≡ Some n) ⊎ ((r ≡ p.0) × (k.table ≡ n))
    column_of r n x =
        ⊎_elim
        (λ e. inl ((h.related r n).1 (x.0, x.1, e, x.3)))
        (λ e.
        ⊎_elim
        (λ m. inr (ap (λ (y : Pair × CatalogColumn). y.0.0) m, sym (ap (λ (y : Pair × CatalogColumn). y.1.table) m) ∙ x.3))
        (λ m. absurd m)
        (look_mem same_pair same-pair ((p, k) ∷ []) (r, x.0) x.1 e.1))
        (or_some (look_up same_pair t.columns (r, x.0)) (look_up same_pair ((p, k) ∷ []) (r, x.0)) x.1 (sym (columns_look (r, x.0)) ∙ x.2))

    related_held : (table : Name) → held p.0 ≡ Some table → table ≡ k.table → Related (t.relations ++ []) columns
    related_held table e same =
        without (λ l. Related l columns) t.relations
        (λ r n. (column_held r n, λ x. ⊎_elim (λ y. y) (λ y. ap held y.0 ∙ e ∙ ap (λ z. Some z) (same ∙ y.1)) (column_of r n x)))

    related_new : held p.0 ≡ None → Related (t.relations ++ (p.0, k.table) ∷ []) columns
    related_new e r n =
        let last : Option Name = look_up nat_eq ((p.0, k.table) ∷ []) r in
        let look : look_up nat_eq (t.relations ++ (p.0, k.table) ∷ []) r ≡ option_or (held r) last = look_append nat_eq Decides-eqb t.relations ((p.0, k.table) ∷ []) r in (
          λ y.
              ⊎_elim
              (column_held r n)
              (λ z.
              ⊎_elim
              (λ m. (
                p.1,
                k,
                ap (λ q. look_up same_pair columns (q, p.1)) (ap (λ (w : ℕ × Name). w.0) m) ∙ there,
                sym (ap (λ (w : ℕ × Name). w.1) m),
              ))
              (λ m. absurd m)
              (look_mem nat_eq Decides-eqb ((p.0, k.table) ∷ []) r n z.1))
              (or_some (held r) last n (sym look ∙ y)),
          λ x.
              look
              ∙ ⊎_elim
              (or_first (held r) last n)
              (λ y.
              or_next (held r) last (ap held y.0 ∙ e)
              ∙ cond-true (nat_eq r p.0) (Some k.table) None ((Decides-eqb r p.0).1 y.0)
              ∙ ap (λ z. Some z) y.1)
              (column_of r n x),
        )

    -- a column whose relation, if it has a table, has this one
    pub once_column : (x : Option Name) → held p.0 ≡ x → ((table : Name) → held p.0 ≡ Some table → table ≡ k.table) → Held (extended t (one_column x p k))
    once_column (Some table) e one = record {
      descriptors = without (λ l. Once l) t.descriptors h.descriptors;
      names = without (λ l. Once l) t.names h.names;
      arrays = without (λ l. Once l) t.arrays h.arrays;
      columns = once_more same_pair same-pair t.columns h.columns p k new;
      relations = without (λ l. Once l) t.relations h.relations;
      related = related_held table e (one table e);
    }
    once_column None e one = record {
      descriptors = without (λ l. Once l) t.descriptors h.descriptors;
      names = without (λ l. Once l) t.names h.names;
      arrays = without (λ l. Once l) t.arrays h.arrays;
      columns = once_more same_pair same-pair t.columns h.columns p k new;
      relations = once_more nat_eq Decides-eqb t.relations h.relations p.0 k.table e;
      related = related_new e;
    }
