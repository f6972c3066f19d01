-- An addition alters nothing that is held. Assumes nothing.
use Rattle.std.proofs.Common.{◌≡◌, ℕ, true, false, List, ℤ, Some, None, Ok, Err, Option, sym, refl, ap, ◌∙◌, subst, ⊎_elim}
use Rattle.std.specs.Prelude.{nat_eq}
use Rattle.std.specs.Map.{update}
use Rattle.std.specs.Str.{bytes_eq}
use Rattle.std.proofs.lemmas.Slice.Eq.{bytes_eq-Decides}
use Rattle.std.proofs.lemmas.Bool.{cases_Bool, cond-true, cond-false}
use Rattle.std.proofs.lemmas.Bool.Decides.{Decides-eqb}
use Rattle.catalog.specs.Catalog.{CatalogColumn, CatalogRow, Grows}
use Rattle.keys.specs.declared.kinds.Attribute.{Attribute}
use Rattle.keys.specs.Kinds.{same-pair}
use Rattle.keys.specs.Senses.{pair_of, same_pair}
use Rattle.type_info.specs.declared.oid.Oid.{Oid}
use Rattle.row_table.specs.Additions.{Judged, column_judged, column_then, held_then, name_judged, name_then, row_judged, row_then, then_held, with_column, with_name, with_row}
use Rattle.row_table.specs.Held.{Consistent, Held, catalog_of}
use Rattle.row_table.specs.Laws.{column-some}
use Rattle.row_table.proofs.Fresh.{Beside, new_column, new_name, new_row}
use Rattle.row_table.proofs.Consistent.{no_column}
use Rattle.indexes.proofs.Updates.{stays}

nothing_new : (h : Held) → Grows (catalog_of h) (catalog_of h)
nothing_new h = record { rows_stay = λ o r e. e; named_stay = λ s o e. e; columns_stay = λ o a k e. e }

-- where what is new grows the catalog, so does what is judged
judged_grows : (h added : Held) (j : Judged) → (j ≡ Ok true → Grows (catalog_of h) (catalog_of added)) → Grows (catalog_of h) (catalog_of (held_then j h added))
judged_grows h added (Ok true) new = new refl
judged_grows h added (Ok false) new = nothing_new h
judged_grows h added (Err fault) new = nothing_new h

offer_grows :
    {A : Type 0} (h : Held) (offered : Option A) (judge : A → Judged) (with : A → Held) →
    ((x : A) → judge x ≡ Ok true → Grows (catalog_of h) (catalog_of (with x))) → (after : Held) → after ≡ then_held h offered judge with →
    Grows (catalog_of h) (catalog_of after)
offer_grows h None judge with new after is = subst (λ (d : Held). Grows (catalog_of h) (catalog_of d)) (sym is) (nothing_new h)
offer_grows h (Some x) judge with new after is = subst (λ (d : Held). Grows (catalog_of h) (catalog_of d)) (sym is) (judged_grows h (with x) (judge x) (new x))

module _ (h : Held) (oid : Oid) where
  pub row_grows : (offered : Option CatalogRow) (after : Held) → after ≡ row_then h oid offered → Grows (catalog_of h) (catalog_of after)
  row_grows offered after is = offer_grows h offered (row_judged h oid) (with_row h oid) new after is
    where
      new : (r : CatalogRow) → row_judged h oid r ≡ Ok true → Grows (catalog_of h) (catalog_of (with_row h oid r))
      new r e =
          let fresh = new_row h oid r e in
          record {
            rows_stay = λ o k there. stays nat_eq Decides-eqb h.rows oid.0 r fresh.no_row o k there;
            named_stay = λ s o there. stays bytes_eq bytes_eq-Decides h.named r.pretty oid.0 fresh.no_name s o there;
            columns_stay = λ o a k there. there;
          }

  pub name_grows : (offered : Option (List ℕ)) (after : Held) → after ≡ name_then h oid offered → Grows (catalog_of h) (catalog_of after)
  name_grows offered after is = offer_grows h offered (name_judged h oid) (with_name h oid) new after is
    where
      new : (name : List ℕ) → name_judged h oid name ≡ Ok true → Grows (catalog_of h) (catalog_of (with_name h oid name))
      new name e = record {
        rows_stay = λ o k there. there;
        named_stay = λ s o there. stays bytes_eq bytes_eq-Decides h.named name oid.0 (new_name h oid name e).no_name s o there;
        columns_stay = λ o a k there. there;
      }

module _ (h : Held) (c : Consistent h) (at : Attribute) where
  module _ (k : CatalogColumn) where
    -- a table that a relation tells stays, though its column's is put again
    table_stays : (table : Option (List ℕ)) → h.tables at.relation.0 ≡ table → (name : Option (List ℕ)) → Beside table name k.table → (o : ℕ) (t : List ℕ) → h.tables o ≡ Some t → update nat_eq h.tables at.relation.0 (Some k.table) o ≡ Some t
    table_stays None is name beside o t there = stays nat_eq Decides-eqb h.tables at.relation.0 k.table is o t there
    table_stays (Some held) is name beside o t there =
        ⊎_elim
        (λ same.
        let here : h.tables at.relation.0 ≡ h.tables o = ap h.tables ((Decides-eqb at.relation.0 o).0 same) in
        cond-true (nat_eq at.relation.0 o) (Some k.table) (h.tables o) same ∙ sym (ap Some ((bytes_eq-Decides held k.table).0 beside.0)) ∙ sym is ∙ here ∙ there)
        (λ other. cond-false (nat_eq at.relation.0 o) (Some k.table) (h.tables o) other ∙ there)
        (cases_Bool (nat_eq at.relation.0 o))

    column_stays : (o : ℕ) (a : ℤ) (m : CatalogColumn) → column_judged h at k ≡ Ok true → (catalog_of h).columns o a ≡ Some m → (catalog_of (with_column h at k)).columns o a ≡ Some m
    column_stays o a m judged there =
        let fresh = new_column h at k judged in
        let none = no_column h c at (h.tables at.relation.0) (h.column_names (pair_of at)) refl refl k.table fresh.beside in
        let parts = column-some (h.tables o) (h.column_names (o, a)) m there in
        let table = table_stays (h.tables at.relation.0) refl (h.column_names (pair_of at)) fresh.beside o m.table parts.0 in
        let name = stays same_pair same-pair h.column_names (pair_of at) k.column none (o, a) m.column parts.1 in
        rw (table, name) refl

  pub column_grows : (offered : Option CatalogColumn) (after : Held) → after ≡ column_then h at offered → Grows (catalog_of h) (catalog_of after)
  column_grows offered after is =
      offer_grows h offered (column_judged h at) (with_column h at)
      (λ k e. record { rows_stay = λ o r there. there; named_stay = λ s o there. there; columns_stay = λ o a m there. column_stays k o a m e there })
      after is
