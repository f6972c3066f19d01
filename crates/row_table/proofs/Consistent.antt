-- Nothing contradicts an addition that is new. Assumes nothing.
use Rattle.std.proofs.Common.{◌≡◌, ℕ, ◌≤◌, true, List, is_some, Some, None, Option, sym, refl, ap, ◌∙◌, subst, ⊎_elim, arith}
use Rattle.std.specs.Prelude.{nat_eq}
use Rattle.std.specs.Map.{update}
use Rattle.std.specs.Str.{bytes_eq}
use Rattle.std.proofs.lemmas.Slice.Eq.{bytes_eq-Decides}
use Rattle.std.proofs.lemmas.Bool.{false≢true}
use Rattle.std.proofs.lemmas.Bool.Decides.{Decides-eqb}
use Rattle.catalog.specs.Catalog.{CatalogColumn, CatalogRow, Sized}
use Rattle.keys.specs.declared.kinds.Attribute.{Attribute}
use Rattle.keys.specs.Kinds.{same-pair}
use Rattle.keys.specs.Senses.{Pair, pair_of, same_pair}
use Rattle.type_info.specs.declared.oid.Oid.{Oid}
use Rattle.row_table.specs.Additions.{with_column, with_name, with_row}
use Rattle.row_table.specs.Held.{Consistent, Held}
use Rattle.row_table.proofs.Fresh.{Beside, NewName, NewRow}
use Rattle.indexes.proofs.Updates.{here, stays, stays_some, was}

module _ (h : Held) (c : Consistent h) (oid : Oid) where
  pub consistent_with_row : (r : CatalogRow) → NewRow h oid r → 1 ≤ oid.0 → Sized 128 r.pretty → Consistent (with_row h oid r)
  consistent_with_row r new some sized = record {
    no_zero = zero (update nat_eq h.rows oid.0 (Some r) 0) refl;
    names_fit = λ s o e. ⊎_elim
        (λ w. subst (Sized 128) w.0 sized)
        (λ old. c.names_fit s o old)
        (was bytes_eq bytes_eq-Decides h.named r.pretty oid.0 s o e);
    pretty_leads = λ o k e. ⊎_elim
        (λ w.
        let at : update bytes_eq h.named r.pretty (Some oid.0) r.pretty ≡ Some oid.0 = here bytes_eq bytes_eq-Decides h.named r.pretty oid.0 in
        let told : update bytes_eq h.named r.pretty (Some oid.0) k.pretty ≡ update bytes_eq h.named r.pretty (Some oid.0) r.pretty = ap (λ (x : CatalogRow). update bytes_eq h.named r.pretty (Some oid.0) x.pretty) (sym w.1) in
        told ∙ at ∙ ap Some w.0)
        (λ old. stays bytes_eq bytes_eq-Decides h.named r.pretty oid.0 new.no_name k.pretty o (c.pretty_leads o k old))
        (was nat_eq Decides-eqb h.rows oid.0 r o k e);
    named_stands = λ s o e. ⊎_elim
        (λ w. subst (λ (n : ℕ). is_some (update nat_eq h.rows oid.0 (Some r) n) ≡ true) w.1 (ap is_some (here nat_eq Decides-eqb h.rows oid.0 r)))
        (λ old. stays_some nat_eq Decides-eqb h.rows oid.0 r o (c.named_stands s o old))
        (was bytes_eq bytes_eq-Decides h.named r.pretty oid.0 s o e);
    table_told = c.table_told;
  }
    where
      zero : (x : Option CatalogRow) → update nat_eq h.rows oid.0 (Some r) 0 ≡ x → update nat_eq h.rows oid.0 (Some r) 0 ≡ None
      zero None e = e
      zero (Some k) e = ⊎_elim
          (λ w. absurd (omega (arith, w.0)))
          (λ old. let none = c.no_zero in let z : ◌≡◌ {A = ℕ} 0 1 = cc in absurd (omega arith))
          (was nat_eq Decides-eqb h.rows oid.0 r 0 k e)

  pub consistent_with_name : (name : List ℕ) → NewName h oid name → Sized 128 name → Consistent (with_name h oid name)
  consistent_with_name name new sized = record {
    no_zero = c.no_zero;
    names_fit = λ s o e. ⊎_elim
        (λ w. subst (Sized 128) w.0 sized)
        (λ old. c.names_fit s o old)
        (was bytes_eq bytes_eq-Decides h.named name oid.0 s o e);
    pretty_leads = λ o k e. stays bytes_eq bytes_eq-Decides h.named name oid.0 new.no_name k.pretty o (c.pretty_leads o k e);
    named_stands = λ s o e. ⊎_elim
        (λ w. subst (λ (n : ℕ). is_some (h.rows n) ≡ true) w.1 (ap is_some new.row.1))
        (λ old. c.named_stands s o old)
        (was bytes_eq bytes_eq-Decides h.named name oid.0 s o e);
    table_told = c.table_told;
  }

-- a new column has no name yet: where its relation tells no table, it has no columns
pub no_column :
    (h : Held) → Consistent h → (at : Attribute) (table name : Option (List ℕ)) → h.tables at.relation.0 ≡ table → h.column_names (pair_of at) ≡ name →
    (k : List ℕ) → Beside table name k → name ≡ None
no_column h c at table None is named k beside = refl
no_column h c at None (Some n) is named k beside = absurd (false≢true (sym (ap is_some is) ∙ c.table_told at.relation.0 at.number.0 (ap is_some named)))
no_column h c at (Some table) (Some n) is named k beside = beside.1

some : {A : Type 0} (x : Option A) → is_some x ≡ true → (a : A) × (x ≡ Some a)
some None e = let z : ◌≡◌ {A = ℕ} 0 1 = cc in absurd (omega arith)
some (Some a) e = (a, refl)

pub consistent_with_column : (h : Held) → Consistent h → (at : Attribute) (k : CatalogColumn) → Consistent (with_column h at k)
consistent_with_column h c at k = record {
  no_zero = c.no_zero;
  names_fit = c.names_fit;
  pretty_leads = c.pretty_leads;
  named_stands = c.named_stands;
  table_told = λ o a e.
      let v = some (update same_pair h.column_names (pair_of at) (Some k.column) (o, a)) e in
      ⊎_elim
      (λ w. subst (λ (n : ℕ). is_some (update nat_eq h.tables at.relation.0 (Some k.table) n) ≡ true) (ap (λ (p : Pair). p.0) w.0) (ap is_some (here nat_eq Decides-eqb h.tables at.relation.0 k.table)))
      (λ old. stays_some nat_eq Decides-eqb h.tables at.relation.0 k.table o (c.table_told o a (ap is_some old)))
      (was same_pair same-pair h.column_names (pair_of at) k.column (o, a) v.0 v.1);
}
