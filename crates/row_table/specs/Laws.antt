-- A row table keeps the laws of a catalog.
-- Assumes nothing.
use Rattle.std.specs.Prelude.{◌≡◌, ℕ, true, List, is_some, Some, None, Option, ◌≢◌, refl}
use Rattle.std.proofs.Common.{arith, subst}
use Rattle.std.specs.Option.{option_map}
use Rattle.catalog.specs.declared.row.Row.{Row}
use Rattle.catalog.specs.declared.text.Text.{Text}
use Rattle.catalog.specs.Catalog.{CatalogColumn, CatalogRow, Laws, RowFits, Sized}
use Rattle.catalog.specs.Meaning.{row_meaning, row_told, text_of}
use Rattle.catalog.proofs.Fits.{row_fits, text-sized}
use Rattle.indexes.specs.Known.{by_attribute, by_oid}
use Rattle.row_table.specs.declared.table.RowTable.{RowTable}
use Rattle.row_table.specs.Held.{column_from}
use Rattle.row_table.specs.Table.{held_of, meaning_of}

no-some : {A : Type 0} (a : A) → None ≢ Some a
no-some a e = let z : ◌≡◌ {A = ℕ} 0 1 = cc in omega arith

there : {A : Type 0} (x : Option A) → is_some x ≡ true → (a : A) × (x ≡ Some a)
there None e = let z : ◌≡◌ {A = ℕ} 0 1 = cc in absurd (omega arith)
there (Some a) e = (a, refl)

row-fits : (x : Option Row) (r : CatalogRow) → row_told x ≡ Some r → RowFits r
row-fits None r e = absurd (no-some r e)
row-fits (Some k) r e = let same : row_meaning k ≡ r = cc in subst RowFits same (row_fits k)

text-fits : (most : ℕ) (x : Option (Text most)) (s : List ℕ) → option_map text_of x ≡ Some s → Sized most s
text-fits most None s e = absurd (no-some s e)
text-fits most (Some t) s e = let same : text_of t ≡ s = cc in subst (Sized most) same (text-sized most t)

pub column-some : (table name : Option (List ℕ)) (k : CatalogColumn) → column_from table name ≡ Some k → (table ≡ Some k.table) × (name ≡ Some k.column)
column-some None name k e = absurd (no-some k e)
column-some (Some t) None k e = absurd (no-some k e)
column-some (Some t) (Some n) k e = (cc, cc)

same-table :
    (table name other : Option (List ℕ)) (k m : CatalogColumn) → column_from table name ≡ Some k → column_from table other ≡ Some m →
    k.table ≡ m.table
same-table table name other k m e d =
    let v : table ≡ Some k.table = (column-some table name k e).0 in
    let w : table ≡ Some m.table = (column-some table other m d).0 in
    cc

pub table-laws : (t : RowTable) → Laws (meaning_of t)
table-laws t = record {
  nonzero = t.consistent.no_zero;
  rows_fit = λ o r e. row-fits (by_oid t.rows o) r e;
  names_fit = t.consistent.names_fit;
  columns_fit = λ o a k e.
      let w = column-some ((held_of t).tables o) ((held_of t).column_names (o, a)) k e in
      (text-fits 128 (by_oid t.relations o) k.table w.0, text-fits 63 (by_attribute t.columns (o, a)) k.column w.1);
  pretty_leads = t.consistent.pretty_leads;
  named_stands = λ s o e. there ((held_of t).rows o) (t.consistent.named_stands s o e);
  one_table = λ o a b k m e d. same-table ((held_of t).tables o) ((held_of t).column_names (o, a)) ((held_of t).column_names (o, b)) k m e d;
}
