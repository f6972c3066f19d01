-- What the tables hold before anything was put into them and once an addition that is new was, and the room that is left.
-- Assumes nothing.
use Rattle.std.proofs.Common.{◌≡◌, ℕ, ◌+◌, ◌<◌, ◌≤◌, true, List, [], length, Some, None, Ok, Option, sym, refl, ap, ◌∙◌, subst, arith, length-append}
use Rattle.std.specs.Prelude.{nat_eq}
use Rattle.std.specs.Map.{update}
use Rattle.std.specs.Option.{option_map}
use Rattle.std.specs.Str.{bytes_eq}
use Rattle.std.proofs.lemmas.Slice.Eq.{bytes_eq-Decides}
use Rattle.std.proofs.lemmas.Bool.Decides.{Decides-eqb}
use Rattle.catalog.specs.declared.row.Row.{Row}
use Rattle.catalog.specs.declared.text.Text.{Text}
use Rattle.catalog.specs.declared.values.Column.{Column}
use Rattle.catalog.specs.Catalog.{Sized}
use Rattle.catalog.specs.Meaning.{column_meaning, oid_told, row_meaning, row_told, text_of}
use Rattle.catalog.proofs.Fits.{text-sized}
use Rattle.indexes.specs.Known.{Gained, GainedName, HasEmpty, HasRoom, Interned, Names, by_attribute, by_oid, known}
use Rattle.keys.specs.declared.kinds.Attribute.{Attribute}
use Rattle.keys.specs.Senses.{Pair, oid_of, pair_of, same_pair}
use Rattle.slots.specs.Slots.{Entry, filled}
use Rattle.slots.specs.Text.{LentText, lent}
use Rattle.type_info.specs.declared.oid.Oid.{Oid}
use Rattle.row_table.specs.declared.table.RowTable.{RowTable}
use Rattle.row_table.specs.Additions.{column_judged, name_judged, parts, row_judged, with_column, with_name, with_row}
use Rattle.row_table.specs.Held.{Consistent, Held, nothing_held}
use Rattle.row_table.specs.Table.{held_of}
use Rattle.row_table.specs.Tables.{Roomy, holding}
use Rattle.row_table.proofs.Consistent.{consistent_with_column, consistent_with_name, consistent_with_row, no_column}
use Rattle.row_table.proofs.Fresh.{Beside, new_column, new_name, new_row}
use Rattle.indexes.proofs.Updates.{put_again, told_after}

-- tables that hold h, and no more than they may
pub record Holds (h : Held) (rows : List (Entry Oid Row)) (names : Names Oid) (parts : ℕ) (relations : List (Entry Oid (Text 128))) (columns : List (Entry Attribute (Text 63))) (allowance : ℕ) : Type 0 where
  pub held : holding rows names parts relations columns allowance ≡ h
  pub roomy : Roomy rows names parts relations columns
  pub consistent : Consistent (holding rows names parts relations columns allowance)

nothing_consistent : (allowance : ℕ) → Consistent (nothing_held allowance)
nothing_consistent allowance = record {
  no_zero = refl;
  names_fit = λ s o e. absurd (none-some o e);
  pretty_leads = λ o r e. absurd (none-some r e);
  named_stands = λ s o e. absurd (none-some o e);
  table_told = λ o a e. e;
}
  where
    none-some : {A : Type 0} (a : A) → ◌≡◌ {A = Option A} None (Some a) → ⊥
    none-some a e = let z : ◌≡◌ {A = ℕ} 0 1 = cc in omega arith

-- tables in which nothing has been put
pub nothing_put :
    (rows : List (Entry Oid Row)) (names : Names Oid) (relations : List (Entry Oid (Text 128))) (columns : List (Entry Attribute (Text 63))) (allowance : ℕ) (text : List ℕ) →
    ((o : ℕ) → by_oid rows o ≡ None) → filled rows ≡ 0 → length rows ≡ 256 →
    ((s : List ℕ) → known names s ≡ None) → filled names.slots ≡ 0 → length names.slots ≡ 512 → names.text ≡ record { text = []; spare = text } → length text ≡ 65536 →
    ((o : ℕ) → by_oid relations o ≡ None) → filled relations ≡ 0 → length relations ≡ 1024 →
    ((p : Pair) → by_attribute columns p ≡ None) → filled columns ≡ 0 → length columns ≡ 1024 →
    Holds (nothing_held allowance) rows names 0 relations columns allowance
nothing_put rows names relations columns allowance text no_rows row_count rows_lent no_names name_count names_lent no_text text_lent no_relations relation_count relations_lent no_columns column_count columns_lent =
    let held : holding rows names 0 relations columns allowance ≡ nothing_held allowance =
    λ i. record {
      rows = λ o. ap row_told (no_rows o) i;
      named = λ s. ap oid_told (no_names s) i;
      tables = λ o. ap (λ (x : Option (Text 128)). option_map text_of x) (no_relations o) i;
      column_names = λ p. ap (λ (x : Option (Text 63)). option_map text_of x) (no_columns p) i;
      allowance = allowance;
      row_count = row_count i;
      name_count = name_count i;
      part_count = 0;
      column_count = column_count i;
    } in
    record {
      held = held;
      roomy = record {
        rows_lent = rows_lent;
        names_lent = names_lent;
        text_lent = let long : lent names.text ≡ 0 + length text = ap lent no_text in omega (arith, long, text_lent);
        text_used = let used : length names.text.text ≡ 0 = ap (λ (t : LentText). length t.text) no_text in omega (arith, used);
        parts_few = omega arith;
        relations_lent = relations_lent;
        relations_few = omega (arith, relation_count);
        columns_lent = columns_lent;
      };
      consistent = subst Consistent (sym held) (nothing_consistent allowance);
    }

-- an absent key that is offered where there is room is added
taken : {V : Type 0} (before : Option V) (offered : V) (room added same : Type 0) (r : Option V) → Interned before offered room added same r → before ≡ None → room → added
taken None offered room added same (Some v) h none there = h.2
taken None offered room added same None h none there = absurd (h.0 there)
taken (Some w) offered room added same r h none there = let z : ◌≡◌ {A = ℕ} 0 1 = cc in absurd (omega arith)

untold : (x : Option Oid) → oid_told x ≡ None → x ≡ None
untold None e = refl
untold (Some o) e = let z : ◌≡◌ {A = ℕ} 0 1 = cc in absurd (omega arith)

unrowed : (x : Option Row) → row_told x ≡ None → x ≡ None
unrowed None e = refl
unrowed (Some r) e = let z : ◌≡◌ {A = ℕ} 0 1 = cc in absurd (omega arith)

module _ (t : RowTable) where
  abbrev h : Held
  h = held_of t

  module _ (oid : Oid) (name : List ℕ) (sized : Sized 128 name) (free : h.named name ≡ None) (left : h.name_count < 512) (names : Names Oid) (r : Option Oid)
      (interned : Interned (known t.names name) oid (HasRoom t.names (length name)) (GainedName t.names name oid names) (names ≡ t.names) r) where
    -- there is a slot for the name, and 128 bytes for each
    pub gained_name : GainedName t.names name oid names
    gained_name =
        taken (known t.names name) oid _ _ _ r interned (untold (known t.names name) free) (
          omega (arith, t.roomy.names_lent),
          record {
            lent = omega (arith, t.roomy.text_used, t.roomy.text_lent, sized.1);
            told = omega (arith, t.roomy.text_used, sized.1);
          },
        )

    held_then : holding t.rows names t.part_count t.relations t.columns t.allowance ≡ with_name h oid name
    held_then =
        let named = told_after bytes_eq oid_told (known t.names) (known names) name oid gained_name.knows in
        λ i. record h { named = named i; name_count = gained_name.count i }

    pub roomy_then : Roomy t.rows names t.part_count t.relations t.columns
    roomy_then = record {
      rows_lent = t.roomy.rows_lent;
      names_lent = gained_name.size ∙ t.roomy.names_lent;
      text_lent = gained_name.lent ∙ t.roomy.text_lent;
      text_used = let long : length names.text.text ≡ length t.names.text.text + length name = ap length gained_name.text ∙ length-append t.names.text.text name in
          omega (arith, long, gained_name.count, t.roomy.text_used, sized.1);
      parts_few = t.roomy.parts_few;
      relations_lent = t.roomy.relations_lent;
      relations_few = t.roomy.relations_few;
      columns_lent = t.roomy.columns_lent;
    }

  pub name_put :
      (oid : Oid) (name : List ℕ) → Sized 128 name → name_judged h oid name ≡ Ok true → (names : Names Oid) (r : Option Oid) →
      Interned (known t.names name) oid (HasRoom t.names (length name)) (GainedName t.names name oid names) (names ≡ t.names) r →
      Holds (with_name h oid name) t.rows names t.part_count t.relations t.columns t.allowance
  name_put oid name sized judged names r interned =
      let new = new_name h oid name judged in
      let held = held_then oid name sized new.no_name new.names_left names r interned in
      record {
        held = held;
        roomy = roomy_then oid name sized new.no_name new.names_left names r interned;
        consistent = subst Consistent (sym held) (consistent_with_name h t.consistent oid name new sized);
      }

  pub row_put :
      (oid : Oid) (row : Row) → 1 ≤ oid.0 → row_judged h oid (row_meaning row) ≡ Ok true → (names : Names Oid) (r : Option Oid) →
      Interned (known t.names (text_of row.pretty)) oid (HasRoom t.names (length (text_of row.pretty))) (GainedName t.names (text_of row.pretty) oid names) (names ≡ t.names) r →
      (rows : List (Entry Oid Row)) (k : Option Row) →
      Interned (by_oid t.rows oid.0) row (HasEmpty t.rows) (Gained nat_eq oid_of t.rows oid.0 row rows) (rows ≡ t.rows) k →
      (count : ℕ) → count ≡ t.part_count + parts (row_meaning row) →
      Holds (with_row h oid (row_meaning row)) rows names count t.relations t.columns t.allowance
  row_put oid row some judged names r interned rows k placed count counted =
      let new = new_row h oid (row_meaning row) judged in
      let sized = text-sized 128 row.pretty in
      let name = text_of row.pretty in
      let gained = gained_name oid name sized new.no_name new.names_left names r interned in
      let place : Gained nat_eq oid_of t.rows oid.0 row rows = taken (by_oid t.rows oid.0) row _ _ _ k placed (unrowed (by_oid t.rows oid.0) new.no_row) (omega (arith, t.roomy.rows_lent, new.rows_left)) in
      let told = told_after nat_eq row_told (by_oid t.rows) (by_oid rows) oid.0 row place.holds in
      let named = told_after bytes_eq oid_told (known t.names) (known names) name oid gained.knows in
      let held : holding rows names count t.relations t.columns t.allowance ≡ with_row h oid (row_meaning row) =
      λ i. record h { rows = told i; named = named i; row_count = place.count i; name_count = gained.count i; part_count = counted i } in
      let room = roomy_then oid name sized new.no_name new.names_left names r interned in
      record {
        held = held;
        roomy = record {
          rows_lent = place.size ∙ t.roomy.rows_lent;
          names_lent = room.names_lent;
          text_lent = room.text_lent;
          text_used = room.text_used;
          parts_few = omega (arith, counted, new.parts_left);
          relations_lent = room.relations_lent;
          relations_few = room.relations_few;
          columns_lent = room.columns_lent;
        };
        consistent = subst Consistent (sym held) (consistent_with_row h t.consistent oid (row_meaning row) new some sized);
      }

  -- the relation tells the column's table, by what was held of it or newly
  record TableHeld (at : Attribute) (k : Column) (relations : List (Entry Oid (Text 128))) : Type 0 where
    told : (λ o. option_map text_of (by_oid relations o)) ≡ update nat_eq h.tables at.relation.0 (Some (text_of k.table))
    size : length relations ≡ 1024
    few : filled relations ≤ filled t.columns + 1

  module _ (at : Attribute) (k : Column) (left : h.column_count < 1024) (relations : List (Entry Oid (Text 128))) (r : Option (Text 128)) where
    table_held :
        (there : Option (Text 128)) → by_oid t.relations at.relation.0 ≡ there →
        Interned there k.table (HasEmpty t.relations) (Gained nat_eq oid_of t.relations at.relation.0 k.table relations) (relations ≡ t.relations) r →
        (name : Option (List ℕ)) → Beside (option_map text_of there) name (text_of k.table) → TableHeld at k relations
    table_held None is interned name beside =
        let gained : Gained nat_eq oid_of t.relations at.relation.0 k.table relations =
        taken None k.table _ _ _ r interned refl (omega (arith, t.roomy.relations_lent, t.roomy.relations_few, left)) in
        record {
          told = told_after nat_eq (option_map text_of) (by_oid t.relations) (by_oid relations) at.relation.0 k.table gained.holds;
          size = gained.size ∙ t.roomy.relations_lent;
          few = omega (arith, gained.count, t.roomy.relations_few);
        }
    table_held (Some there) is interned name beside =
        let same : text_of there ≡ text_of k.table = (bytes_eq-Decides (text_of there) (text_of k.table)).0 beside.0 in
        let held : h.tables at.relation.0 ≡ Some (text_of k.table) = ap (option_map text_of) is ∙ ap Some same in
        record {
          told = ap (λ (es : List (Entry Oid (Text 128))). λ o. option_map text_of (by_oid es o)) interned.1 ∙ put_again nat_eq Decides-eqb h.tables at.relation.0 (text_of k.table) held;
          size = ap length interned.1 ∙ t.roomy.relations_lent;
          few = let count : filled relations ≡ filled t.relations = ap filled interned.1 in omega (arith, t.roomy.relations_few);
        }

  unmapped : {n : ℕ} (x : Option (Text n)) → option_map text_of x ≡ None → x ≡ None
  unmapped None e = refl
  unmapped (Some s) e = let z : ◌≡◌ {A = ℕ} 0 1 = cc in absurd (omega arith)

  pub column_put :
      (at : Attribute) (k : Column) → column_judged h at (column_meaning k) ≡ Ok true → (relations : List (Entry Oid (Text 128))) (r : Option (Text 128)) →
      Interned (by_oid t.relations at.relation.0) k.table (HasEmpty t.relations) (Gained nat_eq oid_of t.relations at.relation.0 k.table relations) (relations ≡ t.relations) r →
      (columns : List (Entry Attribute (Text 63))) (n : Option (Text 63)) →
      Interned (by_attribute t.columns (pair_of at)) k.name (HasEmpty t.columns) (Gained same_pair pair_of t.columns (pair_of at) k.name columns) (columns ≡ t.columns) n →
      Holds (with_column h at (column_meaning k)) t.rows t.names t.part_count relations columns t.allowance
  column_put at k judged relations r interned columns n placed =
      let new = new_column h at (column_meaning k) judged in
      let table = table_held at k new.columns_left relations r (by_oid t.relations at.relation.0) refl interned (h.column_names (pair_of at)) new.beside in
      let none = no_column h t.consistent at (h.tables at.relation.0) (h.column_names (pair_of at)) refl refl (text_of k.table) new.beside in
      let gained : Gained same_pair pair_of t.columns (pair_of at) k.name columns =
      taken (by_attribute t.columns (pair_of at)) k.name _ _ _ n placed (unmapped (by_attribute t.columns (pair_of at)) none) (omega (arith, t.roomy.columns_lent, new.columns_left)) in
      let told = told_after same_pair (option_map text_of) (by_attribute t.columns) (by_attribute columns) (pair_of at) k.name gained.holds in
      let held : holding t.rows t.names t.part_count relations columns t.allowance ≡ with_column h at (column_meaning k) =
      λ i. record h { tables = table.told i; column_names = told i; column_count = gained.count i } in
      record {
        held = held;
        roomy = record {
          rows_lent = t.roomy.rows_lent;
          names_lent = t.roomy.names_lent;
          text_lent = t.roomy.text_lent;
          text_used = t.roomy.text_used;
          parts_few = t.roomy.parts_few;
          relations_lent = table.size;
          relations_few = omega (arith, table.few, gained.count);
          columns_lent = gained.size ∙ t.roomy.columns_lent;
        };
        consistent = subst Consistent (sym held) (consistent_with_column h t.consistent at (column_meaning k));
      }
