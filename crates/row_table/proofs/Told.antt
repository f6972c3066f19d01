-- What becomes of an addition is what a host is told. Assumes nothing.
use Rattle.std.proofs.Common.{◌≡◌, ℕ, ◌+◌, ◌<◌, Bool, true, false, ◌⊎◌, List, ℤ, is_some, Some, None, Ok, Err, Option, Result, sym, refl, ap, ◌∙◌, inl, inr, ⊎_elim, arith}
use Rattle.std.specs.Prelude.{if◌then◌else◌, nat_eq, nat_le, nat_lt, ◌==◌, ◌≢◌}
use Rattle.std.specs.Map.{update}
use Rattle.std.specs.Str.{bytes_eq}
use Rattle.std.proofs.lemmas.Slice.Eq.{bytes_eq-Decides}
use Rattle.std.proofs.lemmas.Bool.{leb-true, leb-false, ltb-true, ltb-false, false≢true}
use Rattle.std.proofs.lemmas.Bool.Decides.{Decides-eqb}
use Rattle.catalog.specs.declared.faults.CatalogFault.{CatalogFault}
use Rattle.catalog.specs.declared.faults.CatalogFault.TheVariants.{Contradicts, Full}
use Rattle.catalog.specs.declared.faults.HeldIn.TheVariants.{Rows, Names, Parts, Columns}
use Rattle.catalog.specs.Catalog.{CatalogColumn, CatalogRow}
use Rattle.keys.specs.declared.kinds.Attribute.{Attribute}
use Rattle.keys.specs.Kinds.{same-pair}
use Rattle.keys.specs.Senses.{Pair, pair_of, same_pair}
use Rattle.offers.proofs.Decided.{same-row-decides}
use Rattle.offers.specs.Same.{same_row}
use Rattle.type_info.specs.declared.oid.Oid.{Oid}
use Rattle.row_table.specs.Additions.{Judged, answer, column_answer, column_beside, column_then, held_then, known_if, name_answer, name_beside, name_stands, name_then, parts, row_answer, row_beside, row_by_name, row_then, table_beside, with_column, with_name, with_row}
use Rattle.row_table.specs.Held.{Consistent, Held, catalog_of, column_from}
use Rattle.row_table.specs.Outcomes.{ColumnContradicted, ColumnOutcome, ColumnHeld, NameContradicted, NameHeld, NameOutcome, Outcome, RowContradicted, RowHeld, RowOutcome, column_added, column_needs, name_added, name_needs, row_added, row_needs}
use Rattle.row_table.proofs.Consistent.{no_column}
use Rattle.indexes.proofs.Updates.{put_again}

none-some : {A : Type 0} (x : Option A) (a : A) → x ≡ None → x ≡ Some a → ⊥
none-some x a e d = let z : ◌≡◌ {A = ℕ} 0 1 = cc in omega arith

one : {A : Type 0} (x : Option A) (a b : A) → x ≡ Some a → x ≡ Some b → a ≡ b
one x a b e d = cc

module _ (h : Held) (c : Consistent h) (oid : Oid) where
  module _ (r : CatalogRow) where
    -- what is told of the row where it is judged so
    abbrev RowTold : Judged → Type 0
    RowTold j = RowOutcome h oid (Some r) (catalog_of h) (catalog_of (held_then j h (with_row h oid r))) (answer j)

    row_again : h.rows oid.0 ≡ Some r → catalog_of h ≡ row_added oid r (catalog_of h)
    row_again held = λ i. record (catalog_of h) {
      rows = put_again nat_eq Decides-eqb h.rows oid.0 r held i;
      named = put_again bytes_eq bytes_eq-Decides h.named r.pretty oid.0 (c.pretty_leads oid.0 r held) i;
    }

    held_free : h.rows oid.0 ≡ Some r → RowContradicted h oid r → ⊥
    held_free held = ⊎_elim
        (λ w. w.2 (one (h.rows oid.0) w.0 r w.1 held))
        (λ w. w.2 (one (h.named r.pretty) w.0 oid.0 w.1 (c.pretty_leads oid.0 r held)))

    row_known : (k : CatalogRow) → h.rows oid.0 ≡ Some k → (same : Bool) → same_row k r ≡ same → RowTold (known_if same oid)
    row_known k is true e =
        let held : h.rows oid.0 ≡ Some r = is ∙ ap Some ((same-row-decides k r).0 e) in
        (r, refl, held_free held, inl held, row_again held)
    row_known k is false e = (refl, (r, refl, inl (k, is, λ same. false≢true (sym e ∙ (same-row-decides k r).1 same))), refl)

    module _ (no_row : h.rows oid.0 ≡ None) where
      row_full :
          (h.named r.pretty ≡ None) → (a b d : Bool) → nat_le 256 h.row_count ≡ a → nat_le 512 h.name_count ≡ b → nat_lt 1024 (h.part_count + parts r) ≡ d →
          RowTold (if a then Err (Full Rows) else (if b then Err (Full Names) else (if d then Err (Full Parts) else Ok true)))
      row_full no_name a b d ea eb ed = go a b d ea eb ed
        where
          free : RowContradicted h oid r → ⊥
          free = ⊎_elim (λ w. none-some (h.rows oid.0) w.0 no_row w.1) (λ w. none-some (h.named r.pretty) w.0 no_name w.1)

          absent : RowHeld h oid r → ⊥
          absent e = none-some (h.rows oid.0) r no_row e

          go : (a b d : Bool) → nat_le 256 h.row_count ≡ a → nat_le 512 h.name_count ≡ b → nat_lt 1024 (h.part_count + parts r) ≡ d →
              RowTold (if a then Err (Full Rows) else (if b then Err (Full Names) else (if d then Err (Full Parts) else Ok true)))
          go true b d ea eb ed = ((r, refl, free, absent, inl (refl, omega (arith, leb-true 256 h.row_count ea))), refl)
          go false true d ea eb ed =
              let room : (256 < h.row_count + 1) → ⊥ = λ l. omega (arith, leb-false 256 h.row_count ea) in
              ((r, refl, free, absent, inr (room, inl (refl, omega (arith, leb-true 512 h.name_count eb)))), refl)
          go false false true ea eb ed =
              let room : (256 < h.row_count + 1) → ⊥ = λ l. omega (arith, leb-false 256 h.row_count ea) in
              let name_room : (512 < h.name_count + 1) → ⊥ = λ l. omega (arith, leb-false 512 h.name_count eb) in
              ((r, refl, free, absent, inr (room, inr (name_room, inl (refl, ltb-true 1024 (h.part_count + parts r) ed)))), refl)
          go false false false ea eb ed =
              let room : (256 < h.row_count + 1) → ⊥ = λ l. omega (arith, leb-false 256 h.row_count ea) in
              let name_room : (512 < h.name_count + 1) → ⊥ = λ l. omega (arith, leb-false 512 h.name_count eb) in
              let part_room : (1024 < h.part_count + parts r) → ⊥ = λ l. omega (arith, ltb-false 1024 (h.part_count + parts r) ed) in
              (r, refl, free, inr (room, (name_room, (part_room, tt))), refl)

      row_named : (other : Option ℕ) → h.named r.pretty ≡ other → RowTold (row_by_name h oid r other)
      row_named None named = row_full named _ _ _ refl refl refl
      row_named (Some o) named =
          let apart : o ≢ oid.0 = λ same.
          let there : is_some (h.rows oid.0) ≡ true = ap (λ (n : ℕ). is_some (h.rows n)) (sym same) ∙ c.named_stands r.pretty o named in
          false≢true (sym (ap is_some no_row) ∙ there) in
          (refl, (r, refl, inr (o, named, apart)), refl)

    row_told : (there : Option CatalogRow) → h.rows oid.0 ≡ there → RowTold (row_beside h oid r there)
    row_told (Some k) is = row_known k is (same_row k r) refl
    row_told None is = row_named is (h.named r.pretty) refl

  row_outcome_of :
      (offered : Option CatalogRow) →
      RowOutcome h oid offered (catalog_of h)
      (catalog_of (row_then h oid offered)) (row_answer h oid offered)
  row_outcome_of None = (refl, refl, refl)
  row_outcome_of (Some r) = row_told r (h.rows oid.0) refl

  pub row_outcome :
      (offered : Option CatalogRow) (after : Held) (r : Result (Unit {0}) CatalogFault) → r ≡ row_answer h oid offered →
      after ≡ row_then h oid offered →
      RowOutcome h oid offered (catalog_of h) (catalog_of after) r
  row_outcome offered after r answered held = rw (answered, held) (row_outcome_of offered)

-- a name
module _ (h : Held) (c : Consistent h) (oid : Oid) where
  module _ (name : List ℕ) where
    abbrev NameTold : Judged → Type 0
    NameTold j = NameOutcome h oid (Some name) (catalog_of h) (catalog_of (held_then j h (with_name h oid name))) (answer j)

    name_again : h.named name ≡ Some oid.0 → catalog_of h ≡ name_added oid name (catalog_of h)
    name_again held = λ i. record (catalog_of h) { named = put_again bytes_eq bytes_eq-Decides h.named name oid.0 held i }

    name_known : (o : ℕ) → h.named name ≡ Some o → (same : Bool) → (o == oid.0) ≡ same → NameTold (known_if same oid)
    name_known o is true e =
        let held : h.named name ≡ Some oid.0 = is ∙ ap Some ((Decides-eqb o oid.0).0 e) in
        let free : NameContradicted h oid name → ⊥ = ⊎_elim
        (λ w. w.2 (one (h.named name) w.0 oid.0 w.1 held))
        (λ no_row.
        let there : is_some (h.rows oid.0) ≡ true = c.named_stands name oid.0 held in
        false≢true (sym (ap is_some no_row) ∙ there)) in
        (name, refl, free, inl held, name_again held)
    name_known o is false e = (refl, (name, refl, inl (o, is, λ same. false≢true (sym e ∙ (Decides-eqb o oid.0).1 same))), refl)

    module _ (no_name : h.named name ≡ None) where
      name_full : (r : CatalogRow) → h.rows oid.0 ≡ Some r → (b : Bool) → nat_le 512 h.name_count ≡ b → NameTold (if b then Err (Full Names) else Ok true)
      name_full r is b e = go b e
        where
          free : NameContradicted h oid name → ⊥
          free = ⊎_elim (λ w. none-some (h.named name) w.0 no_name w.1) (λ no_row. none-some (h.rows oid.0) r no_row is)

          absent : NameHeld h oid name → ⊥
          absent e = none-some (h.named name) oid.0 no_name e

          go : (b : Bool) → nat_le 512 h.name_count ≡ b → NameTold (if b then Err (Full Names) else Ok true)
          go true e = ((name, refl, free, absent, inl (refl, omega (arith, leb-true 512 h.name_count e))), refl)
          go false e =
              let room : (512 < h.name_count + 1) → ⊥ = λ l. omega (arith, leb-false 512 h.name_count e) in
              (name, refl, free, inr (room, tt), refl)

      name_row : (there : Option CatalogRow) → h.rows oid.0 ≡ there → NameTold (name_stands h oid there)
      name_row None is = (refl, (name, refl, inr is), refl)
      name_row (Some r) is = name_full r is (nat_le 512 h.name_count) refl

    name_told : (other : Option ℕ) → h.named name ≡ other → NameTold (name_beside h oid other)
    name_told (Some o) is = name_known o is (o == oid.0) refl
    name_told None is = name_row is (h.rows oid.0) refl

  name_outcome_of :
      (offered : Option (List ℕ)) →
      NameOutcome h oid offered (catalog_of h)
      (catalog_of (name_then h oid offered)) (name_answer h oid offered)
  name_outcome_of None = (refl, refl, refl)
  name_outcome_of (Some name) = name_told name (h.named name) refl

  pub name_outcome :
      (offered : Option (List ℕ)) (after : Held) (r : Result (Unit {0}) CatalogFault) → r ≡ name_answer h oid offered →
      after ≡ name_then h oid offered →
      NameOutcome h oid offered (catalog_of h) (catalog_of after) r
  name_outcome offered after r answered held = rw (answered, held) (name_outcome_of offered)

-- a column
module _ (h : Held) (c : Consistent h) (at : Attribute) where
  module _ (k : CatalogColumn) where
    abbrev ColumnTold : Judged → Type 0
    ColumnTold j = ColumnOutcome h at (Some k) (catalog_of h) (catalog_of (held_then j h (with_column h at k))) (answer j)

    column_again : h.tables at.relation.0 ≡ Some k.table → h.column_names (pair_of at) ≡ Some k.column → catalog_of h ≡ column_added at k (catalog_of h)
    column_again table name =
        let held : column_from (h.tables at.relation.0) (h.column_names (pair_of at)) ≡ Some k = rw (table, name) refl in
        let again = put_again same_pair same-pair (λ (p : Pair). column_from (h.tables p.0) (h.column_names p)) (pair_of at) k held in
        λ i. record (catalog_of h) { columns = λ o a. again i (o, a) }

    -- where the relation tells this table or none, a column is added by its table and its name
    column_new : (h.tables at.relation.0 ≡ None) ⊎ (h.tables at.relation.0 ≡ Some k.table) → catalog_of (with_column h at k) ≡ column_added at k (catalog_of h)
    column_new table = λ i. record (catalog_of h) { columns = λ o a. each o a (same_pair (pair_of at) (o, a)) (nat_eq at.relation.0 o) refl refl i }
      where
        left : ℕ → ℤ → Option CatalogColumn
        left o a = column_from (update nat_eq h.tables at.relation.0 (Some k.table) o) (update same_pair h.column_names (pair_of at) (Some k.column) (o, a))

        no_name : (o : ℕ) (a : ℤ) (name : Option (List ℕ)) → h.column_names (o, a) ≡ name → h.tables o ≡ None → column_from (Some k.table) name ≡ column_from None name
        no_name o a None is none = refl
        no_name o a (Some n) is none = absurd (false≢true (sym (ap is_some none) ∙ c.table_told o a (ap is_some is)))

        each : (o : ℕ) (a : ℤ) (same here : Bool) → same_pair (pair_of at) (o, a) ≡ same → nat_eq at.relation.0 o ≡ here →
            left o a ≡ update same_pair (λ (p : Pair). column_from (h.tables p.0) (h.column_names p)) (pair_of at) (Some k) (o, a)
        each o a true here e d =
            let pair : pair_of at ≡ (o, a) = (same-pair (pair_of at) (o, a)).0 e in
            let relation : nat_eq at.relation.0 o ≡ true = (Decides-eqb at.relation.0 o).1 (ap (λ (p : Pair). p.0) pair) in
            rw (e, relation) refl
        each o a false true e d =
            let relation : at.relation.0 ≡ o = (Decides-eqb at.relation.0 o).0 d in
            let beside : column_from (Some k.table) (h.column_names (o, a)) ≡ column_from (h.tables o) (h.column_names (o, a)) =
            ⊎_elim
            (λ none. let there : h.tables o ≡ None = ap h.tables (sym relation) ∙ none in no_name o a (h.column_names (o, a)) refl there ∙ ap (λ (x : Option (List ℕ)). column_from x (h.column_names (o, a))) (sym there))
            (λ some. let there : h.tables o ≡ Some k.table = ap h.tables (sym relation) ∙ some in ap (λ (x : Option (List ℕ)). column_from x (h.column_names (o, a))) (sym there))
            table in
            rw (e, d) beside
        each o a false false e d = rw (e, d) refl

    module _ (table : (h.tables at.relation.0 ≡ None) ⊎ (h.tables at.relation.0 ≡ Some k.table)) (no_name : h.column_names (pair_of at) ≡ None) where
      column_full : (b : Bool) → nat_le 1024 h.column_count ≡ b → ColumnTold (if b then Err (Full Columns) else Ok true)
      column_full b e = go b e
        where
          free : ColumnContradicted h at k → ⊥
          free = ⊎_elim
              (λ w. ⊎_elim (λ none. none-some (h.tables at.relation.0) w.0 none w.1) (λ some. w.2 (one (h.tables at.relation.0) w.0 k.table w.1 some)) table)
              (λ w. none-some (h.column_names (pair_of at)) w.0 no_name w.1)

          absent : ColumnHeld h at k → ⊥
          absent held = none-some (h.column_names (pair_of at)) k.column no_name held.1

          go : (b : Bool) → nat_le 1024 h.column_count ≡ b → ColumnTold (if b then Err (Full Columns) else Ok true)
          go true e = ((k, refl, free, absent, inl (refl, omega (arith, leb-true 1024 h.column_count e))), refl)
          go false e =
              let room : (1024 < h.column_count + 1) → ⊥ = λ l. omega (arith, leb-false 1024 h.column_count e) in
              (k, refl, free, inr (room, tt), column_new table)

    module _ (table : h.tables at.relation.0 ≡ Some k.table) where
      column_known : (there : List ℕ) → h.column_names (pair_of at) ≡ Some there → (same : Bool) → bytes_eq there k.column ≡ same → ColumnTold (known_if same at.relation)
      column_known there is true e =
          let held : h.column_names (pair_of at) ≡ Some k.column = is ∙ ap Some ((bytes_eq-Decides there k.column).0 e) in
          let free : ColumnContradicted h at k → ⊥ = ⊎_elim
          (λ w. w.2 (one (h.tables at.relation.0) w.0 k.table w.1 table))
          (λ w. w.2 (one (h.column_names (pair_of at)) w.0 k.column w.1 held)) in
          (k, refl, free, inl (table, held), column_again table held)
      column_known there is false e = (refl, (k, refl, inr (there, is, λ same. false≢true (sym e ∙ (bytes_eq-Decides there k.column).1 same))), refl)

      column_named : (name : Option (List ℕ)) → h.column_names (pair_of at) ≡ name → ColumnTold (column_beside h at.relation k name)
      column_named (Some there) is = column_known there is (bytes_eq there k.column) refl
      column_named None is = column_full (inr table) is (nat_le 1024 h.column_count) refl

    column_tabled : (there : List ℕ) → h.tables at.relation.0 ≡ Some there → (same : Bool) → bytes_eq there k.table ≡ same →
        ColumnTold (if same then column_beside h at.relation k (h.column_names (pair_of at)) else Err (Contradicts at.relation))
    column_tabled there is true e = column_named (is ∙ ap Some ((bytes_eq-Decides there k.table).0 e)) (h.column_names (pair_of at)) refl
    column_tabled there is false e = (refl, (k, refl, inl (there, is, λ same. false≢true (sym e ∙ (bytes_eq-Decides there k.table).1 same))), refl)

    column_told : (table : Option (List ℕ)) → h.tables at.relation.0 ≡ table → ColumnTold (table_beside h at.relation k table (h.column_names (pair_of at)))
    column_told (Some there) is = column_tabled there is (bytes_eq there k.table) refl
    column_told None is = column_full (inl is) (no_column h c at None (h.column_names (pair_of at)) is refl k.table tt) (nat_le 1024 h.column_count) refl

  column_outcome_of :
      (offered : Option CatalogColumn) →
      ColumnOutcome h at offered (catalog_of h)
      (catalog_of (column_then h at offered)) (column_answer h at offered)
  column_outcome_of None = (refl, refl, refl)
  column_outcome_of (Some k) = column_told k (h.tables at.relation.0) refl

  pub column_outcome :
      (offered : Option CatalogColumn) (after : Held) (r : Result (Unit {0}) CatalogFault) → r ≡ column_answer h at offered →
      after ≡ column_then h at offered →
      ColumnOutcome h at offered (catalog_of h) (catalog_of after) r
  column_outcome offered after r answered held = rw (answered, held) (column_outcome_of offered)
