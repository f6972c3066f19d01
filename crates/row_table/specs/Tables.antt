-- What the tables of the code hold, and the room that they have.
-- Assumes nothing.
use Rattle.std.specs.Prelude.{◌≡◌, ℕ, ◌*◌, ◌≤◌, List, length}
use Rattle.std.specs.Option.{option_map}
use Rattle.catalog.specs.declared.row.Row.{Row}
use Rattle.catalog.specs.declared.text.Text.{Text}
use Rattle.catalog.specs.Meaning.{oid_told, row_told, text_of}
use Rattle.indexes.specs.Known.{Names, by_attribute, by_oid, known}
use Rattle.keys.specs.declared.kinds.Attribute.{Attribute}
use Rattle.slots.specs.Slots.{Entry, filled}
use Rattle.slots.specs.Text.{lent}
use Rattle.type_info.specs.declared.oid.Oid.{Oid}
use Rattle.row_table.specs.Held.{Held}

module _
    (rows : List (Entry Oid Row))
    (names : Names Oid)
    (parts : ℕ)
    (relations : List (Entry Oid (Text 128)))
    (columns : List (Entry Attribute (Text 63)))
  where
    abbrev pub holding : ℕ → Held
    holding allowance = record {
      rows = λ o. row_told (by_oid rows o);
      named = λ s. oid_told (known names s);
      tables = λ o. option_map text_of (by_oid relations o);
      column_names = λ p. option_map text_of (by_attribute columns p);
      allowance = allowance;
      row_count = filled rows;
      name_count = filled names.slots;
      part_count = parts;
      column_count = filled columns;
    }

    -- slots for 256 rows, 512 names of 128 bytes at most, and 1,024 columns, which have no more relations than they are
    pub record Roomy : Type 0 where
      pub rows_lent : length rows ≡ 256
      pub names_lent : length names.slots ≡ 512
      pub text_lent : lent names.text ≡ 65536
      pub text_used : length names.text.text ≤ 128 * filled names.slots
      pub parts_few : parts ≤ 1024
      pub relations_lent : length relations ≡ 1024
      pub relations_few : filled relations ≤ filled columns
      pub columns_lent : length columns ≡ 1024
