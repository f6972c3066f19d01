-- What the tables of the code hold, and what keeps them.
-- Assumes nothing.
use Rattle.std.specs.Prelude.{◌≡◌, ℕ, ◌+◌, Bool, true, ◌&&◌, List, length, min, nat_le, Some, None, Option}
use Rattle.std.specs.List.{list_all}
use Rattle.std.specs.Option.{option_map}
use Rattle.catalog.specs.Catalog.{CatalogColumn}
use Rattle.catalog.specs.Meaning.{oid_told}
use Rattle.indexes.specs.Known.{Names, by_attribute, by_oid, known}
use Rattle.keys.specs.declared.kinds.Attribute.{Attribute}
use Rattle.keys.specs.declared.span.Span.{Span}
use Rattle.keys.specs.Senses.{Pair}
use Rattle.keys.specs.Spans.{span_bytes, span_end}
use Rattle.room.specs.Sizes.{Sizes, capacities}
use Rattle.slots.specs.Slots.{Entry, filled}
use Rattle.slots.specs.Stack.{LentItems, slots_lent}
use Rattle.slots.specs.Text.{lent}
use Rattle.type_info.specs.declared.oid.Oid.{Oid}
use Rattle.book.specs.declared.descriptor.ColumnNames.{ColumnNames}
use Rattle.book.specs.declared.descriptor.Descriptor.{Descriptor}
use Rattle.book.specs.declared.descriptor.Kind.{Kind}
use Rattle.book.specs.declared.descriptor.Kind.TheVariants.{Simple, Pseudo, Domain, Array, Range, Enum, Composite}
use Rattle.book.specs.declared.descriptor.Part.{Part}
use Rattle.book.specs.Descriptions.{descriptions_of, members_of, slot_of, well_founded}
use Rattle.book.specs.Held.{Fits, Held}

-- within so many bytes of text
abbrev pub span_inside : ℕ → Span → Bool
span_inside bytes s = nat_le (span_end s) bytes

abbrev pub part_inside : ℕ → Part → Bool
part_inside bytes p = span_inside bytes p.name

-- within so many parts
abbrev pub run_inside : ℕ → Kind → Bool
run_inside parts Simple = true
run_inside parts Pseudo = true
run_inside parts (Domain c) = true
run_inside parts (Array c) = true
run_inside parts (Range c) = true
run_inside parts (Enum r) = nat_le (r.first + r.count) parts
run_inside parts (Composite r) = nat_le (r.first + r.count) parts

abbrev pub descriptor_inside : ℕ → ℕ → Descriptor → Bool
descriptor_inside parts bytes d = span_inside bytes d.name && run_inside parts d.kind

abbrev pub column_inside : ℕ → Option ColumnNames → Bool
column_inside bytes None = true
column_inside bytes (Some k) = span_inside bytes k.table && span_inside bytes k.name

abbrev pub relation_inside : ℕ → Option Span → Bool
relation_inside bytes None = true
relation_inside bytes (Some s) = span_inside bytes s

abbrev pub column_read : List ℕ → ColumnNames → CatalogColumn
column_read text k = record { table = span_bytes text k.table; column = span_bytes text k.name }

module _
    (descriptors : LentItems Descriptor)
    (index : List (Entry Oid ℕ))
    (parts : LentItems Part)
    (names : Names Oid)
    (arrays : List (Entry Oid Oid))
    (columns : List (Entry Attribute ColumnNames))
    (relations : List (Entry Oid Span))
  where
    -- how much is taken, and how much is lent; of descriptors no more than have a slot in the index
    abbrev pub taken_by : Sizes
    taken_by = record {
      descriptors = length descriptors.items;
      parts = length parts.items;
      names = filled names.slots;
      arrays = filled arrays;
      text = length names.text.text;
      columns = filled columns;
      relations = filled relations;
    }

    abbrev pub lent_to : Sizes
    lent_to = record {
      descriptors = min (slots_lent descriptors) (length index);
      parts = slots_lent parts;
      names = length names.slots;
      arrays = length arrays;
      text = lent names.text;
      columns = length columns;
      relations = length relations;
    }

    abbrev pub holding : Held
    holding = record {
      descriptions = descriptions_of (members_of names.text.text parts.items) names.text.text descriptors.items;
      members = members_of names.text.text parts.items;
      names = λ n. oid_told (known names n);
      arrays = λ e. oid_told (by_oid arrays e);
      columns = λ p. option_map (column_read names.text.text) (by_attribute columns p);
      relations = λ r. option_map (span_bytes names.text.text) (by_oid relations r);
      taken = taken_by;
      capacity = capacities lent_to;
    }

    -- what is told lies within the text and the parts
    pub record Inside : Type 0 where
      pub descriptors_inside : list_all (descriptor_inside (length parts.items) (length names.text.text)) descriptors.items ≡ true
      pub parts_inside : list_all (part_inside (length names.text.text)) parts.items ≡ true
      pub columns_inside : (p : Pair) → column_inside (length names.text.text) (by_attribute columns p) ≡ true
      pub relations_inside : (r : ℕ) → relation_inside (length names.text.text) (by_oid relations r) ≡ true

    -- the index leads to each descriptor, whose components are told before it, and no table holds more than it may
    pub record Sound : Type 0 where
      pub indexed : (o : ℕ) → by_oid index o ≡ slot_of holding.descriptions o
      pub counted : filled index ≡ length descriptors.items
      pub founded : well_founded 0 holding.descriptions ≡ true
      pub fits : Fits holding.taken holding.capacity
