-- What an addition to a book is, and whether it can be made.
-- Assumes nothing.
use Rattle.std.specs.Prelude.{◌≡◌, ℕ, ◌+◌, Bool, true, false, not, ◌&&◌, if◌then◌else◌, List, [], length, map, is_some, Some, None, Option}
use Rattle.std.specs.List.{list_all}
use Rattle.std.specs.Option.{option_map}
use Rattle.unfolding.specs.Unfolding.{built_in}
use Rattle.catalog.specs.Catalog.{CatalogAttribute, CatalogColumn, CatalogRow}
use Rattle.catalog.specs.Shape.{Name, Head, simple, pseudo, domain, array, range, enumeration, composite, Shape, names_of, shape}
use Rattle.keys.specs.Senses.{Pair}
use Rattle.book.specs.declared.descriptor.Component.{Component}
use Rattle.book.specs.declared.descriptor.Component.TheVariants.{BuiltIn, Slot}
use Rattle.book.specs.declared.descriptor.Kind.{Kind}
use Rattle.room.specs.Sizes.{Sizes, bytes, part_names}
use Rattle.book.specs.Descriptions.{Description, Member, components_of, head_of, slot_of}
use Rattle.book.specs.Held.{Held, has_room, no_sizes, size_of_array, size_of_column, size_of_name, with_column_name, with_description, with_members, with_relation}
use Rattle.book.specs.Tables.{run_inside}

-- what a descriptor tells of a type: a built-in one by itself, a described one by its slot
abbrev pub component_for : List Description → ℕ → Option Component
component_for ds o = if built_in o then Some (BuiltIn (record { 0 = o })) else option_map (λ i. Slot i) (slot_of ds o)

-- the description of an OID by this name and kind, whose parts are there
abbrev pub description_with : Held → ℕ → Name → Kind → Description
description_with h o n k = record { oid = o; name = n; head = head_of h.members k; components = components_of h.members k }

-- the table of a relation that may have one
abbrev pub with_related : Held → Option Name → ℕ → (table : Name) → Held
with_related h (Some held) r table = h
with_related h None r table = with_relation h r table

-- a column of a relation whose table may be held
abbrev pub with_own_column : Held → Option Name → Pair → (column : Name) → Held
with_own_column h None p n = h
with_own_column h (Some table) p n = with_column_name h p table n

abbrev pub is_known : List Description → ℕ → Bool
is_known ds o = is_some (component_for ds o)

abbrev pub label_members : List Name → List Member
label_members labels = map (λ n. record { called = n; typed = None }) labels

abbrev pub attribute_members : List Description → List CatalogAttribute → List Member
attribute_members ds attributes = map (λ (a : CatalogAttribute). record { called = a.called; typed = component_for ds a.typed }) attributes

-- those of a row of this kind
abbrev pub row_members : List Description → CatalogRow → Head → List Member
row_members ds r simple = []
row_members ds r pseudo = []
row_members ds r domain = []
row_members ds r array = []
row_members ds r range = []
row_members ds r (enumeration labels) = label_members r.labels
row_members ds r (composite names) = attribute_members ds r.attributes

-- an OID as its row's shape describes it
abbrev pub described : List Description → ℕ → Shape → Description
described ds o s = record { oid = o; name = s.name; head = s.head; components = map (component_for ds) s.links }

-- g is h with the members of a row of this shape laid, and of this kind the row's description
pub record KindLaid (h : Held) (r : CatalogRow) (s : Shape) (kind : Kind) (g : Held) : Type 0 where
  pub held : g ≡ with_members h (row_members h.descriptions r s.head)
  pub head : head_of g.members kind ≡ s.head
  pub components : components_of g.members kind ≡ map (component_for h.descriptions) s.links
  pub inside : run_inside (length g.members) kind ≡ true

-- the parts of this kind are the row's
abbrev pub PartsOf : CatalogRow → Head → Type 0
PartsOf r simple = Unit {0}
PartsOf r pseudo = Unit {0}
PartsOf r domain = Unit {0}
PartsOf r array = Unit {0}
PartsOf r range = Unit {0}
PartsOf r (enumeration labels) = labels ≡ r.labels
PartsOf r (composite names) = names ≡ names_of r.attributes

abbrev pub size_of_parts : Head → Sizes
size_of_parts head = record no_sizes { parts = length (part_names head); text = bytes (part_names head) }

abbrev pub size_of_shape : Shape → Sizes
size_of_shape s = record (size_of_parts s.head) { descriptors = 1; text = length s.name + bytes (part_names s.head) }

-- what a row's descriptor takes: nothing where the row is malformed
abbrev pub size_if : Option Shape → Sizes
size_if None = no_sizes
size_if (Some s) = size_of_shape s

abbrev pub size_of_row : CatalogRow → Sizes
size_of_row r = size_if (shape r)

-- an OID can be described so: it is not known, what it is made of is, and there is room
abbrev pub settles_so : Held → ℕ → Option Shape → Bool
settles_so h o None = false
settles_so h o (Some s) = not (is_known h.descriptions o) && (list_all (is_known h.descriptions) s.links && has_room h (size_of_shape s))

abbrev pub with_shape : Held → ℕ → CatalogRow → Option Shape → Held
with_shape h o r None = h
with_shape h o r (Some s) = with_description (with_members h (row_members h.descriptions r s.head)) (described h.descriptions o s)

abbrev pub settles : Held → ℕ → CatalogRow → Bool
settles h o r = settles_so h o (shape r)

abbrev pub with_row : Held → ℕ → CatalogRow → Held
with_row h o r = with_shape h o r (shape r)

-- a name, an array link and a column can be added: they are not held already, and there is room
abbrev pub adds_name : Held → Name → Bool
adds_name h n = not (is_some (h.names n)) && has_room h (size_of_name n)

abbrev pub adds_array : Held → ℕ → Bool
adds_array h e = not (is_some (h.arrays e)) && has_room h size_of_array

abbrev pub adds_column : Held → Pair → CatalogColumn → Bool
adds_column h p k = not (is_some (h.columns p)) && has_room h (size_of_column (h.relations p.0) k)
