-- What is told of a settled type.
-- Assumes nothing.
use Rattle.std.specs.Prelude.{ℕ, if◌then◌else◌, List, [], ◌∷◌, map, slice_get, length, Some, None, Option, option_and_then}
use Rattle.std.specs.Bool.{then_some}
use Rattle.std.specs.List.{zip}
use Rattle.std.specs.Option.{option_map}
use Rattle.catalog.specs.Catalog.{CatalogColumn}
use Rattle.catalog.specs.Shape.{Name, Head, simple, pseudo, domain, array, range, enumeration, composite}
use Rattle.keys.specs.declared.span.Span.{Span}
use Rattle.keys.specs.Spans.{span_bytes}
use Rattle.type_info.specs.Meaning.{entry_of}
use Rattle.type_info.specs.Table.{Entry, by_oid, component}
use Rattle.type_info.specs.Table as table
use Rattle.unfolding.specs.Unfolding.{Tree, built, node, Trees, none, more, built_in}
use Rattle.book.specs.declared.descriptor.Component.{Component}
use Rattle.book.specs.declared.descriptor.Component.TheVariants as c
use Rattle.book.specs.declared.descriptor.Descriptor.{Descriptor}
use Rattle.book.specs.declared.reading.ColumnText.{ColumnText}
use Rattle.book.specs.declared.settled.Settled.{Settled}
use Rattle.book.specs.declared.settled.Settled.TheVariants.{BuiltIn, Described}
use Rattle.book.specs.declared.settled.TypeKind.{TypeKind}
use Rattle.book.specs.declared.settled.TypeKind.TheVariants as k
use Rattle.book.specs.Descriptions.{component_tree, components_of, head_of, trees_of}
use Rattle.book.specs.Held.{Held}
use Rattle.book.specs.Tables.{span_inside}

pub record TypeTold : Type 0 where
  pub oid : ℕ
  pub name : Name
  pub kind : TypeKind
  pub labels : List Name
  -- each with its type
  pub attributes : List (Name × Tree)
  -- the base of a domain, the element of an array, the subtype of a range, the types of a composite's attributes
  pub components : List Tree

abbrev pub tree_list : Trees → List Tree
tree_list none = []
tree_list (more t ts) = t ∷ tree_list ts

abbrev pub kind_of_head : Head → TypeKind
kind_of_head simple = k.Simple
kind_of_head pseudo = k.Pseudo
kind_of_head domain = k.Domain
kind_of_head array = k.Array
kind_of_head range = k.Range
kind_of_head (enumeration labels) = k.Enum
kind_of_head (composite names) = k.Composite

abbrev pub labels_of_head : Head → List Name
labels_of_head simple = []
labels_of_head pseudo = []
labels_of_head domain = []
labels_of_head array = []
labels_of_head range = []
labels_of_head (enumeration labels) = labels
labels_of_head (composite names) = []

abbrev pub attributes_of_head : Head → List Name
attributes_of_head simple = []
attributes_of_head pseudo = []
attributes_of_head domain = []
attributes_of_head array = []
attributes_of_head range = []
attributes_of_head (enumeration labels) = []
attributes_of_head (composite names) = names

abbrev pub node_told : ℕ → Name → Head → List Tree → TypeTold
node_told o name head ts = record {
  oid = o;
  name = name;
  kind = kind_of_head head;
  labels = labels_of_head head;
  attributes = zip (attributes_of_head head) ts;
  components = ts;
}

abbrev pub kind_of_entry : table.Kind → TypeKind
kind_of_entry table.simple = k.Simple
kind_of_entry table.pseudo = k.Pseudo
kind_of_entry (table.array o) = k.Array
kind_of_entry (table.range o) = k.Range

-- what a built-in type is built of, where that is built in too, as it is for each entry of the table
abbrev pub built_of : Option ℕ → List Tree
built_of None = []
built_of (Some o) = if built_in o then built o ∷ [] else []

abbrev pub entry_told : Entry → TypeTold
entry_told e = record {
  oid = e.oid;
  name = e.name;
  kind = kind_of_entry e.kind;
  labels = [];
  attributes = [];
  components = built_of (component e.kind);
}

abbrev pub tree_told : Tree → Option TypeTold
tree_told (built o) = option_map entry_told (by_oid o)
tree_told (node o name head ts) = Some (node_told o name head (tree_list ts))

-- which tree a settled type stands for, and what is told of it: of one whose slot the book does not have, nothing
abbrev pub settled_tree : Held → Settled → Option Tree
settled_tree h (BuiltIn b) = Some (built (entry_of b).oid)
settled_tree h (Described slot) = slice_get (trees_of h.descriptions) slot.0

abbrev pub settled_told : Held → Settled → Option TypeTold
settled_told h (BuiltIn b) = Some (entry_told (entry_of b))
settled_told h (Described slot) = option_and_then tree_told (slice_get (trees_of h.descriptions) slot.0)

abbrev pub column_text_told : ColumnText → CatalogColumn
column_text_told k = record { table = k.table.now; column = k.name.now }

-- the bytes under a span that lies in the text
abbrev pub bytes_at : List ℕ → Span → Option (List ℕ)
bytes_at text s = then_some (span_inside (length text) s) (span_bytes text s)

-- what a descriptor tells
abbrev pub descriptor_told : Held → List ℕ → Descriptor → TypeTold
descriptor_told h text d =
    node_told d.oid.0 (span_bytes text d.name) (head_of h.members d.kind) (map (component_tree (trees_of h.descriptions)) (components_of h.members d.kind))

-- the element of an array
abbrev pub element_if : TypeKind → List Tree → Option Tree
element_if k.Simple ts = None
element_if k.Pseudo ts = None
element_if k.Domain ts = None
element_if k.Array ts = slice_get ts 0
element_if k.Range ts = None
element_if k.Enum ts = None
element_if k.Composite ts = None

abbrev pub element_of : TypeTold → Option Tree
element_of t = element_if t.kind t.components

-- the tree of a component as a settled type: an OID that is not built in is none
abbrev pub settled_component : Held → Component → Option (Option Tree)
settled_component h (c.BuiltIn o) = if built_in o.0 then Some (Some (built o.0)) else None
settled_component h (c.Slot i) = Some (slice_get (trees_of h.descriptions) i)
