-- What a book's descriptors tell, and the tree that each stands for.
-- Assumes nothing.
use Rattle.std.specs.Prelude.{ℕ, suc, Bool, true, false, not, ◌&&◌, List, [], ◌∷◌, ◌++◌, map, take, drop, slice_get, nat_eq, nat_lt, Some, None, Option, unwrap_or, option_and_then}
use Rattle.std.specs.List.{list_all}
use Rattle.catalog.specs.Shape.{Name, Head, simple, pseudo, domain, array, range, enumeration, composite}
use Rattle.keys.specs.Spans.{span_bytes}
use Rattle.unfolding.specs.Unfolding.{Tree, built, node, Trees, none, more, built_in}
use Rattle.life.specs.Lists.{first_place}
use Rattle.book.specs.declared.descriptor.Component.{Component}
use Rattle.book.specs.declared.descriptor.Component.TheVariants.{BuiltIn, Slot}
use Rattle.book.specs.declared.descriptor.Descriptor.{Descriptor}
use Rattle.book.specs.declared.descriptor.Kind.{Kind}
use Rattle.book.specs.declared.descriptor.Kind.TheVariants.{Simple, Pseudo, Domain, Array, Range, Enum, Composite}
use Rattle.book.specs.declared.descriptor.Part.{Part}
use Rattle.book.specs.declared.descriptor.Run.{Run}

-- a label, or an attribute with its type
pub record Member : Type 0 where
  pub called : Name
  pub typed : Option Component

abbrev pub member_of : List ℕ → Part → Member
member_of text p = record { called = span_bytes text p.name; typed = p.typed }

abbrev pub members_of : List ℕ → List Part → List Member
members_of text ps = map (member_of text) ps

-- one descriptor: its components in order
pub record Description : Type 0 where
  pub oid : ℕ
  pub name : Name
  pub head : Head
  pub components : List (Option Component)

abbrev pub run_of : Run → List Member → List Member
run_of r ms = take r.count (drop r.first ms)

abbrev pub names_of : List Member → List Name
names_of ms = map (λ (m : Member). m.called) ms

abbrev pub types_of : List Member → List (Option Component)
types_of ms = map (λ (m : Member). m.typed) ms

abbrev pub head_of : List Member → Kind → Head
head_of ms Simple = simple
head_of ms Pseudo = pseudo
head_of ms (Domain c) = domain
head_of ms (Array c) = array
head_of ms (Range c) = range
head_of ms (Enum r) = enumeration (names_of (run_of r ms))
head_of ms (Composite r) = composite (names_of (run_of r ms))

abbrev pub components_of : List Member → Kind → List (Option Component)
components_of ms Simple = []
components_of ms Pseudo = []
components_of ms (Domain c) = Some c ∷ []
components_of ms (Array c) = Some c ∷ []
components_of ms (Range c) = Some c ∷ []
components_of ms (Enum r) = []
components_of ms (Composite r) = types_of (run_of r ms)

abbrev pub description_of : List Member → List ℕ → Descriptor → Description
description_of ms text d = record {
  oid = d.oid.0;
  name = span_bytes text d.name;
  head = head_of ms d.kind;
  components = components_of ms d.kind;
}

abbrev pub descriptions_of : List Member → List ℕ → List Descriptor → List Description
descriptions_of ms text ds = map (description_of ms text) ds

-- the tree of a component, over those of the earlier slots
abbrev pub component_tree : List Tree → Option Component → Tree
component_tree ts None = built 0
component_tree ts (Some (BuiltIn o)) = built o.0
component_tree ts (Some (Slot i)) = unwrap_or (slice_get ts i) (built 0)

abbrev pub component_trees : List Tree → List (Option Component) → Trees
component_trees ts [] = none
component_trees ts (c ∷ cs) = more (component_tree ts c) (component_trees ts cs)

abbrev pub tree_of : List Tree → Description → Tree
tree_of ts d = node d.oid d.name d.head (component_trees ts d.components)

-- the trees of all slots, each made from those of the earlier ones
abbrev pub trees_on : List Tree → List Description → List Tree
trees_on ts [] = ts
trees_on ts (d ∷ ds) = trees_on (ts ++ tree_of ts d ∷ []) ds

abbrev pub trees_of : List Description → List Tree
trees_of ds = trees_on [] ds

-- the slot of an OID's descriptor, and what an OID is described by
abbrev pub slot_of : List Description → ℕ → Option ℕ
slot_of ds o = first_place (λ (d : Description). nat_eq o d.oid) 0 ds

abbrev pub described_by : List Description → ℕ → Option Tree
described_by ds o = option_and_then (slice_get (trees_of ds)) (slot_of ds o)

-- a component is a built-in type, or an earlier slot than this
abbrev pub is_earlier : ℕ → Option Component → Bool
is_earlier slot None = false
is_earlier slot (Some (BuiltIn o)) = built_in o.0
is_earlier slot (Some (Slot i)) = nat_lt i slot

-- so are all components of each descriptor, the first of them in this slot; and none describes a built-in type
abbrev pub well_founded : ℕ → List Description → Bool
well_founded slot [] = true
well_founded slot (d ∷ ds) = (not (built_in d.oid) && list_all (is_earlier slot) d.components) && well_founded (suc slot) ds
