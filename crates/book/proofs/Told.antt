-- What is told of a settled type: of a built-in one by its entry, of a slot by its descriptor.
-- Assumes nothing.
use Rattle.std.proofs.Common.{◌≡◌, ℕ, ◌<◌, ◌≤◌, true, List, [], ◌∷◌, map, take, drop, length, slice_get, unwrap_or, if◌then◌else◌, is_some, Some, None, Option, sym, refl, ap, ◌∙◌, arith}
use Rattle.std.specs.Bool.{then_some}
use Rattle.std.specs.List.{list_all, zip}
use Rattle.std.specs.Option.{option_and_then, option_map}
use Rattle.std.proofs.lemmas.Bool.{and_parts, ltb-true, false≢true}
use Rattle.std.proofs.lemmas.List.{drop-map, take-map}
use Rattle.std.proofs.lemmas.Option.{none-some, same_Some, slice_get-map, slice_get_within}
use Rattle.catalog.specs.Shape.{Name}
use Rattle.keys.specs.declared.span.Span.{Span}
use Rattle.keys.specs.Spans.{span_bytes}
use Rattle.type_info.proofs.Facts.{laws}
use Rattle.type_info.specs.Meaning.{entry_of}
use Rattle.type_info.specs.Table.{by_oid}
use Rattle.type_info.specs.declared.builtin.BuiltIn.{BuiltIn}
use Rattle.life.specs.Steps.{answer}
use Rattle.unfolding.specs.Unfolding.{Tree, built, built_in}
use Rattle.book.specs.declared.descriptor.Component.{Component}
use Rattle.book.specs.declared.descriptor.Component.TheVariants as v
use Rattle.book.specs.declared.descriptor.Descriptor.{Descriptor}
use Rattle.book.specs.declared.descriptor.Kind.TheVariants.{Composite}
use Rattle.book.specs.declared.descriptor.Part.{Part}
use Rattle.book.specs.declared.descriptor.Run.{Run}
use Rattle.book.specs.declared.settled.Settled.{Settled}
use Rattle.book.specs.declared.tables.Book.{Book}
use Rattle.book.specs.Book.{held_of}
use Rattle.book.specs.Descriptions.{Description, Member, component_tree, component_trees, components_of, described_by, description_of, head_of, is_earlier, member_of, members_of, names_of, run_of, slot_of, tree_of, trees_of}
use Rattle.book.specs.Held.{Held, book_held}
use Rattle.book.specs.Settled.{TypeTold, attributes_of_head, bytes_at, descriptor_told, node_told, settled_component, settled_told, tree_list, tree_told}
use Rattle.book.specs.Tables.{descriptor_inside, part_inside, run_inside, span_inside}
use Rattle.book.proofs.Places.{all_at, all_drop, all_take, none_past, paired, paired_none, zipped}
use Rattle.book.proofs.Trees.{founded_slot, length-trees_of, slice_get_some, slot_stands, tree_founded}

-- the entry of an OID has this OID, and is told as the tree is
module _ (o : ℕ) (b : BuiltIn) (e : Some (entry_of b) ≡ by_oid o) where
  pub entry_oid : (entry_of b).oid ≡ o
  entry_oid = (laws.name_finds_again o (entry_of b) (sym e)).0

  pub entry_tree : (h : Held) → Some (built (entry_of b).oid) ≡ answer (book_held h) o
  entry_tree h = ap (λ p. Some (built p)) entry_oid ∙ ap (λ x. if is_some x then Some (built o) else described_by h.descriptions o) e

  pub entry_stands : Some (Some (built (entry_of b).oid)) ≡ (if built_in o then Some (Some (built o)) else None)
  entry_stands = ap (λ p. Some (Some (built p))) entry_oid ∙ ap (λ x. if is_some x then Some (Some (built o)) else None) e

-- an OID that is not built in is answered by its slot, which is there
module _ (h : Held) (o i : ℕ) (e : None ≡ by_oid o) (at : Some i ≡ slot_of h.descriptions o) where
  there : (t : Tree) × (slice_get (trees_of h.descriptions) i ≡ Some t)
  there =
      let d = slot_stands h.descriptions o i (sym at) in
      slice_get_some (trees_of h.descriptions) i (omega (arith, length-trees_of h.descriptions, slice_get_within h.descriptions i d.0 d.1))

  answered : Some there.0 ≡ answer (book_held h) o
  answered =
      sym there.1
      ∙ ap (option_and_then (slice_get (trees_of h.descriptions))) at
      ∙ ap (λ x. if is_some x then Some (built o) else described_by h.descriptions o) e

  pub slot_tree : Some (slice_get (trees_of h.descriptions) i) ≡ option_map (λ t. Some t) (answer (book_held h) o)
  slot_tree = ap (λ t. Some t) there.1 ∙ ap (option_map (λ t. Some t)) answered

  pub slot_told : Some (option_and_then tree_told (slice_get (trees_of h.descriptions) i)) ≡ option_map tree_told (answer (book_held h) o)
  slot_told = ap (λ t. Some (option_and_then tree_told t)) there.1 ∙ ap (option_map tree_told) answered

pub listed_components : (ts : List Tree) (cs : List (Option Component)) → tree_list (component_trees ts cs) ≡ map (component_tree ts) cs
listed_components ts [] = refl
listed_components ts (c ∷ cs) = ap (λ us. component_tree ts c ∷ us) (listed_components ts cs)

-- of a run of members, by its parts
module _ {A : Type 0} (f : Member → A) (text : List ℕ) (r : Run) (ps : List Part) (i : ℕ) where
  pub run_at : slice_get (map f (run_of r (members_of text ps))) i ≡ option_map (λ p. f (member_of text p)) (slice_get (take r.count (drop r.first ps)) i)
  run_at =
      let run : run_of r (members_of text ps) ≡ map (member_of text) (take r.count (drop r.first ps)) =
      ap (take r.count) (drop-map (member_of text) r.first ps) ∙ take-map (member_of text) r.count (drop r.first ps) in
      ap (λ ms. slice_get (map f ms) i) run
      ∙ slice_get-map f (map (member_of text) (take r.count (drop r.first ps))) i
      ∙ ap (option_map f) (slice_get-map (member_of text) (take r.count (drop r.first ps)) i)
      ∙ mapped_twice (slice_get (take r.count (drop r.first ps)) i)
    where
      mapped_twice : (x : Option Part) → option_map f (option_map (member_of text) x) ≡ option_map (λ p. f (member_of text p)) x
      mapped_twice None = refl
      mapped_twice (Some p) = refl

-- the text under a span that is inside
pub bytes_inside : (text : List ℕ) (s : Span) → span_inside (length text) s ≡ true → bytes_at text s ≡ Some (span_bytes text s)
bytes_inside text s e = ap (λ b. then_some b (span_bytes text s)) e

-- what is answered of an attribute, by its name and its type
module _ (n : Option Name) (t : Option Tree) (a : Option (Name × Tree)) (is : a ≡ paired n t) where
  pub no_name : None ≡ n → a ≡ None
  no_name e = is ∙ ap (λ x. paired x t) (sym e)

  pub no_type : None ≡ option_map (λ (x : Tree). Some x) t → a ≡ None
  no_type e = is ∙ ap (paired n) (none_mapped t e) ∙ paired_none n
    where
      none_mapped : (x : Option Tree) → None ≡ option_map (λ (y : Tree). Some y) x → x ≡ None
      none_mapped None e = refl
      none_mapped (Some y) e = absurd (none-some _ e)

  pub both :
      (name : Name) (typed : Option Tree) → Some name ≡ n → Some typed ≡ option_map (λ (x : Tree). Some x) t →
      (x : Tree) × (a ≡ Some (name, x)) × (typed ≡ Some x) × (t ≡ Some x)
  both name typed named types = go t types is refl
    where
      go : (y : Option Tree) → Some typed ≡ option_map (λ (x : Tree). Some x) y → a ≡ paired n y → t ≡ y → (x : Tree) × (a ≡ Some (name, x)) × (typed ≡ Some x) × (t ≡ Some x)
      go None e is at = absurd (none-some typed (sym e))
      go (Some x) e is at = (x, is ∙ ap (λ m. paired m (Some x)) (sym named), same_Some typed (Some x) e, at)

module _ (b : Book) where
  abbrev h : Held
  h = held_of b

  abbrev text : List ℕ
  text = b.names.text.text

  abbrev ds : List Description
  ds = h.descriptions

  slot_described : (i : ℕ) (x : Option Descriptor) → slice_get b.descriptors.items i ≡ x → slice_get ds i ≡ option_map (description_of h.members text) x
  slot_described i x e = slice_get-map (description_of h.members text) b.descriptors.items i ∙ ap (option_map (description_of h.members text)) e

  pub slot_as_told : (i : ℕ) (x : Option Descriptor) → x ≡ slice_get b.descriptors.items i →
      option_map (descriptor_told h text) x ≡ option_and_then tree_told (slice_get (trees_of ds) i)
  slot_as_told i None e = ap (option_and_then tree_told) (sym (none_past ds (trees_of ds) i (sym (length-trees_of ds)) (slot_described i None (sym e))))
  slot_as_told i (Some d) e =
      let D : Description = description_of h.members text d in
      let tree : slice_get (trees_of ds) i ≡ Some (tree_of (trees_of ds) D) = tree_founded ds i D b.sound.founded (slot_described i (Some d) (sym e)) in
      ap (λ us. Some (node_told D.oid D.name D.head us)) (sym (listed_components (trees_of ds) D.components))
      ∙ ap (option_and_then tree_told) (sym tree)

  -- a descriptor's name and a part's lie in the text
  pub name_inside : (i : ℕ) (d : Descriptor) → Some d ≡ slice_get b.descriptors.items i → bytes_at text d.name ≡ Some (span_bytes text d.name)
  name_inside i d e =
      let all = b.inside.descriptors_inside in
      bytes_inside text d.name (and_parts (span_inside (length text) d.name) (run_inside (length b.parts.items) d.kind)
      (all_at (descriptor_inside (length b.parts.items) (length text)) b.descriptors.items i d all (sym e))).0

  pub part_name_inside : (r : Run) (i : ℕ) (p : Part) → Some p ≡ slice_get (take r.count (drop r.first b.parts.items)) i →
      bytes_at text p.name ≡ slice_get (names_of (run_of r h.members)) i
  part_name_inside r i p e =
      let inside = all_at (part_inside (length text)) (take r.count (drop r.first b.parts.items)) i p
      (all_take (part_inside (length text)) r.count (drop r.first b.parts.items) (all_drop (part_inside (length text)) r.first b.parts.items b.inside.parts_inside)) (sym e) in
      bytes_inside text p.name inside
      ∙ ap (option_map (λ q. span_bytes text q.name)) e
      ∙ sym (run_at (λ m. m.called) text r b.parts.items i)

  -- a component of a well-founded descriptor is a settled type
  stands : (slot : ℕ) → slot ≤ length ds → (c : Component) → is_earlier slot (Some c) ≡ true → settled_component h c ≡ Some (Some (component_tree (trees_of ds) (Some c)))
  stands slot l (v.BuiltIn o) e = ap (λ x. if x then Some (Some (built o.0)) else None) e
  stands slot l (v.Slot i) e =
      let t = slice_get_some (trees_of ds) i (omega (arith, length-trees_of ds, ltb-true i slot e)) in
      ap (λ x. Some x) (t.1 ∙ ap (λ x. Some (unwrap_or x (built 0))) (sym t.1))

  all_stand : (slot : ℕ) → slot ≤ length ds → (cs : List (Option Component)) → list_all (is_earlier slot) cs ≡ true → (i : ℕ) (x : Option (Option Component)) → slice_get cs i ≡ x →
      option_and_then (settled_component h) (option_and_then (λ (c : Option Component). c) x) ≡ option_map (λ t. Some t) (option_map (component_tree (trees_of ds)) x)
  all_stand slot l cs all i None e = refl
  all_stand slot l cs all i (Some None) e = absurd (false≢true (all_at (is_earlier slot) cs i None all e))
  all_stand slot l cs all i (Some (Some c)) e = stands slot l c (all_at (is_earlier slot) cs i (Some c) all e)

  pub components_stand : (slot : ℕ) (d : Descriptor) → Some d ≡ slice_get b.descriptors.items slot → (i : ℕ) →
      option_and_then (settled_component h) (option_and_then (λ (c : Option Component). c) (slice_get (components_of h.members d.kind) i)) ≡
      option_map (λ t. Some t) (slice_get (map (component_tree (trees_of ds)) (components_of h.members d.kind)) i)
  components_stand slot d e i =
      let D : Description = description_of h.members text d in
      let at : slice_get ds slot ≡ Some D = slot_described slot (Some d) (sym e) in
      let within : slot < length ds = slice_get_within ds slot D at in
      all_stand slot (omega arith) D.components (founded_slot ds slot D b.sound.founded at).earlier i (slice_get D.components i) refl
      ∙ ap (option_map (λ t. Some t)) (sym (slice_get-map (component_tree (trees_of ds)) D.components i))

  -- the attributes of a composite, by their names and types
  pub attributes_paired : (settled : Settled) (d : Descriptor) (r : Run) → d.kind ≡ Composite r → Some (descriptor_told h text d) ≡ settled_told h settled → (i : ℕ) →
      option_and_then (λ t. slice_get t.attributes i) (settled_told h settled) ≡
      paired (slice_get (names_of (run_of r h.members)) i) (option_and_then (λ t. slice_get t.components i) (settled_told h settled))
  attributes_paired settled d r composite told i =
      ap (option_and_then (λ (t : TypeTold). slice_get t.attributes i)) (sym told)
      ∙ ap (λ k. slice_get (zip (attributes_of_head (head_of h.members k)) types) i) composite
      ∙ zipped (names_of (run_of r h.members)) types i
      ∙ ap (λ x. paired (slice_get (names_of (run_of r h.members)) i) (option_and_then (λ (t : TypeTold). slice_get t.components i) x)) told
    where
      types : List Tree
      types = map (component_tree (trees_of ds)) (components_of h.members d.kind)
