-- The trees of a book: those of its slots are not of built-in types, and none goes deeper or is wider than its tables are.
-- Assumes nothing.
use Rattle.std.proofs.Common.{◌≡◌, ℕ, zero, suc, ◌+◌, ◌≤◌, List, [], ◌∷◌, ◌++◌, length, take, drop, slice_get, unwrap_or, Some, None, Option, refl, sym, ap, ◌∙◌, subst, arith, length-append, length-take, length-drop}
use Rattle.std.specs.Option.{option_and_then}
use Rattle.std.proofs.lemmas.List.{length-map}
use Rattle.std.proofs.lemmas.Option.{none-some, same_Some, slice_get_within}
use Rattle.catalog.specs.Shape.{Head, simple, pseudo, domain, array, range, enumeration, composite}
use Rattle.book.specs.Book.{held_of}
use Rattle.book.specs.declared.descriptor.Component.{Component}
use Rattle.book.specs.declared.descriptor.Component.TheVariants.{BuiltIn, Slot as SlotOf}
use Rattle.book.specs.declared.descriptor.Descriptor.{Descriptor}
use Rattle.book.specs.declared.descriptor.Kind.{Kind}
use Rattle.book.specs.declared.descriptor.Kind.TheVariants as k
use Rattle.book.specs.declared.descriptor.Run.{Run}
use Rattle.book.specs.declared.settled.Settled.{Settled}
use Rattle.book.specs.declared.settled.Settled.TheVariants.{Described}
use Rattle.book.specs.declared.settled.Settled.TheVariants as s
use Rattle.book.specs.declared.settled.Slot.{Slot}
use Rattle.book.specs.declared.tables.Book.{Book}
use Rattle.book.specs.Descriptions.{Description, Member, component_tree, component_trees, components_of, description_of, descriptions_of, head_of, member_of, run_of, tree_of, trees_of, trees_on}
use Rattle.book.specs.Held.{Held}
use Rattle.book.specs.Settled.{kind_of_head, labels_of_head, settled_told, tree_list, tree_told}
use Rattle.book.proofs.Trees.{length-trees_of, slice_get_some, tree_at}
use Rattle.type_info.specs.Meaning.{entry_of}
use Rattle.unfolding.specs.Unfolding.{Tree, built, node, Trees, none, more}
use Rattle.transcript.specs.Describe.{holder, holder_of_head}
use Rattle.transcript.specs.Laying.{AllWithin, Stands, Within, holder_of_kind, holder_told}

-- what a slot stands for is no built-in type
slot_described : (ds : List Description) (i : ℕ) (t : Tree) → slice_get (trees_of ds) i ≡ Some t → (d : Description) × (t ≡ tree_of (trees_of (take i ds)) d)
slot_described ds i t e =
    let d = slice_get_some ds i (omega (arith, slice_get_within (trees_of ds) i t e, length-trees_of ds)) in
    (d.0, same_Some t (tree_of (trees_of (take i ds)) d.0) (sym e ∙ tree_at ds i d.0 d.1))

holder_alike : (o : ℕ) (head : Head) → holder_of_kind o (kind_of_head head) ≡ holder_of_head o head
holder_alike o simple = refl
holder_alike o pseudo = refl
holder_alike o domain = refl
holder_alike o array = refl
holder_alike o range = refl
holder_alike o (enumeration labels) = refl
holder_alike o (composite names) = refl

slot_holder : (h : Held) (slot : Slot) (t : Tree) → Stands h (Described slot) t →
    option_and_then holder_told (settled_told h (Described slot)) ≡ holder t
slot_holder h slot t st =
    let d = slot_described h.descriptions slot.0 t st.tree in
    ap (option_and_then holder_told) st.told
    ∙ subst
    (λ (u : Tree). option_and_then holder_told (tree_told u) ≡ holder u)
    (sym d.1)
    (holder_alike d.0.oid d.0.head)

pub described_holder : (h : Held) (settled : Settled) (slot : Slot) → settled ≡ Described slot → (t : Tree) → Stands h settled t →
    option_and_then holder_told (settled_told h settled) ≡ holder t
described_holder h settled slot is t st =
    subst
    (λ (x : Settled). Stands h x t → option_and_then holder_told (settled_told h x) ≡ holder t)
    (sym is)
    (slot_holder h slot t)
    st

mutual
  within_more : (k m : ℕ) → k ≤ m → (t : Tree) → Within k t → Within m t
  within_more k m l (built o) w = tt
  within_more zero m l (node o name head ts) w = absurd w
  within_more (suc k) zero l (node o name head ts) w = absurd (omega arith)
  within_more (suc k) (suc m) l (node o name head ts) w = (w.0, w.1, all_more k m (omega arith) ts w.2)

  all_more : (k m : ℕ) → k ≤ m → (ts : Trees) → AllWithin k ts → AllWithin m ts
  all_more k m l none w = tt
  all_more k m l (more t ts) w = (within_more k m l t w.0, all_more k m l ts w.1)

abbrev Shallow : ℕ → List Tree → Type 0
Shallow k [] = Unit {0}
Shallow k (t ∷ ts) = Within k t × Shallow k ts

shallow_more : (k m : ℕ) → k ≤ m → (ts : List Tree) → Shallow k ts → Shallow m ts
shallow_more k m l [] s = tt
shallow_more k m l (t ∷ ts) s = (within_more k m l t s.0, shallow_more k m l ts s.1)

shallow_append : (k : ℕ) (ts : List Tree) (t : Tree) → Shallow k ts → Within k t → Shallow k (ts ++ t ∷ [])
shallow_append k [] t s w = (w, tt)
shallow_append k (u ∷ ts) t s w = (s.0, shallow_append k ts t s.1 w)

shallow_at : (k : ℕ) (ts : List Tree) (i : ℕ) (t : Tree) → Shallow k ts → slice_get ts i ≡ Some t → Within k t
shallow_at k [] i t s e = absurd (none-some t e)
shallow_at k (u ∷ ts) zero t s e = subst (Within k) (same_Some u t e) s.0
shallow_at k (u ∷ ts) (suc i) t s e = shallow_at k ts i t s.1 e

shallow_or : (k : ℕ) (x : Option Tree) → ((t : Tree) → x ≡ Some t → Within k t) → Within k (unwrap_or x (built 0))
shallow_or k None h = tt
shallow_or k (Some t) h = h t refl

module _ (k : ℕ) (ts : List Tree) (s : Shallow k ts) where
  component_within : (c : Option Component) → Within k (component_tree ts c)
  component_within None = tt
  component_within (Some (BuiltIn o)) = tt
  component_within (Some (SlotOf i)) = shallow_or k (slice_get ts i) (λ t e. shallow_at k ts i t s e)

  components_within : (cs : List (Option Component)) → AllWithin k (component_trees ts cs)
  components_within [] = tt
  components_within (c ∷ cs) = (component_within c, components_within cs)

count_components : (ts : List Tree) (cs : List (Option Component)) → length (tree_list (component_trees ts cs)) ≡ length cs
count_components ts [] = refl
count_components ts (c ∷ cs) = ap suc (count_components ts cs)

-- how many labels and components
record Narrow (d : Description) : Type 0 where
  labels : length (labels_of_head d.head) ≤ 4096
  components : length d.components ≤ 4096

abbrev AllNarrow : List Description → Type 0
AllNarrow [] = Unit {0}
AllNarrow (d ∷ ds) = Narrow d × AllNarrow ds

tree_within : (k : ℕ) (ts : List Tree) → Shallow k ts → (d : Description) → Narrow d → Within (suc k) (tree_of ts d)
tree_within k ts s d n = (n.labels, omega (arith, n.components, count_components ts d.components), components_within k ts s d.components)

trees_within : (k : ℕ) (ts : List Tree) (ds : List Description) → length ts + length ds ≤ k → Shallow (length ts) ts → AllNarrow ds → Shallow k (trees_on ts ds)
trees_within k ts [] l s n = shallow_more (length ts) k (omega arith) ts s
trees_within k ts (d ∷ ds) l s n =
    let us : List Tree = ts ++ tree_of ts d ∷ [] in
    let long : length us ≡ length ts + 1 = length-append ts (tree_of ts d ∷ []) in
    let here : Shallow (suc (length ts)) us = shallow_append (suc (length ts)) ts (tree_of ts d)
    (shallow_more (length ts) (suc (length ts)) (omega arith) ts s) (tree_within (length ts) ts s d n.0) in
    trees_within k us ds (omega arith) (shallow_more (suc (length ts)) (length us) (omega arith) us here) n.1

few : {A : Type 0} (r : Run) (ms : List A) → length (take r.count (drop r.first ms)) ≤ length ms
few r ms = omega (arith, length-take r.count (drop r.first ms), length-drop r.first ms)

module _ (ms : List Member) (l : length ms ≤ 4096) where
  labels_few : (kind : Kind) → length (labels_of_head (head_of ms kind)) ≤ 4096
  labels_few k.Simple = omega arith
  labels_few k.Pseudo = omega arith
  labels_few (k.Domain c) = omega arith
  labels_few (k.Array c) = omega arith
  labels_few (k.Range c) = omega arith
  labels_few (k.Enum r) = omega (arith, length-map (run_of r ms) (λ (m : Member). m.called), few r ms)
  labels_few (k.Composite r) = omega arith

  components_few : (kind : Kind) → length (components_of ms kind) ≤ 4096
  components_few k.Simple = omega arith
  components_few k.Pseudo = omega arith
  components_few (k.Domain c) = omega arith
  components_few (k.Array c) = omega arith
  components_few (k.Range c) = omega arith
  components_few (k.Enum r) = omega arith
  components_few (k.Composite r) = omega (arith, length-map (run_of r ms) (λ (m : Member). m.typed), few r ms)

  descriptions_narrow : (text : List ℕ) (ds : List Descriptor) → AllNarrow (descriptions_of ms text ds)
  descriptions_narrow text [] = tt
  descriptions_narrow text (d ∷ ds) =
      (record { labels = labels_few d.kind; components = components_few d.kind }, descriptions_narrow text ds)

pub within_book : (b : Book) (settled : Settled) (t : Tree) → Stands (held_of b) settled t → Within 512 t
within_book b (s.BuiltIn e) t st = subst (Within 512) (same_Some (built (entry_of e).oid) t st.tree) tt
within_book b (Described slot) t st =
    let h : Held = held_of b in
    let members : length h.members ≤ 4096 =
    omega (arith, b.sound.fits.parts, length-map b.parts.items (member_of b.names.text.text)) in
    let descriptors : length h.descriptions ≤ 512 =
    omega (arith, b.sound.fits.descriptors, length-map b.descriptors.items (description_of h.members b.names.text.text)) in
    shallow_at 512 (trees_of h.descriptions) slot.0 t
    (trees_within 512 [] h.descriptions (omega arith) tt (descriptions_narrow h.members members b.names.text.text b.descriptors.items))
    st.tree
