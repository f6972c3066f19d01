-- What is found of known types is what their components stand for, and one descriptor more describes one OID more.
-- Assumes nothing.
use Rattle.std.proofs.Common.{◌≡◌, ℕ, true, false, List, [], ◌∷◌, ◌++◌, length, map, slice_get, nat_eq, is_some, unwrap_or, option_and_then, Some, None, Option, ⊎_elim, sym, refl, ap, ap₂, ◌∙◌, subst, arith}
use Rattle.std.specs.List.{list_all}
use Rattle.std.specs.Map.{update}
use Rattle.std.specs.Option.{option_map}
use Rattle.std.proofs.lemmas.Bool.{and_parts, cases_Bool, cond-false, cond-true}
use Rattle.std.proofs.lemmas.Option.{slice_get_within}
use Rattle.unfolding.specs.Unfolding.{Tree, built, built_in}
use Rattle.life.specs.Rounds.{found}
use Rattle.life.specs.Settle.{gather, joined, put}
use Rattle.life.proofs.InTurn.{some_gather}
use Rattle.life.proofs.Known.{found_built, found_held}
use Rattle.life.proofs.Lists.{is_none_if}
use Rattle.book.specs.declared.descriptor.Component.TheVariants.{Slot}
use Rattle.book.specs.Adding.{component_for, is_known}
use Rattle.book.specs.Descriptions.{Description, component_tree, component_trees, described_by, slot_of, tree_of, trees_of}
use Rattle.book.proofs.Appended.{slot_of_more}
use Rattle.book.proofs.Described.{known_answered, of_built, of_slot}
use Rattle.book.proofs.Trees.{length-trees_of, slice_get-append, slice_get-here, slice_get_some, slot_stands, trees_of-more}

module _ (ds : List Description) where
  -- a slot has a tree
  tree_in : (o i : ℕ) → slot_of ds o ≡ Some i → (t : Tree) × (slice_get (trees_of ds) i ≡ Some t)
  tree_in o i e =
      let d = slot_stands ds o i e in
      slice_get_some (trees_of ds) i (omega (arith, slice_get_within ds i d.0 d.1, length-trees_of ds))

  slot_found : (o : ℕ) (s : Option ℕ) → slot_of ds o ≡ s → is_some (option_map (λ i. Slot i) s) ≡ true →
      option_and_then (slice_get (trees_of ds)) s ≡ Some (component_tree (trees_of ds) (option_map (λ i. Slot i) s))
  slot_found o None e known = absurd cc
  slot_found o (Some i) e known = let t = tree_in o i e in t.1 ∙ ap (λ x. Some (unwrap_or x (built 0))) (sym t.1)

  found_known : (o : ℕ) → is_known ds o ≡ true → found (described_by ds) o ≡ Some (component_tree (trees_of ds) (component_for ds o))
  found_known o known =
      ⊎_elim
      (λ b. found_built (described_by ds) o b ∙ ap (λ c. Some (component_tree (trees_of ds) c)) (sym (of_built ds o b)))
      (λ b.
      found_held (described_by ds) o b
      ∙ slot_found o (slot_of ds o) refl (subst (λ c. is_some c ≡ true) (of_slot ds o b) known)
      ∙ ap (λ c. Some (component_tree (trees_of ds) c)) (sym (of_slot ds o b)))
      (cases_Bool (built_in o))

  pub gather_known : (os : List ℕ) → list_all (is_known ds) os ≡ true → gather (described_by ds) os ≡ Some (component_trees (trees_of ds) (map (component_for ds) os))
  gather_known [] e = refl
  gather_known (o ∷ os) e =
      let p = and_parts (is_known ds o) (list_all (is_known ds) os) e in
      λ i. joined (found_known o p.0 i) (gather_known os p.1 i)

  pub gather_unknown : (os : List ℕ) → list_all (is_known ds) os ≡ false → gather (described_by ds) os ≡ None
  gather_unknown os e =
      is_none_if (gather (described_by ds) os) (some_gather (described_by ds) os ∙ (λ i. list_all (λ o. sym (known_answered ds o) i) os) ∙ e)

  -- the tree of a descriptor behind the others
  module _ (d : Description) (new : slot_of ds d.oid ≡ None) where
    abbrev u : Tree
    u = tree_of (trees_of ds) d

    last_tree : slice_get (trees_of ds ++ u ∷ []) (length ds) ≡ Some u
    last_tree = ap (slice_get (trees_of ds ++ u ∷ [])) (sym (length-trees_of ds)) ∙ slice_get-here (trees_of ds) u []

    earlier_tree : (o : ℕ) (s : Option ℕ) → slot_of ds o ≡ s → option_and_then (slice_get (trees_of ds ++ u ∷ [])) s ≡ option_and_then (slice_get (trees_of ds)) s
    earlier_tree o None e = refl
    earlier_tree o (Some i) e = let t = tree_in o i e in slice_get-append (trees_of ds) (u ∷ []) i t.0 t.1 ∙ sym t.1

    by_slots : (o : ℕ) → option_and_then (slice_get (trees_of ds ++ u ∷ [])) (update nat_eq (slot_of ds) d.oid (Some (length ds)) o) ≡ put (described_by ds) d.oid u o
    by_slots o =
        ⊎_elim
        (λ t.
        ap (option_and_then (slice_get (trees_of ds ++ u ∷ []))) (cond-true (nat_eq d.oid o) (Some (length ds)) (slot_of ds o) t)
        ∙ last_tree
        ∙ sym (cond-true (nat_eq d.oid o) (Some u) (described_by ds o) t))
        (λ f.
        ap (option_and_then (slice_get (trees_of ds ++ u ∷ []))) (cond-false (nat_eq d.oid o) (Some (length ds)) (slot_of ds o) f)
        ∙ earlier_tree o (slot_of ds o) refl
        ∙ sym (cond-false (nat_eq d.oid o) (Some u) (described_by ds o) f))
        (cases_Bool (nat_eq d.oid o))

    pub described_more : described_by (ds ++ d ∷ []) ≡ put (described_by ds) d.oid u
    described_more = λ i o. (ap₂ (λ ts s. option_and_then (slice_get ts) s) (trees_of-more ds d) (slot_of_more ds d o new) ∙ by_slots o) i
