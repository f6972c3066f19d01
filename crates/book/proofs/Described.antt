-- Where an OID can be described, its members fit, and then its descriptor, whose components are told already.
-- Assumes nothing.
use Rattle.std.proofs.Common.{◌≡◌, ℕ, ◌<◌, true, false, not, ◌&&◌, ◌||◌, if◌then◌else◌, List, [], ◌∷◌, length, map, slice_get, option_and_then, is_some, Some, None, Option, sym, refl, ap, ◌∙◌, subst, ⊎_elim, arith}
use Rattle.std.specs.List.{list_all}
use Rattle.std.specs.Option.{option_map}
use Rattle.std.proofs.lemmas.Bool.{and_parts, cases_Bool, lt-ltb, not-true}
use Rattle.std.proofs.lemmas.List.{length-map}
use Rattle.std.proofs.lemmas.Option.{slice_get_within}
use Rattle.catalog.specs.Catalog.{CatalogRow}
use Rattle.catalog.specs.Shape.{Head, simple, pseudo, domain, array, range, enumeration, composite, Shape}
use Rattle.unfolding.specs.Unfolding.{built_in}
use Rattle.life.specs.Walk.{answered}
use Rattle.life.proofs.Lists.{is_none_if, not_both}
use Rattle.room.specs.Sizes.{bytes, first_full, part_names}
use Rattle.book.specs.declared.descriptor.Component.{Component}
use Rattle.book.specs.declared.descriptor.Component.TheVariants.{BuiltIn, Slot}
use Rattle.book.specs.Adding.{PartsOf, component_for, is_known, row_members, settles_so, size_of_shape}
use Rattle.book.specs.Descriptions.{Description, Member, described_by, is_earlier, names_of, slot_of, trees_of}
use Rattle.book.specs.Held.{Fits, Held, has_room, size_of_description, size_of_members, sum_of, with_members}
use Rattle.book.proofs.Laying.{attribute_names, label_names}
use Rattle.book.proofs.Put.{unmapped}
use Rattle.book.proofs.Room.{fits_then}
use Rattle.book.proofs.Trees.{length-trees_of, slice_get_some, slot_stands}

module _ (ds : List Description) where
  -- what is told of a known type is built in or stands before any later slot
  pub of_built : (o : ℕ) → built_in o ≡ true → component_for ds o ≡ Some (BuiltIn (record { 0 = o }))
  of_built o e = ap (λ t. if t then Some (BuiltIn (record { 0 = o })) else option_map (λ i. Slot i) (slot_of ds o)) e

  pub of_slot : (o : ℕ) → built_in o ≡ false → component_for ds o ≡ option_map (λ i. Slot i) (slot_of ds o)
  of_slot o e = ap (λ t. if t then Some (BuiltIn (record { 0 = o })) else option_map (λ i. Slot i) (slot_of ds o)) e

  slot_earlier : (o : ℕ) (s : Option ℕ) → slot_of ds o ≡ s → is_some (option_map (λ i. Slot i) s) ≡ true → is_earlier (length ds) (option_map (λ i. Slot i) s) ≡ true
  slot_earlier o None e known = absurd cc
  slot_earlier o (Some i) e known = let d = slot_stands ds o i e in lt-ltb i (length ds) (slice_get_within ds i d.0 d.1)

  earlier : (o : ℕ) → is_known ds o ≡ true → is_earlier (length ds) (component_for ds o) ≡ true
  earlier o known =
      ⊎_elim
      (λ b. subst (λ c. is_earlier (length ds) c ≡ true) (sym (of_built o b)) b)
      (λ b.
      subst (λ c. is_earlier (length ds) c ≡ true) (sym (of_slot o b))
      (slot_earlier o (slot_of ds o) refl (subst (λ c. is_some c ≡ true) (of_slot o b) known)))
      (cases_Bool (built_in o))

  pub unknown : (o : ℕ) → is_known ds o ≡ false → (built_in o ≡ false) × (slot_of ds o ≡ None)
  unknown o e =
      ⊎_elim
      (λ b. absurd (not_both (ap is_some (of_built o b)) e))
      (λ b. (b, unmapped (λ i. Slot i) (slot_of ds o) (sym (of_slot o b) ∙ is_none_if (component_for ds o) e)))
      (cases_Bool (built_in o))

  pub all_earlier : (os : List ℕ) → list_all (is_known ds) os ≡ true → list_all (is_earlier (length ds)) (map (component_for ds) os) ≡ true
  all_earlier [] e = refl
  all_earlier (o ∷ os) e =
      let p = and_parts (is_known ds o) (list_all (is_known ds) os) e in
      λ i. earlier o p.0 i && all_earlier os p.1 i

  -- the members of a row have the names of its parts
  pub named_so : (r : CatalogRow) (h : Head) → PartsOf r h → names_of (row_members ds r h) ≡ part_names h
  named_so r simple e = refl
  named_so r pseudo e = refl
  named_so r domain e = refl
  named_so r array e = refl
  named_so r range e = refl
  named_so r (enumeration labels) e = label_names r.labels ∙ sym e
  named_so r (composite names) e = attribute_names ds r.attributes ∙ sym e

  pub many_so : (r : CatalogRow) (h : Head) → PartsOf r h → length (row_members ds r h) ≡ length (part_names h)
  many_so r h e = sym (length-map (row_members ds r h) (λ (m : Member). m.called)) ∙ ap length (named_so r h e)

  -- a known type is built in or described
  pub known_answered : (o : ℕ) → is_known ds o ≡ answered (described_by ds) o
  known_answered o =
      ⊎_elim
      (λ b. ap is_some (of_built o b) ∙ sym (ap (λ t. t || is_some (described_by ds o)) b))
      (λ b. ap is_some (of_slot o b) ∙ by_slot (slot_of ds o) refl ∙ sym (ap (λ t. t || is_some (described_by ds o)) b))
      (cases_Bool (built_in o))
    where
      by_slot : (s : Option ℕ) → slot_of ds o ≡ s → is_some (option_map (λ i. Slot i) s) ≡ is_some (option_and_then (slice_get (trees_of ds)) s)
      by_slot None e = refl
      by_slot (Some i) e =
          let d = slot_stands ds o i e in
          let inside : i < length (trees_of ds) = omega (arith, slice_get_within ds i d.0 d.1, length-trees_of ds) in
          let t = slice_get_some (trees_of ds) i inside in
          sym (ap is_some t.1)

module _ (h : Held) (o : ℕ) (r : CatalogRow) (s : Shape) (e : settles_so h o (Some s) ≡ true) where
  parted : (not (is_known h.descriptions o) ≡ true) × ((list_all (is_known h.descriptions) s.links && has_room h (size_of_shape s)) ≡ true)
  parted = and_parts (not (is_known h.descriptions o)) (list_all (is_known h.descriptions) s.links && has_room h (size_of_shape s)) e

  parted_again : (list_all (is_known h.descriptions) s.links ≡ true) × (has_room h (size_of_shape s) ≡ true)
  parted_again = and_parts (list_all (is_known h.descriptions) s.links) (has_room h (size_of_shape s)) parted.1

  pub free : (built_in o ≡ false) × (slot_of h.descriptions o ≡ None)
  free = unknown h.descriptions o (not-true (is_known h.descriptions o) parted.0)

  pub links_known : list_all (is_known h.descriptions) s.links ≡ true
  links_known = parted_again.0

  shape_fits : Fits (sum_of h.taken (size_of_shape s)) h.capacity
  shape_fits =
      let full = first_full h.capacity h.taken (size_of_shape s) in
      fits_then h.capacity h.taken (size_of_shape s) (is_none_if full (not-true (is_some full) parted_again.1))

  module _ (of_row : PartsOf r s.head) where
    abbrev ms : List Member
    ms = row_members h.descriptions r s.head

    named : bytes (names_of ms) ≡ bytes (part_names s.head)
    named = ap bytes (named_so h.descriptions r s.head of_row)

    pub members_fit : Fits (sum_of h.taken (size_of_members ms)) h.capacity
    members_fit = record {
      descriptors = omega (arith, shape_fits.descriptors);
      parts = omega (arith, shape_fits.parts, many_so h.descriptions r s.head of_row);
      names = omega (arith, shape_fits.names);
      arrays = omega (arith, shape_fits.arrays);
      text = omega (arith, shape_fits.text, named);
      columns = omega (arith, shape_fits.columns);
      relations = omega (arith, shape_fits.relations);
    }

    pub description_fits : (g : Held) → g ≡ with_members h ms → Fits (sum_of g.taken (size_of_description s.name)) g.capacity
    description_fits g laid = subst (λ (x : Held). Fits (sum_of x.taken (size_of_description s.name)) x.capacity) (sym laid) (record {
      descriptors = omega (arith, shape_fits.descriptors);
      parts = omega (arith, shape_fits.parts, many_so h.descriptions r s.head of_row);
      names = omega (arith, shape_fits.names);
      arrays = omega (arith, shape_fits.arrays);
      text = omega (arith, shape_fits.text, named);
      columns = omega (arith, shape_fits.columns);
      relations = omega (arith, shape_fits.relations);
    })

    pub description_founded : (g : Held) → g ≡ with_members h ms → (cs : List (Option Component)) → cs ≡ map (component_for h.descriptions) s.links →
        ((not (built_in o) && list_all (is_earlier (length g.descriptions)) cs) && true) ≡ true
    description_founded g laid cs same =
        let all : list_all (is_earlier (length g.descriptions)) cs ≡ true =
        (λ i. list_all (is_earlier (length (laid i).descriptions)) (same i)) ∙ all_earlier h.descriptions s.links links_known in
        λ i. (not (free.0 i) && all i) && true
