-- The kind of a row's shape, with the members that are laid for it.
-- Assumes nothing.
use Rattle.std.proofs.Common.{◌≡◌, ℕ, ◌+◌, true, List, [], ◌∷◌, ◌++◌, length, map, take, drop, slice_get, nat_le, option_and_then, Some, None, Option, sym, refl, ap, ◌∙◌, subst, arith, length-append}
use Rattle.std.specs.List.{list_all}
use Rattle.std.proofs.Math.Seq.{drop-append_seam, take-length}
use Rattle.std.proofs.lemmas.Bool.{and_parts, le-leb}
use Rattle.std.proofs.lemmas.List.{length-map}
use Rattle.std.proofs.lemmas.Simd.{map-map}
use Rattle.catalog.specs.Catalog.{CatalogAttribute, CatalogRow}
use Rattle.catalog.specs.Shape.{Head, simple, pseudo, domain, array, range, enumeration, composite, Name, Shape, oids_of}
use Rattle.catalog.specs.Shape as shapes
use Rattle.life.proofs.Lists.{is_some_if, not_some_none}
use Rattle.book.specs.declared.descriptor.Component.{Component}
use Rattle.book.specs.declared.descriptor.Kind.{Kind}
use Rattle.book.specs.declared.descriptor.Kind.TheVariants.{Simple, Pseudo, Domain, Array, Range, Enum, Composite}
use Rattle.book.specs.declared.descriptor.Run.{Run}
use Rattle.book.specs.Adding.{KindLaid, attribute_members, component_for, is_known, label_members, row_members}
use Rattle.book.specs.Descriptions.{Description, Member, components_of, head_of, names_of, run_of, types_of}
use Rattle.book.specs.Held.{Held, with_members}
use Rattle.book.specs.Tables.{run_inside}
use Rattle.book.proofs.Members.{members_none}
use Rattle.book.proofs.Shapes.{HeadOf, shape_of_row}

-- what is laid behind some members is the run from there on
laid_run : (ms ns : List Member) (r : Run) → r.first ≡ length ms → r.count ≡ length ns → run_of r (ms ++ ns) ≡ ns
laid_run ms ns r first count =
    (λ i. take (count i) (drop (first i) (ms ++ ns))) ∙ ap (take (length ns)) (drop-append_seam ms ns) ∙ take-length ns

pub label_names : (ls : List Name) → names_of (label_members ls) ≡ ls
label_names [] = refl
label_names (n ∷ ls) = ap (λ t. n ∷ t) (label_names ls)

module _ (ds : List Description) where
  pub attribute_names : (xs : List CatalogAttribute) → names_of (attribute_members ds xs) ≡ shapes.names_of xs
  attribute_names xs = map-map (λ (m : Member). m.called) (λ (a : CatalogAttribute). record { called = a.called; typed = component_for ds a.typed }) xs

  attribute_types : (xs : List CatalogAttribute) → types_of (attribute_members ds xs) ≡ map (component_for ds) (oids_of xs)
  attribute_types xs =
      map-map (λ (m : Member). m.typed) (λ (a : CatalogAttribute). record { called = a.called; typed = component_for ds a.typed }) xs
      ∙ sym (map-map (component_for ds) (λ (a : CatalogAttribute). a.typed) xs)

  abbrev only : List ℕ → Option Component
  only links = option_and_then (component_for ds) (slice_get links 0)

  -- a shape of one link that is known has its component
  pub no_component : (links : List ℕ) → (l : ℕ) × (links ≡ l ∷ []) → list_all (is_known ds) links ≡ true → only links ≡ None → ⊥
  no_component links one known none =
      let l = one.0 in
      let known_one : is_known ds l ≡ true = (and_parts (is_known ds l) true (sym (ap (list_all (is_known ds)) one.1) ∙ known)).0 in
      let c = is_some_if (component_for ds l) known_one in
      not_some_none c.0 c.1 (sym (ap only one.1) ∙ none)

  one_component : (links : List ℕ) → (l : ℕ) × (links ≡ l ∷ []) → (c : Component) → only links ≡ Some c → Some c ∷ [] ≡ map (component_for ds) links
  one_component links one c e = ap (λ x. x ∷ []) (sym e ∙ ap only one.1) ∙ sym (ap (map (component_for ds)) one.1)

module _ (h : Held) (r : CatalogRow) (s : Shape) (of_row : shapes.shape r ≡ Some s) where
  pub head_is : (head : Head) → s.head ≡ head → HeadOf r head s.links
  head_is head e = subst (λ x. HeadOf r x s.links) e (shape_of_row r s of_row).1

  -- of a kind without members
  bare : (kind : Kind) (head : Head) → s.head ≡ head → row_members h.descriptions r head ≡ [] → head_of h.members kind ≡ head →
      components_of h.members kind ≡ map (component_for h.descriptions) s.links → run_inside (length h.members) kind ≡ true → KindLaid h r s kind h
  bare kind head e none told components inside = record {
    held = sym (ap (λ x. with_members h (row_members h.descriptions r x)) e ∙ ap (with_members h) none ∙ members_none h);
    head = told ∙ sym e;
    components = components;
    inside = inside;
  }

  pub simple_laid : s.head ≡ simple → KindLaid h r s Simple h
  simple_laid e = bare Simple simple e refl refl (ap (map (component_for h.descriptions)) (sym (head_is simple e))) refl

  pub pseudo_laid : s.head ≡ pseudo → KindLaid h r s Pseudo h
  pseudo_laid e = bare Pseudo pseudo e refl refl (ap (map (component_for h.descriptions)) (sym (head_is pseudo e))) refl

  pub domain_laid : s.head ≡ domain → (c : Component) → only h.descriptions s.links ≡ Some c → KindLaid h r s (Domain c) h
  domain_laid e c found = bare (Domain c) domain e refl refl (one_component h.descriptions s.links (head_is domain e) c found) refl

  pub array_laid : s.head ≡ array → (c : Component) → only h.descriptions s.links ≡ Some c → KindLaid h r s (Array c) h
  array_laid e c found = bare (Array c) array e refl refl (one_component h.descriptions s.links (head_is array e) c found) refl

  pub range_laid : s.head ≡ range → (c : Component) → only h.descriptions s.links ≡ Some c → KindLaid h r s (Range c) h
  range_laid e c found = bare (Range c) range e refl refl (one_component h.descriptions s.links (head_is range e) c found) refl

  -- of a kind whose members are laid in this run
  module _ (g : Held) (run : Run) (first : run.first ≡ length h.members) where
    inside_then : (ms : List Member) → run.count ≡ length ms → nat_le (run.first + run.count) (length (h.members ++ ms)) ≡ true
    inside_then ms count = le-leb (run.first + run.count) (length (h.members ++ ms)) (omega (arith, first, count, length-append h.members ms))

    pub enum_laid : (labels : List Name) → s.head ≡ enumeration labels → run.count ≡ length r.labels → g ≡ with_members h (label_members r.labels) → KindLaid h r s (Enum run) g
    enum_laid labels e count laid =
        let of_head = head_is (enumeration labels) e in
        let ms : List Member = label_members r.labels in
        let many : run.count ≡ length ms = count ∙ sym (length-map r.labels (λ n. record { called = n; typed = None })) in
        let members : g.members ≡ h.members ++ ms = ap (λ (x : Held). x.members) laid in
        record {
          held = laid ∙ sym (ap (λ x. with_members h (row_members h.descriptions r x)) e);
          head = ap (λ l. enumeration (names_of (run_of run l))) members ∙ ap (λ l. enumeration (names_of l)) (laid_run h.members ms run first many)
              ∙ ap enumeration (label_names r.labels ∙ sym of_head.0) ∙ sym e;
          components = ap (map (component_for h.descriptions)) (sym of_head.1);
          inside = subst (λ l. nat_le (run.first + run.count) (length l) ≡ true) (sym members) (inside_then ms many);
        }

    pub composite_laid : (names : List Name) → s.head ≡ composite names → run.count ≡ length r.attributes → g ≡ with_members h (attribute_members h.descriptions r.attributes) →
        KindLaid h r s (Composite run) g
    composite_laid names e count laid =
        let of_head = head_is (composite names) e in
        let ms : List Member = attribute_members h.descriptions r.attributes in
        let many : run.count ≡ length ms = count ∙ sym (length-map r.attributes (λ (a : CatalogAttribute). record { called = a.called; typed = component_for h.descriptions a.typed })) in
        let members : g.members ≡ h.members ++ ms = ap (λ (x : Held). x.members) laid in
        let laid_so : run_of run g.members ≡ ms = ap (run_of run) members ∙ laid_run h.members ms run first many in
        record {
          held = laid ∙ sym (ap (λ x. with_members h (row_members h.descriptions r x)) e);
          head = ap (λ l. composite (names_of l)) laid_so ∙ ap composite (attribute_names h.descriptions r.attributes ∙ sym of_head.0) ∙ sym e;
          components = ap types_of laid_so ∙ attribute_types h.descriptions r.attributes ∙ sym (ap (map (component_for h.descriptions)) of_head.1);
          inside = subst (λ l. nat_le (run.first + run.count) (length l) ≡ true) (sym members) (inside_then ms many);
        }
