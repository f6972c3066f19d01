-- Where the row of an OID that was settled stands, and whether a name is that of it.
-- Assumes nothing.
use Rattle.std.proofs.Common.{◌≡◌, ℕ, zero, suc, ◌<◌, true, false, List, [], ◌∷◌, length, take, drop, slice_get, nat_eq, bytes_eq, is_some, Some, None, Option, sym, refl, ap, ◌∙◌, subst, inl, inr, ⊎_elim, arith}
use Rattle.std.specs.Prelude.{slice_index}
use Rattle.std.proofs.lemmas.Bool.{and_parts, cases_Bool}
use Rattle.std.proofs.lemmas.Bool.Decides.{Decides-eqb}
use Rattle.std.proofs.lemmas.List.{length-map, take-append-drop}
use Rattle.std.proofs.lemmas.Option.{get_or_from_slice_get, slice_get-get_or}
use Rattle.catalog.specs.Catalog.{CatalogRow}
use Rattle.keys.specs.Senses.{oid_of}
use Rattle.indexes.specs.Known.{by_oid}
use Rattle.life.specs.Lists.{is_in}
use Rattle.life.proofs.Lists.{any_tells, in_mem, mem_in, not_both, not_some_none, same_some, same_truth}
use Rattle.room.proofs.Additions.{map_mem, mem_map}
use Rattle.unfolding.specs.Lists.{Distinct, Mem}
use Rattle.book.proofs.Trees.{slice_get-append}
use Rattle.finds.specs.declared.tables.Finds.{Finds}
use Rattle.finds.specs.Finds.{order_of, queue_of, reads_of, rows_of}
use Rattle.finds.specs.Keeping.{Find, find_at, found_of, settled_finds}
use Rattle.finds.specs.Resolving.{Lead, names_find, names_settled}
use Rattle.finds.specs.Tables.{has_row}
use Rattle.finds.proofs.Few.{all_mem}
use Rattle.finds.proofs.Grown.{row_within}

stands_in : (os : List ℕ) (i o : ℕ) → slice_get os i ≡ Some o → Mem o os
stands_in [] i o e = absurd (not_some_none o e refl)
stands_in (p ∷ os) zero o e = inl (sym (same_some refl e))
stands_in (p ∷ os) (suc i) o e = inr (stands_in os i o e)

-- each at one place
one_place : (os : List ℕ) → Distinct os → (i j o : ℕ) → slice_get os i ≡ Some o → slice_get os j ≡ Some o → i ≡ j
one_place [] d i j o e g = absurd (not_some_none o e refl)
one_place (p ∷ os) d zero zero o e g = refl
one_place (p ∷ os) d zero (suc j) o e g = absurd (d.0 (subst (λ q. Mem q os) (same_some e refl) (stands_in os j o g)))
one_place (p ∷ os) d (suc i) zero o e g = absurd (d.0 (subst (λ q. Mem q os) (same_some g refl) (stands_in os i o e)))
one_place (p ∷ os) d (suc i) (suc j) o e g = ap suc (one_place os d.1 i j o e g)

-- a find has the OID that was read there
found_so : (o : Option ℕ) (row : Option (Option CatalogRow)) (x : Lead) → names_find x (found_of o row) ≡ true → o ≡ Some x.1
found_so None row x e = absurd (not_both e refl)
found_so (Some o) None x e = absurd (not_both e refl)
found_so (Some o) (Some None) x e = absurd (not_both e refl)
found_so (Some o) (Some (Some r)) x e = ap (λ p. Some p) ((Decides-eqb o x.1).0 (and_parts (nat_eq o x.1) (bytes_eq x.0 r.pretty) e).0)

pub find_oid : (o : Option ℕ) (row : Option (Option CatalogRow)) (y : Find) → found_of o row ≡ Some y → o ≡ Some y.0
find_oid None row y e = absurd (not_some_none y e refl)
find_oid (Some o) None y e = absurd (not_some_none y e refl)
find_oid (Some o) (Some None) y e = absurd (not_some_none y e refl)
find_oid (Some o) (Some (Some r)) y e = ap (λ (z : Find). Some z.0) (same_some refl e)

module _ (f : Finds) where
  places : List ℕ
  places = f.order.items

  queued : (i o : ℕ) → slice_get (reads_of f) i ≡ Some o → slice_get (queue_of f) i ≡ Some o
  queued i o e =
      let n = length (rows_of f) in
      ap (λ os. slice_get os i) (sym (take-append-drop n (queue_of f))) ∙ slice_get-append (take n (queue_of f)) (drop n (queue_of f)) i o e

  pub found_oid : (i o : ℕ) (y : Find) → slice_get (queue_of f) i ≡ Some o → find_at f i ≡ Some y → y.0 ≡ o
  found_oid i o y e found = same_some (queued i y.0 (find_oid (slice_get (reads_of f) i) (slice_get (rows_of f) i) y found)) e

  module _ (x : Lead) where
    named_at : (i : ℕ) → names_find x (find_at f i) ≡ true → slice_get (queue_of f) i ≡ Some x.1
    named_at i e = queued i x.1 (found_so (slice_get (reads_of f) i) (slice_get (rows_of f) i) x e)

    some_place : names_settled f x ≡ true → (i : ℕ) × Mem i f.order.items × (names_find x (find_at f i) ≡ true)
    some_place e =
        let a = (any_tells (names_find x) (λ y. names_find x y ≡ true) (λ y. (λ t. t, λ t. t)) (settled_finds f)).0 e in
        let m = map_mem (find_at f) f.order.items a.0 a.1 in
        (m.0, m.1, ap (names_find x) (sym m.2) ∙ a.2)

    at_some : (i : ℕ) → Mem i f.order.items → names_find x (find_at f i) ≡ true → names_settled f x ≡ true
    at_some i m e =
        (any_tells (names_find x) (λ y. names_find x y ≡ true) (λ y. (λ t. t, λ t. t)) (settled_finds f)).1 (find_at f i, mem_map (find_at f) f.order.items i m, e)

    -- one that was not settled has no name
    settled_so : names_settled f x ≡ true → is_some (by_oid f.settled x.1) ≡ true
    settled_so e =
        let s = some_place e in
        let at = named_at s.0 s.2 in
        f.ordered.indexed x.1
        ∙ mem_in x.1 (order_of f)
        (subst (λ o. Mem o (order_of f)) (get_or_from_slice_get (queue_of f) s.0 x.1 0 at) (mem_map (λ i. slice_index (queue_of f) i) f.order.items s.0 s.1))

    pub unsettled : is_some (by_oid f.settled x.1) ≡ false → names_settled f x ≡ false
    unsettled e = ⊎_elim (λ t. absurd (not_both (settled_so t) e)) (λ n. n) (cases_Bool (names_settled f x))

    pub unqueued : is_in x.1 (queue_of f) ≡ false → names_settled f x ≡ false
    unqueued e =
        ⊎_elim
        (λ t. let s = some_place t in absurd (not_both (mem_in x.1 (queue_of f) (stands_in (queue_of f) s.0 x.1 (named_at s.0 s.2))) e))
        (λ n. n)
        (cases_Bool (names_settled f x))

    -- any other has the name of its row
    module _ (settled : is_some (by_oid f.settled x.1) ≡ true) (place : ℕ) (at : slice_get (queue_of f) place ≡ Some x.1) where
      in_order : Mem place f.order.items
      in_order =
          let m = map_mem (λ i. slice_index (queue_of f) i) f.order.items x.1 (in_mem x.1 (order_of f) (sym (f.ordered.indexed x.1) ∙ settled)) in
          let inside : m.0 < length (queue_of f) =
          omega (arith, row_within f.rows.items m.0 (all_mem (has_row f.rows.items) f.order.items m.0 f.ordered.placed m.1), f.ordered.read, length-map f.queue.items oid_of) in
          let there : slice_get (queue_of f) m.0 ≡ Some x.1 = slice_get-get_or (queue_of f) m.0 0 inside ∙ ap (λ o. Some o) (sym m.2) in
          subst (λ i. Mem i f.order.items) (one_place (queue_of f) f.queued.once m.0 place x.1 there at) m.1

      pub settled_name : names_settled f x ≡ names_find x (find_at f place)
      settled_name =
          same_truth (names_settled f x) (names_find x (find_at f place))
          (λ t.
          let s = some_place t in
          subst (λ i. names_find x (find_at f i) ≡ true) (one_place (queue_of f) f.queued.once s.0 place x.1 (named_at s.0 s.2) at) s.2)
          (at_some place in_order)
