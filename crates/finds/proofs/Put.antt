-- What the tables hold once one thing more was put into them.
-- Assumes nothing.
use Rattle.std.proofs.Common.{◌≡◌, ℕ, ◌+◌, ◌<◌, ◌≤◌, true, false, not, List, [], ◌∷◌, ◌++◌, length, map, take, slice_get, nat_eq, is_some, Some, None, Option, sym, refl, ap, ◌∙◌, subst, ⊎_elim, arith, length-append}
use Rattle.std.specs.Prelude.{slice_index, slice_index_or}
use Rattle.std.specs.List.{list_all}
use Rattle.std.proofs.Math.ListN.{get_or-map}
use Rattle.std.proofs.lemmas.Bool.{cases_Bool}
use Rattle.std.proofs.lemmas.List.{length-map, map-append}
use Rattle.catalog.specs.Catalog.{Catalog, CatalogRow}
use Rattle.catalog.specs.Meaning.{row_told}
use Rattle.catalog.specs.declared.row.Row.{Row}
use Rattle.indexes.specs.Known.{Gained, HasEmpty, Interned, by_oid}
use Rattle.keys.specs.Senses.{oid_of}
use Rattle.life.specs.Lists.{is_in}
use Rattle.life.proofs.Lists.{in_mem, is_none_if, mem_in, not_both}
use Rattle.room.proofs.Additions.{mem_map}
use Rattle.slots.specs.Slots.{Entry}
use Rattle.slots.specs.Stack.{LentItems, Pushed, slots_lent}
use Rattle.type_info.specs.declared.oid.Oid.{Oid}
use Rattle.unfolding.specs.Lists.{Distinct}
use Rattle.unfolding.specs.Unfolding.{built_in}
use Rattle.book.proofs.Growth.{all_kept, all_one_more}
use Rattle.book.proofs.Put.{pushed_behind, taken}
use Rattle.finds.specs.declared.tables.Finds.{Finds}
use Rattle.finds.specs.Finds.{ReadFrom, order_of, queue_of, rows_of}
use Rattle.finds.specs.Tables.{Lent, Ordered, Queued, at_places, has_row, standing, turns}
use Rattle.finds.proofs.Few.{few_places}
use Rattle.finds.proofs.Grown.{leads_on, once_more, places_on, places_stay, read_on, row_stays}

-- tables as a step keeps them
pub record Keeps (queue : LentItems Oid) (index : List (Entry Oid ℕ)) (rows : LentItems (Option Row)) (order : LentItems ℕ) (settled : List (Entry Oid ℕ)) : Type 0 where
  pub lent : Lent queue index rows order settled
  pub queued : Queued queue index
  pub ordered : Ordered queue rows order settled

module _ (f : Finds) where
  abbrev oids : List ℕ
  oids = queue_of f

  oids_long : length oids ≡ length f.queue.items
  oids_long = length-map f.queue.items oid_of

  pub few_oids : length f.queue.items ≤ 257
  few_oids = omega (arith, f.lent.queue_lent)

  -- an OID behind the others
  module _ (p : Oid) (place : ℕ) (last : place ≡ length f.queue.items) (room : length f.queue.items < 257) (unbuilt : built_in p.0 ≡ false) (new : is_some (by_oid f.index p.0) ≡ false)
      (queue : LentItems Oid) (r : Option (Unit {0})) (pushed : Pushed f.queue p r queue)
      (index : List (Entry Oid ℕ)) (s : Option ℕ) (interned : Interned (by_oid f.index p.0) place (HasEmpty f.index) (Gained nat_eq oid_of f.index p.0 place index) (index ≡ f.index) s) where
    behind : (queue.items ≡ f.queue.items ++ p ∷ []) × (slots_lent queue ≡ slots_lent f.queue)
    behind = pushed_behind f.queue p r queue pushed (omega (arith, f.lent.queue_lent))

    queue_then : standing queue ≡ oids ++ p.0 ∷ []
    queue_then = ap (map oid_of) behind.0 ∙ map-append oid_of f.queue.items (p ∷ [])

    gained : Gained nat_eq oid_of f.index p.0 place index
    gained = taken (by_oid f.index p.0) place _ _ _ s interned (is_none_if (by_oid f.index p.0) new) (omega (arith, f.lent.index_lent, f.queued.counted))

    longer : length queue.items ≡ length f.queue.items + 1
    longer = ap length behind.0 ∙ length-append f.queue.items (p ∷ [])

    turns_then : turns queue f.order ≡ order_of f
    turns_then =
        ap (λ os. at_places os f.order.items) queue_then ∙ places_stay f.rows.items oids (p.0 ∷ []) f.order.items (omega (arith, f.ordered.read, oids_long)) f.ordered.placed

    lent_then : Lent queue index f.rows f.order f.settled
    lent_then = record {
      queue_lent = behind.1 ∙ f.lent.queue_lent;
      index_lent = gained.size ∙ f.lent.index_lent;
      rows_lent = f.lent.rows_lent;
      order_lent = f.lent.order_lent;
      settled_lent = f.lent.settled_lent;
    }

    queued_then : Queued queue index
    queued_then = record {
      once = subst Distinct (sym queue_then) (once_more oids p.0 f.queued.once (sym (f.queued.indexed p.0) ∙ new));
      none_built_in = ap (list_all (λ o. not (built_in o))) queue_then ∙ all_one_more (λ o. not (built_in o)) oids p.0 f.queued.none_built_in (ap not unbuilt);
      indexed = λ o. leads_on f.index oids p.0 place index f.queued.indexed gained o ∙ ap (is_in o) (sym queue_then);
      leads = λ o i e. ap (λ os. slice_get os i) queue_then ∙ places_on f.index oids p.0 place index (last ∙ sym oids_long) f.queued.leads gained o i e;
      counted = gained.count ∙ ap (λ n. n + 1) f.queued.counted ∙ sym longer;
    }

    ordered_then : Ordered queue f.rows f.order f.settled
    ordered_then = record {
      read = omega (arith, f.ordered.read, longer);
      placed = f.ordered.placed;
      once = f.ordered.once;
      indexed = λ o. f.ordered.indexed o ∙ ap (is_in o) (sym turns_then);
      counted = f.ordered.counted;
    }

    pub oid_put : Keeps queue index f.rows f.order f.settled × (turns queue f.order ≡ order_of f)
    oid_put = (record { lent = lent_then; queued = queued_then; ordered = ordered_then }, turns_then)

  -- a row behind the others, or none where there is no place for it
  module _ (waiting : length f.rows.items < length f.queue.items) (row : Option Row) (rows : LentItems (Option Row)) where
    with_row : rows.items ≡ f.rows.items ++ row ∷ [] → f.rows.free ≡ rows.free + 1 → Keeps f.queue f.index rows f.order f.settled
    with_row behind free =
        let longer : length rows.items ≡ length f.rows.items + 1 = ap length behind ∙ length-append f.rows.items (row ∷ []) in
        record {
          lent = record {
            queue_lent = f.lent.queue_lent;
            index_lent = f.lent.index_lent;
            rows_lent = omega (arith, longer, free, f.lent.rows_lent);
            order_lent = f.lent.order_lent;
            settled_lent = f.lent.settled_lent;
          };
          queued = f.queued;
          ordered = record {
            read = omega (arith, longer);
            placed =
                ap (λ rs. list_all (has_row rs) f.order.items) behind
                ∙ all_kept (has_row f.rows.items) (has_row (f.rows.items ++ row ∷ [])) (row_stays f.rows.items (row ∷ [])) f.order.items f.ordered.placed;
            once = f.ordered.once;
            indexed = f.ordered.indexed;
            counted = f.ordered.counted;
          };
        }

    pub row_put : (r : Option (Unit {0})) → Pushed f.rows row r rows → Keeps f.queue f.index rows f.order f.settled
    row_put (Some done) pushed = with_row pushed.0 pushed.1
    row_put None pushed =
        subst (λ (x : LentItems (Option Row)). Keeps f.queue f.index x f.order f.settled) (sym pushed.1) (record { lent = f.lent; queued = f.queued; ordered = f.ordered })

    pub row_read_on : (r : Option (Unit {0})) → Pushed f.rows row r rows → (c : Catalog) → ReadFrom c f →
        ((o : ℕ) → slice_get (queue_of f) (length (rows_of f)) ≡ Some o → row_told row ≡ c.rows o) →
        map row_told rows.items ≡ map c.rows (take (length (map row_told rows.items)) (queue_of f))
    row_read_on (Some done) pushed c from of =
        let told : map row_told rows.items ≡ rows_of f ++ row_told row ∷ [] = ap (map row_told) pushed.0 ∙ map-append row_told f.rows.items (row ∷ []) in
        told
        ∙ read_on c (queue_of f) (rows_of f) (row_told row) (omega (arith, waiting, oids_long, length-map f.rows.items row_told)) from of
        ∙ ap (λ (rs : List (Option CatalogRow)). map c.rows (take (length rs) (queue_of f))) (sym told)
    row_read_on None pushed c from of =
        subst (λ (x : LentItems (Option Row)). map row_told x.items ≡ map c.rows (take (length (map row_told x.items)) (queue_of f))) (sym pushed.1) from

  -- a row is told at each place that has one
  told_here : (rows : List (Option Row)) (i : ℕ) → is_some (slice_index_or (map row_told rows) i None) ≡ has_row rows i
  told_here rows i = ap is_some (get_or-map row_told rows i None) ∙ is_told (slice_index_or rows i None)
    where
      is_told : (row : Option Row) → is_some (row_told row) ≡ is_some row
      is_told None = refl
      is_told (Some r) = refl

  pub few_settled : length f.order.items ≤ length f.rows.items
  few_settled = few_places f.rows.items f.order.items f.ordered.placed f.ordered.once

  pub order_long : length (order_of f) ≡ length f.order.items
  order_long = length-map f.order.items (λ i. slice_index oids i)

  pub rows_long : length (rows_of f) ≡ length f.rows.items
  rows_long = length-map f.rows.items row_told

  -- a place behind those that are settled
  module _ (place : ℕ) (row : is_some (slice_index_or (rows_of f) place None) ≡ true) (new : is_in (slice_index (queue_of f) place) (order_of f) ≡ false)
      (order : LentItems ℕ) (r : Option (Unit {0})) (pushed : Pushed f.order place r order)
      (p : ℕ) (at : p ≡ slice_index (queue_of f) place) (settled : List (Entry Oid ℕ)) (s : Option ℕ)
      (interned : Interned (by_oid f.settled p) place (HasEmpty f.settled) (Gained nat_eq oid_of f.settled p place settled) (settled ≡ f.settled) s) where
    here : has_row f.rows.items place ≡ true
    here = sym (told_here f.rows.items place) ∙ row

    placed_then : list_all (has_row f.rows.items) (f.order.items ++ place ∷ []) ≡ true
    placed_then = all_one_more (has_row f.rows.items) f.order.items place f.ordered.placed here

    absent : is_in place f.order.items ≡ false
    absent =
        ⊎_elim
        (λ y. absurd (not_both (mem_in (slice_index oids place) (order_of f) (mem_map (λ i. slice_index oids i) f.order.items place (in_mem place f.order.items y))) new))
        (λ n. n)
        (cases_Bool (is_in place f.order.items))

    once_then : Distinct (f.order.items ++ place ∷ [])
    once_then = once_more f.order.items place f.ordered.once absent

    settled_room : length f.order.items + 1 ≤ length f.rows.items
    settled_room = omega (arith, few_places f.rows.items (f.order.items ++ place ∷ []) placed_then once_then, length-append f.order.items (place ∷ []))

    order_behind : (order.items ≡ f.order.items ++ place ∷ []) × (slots_lent order ≡ slots_lent f.order)
    order_behind = pushed_behind f.order place r order pushed (omega (arith, settled_room, f.lent.rows_lent, f.lent.order_lent))

    place_gained : Gained nat_eq oid_of f.settled p place settled
    place_gained =
        taken (by_oid f.settled p) place _ _ _ s interned
        (is_none_if (by_oid f.settled p) (f.ordered.indexed p ∙ ap (λ o. is_in o (order_of f)) at ∙ new))
        (omega (arith, few_settled, f.lent.rows_lent, f.lent.settled_lent, f.ordered.counted))

    order_then : turns f.queue order ≡ order_of f ++ slice_index oids place ∷ []
    order_then = ap (at_places oids) order_behind.0 ∙ map-append (λ i. slice_index oids i) f.order.items (place ∷ [])

    pub place_put : Keeps f.queue f.index f.rows order settled
    place_put = record {
      lent = record {
        queue_lent = f.lent.queue_lent;
        index_lent = f.lent.index_lent;
        rows_lent = f.lent.rows_lent;
        order_lent = order_behind.1 ∙ f.lent.order_lent;
        settled_lent = place_gained.size ∙ f.lent.settled_lent;
      };
      queued = f.queued;
      ordered = record {
        read = f.ordered.read;
        placed = ap (list_all (has_row f.rows.items)) order_behind.0 ∙ placed_then;
        once = subst Distinct (sym order_behind.0) once_then;
        indexed = λ o. leads_on f.settled (order_of f) p place settled f.ordered.indexed place_gained o ∙ ap (is_in o) (ap (λ q. order_of f ++ q ∷ []) at ∙ sym order_then);
        counted = place_gained.count ∙ ap (λ n. n + 1) f.ordered.counted ∙ omega (arith, ap length order_behind.0, length-append f.order.items (place ∷ []));
      };
    }
