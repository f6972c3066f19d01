-- What is settled once a pass settles nothing.
-- Assumes nothing.
use Rattle.std.proofs.Common.{◌≡◌, ℕ, zero, suc, ◌<◌, false, not, ◌&&◌, List, [], ◌∷◌, length, take, drop, get_or, None, sym, refl, ap, ◌∙◌, subst, inl, inr, ⊎_elim, arith}
use Rattle.std.specs.Prelude.{slice_index, slice_index_or}
use Rattle.std.specs.Option.{option_and_then}
use Rattle.std.proofs.lemmas.Bool.{not-true, or_from}
use Rattle.std.proofs.lemmas.List.{get_or-take, length-map, length-take-le, take-append-drop}
use Rattle.catalog.specs.Catalog.{Catalog}
use Rattle.catalog.specs.Meaning.{row_told}
use Rattle.catalog.specs.Shape.{shape}
use Rattle.keys.specs.Senses.{oid_of}
use Rattle.life.specs.InTurn.{InTurn, known_so, ready, ready_shape}
use Rattle.life.specs.Lists.{is_in}
use Rattle.life.specs.Rounds.{Descriptors}
use Rattle.life.specs.Settle.{pass, settled}
use Rattle.life.specs.Walk.{answered}
use Rattle.life.proofs.InTurn.{in_turn_ends}
use Rattle.life.proofs.Known.{unknown_unanswered}
use Rattle.life.proofs.Lists.{mem_left}
use Rattle.room.proofs.Additions.{map_mem}
use Rattle.unfolding.specs.Lists.{Mem}
use Rattle.unfolding.specs.Unfolding.{built_in}
use Rattle.finds.specs.declared.tables.Finds.{Finds}
use Rattle.finds.specs.Finds.{ReadFrom, order_of, queue_of, reads_of, rows_of}
use Rattle.finds.specs.Passes.{Passed, follows_at}
use Rattle.finds.specs.Tables.{has_row}
use Rattle.finds.proofs.Few.{all_mem}
use Rattle.finds.proofs.Grown.{row_within}
use Rattle.finds.proofs.Passing.{from_same, ready_from}

-- what stands at a place is a member, and each member stands at one
pub mem_at : (os : List ℕ) (i : ℕ) → i < length os → Mem (get_or os i 0) os
mem_at [] i l = absurd (omega arith)
mem_at (o ∷ os) zero l = inl refl
mem_at (o ∷ os) (suc i) l = inr (mem_at os i (omega arith))

place_of : (os : List ℕ) (o : ℕ) → Mem o os → (i : ℕ) × (i < length os) × (get_or os i 0 ≡ o)
place_of [] o m = absurd m
place_of (p ∷ os) o m =
    ⊎_elim
    (λ e. (0, omega arith, sym e))
    (λ n. let h = place_of os o n in (suc h.0, omega (arith, h.1), h.2))
    m

module _ (f : Finds) where
  pub reads_long : length (reads_of f) ≡ length (rows_of f)
  reads_long = length-take-le (length (rows_of f)) (queue_of f) (omega (arith, f.ordered.read, length-map f.rows.items row_told, length-map f.queue.items oid_of))

  pub reads_queued : (o : ℕ) → Mem o (reads_of f) → Mem o (queue_of f)
  reads_queued o m = subst (Mem o) (take-append-drop (length (rows_of f)) (queue_of f)) (mem_left o (reads_of f) (drop (length (rows_of f)) (queue_of f)) m)

  pub queue_unbuilt : (o : ℕ) → Mem o (queue_of f) → built_in o ≡ false
  queue_unbuilt o m = not-true (built_in o) (all_mem (λ p. not (built_in p)) (queue_of f) o f.queued.none_built_in m)

  -- only rows read are settled
  pub order_read : (o : ℕ) → Mem o (order_of f) → Mem o (reads_of f)
  order_read o m =
      let h = map_mem (λ i. slice_index (queue_of f) i) f.order.items o m in
      let inside : h.0 < length (rows_of f) = omega (arith, row_within f.rows.items h.0 (all_mem (has_row f.rows.items) f.order.items h.0 f.ordered.placed h.1), length-map f.rows.items row_told) in
      subst (λ p. Mem p (reads_of f)) (get_or-take (length (rows_of f)) (queue_of f) h.0 0 inside ∙ sym h.2) (mem_at (reads_of f) h.0 (omega (arith, inside, reads_long)))

  -- where no place can be settled, no OID read can
  module _ (c : Catalog) (b : Descriptors) (from : ReadFrom c f) (still : (place : ℕ) → follows_at b f place ≡ false) where
    nothing_ready : (o : ℕ) → Mem o (reads_of f) → b o ≡ None → is_in o (order_of f) ≡ false → ready c b (order_of f) o ≡ false
    nothing_ready o m undescribed unsettled =
        let at = place_of (reads_of f) o m in
        let inside : at.0 < length (rows_of f) = omega (arith, at.1, reads_long) in
        let here : slice_index (queue_of f) at.0 ≡ o = sym (get_or-take (length (rows_of f)) (queue_of f) at.0 0 inside) ∙ at.2 in
        let unknown : known_so b (order_of f) o ≡ false = or_from (answered b o) (is_in o (order_of f)) (unknown_unanswered b o (queue_unbuilt o (reads_queued o m), undescribed)) unsettled in
        let known = known_so b (order_of f) in
        subst (λ p. ready c b (order_of f) p ≡ false) here
        (sym (ready_from c f from at.0 inside known)
        ∙ sym (ap (λ t. not t && ready_shape known (option_and_then shape (slice_index_or (rows_of f) at.0 None))) (ap known here ∙ unknown))
        ∙ still at.0)

    pub all_settled : InTurn c b (order_of f) → pass c b (order_of f) ≡ settled c b (reads_of f)
    all_settled turn = in_turn_ends c b (order_of f) turn (reads_of f) order_read nothing_ready

-- g is f with some settled, in turn
pub record Going (b : Descriptors) (f g : Finds) : Type 0 where
  pub queue : queue_of g ≡ queue_of f
  pub rows : rows_of g ≡ rows_of f
  pub turn : (c : Catalog) → ReadFrom c f → InTurn c b (order_of g)

module _ (b : Descriptors) (f g h : Finds) (going : Going b f g) (passed : Passed b 0 g h) where
  pub goes_on : Going b f h
  goes_on = record {
    queue = passed.queue ∙ going.queue;
    rows = passed.rows ∙ going.rows;
    turn = λ c from. passed.turn c (from_same c f g going.queue going.rows from) (going.turn c from);
  }

  reads_same : reads_of h ≡ reads_of f
  reads_same = λ i. take (length (goes_on.rows i)) (goes_on.queue i)

  pub settled_read : (o : ℕ) → Mem o (order_of h) → Mem o (reads_of f)
  settled_read o m = subst (Mem o) reads_same (order_read h o m)

  pub settled_all : length (order_of h) ≡ length (order_of g) → (c : Catalog) → ReadFrom c f → pass c b (order_of h) ≡ settled c b (reads_of f)
  settled_all same c from =
      all_settled h c b (from_same c f h goes_on.queue goes_on.rows from) (λ place. passed.still same place (omega arith)) (goes_on.turn c from)
      ∙ ap (settled c b) reads_same
