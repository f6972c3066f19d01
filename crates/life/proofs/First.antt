-- The rounds of a Resolve: what they come to, when they end and where they stop.
-- Assumes nothing.
use Rattle.std.proofs.Common.{◌≡◌, ℕ, zero, suc, ◌+◌, ◌≤◌, Bool, true, false, not, ◌||◌, ◌⊎◌, List, [], ◌∷◌, ◌++◌, length, is_some, None, Decides, sym, refl, ap, ◌∙◌, subst, inl, inr, ⊎_elim, arith, length-append}
use Rattle.std.proofs.lemmas.Bool.{cases_Bool, not-true, or_cases, or_parts}
use Rattle.std.specs.List.{list_any}
use Rattle.catalog.specs.Catalog.{Catalog}
use Rattle.catalog.specs.Shape.{Name}
use Rattle.unfolding.specs.Lists.{Mem, Distinct}
use Rattle.unfolding.proofs.Lists.{pigeon}
use Rattle.life.specs.Calls.{Declared, of_oid, of_name, array_of, resolve, requests, IsArrayOf}
use Rattle.life.specs.Life.{Agrees}
use Rattle.life.specs.Lists.{AnyOf, fresh}
use Rattle.life.specs.RoundOne.{Question, in_full, for_array, asked_oid, asked_in_full, for_arrays_alone, miscoded, refusable, any_question, asks_name, round_one, first_opened, resolve_walk, OrderlyResolve, FirstRound, RoundOneLaw, ResolveEndsLaw, ResolveStopsLaw}
use Rattle.life.specs.Rounds.{Anything}
use Rattle.life.specs.Steps.{Book, NameStands, NamesStand}
use Rattle.life.specs.Stops.{earlier, Offence}
use Rattle.life.specs.Walk.{answered, links_of, ask_each, Walked, ended, stopped, and_then, walk}
use Rattle.life.proofs.Asking.{split_asked, ask_stops, ask_reads}
use Rattle.life.proofs.Ends.{shows}
use Rattle.life.proofs.Life.{agrees}
use Rattle.life.proofs.Lists.{not_both, is_none_if, none_not_some, chosen_true, chosen_false, mem_left, mem_right, mem_split, any_tells}
use Rattle.life.proofs.Questions.{mem_full, mem_alone, parts_length, each_sane, round_full, alone_apart, element_read, all_distinct}
use Rattle.life.proofs.Standing.{layer_stands, stands_layer, earlier_stands}
use Rattle.life.proofs.Walk.{Ended, Result, walked, ended_counts, ended_reads, last_once}

module _ (c : Catalog) (b : Book) (agree : Agrees c b) where
  -- an entry's array that the book does not hold stands, and so does a name
  array_stands : (x : Declared) (e : ℕ) → IsArrayOf c x e → b.arrays e ≡ None → NameStands c b x
  array_stands (of_oid o) e m z = absurd m
  array_stands (of_name n) e m z = absurd m
  array_stands (array_of n) e m z = inr (e, inr m, z)

  unanswered_name : (n : Name) → not (is_some (b.names n)) ≡ true → b.names n ≡ None
  unanswered_name n t = is_none_if (b.names n) (not-true (is_some (b.names n)) t)

  name_stands : (x : Declared) → asks_name c b x ≡ true → NameStands c b x
  name_stands (of_oid o) t = absurd cc
  name_stands (of_name n) t = unanswered_name n t
  name_stands (array_of n) t = inl (unanswered_name n t)

  -- what stands of an entry besides OIDs is its name, or its element for the array
  stands_why : (x : Declared) → NameStands c b x → (asks_name c b x ≡ true) ⊎ ((e : ℕ) × IsArrayOf c x e × (b.arrays e ≡ None))
  stands_why (of_oid o) s = absurd s
  stands_why (of_name n) s = inl (ap not (none_not_some (b.names n) s))
  stands_why (array_of n) (inl y) = inl (ap not (none_not_some (b.names n) y))
  stands_why (array_of n) (inr y) = inr (y.0, ⊎_elim (agree.names n y.0) (λ z. z) y.1, y.2)

  module _ (ds : List Declared) where
    abbrev rs : List ℕ
    rs = requests c (resolve ds)

    abbrev qs : List Question
    qs = round_one c b ds

    abbrev Others : Type 0
    Others = NamesStand c b (resolve ds)

    asked_name : Decides (list_any (asks_name c b) ds) (AnyOf (λ x. asks_name c b x ≡ true) ds)
    asked_name = any_tells (asks_name c b) (λ x. asks_name c b x ≡ true) (λ x. (λ t. t, λ t. t)) ds

    abbrev extra : ℕ
    extra = length (for_arrays_alone qs)

    abbrev skip : ℕ → Bool
    skip = answered b.descriptors

    question_stands : (l : List Question) → l ≡ qs → any_question l ≡ true → Anything c b.descriptors rs Others 1
    question_stands [] e t = absurd cc
    question_stands (in_full o ∷ l) e t = inr (o, layer_stands c b.descriptors rs 0 o (subst (Mem o) (ap asked_in_full e ∙ round_full c b agree ds) (inl refl)))
    question_stands (for_array o ∷ l) e t =
        let h = (alone_apart c b agree ds o).0 (subst (Mem o) (ap for_arrays_alone e) (inl refl)) in
        let x = h.0 in inl (refl, (x.0, x.1, array_stands x.0 o x.2 h.2))

    any_first : (list_any (asks_name c b) ds || any_question qs) ≡ true → Anything c b.descriptors rs Others 1
    any_first t =
        ⊎_elim
        (λ y. let x = asked_name.0 y in inl (refl, (x.0, x.1, name_stands x.0 x.2)))
        (question_stands qs refl)
        (or_cases (list_any (asks_name c b) ds) (any_question qs) t)

    no_question : (l : List Question) → any_question l ≡ false → l ≡ []
    no_question [] e = refl
    no_question (q ∷ l) e = absurd cc

    -- where round 1 asks for nothing, nothing stands
    none_first : list_any (asks_name c b) ds ≡ false → qs ≡ [] → Others → ⊥
    none_first t z s =
        ⊎_elim
        (λ y. not_both (asked_name.1 (s.0, s.1, y)) t)
        (λ y.
        ⊎_elim
        (λ m. subst (Mem y.0) (ap asked_in_full z) m)
        (λ m. subst (Mem y.0) (ap for_arrays_alone z) m)
        (element_read c b agree ds y.0 (s.0, s.1, y.1) y.2))
        (stands_why s.0 s.2)

    abbrev pub Coded : Type 0
    Coded = (e : ℕ) → Mem e (for_arrays_alone qs) → miscoded (c.rows e) ≡ false

    abbrev pub Stop : (number place rounds : ℕ) → Type 0
    Stop n p r = FirstRound c b ds n p r ⊎ Offence c b.descriptors rs extra n p r

    -- what the rounds come to
    abbrev pub Come : Walked → Type 0
    Come (ended n reads) = (Ended c b.descriptors rs Others extra n reads × (n ≤ 64) × (n ≤ c.allowance)) × Coded
    Come (stopped n p r) = Stop n p r × (r ≤ c.allowance)

    come_on : Coded → (w : Walked) → Result c b.descriptors rs Others extra w → Come w
    come_on s (ended n reads) r = (r, s)
    come_on s (stopped n p k) r = (inr r.0, r.1)

    opened : (allowance : ℕ) → allowance ≡ c.allowance → Anything c b.descriptors rs Others 1 → Come (first_opened c b allowance qs)
    opened zero a any = (inl (inl (refl, refl, refl, sym a, any)), omega arith)
    opened (suc allowance) a any =
        let read : List ℕ = asked_in_full qs in
        let next : ℕ → Walked = λ rest. walk c skip 63 1 rest allowance (fresh skip read (links_of c read)) read in
        let full = round_full c b agree ds in
        let parts = parts_length qs in
        ⊎_elim
        (λ r.
        let h = ask_reads asked_oid (refusable c) 256 qs r.0 r.1 in
        let sane = each_sane c qs h.1 in
        subst (λ x. Come (and_then x 1 next)) (sym r.1)
        (come_on sane.1 (next r.0)
        (walked c b.descriptors rs Others extra 63 1 r.0 allowance (fresh skip read (links_of c read)) read refl (omega (arith, a))
        (record {
          here = λ i. fresh skip (full i) (links_of c (full i));
          behind = full;
          last = inr any;
          first = λ _. omega arith;
          sane = sane.0;
          asked = omega (arith, h.0, parts);
        }))))
        (λ r. subst (λ x. Come (and_then x 1 next)) (sym r.2) (inl (inr (refl, ask_stops asked_oid (refusable c) 256 qs r.0 r.1 r.2)), omega (arith, a)))
        (split_asked (ask_each asked_oid (refusable c) 256 qs))

    pub resolve_come : Come (resolve_walk c b ds)
    resolve_come =
        let asks : Bool = list_any (asks_name c b) ds || any_question qs in
        ⊎_elim
        (λ t.
        subst Come (sym (chosen_true asks (first_opened c b c.allowance qs) (ended 0 []) t)) (opened c.allowance refl (any_first t)))
        (λ t.
        let h = or_parts (list_any (asks_name c b) ds) (any_question qs) t in
        let z = no_question qs h.1 in
        let few : length (for_arrays_alone qs) ≡ 0 = ap (λ l. length (for_arrays_alone l)) z in
        subst Come (sym (chosen_false asks (first_opened c b c.allowance qs) (ended 0 []) t)) (
          (
            record {
              over = sym (round_full c b agree ds) ∙ ap asked_in_full z;
              last = inl refl;
              first = λ s. absurd (none_first h.0 z s);
              are = refl;
              sane = λ o m. absurd m;
              few = omega (arith, few);
            },
            omega arith,
            omega arith,
          ),
          λ e m. absurd (subst (λ l. Mem e (for_arrays_alone l)) z m),
        ))
        (cases_Bool (list_any (asks_name c b) ds || any_question qs))

    module _ (n : ℕ) where
      ends_only : (w : Walked) (reads : List ℕ) → w ≡ ended n reads → Come w → OrderlyResolve c b ds n
      ends_only w reads e come =
          let g = subst Come e come in
          let are = ended_reads c b.descriptors rs Others extra n reads g.0.0 in
          let alone : List ℕ = for_arrays_alone qs in
          record {
            last = ended_counts c b.descriptors rs Others extra n reads g.0.0;
            rounds = g.0.1;
            allowed = g.0.2;
            sane = λ k o s. g.0.0.sane o ((are o).1 (k, s));
            coded = λ p a. g.1 p ((alone_apart c b agree ds p).1 a);
            few = λ os d all.
                omega (
                  arith,
                  pigeon os (reads ++ alone) d
                      (λ o m. ⊎_elim (λ s. mem_left o reads alone ((are o).1 s)) (λ a. mem_right o reads alone ((alone_apart c b agree ds o).1 a)) (all o m)),
                  g.0.0.few,
                  length-append reads alone,
                );
          }

      module _ (o : OrderlyResolve c b ds n) where
        -- no more than 256 rows are read by the end of a round
        few_rows : (k : ℕ) → length (earlier c b.descriptors rs k) + extra ≤ 256
        few_rows k =
            let alone : List ℕ = for_arrays_alone qs in
            omega (
              arith,
              length-append (earlier c b.descriptors rs k) alone,
              o.few (earlier c b.descriptors rs k ++ alone) (all_distinct c b agree ds k)
                  (λ p m. ⊎_elim (λ s. inl (earlier_stands c b.descriptors rs k p s)) (λ a. inr ((alone_apart c b agree ds p).0 a))
                  (mem_split p (earlier c b.descriptors rs k) alone m)),
            )

        -- no question of round 1 is refused
        no_refusal : (q : Question) → Mem q qs → refusable c q ≡ true → ⊥
        no_refusal (in_full p) m t = not_both t (o.sane 1 p (layer_stands c b.descriptors rs 0 p (subst (Mem p) (round_full c b agree ds) (mem_full p qs m))))
        no_refusal (for_array p) m t = not_both t (o.coded p ((alone_apart c b agree ds p).0 (mem_alone p qs m)))

        no_stop : (number p r : ℕ) → Stop number p r → ⊥
        no_stop number p r =
            ⊎_elim
            (⊎_elim
            (λ x. omega (arith, o.last.0 1 x.4, o.allowed, x.3))
            (λ x.
            let s = x.1 in
            let long : length qs ≡ length s.before + suc (length s.behind) = ap length s.here ∙ length-append s.before (s.asked ∷ s.behind) in
            let full : length (asked_in_full qs) ≡ length (earlier c b.descriptors rs 1) = ap length (round_full c b agree ds) in
            ⊎_elim
            (λ y. omega (arith, few_rows 1, parts_length qs, long, full, y.1))
            (λ y. no_refusal s.asked (subst (Mem s.asked) (sym s.here) (mem_right s.asked s.before (s.asked ∷ s.behind) (inl refl))) y.2)
            s.why))
            (λ x.
            ⊎_elim
            (λ y. omega (arith, o.last.0 65 (inr y), o.rounds))
            (⊎_elim
            (λ y. omega (arith, o.last.0 (suc c.allowance) (inr y), o.allowed))
            (⊎_elim
            (λ y. omega (arith, y.1, few_rows y.0))
            (λ y. not_both y.3 (o.sane y.0 y.1 y.2))))
            (shows c b.descriptors rs extra number p r x))

      ends_if : (w : Walked) → Come w → OrderlyResolve c b ds n → (reads : List ℕ) × (w ≡ ended n reads)
      ends_if (ended m reads) g o =
          (reads, ap (λ i. ended i reads) (last_once c b.descriptors rs Others m n (ended_counts c b.descriptors rs Others extra m reads g.0.0) o.last))
      ends_if (stopped number p r) g o = absurd (no_stop o number p r g.0)

pub resolve_ends_law : ResolveEndsLaw
resolve_ends_law h c b ds n l =
    let agree = agrees h c b l in (
      λ x. ends_only c b agree ds n (resolve_walk c b ds) x.0 x.1 (resolve_come c b agree ds),
      λ o. ends_if c b agree ds n (resolve_walk c b ds) (resolve_come c b agree ds) o,
    )

pub resolve_stops_law : ResolveStopsLaw
resolve_stops_law h c b ds l n p r e = let agree = agrees h c b l in (subst (Come c b agree ds) e (resolve_come c b agree ds)).0

pub round_one_law : RoundOneLaw
round_one_law h c b ds l =
    let agree = agrees h c b l in
    let same = round_full c b agree ds in (
      λ o. (
        λ m. layer_stands c b.descriptors (requests c (resolve ds)) 0 o (subst (Mem o) same m),
        λ s. subst (Mem o) (sym same) (stands_layer c b.descriptors (requests c (resolve ds)) 0 o s),
      ),
      alone_apart c b agree ds,
      subst (λ u. Distinct (u ++ for_arrays_alone (round_one c b ds))) (sym same) (all_distinct c b agree ds 1),
    )
