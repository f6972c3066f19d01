-- What the questions of round 1 hold: those in full are the requests, those for arrays alone known elements without one.
-- Assumes nothing.
use Rattle.std.proofs.Common.{◌≡◌, ℕ, ◌+◌, Bool, true, false, not, ◌||◌, ◌⊎◌, ◌↔◌, List, [], ◌∷◌, ◌++◌, length, is_some, nat_eq, Some, None, Option, option_to_list, sym, refl, ap, ◌∙◌, subst, inl, inr, ⊎_elim, arith}
use Rattle.std.proofs.lemmas.Bool.{cases_Bool, not-false, or_from, or_parts}
use Rattle.std.proofs.lemmas.Bool.Decides.{Decides-eqb}
use Rattle.catalog.specs.Catalog.{Catalog, Each}
use Rattle.catalog.specs.Shape.{Name}
use Rattle.unfolding.specs.Lists.{Mem, Distinct}
use Rattle.life.specs.Calls.{Declared, of_oid, of_name, array_of, resolve, array_link, with_array, entry_requests, all_requests, requests, IsArrayOf, DeclaresArray}
use Rattle.life.specs.Life.{Agrees}
use Rattle.life.specs.Lists.{is_in, fresh}
use Rattle.life.specs.RoundOne.{Question, in_full, for_array, asked_in_full, for_arrays_alone, miscoded, refusable, lead, link, in_full_if, element_asks, entry_asks, all_asks, spared, asked_once, round_one, ReadApart}
use Rattle.life.specs.Rounds.{Known}
use Rattle.life.specs.Steps.{Book}
use Rattle.life.specs.Stops.{standing, earlier}
use Rattle.life.specs.Walk.{answered, malformed}
use Rattle.life.proofs.Asking.{each_mem}
use Rattle.life.proofs.Fresh.{fresh_has, has_fresh, fresh_distinct}
use Rattle.life.proofs.Known.{known_not, answered_tells}
use Rattle.life.proofs.Lists.{split_option, is_none_if, none_not_some, flat_mem, distinct_append}
use Rattle.life.proofs.Standing.{earlier_stands, stands_unknown, earlier_distinct}
use Rattle.life.proofs.Tells.{or_first, or_next}

pub full_mem : (o : ℕ) (qs : List Question) → Mem o (asked_in_full qs) → Mem (in_full o) qs
full_mem o [] m = absurd m
full_mem o (in_full p ∷ qs) (inl e) = inl (ap in_full e)
full_mem o (in_full p ∷ qs) (inr m) = inr (full_mem o qs m)
full_mem o (for_array p ∷ qs) m = inr (full_mem o qs m)

pub mem_full : (o : ℕ) (qs : List Question) → Mem (in_full o) qs → Mem o (asked_in_full qs)
mem_full o [] m = absurd m
mem_full o (in_full p ∷ qs) (inl e) = inl cc
mem_full o (in_full p ∷ qs) (inr m) = inr (mem_full o qs m)
mem_full o (for_array p ∷ qs) (inl e) = absurd cc
mem_full o (for_array p ∷ qs) (inr m) = mem_full o qs m

pub alone_mem : (e : ℕ) (qs : List Question) → Mem e (for_arrays_alone qs) → Mem (for_array e) qs
alone_mem e [] m = absurd m
alone_mem e (in_full p ∷ qs) m = inr (alone_mem e qs m)
alone_mem e (for_array p ∷ qs) (inl x) = inl (ap for_array x)
alone_mem e (for_array p ∷ qs) (inr m) = inr (alone_mem e qs m)

pub mem_alone : (e : ℕ) (qs : List Question) → Mem (for_array e) qs → Mem e (for_arrays_alone qs)
mem_alone e [] m = absurd m
mem_alone e (in_full p ∷ qs) (inl x) = absurd cc
mem_alone e (in_full p ∷ qs) (inr m) = mem_alone e qs m
mem_alone e (for_array p ∷ qs) (inl x) = inl cc
mem_alone e (for_array p ∷ qs) (inr m) = inr (mem_alone e qs m)

full_append : (xs ys : List Question) → asked_in_full (xs ++ ys) ≡ asked_in_full xs ++ asked_in_full ys
full_append [] ys = refl
full_append (in_full o ∷ xs) ys = ap (λ l. o ∷ l) (full_append xs ys)
full_append (for_array e ∷ xs) ys = full_append xs ys

pub parts_length : (qs : List Question) → length qs ≡ length (asked_in_full qs) + length (for_arrays_alone qs)
parts_length [] = refl
parts_length (in_full o ∷ qs) = omega (arith, parts_length qs)
parts_length (for_array e ∷ qs) = omega (arith, parts_length qs)

-- where no question is refused, no row read in full is malformed and none read apart has a code that is not listed
pub each_sane : (c : Catalog) (qs : List Question) → Each (λ q. refusable c q ≡ false) qs →
    ((o : ℕ) → Mem o (asked_in_full qs) → malformed c o ≡ false) × ((e : ℕ) → Mem e (for_arrays_alone qs) → miscoded (c.rows e) ≡ false)
each_sane c qs all = (
  λ o m. each_mem (λ q. refusable c q ≡ false) qs all (in_full o) (full_mem o qs m),
  λ e m. each_mem (λ q. refusable c q ≡ false) qs all (for_array e) (alone_mem e qs m),
)

-- a choice, through a function
through : {A B : Type 0} (f : A → B) (t : Bool) (x y : A) → f (elim t as (λ _. A) [ true ↦ x | false ↦ y ]) ≡ (elim t as (λ _. B) [ true ↦ f x | false ↦ f y ])
through f true x y = refl
through f false x y = refl

either : {A : Type 0} (t : Bool) (x y z : A) → x ≡ z → y ≡ z → (elim t as (λ _. A) [ true ↦ x | false ↦ y ]) ≡ z
either true x y z p q = p
either false x y z p q = q

module _ (c : Catalog) (b : Book) where
  abbrev skip : ℕ → Bool
  skip = answered b.descriptors

  -- what is read in full are the requests that are neither answered nor repeated
  once_full : (qs : List Question) (seen apart : List ℕ) → asked_in_full (asked_once c b seen apart qs) ≡ fresh skip seen (asked_in_full qs)
  once_full [] seen apart = refl
  once_full (in_full o ∷ qs) seen apart =
      through asked_in_full (skip o || is_in o seen) (asked_once c b seen apart qs) (in_full o ∷ asked_once c b (o ∷ seen) apart qs)
      ∙ (λ i. elim (skip o || is_in o seen) as (λ _. List ℕ) [ true ↦ once_full qs seen apart i | false ↦ o ∷ once_full qs (o ∷ seen) apart i ])
  once_full (for_array e ∷ qs) seen apart =
      through asked_in_full (spared c b e || is_in e apart) (asked_once c b seen apart qs) (for_array e ∷ asked_once c b seen (e ∷ apart) qs)
      ∙ either (spared c b e || is_in e apart) _ _ (fresh skip seen (asked_in_full qs)) (once_full qs seen apart) (once_full qs seen (e ∷ apart))

  once_alone : (qs : List Question) (seen apart : List ℕ) → for_arrays_alone (asked_once c b seen apart qs) ≡ fresh (spared c b) apart (for_arrays_alone qs)
  once_alone [] seen apart = refl
  once_alone (in_full o ∷ qs) seen apart =
      through for_arrays_alone (skip o || is_in o seen) (asked_once c b seen apart qs) (in_full o ∷ asked_once c b (o ∷ seen) apart qs)
      ∙ either (skip o || is_in o seen) _ _ (fresh (spared c b) apart (for_arrays_alone qs)) (once_alone qs seen apart) (once_alone qs (o ∷ seen) apart)
  once_alone (for_array e ∷ qs) seen apart =
      through for_arrays_alone (spared c b e || is_in e apart) (asked_once c b seen apart qs) (for_array e ∷ asked_once c b seen (e ∷ apart) qs)
      ∙ (λ i. elim (spared c b e || is_in e apart) as (λ _. List ℕ) [ true ↦ once_alone qs seen apart i | false ↦ e ∷ once_alone qs seen (e ∷ apart) i ])

  -- not spared: known, and the book holds no array of it
  unspared : (e : ℕ) → (spared c b e ≡ false) ↔ (Known b.descriptors e × (b.arrays e ≡ None))
  unspared e = (
    λ x. let h = or_parts (not (skip e)) (is_some (b.arrays e)) x in ((answered_tells b.descriptors e).0 (not-false (skip e) h.0), is_none_if (b.arrays e) h.1),
    λ y. or_from (not (skip e)) (is_some (b.arrays e)) (ap not ((answered_tells b.descriptors e).1 y.0)) (none_not_some (b.arrays e) y.1),
  )

  module _ (agree : Agrees c b) where
    pub lead_is : (n : Name) → lead c b n ≡ c.named n
    lead_is n =
        ⊎_elim
        (λ z. or_next (b.names n) (c.named n) z)
        (λ z. or_first (b.names n) (c.named n) z.0 z.1 ∙ sym (agree.names n z.0 z.1))
        (split_option (b.names n))

    pub link_is : (e : ℕ) → link c b e ≡ array_link (c.rows e)
    link_is e =
        ⊎_elim
        (λ z. or_next (b.arrays e) (array_link (c.rows e)) z)
        (λ z. or_first (b.arrays e) (array_link (c.rows e)) z.0 z.1 ∙ sym (agree.arrays e z.0 z.1))
        (split_option (b.arrays e))

    full_if : (x : Option ℕ) → asked_in_full (in_full_if c b x) ≡ option_to_list x
    full_if None = refl
    full_if (Some o) = refl

    element_full : (x : Option ℕ) → asked_in_full (element_asks c b x) ≡ with_array c x
    element_full None = refl
    element_full (Some e) = ap (λ l. e ∷ l) (full_if (link c b e) ∙ ap option_to_list (link_is e))

    -- what is asked for in full bears on the requests
    pub entry_full : (x : Declared) → asked_in_full (entry_asks c b x) ≡ entry_requests c x
    entry_full (of_oid o) = refl
    entry_full (of_name n) = full_if (lead c b n) ∙ ap option_to_list (lead_is n)
    entry_full (array_of n) = element_full (lead c b n) ∙ ap (with_array c) (lead_is n)

    all_full : (ds : List Declared) → asked_in_full (all_asks c b ds) ≡ all_requests c ds
    all_full [] = refl
    all_full (x ∷ ds) = full_append (entry_asks c b x) (all_asks c b ds) ∙ (λ i. entry_full x i ++ all_full ds i)

    not_alone : (x : Option ℕ) (e : ℕ) → Mem (for_array e) (in_full_if c b x) → ⊥
    not_alone None e m = m
    not_alone (Some o) e m = ⊎_elim (λ q. absurd cc) (λ k. k) m

    element_mem : (x : Option ℕ) (e : ℕ) → Mem (for_array e) (element_asks c b x) → x ≡ Some e
    element_mem None e m = absurd m
    element_mem (Some p) e (inl q) = absurd cc
    element_mem (Some p) e (inr (inl q)) = let same : e ≡ p = cc in ap (λ k. Some k) (sym same)
    element_mem (Some p) e (inr (inr m)) = absurd (not_alone (link c b p) e m)

    mem_element : (x : Option ℕ) (e : ℕ) → x ≡ Some e → Mem (for_array e) (element_asks c b x) × Mem (in_full e) (element_asks c b x)
    mem_element x e q = subst (λ y. Mem (for_array e) (element_asks c b y) × Mem (in_full e) (element_asks c b y)) (sym q) (inr (inl refl), inl refl)

    -- an entry asks for the row of an element for its array exactly where it is an array of it, and then in full too
    entry_alone : (x : Declared) (e : ℕ) → Mem (for_array e) (entry_asks c b x) → IsArrayOf c x e
    entry_alone (of_oid o) e m = absurd m
    entry_alone (of_name n) e m = absurd (not_alone (lead c b n) e m)
    entry_alone (array_of n) e m = sym (lead_is n) ∙ element_mem (lead c b n) e m

    entry_both : (x : Declared) (e : ℕ) → IsArrayOf c x e → Mem (for_array e) (entry_asks c b x) × Mem (in_full e) (entry_asks c b x)
    entry_both (of_oid o) e m = absurd m
    entry_both (of_name n) e m = absurd m
    entry_both (array_of n) e m = mem_element (lead c b n) e (lead_is n ∙ m)

    alone_in : (ds : List Declared) (e : ℕ) → Mem (for_array e) (all_asks c b ds) → DeclaresArray c (resolve ds) e
    alone_in ds e m = let x = (flat_mem (entry_asks c b) ds (for_array e)).0 m in (x.0, x.1, entry_alone x.0 e x.2)

    in_both : (ds : List Declared) (e : ℕ) → DeclaresArray c (resolve ds) e → Mem (for_array e) (all_asks c b ds) × Mem (in_full e) (all_asks c b ds)
    in_both ds e x = (
      (flat_mem (entry_asks c b) ds (for_array e)).1 (x.0, x.1, (entry_both x.0 e x.2).0),
      (flat_mem (entry_asks c b) ds (in_full e)).1 (x.0, x.1, (entry_both x.0 e x.2).1),
    )

    module _ (ds : List Declared) where
      abbrev rs : List ℕ
      rs = requests c (resolve ds)

      abbrev qs : List Question
      qs = round_one c b ds

      pub round_full : asked_in_full qs ≡ standing c b.descriptors rs 0
      round_full = once_full (all_asks c b ds) [] [] ∙ ap (fresh skip []) (all_full ds)

      round_alone : for_arrays_alone qs ≡ fresh (spared c b) [] (for_arrays_alone (all_asks c b ds))
      round_alone = once_alone (all_asks c b ds) [] []

      -- those read apart
      pub alone_apart : (e : ℕ) → Mem e (for_arrays_alone qs) ↔ ReadApart c b ds e
      alone_apart e = (
        λ m.
            let h = fresh_has nat_eq Decides-eqb (spared c b) (for_arrays_alone (all_asks c b ds)) [] e (subst (Mem e) round_alone m) in
            let s = (unspared e).0 h.1 in
            (alone_in ds e (alone_mem e (all_asks c b ds) h.0), s.0, s.1),
        λ a.
            subst (Mem e) (sym round_alone)
            (has_fresh nat_eq Decides-eqb (spared c b) (for_arrays_alone (all_asks c b ds)) [] e (mem_alone e (all_asks c b ds) (in_both ds e a.0).0)
            ((unspared e).1 (a.1, a.2)) (λ x. x)),
      )

      -- the element of a declared array that the book does not hold is read, in full or apart
      pub element_read : (e : ℕ) → DeclaresArray c (resolve ds) e → b.arrays e ≡ None → Mem e (asked_in_full qs) ⊎ Mem e (for_arrays_alone qs)
      element_read e m z =
          ⊎_elim
          (λ y. inr ((alone_apart e).1 (m, (answered_tells b.descriptors e).0 y, z)))
          (λ y.
          inl (subst (Mem e) (sym (once_full (all_asks c b ds) [] []))
          (has_fresh nat_eq Decides-eqb skip (asked_in_full (all_asks c b ds)) [] e (mem_full e (all_asks c b ds) (in_both ds e m).1) y (λ x. x))))
          (cases_Bool (skip e))

      -- the rows read by the end of a round and those read apart are distinct
      pub all_distinct : (k : ℕ) → Distinct (earlier c b.descriptors rs k ++ for_arrays_alone qs)
      all_distinct k =
          distinct_append (earlier c b.descriptors rs k) (for_arrays_alone qs) (earlier_distinct c b.descriptors rs k)
          (subst Distinct (sym round_alone) (fresh_distinct nat_eq Decides-eqb (spared c b) (for_arrays_alone (all_asks c b ds)) []))
          (λ o m n. known_not b.descriptors o ((alone_apart o).0 n).1 (stands_unknown c b.descriptors rs o (earlier_stands c b.descriptors rs k o m)))
