-- What is told of entries once all is kept is what the law tells of them.
-- Assumes nothing.
use Rattle.std.proofs.Common.{◌≡◌, ◌∙◌, ℕ, zero, suc, Bool, true, false, not, ◌||◌, cond, if◌then◌else◌, List, [], ◌∷◌, map, drop, is_some, Some, None, Option, option_and_then, sym, refl, ap, subst, inl, inr, ⊎_elim, ◌↔◌}
use Rattle.std.proofs.lemmas.Bool.{or_left, or_right}
use Rattle.std.specs.List.{list_any}
use Rattle.std.specs.Option.{option_or}
use Rattle.catalog.specs.Catalog.{Catalog}
use Rattle.unfolding.specs.Lists.{Mem}
use Rattle.life.specs.Calls.{Declared, of_oid, of_name, array_of, array_link, entry_requests, requests, resolve, DeclaresArray}
use Rattle.life.specs.Keep.{if_settled}
use Rattle.life.specs.Life.{Agrees}
use Rattle.life.specs.Lists.{first_place, is_in}
use Rattle.life.specs.Outcomes.{unresolved}
use Rattle.life.specs.Resolve.{entry_oid, lacks, link_from, offends}
use Rattle.life.specs.RoundOne.{asked_in_full, element_asks, entry_asks, for_arrays_alone, in_full_if, lead, link, round_one}
use Rattle.life.specs.Rounds.{Descriptors, StandsOnce, found}
use Rattle.life.specs.Settle.{settled}
use Rattle.life.specs.Steps.{Book}
use Rattle.life.specs.Walk.{answered}
use Rattle.life.proofs.Lists.{flat_mem, mem_in, split_option}
use Rattle.life.proofs.Questions.{element_read, entry_full, lead_is, round_full}
use Rattle.life.proofs.Standing.{layer_stands}
use Rattle.life.proofs.Tells.{or_first}
use Rattle.room.specs.Added.{with_types}
use Rattle.room.specs.Tables.{Tables, contents}
use Rattle.room.proofs.Additions.{linked_so}
use Rattle.book.specs.Held.{Held, book_held}
use Rattle.book.specs.Stands.{Stands}
use Rattle.resolve.specs.Fills.{left_over}
use Rattle.resolve.proofs.Left.{known_so, left_so as left_by}
use Rattle.entries.specs.Answers.{asked_for, lead_at, led_from, oid_if, passes, if_passes, without_oid}
use Rattle.finds.specs.Resolving.{entry_lead}

or_false : (x : Bool) → (x || false) ≡ x
or_false true = refl
or_false false = refl

-- entries beside what is noted of each
lead_here : (ls : List (Option ℕ)) (j : ℕ) (y : Option ℕ) (ys : List (Option ℕ)) → drop j ls ≡ y ∷ ys → lead_at ls j ≡ y
lead_here [] zero y ys e = absurd cc
lead_here [] (suc j) y ys e = absurd cc
lead_here (l ∷ ls) zero y ys e = cc
lead_here (l ∷ ls) (suc j) y ys e = lead_here ls j y ys e

drop_behind : (ls : List (Option ℕ)) (j : ℕ) (y : Option ℕ) (ys : List (Option ℕ)) → drop j ls ≡ y ∷ ys → drop (suc j) ls ≡ ys
drop_behind [] zero y ys e = absurd cc
drop_behind [] (suc j) y ys e = absurd cc
drop_behind (l ∷ ls) zero y ys e = cc
drop_behind (l ∷ ls) (suc j) y ys e = drop_behind ls j y ys e

module _ (f : Declared → Option ℕ) where
  led_pairs : (ds : List Declared) (j : ℕ) (ls : List (Option ℕ)) → drop j ls ≡ map f ds → led_from j ds ls ≡ map (λ x. (x, f x)) ds
  led_pairs [] j ls e = refl
  led_pairs (x ∷ xs) j ls e = λ i. (x, lead_here ls j (f x) (map f xs) e i) ∷ led_pairs xs (suc j) ls (drop_behind ls j (f x) (map f xs) e) i

  place_mapped : (test : Declared × Option ℕ → Bool) (told : Declared → Bool) (ds : List Declared) → ((x : Declared) → Mem x ds → test (x, f x) ≡ told x) → (i : ℕ) →
      first_place test i (map (λ x. (x, f x)) ds) ≡ first_place told i ds
  place_mapped test told [] same i = refl
  place_mapped test told (x ∷ xs) same i = λ k.
      elim (same x (inl refl) k) as (λ _. Option ℕ) [ true ↦ Some i | false ↦ place_mapped test told xs (λ y m. same y (inr m)) (suc i) k ]

  pub first_told : (test : Declared × Option ℕ → Bool) (told : Declared → Bool) (ds : List Declared) (ls : List (Option ℕ)) → ls ≡ map f ds →
      ((x : Declared) → Mem x ds → test (x, f x) ≡ told x) → first_place test 0 (led_from 0 ds ls) ≡ first_place told 0 ds
  first_told test told ds ls e same = ap (first_place test 0) (led_pairs ds 0 ls e) ∙ place_mapped test told ds same 0

  map_mapped : {X : Type 0} (g : Declared × Option ℕ → X) (told : Declared → X) (ds : List Declared) → ((x : Declared) → Mem x ds → g (x, f x) ≡ told x) →
      map g (map (λ x. (x, f x)) ds) ≡ map told ds
  map_mapped g told [] same = refl
  map_mapped g told (x ∷ xs) same = λ i. same x (inl refl) i ∷ map_mapped g told xs (λ y m. same y (inr m)) i

  pub all_told : {X : Type 0} (g : Declared × Option ℕ → X) (told : Declared → X) (ds : List Declared) (ls : List (Option ℕ)) → ls ≡ map f ds →
      ((x : Declared) → Mem x ds → g (x, f x) ≡ told x) → map g (led_from 0 ds ls) ≡ map told ds
  all_told g told ds ls e same = ap (map g) (led_pairs ds 0 ls e) ∙ map_mapped g told ds same

module _ (c : Catalog) (t : Tables) (agree : Agrees c (contents t)) (ds : List Declared) (reads : List ℕ)
    (are : (o : ℕ) → Mem o reads ↔ StandsOnce c (contents t).descriptors (requests c (resolve ds)) o)
    (g : Held) (now : Stands g (with_types c t (resolve ds) reads (for_arrays_alone (round_one c (contents t) ds)))) where
  abbrev b : Book
  b = contents t

  abbrev rs : List ℕ
  rs = requests c (resolve ds)

  abbrev apart : List ℕ
  apart = for_arrays_alone (round_one c b ds)

  abbrev d : Descriptors
  d = settled c b.descriptors reads

  abbrev left : ℕ → Bool
  left = left_over c (answered (book_held g).descriptors) reads

  abbrev arrays : ℕ → Option ℕ
  arrays = (book_held g).arrays

  known : (o : ℕ) → answered (book_held g).descriptors o ≡ is_some (found d o)
  known = known_so c t (resolve ds) rs reads apart are g now

  left_so : (o : ℕ) → Mem o rs → left o ≡ unresolved c d o
  left_so = left_by c t (resolve ds) rs reads apart are g now

  -- the array that the book holds of a declared element is the one that the entry leads to
  module _ (e : ℕ) (declared : DeclaresArray c (resolve ds) e) where
    read : b.arrays e ≡ None → (is_in e reads || is_in e apart) ≡ true
    read z =
        ⊎_elim
        (λ m. or_left (is_in e reads) (is_in e apart) (mem_in e reads ((are e).1 (1, layer_stands c b.descriptors rs 0 e (subst (Mem e) (round_full c b agree ds) m)))))
        (λ m. or_right (is_in e reads) (is_in e apart) (mem_in e apart m))
        (element_read c b agree ds e declared z)

    linked : option_or (b.arrays e) (cond (is_in e reads || is_in e apart) (array_link (c.rows e)) None) ≡ link c b e
    linked =
        ⊎_elim
        (λ z. ap (λ k. option_or (b.arrays e) (cond k (array_link (c.rows e)) None)) (read z))
        (λ z. or_first (b.arrays e) _ z.0 z.1 ∙ sym (or_first (b.arrays e) _ z.0 z.1))
        (split_option (b.arrays e))

    array_so : arrays e ≡ link c b e
    array_so = ap (λ (k : Book). k.arrays e) (sym now.book) ∙ linked_so c t (resolve ds) reads apart e ∙ linked

  -- of an entry
  module _ (x : Declared) (in_list : Mem x ds) where
    requested : (o : ℕ) → Mem o (asked_in_full (entry_asks c b x)) → Mem o rs
    requested o m = (flat_mem (entry_requests c) ds o).1 (x, in_list, subst (Mem o) (entry_full c b agree x) m)

  only : (test : ℕ → Bool) (told : ℕ → Bool) (y : Option ℕ) → ((o : ℕ) → Mem o (asked_in_full (in_full_if c b y)) → test o ≡ told o) →
      passes test y ≡ list_any told (asked_in_full (in_full_if c b y))
  only test told None same = refl
  only test told (Some o) same = same o (inl refl) ∙ sym (or_false (told o))

  pub offends_so : (x : Declared) → Mem x ds → asked_for arrays left x (entry_lead c b x) ≡ offends c b d x
  offends_so (of_oid o) m = refl
  offends_so (of_name n) m = only left (unresolved c d) (lead c b n) (λ o k. left_so o (requested (of_name n) m o k))
  offends_so (array_of n) m = by_element (lead c b n) refl
    where
      by_element : (y : Option ℕ) → lead c b n ≡ y → (passes left y || passes left (option_and_then arrays y)) ≡ list_any (unresolved c d) (asked_in_full (element_asks c b y))
      by_element None e = refl
      by_element (Some k) e =
          let there : (o : ℕ) → Mem o (asked_in_full (element_asks c b (Some k))) → left o ≡ unresolved c d o =
          λ o q. left_so o (requested (array_of n) m o (subst (λ y. Mem o (asked_in_full (element_asks c b y))) (sym e) q)) in
          let array : arrays k ≡ link c b k = array_so k (array_of n, m, sym (lead_is c b agree n) ∙ e) in
          (λ i. there k (inl refl) i || passes left (array i))
          ∙ ap (λ v. unresolved c d k || v) (only left (unresolved c d) (link c b k) (λ o q. there o (inr q)))

  -- and its OID
  if_so : (y : Option ℕ) → if_passes (answered (book_held g).descriptors) y ≡ if_settled d y
  if_so None = refl
  if_so (Some o) = ap (λ (k : Bool). if k then Some o else None) (known o)

  pub oid_so : (x : Declared) → Mem x ds → oid_if arrays (answered (book_held g).descriptors) x (entry_lead c b x) ≡ entry_oid c b d x
  oid_so (of_oid o) m = refl
  oid_so (of_name n) m = if_so (lead c b n)
  oid_so (array_of n) m = by_element (lead c b n) refl
    where
      by_element : (y : Option ℕ) → lead c b n ≡ y → if_passes (answered (book_held g).descriptors) (option_and_then arrays y) ≡ if_settled d (link_from c b y)
      by_element None e = refl
      by_element (Some k) e = ap (if_passes (answered (book_held g).descriptors)) (array_so k (array_of n, m, sym (lead_is c b agree n) ∙ e)) ∙ if_so (link c b k)

  pub lacks_so : (x : Declared) → Mem x ds → without_oid arrays (answered (book_held g).descriptors) x (entry_lead c b x) ≡ lacks c b d x
  lacks_so x m = ap (λ y. not (is_some y)) (oid_so x m)
