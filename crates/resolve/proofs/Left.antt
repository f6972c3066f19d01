-- What was read of an OID, and which requests are left once all is kept.
-- Assumes nothing.
use Rattle.std.proofs.Common.{◌≡◌, ℕ, suc, ◌+◌, ◌<◌, Bool, true, false, not, ◌&&◌, ◌||◌, ◌↔◌, List, [], ◌∷◌, length, map, is_some, if◌then◌else◌, option_map, slice_get, take, Some, None, Option, sym, refl, ap, ◌∙◌, subst, inl, inr, ⊎_elim, arith}
use Rattle.std.proofs.lemmas.Bool.{cases_Bool}
use Rattle.std.proofs.lemmas.Option.{get_or_from_slice_get, slice_get-map, slice_get_within}
use Rattle.catalog.specs.Catalog.{Catalog, CatalogRow}
use Rattle.unfolding.specs.Lists.{Mem}
use Rattle.unfolding.specs.Unfolding.{Tree, built, built_in}
use Rattle.life.specs.Calls.{Call}
use Rattle.life.specs.Lists.{first_place, is_in}
use Rattle.life.specs.Outcomes.{unresolved}
use Rattle.life.specs.Rounds.{Descriptors, Known, StandsOnce, found}
use Rattle.life.specs.Settle.{settled}
use Rattle.life.specs.Steps.{Book}
use Rattle.life.specs.Walk.{answered}
use Rattle.life.proofs.Known.{cases_known, found_tells}
use Rattle.life.proofs.Lists.{chosen_false, chosen_true, mem_in, not_both, same_some}
use Rattle.life.proofs.Settle.{settled_ext}
use Rattle.room.specs.Added.{with_types}
use Rattle.room.specs.Tables.{Tables, contents}
use Rattle.room.proofs.Additions.{described_so}
use Rattle.book.specs.Held.{Held, book_held}
use Rattle.book.specs.Stands.{Stands}
use Rattle.finds.specs.declared.tables.Finds.{Finds}
use Rattle.finds.specs.Finds.{ReadFrom, queue_of, reads_of, rows_of}
use Rattle.finds.proofs.Ended.{mem_at}
use Rattle.finds.proofs.Passing.{from_same}
use Rattle.resolve.specs.Fills.{left_over}

some_told : {A B : Type 0} (f : A → B) (x : Option A) → is_some x ≡ is_some (option_map f x)
some_told f None = refl
some_told f (Some a) = refl

-- what stands at a place was read, and has the catalog's row
module _ (c : Catalog) (f : Finds) (from : ReadFrom c f) (all : reads_of f ≡ queue_of f) (o place : ℕ) (at : slice_get (queue_of f) place ≡ Some o) where
  row_here : slice_get (rows_of f) place ≡ Some (c.rows o)
  row_here = ap (λ rs. slice_get rs place) (from ∙ ap (map c.rows) all) ∙ slice_get-map c.rows (queue_of f) place ∙ ap (option_map c.rows) at

  is_read : is_in o (reads_of f) ≡ true
  is_read =
      ap (is_in o) all
      ∙ mem_in o (queue_of f)
      (subst (λ q. Mem q (queue_of f)) (get_or_from_slice_get (queue_of f) place o 0 at) (mem_at (queue_of f) place (slice_get_within (queue_of f) place o at)))

  pub row_there : {A : Type 0} (meaning : A → CatalogRow) (row : Option A) → Some (option_map meaning row) ≡ slice_get (rows_of f) place →
      is_some row ≡ (is_in o (reads_of f) && is_some (c.rows o))
  row_there meaning row told =
      some_told meaning row
      ∙ ap is_some (same_some (sym told) row_here)
      ∙ sym (ap (λ (t : Bool). t && is_some (c.rows o)) is_read)

-- what was found of g is what was found of f
pub first_so : (c : Catalog) (f g : Finds) → queue_of g ≡ queue_of f → rows_of g ≡ rows_of f → (known : ℕ → Bool) (os : List ℕ) (x : Option ℕ) →
    ReadFrom c f → reads_of f ≡ queue_of f →
    ((d : Catalog) → ReadFrom d g → reads_of g ≡ queue_of g → x ≡ first_place (left_over d known (reads_of g)) 0 os) → x ≡ first_place (left_over c known (reads_of f)) 0 os
first_so c f g queue rows known os x from all first =
    let same : reads_of g ≡ reads_of f = λ i. take (length (rows i)) (queue i) in
    first c (from_same c f g queue rows from) (same ∙ all ∙ sym queue)
    ∙ ap (λ reads. first_place (left_over c known reads) 0 os) same

-- the first place is one of the list
place_within : (test : ℕ → Bool) (os : List ℕ) (i j : ℕ) → first_place test i os ≡ Some j → j < i + length os
place_within test [] i j e = absurd cc
place_within test (o ∷ os) i j e =
    ⊎_elim
    (λ y. let here : i ≡ j = same_some (chosen_true (test o) (Some i) (first_place test (suc i) os) y) e in omega (arith, here))
    (λ n. omega (arith, place_within test os (suc i) j (sym (chosen_false (test o) (Some i) (first_place test (suc i) os) n) ∙ e)))
    (cases_Bool (test o))

pub place_in : (test : ℕ → Bool) (os : List ℕ) (j : ℕ) → first_place test 0 os ≡ Some j → j < length os
place_in test os j e = omega (arith, place_within test os 0 j e)

-- tests that agree on a list have one first place in it
place_same : (f g : ℕ → Bool) (os : List ℕ) → ((o : ℕ) → Mem o os → f o ≡ g o) → (i : ℕ) → first_place f i os ≡ first_place g i os
place_same f g [] same i = refl
place_same f g (o ∷ os) same i =
    let rest : first_place f (suc i) os ≡ first_place g (suc i) os = place_same f g os (λ p m. same p (inr m)) (suc i) in
    ap (λ (t : Bool). elim t as (λ _. Option ℕ) [ true ↦ Some i | false ↦ first_place f (suc i) os ]) (same o (inl refl))
    ∙ ap (λ (r : Option ℕ). elim (g o) as (λ _. Option ℕ) [ true ↦ Some i | false ↦ r ]) rest

known_found : (b : Bool) (t : Tree) (x : Option Tree) → (b || is_some x) ≡ is_some (if b then Some t else x)
known_found true t x = refl
known_found false t x = refl

turned : (known read row : Bool) → (known ≡ false → read ≡ true) → (not known && (read && row)) ≡ (row && not known)
turned true read true must = refl
turned true read false must = refl
turned false true true must = refl
turned false true false must = refl
turned false false row must = absurd (not_both (must refl) refl)

-- once the rows of all that stood are kept, what is left of the requests is what refusal 9 offends at
module _ (c : Catalog) (t : Tables) (call : Call) (os reads apart : List ℕ) (are : (o : ℕ) → Mem o reads ↔ StandsOnce c (contents t).descriptors os o)
    (g : Held) (s : Stands g (with_types c t call reads apart)) where
  abbrev b : Descriptors
  b = (contents t).descriptors

  abbrev d : Descriptors
  d = settled c b reads

  pub known_so : (o : ℕ) → answered (book_held g).descriptors o ≡ is_some (found d o)
  known_so o =
      ap (λ x. built_in o || is_some x) (ap (λ (k : Book). k.descriptors o) (sym s.book) ∙ described_so c t call reads apart o)
      ∙ known_found (built_in o) (built o) (d o)

  stays_known : (o : ℕ) → Known b o → Known d o
  stays_known o = ⊎_elim (λ y. inl y) (λ u. inr (u.0, settled_ext c b reads o u.0 u.1))

  pub must_stand : (o : ℕ) → Mem o os → is_some (found d o) ≡ false → is_in o reads ≡ true
  must_stand o m unknown =
      ⊎_elim
      (λ k. absurd (not_both ((found_tells d o).1 (stays_known o k)) unknown))
      (λ u. mem_in o reads ((are o).1 (1, (m, u))))
      (cases_known b o)

  pub left_so : (o : ℕ) → Mem o os → left_over c (answered (book_held g).descriptors) reads o ≡ unresolved c d o
  left_so o m =
      ap (λ (k : Bool). not k && (is_in o reads && is_some (c.rows o))) (known_so o)
      ∙ turned (is_some (found d o)) (is_in o reads) (is_some (c.rows o)) (must_stand o m)

  pub first_left_so : first_place (left_over c (answered (book_held g).descriptors) reads) 0 os ≡ first_place (unresolved c d) 0 os
  first_left_so = place_same (left_over c (answered (book_held g).descriptors) reads) (unresolved c d) os left_so 0
