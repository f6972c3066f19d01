-- Lists and indexes that grow by one at their end.
-- Assumes nothing.
use Rattle.std.proofs.Common.{◌≡◌, ℕ, suc, ◌<◌, ◌≤◌, Bool, true, false, cond, ◌||◌, List, [], ◌∷◌, ◌++◌, length, map, take, get_or, slice_get, nat_eq, is_some, Some, None, Option, sym, refl, ap, ◌∙◌, subst, ⊎_elim, arith, length-append}
use Rattle.std.specs.List.{list_all}
use Rattle.std.proofs.Math.Seq.{take-suc}
use Rattle.std.proofs.lemmas.Bool.{cases_Bool, cases_lt, cond-false, cond-true}
use Rattle.std.proofs.lemmas.Bool.Decides.{Decides-eqb}
use Rattle.std.proofs.lemmas.List.{get_or_append_left, get_or_past, map-append}
use Rattle.std.proofs.lemmas.Option.{slice_get-get_or}
use Rattle.catalog.specs.Catalog.{Catalog, CatalogRow}
use Rattle.catalog.specs.declared.row.Row.{Row}
use Rattle.indexes.specs.Known.{Gained, by_oid}
use Rattle.keys.specs.Senses.{oid_of}
use Rattle.life.specs.Lists.{is_in}
use Rattle.life.proofs.Lists.{distinct_append, mem_in, not_both, same_some, same_truth}
use Rattle.slots.specs.Slots.{Entry}
use Rattle.type_info.specs.declared.oid.Oid.{Oid}
use Rattle.unfolding.specs.Lists.{Distinct, Mem}
use Rattle.book.proofs.Growth.{map_kept}
use Rattle.book.proofs.Trees.{slice_get-append, slice_get-here}
use Rattle.finds.specs.Tables.{at_places, has_row}

or_swap : (x y z : Bool) → (x || (y || z)) ≡ (y || (x || z))
or_swap true true z = refl
or_swap true false z = refl
or_swap false y z = refl

pub in_one_more : (o p : ℕ) (os : List ℕ) → is_in o (os ++ p ∷ []) ≡ (nat_eq o p || is_in o os)
in_one_more o p [] = refl
in_one_more o p (q ∷ os) = ap (λ x. nat_eq o q || x) (in_one_more o p os) ∙ or_swap (nat_eq o q) (nat_eq o p) (is_in o os)

-- an index that gained a key leads to one OID more
same_way : (o p : ℕ) → nat_eq p o ≡ nat_eq o p
same_way o p = same_truth (nat_eq p o) (nat_eq o p) (λ e. (Decides-eqb o p).1 (sym ((Decides-eqb p o).0 e))) (λ e. (Decides-eqb p o).1 (sym ((Decides-eqb o p).0 e)))

some_else : {V : Type 0} (t : Bool) (v : V) (x : Option V) → is_some (cond t (Some v) x) ≡ (t || is_some x)
some_else true v x = refl
some_else false v x = refl

pub leads_on :
    (index : List (Entry Oid ℕ)) (os : List ℕ) (p v : ℕ) (after : List (Entry Oid ℕ)) → ((o : ℕ) → is_some (by_oid index o) ≡ is_in o os) →
    Gained nat_eq oid_of index p v after → (o : ℕ) → is_some (by_oid after o) ≡ is_in o (os ++ p ∷ [])
leads_on index os p v after led gained o =
    ap is_some (gained.holds o) ∙ some_else (nat_eq p o) v (by_oid index o)
    ∙ (λ i. same_way o p i || led o i)
    ∙ sym (in_one_more o p os)

-- and to its place
pub places_on :
    (index : List (Entry Oid ℕ)) (os : List ℕ) (p v : ℕ) (after : List (Entry Oid ℕ)) → v ≡ length os → ((o i : ℕ) → by_oid index o ≡ Some i → slice_get os i ≡ Some o) →
    Gained nat_eq oid_of index p v after → (o i : ℕ) → by_oid after o ≡ Some i → slice_get (os ++ p ∷ []) i ≡ Some o
places_on index os p v after last led gained o i e =
    let told : cond (nat_eq p o) (Some v) (by_oid index o) ≡ Some i = sym (gained.holds o) ∙ e in
    ⊎_elim
    (λ y.
    let here : v ≡ i = same_some (cond-true (nat_eq p o) (Some v) (by_oid index o) y) told in
    ap (slice_get (os ++ p ∷ [])) (sym here ∙ last) ∙ slice_get-here os p [] ∙ ap (λ q. Some q) ((Decides-eqb p o).0 y))
    (λ n. slice_get-append os (p ∷ []) i o (led o i (sym (cond-false (nat_eq p o) (Some v) (by_oid index o) n) ∙ told)))
    (cases_Bool (nat_eq p o))

pub once_more : (os : List ℕ) (p : ℕ) → Distinct os → is_in p os ≡ false → Distinct (os ++ p ∷ [])
once_more os p once new =
    distinct_append os (p ∷ []) once (λ m. m, tt)
    (λ o m. ⊎_elim (λ e. not_both (mem_in p os (subst (λ q. Mem q os) e m)) new) (λ n. n))

-- a place with a row is one of those read
pub row_within : (rows : List (Option Row)) (i : ℕ) → has_row rows i ≡ true → i < length rows
row_within rows i e = ⊎_elim (λ l. l) (λ l. absurd (not_both e (ap is_some (get_or_past rows i None l)))) (cases_lt i (length rows))

-- and goes on having it
pub row_stays : (rows more : List (Option Row)) (i : ℕ) → has_row rows i ≡ true → has_row (rows ++ more) i ≡ true
row_stays rows more i e = ap is_some (get_or_append_left rows more None i (row_within rows i e)) ∙ e

-- what stands at such places stays there
pub places_stay : (rows : List (Option Row)) (os more places : List ℕ) → length rows ≤ length os → list_all (has_row rows) places ≡ true → at_places (os ++ more) places ≡ at_places os places
places_stay rows os more places few =
    map_kept (λ i. get_or (os ++ more) i 0) (λ i. get_or os i 0) (has_row rows)
    (λ i e. get_or_append_left os more 0 i (omega (arith, row_within rows i e))) places

-- a catalog's row behind those that were read of it
pub read_on :
    (c : Catalog) (queue : List ℕ) (rows : List (Option CatalogRow)) (row : Option CatalogRow) → length rows < length queue →
    rows ≡ map c.rows (take (length rows) queue) → ((o : ℕ) → slice_get queue (length rows) ≡ Some o → row ≡ c.rows o) →
    rows ++ row ∷ [] ≡ map c.rows (take (length (rows ++ row ∷ [])) queue)
read_on c queue rows row room from of =
    let n = length rows in
    let o = get_or queue n 0 in
    let long : length (rows ++ row ∷ []) ≡ suc n = omega (arith, length-append rows (row ∷ [])) in
    let reads : take (length (rows ++ row ∷ [])) queue ≡ take n queue ++ o ∷ [] = ap (λ k. take k queue) long ∙ take-suc queue n 0 room in
    (λ i. from i ++ of o (slice_get-get_or queue n 0 room) i ∷ [])
    ∙ sym (map-append c.rows (take n queue) (o ∷ []))
    ∙ ap (map c.rows) (sym reads)
