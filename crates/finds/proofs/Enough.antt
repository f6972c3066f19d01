-- A table of names that is large enough for entries, and how large that is.
-- Assumes nothing.
use Rattle.std.proofs.Common.{◌≡◌, ℕ, ◌+◌, ◌*◌, ◌≤◌, Bool, true, ◌&&◌, ◌||◌, List, [], ◌∷◌, length, min, nat_le, Some, None, Option, sym, refl, ap, subst, inl, inr, ⊎_elim, arith}
use Rattle.std.specs.List.{cons_option, list_any}
use Rattle.std.proofs.Math.Nat.{le-min, min-le_left, min-le_right}
use Rattle.std.proofs.lemmas.Bool.{and_from, and_parts, cases_Bool, le-leb, leb-true}
use Rattle.std.proofs.lemmas.List.Sums.{sum_by-cons}
use Rattle.catalog.specs.Shape.{Name}
use Rattle.type_info.specs.declared.oid.Oid.{Oid}
use Rattle.indexes.specs.Known.{Names}
use Rattle.slots.specs.Slots.{filled}
use Rattle.slots.specs.Text.{lent}
use Rattle.unfolding.specs.Lists.{Mem}
use Rattle.life.specs.Calls.{Declared, array_of, of_name, of_oid, resolve}
use Rattle.life.specs.Lists.{fresh_by}
use Rattle.life.proofs.Lists.{chosen_false, chosen_true}
use Rattle.room.specs.Added.{declared_names}
use Rattle.room.specs.Sizes.{Sizes, bytes}
use Rattle.book.specs.Held.{FewOf, Held}
use Rattle.finds.specs.declared.tables.Finds.{Finds}
use Rattle.finds.specs.Keeping.{size_of_all}
use Rattle.finds.specs.Resolving.{Lead, RoomForAll, declared_bytes, enough, entry_name, lead_bytes, lead_if, lead_size, leads_of, left_out, name_length, new_leads, same_name}
use Rattle.finds.proofs.NewLeads.{bytes_first}

-- the names of entries that lead to something are no more and no longer than those declared
pub bytes_more : (d : Declared) (ds : List Declared) → declared_bytes (d ∷ ds) ≡ name_length (entry_name d) + declared_bytes ds
bytes_more (of_oid o) ds = omega arith
bytes_more (of_name n) ds = sum_by-cons length n (declared_names (resolve ds))
bytes_more (array_of n) ds = sum_by-cons length n (declared_names (resolve ds))

pub record NoMore (xs : List Lead) (n bs : ℕ) : Type 0 where
  pub many : length xs ≤ n
  pub long : lead_bytes xs ≤ bs

one_more : (x : Option Name) (l : Option ℕ) (xs : List Lead) (n bs : ℕ) → NoMore xs n bs → NoMore (cons_option (lead_if x l) xs) (n + 1) (name_length x + bs)
one_more None l xs n bs m = record { many = omega (arith, m.many); long = omega (arith, m.long) }
one_more (Some x) None xs n bs m = record { many = omega (arith, m.many); long = omega (arith, m.long) }
one_more (Some x) (Some o) xs n bs m = record { many = omega (arith, m.many); long = omega (arith, m.long, bytes_first (x, o) xs) }

pub leads_few : (ds : List Declared) (ls : List (Option ℕ)) → NoMore (leads_of ds ls) (length ds) (declared_bytes ds)
leads_few [] ls = record { many = omega arith; long = omega arith }
leads_few (d ∷ ds) [] = record { many = omega arith; long = omega arith }
leads_few (d ∷ ds) (l ∷ ls) =
    let more : length ds + 1 ≡ length (d ∷ ds) = omega arith in
    subst (λ n. NoMore (leads_of (d ∷ ds) (l ∷ ls)) n (declared_bytes (d ∷ ds))) more
    (subst (NoMore (leads_of (d ∷ ds) (l ∷ ls)) (length ds + 1)) (sym (bytes_more d ds)) (one_more (entry_name d) l (leads_of ds ls) (length ds) (declared_bytes ds) (leads_few ds ls)))

-- and what is new of names is no more
pub fresh_few : (skip : Lead → Bool) (xs seen : List Lead) → NoMore (fresh_by same_name skip seen xs) (length xs) (lead_bytes xs)
fresh_few skip [] seen = record { many = omega arith; long = omega arith }
fresh_few skip (x ∷ xs) seen =
    ⊎_elim
    (λ t.
    let rest = fresh_few skip xs seen in
    subst (λ l. NoMore l (length (x ∷ xs)) (lead_bytes (x ∷ xs))) (sym (chosen_true (skip x || list_any (same_name x) seen) _ _ t))
    (record { many = omega (arith, rest.many); long = omega (arith, rest.long, bytes_first x xs) }))
    (λ n.
    let rest = fresh_few skip xs (x ∷ seen) in
    subst (λ l. NoMore l (length (x ∷ xs)) (lead_bytes (x ∷ xs))) (sym (chosen_false (skip x || list_any (same_name x) seen) _ _ n))
    (record { many = omega (arith, rest.many); long = omega (arith, rest.long, bytes_first x xs, bytes_first x (fresh_by same_name skip (x ∷ seen) xs)) }))
    (cases_Bool (skip x || list_any (same_name x) seen))

-- so much they take
pub record NamesAlone (xs : List Lead) (s : Sizes) : Type 0 where
  pub descriptors : s.descriptors ≡ 0
  pub parts : s.parts ≡ 0
  pub names : s.names ≡ length xs
  pub arrays : s.arrays ≡ 0
  pub text : s.text ≡ lead_bytes xs
  pub columns : s.columns ≡ 0
  pub relations : s.relations ≡ 0

size_leads : (xs : List Lead) → NamesAlone xs (size_of_all lead_size xs)
size_leads [] = record { descriptors = refl; parts = refl; names = omega arith; arrays = refl; text = omega arith; columns = refl; relations = refl }
size_leads (x ∷ xs) =
    let r = size_leads xs in
    record {
      descriptors = omega (arith, r.descriptors);
      parts = omega (arith, r.parts);
      names = omega (arith, r.names);
      arrays = omega (arith, r.arrays);
      text = omega (arith, r.text, bytes_first x xs);
      columns = omega (arith, r.columns);
      relations = omega (arith, r.relations);
    }

module _ (ds : List Declared) (ls : List (Option ℕ)) (apart : ℕ) (seen : Names Oid) (e : enough ds apart seen ≡ true) where
  pub record Enough : Type 0 where
    pub entries : length ds ≤ 65536
    pub rows : apart ≤ 65536
    pub slots : length ds ≤ length seen.slots
    pub text : declared_bytes ds ≤ lent seen.text
    pub few : declared_bytes ds ≤ 8388608

  pub parts_enough : Enough
  parts_enough =
      let halves = and_parts (nat_le (length ds) 65536 && nat_le apart 65536) (nat_le (length ds) (length seen.slots) && nat_le (declared_bytes ds) (min (lent seen.text) 8388608)) e in
      let p = and_parts (nat_le (length ds) 65536) (nat_le apart 65536) halves.0 in
      let q = and_parts (nat_le (length ds) (length seen.slots)) (nat_le (declared_bytes ds) (min (lent seen.text) 8388608)) halves.1 in
      let t = leb-true (declared_bytes ds) (min (lent seen.text) 8388608) q.1 in
      record {
        entries = leb-true (length ds) 65536 p.0;
        rows = leb-true apart 65536 p.1;
        slots = leb-true (length ds) (length seen.slots) q.0;
        text = omega (arith, t, min-le_left (lent seen.text) 8388608);
        few = omega (arith, t, min-le_right (lent seen.text) 8388608);
      }

  -- an emptied table has room for all
  pub room_enough : (now : Names Oid) → filled now.slots ≡ 0 → length now.slots ≡ length seen.slots → now.text.text ≡ [] → lent now.text ≡ lent seen.text →
      RoomForAll (leads_of ds ls) now
  room_enough now empty size none same =
      let p = parts_enough in
      let l = leads_few ds ls in
      let nothing : length now.text.text ≡ 0 = ap length none in
      record {
        slots = omega (arith, l.many, p.slots, empty, size);
        text = omega (arith, l.long, p.text, nothing, same);
        few = omega (arith, l.long, p.few, nothing);
      }

  pub few_enough : (h : Held) (f : Finds) → FewOf 8388608 (size_of_all lead_size (new_leads h f (leads_of ds ls)))
  few_enough h f =
      let p = parts_enough in
      let l = leads_few ds ls in
      let n = fresh_few (left_out h f) (leads_of ds ls) [] in
      let s = size_leads (new_leads h f (leads_of ds ls)) in
      record {
        descriptors = omega (arith, s.descriptors);
        parts = omega (arith, s.parts);
        names = omega (arith, s.names, n.many, l.many, p.entries);
        arrays = omega (arith, s.arrays);
        text = omega (arith, s.text, n.long, l.long, p.few);
        columns = omega (arith, s.columns);
        relations = omega (arith, s.relations);
      }

-- names of 128 bytes at most have so many bytes together
bytes_of_short : (ns : List Name) → ((n : Name) → Mem n ns → length n ≤ 128) → bytes ns ≤ 128 * length ns
bytes_of_short [] short = omega arith
bytes_of_short (n ∷ ns) short = omega (arith, sum_by-cons length n ns, short n (inl refl), bytes_of_short ns (λ m k. short m (inr k)))

names_few : (ds : List Declared) → length (declared_names (resolve ds)) ≤ length ds
names_few [] = omega arith
names_few (of_oid o ∷ ds) = omega (arith, names_few ds)
names_few (of_name n ∷ ds) = omega (arith, names_few ds)
names_few (array_of n ∷ ds) = omega (arith, names_few ds)

pub enough_for_short :
    (ds : List Declared) (apart : ℕ) (seen : Names Oid) → length ds ≤ 256 → apart ≤ 256 → ((n : Name) → Mem n (declared_names (resolve ds)) → length n ≤ 128) →
    512 ≤ length seen.slots → 32768 ≤ lent seen.text → enough ds apart seen ≡ true
enough_for_short ds apart seen few few_apart short slots text =
    let long : declared_bytes ds ≤ 32768 = omega (arith, bytes_of_short (declared_names (resolve ds)) short, names_few ds, few) in
    let fits : declared_bytes ds ≤ min (lent seen.text) 8388608 = le-min (omega (arith, long, text)) (omega (arith, long)) in
    and_from (nat_le (length ds) 65536 && nat_le apart 65536) (nat_le (length ds) (length seen.slots) && nat_le (declared_bytes ds) (min (lent seen.text) 8388608))
    (and_from (nat_le (length ds) 65536) (nat_le apart 65536) (le-leb (length ds) 65536 (omega (arith, few))) (le-leb apart 65536 (omega (arith, few_apart))))
    (and_from (nat_le (length ds) (length seen.slots)) (nat_le (declared_bytes ds) (min (lent seen.text) 8388608)) (le-leb (length ds) (length seen.slots) (omega (arith, few, slots)))
    (le-leb (declared_bytes ds) (min (lent seen.text) 8388608) fits))
