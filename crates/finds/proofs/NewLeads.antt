-- Names counted one after the other, in a table of those that were.
-- Assumes nothing.
use Rattle.std.proofs.Common.{◌≡◌, ◌+◌, Bool, true, false, cond, ◌||◌, List, [], ◌∷◌, length, bytes_eq, is_some, Some, None, Option, sym, refl, ap, ◌∙◌, subst, inl, inr, ⊎_elim, arith, length-append}
use Rattle.std.specs.List.{cons_option, list_any}
use Rattle.std.proofs.lemmas.Bool.{cases_Bool, or_left}
use Rattle.std.proofs.lemmas.List.Sums.{sum_by-cons}
use Rattle.std.proofs.lemmas.Slice.Eq.{bytes_eq-Decides}
use Rattle.catalog.specs.Shape.{Name}
use Rattle.type_info.specs.declared.oid.Oid.{Oid}
use Rattle.indexes.specs.Known.{GainedName, Names, known}
use Rattle.unfolding.specs.Lists.{Mem}
use Rattle.life.specs.Lists.{fresh_by}
use Rattle.life.proofs.Lists.{chosen_false, chosen_true, not_both, same_truth}
use Rattle.room.specs.Sizes.{Sizes}
use Rattle.book.specs.Held.{Held, no_sizes, size_of_name, sum_of}
use Rattle.finds.specs.declared.tables.Finds.{Finds}
use Rattle.finds.specs.Keeping.{size_of_all}
use Rattle.finds.specs.Resolving.{CountedLead, CountedName, Lead, RoomFor, RoomForAll, lead_bytes, lead_size, left_out, new_leads, same_name}
use Rattle.finds.proofs.News.{or_put}
use Rattle.finds.proofs.Steps.{none_sum, sum_assoc, sum_none}

-- what is new goes by which are skipped or seen alone
pub fresh_alike :
    {A : Type 0} (same : A → A → Bool) (skip skip' : A → Bool) (xs seen seen' : List A) →
    ((x : A) → Mem x xs → (skip x || list_any (same x) seen) ≡ (skip' x || list_any (same x) seen')) →
    fresh_by same skip seen xs ≡ fresh_by same skip' seen' xs
fresh_alike same skip skip' [] seen seen' e = refl
fresh_alike same skip skip' (x ∷ xs) seen seen' e =
    let here = e x (inl refl) in
    ⊎_elim
    (λ t.
    chosen_true (skip x || list_any (same x) seen) _ _ t
    ∙ fresh_alike same skip skip' xs seen seen' (λ y m. e y (inr m))
    ∙ sym (chosen_true (skip' x || list_any (same x) seen') _ _ (sym here ∙ t)))
    (λ n.
    chosen_false (skip x || list_any (same x) seen) _ _ n
    ∙ ap (λ l. x ∷ l) (fresh_alike same skip skip' xs (x ∷ seen) (x ∷ seen') (λ y m. or_put _ _ _ _ (e y (inr m)) (same y x)))
    ∙ sym (chosen_false (skip' x || list_any (same x) seen') _ _ (sym here ∙ n)))
    (cases_Bool (skip x || list_any (same x) seen))

same_both : (m n : Name) → bytes_eq m n ≡ bytes_eq n m
same_both m n =
    same_truth (bytes_eq m n) (bytes_eq n m)
    (λ e. (bytes_eq-Decides n m).1 (sym ((bytes_eq-Decides m n).0 e)))
    (λ e. (bytes_eq-Decides m n).1 (sym ((bytes_eq-Decides n m).0 e)))

put_known : (out was same : Bool) (v : Oid) (x : Option Oid) → is_some x ≡ was → ((out || was) || (same || false)) ≡ ((out || is_some (cond same (Some v) x)) || false)
put_known true was same v x e = refl
put_known false true true v x e = refl
put_known false false true v x e = refl
put_known false true false v x e = ap (λ b. b || false) (sym e)
put_known false false false v x e = ap (λ b. b || false) (sym e)

pub bytes_first : (x : Lead) (xs : List Lead) → lead_bytes (x ∷ xs) ≡ length x.0 + lead_bytes xs
bytes_first x xs = sum_by-cons (λ (y : Lead). length y.0) x xs

module _ (h : Held) (f : Finds) where
  abbrev passed : Names Oid → Lead → Bool
  passed seen x = left_out h f x || is_some (known seen x.0)

  abbrev pub unseen : Names Oid → List Lead → List Lead
  unseen seen xs = fresh_by same_name (passed seen) [] xs

  -- what is counted so far, and what is left
  pub record CountingLeads (all left : List Lead) (seen : Names Oid) (sizes : Sizes) : Type 0 where
    pub total : size_of_all lead_size (new_leads h f all) ≡ sum_of sizes (size_of_all lead_size (unseen seen left))
    pub room : RoomForAll left seen

  gone : (seen : Names Oid) (x : Lead) (xs : List Lead) → passed seen x ≡ true → unseen seen (x ∷ xs) ≡ unseen seen xs
  gone seen x xs e = chosen_true (passed seen x || false) _ _ (or_left (passed seen x) false e)

  first : (seen now : Names Oid) (x : Lead) (xs : List Lead) → passed seen x ≡ false → GainedName seen x.0 (record { 0 = x.1 }) now → unseen seen (x ∷ xs) ≡ x ∷ unseen now xs
  first seen now x xs e gained =
      chosen_false (passed seen x || false) _ _ (ap (λ b. b || false) e)
      ∙ ap (λ l. x ∷ l)
      (fresh_alike same_name (passed seen) (passed now) xs (x ∷ []) []
      (λ y m.
      ap (λ b. passed seen y || (b || false)) (same_both y.0 x.0)
      ∙ put_known (left_out h f y) (is_some (known seen y.0)) (bytes_eq x.0 y.0) (record { 0 = x.1 }) (known seen y.0) refl
      ∙ ap (λ (o : Option Oid). (left_out h f y || is_some o) || false) (sym (gained.knows y.0))))

  room_less : (seen : Names Oid) (x : Lead) (xs : List Lead) → RoomForAll (x ∷ xs) seen → RoomForAll xs seen
  room_less seen x xs r = record { slots = omega (arith, r.slots); text = omega (arith, r.text, bytes_first x xs); few = omega (arith, r.few, bytes_first x xs) }

  room_then : (seen now : Names Oid) (x : Lead) (xs : List Lead) → GainedName seen x.0 (record { 0 = x.1 }) now → RoomForAll (x ∷ xs) seen → RoomForAll xs now
  room_then seen now x xs gained r =
      let long : length now.text.text ≡ length seen.text.text + length x.0 = ap length gained.text ∙ length-append seen.text.text x.0 in
      record {
        slots = omega (arith, r.slots, gained.count, gained.size);
        text = omega (arith, r.text, bytes_first x xs, long, gained.lent);
        few = omega (arith, r.few, bytes_first x xs, long);
      }

  module _ (all : List Lead) (seen now : Names Oid) (sizes more after : Sizes) (total : after ≡ sum_of sizes more) (xs : List Lead) where
    counted_name : (x : Lead) (b : Bool) → passed seen x ≡ b → CountedName b x seen now more → CountingLeads all (x ∷ xs) seen sizes → CountingLeads all xs now after
    counted_name x true e counted c =
        subst (λ (n : Names Oid). CountingLeads all xs n after) (sym counted.1) (record {
          total =
              c.total
              ∙ (λ i. sum_of ((sym (sum_none sizes) ∙ ap (sum_of sizes) (sym counted.0) ∙ sym total) i) (size_of_all lead_size (gone seen x xs e i)));
          room = room_less seen x xs c.room;
        })
    counted_name x false e counted c = record {
      total =
          c.total
          ∙ ap (λ l. sum_of sizes (size_of_all lead_size l)) (first seen now x xs e counted.1)
          ∙ sum_assoc sizes (size_of_name x.0) (size_of_all lead_size (unseen now xs))
          ∙ ap (λ (s : Sizes). sum_of s (size_of_all lead_size (unseen now xs))) (ap (sum_of sizes) (sym counted.0) ∙ sym total);
      room = room_then seen now x xs counted.1 c.room;
    }

    pub counted_next : (x : Option Lead) → CountedLead h f x seen now more → CountingLeads all (cons_option x xs) seen sizes → CountingLeads all xs now after
    counted_next None counted c =
        subst (λ (n : Names Oid). CountingLeads all xs n after) (sym counted.1) (record {
          total = c.total ∙ ap (λ (s : Sizes). sum_of s (size_of_all lead_size (unseen seen xs))) (sym (sum_none sizes) ∙ ap (sum_of sizes) (sym counted.0) ∙ sym total);
          room = c.room;
        })
    counted_next (Some x) counted c = counted_name x (passed seen x) refl counted c

  -- nothing is counted yet
  pub none_counted : (all : List Lead) (seen : Names Oid) → ((n : Name) → known seen n ≡ None) → RoomForAll all seen → CountingLeads all all seen no_sizes
  none_counted all seen none room = record {
    total =
        ap (size_of_all lead_size)
        (fresh_alike same_name (left_out h f) (passed seen) all [] []
        (λ x m. ap (λ b. b || false) (or_nothing (left_out h f x)) ∙ ap (λ (o : Option Oid). (left_out h f x || is_some o) || false) (sym (none x.0))))
        ∙ sym (none_sum (size_of_all lead_size (unseen seen all)));
    room = room;
  }
    where
      or_nothing : (b : Bool) → b ≡ (b || false)
      or_nothing true = refl
      or_nothing false = refl

  pub all_counted : (all : List Lead) (seen : Names Oid) (sizes : Sizes) → CountingLeads all [] seen sizes → sizes ≡ size_of_all lead_size (new_leads h f all)
  all_counted all seen sizes c = sym (c.total ∙ sum_none sizes)

-- the first of those for which there is room
pub room_first : (x : Option Lead) (xs : List Lead) (seen : Names Oid) → RoomForAll (cons_option x xs) seen → RoomFor x seen
room_first None xs seen r = tt
room_first (Some x) xs seen r = (omega (arith, r.slots), record { lent = omega (arith, r.text, bytes_first x xs); told = omega (arith, r.few, bytes_first x xs) })

-- a name that is passed over, and one that is counted
pub over : (b : Bool) (x : Lead) (seen : Names Oid) → b ≡ true → CountedName b x seen seen no_sizes
over true x seen e = (refl, refl)
over false x seen e = absurd (not_both e refl)

pub counts : (b : Bool) (x : Lead) (seen now : Names Oid) → b ≡ false → GainedName seen x.0 (record { 0 = x.1 }) now → CountedName b x seen now (size_of_name x.0)
counts true x seen now e gained = absurd (not_both refl e)
counts false x seen now e gained = (refl, gained)
