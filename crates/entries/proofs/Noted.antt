-- What is noted of elements, looked up.
-- Assumes nothing.
use Rattle.std.proofs.Common.{◌≡◌, ℕ, ◌+◌, ◌<◌, Bool, true, false, cond, ◌||◌, List, [], ◌∷◌, ◌++◌, length, map, nat_eq, if◌then◌else◌, is_some, option_map, Some, None, Option, sym, refl, ap, ◌∙◌, ⊎_elim, arith, length-append}
use Rattle.std.specs.Option.{option_or}
use Rattle.std.proofs.lemmas.Bool.{cases_Bool, cond-false, cond-true}
use Rattle.std.proofs.lemmas.Bool.Decides.{Decides-eqb}
use Rattle.std.proofs.lemmas.List.{length-map, map-append}
use Rattle.catalog.specs.Meaning.{oid_told}
use Rattle.indexes.specs.Known.{Gained, HasEmpty, Interned, by_oid}
use Rattle.keys.specs.Senses.{oid_of}
use Rattle.life.specs.Lists.{is_in}
use Rattle.life.proofs.Lists.{is_none_if, not_both}
use Rattle.room.specs.Tables.{look_up}
use Rattle.room.proofs.LookUp.{look_append}
use Rattle.slots.specs.Slots.{Entry}
use Rattle.slots.specs.Stack.{LentItems, Pushed, slots_lent}
use Rattle.type_info.specs.declared.oid.Oid.{Oid}
use Rattle.book.proofs.Put.{pushed_behind, taken}
use Rattle.entries.specs.declared.notes.Notes.{Notes}
use Rattle.entries.specs.Notes.{apart_of, apart_told}
use Rattle.entries.specs.Tables.{Indexed, NotesLent, all_noted, noted}

-- something is looked up exactly where the key stands
found_or : {V : Type 0} (t : Bool) (v : V) (x : Option V) → is_some (if t then Some v else x) ≡ (t || is_some x)
found_or true v x = refl
found_or false v x = refl

pub looked : {V : Type 0} (xs : List (ℕ × V)) (e : ℕ) → is_some (look_up nat_eq xs e) ≡ is_in e (map (λ x. x.0) xs)
looked [] e = refl
looked (x ∷ xs) e = found_or (nat_eq e x.0) x.1 (look_up nat_eq xs e) ∙ ap (λ t. nat_eq e x.0 || t) (looked xs e)

or_none : {V : Type 0} (x : Option V) → option_or x None ≡ x
or_none None = refl
or_none (Some v) = refl

mapped : (t : Bool) (v : Option Oid) (x : Option (Option Oid)) → option_map oid_told (cond t (Some v) x) ≡ cond t (Some (oid_told v)) (option_map oid_told x)
mapped true v x = refl
mapped false v x = refl

-- one element more
module _ (n : Notes) (p : Oid) (a : Option Oid) (new : is_in p.0 (apart_of n) ≡ false) (room : length (apart_told n) < 256)
    (apart : LentItems (Oid × Option Oid)) (r : Option (Unit {0})) (pushed : Pushed n.apart (p, a) r apart)
    (index : List (Entry Oid (Option Oid))) (s : Option (Option Oid))
    (interned : Interned (by_oid n.index p.0) a (HasEmpty n.index) (Gained nat_eq oid_of n.index p.0 a index) (index ≡ n.index) s) where
  long : length (apart_told n) ≡ length n.apart.items
  long = length-map n.apart.items noted

  behind : (apart.items ≡ n.apart.items ++ (p, a) ∷ []) × (slots_lent apart ≡ slots_lent n.apart)
  behind = pushed_behind n.apart (p, a) r apart pushed (omega (arith, long, room, n.lent.apart_lent))

  told_then : all_noted apart ≡ apart_told n ++ (p.0, oid_told a) ∷ []
  told_then = ap (map noted) behind.0 ∙ map-append noted n.apart.items ((p, a) ∷ [])

  none_there : look_up nat_eq (apart_told n) p.0 ≡ None
  none_there = is_none_if (look_up nat_eq (apart_told n) p.0) (looked (apart_told n) p.0 ∙ new)

  absent : by_oid n.index p.0 ≡ None
  absent = unmapped (by_oid n.index p.0) (n.indexed.leads p.0 ∙ none_there)
    where
      unmapped : (x : Option (Option Oid)) → option_map oid_told x ≡ None → x ≡ None
      unmapped None e = refl
      unmapped (Some v) e = absurd cc

  gained : Gained nat_eq oid_of n.index p.0 a index
  gained = taken (by_oid n.index p.0) a _ _ _ s interned absent (omega (arith, n.lent.index_lent, n.indexed.counted, long, room))

  leads_then : (o : ℕ) → option_map oid_told (by_oid index o) ≡ look_up nat_eq (all_noted apart) o
  leads_then o =
      let told : option_map oid_told (by_oid index o) ≡ cond (nat_eq p.0 o) (Some (oid_told a)) (look_up nat_eq (apart_told n) o) =
      ap (option_map oid_told) (gained.holds o) ∙ mapped (nat_eq p.0 o) a (by_oid n.index o) ∙ ap (cond (nat_eq p.0 o) (Some (oid_told a))) (n.indexed.leads o) in
      let last : look_up nat_eq (all_noted apart) o ≡ option_or (look_up nat_eq (apart_told n) o) (if nat_eq o p.0 then Some (oid_told a) else None) =
      ap (λ xs. look_up nat_eq xs o) told_then ∙ look_append nat_eq Decides-eqb (apart_told n) ((p.0, oid_told a) ∷ []) o in
      ⊎_elim
      (λ y.
      let same : p.0 ≡ o = (Decides-eqb p.0 o).0 y in
      told
      ∙ cond-true (nat_eq p.0 o) _ _ y
      ∙ sym (last
      ∙ ap (λ x. option_or x (if nat_eq o p.0 then Some (oid_told a) else None)) (ap (look_up nat_eq (apart_told n)) (sym same) ∙ none_there)
      ∙ ap (λ (t : Bool). if t then Some (oid_told a) else None) ((Decides-eqb o p.0).1 (sym same))))
      (λ f.
      let other : nat_eq o p.0 ≡ false = ⊎_elim (λ y. absurd (not_both ((Decides-eqb p.0 o).1 (sym ((Decides-eqb o p.0).0 y))) f)) (λ g. g) (cases_Bool (nat_eq o p.0)) in
      told
      ∙ cond-false (nat_eq p.0 o) _ _ f
      ∙ sym (last
      ∙ ap (λ (t : Bool). option_or (look_up nat_eq (apart_told n) o) (if t then Some (oid_told a) else None)) other
      ∙ or_none (look_up nat_eq (apart_told n) o)))
      (cases_Bool (nat_eq p.0 o))

  pub apart_put : NotesLent n.leads apart index × Indexed apart index
  apart_put = (
    record { leads_lent = n.lent.leads_lent; apart_lent = behind.1 ∙ n.lent.apart_lent; index_lent = gained.size ∙ n.lent.index_lent },
    record { leads = leads_then; counted = gained.count ∙ ap (λ k. k + 1) n.indexed.counted ∙ sym (ap length behind.0 ∙ length-append n.apart.items ((p, a) ∷ [])) },
  )
