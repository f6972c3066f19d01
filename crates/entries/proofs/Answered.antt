-- What stands, or is noted, and the arrays of elements.
-- Assumes nothing.
use Rattle.std.proofs.Common.{◌≡◌, ℕ, Bool, true, false, not, ◌||◌, List, map, nat_eq, is_some, option_map, slice_get, Some, None, Option, MatchOption, sym, ap, ◌∙◌, subst}
use Rattle.std.specs.Option.{option_or}
use Rattle.std.proofs.lemmas.Bool.Decides.{Decides-eqb}
use Rattle.std.proofs.lemmas.Option.{get_or_from_slice_get, slice_get_within}
use Rattle.catalog.specs.Catalog.{Catalog}
use Rattle.catalog.specs.Meaning.{oid_told}
use Rattle.unfolding.specs.Lists.{Mem}
use Rattle.life.specs.Calls.{array_link}
use Rattle.life.specs.Lists.{is_in}
use Rattle.life.specs.RoundOne.{link, spared}
use Rattle.life.specs.Steps.{Book}
use Rattle.life.specs.Walk.{answered}
use Rattle.life.proofs.Lists.{mem_in, not_both}
use Rattle.room.specs.Tables.{look_up}
use Rattle.room.proofs.Additions.{map_mem}
use Rattle.room.proofs.LookUp.{look_mem}
use Rattle.type_info.specs.declared.oid.Oid.{Oid}
use Rattle.finds.specs.declared.tables.Finds.{Finds}
use Rattle.finds.specs.Finds.{queue_of, rows_of}
use Rattle.finds.proofs.Ended.{mem_at}
use Rattle.entries.specs.declared.notes.Notes.{Notes}
use Rattle.entries.specs.Asking.{AllRead, with_link}
use Rattle.entries.specs.Notes.{apart_of, apart_told}
use Rattle.entries.proofs.Noted.{looked}

-- what is found at a place is there
pub found_in : (os : List ℕ) (o : ℕ) (r : Option ℕ) → MatchOption r (is_in o os ≡ false) (λ place. slice_get os place ≡ Some o) → is_some r ≡ is_in o os
found_in os o None none = sym none
found_in os o (Some place) at =
    sym (mem_in o os (subst (λ q. Mem q os) (get_or_from_slice_get os place o 0 at) (mem_at os place (slice_get_within os place o at))))

-- so is an element of which something is noted
told_some : (x : Option (Option Oid)) (y : Option (Option ℕ)) → option_map oid_told x ≡ y → is_some x ≡ is_some y
told_some None y e = ap is_some e
told_some (Some v) y e = ap is_some e

pub noted_in : (n : Notes) (e : ℕ) (r : Option (Option Oid)) → option_map oid_told r ≡ look_up nat_eq (apart_told n) e → is_some r ≡ is_in e (apart_of n)
noted_in n e r told = told_some r (look_up nat_eq (apart_told n) e) told ∙ looked (apart_told n) e

pub passed_on : (test later answer : Bool) → test ≡ false → answer ≡ later → answer ≡ (test || later)
passed_on test later answer none same = same ∙ sym (ap (λ t. t || later) none)

module _ (c : Catalog) (b : Book) (f : Finds) (n : Notes) (all : AllRead c f n) (e : ℕ) (none_held : None ≡ b.arrays e) where
  link_is : link c b e ≡ array_link (c.rows e)
  link_is = ap (λ x. option_or x (array_link (c.rows e))) (sym none_held)

  pub link_noted : (array : Option Oid) → Some (oid_told array) ≡ look_up nat_eq (apart_told n) e → oid_told array ≡ link c b e
  link_noted array there =
      let m = map_mem (with_link c) (apart_of n) (e, oid_told array)
      (look_mem nat_eq Decides-eqb (map (with_link c) (apart_of n)) e (oid_told array) (ap (λ xs. look_up nat_eq xs e) (sym all.apart) ∙ sym there)) in
      let same : e ≡ m.0 = ap (λ (x : ℕ × Option ℕ). x.0) m.2 in
      ap (λ (x : ℕ × Option ℕ). x.1) m.2 ∙ ap (λ x. array_link (c.rows x)) (sym same) ∙ sym link_is

  in_queue : (known arrays apart queue : Bool) → arrays ≡ false → apart ≡ false → (known || queue) ≡ true → (not known || arrays || apart) ≡ true → queue ≡ true
  in_queue true arrays apart queue p q stands linked = absurd (not_both linked ((λ i. p i || q i)))
  in_queue false arrays apart queue p q stands linked = stands

  pub link_read : (array : Option Oid) →
      ((d : Catalog) → rows_of f ≡ map d.rows (queue_of f) → is_in e (queue_of f) ≡ true → oid_told array ≡ array_link (d.rows e)) →
      None ≡ look_up nat_eq (apart_told n) e → (answered b.descriptors e || is_in e (queue_of f)) ≡ true → (spared c b e || is_in e (apart_of n)) ≡ true →
      oid_told array ≡ link c b e
  link_read array read none_noted stands linked =
      read c all.rows
      (in_queue (answered b.descriptors e) (is_some (b.arrays e)) (is_in e (apart_of n)) (is_in e (queue_of f))
      (sym (ap is_some none_held)) (sym (looked (apart_told n) e) ∙ sym (ap is_some none_noted)) stands linked)
      ∙ sym link_is
