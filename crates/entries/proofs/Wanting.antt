-- Whether anything stands in round 1, by what the book holds alone.
-- Assumes nothing.
use Rattle.std.proofs.Common.{◌≡◌, ℕ, Bool, true, false, not, ◌||◌, List, [], ◌∷◌, map, is_some, Some, None, Option, sym, refl, ap, ◌∙◌, ⊎_elim}
use Rattle.std.specs.List.{list_any}
use Rattle.std.specs.Option.{option_and_then, option_or}
use Rattle.std.proofs.lemmas.Bool.{cases_Bool, or_parts}
use Rattle.std.proofs.lemmas.List.Folds.{list_any-append}
use Rattle.catalog.specs.Catalog.{Catalog}
use Rattle.life.specs.Calls.{Declared, of_oid, of_name, array_of, array_link}
use Rattle.life.specs.HostCalls.{meant_type}
use Rattle.life.specs.RoundOne.{Question, in_full, for_array, any_question, asked_once, asks_name, all_asks, element_asks, entry_asks, first_opened, for_arrays_alone, in_full_if, resolve_walk, round_one, spared}
use Rattle.life.specs.Steps.{Book}
use Rattle.life.specs.Walk.{answered, ended}
use Rattle.life.proofs.Lists.{chosen_true, chosen_false}
use Rattle.requests.specs.Asked.{declared_by, type_asked}
use Rattle.requests.specs.declared.asked.TypeAsked.{TypeAsked}
use Rattle.finds.specs.Resolving.{entry_lead}
use Rattle.entries.specs.Wants.{held_lead, misses, wants}

any_meant : {A B : Type 0} (test : B → Bool) (f : A → B) (xs : List A) → list_any test (map f xs) ≡ list_any (λ x. test (f x)) xs
any_meant test f [] = refl
any_meant test f (x ∷ xs) = ap (λ t. test (f x) || t) (any_meant test f xs)

module _ (c : Catalog) (b : Book) where
  -- the row is to be asked for, if it was not yet
  abbrev stands : Question → Bool
  stands (in_full o) = not (answered b.descriptors o)
  stands (for_array e) = not (spared c b e)

  or_false : (x : Bool) → (x || false) ≡ x
  or_false true = refl
  or_false false = refl

  -- a question is left exactly where one stands
  any_once : (qs : List Question) → any_question (asked_once c b [] [] qs) ≡ list_any stands qs
  any_once [] = refl
  any_once (in_full o ∷ qs) =
      let skip : Bool = answered b.descriptors o in
      ⊎_elim
      (λ y.
      ap any_question (chosen_true (skip || false) _ _ (or_false skip ∙ y))
      ∙ any_once qs
      ∙ ap (λ (t : Bool). not t || list_any stands qs) (sym y))
      (λ n. ap any_question (chosen_false (skip || false) _ _ (or_false skip ∙ n)) ∙ ap (λ (t : Bool). not t || list_any stands qs) (sym n))
      (cases_Bool skip)
  any_once (for_array e ∷ qs) =
      let skip : Bool = spared c b e in
      ⊎_elim
      (λ y.
      ap any_question (chosen_true (skip || false) _ _ (or_false skip ∙ y))
      ∙ any_once qs
      ∙ ap (λ (t : Bool). not t || list_any stands qs) (sym y))
      (λ n. ap any_question (chosen_false (skip || false) _ _ (or_false skip ∙ n)) ∙ ap (λ (t : Bool). not t || list_any stands qs) (sym n))
      (cases_Bool skip)

  -- of the array of an element
  of_array : (known : Bool) (array link : Option ℕ) → (not known || (not (not known || is_some array) || list_any stands (in_full_if c b (option_or array link)))) ≡ (not known || misses b array)
  of_array false array link = refl
  of_array true None link = refl
  of_array true (Some a) link = or_false (not (answered b.descriptors a))

  of_element : (held : Option ℕ) (named : Option ℕ) → (not (is_some held) || list_any stands (element_asks c b (option_or held named))) ≡ (misses b held || misses b (option_and_then b.arrays held))
  of_element None named = refl
  of_element (Some e) named = of_array (answered b.descriptors e) (b.arrays e) (array_link (c.rows e))

  of_named : (held : Option ℕ) (named : Option ℕ) → (not (is_some held) || list_any stands (in_full_if c b (option_or held named))) ≡ misses b held
  of_named None named = refl
  of_named (Some o) named = or_false (not (answered b.descriptors o))

  entry_wants : (x : Declared) → (asks_name c b x || list_any stands (entry_asks c b x)) ≡ wants b x
  entry_wants (of_oid o) = refl
  entry_wants (of_name n) = of_named (b.names n) (c.named n)
  entry_wants (array_of n) = of_element (b.names n) (c.named n)

  shuffled : (p q r s : Bool) → ((p || q) || (r || s)) ≡ ((p || r) || (q || s))
  shuffled true q r s = refl
  shuffled false true true s = refl
  shuffled false true false s = refl
  shuffled false false r s = refl

  all_want : (ds : List Declared) → list_any (wants b) ds ≡ (list_any (asks_name c b) ds || list_any stands (all_asks c b ds))
  all_want [] = refl
  all_want (x ∷ ds) =
      (λ i. sym (entry_wants x) i || all_want ds i)
      ∙ shuffled (asks_name c b x) (list_any stands (entry_asks c b x)) (list_any (asks_name c b) ds) (list_any stands (all_asks c b ds))
      ∙ ap (λ t. (asks_name c b x || list_any (asks_name c b) ds) || t) (sym (list_any-append stands (entry_asks c b x) (all_asks c b ds)))

  want_stand : (ds : List Declared) → list_any (wants b) ds ≡ (list_any (asks_name c b) ds || any_question (round_one c b ds))
  want_stand ds = all_want ds ∙ ap (λ t. list_any (asks_name c b) ds || t) (sym (any_once (all_asks c b ds)))

  -- where nothing stands, names lead where the book has them lead, and no element is read
  held_so : (held named : Option ℕ) → not (is_some held) ≡ false → held ≡ option_or held named
  held_so None named e = absurd cc
  held_so (Some o) named e = refl

  lead_so : (x : Declared) → asks_name c b x ≡ false → held_lead b x ≡ entry_lead c b x
  lead_so (of_oid o) e = refl
  lead_so (of_name n) e = held_so (b.names n) (c.named n) e
  lead_so (array_of n) e = held_so (b.names n) (c.named n) e

  leads_so : (ds : List Declared) → list_any (asks_name c b) ds ≡ false → map (held_lead b) ds ≡ map (entry_lead c b) ds
  leads_so [] e = refl
  leads_so (x ∷ ds) e =
      let none = or_parts (asks_name c b x) (list_any (asks_name c b) ds) e in
      λ i. lead_so x none.0 i ∷ leads_so ds none.1 i

  none_left : (qs : List Question) → any_question qs ≡ false → for_arrays_alone qs ≡ []
  none_left [] e = refl
  none_left (q ∷ qs) e = absurd cc

  module _ (host : List ℕ) (entries : List TypeAsked) where
    abbrev ds : List Declared
    ds = declared_by host entries

    abbrev any_wants : Bool
    any_wants = list_any (λ x. wants b (meant_type host (type_asked x))) entries

    wants_stand : any_wants ≡ (list_any (asks_name c b) ds || any_question (round_one c b ds))
    wants_stand = sym (any_meant (wants b) (λ x. meant_type host (type_asked x)) entries) ∙ want_stand ds

    pub wanted_walk : any_wants ≡ true → resolve_walk c b ds ≡ first_opened c b c.allowance (round_one c b ds)
    wanted_walk some = chosen_true (list_any (asks_name c b) ds || any_question (round_one c b ds)) _ _ (sym wants_stand ∙ some)

    module _ (none : any_wants ≡ false) where
      parts : (list_any (asks_name c b) ds ≡ false) × (any_question (round_one c b ds) ≡ false)
      parts = or_parts (list_any (asks_name c b) ds) (any_question (round_one c b ds)) (sym wants_stand ∙ none)

      pub unasked_leads : map (held_lead b) ds ≡ map (entry_lead c b) ds
      unasked_leads = leads_so ds parts.0

      pub unasked_apart : for_arrays_alone (round_one c b ds) ≡ []
      unasked_apart = none_left (round_one c b ds) parts.1

      pub unasked_walk : resolve_walk c b ds ≡ ended 0 []
      unasked_walk = chosen_false (list_any (asks_name c b) ds || any_question (round_one c b ds)) _ _ (sym wants_stand ∙ none)
