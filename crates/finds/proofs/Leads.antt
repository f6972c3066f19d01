-- The names of entries and what they lead to, entry by entry.
-- Assumes nothing.
use Rattle.std.proofs.Common.{◌≡◌, ℕ, zero, suc, ◌+◌, ◌≤◌, List, [], ◌∷◌, length, drop, slice_get, None, Some, Option, sym, refl, ap, ◌∙◌, arith}
use Rattle.std.specs.List.{cons_option}
use Rattle.type_info.specs.declared.oid.Oid.{Oid}
use Rattle.requests.specs.declared.asked.TypeAsked.{TypeAsked}
use Rattle.book.specs.Held.{Held}
use Rattle.finds.specs.Keeping.{each}
use Rattle.finds.specs.Resolving.{Lead, lead_at, lead_kept, lead_kept_if, leads_told}

module _ (host : List ℕ) where
  -- those from a place on
  abbrev pub leads_from : List TypeAsked → List (Option Oid) → ℕ → List Lead
  leads_from xs ls i = leads_told host (drop i xs) (drop i ls)

  -- nothing is told of an entry without a lead
  none_left : (xs : List TypeAsked) (i : ℕ) → leads_told host xs (drop i []) ≡ []
  none_left [] zero = refl
  none_left [] (suc i) = refl
  none_left (x ∷ xs) zero = refl
  none_left (x ∷ xs) (suc i) = refl

  none_found : (x : Option TypeAsked) → lead_at host x None ≡ None
  none_found None = refl
  none_found (Some x) = refl

  next : (xs : List TypeAsked) (ls : List (Option Oid)) (i : ℕ) → leads_from xs ls i ≡ cons_option (lead_at host (slice_get xs i) (slice_get ls i)) (leads_from xs ls (suc i))
  next [] ls zero = refl
  next (x ∷ xs) [] zero = sym (none_left (drop 1 (x ∷ xs)) 1)
  next (x ∷ xs) (l ∷ ls) zero = refl
  next [] ls (suc i) = refl
  next (x ∷ xs) [] (suc i) =
      none_left (drop i xs) (suc i) ∙ sym (λ j. cons_option (none_found (slice_get xs i) j) (none_left (drop (suc i) xs) (suc (suc i)) j))
  next (x ∷ xs) (l ∷ ls) (suc i) = next xs ls i

  pub next_lead : (xs : List TypeAsked) (ls : List (Option Oid)) (i : ℕ) → leads_from xs ls i ≡ cons_option (lead_at host (slice_get xs i) (slice_get ls i)) (leads_from xs ls (i + 1))
  next_lead xs ls i =
      let more : suc i ≡ i + 1 = omega arith in
      next xs ls i ∙ ap (λ j. cons_option (lead_at host (slice_get xs i) (slice_get ls i)) (leads_from xs ls j)) more

  pub no_leads : (xs : List TypeAsked) (ls : List (Option Oid)) (i : ℕ) → length xs ≤ i → leads_from xs ls i ≡ []
  no_leads [] ls zero l = refl
  no_leads [] ls (suc i) l = refl
  no_leads (x ∷ xs) ls zero l = absurd (omega (arith, l))
  no_leads (x ∷ xs) [] (suc i) l = none_left (drop i xs) (suc i)
  no_leads (x ∷ xs) (y ∷ ls) (suc i) l = no_leads xs ls i (omega (arith, l))

pub kept_next : (h : Held) (x : Option Lead) (xs : List Lead) → each lead_kept h (cons_option x xs) ≡ each lead_kept (lead_kept_if h x) xs
kept_next h None xs = refl
kept_next h (Some x) xs = refl
