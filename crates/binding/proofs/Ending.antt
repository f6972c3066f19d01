-- How the computed column round ends, by cases.
-- Assumes nothing.
use Rattle.std.proofs.Common.{◌≡◌, ℕ, zero, suc, ◌+◌, ◌-◌, ◌≤◌, true, List, [], ◌∷◌, option_map, Some, None, Option, sym, refl, ap, ◌∙◌, subst, arith}
use Rattle.catalog.specs.Catalog.{Catalog, Opened, Spent, spent}
use Rattle.keys.specs.Kinds.{same-pair}
use Rattle.keys.specs.Senses.{Pair, same_pair}
use Rattle.unfolding.specs.Lists.{Distinct}
use Rattle.life.specs.Bind.{column_round}
use Rattle.life.specs.Calls.{Binding}
use Rattle.life.specs.Steps.{Book, Ending, accepted, refused}
use Rattle.life.specs.Tests.{sources}
use Rattle.life.proofs.Fresh.{fresh_distinct}
use Rattle.room.specs.Added.{with_columns}
use Rattle.room.specs.Tables.{Tables}
use Rattle.room.proofs.Extended.{extended_none}
use Rattle.requests.specs.Asked.{fields_of}
use Rattle.requests.specs.declared.asked.FieldAsked.{FieldAsked}
use Rattle.book.specs.Held.{Held}
use Rattle.binding.specs.Asked.{Gathered, asked_of}
use Rattle.binding.specs.declared.memory.ColumnFinds.{ColumnFinds}
use Rattle.binding.proofs.Asking.{holds}

-- what was asked for is asked for once
pub asked_distinct : (h : Held) (fields : List FieldAsked) → Distinct (asked_of h fields)
asked_distinct h fields = fresh_distinct same_pair same-pair (holds h) (sources (fields_of fields)) []

-- opening a round alters no column
pub gathered_before : (c d : Catalog) → Opened c d → (asked : List Pair) (f : ColumnFinds) → Gathered d asked f → Gathered c asked f
gathered_before c d opened asked f so =
    let then : Gathered (spent c _) asked f = subst (λ (e : Catalog). Gathered e asked f) opened.after so in
    record { indexed = then.indexed; counted = then.counted; found = then.found }

pub spent_one : (c d : Catalog) → Opened c d → (n told : ℕ) → told ≡ n + 1 → Spent (told - n) c d
spent_one c d opened n told next =
    let one : told - n ≡ 1 = omega arith in
    subst (λ (k : ℕ). Spent k c d) (sym one) (record { enough = opened.some; after = opened.after })

pub no_columns : (c : Catalog) (t : Tables) (asked : List Pair) → asked ≡ [] → with_columns c t asked ≡ t
no_columns c t asked e = ap (with_columns c t) e ∙ extended_none t

module _ (full : Option ℕ) (c : Catalog) (b : Book) (q : Binding) (n : ℕ) where
  -- where a table is full, so many rounds are left, and these columns are to be asked for
  abbrev out : (left : ℕ) → List Pair → Ending
  out left asked = (column_round (λ b. None) (λ b. full) c b q n [] left asked).ending

  pub kept_ends : (left : ℕ) (asked : List Pair) → (asked ≡ [] → ⊥) → 1 ≤ left → full ≡ None → accepted n 1 ≡ out left asked
  kept_ends left [] some allowed e = absurd (some refl)
  kept_ends zero (p ∷ ps) some allowed e = absurd (omega arith)
  kept_ends (suc left) (p ∷ ps) some allowed e = sym (ap (λ x. (column_round (λ b. None) (λ b. x) c b q n [] (suc left) (p ∷ ps)).ending) e)

  pub full_ends : (left : ℕ) (asked : List Pair) → (asked ≡ [] → ⊥) → 1 ≤ left → (e : Ending) → option_map (λ table. refused 8 table true (n + 1)) full ≡ Some e → e ≡ out left asked
  full_ends left [] some allowed e told = absurd (some refl)
  full_ends zero (p ∷ ps) some allowed e told = absurd (omega arith)
  full_ends (suc left) (p ∷ ps) some allowed e told = over full told
    where
      over : (x : Option ℕ) → option_map (λ table. refused 8 table true (n + 1)) x ≡ Some e → e ≡ (column_round (λ b. None) (λ b. x) c b q n [] (suc left) (p ∷ ps)).ending
      over None is = absurd cc
      over (Some table) is =
          let next : n + 1 ≡ suc n = omega arith in
          let same : refused 8 table true (n + 1) ≡ e = cc in
          sym same ∙ ap (refused 8 table true) next

-- whatever else the bind asks, and whatever rows were read, it ends so
pub same_ending :
    (full : Book → Option ℕ) (x : Option ℕ) (c d : Catalog) (b e : Book) (q r : Binding) (n left : ℕ) (reads : List ℕ) (asked : List Pair) →
    (column_round full (λ _. x) c b q n reads left asked).ending ≡ out x d e r n left asked
same_ending full x c d b e q r n left reads [] = refl
same_ending full x c d b e q r n zero reads (p ∷ ps) = refl
same_ending full None c d b e q r n (suc left) reads (p ∷ ps) = refl
same_ending full (Some table) c d b e q r n (suc left) reads (p ∷ ps) = refl
