-- What Ordinal answers of a bound statement.
-- Assumes nothing.
use Rattle.std.specs.Prelude.{◌≡◌, ℕ, suc, ◌+◌, ◌≤◌, Bool, ◌&&◌, ◌↔◌, List, [], ◌∷◌, ◌++◌, map, length, Some, None, Option, bytes_eq}
use Rattle.std.specs.Bool.{then_some}
use Rattle.std.specs.Option.{option_or}
use Rattle.catalog.specs.Catalog.{Each}
use Rattle.keys.specs.declared.span.Span.{Span}
use Rattle.keys.specs.Spans.{span_bytes}
use Rattle.life.specs.HostCalls.{HostField, inside}

-- the place, counted from i, of the last element that passes the test
abbrev pub last_place : {A : Type 0} → (A → Bool) → ℕ → List A → Option ℕ
last_place test i [] = None
last_place test i (x ∷ xs) = option_or (last_place test (suc i) xs) (then_some (test x) i)

-- both lie in the host's text, and have the same bytes
abbrev pub same_name : List ℕ → Span → Span → Bool
same_name host s t = inside host s && (inside host t && bytes_eq (span_bytes host s) (span_bytes host t))

-- over the names of a statement's fields, in order
abbrev pub ordinal : List ℕ → List Span → Span → Option ℕ
ordinal host names asked = last_place (same_name host asked) 0 names

-- of the fields of a Bind
abbrev pub ordinal_among : List ℕ → List HostField → Span → Option ℕ
ordinal_among host fields asked = ordinal host (map (λ f. f.name) fields) asked

abbrev pub Inside : List ℕ → Span → Type 0
Inside host s = s.start + s.length ≤ length host

abbrev pub SameName : List ℕ → Span → Span → Type 0
SameName host s t = Inside host s × Inside host t × (span_bytes host s ≡ span_bytes host t)

-- element i has P, and none behind it has
pub record LastAt {A : Type 0} (P : A → Type 0) (i : ℕ) (xs : List A) : Type 0 where
  pub before : List A
  pub it : A
  pub behind : List A
  pub here : xs ≡ before ++ it ∷ behind
  pub place : i ≡ length before
  pub has : P it
  pub last : Each (λ x. P x → ⊥) behind

-- it is i exactly where field i has that name and no later field has, and there is none exactly where no field has it
abbrev pub OrdinalLaw : Type 0
OrdinalLaw =
    (host : List ℕ) (names : List Span) (asked : Span) →
    ((i : ℕ) → (ordinal host names asked ≡ Some i) ↔ LastAt (SameName host asked) i names) ×
    ((ordinal host names asked ≡ None) ↔ Each (λ n. SameName host asked n → ⊥) names)
