-- The first entry of a list that passes a test, and tests over a whole list and over all its pairs.
-- Assumes nothing.
use Rattle.std.proofs.Common.{◌≡◌, ℕ, zero, suc, ◌<◌, Bool, true, false, cond, ◌&&◌, List, [], ◌∷◌, length, get_or, Some, None, refl, suc-le-suc, le_of_suc-le-suc, not-suc-le-zero, arith}
use Rattle.std.proofs.lemmas.Bool.{and_parts}
use Rattle.type_info.specs.Table.{Entry, none, first}

pub first-at :
    (p : Entry → Bool) (es : List Entry) (i : ℕ) →
    i < length es → p (get_or es i none) ≡ true → ((k : ℕ) → k < i → p (get_or es k none) ≡ false) →
    first p es ≡ Some (get_or es i none)
first-at p [] i h t f = absurd (not-suc-le-zero h)
first-at p (e ∷ es) zero h t f = rw t
first-at p (e ∷ es) (suc i) h t f =
    rw (f 0 (omega arith)) (first-at p es i (le_of_suc-le-suc h) t (λ k l. f (suc k) (omega arith)))

pub first-none :
    (p : Entry → Bool) (es : List Entry) → ((k : ℕ) → k < length es → p (get_or es k none) ≡ false) → first p es ≡ None
first-none p [] f = refl
first-none p (e ∷ es) f = rw (f 0 (omega arith)) (first-none p es (λ k l. f (suc k) (omega arith)))

-- where an entry was found
pub record Place (p : Entry → Bool) (es : List Entry) (e : Entry) : Type 0 where
  pub at : ℕ
  pub within : at < length es
  pub is : get_or es at none ≡ e
  pub passes : p e ≡ true

pub first_some : (p : Entry → Bool) (es : List Entry) (e : Entry) → first p es ≡ Some e → Place p es e
first_some p [] e h = absurd (let z : ◌≡◌ {A = ℕ} 0 1 = cc in omega arith)
first_some p (x ∷ xs) e h =
    let way : (b : Bool) → p x ≡ b → cond b (Some x) (first p xs) ≡ Some e → Place p (x ∷ xs) e =
    λ b. elim b as (λ b. p x ≡ b → cond b (Some x) (first p xs) ≡ Some e → Place p (x ∷ xs) e) [
      | true ↦ λ t s. let q : x ≡ e = cc in record { at = 0; within = omega arith; is = q; passes = rw q at t }
      | false ↦ λ t s. let r = first_some p xs e s in
          record { at = suc r.at; within = suc-le-suc r.within; is = r.is; passes = r.passes }
    ] in
    way (p x) refl h

-- a test that passes at each entry
abbrev pub all : (Entry → Bool) → List Entry → Bool
all f [] = true
all f (e ∷ es) = f e && all f es

pub all-at : (f : Entry → Bool) (es : List Entry) → all f es ≡ true → (k : ℕ) → k < length es → f (get_or es k none) ≡ true
all-at f [] t k h = absurd (not-suc-le-zero h)
all-at f (e ∷ es) t zero h = (and_parts (f e) (all f es) t).0
all-at f (e ∷ es) t (suc k) h = all-at f es (and_parts (f e) (all f es) t).1 k (le_of_suc-le-suc h)

-- a test that passes at each entry and each later one
abbrev pub pairs : (Entry → Entry → Bool) → List Entry → Bool
pairs f [] = true
pairs f (e ∷ es) = all (f e) es && pairs f es

pub pairs-at :
    (f : Entry → Entry → Bool) (es : List Entry) → pairs f es ≡ true →
    (i j : ℕ) → i < j → j < length es → f (get_or es i none) (get_or es j none) ≡ true
pairs-at f [] t i j l h = absurd (not-suc-le-zero h)
pairs-at f (e ∷ es) t i zero l h = absurd (not-suc-le-zero l)
pairs-at f (e ∷ es) t zero (suc j) l h = all-at (f e) es (and_parts (all (f e) es) (pairs f es) t).0 j (le_of_suc-le-suc h)
pairs-at f (e ∷ es) t (suc i) (suc j) l h =
    pairs-at f es (and_parts (all (f e) es) (pairs f es) t).1 i j (le_of_suc-le-suc l) (le_of_suc-le-suc h)
