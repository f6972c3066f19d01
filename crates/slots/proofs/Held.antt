-- What the slots hold, by the slot that has the key, by its absence, and after a write. Assumes nothing.
use Rattle.std.proofs.Common.{◌≡◌, ℕ, zero, suc, ◌+◌, ◌<◌, Bool, true, false, cond, List, [], ◌∷◌, length, set, Some, None, Decides, sym, refl, ap, ◌∙◌, arith, is_some, replicate}
use Rattle.std.proofs.lemmas.List.Sums.{sum_by-cons, sum_by-set, count_by-le-length}
use Rattle.std.proofs.lemmas.Option.{some_pair_parts}
use Rattle.std.proofs.lemmas.List.{get_or_past}
use Rattle.std.proofs.lemmas.Bool.{cases_Bool, true≢false}
use Rattle.std.proofs.lemmas.Bool.Decides.{same_from_decides}
use Rattle.slots.specs.Slots.{Entry, filled, held, at}

module _ {Q : Type 0} (alike : Q → Q → Bool) (tells : (a b : Q) → Decides (alike a b) (a ≡ b)) where
  pub not_alike : (a b : Q) → (a ≡ b → ⊥) → alike a b ≡ false
  not_alike a b n = grind (arith, tells a b, cases_Bool (alike a b))

  pub alike_flipped : (a b : Q) → alike a b ≡ alike b a
  alike_flipped a b = same_from_decides (alike a b) (alike b a) (tells a b) (λ e. sym ((tells b a).0 e), λ e. (tells b a).1 (sym e))

module _ {S V : Type 0} where
  pub full-not-empty : (e : Entry S V) (s : S) (v : V) → e ≡ Some (s, v) → e ≡ None → ⊥
  full-not-empty e s v p q = cc

  pub full-inside : (es : List (Entry S V)) (i : ℕ) (s : S) (v : V) → at es i ≡ Some (s, v) → i < length es
  full-inside es i s v e = grind (arith, get_or_past)

  filled-cons : (e : Entry S V) (es : List (Entry S V)) → filled (e ∷ es) ≡ cond (is_some e) 1 0 + filled es
  filled-cons e es = sum_by-cons (λ e. cond (is_some e) 1 0) e es

  pub filled-all : (es : List (Entry S V)) → ((i : ℕ) → i < length es → is_some (at es i) ≡ true) → filled es ≡ length es
  filled-all [] h = refl
  filled-all (None ∷ es) h = absurd (true≢false (sym (h 0 (omega arith))))
  filled-all (Some e ∷ es) h = let ih = filled-all es (λ i l. h (suc i) (omega arith)) in omega (arith, filled-cons (Some e) es)

  pub filled-gap : (es : List (Entry S V)) (i : ℕ) → i < length es → at es i ≡ None → filled es < length es
  filled-gap [] i l e = absurd (omega arith)
  filled-gap (None ∷ es) i l e = omega (arith, filled-cons None es, count_by-le-length is_some es)
  filled-gap (Some f ∷ es) zero l e = cc
  filled-gap (Some f ∷ es) (suc i) l e = let ih = filled-gap es i (omega arith) e in omega (arith, filled-cons (Some f) es)

  pub filled-set : (es : List (Entry S V)) (i : ℕ) (s : S) (v : V) → i < length es → at es i ≡ None → filled (set es i (Some (s, v))) ≡ filled es + 1
  filled-set es i s v l e =
      let one : Entry S V → ℕ = λ e. cond (is_some e) 1 0 in
      omega (arith, sum_by-set one es i (Some (s, v)) None l, ap one e)

  -- every slot is empty
  abbrev pub Blank : List (Entry S V) → Type 0
  Blank es = (i : ℕ) → at es i ≡ None

  none-replicate : (n i : ℕ) → at {S = S} {V = V} (replicate n None) i ≡ None
  none-replicate zero i = refl
  none-replicate (suc n) zero = refl
  none-replicate (suc n) (suc i) = none-replicate n i

  pub Blank-replicate : (n : ℕ) (es : List (Entry S V)) → es ≡ replicate n None → Blank es
  Blank-replicate n es e i = ap (λ (fs : List (Entry S V)). at fs i) e ∙ none-replicate n i

  -- no slot has a key that stands for q
  abbrev pub Absent : {Q : Type 0} → (S → Q) → List (Entry S V) → Q → Type 0
  Absent sense es q = (i : ℕ) (s : S) (v : V) → at es i ≡ Some (s, v) → sense s ≡ q → ⊥

  module _ {Q : Type 0} (alike : Q → Q → Bool) (tells : (a b : Q) → Decides (alike a b) (a ≡ b)) (sense : S → Q) where
    pub held_none : (es : List (Entry S V)) (q : Q) → Absent sense es q → held alike sense es q ≡ None
    held_none [] q h = refl
    held_none (None ∷ es) q h = held_none es q (λ i. h (suc i))
    held_none (Some (s, v) ∷ es) q h =
        let ih = held_none es q (λ i. h (suc i)) in
        let no = not_alike alike tells q (sense s) (λ e. h 0 s v refl (sym e)) in
        grind arith

    pub held-some : (es : List (Entry S V)) (i : ℕ) (s : S) (v : V) (q : Q) → at es i ≡ Some (s, v) → sense s ≡ q → ((j : ℕ) (t : S) (w : V) → at es j ≡ Some (t, w) → sense t ≡ q → j ≡ i) → held alike sense es q ≡ Some v
    held-some [] i s v q e m only = cc
    held-some (None ∷ es) zero s v q e m only = cc
    held-some (Some (t, w) ∷ es) zero s v q e m only =
        let same = some_pair_parts t s w v e in
        grind (arith, tells q (sense t))
    held-some (None ∷ es) (suc i) s v q e m only = held-some es i s v q e m (λ j t w f n. let o = only (suc j) t w f n in omega arith)
    held-some (Some (t, w) ∷ es) (suc i) s v q e m only =
        let ih = held-some es i s v q e m (λ j t w f n. let o = only (suc j) t w f n in omega arith) in
        let no = not_alike alike tells q (sense t) (λ n. let o = only 0 t w refl (sym n) in omega arith) in
        grind arith

    -- a key that was not there is added, and nothing else changes
    pub held-set : (es : List (Entry S V)) (i : ℕ) (s : S) (v : V) (p : Q) → i < length es → at es i ≡ None → Absent sense es (sense s) → held alike sense (set es i (Some (s, v))) p ≡ cond (alike p (sense s)) (Some v) (held alike sense es p)
    held-set [] i s v p l e h = absurd (omega arith)
    held-set (None ∷ es) zero s v p l e h = refl
    held-set (Some (t, w) ∷ es) zero s v p l e h = absurd (full-not-empty (Some (t, w)) t w refl e)
    held-set (None ∷ es) (suc i) s v p l e h = held-set es i s v p (omega arith) e (λ j. h (suc j))
    held-set (Some (t, w) ∷ es) (suc i) s v p l e h =
        let ih = held-set es i s v p (omega arith) e (λ j. h (suc j)) in
        let other : sense t ≡ sense s → ⊥ = h 0 t w refl in
        grind (arith, tells p (sense t), tells p (sense s))

    -- where two readings of the stored keys agree on those that are there, the slots hold the same
    pub held-like : (sense' : S → Q) (es : List (Entry S V)) (q : Q) → ((i : ℕ) (s : S) (v : V) → at es i ≡ Some (s, v) → sense' s ≡ sense s) → held alike sense' es q ≡ held alike sense es q
    held-like sense' [] q h = refl
    held-like sense' (None ∷ es) q h = held-like sense' es q (λ i. h (suc i))
    held-like sense' (Some (s, v) ∷ es) q h =
        (λ k. cond (alike q (h 0 s v refl k)) (Some v) (held-like sense' es q (λ i. h (suc i)) k))

    pub blank-held : (es : List (Entry S V)) (q : Q) → Blank es → held alike sense es q ≡ None
    blank-held es q h = held_none es q (λ i s v e m. full-not-empty (at es i) s v e (h i))
