-- What a write keeps where a search stopped, and what a text that grows keeps. Assumes nothing.
use Rattle.std.proofs.Common.{◌≡◌, ℕ, ◌-◌, ◌<◌, ◌≤◌, Bool, true, cond, ◌⊎◌, List, ◌++◌, length, set, Some, Decides, sym, refl, ap, ◌∙◌, subst, inl, inr, ⊎_elim, mod-lt, arith, length-append, length-set, get_or-set_other, get_or-set_same, None, is_some}
use Rattle.std.proofs.lemmas.Option.{some_pair_parts}
use Rattle.std.proofs.lemmas.Bool.{cases_eq}
use Rattle.slots.specs.Slots.{Entry, held, home, way, distance, at, Other, Sound, Within, Kept, Free, Added, Steady}
use Rattle.slots.proofs.Search.{other-full, absent-gap}
use Rattle.slots.proofs.Around.{distance-around}
use Rattle.slots.proofs.Held.{Absent, Blank, full-not-empty, filled-set, held-set, held-like, alike_flipped}

module _ {S V : Type 0} where
  -- a write of a full slot leaves the full ones full
  full-set : (es : List (Entry S V)) (i j : ℕ) (s : S) (v : V) → i < length es → is_some (at es j) ≡ true → is_some (at (set es i (Some (s, v))) j) ≡ true
  full-set es i j s v l f = grind (arith, get_or-set_same, get_or-set_other, cases_eq j i)

module _ {S V Q : Type 0} where
  module _ (sense : S → Q) (digest : Q → ℕ) (es : List (Entry S V)) (i : ℕ) (s : S) (v : V) where
    abbrev after : List (Entry S V)
    after = set es i (Some (s, v))

    -- what a slot has after the write: the new key at i, or what it had
    was : i < length es → (j : ℕ) (t : S) (w : V) → at after j ≡ Some (t, w) → ((j ≡ i) × (t ≡ s)) ⊎ ((j ≡ i → ⊥) × (at es j ≡ Some (t, w)))
    was l j t w e =
        ⊎_elim
        (λ same.
        inl (same, sym (some_pair_parts s t v w (sym (get_or-set_same es i (Some (s, v)) None l) ∙ ap (at after) (sym same) ∙ e)).0))
        (λ ne. inr (ne, sym (get_or-set_other es i j (Some (s, v)) None ne) ∙ e))
        (cases_eq j i)

    free-absent : Sound sense digest es → Free sense digest es (sense s) i → Absent sense es (sense s)
    free-absent sound free =
        let e = free.0.1 in
        absent-gap sense digest es (sense s) (free.0.0 - 1) sound e.passed (ap (at es) (sym e.last) ∙ free.1)

    sound-set : Sound sense digest es → Free sense digest es (sense s) i → Sound sense digest after
    sound-set sound free =
        let e = free.0.1 in
        let looked = free.0.0 in
        let n = length es in
        let q = sense s in
        let none = free-absent sound free in
        let long : length es ≡ length after = sym (length-set es i (Some (s, v))) in
        let reached : (j : ℕ) (t : S) (w : V) → at after j ≡ Some (t, w) → (k : ℕ) → k < distance n (home digest n (sense t)) j → is_some (at after (way digest n (sense t) k)) ≡ true =
        λ j t w f k less. full-set es i (way digest n (sense t) k) s v e.inside (⊎_elim
        (λ (p : (j ≡ i) × (t ≡ s)).
        let far : distance n (home digest n q) i ≡ looked - 1 =
        ap (distance n (home digest n q)) e.last ∙ distance-around n (home digest n q) (looked - 1) (mod-lt (digest q) (omega (arith, e.inside))) (omega (arith, e.some, e.most)) in
        let step : k < distance n (home digest n q) i = subst (λ (m : ℕ). k < distance n (home digest n q) m) p.0 (subst (λ (u : S). k < distance n (home digest n (sense u)) j) p.1 less) in
        subst (λ (u : S). is_some (at es (way digest n (sense u) k)) ≡ true) (sym p.1) (other-full sense q _ (e.passed k (omega (arith, far, step)))))
        (λ p. sound.reached j t w p.1 k less)
        (was e.inside j t w f)) in
        record {
          apart = λ a b t u x y f g m.
              ⊎_elim
              (λ p. ⊎_elim
              (λ r. p.0 ∙ sym r.0)
              (λ r. absurd (none b u y r.1 (sym m ∙ ap sense p.1)))
              (was e.inside b u y g))
              (λ p. ⊎_elim
              (λ r. absurd (none a t x p.1 (m ∙ ap sense r.1)))
              (λ r. sound.apart a b t u x y p.1 r.1 m)
              (was e.inside b u y g))
              (was e.inside a t x f);
          reached = subst (λ (m : ℕ). (j : ℕ) (t : S) (w : V) → at after j ≡ Some (t, w) → (k : ℕ) → k < distance m (home digest m (sense t)) j → is_some (at after (way digest m (sense t) k)) ≡ true) long reached;
        }

    pub added : (alike : Q → Q → Bool) (tells : (a b : Q) → Decides (alike a b) (a ≡ b)) → (q : Q) → sense s ≡ q → Sound sense digest es → Free sense digest es q i → Added alike sense digest es q v after
    added alike tells q m sound free =
        let there = subst (λ (p : Q). Free sense digest es p i) (sym m) free in
        subst (λ (p : Q). Added alike sense digest es p v after) m (record {
          sound = sound-set sound there;
          holds = λ p. held-set alike tells sense es i s v p free.0.1.inside free.1 (free-absent sound there) ∙ ap (λ same. cond same (Some v) (held alike sense es p)) (alike_flipped alike tells p (sense s));
          count = filled-set es i s v free.0.1.inside free.1;
          size = length-set es i (Some (s, v));
        })

    pub within-set : (extent : S → ℕ) (n : ℕ) → i < length es → extent s ≤ n → Within extent n es → Within extent n after
    within-set extent n l fits h j t w f = ⊎_elim (λ p. subst (λ (u : S). extent u ≤ n) (sym p.1) fits) (λ p. h j t w p.1) (was l j t w f)

  -- where two readings of the stored keys agree on those that are there
  module _ (sense sense' : S → Q) (digest : Q → ℕ) (es : List (Entry S V)) (like : (i : ℕ) (s : S) (v : V) → at es i ≡ Some (s, v) → sense' s ≡ sense s) where
    sound-like : Sound sense digest es → Sound sense' digest es
    sound-like sound =
        record {
          apart = λ i j s t v w e f m. sound.apart i j s t v w e f (sym (like i s v e) ∙ m ∙ like j t w f);
          reached = λ i s v e. subst (λ (l : Q). (k : ℕ) → k < distance (length es) (home digest (length es) l) i → is_some (at es (way digest (length es) l k)) ≡ true) (sym (like i s v e)) (sound.reached i s v e);
        }

    other-like : (q : Q) (i : ℕ) → Other sense q (at es i) → Other sense' q (at es i)
    other-like q i = go (at es i) refl
      where
        go : (e : Entry S V) → at es i ≡ e → Other sense q e → Other sense' q e
        go None is h = h
        go (Some (s, v)) is h = λ m. h (sym (like i s v is) ∙ m)

    free-like : (q : Q) (i : ℕ) → Free sense digest es q i → Free sense' digest es q i
    free-like q i free =
        let e = free.0.1 in
        ((free.0.0, record { some = e.some; most = e.most; last = e.last; inside = e.inside; passed = λ j l. other-like q (way digest (length es) q j) (e.passed j l) }), free.1)

  pub steady : (alike : Q → Q → Bool) (tells : (a b : Q) → Decides (alike a b) (a ≡ b)) → (stands : List ℕ → S → Q) (digest : Q → ℕ) (extent : S → ℕ) (text more : List ℕ) (es : List (Entry S V)) → ((s : S) → extent s ≤ length text → stands (text ++ more) s ≡ stands text s) → Within extent (length text) es → Steady alike stands digest extent text more es
  steady alike tells stands digest extent text more es grows within =
      let like : (i : ℕ) (s : S) (v : V) → at es i ≡ Some (s, v) → stands (text ++ more) s ≡ stands text s = λ i s v e. grows s (within i s v e) in
      record {
        sound = sound-like (stands text) (stands (text ++ more)) digest es like;
        within = λ i s v e. omega (arith, length-append text more, within i s v e);
        holds = λ q. held-like alike tells (stands text) (stands (text ++ more)) es q like;
        free = free-like (stands text) (stands (text ++ more)) digest es like;
      }

  pub blank-kept : (stands : List ℕ → S → Q) (digest : Q → ℕ) (extent : S → ℕ) (text : List ℕ) (es : List (Entry S V)) → Blank es → Kept stands digest extent text es
  blank-kept stands digest extent text es h =
      record {
        sound = record {
          apart = λ i j s t v w e f m. absurd (full-not-empty (at es i) s v e (h i));
          reached = λ i s v e k l. absurd (full-not-empty (at es i) s v e (h i));
        };
        within = λ i s v e. absurd (full-not-empty (at es i) s v e (h i));
      }
