-- What a search tells where it stops. Assumes nothing.
use Rattle.std.proofs.Common.{◌≡◌, ℕ, zero, suc, ◌+◌, ◌-◌, ◌<◌, Bool, true, false, List, length, get_or, Some, None, is_some, Decides, sym, refl, ap, ◌∙◌, subst, ⊎_elim, mod-lt, add-zero, zero-add, arith, below_more}
use Rattle.std.proofs.lemmas.Bool.{cases_order, true≢false}
use Rattle.std.proofs.lemmas.List.{get_or_default}
use Rattle.slots.specs.declared.map.Stop.{Stop}
use Rattle.slots.specs.declared.map.Stop.TheVariants.{Hit, Gap, Crowded}
use Rattle.slots.specs.Slots.{Entry, home, way, distance, at, stops_at, looks_from, looks, Other, Sound, Passed, Ends, Told}
use Rattle.slots.proofs.Around.{around-below, distance-below, around-distance}
use Rattle.slots.proofs.Held.{Absent, full-not-empty, full-inside, filled-all, filled-gap, held_none, held-some, not_alike}

module _ {S V Q : Type 0} where
  pub other-full : (sense : S → Q) (q : Q) (e : Entry S V) → Other sense q e → is_some e ≡ true
  other-full sense q None h = absurd h
  other-full sense q (Some (s, v)) h = refl

  other-not : (sense : S → Q) (q : Q) (e : Entry S V) (s : S) (v : V) → e ≡ Some (s, v) → Other sense q e → sense s ≡ q → ⊥
  other-not sense q e s v is h = subst (Other sense q) is h

  module _ (sense : S → Q) (digest : Q → ℕ) (es : List (Entry S V)) (q : Q) where
    -- a key that means q is met at its distance from the home
    met : (i : ℕ) (s : S) (v : V) → at es i ≡ Some (s, v) → sense s ≡ q → way digest (length es) q (distance (length es) (home digest (length es) q) i) ≡ i
    met i s v e m =
        let inside = full-inside es i s v e in
        around-distance (length es) _ i (mod-lt (digest q) (omega arith)) inside

    passed-not : (k i : ℕ) (s : S) (v : V) → Passed sense digest es q k → at es i ≡ Some (s, v) → sense s ≡ q → distance (length es) (home digest (length es) q) i < k → ⊥
    passed-not k i s v p e m l = other-not sense q _ s v (ap (at es) (met i s v e m) ∙ e) (p _ l) m

    pub absent-all : Passed sense digest es q (length es) → Absent sense es q
    absent-all p i s v e m =
        let inside = full-inside es i s v e in
        passed-not (length es) i s v p e m (distance-below (length es) _ i (mod-lt (digest q) (omega arith)))

    pub absent-gap : (k : ℕ) → Sound sense digest es → Passed sense digest es q k → at es (way digest (length es) q k) ≡ None → Absent sense es q
    absent-gap k sound p gap i s v e m =
        ⊎_elim
        (λ same. full-not-empty (at es i) s v e (ap (at es) (sym (met i s v e m) ∙ ap (way digest (length es) q) same) ∙ gap))
        (⊎_elim
        (λ less. passed-not k i s v p e m less)
        (λ more.
        let full : is_some (at es (way digest (length es) q k)) ≡ true =
        subst (λ (l : Q). k < distance (length es) (home digest (length es) l) i → is_some (at es (way digest (length es) l k)) ≡ true) m (sound.reached i s v e k) more in
        true≢false (sym full ∙ ap is_some gap)))
        (cases_order (distance (length es) (home digest (length es) q) i) k)

    ends : (k i : ℕ) → k < length es → i ≡ way digest (length es) q k → Passed sense digest es q k → Ends sense digest es q (k + 1) i
    ends k i l e p =
        let back : k ≡ k + 1 - 1 = omega arith in
        record {
          some = omega arith;
          most = omega arith;
          last = e ∙ ap (way digest (length es) q) back;
          inside = subst (λ (n : ℕ). n < length es) (sym e) (around-below (length es) _ k (mod-lt (digest q) (omega arith)));
          passed = subst (Passed sense digest es q) back p;
        }

  module _ (alike : Q → Q → Bool) (tells : (a b : Q) → Decides (alike a b) (a ≡ b)) (sense : S → Q) (digest : Q → ℕ) (es : List (Entry S V)) (q : Q) where
    abbrev slot : ℕ → Entry S V
    slot k = at es (way digest (length es) q k)

    goes_on : (e : Entry S V) → Other sense q e → stops_at alike sense q e ≡ false
    goes_on None h = absurd h
    goes_on (Some (s, v)) h = not_alike alike tells q (sense s) (λ e. h (sym e))

    abbrev from : ℕ → ℕ → ℕ
    from = looks_from alike sense digest es q

    -- slots that a search passes are looked at one by one
    looks_on : (k j m : ℕ) → ((i : ℕ) → i < k → stops_at alike sense q (slot (j + i)) ≡ false) → from j (k + m) ≡ k + from (j + k) m
    looks_on zero j m pass = simp (zero-add, add-zero)
    looks_on (suc k) j m pass =
        let here : stops_at alike sense q (slot j) ≡ false = rw add-zero at (pass 0 (omega arith)) in
        let there : (i : ℕ) → i < k → stops_at alike sense q (slot (suc j + i)) ≡ false = λ i l. subst (λ (n : ℕ). stops_at alike sense q (slot n) ≡ false) (omega arith) (pass (suc i) (omega arith)) in
        let ih = looks_on k (suc j) m there in
        let split : suc k + m ≡ suc (k + m) = omega arith in
        let on : suc j + k ≡ j + suc k = omega arith in
        grind arith

    passes : (k : ℕ) → Passed sense digest es q k → (i : ℕ) → i < k → stops_at alike sense q (slot (0 + i)) ≡ false
    passes k passed i l = rw zero-add (goes_on (slot i) (passed i l))

    pub looks-at : (k : ℕ) → k < length es → Passed sense digest es q k → stops_at alike sense q (slot k) ≡ true → k + 1 ≡ looks alike sense digest es q
    looks-at k l passed stop =
        let m : ℕ = length es - suc k in
        let split : length es ≡ k + suc m = omega arith in
        let on = looks_on k 0 (suc m) (passes k passed) in
        let here : stops_at alike sense q (slot (0 + k)) ≡ true = rw zero-add stop in
        grind arith

    pub looks-all : Passed sense digest es q (length es) → length es ≡ looks alike sense digest es q
    looks-all passed =
        let on = looks_on (length es) 0 0 (passes (length es) passed) in
        let split : length es ≡ length es + 0 = omega arith in
        grind arith

    -- a search for q that comes to the slot i has met k slots, and each has another key
    pub record Reached (k i : ℕ) : Type 0 where
      pub near : k < length es
      pub place : i ≡ way digest (length es) q k
      pub inside : i < length es
      pub passed : Passed sense digest es q k

    -- what a search tells
    pub record Seeks (looked : ℕ) (stop : Stop V) : Type 0 where
      pub told : Told alike sense digest es q looked stop
      pub counted : looked ≡ looks alike sense digest es q

    module _ (k i : ℕ) (r : Reached k i) where
      -- the slot that a search comes to, as the code reads it
      pub comes_to : (d e : Entry S V) → get_or es i d ≡ e → at es i ≡ e
      comes_to d e is = get_or_default es i None d r.inside ∙ is

      on_way : (e : Entry S V) → at es i ≡ e → slot k ≡ e
      on_way e is = ap (at es) (sym r.place) ∙ is

      pub sought-gap : Sound sense digest es → (d : Entry S V) → get_or es i d ≡ None → Seeks (k + 1) (Gap i)
      sought-gap sound d read =
          let is = comes_to d None read in
          let last = ends sense digest es q k i r.near r.place r.passed in
          record {
            told = (last, is, filled-gap es i r.inside is, held_none alike tells sense es q (absent-gap sense digest es q k sound r.passed (on_way None is)));
            counted = looks-at k r.near r.passed (ap (stops_at alike sense q) (on_way None is));
          }

      module _ (s : S) (v : V) (d : Entry S V) (read : get_or es i d ≡ Some (s, v)) where
        is : at es i ≡ Some (s, v)
        is = comes_to d (Some (s, v)) read

        pub sought-hit : Sound sense digest es → sense s ≡ q → Seeks (k + 1) (Hit i v)
        sought-hit sound m =
            record {
              told = (ends sense digest es q k i r.near r.place r.passed, (s, is, m), held-some alike tells sense es i s v q is m (λ j t w f n. sound.apart j i t s w v f is (n ∙ sym m)));
              counted = looks-at k r.near r.passed (ap (stops_at alike sense q) (on_way (Some (s, v)) is) ∙ (tells q (sense s)).1 (sym m));
            }

        pub passes-on : (sense s ≡ q → ⊥) → Passed sense digest es q (k + 1)
        passes-on n = below_more _ k r.passed (subst (Other sense q) (sym (on_way (Some (s, v)) is)) n)

    pub sought-crowded : Passed sense digest es q (length es) → Seeks (length es) Crowded
    sought-crowded p =
        record {
          told = (
            refl,
            filled-all es (λ i l.
                let h = mod-lt (digest q) (omega (arith, l)) in
                subst (λ (j : ℕ). is_some (at es j) ≡ true) (around-distance (length es) _ i h l) (other-full sense q _ (p _ (distance-below (length es) _ i h)))),
            held_none alike tells sense es q (absent-all sense digest es q p),
          );
          counted = looks-all p;
        }
