-- What the questions of one round come to.
-- Assumes nothing.
use Rattle.std.proofs.Common.{◌≡◌, ℕ, zero, suc, ◌+◌, Bool, true, false, ◌⊎◌, List, [], ◌∷◌, length, sym, refl, ap, ◌∙◌, subst, inl, inr, ⊎_elim, arith}
use Rattle.std.proofs.lemmas.Bool.{cases_Bool}
use Rattle.catalog.specs.Catalog.{Each}
use Rattle.unfolding.specs.Lists.{Mem}
use Rattle.life.specs.Stops.{StopsAt}
use Rattle.life.specs.Walk.{Asked, all_read, stop, ask_each}
use Rattle.life.proofs.Lists.{chosen_true, chosen_false}

pub split_asked : (a : Asked) → ((l : ℕ) × (a ≡ all_read l)) ⊎ ((n p : ℕ) × (a ≡ stop n p))
split_asked (all_read l) = inl (l, refl)
split_asked (stop n p) = inr (n, p, refl)

pub each_mem : {A : Type 0} (P : A → Type 0) (xs : List A) → Each P xs → (x : A) → Mem x xs → P x
each_mem P [] e x m = absurd m
each_mem P (y ∷ xs) e x (inl q) = subst P (sym q) e.0
each_mem P (y ∷ xs) e x (inr m) = each_mem P xs e.1 x m

module _ {Q : Type 0} (oid : Q → ℕ) (bad : Q → Bool) where
  asked_bad : (left : ℕ) (q : Q) (qs : List Q) → bad q ≡ true → ask_each oid bad (suc left) (q ∷ qs) ≡ stop 6 (oid q)
  asked_bad left q qs = chosen_true (bad q) _ _

  asked_good : (left : ℕ) (q : Q) (qs : List Q) → bad q ≡ false → ask_each oid bad (suc left) (q ∷ qs) ≡ ask_each oid bad left qs
  asked_good left q qs = chosen_false (bad q) _ _

  -- a round that stops does so at its first offence
  pub ask_stops : (left : ℕ) (qs : List Q) (n p : ℕ) → ask_each oid bad left qs ≡ stop n p → StopsAt oid bad left qs n p
  ask_stops left [] n p e = absurd cc
  ask_stops zero (q ∷ qs) n p e =
      let m : 7 ≡ n = cc in
      let at : oid q ≡ p = cc in
      record { before = []; asked = q; behind = qs; here = refl; place = sym at; good = tt; why = inl (sym m, refl) }
  ask_stops (suc left) (q ∷ qs) n p e =
      ⊎_elim
      (λ t.
      let f : stop 6 (oid q) ≡ stop n p = sym (asked_bad left q qs t) ∙ e in
      let m : 6 ≡ n = cc in
      let at : oid q ≡ p = cc in
      record { before = []; asked = q; behind = qs; here = refl; place = sym at; good = tt; why = inr (sym m, omega arith, t) })
      (λ t.
      let r = ask_stops left qs n p (sym (asked_good left q qs t) ∙ e) in
      record {
        before = q ∷ r.before;
        asked = r.asked;
        behind = r.behind;
        here = ap (λ l. q ∷ l) r.here;
        place = r.place;
        good = (t, r.good);
        why = ⊎_elim (λ y. inl (y.0, omega (arith, y.1))) (λ y. inr (y.0, omega (arith, y.1), y.2)) r.why;
      })
      (cases_Bool (bad q))

  -- one that does not has asked for each of its rows, and none is refused
  pub ask_reads : (left : ℕ) (qs : List Q) (rest : ℕ) → ask_each oid bad left qs ≡ all_read rest → (rest + length qs ≡ left) × Each (λ q. bad q ≡ false) qs
  ask_reads left [] rest e = let z : left ≡ rest = cc in (omega arith, tt)
  ask_reads zero (q ∷ qs) rest e = absurd cc
  ask_reads (suc left) (q ∷ qs) rest e =
      ⊎_elim
      (λ t. let f : stop 6 (oid q) ≡ all_read rest = sym (asked_bad left q qs t) ∙ e in absurd cc)
      (λ t. let r = ask_reads left qs rest (sym (asked_good left q qs t) ∙ e) in (omega (arith, r.0), (t, r.1)))
      (cases_Bool (bad q))
