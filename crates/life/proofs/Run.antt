-- Lives of computed calls are lives.
-- Assumes nothing.
use Rattle.std.proofs.Common.{◌≡◌, ℕ, zero, suc, ◌-◌, ◌≤◌, Bool, true, false, ◌⊎◌, List, [], ◌∷◌, length, Some, None, Option, sym, refl, ap, ◌∙◌, subst, inl, inr, ⊎_elim, arith}
use Rattle.std.specs.Option.{option_or}
use Rattle.catalog.specs.Catalog.{Catalog, Laws, spent}
use Rattle.catalog.specs.Shape.{Name}
use Rattle.keys.specs.Senses.{Pair}
use Rattle.unfolding.specs.Unfolding.{node}
use Rattle.life.specs.Bind.{column_questions, types_book, columns_book, column_round, types_settled, bind_settled, bind_outcome}
use Rattle.life.specs.Calls.{Declared, Binding, Call, fill, resolve, bind, describe, requests}
use Rattle.life.specs.Fill.{quiet_settled, quiet_outcome}
use Rattle.life.specs.Keep.{pretty_in, kept, call_event}
use Rattle.life.specs.Life.{Lived, Agrees}
use Rattle.life.specs.Lists.{first_place}
use Rattle.life.specs.Outcomes.{Outcome, fitted, if_fits, concluded, closing, unresolved, TypeRounds}
use Rattle.life.specs.Resolve.{offends, lacks, resolve_left, resolve_settled}
use Rattle.life.specs.RoundOne.{asked_oid, for_arrays_alone, refusable, round_one, resolve_walk}
use Rattle.life.specs.Rounds.{Descriptors, Stands, LastRound}
use Rattle.life.specs.Run.{TurnedAway, perform, Done, Performed, CountedRun, RoundsLaw, PerformLaw, RunLaw}
use Rattle.life.specs.Settle.{settled}
use Rattle.life.specs.Steps.{Book, Ending, accepted, refused, rounds_told, accepts, keeps_finds, Event, NamesStand, LastOfCall, Step}
use Rattle.life.specs.Stops.{standing, StopsAt, Offence}
use Rattle.life.specs.Walk.{malformed, Walked, ended, stopped, walk_from}
use Rattle.life.proofs.Bind.{bind_step}
use Rattle.life.proofs.Fill.{quiet_step}
use Rattle.life.proofs.First.{Stop, Come, resolve_come}
use Rattle.life.proofs.Keep.{pretty_some, keeping_step, leaving_step}
use Rattle.life.proofs.Life.{fit, agrees, lifetime_law}
use Rattle.life.proofs.Lists.{not_both, not_some_none, split_option}
use Rattle.life.proofs.Resolve.{resolve_step}
use Rattle.life.proofs.Tells.{or_first, or_next}
use Rattle.life.proofs.Walk.{Result, ended_counts, walk_result}

-- nothing stands where nothing is requested
nothing_stands : (c : Catalog) (b : Descriptors) (k o : ℕ) → Stands c b [] k o → ⊥
nothing_stands c b zero o h = h
nothing_stands c b (suc zero) o h = h.0
nothing_stands c b (suc (suc k)) o h = nothing_stands c b (suc k) h.0.0 h.0.1

nothing_last : (c : Catalog) (b : Book) (o : ℕ) → LastOfCall c b (describe o) 0
nothing_last c b o = (λ k x. ⊎_elim (λ y. absurd y.1) (λ y. absurd (nothing_stands c b.descriptors k y.0 y.1)) x, inl refl)

-- the numbers of a refusal within the type rounds
abbrev Early : ℕ → Type 0
Early n = (n ≡ 4) ⊎ ((n ≡ 5) ⊎ ((n ≡ 6) ⊎ (n ≡ 7)))

not_late : (n : ℕ) → Early n → (n ≡ 8) ⊎ ((n ≡ 9) ⊎ (n ≡ 10)) → ⊥
not_late n x y = omega arith

at_row_early : {Q : Type 0} (oid : Q → ℕ) (bad : Q → Bool) (left : ℕ) (qs : List Q) (n p : ℕ) → StopsAt oid bad left qs n p → Early n
at_row_early oid bad left qs n p s = ⊎_elim (λ y. inr (inr (inr y.0))) (λ y. inr (inr (inl y.0))) s.why

offence_early : (c : Catalog) (b : Descriptors) (rs : List ℕ) (extra n p r : ℕ) → Offence c b rs extra n p r → Early n
offence_early c b rs extra n p r =
    ⊎_elim (λ x. inl x.0) (⊎_elim (λ x. inr (inl x.0)) (λ x. at_row_early (λ q. q) (malformed c) x.1 (standing c b rs x.0) n p x.6))

fitted_tells : (f : Option ℕ) (fine : Outcome) (b : Book) (n k : ℕ) → (TypeRounds fine.ending k → n ≡ k) → TypeRounds (if_fits f fine b n).ending k → n ≡ k
fitted_tells None fine b n k g t = g t
fitted_tells (Some at) fine b n k g t = t.1

closing_rounds : (n : ℕ) (x y : Option ℕ) (k : ℕ) → TypeRounds (closing n x y) k → n ≡ k
closing_rounds n None None k t = t
closing_rounds n None (Some i) k t = t.1
closing_rounds n (Some i) y k t = t.1

module _ (full full_columns : Book → Option ℕ) (c : Catalog) (b : Book) (k : ℕ) where
  -- where the outcome after the walk tells its rounds
  walk_rounds : (rs : List ℕ) (next : ℕ → List ℕ → Outcome) → ((n : ℕ) (reads : List ℕ) → n ≤ c.allowance → TypeRounds (next n reads).ending k → n ≡ k) →
      (w : Walked) → Result c b.descriptors rs ⊥ 0 w → TypeRounds (concluded b next w).ending k → LastRound c b.descriptors rs ⊥ k
  walk_rounds rs next tell (ended n reads) r t = subst (LastRound c b.descriptors rs ⊥) (tell n reads r.2 t) (ended_counts c b.descriptors rs ⊥ 0 n reads r.0)
  walk_rounds rs next tell (stopped n p m) r t = absurd (not_late n (offence_early c b.descriptors rs 0 n p m r.0) t.0)

  fill_rounds : (rs : List ℕ) → TypeRounds (quiet_outcome full c b (fill rs)).ending k → LastRound c b.descriptors rs ⊥ k
  fill_rounds rs =
      walk_rounds rs (quiet_settled full c b (fill rs))
      (λ n reads _.
      let x : Option ℕ = first_place (unresolved c (settled c b.descriptors reads)) 0 rs in
      let left : Book = kept c (fill rs) reads b (accepts (closing n x None)) in
      fitted_tells (full left) (record { ending = closing n x None; left = left }) b n k (closing_rounds n x None k))
      (walk_from c b.descriptors rs) (walk_result c b.descriptors rs)

  resolve_rounds : (agree : Agrees c b) (ds : List Declared) (w : Walked) → Come c b agree ds w →
      TypeRounds (concluded b (resolve_settled full c b ds) w).ending k → LastOfCall c b (resolve ds) k
  resolve_rounds agree ds (ended n reads) g t =
      let x : Option ℕ = first_place (offends c b (settled c b.descriptors reads)) 0 ds in
      let y : Option ℕ = first_place (lacks c b (settled c b.descriptors reads)) 0 ds in
      let left : Book = resolve_left full c b ds reads in
      subst (LastOfCall c b (resolve ds)) (fitted_tells (full left) (record { ending = closing n x y; left = left }) b n k (closing_rounds n x y k) t)
      (ended_counts c b.descriptors (requests c (resolve ds)) (NamesStand c b (resolve ds)) (length (for_arrays_alone (round_one c b ds))) n reads g.0.0)
  resolve_rounds agree ds (stopped n p m) g t = absurd (not_late n (stop_early g.0) t.0)
    where
      stop_early : Stop c b agree ds n p m → Early n
      stop_early =
          ⊎_elim
          (⊎_elim (λ x. inr (inl x.0)) (λ x. at_row_early asked_oid (refusable c) 256 (round_one c b ds) n p x.1))
          (offence_early c b.descriptors (requests c (resolve ds)) (length (for_arrays_alone (round_one c b ds))) n p m)

  module _ (q : Binding) where
    round_tells : (n : ℕ) (reads : List ℕ) (left : ℕ) (ps : List Pair) → TypeRounds (column_round full full_columns c b q n reads left ps).ending k → n ≡ k
    round_tells n reads left [] t = t
    round_tells n reads zero (p ∷ ps) t = ⊎_elim (λ x. x.1) (λ x. absurd (omega (arith, x.0))) t
    round_tells n reads (suc left) (p ∷ ps) t = go (full_columns (columns_book full full_columns c b q reads (p ∷ ps))) t
      where
        go : (f : Option ℕ) →
            TypeRounds
            (fitted f (record { ending = accepted n 1; left = columns_book full full_columns c b q reads (p ∷ ps) })
            (λ table. record { ending = refused 8 table true (suc n); left = types_book full full_columns c b q reads })).ending
            k →
            n ≡ k
        go None t = t
        go (Some at) t = ⊎_elim (λ x. absurd (omega (arith, x.0))) (λ x. omega (arith, x.1)) t

    types_tells : (n : ℕ) (reads : List ℕ) (x : Option ℕ) → TypeRounds (types_settled full full_columns c b q n reads x).ending k → n ≡ k
    types_tells n reads None t = round_tells n reads (c.allowance - n) (column_questions b q) t
    types_tells n reads (Some place) t = t.1

    bind_rounds : TypeRounds (bind_outcome full full_columns c b q).ending k → LastRound c b.descriptors (requests c (bind q)) ⊥ k
    bind_rounds =
        walk_rounds (requests c (bind q)) (bind_settled full full_columns c b q)
        (λ n reads _.
        let x : Option ℕ = first_place (unresolved c (settled c b.descriptors reads)) 0 (requests c (bind q)) in
        fitted_tells (full (types_book full full_columns c b q reads)) (types_settled full full_columns c b q n reads x) b n k (types_tells n reads x))
        (walk_from c b.descriptors (requests c (bind q))) (walk_result c b.descriptors (requests c (bind q)))

pub rounds_law : RoundsLaw
rounds_law full full_columns h c b (fill rs) l k t = fill_rounds full full_columns c b k rs t
rounds_law full full_columns h c b (resolve ds) l k t =
    resolve_rounds full full_columns c b k (agrees h c b l) ds (resolve_walk c b ds) (resolve_come c b (agrees h c b l) ds) t
rounds_law full full_columns h c b (bind q) l k t = bind_rounds full full_columns c b k q t
rounds_law full full_columns h c b (describe o) l k t = subst (LastOfCall c b (describe o)) t (nothing_last c b o)

pub away_silent : (e : Ending) (k : ℕ) → TurnedAway e → TypeRounds e k → ⊥
away_silent (accepted n m) k x t = x
away_silent (refused n p false r) k x t = omega (arith, x.0, t.0)
away_silent (refused n p true r) k x t = absurd (not_both refl x.1)

-- Describe keeps what the book holds already
same_book : (h : List Event) (c : Catalog) (b : Book) (o : ℕ) → Lived h c b → kept c (describe o) [] b true ≡ b
same_book h c b o l = λ i. record {
  descriptors = b.descriptors;
  names = λ n. same_name n i;
  arrays = λ e. or_nothing (b.arrays e) i;
  columns = λ r a. or_nothing (b.columns r a) i;
}
  where
    or_nothing : {A : Type 0} (x : Option A) → option_or x None ≡ x
    or_nothing None = refl
    or_nothing (Some v) = refl

    same_name : (n : Name) → option_or (b.names n) (option_or (pretty_in b.descriptors n (c.named n)) None) ≡ b.names n
    same_name n =
        ⊎_elim
        (λ z.
        or_next (b.names n) _ z
        ∙ or_nothing (pretty_in b.descriptors n (c.named n))
        ∙ ⊎_elim
        (λ y. y ∙ sym z)
        (λ y.
        let p = pretty_some b.descriptors n (c.named n) y.0 y.1 in
        let u = (fit h c b l).sound.right y.0 (node p.1 n p.2 p.3) p.4 in
        absurd (not_some_none y.0 ((fit h c b l).pretty_held n y.0 (p.2, p.3, p.4 ∙ ap (λ v. Some (node v n p.2 p.3)) (sym u.3))) z))
        (split_option (pretty_in b.descriptors n (c.named n))))
        (λ z. or_first (b.names n) _ z.0 z.1 ∙ sym z.1)
        (split_option (b.names n))

describe_step : (h : List Event) (c : Catalog) (b : Book) (o : ℕ) → Laws c → Lived h c b → Step (call_event c (describe o) (accepted 0 0)) b b
describe_step h c b o laws l =
    subst (λ (k : Book). Step (call_event c (describe o) (accepted 0 0)) b k) (same_book h c b o l)
    (keeping_step h c b (describe o) (accepted 0 0) [] 0 laws l
    (λ p. (λ m. absurd m, λ x. absurd (nothing_stands c b.descriptors x.0 p x.1))) (nothing_last c b o) refl (λ k t. t) (omega arith))

module _ (full full_columns : Book → Option ℕ) where
  perform_step : (h : List Event) (c : Catalog) (b : Book) (call : Call) → Laws c → Lived h c b →
      Step (call_event c call (perform full full_columns c b call).ending) b (perform full full_columns c b call).left
  perform_step h c b (fill rs) laws l = quiet_step full h c b (fill rs) laws l (λ x. x)
  perform_step h c b (resolve ds) laws l = resolve_step full h c b ds laws l
  perform_step h c b (bind q) laws l = bind_step full full_columns c b q h laws l
  perform_step h c b (describe o) laws l = describe_step h c b o laws l

  away_keeps : (e : Ending) → TurnedAway e → (keeps_finds e ≡ false) × (rounds_told e ≡ 0)
  away_keeps (accepted n m) x = absurd x
  away_keeps (refused n p col r) x = (
    ⊎_elim
        (λ y. (λ i. keeps_finds (refused (y i) p (x.1 i) r)))
        (⊎_elim (λ y. (λ i. keeps_finds (refused (y i) p (x.1 i) r))) (λ y. (λ i. keeps_finds (refused (y i) p (x.1 i) r))))
        x.0,
    x.2,
  )

  event_is : (e : Event) (g : Ending) → e.ending ≡ g → e.after ≡ spent e.before (e.before.allowance - rounds_told e.ending) → call_event e.before e.call g ≡ e
  event_is e g y a =
      sym (λ i. record { before = e.before; after = (a ∙ ap (λ v. spent e.before (e.before.allowance - rounds_told v)) y) i; call = e.call; ending = y i })

  pub done_step : (h : List Event) (e : Event) (b after : Book) → Lived h e.before b → Done full full_columns e b after → Step e b after
  done_step h e b after l d =
      ⊎_elim
      (λ x.
      let o : Outcome = perform full full_columns e.before b e.call in
      subst (λ (v : Event). Step v b after) (event_is e o.ending x.0 d.after)
      (subst (λ (k : Book). Step (call_event e.before e.call o.ending) b k) (sym x.1) (perform_step h e.before b e.call d.laws l)))
      (λ x.
      let a = away_keeps e.ending x.0 in
      subst (λ (v : Event). Step v b after) (event_is e e.ending refl d.after)
      (subst (λ (k : Book). Step (call_event e.before e.call e.ending) b k) (sym x.1) (leaving_step e.before b e.call e.ending d.laws a.0 (omega (arith, a.1)))))
      d.what

  lived : (h : List Event) (c : Catalog) (b : Book) → Performed full full_columns h c b → Lived h c b
  lived [] c b p = p
  lived (e ∷ h) c b p = let l = lived h e.before p.0 p.1 in (p.0, l, done_step h e p.0 b l p.2, p.3)

  counted_run : (h : List Event) (c : Catalog) (b : Book) (p : Performed full full_columns h c b) → CountedRun full full_columns h c b p
  counted_run [] c b p = tt
  counted_run (e ∷ h) c b p =
      let s = done_step h e p.0 b (lived h e.before p.0 p.1) p.2 in (
        λ k t.
            ⊎_elim
            (λ x. rounds_law full full_columns h e.before p.0 e.call (lived h e.before p.0 p.1) k (subst (λ g. TypeRounds g k) x.0 t))
            (λ x. absurd (away_silent e.ending k x.0 t))
            p.2.what,
        s.lowers,
        counted_run h e.before p.0 p.1,
      )

pub perform_law : PerformLaw
perform_law full full_columns h c b p = lived full full_columns h c b p

pub run_law : RunLaw
run_law full full_columns h c b p = ((lifetime_law h c b (lived full full_columns h c b p)).0, counted_run full full_columns h c b p)
