-- The walk, round by round.
-- Assumes nothing.
use Rattle.std.proofs.Common.{◌≡◌, ℕ, suc, ◌+◌, ◌-◌, ◌<◌, ◌≤◌, Bool, List, [], ◌++◌, length, map, take, drop, MatchResult, Ok, Err, Result, sym, refl, ap, ◌∙◌, subst, arith, length-append}
use Rattle.std.proofs.lemmas.List.{drop_all, drop_at, length-drop, length-map, map-append, take-append-drop, take_at}
use Rattle.catalog.specs.Catalog.{Catalog, Opened, Shut, Spent, spent}
use Rattle.catalog.specs.Meaning.{row_told}
use Rattle.catalog.specs.declared.faults.CatalogFault.TheVariants.{NoAllowance}
use Rattle.life.specs.Lists.{fresh}
use Rattle.life.specs.Rounds.{Descriptors}
use Rattle.life.specs.Walk.{answered, ask, links_of, ended, stopped, and_then, walk, walk_from}
use Rattle.finds.specs.declared.tables.Finds.{Finds}
use Rattle.finds.specs.Finds.{ReadFrom, queue_of, reads_of, rows_of}
use Rattle.faults.specs.declared.fill.FillFault.{FillFault}
use Rattle.faults.specs.declared.fill.FillFault.TheVariants.{Catalog as OfCatalog}
use Rattle.faults.specs.Faults.{refusal_of}
use Rattle.resolve.specs.Rounds.{Refused, RoundRead, RoundRefused, Turned, with_all}
use Rattle.resolve.specs.Walks.{left_of, waiting_of, walk_at}
use Rattle.resolve.proofs.Cut.{longer, with_behind}
use Rattle.resolve.proofs.InRound.{rows_queued}
use Rattle.resolve.proofs.Pushing.{few_queued}
use Rattle.resolve.proofs.Turns.{links_spent, turn, turn_4, turn_5, turn_none, walk_cut, walk_spent}

few_rows : (f : Finds) → length (rows_of f) ≤ 256
few_rows f = omega (arith, f.lent.rows_lent, length-map f.rows.items row_told)

waiting_long : (f : Finds) → length (waiting_of f) ≡ length (queue_of f) - length (rows_of f)
waiting_long f = length-drop (length (rows_of f)) (queue_of f)

-- a round that was read when some rounds were spent
read_unspent : (c d : Catalog) (k : ℕ) (skip : ℕ → Bool) (most : ℕ) (f g : Finds) → d ≡ spent c k → RoundRead d skip most f g → RoundRead c skip most f g
read_unspent c d k skip most f g same read =
    let r : RoundRead (spent c k) skip most f g = subst (λ x. RoundRead x skip most f g) same read in
    record {
      asked = r.asked;
      queue = r.queue ∙ ap (with_all skip (queue_of f)) (links_spent c k (waiting_of f));
      rows = r.rows;
    }

-- what a round leaves
module _ (c : Catalog) (skip : ℕ → Bool) (most : ℕ) (f g : Finds) (r : RoundRead c skip most f g) where
  abbrev later : List ℕ
  later = take (257 - length (queue_of f)) (fresh skip (queue_of f) (links_of c (waiting_of f)))

  queue_then : queue_of g ≡ queue_of f ++ later
  queue_then = r.queue ∙ with_behind skip (links_of c (waiting_of f)) (queue_of f) (few_queued f)

  all_read_then : length (queue_of f) ≡ length (rows_of g)
  all_read_then =
      omega (arith, rows_queued f, waiting_long f, ap length r.rows, length-append (rows_of f) (map c.rows (waiting_of f)), length-map (waiting_of f) c.rows)

  reads_then : queue_of f ≡ reads_of g
  reads_then =
      sym (ap (λ n. take n (queue_of g)) (sym all_read_then) ∙ ap (take (length (queue_of f))) queue_then ∙ take_at (queue_of f) later (length (queue_of f)) refl)

  waiting_then : later ≡ waiting_of g
  waiting_then =
      sym (ap (λ n. drop n (queue_of g)) (sym all_read_then) ∙ ap (drop (length (queue_of f))) queue_then ∙ drop_at (queue_of f) later (length (queue_of f)) refl)

module _ (c d : Catalog) (skip : ℕ → Bool) (most opened : ℕ) (f : Finds) (top : most ≤ 256) (few : opened < 64) (waits : length (rows_of f) < length (queue_of f)) where
  some_wait : 0 < length (waiting_of f)
  some_wait = omega (arith, waits, waiting_long f)

  fuel : 64 - opened ≡ suc (64 - (opened + 1))
  fuel = omega arith

  seen_all : reads_of f ++ waiting_of f ≡ queue_of f
  seen_all = take-append-drop (length (rows_of f)) (queue_of f)

  -- the round opened
  module _ (cost : Opened c d) where
    less : c.allowance ≡ suc (c.allowance - 1)
    less = omega (arith, cost.some)

    one_turn : walk_at c skip most opened f
        ≡ and_then (ask c (left_of most f) (waiting_of f)) (suc opened)
        (λ rest. walk c skip (64 - (opened + 1)) (suc opened) rest (c.allowance - 1) (fresh skip (reads_of f ++ waiting_of f) (links_of c (waiting_of f))) (reads_of f ++ waiting_of f))
    one_turn =
        ap (λ n. walk c skip n opened (left_of most f) c.allowance (waiting_of f) (reads_of f)) fuel
        ∙ ap (λ n. walk c skip (suc (64 - (opened + 1))) opened (left_of most f) n (waiting_of f) (reads_of f)) less
        ∙ turn c skip opened (left_of most f) (waiting_of f) (reads_of f) some_wait (64 - (opened + 1)) (c.allowance - 1)

    pub round_turned : (g : Finds) → RoundRead d skip most f g → Turned c d skip most opened f g
    round_turned g read =
        let r = read_unspent c d (c.allowance - 1) skip most f g cost.after read in
        let n = length (queue_of f) in
        let al = c.allowance - 1 in
        let next : ℕ = 64 - (opened + 1) in
        let ls = links_of c (waiting_of f) in
        let fr = fresh skip (queue_of f) ls in
        let more : suc opened ≡ opened + 1 = omega arith in
        record {
          on =
              one_turn
              ∙ ap (λ a. and_then a (suc opened) (λ rest. walk c skip next (suc opened) rest al (fresh skip (reads_of f ++ waiting_of f) ls) (reads_of f ++ waiting_of f))) r.asked
              ∙ ap (λ seen. walk c skip next (suc opened) (most - n) al (fresh skip seen ls) seen) seen_all
              ∙ sym (walk_cut c skip (257 - n) next (suc opened) (most - n) al fr (queue_of f) (omega (arith, few_rows g, all_read_then c skip most f g r)))
              ∙ (λ i. walk c skip next (suc opened) (most - all_read_then c skip most f g r i) al (waiting_then c skip most f g r i) (reads_then c skip most f g r i))
              ∙ sym (walk_spent c skip al next (suc opened) (left_of most g) al (waiting_of g) (reads_of g))
              ∙ ap (λ (x : Catalog). walk x skip next (suc opened) (left_of most g) x.allowance (waiting_of g) (reads_of g)) (sym cost.after)
              ∙ ap (λ k. walk d skip next k (left_of most g) d.allowance (waiting_of g) (reads_of g)) more;
          cost = cost;
          read = λ from.
              r.rows
              ∙ ap (λ rs. rs ++ map c.rows (waiting_of f)) from
              ∙ sym (map-append c.rows (reads_of f) (waiting_of f))
              ∙ ap (map c.rows) (seen_all ∙ reads_then c skip most f g r);
        }

    pub round_stops : (fault : FillFault) → RoundRefused d most (opened + 1) f fault → Refused c d skip most opened f fault
    round_stops fault stops =
        let t = refusal_of fault in
        let told : suc opened ≡ t.rounds = omega (arith, stops.told) in
        let by : c.allowance - 1 ≡ c.allowance - (t.rounds - opened) = omega (arith, stops.told) in
        record {
          stops =
              one_turn
              ∙ ap (λ a. and_then a (suc opened) (λ rest. walk c skip (64 - (opened + 1)) (suc opened) rest (c.allowance - 1) (fresh skip (reads_of f ++ waiting_of f) (links_of c (waiting_of f))) (reads_of f ++ waiting_of f)))
              (ap (λ (x : Catalog). ask x (left_of most f) (waiting_of f)) (sym cost.after) ∙ stops.asked)
              ∙ ap (stopped t.number t.place) told;
          since = omega (arith, stops.told);
          cost = record { enough = omega (arith, stops.told, cost.some); after = cost.after ∙ ap (spent c) by };
        }

  -- it did not
  pub shut_stops : Shut c d → Refused c d skip most opened f (OfCatalog (NoAllowance (opened + 1)))
  shut_stops shut =
      let place : suc opened ≡ opened + 1 = omega arith in
      let rounds : opened ≡ opened + 1 - 1 = omega arith in
      let by : c.allowance ≡ c.allowance - (opened + 1 - 1 - opened) = omega arith in
      record {
        stops =
            ap (λ n. walk c skip n opened (left_of most f) c.allowance (waiting_of f) (reads_of f)) fuel
            ∙ ap (λ n. walk c skip (suc (64 - (opened + 1))) opened (left_of most f) n (waiting_of f) (reads_of f)) shut.none
            ∙ turn_5 c skip opened (left_of most f) (waiting_of f) (reads_of f) some_wait (64 - (opened + 1))
            ∙ (λ i. stopped 5 (place i) (rounds i));
        since = omega arith;
        cost = record { enough = omega arith; after = shut.same ∙ ap (spent c) by };
      }

  -- the round closed, whatever it came to
  pub round_over : (e : Catalog) (g : Finds) (r : Result (Unit {0}) FillFault) → Opened c d → e ≡ d →
      MatchResult r (λ _. RoundRead d skip most f g) (λ fault. RoundRefused d most (opened + 1) f fault) →
      MatchResult r (λ _. Turned c e skip most opened f g) (λ fault. Refused c e skip most opened f fault)
  round_over e g (Ok done) cost closed read = subst (λ x. Turned c x skip most opened f g) (sym closed) (round_turned cost g read)
  round_over e g (Err fault) cost closed stops = subst (λ x. Refused c x skip most opened f fault) (sym closed) (round_stops cost fault stops)

-- the walk from f on, over c, has come by its rounds to g, over d
pub record Walking (c d : Catalog) (skip : ℕ → Bool) (most first rounds : ℕ) (f g : Finds) : Type 0 where
  pub on : walk_at c skip most first f ≡ walk_at d skip most rounds g
  pub since : first ≤ rounds
  pub few : rounds ≤ 64
  pub cost : Spent (rounds - first) c d
  pub read : ReadFrom c f → ReadFrom c g

module _ (c d : Catalog) (skip : ℕ → Bool) (most first rounds : ℕ) (f g : Finds) (so : Walking c d skip most first rounds f g) where
  pub walking_done : length (queue_of g) ≤ length (rows_of g) → ended rounds (reads_of g) ≡ walk_at c skip most first f
  walking_done over = sym
      (so.on
      ∙ ap (λ now. walk d skip (64 - rounds) rounds (left_of most g) d.allowance now (reads_of g)) (drop_all (length (rows_of g)) (queue_of g) over)
      ∙ turn_none d skip (64 - rounds) rounds (left_of most g) d.allowance (reads_of g))

  pub walking_long : rounds ≡ 64 → length (rows_of g) < length (queue_of g) → stopped 4 65 64 ≡ walk_at c skip most first f
  walking_long all waits =
      let none : 64 - rounds ≡ 0 = omega (arith, all) in
      sym
      (so.on
      ∙ ap (λ n. walk d skip n rounds (left_of most g) d.allowance (waiting_of g) (reads_of g)) none
      ∙ turn_4 d skip rounds (left_of most g) (waiting_of g) (reads_of g) (omega (arith, waits, waiting_long g)) d.allowance
      ∙ ap (λ n. stopped 4 (suc n) n) all)

-- the walk from the first round on
pub walk_begun : (c : Catalog) (b : Descriptors) (os : List ℕ) (f : Finds) → queue_of f ≡ with_all (answered b) [] os → rows_of f ≡ [] → walk_at c (answered b) 256 0 f ≡ walk_from c b os
walk_begun c b os f queue rows =
    let skip = answered b in
    (λ i. walk c skip 64 0 (256 - length (rows i)) c.allowance (drop (length (rows i)) (queue i)) (take (length (rows i)) (queue i)))
    ∙ ap (λ now. walk c skip 64 0 256 c.allowance (take 257 now) []) (longer skip os [])
    ∙ walk_cut c skip 257 64 0 256 c.allowance (fresh skip [] os) [] (omega arith)
