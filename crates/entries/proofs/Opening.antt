-- Round 1 opened, and the walk behind it.
-- Assumes nothing.
use Rattle.std.proofs.Common.{◌≡◌, ℕ, suc, ◌-◌, ◌≤◌, Bool, List, ◌++◌, length, map, take, drop, IfOk, MatchResult, Ok, Err, Result, Option, sym, refl, ap, ◌∙◌, subst, arith}
use Rattle.std.proofs.lemmas.List.{drop_at, length-map, take_at}
use Rattle.catalog.specs.Catalog.{Catalog, Opened, Shut, Spent, spent}
use Rattle.catalog.specs.Meaning.{row_told}
use Rattle.catalog.specs.Shape.{formed}
use Rattle.catalog.specs.declared.faults.CatalogFault.TheVariants.{NoAllowance}
use Rattle.life.specs.Calls.{Declared}
use Rattle.life.specs.Lists.{fresh}
use Rattle.life.specs.RoundOne.{Question, asked_in_full, asked_oid, first_opened, refusable, round_one}
use Rattle.life.specs.Steps.{Book}
use Rattle.life.specs.Walk.{Asked, answered, ask_each, links_of, and_then, stopped, walk}
use Rattle.finds.specs.declared.tables.Finds.{Finds}
use Rattle.finds.specs.Finds.{queue_of, reads_of, rows_of}
use Rattle.faults.specs.declared.fill.FillFault.{FillFault}
use Rattle.faults.specs.declared.fill.FillFault.TheVariants.{Catalog as OfCatalog}
use Rattle.faults.specs.Faults.{refusal_of}
use Rattle.resolve.specs.Walks.{waiting_of}
use Rattle.resolve.proofs.Cut.{with_behind}
use Rattle.resolve.proofs.Turns.{walk_cut, walk_spent}
use Rattle.entries.specs.declared.notes.Notes.{Notes}
use Rattle.finds.specs.Resolving.{entry_lead}
use Rattle.entries.specs.FirstRound.{FirstHalted, FirstRead, FirstRefused, FirstTurned}
use Rattle.entries.specs.Notes.{apart_told}

-- what was read when some rounds were spent
read_unspent : (c : Catalog) (k : ℕ) (b : Book) (ds : List Declared) (f : Finds) (n : Notes) → FirstRead (spent c k) b ds f n → FirstRead c b ds f n
unfolding formed
read_unspent c k b ds f n r = record { asked = r.asked; queue = r.queue; rows = r.rows; apart = r.apart }

halted_unspent : (c : Catalog) (k : ℕ) (b : Book) (ds : List Declared) (fault : FillFault) → FirstHalted (spent c k) b ds fault → FirstHalted c b ds fault
halted_unspent c k b ds fault h = record { asked = h.asked; told = h.told }

module _ (c d : Catalog) (b : Book) (ds : List Declared) where
  abbrev skip : ℕ → Bool
  skip = answered b.descriptors

  abbrev qs : List Question
  qs = round_one c b ds

  abbrev full : List ℕ
  full = asked_in_full qs

  abbrev later : List ℕ
  later = fresh skip full (links_of c full)

  -- the round opened
  module _ (cost : Opened c d) where
    abbrev rest : ℕ
    rest = c.allowance - 1

    opened : first_opened c b c.allowance qs ≡ and_then (ask_each asked_oid (refusable c) 256 qs) 1 (λ left. walk c skip 63 1 left rest later full)
    opened = let less : c.allowance ≡ suc (c.allowance - 1) = omega (arith, cost.some) in ap (λ n. first_opened c b n qs) less

    pub opened_halts : (fault : FillFault) → FirstHalted d b ds fault → FirstRefused c d b ds fault
    opened_halts fault halts =
        let h = halted_unspent c rest b ds fault (subst (λ x. FirstHalted x b ds fault) cost.after halts) in
        let t = refusal_of fault in
        record {
          stops =
              opened
              ∙ ap (λ (a : Asked). and_then a 1 (λ left. walk c skip 63 1 left rest later full)) h.asked
              ∙ ap (stopped t.number t.place) (sym h.told);
          cost = subst (λ k. Spent k c d) (sym h.told) (record { enough = cost.some; after = cost.after });
        }

    module _ (f : Finds) (n : Notes) (read : FirstRead d b ds f n) where
      r : FirstRead c b ds f n
      r = read_unspent c rest b ds f n (subst (λ x. FirstRead x b ds f n) cost.after read)

      long : length (rows_of f) ≡ length full
      long = ap length r.rows ∙ length-map full c.rows

      few : length full ≤ 256
      few = omega (arith, sym long, f.lent.rows_lent, length-map f.rows.items row_told)

      queue_then : queue_of f ≡ full ++ take (257 - length full) later
      queue_then = r.queue ∙ with_behind skip (links_of c full) full (omega (arith, few))

      reads_then : full ≡ reads_of f
      reads_then = sym ((λ i. take (long i) (queue_then i)) ∙ take_at full (take (257 - length full) later) (length full) refl)

      waiting_then : take (257 - length full) later ≡ waiting_of f
      waiting_then = sym ((λ i. drop (long i) (queue_then i)) ∙ drop_at full (take (257 - length full) later) (length full) refl)

      abbrev left : ℕ
      left = 256 - length (apart_told n) - length (rows_of f)

      pub opened_turns : FirstTurned c d b ds f n
      opened_turns = record {
        on =
            opened
            ∙ ap (λ (a : Asked). and_then a 1 (λ l. walk c skip 63 1 l rest later full)) r.asked
            ∙ sym (walk_cut c skip (257 - length full) 63 1 left rest later full (omega (arith, long, few)))
            ∙ (λ i. walk c skip 63 1 left rest (waiting_then i) (reads_then i))
            ∙ sym (walk_spent c skip rest 63 1 left rest (waiting_of f) (reads_of f))
            ∙ ap (λ (x : Catalog). walk x skip 63 1 left x.allowance (waiting_of f) (reads_of f)) (sym cost.after);
        cost = cost;
        read = r.rows ∙ ap (map c.rows) reads_then;
        apart = r.apart;
      }

  -- it did not
  pub shut_halts : Shut c d → FirstRefused c d b ds (OfCatalog (NoAllowance 1))
  shut_halts shut =
      let all : c.allowance ≡ c.allowance - 0 = omega arith in
      record {
        stops = ap (λ n. first_opened c b n qs) shut.none;
        cost = record { enough = omega arith; after = shut.same ∙ ap (spent c) all };
      }

  -- the round closed, whatever it came to
  pub first_over : (e : Catalog) (f : Finds) (n : Notes) (r : Result (Unit {0}) FillFault) → Opened c d → e ≡ d →
      MatchResult r (λ _. FirstRead d b ds f n) (λ fault. FirstHalted d b ds fault) →
      MatchResult r (λ _. FirstTurned c e b ds f n) (λ fault. FirstRefused c e b ds fault)
  first_over e f n (Ok done) cost closed read = subst (λ x. FirstTurned c x b ds f n) (sym closed) (opened_turns cost f n read)
  first_over e f n (Err fault) cost closed halts = subst (λ x. FirstRefused c x b ds fault) (sym closed) (opened_halts cost fault halts)

-- names lead where they did when the round was opened
pub leads_unspent : (c d : Catalog) (b : Book) (ds : List Declared) (few : Type 0) (leads : List (Option ℕ)) (r : Result (Unit {0}) FillFault) → Opened c d →
    IfOk r (λ _. few → leads ≡ map (entry_lead d b) ds) → IfOk r (λ _. few → leads ≡ map (entry_lead c b) ds)
leads_unspent c d b ds few leads r cost told = let P : Catalog → Type 0 = λ x. IfOk r (λ _. few → leads ≡ map (entry_lead x b) ds) in subst P cost.after told
