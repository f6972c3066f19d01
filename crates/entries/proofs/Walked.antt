-- The rounds of a resolve, from round 1 on.
-- Assumes nothing.
use Rattle.std.proofs.Common.{◌≡◌, ℕ, ◌-◌, ◌≤◌, List, length, IfOk, Ok, Err, Result, sym, ap, ◌∙◌, subst, arith}
use Rattle.catalog.specs.Catalog.{Catalog, Opened, Spent, spent}
use Rattle.life.specs.Calls.{Declared}
use Rattle.life.specs.RoundOne.{first_opened, round_one}
use Rattle.life.specs.Steps.{Book}
use Rattle.life.specs.Walk.{answered}
use Rattle.finds.specs.declared.tables.Finds.{Finds}
use Rattle.finds.specs.Finds.{ReadFrom, queue_of, reads_of}
use Rattle.faults.specs.declared.fill.FillFault.{FillFault}
use Rattle.resolve.specs.Walks.{outcome, rounds_told, walk_at}
use Rattle.entries.specs.declared.notes.Notes.{Notes}
use Rattle.entries.specs.FirstRound.{FirstRefused, FirstTurned}
use Rattle.entries.specs.Notes.{apart_told}
use Rattle.entries.specs.Walked.{Walked}

module _ (c d : Catalog) (b : Book) (ds : List Declared) where
  pub walked_refused : (fault : FillFault) (f : Finds) (n : Notes) → FirstRefused c d b ds fault →
      Walked c d b ds (first_opened c b c.allowance (round_one c b ds)) (Err fault) f n
  walked_refused fault f n refused = record { told = sym refused.stops; cost = refused.cost; read = tt; all = tt; apart = tt }

  spent_on : (rounds : ℕ) (e : Catalog) → 1 ≤ rounds → Opened c d → Spent (rounds - 1) d e → Spent rounds c e
  spent_on rounds e some opened more =
      let later : Spent (rounds - 1) (spent c (c.allowance - 1)) e = subst (λ x. Spent (rounds - 1) x e) opened.after more in
      let by : c.allowance - 1 - (rounds - 1) ≡ c.allowance - rounds = omega (arith, some) in
      record { enough = omega (arith, some, opened.some, later.enough); after = later.after ∙ ap (spent c) by }

  if_read : (r : Result ℕ FillFault) (f g : Finds) → Opened c d → ReadFrom c f → IfOk r (λ _. ReadFrom d f → ReadFrom d g) → IfOk r (λ _. ReadFrom c g)
  if_read (Ok rounds) f g opened from read =
      let read_c : ReadFrom c f → ReadFrom c g = let P : Catalog → Type 0 = λ x. ReadFrom x f → ReadFrom x g in subst P opened.after read in
      read_c from
  if_read (Err fault) f g opened from read = tt

  if_ok : (P : Type 0) → P → (r : Result ℕ FillFault) → IfOk r (λ _. P)
  if_ok P p (Ok rounds) = p
  if_ok P p (Err fault) = tt

  -- the rounds behind the first, with k rows read apart
  module _ (f : Finds) (n : Notes) (turned : FirstTurned c d b ds f n) (k : ℕ) (apart : k ≡ length (apart_told n)) (e : Catalog) (g : Finds) (r : Result ℕ FillFault) where
    pub walked_on :
        outcome r g ≡ walk_at d (answered b.descriptors) (256 - k) 1 f → 1 ≤ rounds_told r → Spent (rounds_told r - 1) d e →
        IfOk r (λ _. ReadFrom d f → ReadFrom d g) → IfOk r (λ _. reads_of g ≡ queue_of g) →
        Walked c e b ds (first_opened c b c.allowance (round_one c b ds)) r g n
    walked_on told since cost read all = record {
      told = told ∙ ap (λ a. walk_at d (answered b.descriptors) (256 - a) 1 f) apart ∙ sym turned.on;
      cost = spent_on (rounds_told r) e since turned.cost cost;
      read = if_read r f g turned.cost turned.read read;
      all = all;
      apart = if_ok _ turned.apart r;
    }
