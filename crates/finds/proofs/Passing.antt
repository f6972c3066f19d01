-- A pass over the rows, place by place.
-- Assumes nothing.
use Rattle.std.proofs.Common.{◌≡◌, ℕ, ◌+◌, ◌<◌, ◌≤◌, Bool, true, false, not, ◌&&◌, List, [], ◌∷◌, ◌++◌, length, map, take, Some, None, Option, is_some, sym, refl, ap, ◌∙◌, subst, ⊎_elim, arith, length-append}
use Rattle.std.specs.Prelude.{slice_index, slice_index_or}
use Rattle.std.specs.Option.{option_and_then}
use Rattle.std.proofs.lemmas.Bool.{and_parts, cases_lt, not-true, or_parts}
use Rattle.std.proofs.lemmas.List.{get_or-map, get_or-take, get_or_past, length-map}
use Rattle.catalog.specs.Catalog.{Catalog, CatalogRow}
use Rattle.catalog.specs.Shape.{formed, shape}
use Rattle.life.specs.InTurn.{InTurn, known_so, ready_shape}
use Rattle.life.specs.Lists.{is_in}
use Rattle.life.specs.Rounds.{Descriptors}
use Rattle.life.specs.Walk.{answered}
use Rattle.life.proofs.InTurn.{in_turn_more}
use Rattle.life.proofs.Lists.{not_both}
use Rattle.finds.specs.declared.tables.Finds.{Finds}
use Rattle.finds.specs.Finds.{ReadFrom, order_of, queue_of, reads_of, rows_of}
use Rattle.finds.specs.Passes.{Passed, follows, follows_at}

-- where the queue and the rows are the same, what is read from a catalog stays so
pub from_same : (c : Catalog) (f g : Finds) → queue_of g ≡ queue_of f → rows_of g ≡ rows_of f → ReadFrom c f → ReadFrom c g
from_same c f g queue rows from = rows ∙ from ∙ sym (λ i. map c.rows (take (length (rows i)) (queue i)))

module _ (c : Catalog) (f : Finds) (from : ReadFrom c f) where
  -- the row at a place is that of the OID there
  pub row_from : (place : ℕ) → place < length (rows_of f) → slice_index_or (rows_of f) place None ≡ c.rows (slice_index (queue_of f) place)
  row_from place inside =
      let long : length (rows_of f) ≡ length (reads_of f) = ap length from ∙ length-map (reads_of f) c.rows in
      ap (λ rs. slice_index_or rs place None) from
      ∙ get_or-map c.rows (reads_of f) place 0 None (omega (arith, inside, long))
      ∙ ap c.rows (get_or-take (length (rows_of f)) (queue_of f) place 0 inside)

  pub ready_from : (place : ℕ) → place < length (rows_of f) → (known : ℕ → Bool) →
      ready_shape known (option_and_then shape (slice_index_or (rows_of f) place None)) ≡ ready_shape known (formed c (slice_index (queue_of f) place))
  unfolding formed
  ready_from place inside known = ap (λ row. ready_shape known (option_and_then shape row)) (row_from place inside)

-- a row that can be settled next is there
no_row : (b : Descriptors) (order : List ℕ) (o : ℕ) → follows b order o None ≡ false
no_row b order o = none (not (known_so b order o))
  where
    none : (x : Bool) → (x && false) ≡ false
    none true = refl
    none false = refl

pub row_there : (b : Descriptors) (order : List ℕ) (o : ℕ) (row : Option CatalogRow) → follows b order o row ≡ true → is_some row ≡ true
row_there b order o None e = absurd (not_both e (no_row b order o))
row_there b order o (Some r) e = refl

pub not_yet : (b : Descriptors) (order : List ℕ) (o : ℕ) (row : Option CatalogRow) → follows b order o row ≡ true → is_in o order ≡ false
not_yet b order o row e =
    (or_parts (answered b o) (is_in o order) (not-true (known_so b order o) (and_parts (not (known_so b order o)) (ready_shape (known_so b order) (option_and_then shape row)) e).0)).1

past_rows : (b : Descriptors) (f : Finds) (place : ℕ) → length (rows_of f) ≤ place → follows_at b f place ≡ false
past_rows b f place past =
    ap (follows b (order_of f) (slice_index (queue_of f) place)) (get_or_past (rows_of f) place None past) ∙ no_row b (order_of f) (slice_index (queue_of f) place)

pub within_rows : (b : Descriptors) (f : Finds) (place : ℕ) → follows_at b f place ≡ true → place < length (rows_of f)
within_rows b f place e = ⊎_elim (λ l. l) (λ l. absurd (not_both e (past_rows b f place l))) (cases_lt place (length (rows_of f)))

module _ (b : Descriptors) (f : Finds) where
  -- no place was looked at
  pub nothing_passed : (from : ℕ) → length (rows_of f) ≤ from → Passed b from f f
  nothing_passed from past = record {
    queue = refl;
    rows = refl;
    longer = omega arith;
    turn = λ c read turn. turn;
    still = λ same place l. past_rows b f place (omega (arith, past, l));
  }

  -- the place before is one that cannot be settled now
  pub passed_by : (from before : ℕ) → from ≡ before + 1 → (g : Finds) → Passed b from f g → follows_at b g before ≡ false → Passed b before f g
  passed_by from before next g passed none = record {
    queue = passed.queue;
    rows = passed.rows;
    longer = passed.longer;
    turn = passed.turn;
    still = λ same place l.
        ⊎_elim
        (λ k. let here : before ≡ place = omega (arith, k, l, next) in subst (λ p. follows_at b g p ≡ false) here none)
        (λ k. passed.still same place k)
        (cases_lt place from);
  }

  -- or its OID is settled
  pub settled_at_place : (from before : ℕ) (g h : Finds) → Passed b from f g → follows_at b g before ≡ true →
      queue_of h ≡ queue_of g → rows_of h ≡ rows_of g → order_of h ≡ order_of g ++ slice_index (queue_of g) before ∷ [] → Passed b before f h
  settled_at_place from before g h passed can queue rows order =
      let o = slice_index (queue_of g) before in
      let row = slice_index_or (rows_of g) before None in
      let parts = and_parts (not (known_so b (order_of g) o)) (ready_shape (known_so b (order_of g)) (option_and_then shape row)) can in
      let long : length (order_of h) ≡ length (order_of g) + 1 = ap length order ∙ length-append (order_of g) (o ∷ []) in
      record {
        queue = queue ∙ passed.queue;
        rows = rows ∙ passed.rows;
        longer = omega (arith, long, passed.longer);
        turn = λ c read turn.
            let from_g = from_same c f g passed.queue passed.rows read in
            subst (InTurn c b) (sym order)
            (in_turn_more c b (order_of g) o (passed.turn c read turn) (
              not-true (known_so b (order_of g) o) parts.0,
              sym (ready_from c g from_g before (within_rows b g before can) (known_so b (order_of g))) ∙ parts.1,
            ));
        still = λ same. absurd (omega (arith, same, long, passed.longer));
      }
