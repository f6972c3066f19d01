-- The rows of a round, one after the other.
-- Assumes nothing.
use Rattle.std.proofs.Common.{◌≡◌, ℕ, suc, ◌+◌, ◌-◌, ◌<◌, ◌≤◌, Bool, List, [], ◌∷◌, ◌++◌, length, map, take, drop, get_or, sym, ap, ◌∙◌, arith, append_assoc, append-nil, length-append}
use Rattle.std.proofs.lemmas.List.{drop_all, drop_more, get_or_append_left, length-map, length_push}
use Rattle.catalog.specs.Catalog.{Catalog}
use Rattle.catalog.specs.Meaning.{row_told}
use Rattle.catalog.specs.Shape.{formed}
use Rattle.keys.specs.Senses.{oid_of}
use Rattle.life.specs.Lists.{fresh}
use Rattle.life.specs.Walk.{all_read, ask, links_in, links_of}
use Rattle.finds.specs.declared.tables.Finds.{Finds}
use Rattle.finds.specs.Finds.{queue_of, rows_of}
use Rattle.faults.specs.declared.fill.FillFault.{FillFault}
use Rattle.resolve.specs.Rounds.{RoundRead, RoundRefused, RowRead, RowRefused, with_all}
use Rattle.resolve.specs.Walks.{left_of, next_of, waiting_of}
use Rattle.resolve.proofs.Cut.{with_behind, with_both, with_none}
use Rattle.resolve.proofs.Pushing.{few_queued}
use Rattle.resolve.proofs.Rows.{ask_good}

pub rows_queued : (f : Finds) → length (rows_of f) ≤ length (queue_of f)
rows_queued f = omega (arith, f.ordered.read, length-map f.rows.items row_told, length-map f.queue.items oid_of)

-- of what waited in f as the round began, these are left to read in g
abbrev pub rest : Finds → Finds → List ℕ
rest f g = drop (length (rows_of g)) (queue_of f)

pub record InRound (c : Catalog) (skip : ℕ → Bool) (most : ℕ) (f g : Finds) : Type 0 where
  pub asked : ask c (left_of most f) (waiting_of f) ≡ ask c (left_of most g) (rest f g)
  pub queue : with_all skip (queue_of g) (links_of c (rest f g)) ≡ with_all skip (queue_of f) (links_of c (waiting_of f))
  pub rows : rows_of g ++ map c.rows (rest f g) ≡ rows_of f ++ map c.rows (waiting_of f)
  pub behind : List ℕ
  pub kept : queue_of g ≡ queue_of f ++ behind
  pub within : length (rows_of g) ≤ length (queue_of f)

module _ (c : Catalog) (skip : ℕ → Bool) (most : ℕ) (f : Finds) where
  module _ (g : Finds) (so : InRound c skip most f g) where
    pub goes_on : length (rows_of g) < length (queue_of f) → length (rows_of g) < length (queue_of g)
    goes_on more = omega (arith, more, ap length so.kept, length-append (queue_of f) so.behind)

    next_waits : length (rows_of g) < length (queue_of f) → rest f g ≡ next_of g ∷ drop (length (rows_of g) + 1) (queue_of f)
    next_waits more =
        drop_more (queue_of f) (length (rows_of g)) 0 more
        ∙ ap (λ o. o ∷ drop (length (rows_of g) + 1) (queue_of f))
        (sym (ap (λ q. get_or q (length (rows_of g)) 0) so.kept ∙ get_or_append_left (queue_of f) so.behind 0 (length (rows_of g)) more))

    module _ (h : Finds) (more : length (rows_of g) < length (queue_of f)) (row : RowRead c skip most g h) where
      one_more : length (rows_of h) ≡ length (rows_of g) + 1
      one_more = ap length row.rows ∙ length_push (rows_of g) (c.rows (next_of g))

      next_then : rest f g ≡ next_of g ∷ rest f h
      next_then = next_waits more ∙ ap (λ n. next_of g ∷ drop n (queue_of f)) (sym one_more)

      pub row_nearer : length (queue_of f) - length (rows_of h) < length (queue_of f) - length (rows_of g)
      row_nearer = omega (arith, more, one_more)

      pub row_through : InRound c skip most f h
      row_through =
          let less : left_of most g ≡ suc (left_of most h) = omega (arith, row.room, one_more) in
          record {
            asked =
                so.asked
                ∙ ap (ask c (left_of most g)) next_then
                ∙ ap (λ l. ask c l (next_of g ∷ rest f h)) less
                ∙ ask_good c (left_of most h) (next_of g) (rest f h) row.good;
            queue =
                ap (λ q. with_all skip q (links_of c (rest f h))) row.queue
                ∙ with_both skip (links_in (formed c (next_of g))) (links_of c (rest f h)) (queue_of g)
                ∙ sym (ap (λ os. with_all skip (queue_of g) (links_of c os)) next_then)
                ∙ so.queue;
            rows =
                ap (λ rs. rs ++ map c.rows (rest f h)) row.rows
                ∙ append_assoc (rows_of g) (c.rows (next_of g) ∷ []) (map c.rows (rest f h))
                ∙ sym (ap (λ os. rows_of g ++ map c.rows os) next_then)
                ∙ so.rows;
            behind = so.behind ++ take (257 - length (queue_of g)) (fresh skip (queue_of g) (links_in (formed c (next_of g))));
            kept =
                row.queue
                ∙ with_behind skip (links_in (formed c (next_of g))) (queue_of g) (few_queued g)
                ∙ ap (λ q. q ++ take (257 - length (queue_of g)) (fresh skip (queue_of g) (links_in (formed c (next_of g))))) so.kept
                ∙ append_assoc (queue_of f) so.behind (take (257 - length (queue_of g)) (fresh skip (queue_of g) (links_in (formed c (next_of g)))));
            within = omega (arith, more, one_more);
          }

    pub round_refused : (fault : FillFault) (round : ℕ) → length (rows_of g) < length (queue_of f) → RowRefused c most round g fault → RoundRefused c most round f fault
    round_refused fault round more row = record {
      asked = so.asked ∙ ap (ask c (left_of most g)) (next_waits more) ∙ row.asked (drop (length (rows_of g) + 1) (queue_of f));
      told = row.told;
    }

    pub round_through : length (queue_of f) ≤ length (rows_of g) → RoundRead c skip most f g
    round_through over =
        let none : rest f g ≡ [] = drop_all (length (rows_of g)) (queue_of f) over in
        let all : length (rows_of g) ≡ length (queue_of f) = omega (arith, over, so.within) in
        record {
          asked = so.asked ∙ ap (ask c (left_of most g)) none ∙ ap (λ n. all_read (most - n)) all;
          queue = sym (ap (λ os. with_all skip (queue_of g) (links_of c os)) none ∙ with_none skip (queue_of g) (few_queued g)) ∙ so.queue;
          rows = sym (ap (λ os. rows_of g ++ map c.rows os) none ∙ append-nil (rows_of g)) ∙ so.rows;
        }
