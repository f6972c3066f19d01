-- The links of the rows read, pushed row by row.
-- Assumes nothing.
use Rattle.std.proofs.Common.{◌≡◌, ℕ, ◌+◌, ◌<◌, ◌≤◌, Bool, List, [], ◌∷◌, ◌++◌, length, map, drop, flat_map, slice_get, None, Option, sym, refl, ap, ◌∙◌}
use Rattle.std.specs.Prelude.{slice_index_or, unwrap_or}
use Rattle.std.proofs.lemmas.List.{drop_all, drop_more}
use Rattle.std.proofs.lemmas.Option.{unwrap_or-slice_get}
use Rattle.catalog.specs.Catalog.{Catalog, CatalogRow}
use Rattle.catalog.specs.Shape.{formed}
use Rattle.life.specs.Walk.{links_of}
use Rattle.finds.specs.declared.tables.Finds.{Finds}
use Rattle.finds.specs.Finds.{queue_of, rows_of}
use Rattle.resolve.specs.Rounds.{with_all}
use Rattle.resolve.proofs.Cut.{with_both, with_none}
use Rattle.resolve.proofs.Pushing.{few_queued}
use Rattle.entries.specs.FirstRound.{row_links}

-- the links of the rows that a catalog has of some OIDs
pub links_from : (c : Catalog) (os : List ℕ) → flat_map row_links (map c.rows os) ≡ links_of c os
unfolding formed
links_from c [] = refl
links_from c (o ∷ os) = ap (λ ls. row_links (c.rows o) ++ ls) (links_from c os)

-- what was read at a place
pub row_there : (rows : List (Option CatalogRow)) (place : ℕ) (x : Option (Option CatalogRow)) → x ≡ slice_get rows place → slice_index_or rows place None ≡ unwrap_or x None
row_there rows place x at = sym (unwrap_or-slice_get rows place None) ∙ ap (λ y. unwrap_or y None) (sym at)

module _ (skip : ℕ → Bool) where
  abbrev to_push : ℕ → Finds → List ℕ
  to_push place f = flat_map row_links (drop place (rows_of f))

  -- the links of the first rows were pushed, and f became g
  pub record InRows (place : ℕ) (f g : Finds) : Type 0 where
    pub queue : with_all skip (queue_of g) (to_push place g) ≡ with_all skip (queue_of f) (to_push 0 f)
    pub rows : rows_of g ≡ rows_of f

  module _ (place : ℕ) (f g : Finds) (so : InRows place f g) where
    pub row_pushed : place < length (rows_of g) → (h : Finds) → queue_of h ≡ with_all skip (queue_of g) (row_links (slice_index_or (rows_of g) place None)) →
        rows_of h ≡ rows_of g → InRows (place + 1) f h
    row_pushed more h queue rows = record {
      queue =
          (λ i. with_all skip (queue i) (flat_map row_links (drop (place + 1) (rows i))))
          ∙ with_both skip (row_links (slice_index_or (rows_of g) place None)) (to_push (place + 1) g) (queue_of g)
          ∙ sym (ap (λ rs. with_all skip (queue_of g) (flat_map row_links rs)) (drop_more (rows_of g) place None more))
          ∙ so.queue;
      rows = rows ∙ so.rows;
    }

    pub rows_pushed : length (rows_of g) ≤ place → queue_of g ≡ with_all skip (queue_of f) (flat_map row_links (rows_of f))
    rows_pushed over =
        sym (ap (λ rs. with_all skip (queue_of g) (flat_map row_links rs)) (drop_all place (rows_of g) over) ∙ with_none skip (queue_of g) (few_queued g))
        ∙ so.queue
