-- What is told of the k-th that is settled.
-- Assumes nothing.
use Rattle.std.proofs.Common.{◌≡◌, ℕ, ◌<◌, length, get_or, slice_get, Some, None, Option, sym, ap, ◌∙◌, arith}
use Rattle.std.specs.Prelude.{slice_index}
use Rattle.std.specs.Option.{option_map}
use Rattle.std.proofs.Math.ListN.{get_or-map}
use Rattle.std.proofs.lemmas.Option.{slice_get-get_or, slice_get-map}
use Rattle.catalog.specs.Catalog.{Catalog}
use Rattle.catalog.specs.Meaning.{row_meaning, row_told}
use Rattle.catalog.specs.declared.row.Row.{Row}
use Rattle.keys.specs.Senses.{oid_of}
use Rattle.life.proofs.Lists.{same_some}
use Rattle.type_info.specs.declared.oid.Oid.{Oid}
use Rattle.book.proofs.Places.{all_at}
use Rattle.finds.specs.declared.tables.Finds.{Finds}
use Rattle.finds.specs.Finds.{ReadFrom, order_of, queue_of}
use Rattle.finds.specs.Tables.{has_row}
use Rattle.finds.proofs.Grown.{row_within}
use Rattle.finds.proofs.Passing.{row_from}
use Rattle.finds.proofs.Put.{rows_long}

module _ (f : Finds) (k place : ℕ) (inside : k < length f.order.items) (at : place ≡ get_or f.order.items k place) where
  there : slice_get f.order.items k ≡ Some place
  there = slice_get-get_or f.order.items k place inside ∙ ap (λ i. Some i) (sym at)

  turn : slice_get (order_of f) k ≡ Some (slice_index (queue_of f) place)
  turn = slice_get-map (λ i. slice_index (queue_of f) i) f.order.items k ∙ ap (option_map (λ i. slice_index (queue_of f) i)) there

  pub turn_oid : (none : Oid) → none.0 ≡ 0 → Some (oid_of (get_or f.queue.items place none)) ≡ slice_get (order_of f) k
  turn_oid none zero = ap (λ o. Some o) (sym (get_or-map oid_of f.queue.items place none) ∙ ap (get_or (queue_of f) place) zero) ∙ sym turn

  within : place < length f.rows.items
  within = row_within f.rows.items place (all_at (has_row f.rows.items) f.order.items k place f.ordered.placed there)

  pub turn_row : (row : Row) → Some row ≡ get_or f.rows.items place (Some row) → (c : Catalog) → ReadFrom c f →
      ◌≡◌ {A = Option _} (Some (Some (row_meaning row))) (option_map c.rows (slice_get (order_of f) k))
  turn_row row is c from =
      let rows = f.rows.items in
      let other : get_or rows place (Some row) ≡ get_or rows place None = same_some (slice_get-get_or rows place (Some row) within) (slice_get-get_or rows place None within) in
      let told : row_told (Some row) ≡ c.rows (slice_index (queue_of f) place) =
      ap row_told (is ∙ other) ∙ sym (get_or-map row_told rows place None) ∙ row_from c f from place (omega (arith, within, rows_long f)) in
      ap (λ r. Some r) told ∙ sym (ap (option_map c.rows) turn)
