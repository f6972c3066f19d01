use Rattle.std.proofs.Common.{◌≡◌, ◌<◌, ℕ, ◌∙◌, List, Some, ap, get_or, length, refl, subst, sym}
use Rattle.std.proofs.lemmas.Bool.{ltb-true}
use Rattle.keys.specs.Senses.{oid_of}
use Rattle.type_info.specs.declared.oid.Oid.{Oid}
use Rattle.finds.proofs.Turns.{turn_oid, turn_row}
use Rattle.finds.proofs.tables.Finds.settled_at.Goals as goal
use Rattle.finds.proofs.tables.Finds.settled_at.Goals.{In_ok-row}

inside : (c : In_ok-row) → c.args.k < length c.args.self.now.order.items
inside c = subst (λ (xs : List ℕ). c.args.k < length xs) c.as_slice.ensures (ltb-true c.args.k (length c.as_slice.result.now) (sym c.in_ok-place.ensures.lookup.0))

at : (c : In_ok-row) → c.in_ok-place.field-0.now ≡ get_or c.args.self.now.order.items c.args.k c.in_ok-place.field-0.now
at c = c.in_ok-place.ensures.lookup.1 ∙ ap (λ (xs : List ℕ). get_or xs c.args.k c.in_ok-place.field-0.now) c.as_slice.ensures

pub returns-clause-oid : goal.returns-clause-oid
returns-clause-oid c =
    let none : Oid = record { 0 = 0 } in
    ap (λ (xs : List Oid). Some (oid_of (get_or xs c.in_ok-place.field-0.now none))) c.as_slice-2.ensures ∙ turn_oid c.args.self.now c.args.k c.in_ok-place.field-0.now (inside c) (at c) none refl

pub returns-clause-row : goal.returns-clause-row
returns-clause-row c =
    let told = c.in_ok-row.ensures.value in
    turn_row c.args.self.now c.args.k c.in_ok-place.field-0.now (inside c) (at c) c.in_ok-row.row.now
    (told ∙ c.index-as_slice-place.is ∙ (λ i. get_or (c.as_slice-3.ensures i) c.in_ok-place.field-0.now (sym told i)))
