use Rattle.std.proofs.Common.{◌≡◌, ◌-◌, ◌∙◌, sym, subst, arith}
use Rattle.std.proofs.lemmas.List.{length-map}
use Rattle.catalog.specs.Meaning.{row_told}
use Rattle.book.specs.Book.{held_of}
use Rattle.book.specs.Held.{book_held}
use Rattle.finds.specs.Passes.{Passed}
use Rattle.finds.proofs.Passing.{nothing_passed, passed_by, settled_at_place}
use Rattle.finds.proofs.tables.Finds.pass.Goals as goal

pub loop-place-init : goal.loop-place-init
loop-place-init c = nothing_passed (book_held (held_of c.args.book.now)).descriptors c.args.self.now c.len-place.result (omega (arith, c.len-place.ensures, length-map c.args.self.now.rows.items row_told))

pub loop-place-preserved-then-is_ready : goal.loop-place-preserved-then-is_ready
loop-place-preserved-then-is_ready c =
    settled_at_place (book_held (held_of c.args.book.now)).descriptors c.args.self.now c.loop-place.place (c.loop-place.place - 1) c.loop-place.self c.add.new.self c.loop-place.invariant
    (sym c.is_ready.ensures ∙ c.if-is_ready.true) c.add.ensures.queue c.add.ensures.rows c.add.ensures.order

pub loop-place-preserved : goal.loop-place-preserved
loop-place-preserved c =
    passed_by (book_held (held_of c.args.book.now)).descriptors c.args.self.now c.loop-place.place (c.loop-place.place - 1) (omega (arith, c.loop-place-test.true)) c.loop-place.self c.loop-place.invariant
    (sym c.is_ready.ensures ∙ c.if-is_ready.false)

pub returns-clause-passed : goal.returns-clause-passed
returns-clause-passed c =
    let begun : c.loop-place.place ≡ 0 = omega (arith, c.loop-place-test.false) in
    subst (λ n. Passed (book_held (held_of c.args.book.now)).descriptors n c.args.self.now c.loop-place.self) begun c.loop-place.invariant
