use Rattle.std.proofs.Common.{◌<◌, ◌≤◌, ◌∙◌, ℕ, length, refl, ap, sym, subst, arith}
use Rattle.std.proofs.lemmas.Bool.{ltb-false, ltb-true}
use Rattle.slots.specs.Stack.{LentItems}
use Rattle.life.specs.InTurn.{InTurn}
use Rattle.life.proofs.InTurn.{in_turn_none}
use Rattle.book.specs.Book.{held_of}
use Rattle.book.specs.Held.{book_held}
use Rattle.finds.specs.Finds.{order_of, queue_of}
use Rattle.finds.specs.Tables.{at_places}
use Rattle.finds.proofs.Ended.{goes_on, settled_all, settled_read}
use Rattle.finds.proofs.Put.{few_settled, order_long, rows_long}
use Rattle.finds.proofs.tables.Finds.settle.Goals as goal

pub loop-init : goal.loop-init
loop-init c = record {
  queue = refl;
  rows = refl;
  turn = λ k from.
      subst (λ (x : LentItems ℕ). InTurn k (book_held (held_of c.args.book.now)).descriptors (at_places (queue_of c.args.self.now) x.items)) (sym c.clear.ensures)
      (in_turn_none k (book_held (held_of c.args.book.now)).descriptors);
}

pub loop-smaller : goal.loop-smaller
loop-smaller c =
    let was = c.loop.self in
    let now = c.pass.new.self in
    let longer : length (order_of was) < length (order_of now) = ltb-true (length (order_of was)) (length (order_of now)) (sym c.pass.ensures.told ∙ c.loop-test.true) in
    omega (arith, longer, ap length c.pass.ensures.passed.rows, order_long was, order_long now, rows_long was, rows_long now, few_settled now)

pub loop-preserved : goal.loop-preserved
loop-preserved c = goes_on (book_held (held_of c.args.book.now)).descriptors c.args.self.now c.loop.self c.pass.new.self c.loop.invariant c.pass.ensures.passed

pub returns-clause-among : goal.returns-clause-among
returns-clause-among c =
    settled_read (book_held (held_of c.args.book.now)).descriptors c.args.self.now c.loop.self c.pass.new.self c.loop.invariant c.pass.ensures.passed

pub returns-clause-settles : goal.returns-clause-settles
returns-clause-settles c =
    settled_all (book_held (held_of c.args.book.now)).descriptors c.args.self.now c.loop.self c.pass.new.self c.loop.invariant c.pass.ensures.passed
    (let no_longer : length (order_of c.pass.new.self) ≤ length (order_of c.loop.self) =
    ltb-false (length (order_of c.loop.self)) (length (order_of c.pass.new.self)) (sym c.pass.ensures.told ∙ c.loop-test.false) in
    omega (arith, no_longer, c.pass.ensures.passed.longer))
