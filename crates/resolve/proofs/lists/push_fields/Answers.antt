use Rattle.std.proofs.Common.{◌+◌, None, ap, drop, get_or}
use Rattle.std.proofs.lemmas.List.{drop_all, drop_more}
use Rattle.requests.specs.declared.asked.FieldAsked.{FieldAsked}
use Rattle.resolve.specs.Lists.{types_of}
use Rattle.resolve.specs.Walks.{known_to}
use Rattle.resolve.proofs.Pushing.{pushing_done, pushing_more}
use Rattle.resolve.proofs.lists.push_fields.Goals as goal

pub loop-field-preserved : goal.loop-field-preserved
loop-field-preserved c =
    let fields = c.args.fields.now in
    let i = c.loop-field.field-index in
    let none : FieldAsked = record { name = record { start = 0; length = 0 }; oid = record { 0 = 0 }; relation = None; attribute = None } in
    pushing_more (known_to c.args.book.now) (types_of fields) c.args.finds.now (types_of (drop i fields)) (get_or fields i none).oid.0 (types_of (drop (i + 1) fields)) c.loop-field.finds c.push.new.self
    (ap types_of (drop_more fields i none c.loop-field-test.true))
    c.loop-field.invariant c.push.ensures.queue c.push.ensures.rows c.push.ensures.order c.push.ensures.reads

pub returns-clause-queue : goal.returns-clause-queue
returns-clause-queue c =
    pushing_done (known_to c.args.book.now) (types_of c.args.fields.now) c.args.finds.now (types_of (drop c.loop-field.field-index c.args.fields.now)) c.loop-field.finds
    (ap types_of (drop_all c.loop-field.field-index c.args.fields.now c.loop-field-test.false))
    c.loop-field.invariant
