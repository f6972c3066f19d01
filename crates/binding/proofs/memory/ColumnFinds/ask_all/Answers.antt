use Rattle.std.proofs.Common.{◌+◌, None, drop, get_or, arith}
use Rattle.std.proofs.lemmas.List.{drop_all, drop_more}
use Rattle.book.specs.Book.{held_of}
use Rattle.requests.specs.declared.asked.FieldAsked.{FieldAsked}
use Rattle.binding.proofs.Asking.{asking_begun, asking_done, asking_more}
use Rattle.binding.proofs.memory.ColumnFinds.ask_all.Goals as goal

pub loop-field-init : goal.loop-field-init
loop-field-init g c = λ few so. asking_begun (g.C.TypeCatalog.meaning c.args.catalog.now) (held_of c.args.book.now) c.args.fields.now c.args.self.now so

pub loop-field-preserved : goal.loop-field-preserved
loop-field-preserved g c = λ few so.
    let fields = c.args.fields.now in
    let i = c.loop-field.field-index in
    let none : FieldAsked = record { name = record { start = 0; length = 0 }; oid = record { 0 = 0 }; relation = None; attribute = None } in
    asking_more (g.C.TypeCatalog.meaning c.args.catalog.now) (held_of c.args.book.now) fields (drop i fields) i c.loop-field.self (get_or fields i none) (drop (i + 1) fields) c.ask.new.self
    (drop_more fields i none c.loop-field-test.true) (omega (arith, c.loop-field-test.true)) (c.loop-field.invariant few so) c.ask.ensures

pub returns : goal.returns
returns g c = λ few so.
    asking_done (g.C.TypeCatalog.meaning c.args.catalog.now) (held_of c.args.book.now) c.args.fields.now (drop c.loop-field.field-index c.args.fields.now) c.loop-field.field-index c.loop-field.self
    (drop_all c.loop-field.field-index c.args.fields.now c.loop-field-test.false) (c.loop-field.invariant few so)
