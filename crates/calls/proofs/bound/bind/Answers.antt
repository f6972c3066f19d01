use Rattle.std.proofs.Common.{length, refl}
use Rattle.std.proofs.lemmas.Result.{err_from_is_err_and}
use Rattle.book.specs.Book.{held_of}
use Rattle.calls.specs.Endings.{bind_call}
use Rattle.faults.specs.Faults.{call_refusal_of, refused_so}
use Rattle.life.specs.Steps.{accepted}
use Rattle.calls.proofs.Answering.{answers_accepted, answers_refused}
use Rattle.calls.proofs.Lives.{grown, related}
use Rattle.calls.proofs.Binds.{bind_lives, bind_sized, did}
use Rattle.calls.proofs.Layers.{layer_at}
use Rattle.calls.proofs.bound.bind.Goals as goal

pub returns-in_err-rounds-clause-did : goal.returns-in_err-rounds-clause-did
returns-in_err-rounds-clause-did g c =
    let a = c.in_err-rounds.ensures in
    let p = err_from_is_err_and c.from_residual.result c.from_residual.ensures.1 in
    rw (p.1, p.2)
    (did (g.C.TypeCatalog.meaning c.args.catalog.now) (held_of c.args.book.now) (held_of c.bind_asked.new.book) c.args.host.now c.args.parameters.now c.args.fields.now c.args.queries c.args.origins
    (length c.args.types.now) (length c.args.bound.now) (refused_so (call_refusal_of c.in_err-rounds.field-0.0)) a.ends a.left)

pub returns-in_err-rounds-clause-layer : goal.returns-in_err-rounds-clause-layer
returns-in_err-rounds-clause-layer g c =
    let call = bind_call c.args.parameters.now c.args.fields.now c.args.queries c.args.origins (length c.args.types.now) (length c.args.bound.now) in
    let p = err_from_is_err_and c.from_residual.result c.from_residual.ensures.1 in
    rw (p.1, p.2)
    (layer_at (g.C.TypeCatalog.meaning c.args.catalog.now) (held_of c.args.book.now) c.args.host.now call c.in_err-rounds.field-0.0 c.in_err-rounds.ensures.ends)

pub returns-in_err-rounds-clause-lives : goal.returns-in_err-rounds-clause-lives
returns-in_err-rounds-clause-lives g c = λ h d l m.
    let k = g.C.TypeCatalog.meaning c.args.catalog.now in
    let a = c.in_err-rounds.ensures in
    let p = err_from_is_err_and c.from_residual.result c.from_residual.ensures.1 in
    rw (p.1, p.2)
    (bind_lives k (held_of c.args.book.now) (held_of c.bind_asked.new.book) c.args.host.now c.args.parameters.now c.args.fields.now c.args.queries c.args.origins (length c.args.types.now)
    (length c.args.bound.now) (refused_so (call_refusal_of c.in_err-rounds.field-0.0)) a.ends a.left (g.C.TypeCatalog.meaning c.bind_asked.new.catalog) (g.C.TypeCatalog.laws c.args.catalog.now)
    a.cost a.capacity h d l m)

pub returns-in_err-rounds-clause-sized : goal.returns-in_err-rounds-clause-sized
returns-in_err-rounds-clause-sized g c = λ h d l m.
    let k = g.C.TypeCatalog.meaning c.args.catalog.now in
    let a = c.in_err-rounds.ensures in
    bind_sized k (held_of c.args.book.now) (held_of c.bind_asked.new.book) c.args.host.now c.args.parameters.now c.args.fields.now c.args.queries c.args.origins (length c.args.types.now)
    (length c.args.bound.now) (refused_so (call_refusal_of c.in_err-rounds.field-0.0)) a.ends a.left (g.C.TypeCatalog.meaning c.bind_asked.new.catalog) (g.C.TypeCatalog.laws c.args.catalog.now)
    a.cost a.capacity h d l m (g.C.TypeCatalog.laws c.bind_asked.new.catalog)

pub returns-clause-did : goal.returns-clause-did
returns-clause-did g c =
    let a = c.in_ok-rounds.ensures in
    did (g.C.TypeCatalog.meaning c.args.catalog.now) (held_of c.args.book.now) (held_of c.bind_asked.new.book) c.args.host.now c.args.parameters.now c.args.fields.now c.args.queries c.args.origins
    (length c.args.types.now) (length c.args.bound.now) (accepted c.in_ok-rounds.rounds.types c.in_ok-rounds.rounds.columns) a.ends a.left

pub returns-clause-lives : goal.returns-clause-lives
returns-clause-lives g c = λ h d l m.
    let k = g.C.TypeCatalog.meaning c.args.catalog.now in
    let a = c.in_ok-rounds.ensures in
    bind_lives k (held_of c.args.book.now) (held_of c.bind_asked.new.book) c.args.host.now c.args.parameters.now c.args.fields.now c.args.queries c.args.origins (length c.args.types.now)
    (length c.args.bound.now) (accepted c.in_ok-rounds.rounds.types c.in_ok-rounds.rounds.columns) a.ends a.left (g.C.TypeCatalog.meaning c.bind_asked.new.catalog) (g.C.TypeCatalog.laws c.args.catalog.now)
    a.cost a.capacity h d l m

pub returns-clause-sized : goal.returns-clause-sized
returns-clause-sized g c = λ h d l m.
    let k = g.C.TypeCatalog.meaning c.args.catalog.now in
    let a = c.in_ok-rounds.ensures in
    bind_sized k (held_of c.args.book.now) (held_of c.bind_asked.new.book) c.args.host.now c.args.parameters.now c.args.fields.now c.args.queries c.args.origins (length c.args.types.now)
    (length c.args.bound.now) (accepted c.in_ok-rounds.rounds.types c.in_ok-rounds.rounds.columns) a.ends a.left (g.C.TypeCatalog.meaning c.bind_asked.new.catalog) (g.C.TypeCatalog.laws c.args.catalog.now)
    a.cost a.capacity h d l m (g.C.TypeCatalog.laws c.bind_asked.new.catalog)

pub returns-in_err-rounds-clause-answers : goal.returns-in_err-rounds-clause-answers
returns-in_err-rounds-clause-answers g c = λ h d l m.
    let k = g.C.TypeCatalog.meaning c.args.catalog.now in
    let b = held_of c.args.book.now in
    let now = held_of c.bind_asked.new.book in
    let laws = g.C.TypeCatalog.laws c.args.catalog.now in
    let a = c.in_err-rounds.ensures in
    let told = call_refusal_of c.in_err-rounds.field-0.0 in
    let lived = grown b.capacity h d k l.tables l.lived m in
    let done =
    did k b now c.args.host.now c.args.parameters.now c.args.fields.now c.args.queries c.args.origins (length c.args.types.now) (length c.args.bound.now) (refused_so told) a.ends a.left
    (related h k b l.tables laws lived l.stands) l.tables l.stands in
    answers_refused k b now c.args.host.now c.args.parameters.now c.args.fields.now c.args.queries c.args.origins (length c.args.types.now) (length c.args.bound.now) l.tables c.args.types.now
    c.args.types.now c.args.bound.now c.args.bound.now laws h lived told.number told.place _ told.rounds done refl refl

pub returns-clause-answers : goal.returns-clause-answers
returns-clause-answers g c = λ h d l m.
    let k = g.C.TypeCatalog.meaning c.args.catalog.now in
    let b = held_of c.args.book.now in
    let now = held_of c.bind_asked.new.book in
    let laws = g.C.TypeCatalog.laws c.args.catalog.now in
    let a = c.in_ok-rounds.ensures in
    let rounds = c.in_ok-rounds.rounds in
    let lived = grown b.capacity h d k l.tables l.lived m in
    let done =
    did k b now c.args.host.now c.args.parameters.now c.args.fields.now c.args.queries c.args.origins (length c.args.types.now) (length c.args.bound.now) (accepted rounds.types rounds.columns)
    a.ends a.left (related h k b l.tables laws lived l.stands) l.tables l.stands in
    let sized =
    bind_sized k b now c.args.host.now c.args.parameters.now c.args.fields.now c.args.queries c.args.origins (length c.args.types.now) (length c.args.bound.now)
    (accepted rounds.types rounds.columns) a.ends a.left (g.C.TypeCatalog.meaning c.bind_asked.new.catalog) laws a.cost a.capacity h d l m (g.C.TypeCatalog.laws c.bind_asked.new.catalog) in
    answers_accepted k b now c.args.host.now c.args.parameters.now c.args.fields.now c.args.queries c.args.origins (length c.args.types.now) (length c.args.bound.now) l.tables c.args.types.now
    c.write_types.new.out c.args.bound.now c.write_columns.new.out laws h lived rounds.types rounds.columns done (c.write_types.ensures.written a.within.1)
    (c.write_columns.ensures.written a.within.0 sized a.within.2)
