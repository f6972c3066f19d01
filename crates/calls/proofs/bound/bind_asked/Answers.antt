use Rattle.std.proofs.Common.{◌∙◌, ap, subst}
use Rattle.binding.specs.Whole.{bound_ending}
use Rattle.book.specs.Book.{held_of}
use Rattle.book.specs.Stands.{Stands}
use Rattle.calls.specs.Endings.{bind_call}
use Rattle.requests.specs.Early.{early_told}
use Rattle.room.specs.Room.{limited, tables_left}
use Rattle.calls.proofs.Turned.{meant_so, passed_ends, passed_left, turned}
use Rattle.calls.proofs.bound.bind_asked.Goals as goal

pub returns-in-Some-clause-ends : goal.returns-in-Some-clause-ends
returns-in-Some-clause-ends g c = λ t s.
    let told = early_told c.in-Some.early in
    let call = bind_call c.args.parameters.now c.args.fields.now c.args.queries c.args.origins c.args.parameter_slots c.args.column_slots in
    (turned (g.C.TypeCatalog.meaning c.args.catalog.now) (held_of c.args.book.now) c.args.host.now call t told.0 told.1 c.fault_of.result
    (c.in-Some.ensures.told c.args.queries c.args.origins) (c.fault_of.ensures c.in-Some.ensures.within) s).ends

pub returns-in-Some-clause-left : goal.returns-in-Some-clause-left
returns-in-Some-clause-left g c = λ related t s.
    let told = early_told c.in-Some.early in
    let call = bind_call c.args.parameters.now c.args.fields.now c.args.queries c.args.origins c.args.parameter_slots c.args.column_slots in
    (turned (g.C.TypeCatalog.meaning c.args.catalog.now) (held_of c.args.book.now) c.args.host.now call t told.0 told.1 c.fault_of.result
    (c.in-Some.ensures.told c.args.queries c.args.origins) (c.fault_of.ensures c.in-Some.ensures.within) s).left

pub returns-in-None-clause-ends : goal.returns-in-None-clause-ends
returns-in-None-clause-ends g c = λ t s.
    let k = g.C.TypeCatalog.meaning c.args.catalog.now in
    let h = held_of c.args.book.now in
    let call = bind_call c.args.parameters.now c.args.fields.now c.args.queries c.args.origins c.args.parameter_slots c.args.column_slots in
    let meant = meant_so c.args.host.now c.args.parameters.now c.args.fields.now c.args.queries c.args.origins c.args.parameter_slots c.args.column_slots in
    let within = c.in-None.ensures.within in
    passed_ends k h c.args.host.now call t (bound_ending c.bind_lists.result) (c.in-None.ensures.told c.args.queries c.args.origins)
    (c.bind_lists.ensures.told within.0 within.1 t s ∙ ap (λ x. (limited h.capacity k t x).ending) meant)

pub returns-in-None-clause-left : goal.returns-in-None-clause-left
returns-in-None-clause-left g c = λ related t s.
    let k = g.C.TypeCatalog.meaning c.args.catalog.now in
    let h = held_of c.args.book.now in
    let now = held_of c.bind_lists.new.book in
    let call = bind_call c.args.parameters.now c.args.fields.now c.args.queries c.args.origins c.args.parameter_slots c.args.column_slots in
    let meant = meant_so c.args.host.now c.args.parameters.now c.args.fields.now c.args.queries c.args.origins c.args.parameter_slots c.args.column_slots in
    let within = c.in-None.ensures.within in
    passed_left k h c.args.host.now call t now (c.in-None.ensures.told c.args.queries c.args.origins)
    (subst (λ x. Stands now (tables_left h.capacity k t x)) meant (c.bind_lists.ensures.left within.0 within.1 related t s))
