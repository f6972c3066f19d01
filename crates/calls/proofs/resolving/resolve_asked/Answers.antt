use Rattle.std.proofs.Common.{◌∙◌, ◌≤◌, ap, arith, length, subst, sym}
use Rattle.book.specs.Book.{held_of}
use Rattle.book.specs.Stands.{Stands}
use Rattle.calls.specs.Endings.{ending_of}
use Rattle.calls.specs.Resolving.{Few}
use Rattle.life.specs.Calls.{Call}
use Rattle.life.specs.HostCalls.{host_resolve}
use Rattle.requests.specs.Early.{early_told, resolve_asked}
use Rattle.room.specs.Room.{limited, tables_left}
use Rattle.calls.proofs.Named.{few_entries, meant_entries}
use Rattle.calls.proofs.Named.{passed_writes, turned_writes}
use Rattle.calls.proofs.Turned.{passed, turned}
use Rattle.calls.proofs.resolving.resolve_asked.Goals as goal
use Rattle.calls.proofs.resolving.resolve_asked.Goals.{After-resolve_entries}

pub returns-in-Some-clause-did : goal.returns-in-Some-clause-did
returns-in-Some-clause-did g c t s agree =
    let told = early_told c.in-Some.early in
    turned (g.C.TypeCatalog.meaning c.args.catalog.now) (held_of c.args.book.now) c.args.host.now (host_resolve (resolve_asked c.args.entries.now (length c.args.out.now))) t told.0 told.1 c.fault_of.result
    c.in-Some.ensures.told (c.fault_of.ensures c.in-Some.ensures.within) s

pub returns-in-None-clause-did : goal.returns-in-None-clause-did
returns-in-None-clause-did g c t s agree =
    let k = g.C.TypeCatalog.meaning c.args.catalog.now in
    let h = held_of c.args.book.now in
    let few : Few c.args.host.now c.args.entries.now = few_entries c.args.host.now c.args.entries.now (length c.args.out.now) c.in-None.ensures.told c.in-None.ensures.within.0 in
    let did = c.resolve_entries.ensures.did few (omega (arith, c.args.work.now.lent.text_lent)) (omega (arith, c.args.work.now.lent.names_lent)) t s agree in
    let meant = sym (meant_entries c.args.host.now c.args.entries.now (length c.args.out.now)) in
    passed k h c.args.host.now (host_resolve (resolve_asked c.args.entries.now (length c.args.out.now))) t (held_of c.resolve_entries.new.book) (ending_of c.resolve_entries.result)
    c.in-None.ensures.told (did.ends ∙ ap (λ (call : Call). (limited h.capacity k t call).ending) meant)
    (subst (λ (call : Call). Stands (held_of c.resolve_entries.new.book) (tables_left h.capacity k t call)) meant did.left)

pub returns-in-Some-clause-written : goal.returns-in-Some-clause-written
returns-in-Some-clause-written g c t s agree =
    turned_writes (g.C.TypeCatalog.meaning c.args.catalog.now) (held_of c.args.book.now) c.args.host.now t c.args.entries.now (length c.args.out.now) (early_told c.in-Some.early)
    c.in-Some.ensures.told c.args.out.now

pub returns-in-None-clause-written : goal.returns-in-None-clause-written
returns-in-None-clause-written g c t s agree =
    let k = g.C.TypeCatalog.meaning c.args.catalog.now in
    let h = held_of c.args.book.now in
    let few : Few c.args.host.now c.args.entries.now = few_entries c.args.host.now c.args.entries.now (length c.args.out.now) c.in-None.ensures.told c.in-None.ensures.within.0 in
    let text : 32768 ≤ length c.args.work.now.text.now = omega (arith, c.args.work.now.lent.text_lent) in
    let names : 512 ≤ length c.args.work.now.names.now = omega (arith, c.args.work.now.lent.names_lent) in
    passed_writes k h c.args.host.now t c.args.entries.now (length c.args.out.now) c.in-None.ensures.told c.args.out.now c.resolve_entries.new.out (ending_of c.resolve_entries.result)
    (c.resolve_entries.ensures.did few text names t s agree).ends
    (λ accepted. c.resolve_entries.ensures.written accepted few text names t s agree c.in-None.ensures.within.1) c.resolve_entries.ensures.unwritten
