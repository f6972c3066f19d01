use Rattle.std.proofs.Common.{length, subst}
use Rattle.book.specs.Book.{held_of}
use Rattle.calls.specs.Endings.{ending_of}
use Rattle.life.specs.Calls.{Call}
use Rattle.life.specs.HostCalls.{host_resolve}
use Rattle.life.specs.Keep.{call_event}
use Rattle.requests.specs.Early.{resolve_asked}
use Rattle.book.specs.Lived.{LawHolds}
use Rattle.std.proofs.Common.{◌∷◌}
use Rattle.calls.proofs.Layers.{agreed_layers}
use Rattle.calls.proofs.Lives.{agreeing, one_more}
use Rattle.calls.proofs.Named.{meant_entries}
use Rattle.calls.proofs.resolving.resolve.Goals as goal

pub returns-clause-layer : goal.returns-clause-layer
returns-clause-layer g c =
    agreed_layers (g.C.TypeCatalog.meaning c.args.catalog.now) (held_of c.args.book.now) (held_of c.resolve_asked.new.book) c.args.host.now
    (host_resolve (resolve_asked c.args.entries.now (length c.args.out.now))) c.resolve_asked.result c.resolve_asked.ensures.did

pub returns-clause-lives : goal.returns-clause-lives
returns-clause-lives g c h d l m =
    let k = g.C.TypeCatalog.meaning c.args.catalog.now in
    let then = g.C.TypeCatalog.meaning c.resolve_asked.new.catalog in
    let b = held_of c.args.book.now in
    let slots = length c.args.out.now in
    subst (λ (call : Call). LawHolds (call_event k call (ending_of c.resolve_asked.result) ∷ h) then (held_of c.resolve_asked.new.book)) (meant_entries c.args.host.now c.args.entries.now slots)
    (one_more h d k then b (held_of c.resolve_asked.new.book) c.args.host.now (host_resolve (resolve_asked c.args.entries.now slots)) (ending_of c.resolve_asked.result)
    (g.C.TypeCatalog.laws c.args.catalog.now) l m c.resolve_asked.ensures.cost c.resolve_asked.ensures.capacity
    (λ t s lived. c.resolve_asked.ensures.did t s (agreeing h k b.capacity t lived)))
