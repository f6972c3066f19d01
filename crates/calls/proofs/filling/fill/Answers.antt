use Rattle.std.proofs.Common.{[]}
use Rattle.book.specs.Book.{held_of}
use Rattle.calls.specs.Endings.{ending_of}
use Rattle.life.specs.HostCalls.{host_fill}
use Rattle.calls.proofs.Layers.{layers}
use Rattle.calls.proofs.Lives.{one_more}
use Rattle.calls.proofs.filling.fill.Goals as goal

pub returns-clause-layer : goal.returns-clause-layer
returns-clause-layer g c =
    layers (g.C.TypeCatalog.meaning c.args.catalog.now) (held_of c.args.book.now) [] (host_fill c.args.oids.now) c.fill_asked.result
    (λ t s. (c.fill_asked.ensures.did t s).ends)

pub returns-clause-lives : goal.returns-clause-lives
returns-clause-lives g c h d l m =
    one_more h d (g.C.TypeCatalog.meaning c.args.catalog.now) (g.C.TypeCatalog.meaning c.fill_asked.new.catalog) (held_of c.args.book.now) (held_of c.fill_asked.new.book) []
    (host_fill c.args.oids.now) (ending_of c.fill_asked.result) (g.C.TypeCatalog.laws c.args.catalog.now) l m c.fill_asked.ensures.cost c.fill_asked.ensures.capacity
    (λ t s _. c.fill_asked.ensures.did t s)
