use Rattle.std.proofs.Common.{[], ◌∙◌, arith}
use Rattle.book.specs.Book.{held_of}
use Rattle.calls.specs.Endings.{ending_of}
use Rattle.life.specs.HostCalls.{host_fill}
use Rattle.requests.specs.Early.{early_told}
use Rattle.calls.proofs.Turned.{passed, turned}
use Rattle.calls.proofs.filling.fill_asked.Goals as goal

pub returns-in-Some-clause-did : goal.returns-in-Some-clause-did
returns-in-Some-clause-did g c t s =
    let told = early_told c.in-Some.early in
    turned (g.C.TypeCatalog.meaning c.args.catalog.now) (held_of c.args.book.now) [] (host_fill c.args.oids.now) t told.0 told.1 c.fault_of.result
    (c.in-Some.ensures.told []) (c.fault_of.ensures c.in-Some.ensures.within) s

pub returns-in-None-clause-did : goal.returns-in-None-clause-did
returns-in-None-clause-did g c t s =
    passed (g.C.TypeCatalog.meaning c.args.catalog.now) (held_of c.args.book.now) [] (host_fill c.args.oids.now) t (held_of c.fill.new.book) (ending_of c.carried.result)
    (c.in-None.ensures.told []) (c.carried.ensures ∙ c.fill.ensures.told t s (omega (arith, c.in-None.ensures.within))) (c.fill.ensures.left t s)
