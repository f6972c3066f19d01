use Rattle.std.proofs.Common.{◌≡◌, subst, sym}
use Rattle.book.specs.Book.{held_of}
use Rattle.catalog.specs.Catalog.{Opened}
use Rattle.binding.specs.Asked.{asked_of}
use Rattle.binding.proofs.Ending.{gathered_before}
use Rattle.binding.proofs.memory.ColumnFinds.round.Goals as goal

pub returns : goal.returns
returns g c =
    let k = g.C.TypeCatalog.meaning c.args.catalog.now in
    let opened = c.in_ok-opened.ensures in
    let closed : g.C.TypeCatalog.meaning c.enter.new.catalog ≡ g.C.TypeCatalog.meaning c.close.new.self = sym c.close.ensures in (
      subst (Opened k) closed opened,
      λ few. gathered_before k (g.C.TypeCatalog.meaning c.enter.new.catalog) opened (asked_of (held_of c.args.book.now) c.args.fields.now) c.ask_all.new.self (c.ask_all.ensures few (c.clear.ensures _)),
    )
