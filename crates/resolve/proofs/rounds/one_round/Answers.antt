use Rattle.std.proofs.lemmas.Result.{err_from_is_err_and}
use Rattle.resolve.specs.Walks.{known_to}
use Rattle.resolve.proofs.Walking.{round_over, shut_stops}
use Rattle.resolve.proofs.rounds.one_round.Goals as goal

pub returns-in_err-round : goal.returns-in_err-round
returns-in_err-round g c =
    let p = err_from_is_err_and c.from_residual.result c.from_residual.ensures.1 in
    let shut = c.in_err-round.ensures in
    rw (p.1, p.2, shut.0) (shut_stops (g.C.TypeCatalog.meaning c.args.catalog.now) (g.C.TypeCatalog.meaning c.enter.new.catalog) (known_to c.args.book.now) c.args.most c.args.opened c.args.finds.now
    c.requires.most c.requires.few c.requires.waits shut.1)

pub returns : goal.returns
returns g c =
    round_over (g.C.TypeCatalog.meaning c.args.catalog.now) (g.C.TypeCatalog.meaning c.enter.new.catalog) (known_to c.args.book.now) c.args.most c.args.opened c.args.finds.now
    c.requires.most c.requires.few c.requires.waits
    (g.C.TypeCatalog.meaning c.close.new.self) c.read_rows-read.new.finds c.read_rows-read.result c.in_ok-round.ensures c.close.ensures c.read_rows-read.ensures
