use Rattle.std.proofs.Common.{take, arith, length-take}
use Rattle.catalog.specs.Few.{standing}
use Rattle.catalog.proofs.Fits.{at_most}
use Rattle.offers.proofs.Every.{all_read, as_many, nothing_read, one_more, one_stops, too_many}
use Rattle.offers.proofs.rows.read_few.Given as given
use Rattle.offers.proofs.rows.read_few.Goals as goal

pub returns-in_err-read : goal.returns-in_err-read
returns-in_err-read g c =
    let reads = given.F-post g c.args.read in
    nothing_read reads _ standing _ c.from_residual.ensures
    (one_stops reads c.args.offered.now c.loop-one.one-index c.one-item.result _ c.loop-one-test.true c.one-item.is c.loop-one.invariant c.in_err-read.ensures)

pub returns-in_err-push : goal.returns-in_err-push
returns-in_err-push g c =
    let reads = given.F-post g c.args.read in
    let some = as_many reads (take c.loop-one.one-index c.args.offered.now) (standing c.loop-one.few) c.loop-one.invariant in
    too_many reads c.args.offered.now standing _ c.from_residual-in_err-push.ensures
    (omega (arith, some, c.in_err-push.ensures, length-take c.loop-one.one-index c.args.offered.now))

pub returns : goal.returns
returns g c =
    all_read (given.F-post g c.args.read) c.args.offered.now c.loop-one.one-index (standing c.loop-one.few) c.loop-one-test.false c.loop-one.invariant (at_most c.loop-one.few)

pub loop-one-preserved : goal.loop-one-preserved
loop-one-preserved g c =
    one_more (given.F-post g c.args.read) c.args.offered.now c.loop-one.one-index c.one-item.result _ _ _ c.loop-one-test.true c.one-item.is c.loop-one.invariant c.in_ok-read.ensures c.in_ok-push.ensures
