use Rattle.std.proofs.Common.{arith}
use Rattle.std.proofs.lemmas.Bool.Decides.{Decides-at}
use Rattle.catalog.specs.Meaning.{row_meaning}
use Rattle.offers.proofs.Alike.{row_alike}
use Rattle.offers.proofs.Decided.{same-row-decides}
use Rattle.offers.proofs.same.same_row.Goals as goal

pub returns-clause-decides : goal.returns-clause-decides
returns-clause-decides c = Decides-at _ _ (grind (arith, row_alike)) (same-row-decides (row_meaning c.args.a.now) (row_meaning c.args.b.now))
