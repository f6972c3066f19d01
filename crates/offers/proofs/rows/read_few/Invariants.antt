use Rattle.std.proofs.Common.{take, Some}
use Rattle.catalog.specs.Few.{standing}
use Rattle.offers.specs.Read.{EachRead}
use Rattle.offers.proofs.rows.read_few.Given as goal

abbrev pub invariant-loop-one : goal.invariant-loop-one
invariant-loop-one g l = EachRead (goal.F-post g l.read) (take l.one-index l.offered) (Some (standing l.few))
