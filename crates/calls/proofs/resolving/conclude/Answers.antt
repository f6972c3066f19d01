use Rattle.std.proofs.Common.{◌∙◌, ap, arith, false}
use Rattle.life.specs.Outcomes.{closing}
use Rattle.life.specs.Steps.{refused}
use Rattle.calls.proofs.Concluded.{closes_nine}
use Rattle.calls.proofs.resolving.conclude.Goals as goal

pub returns-in-Some-clause-ends : goal.returns-in-Some-clause-ends
returns-in-Some-clause-ends c few k from all host =
    ap (λ place. refused 9 place false c.args.rounds) (c.told_place.ensures (omega (arith, c.in-Some.ensures.below, few)))
    ∙ closes_nine c.args.rounds c.in-Some.place _ _ (c.in-Some.ensures.first k from all host)

pub returns-in-Some-first_without-clause-ends : goal.returns-in-Some-first_without-clause-ends
returns-in-Some-first_without-clause-ends c few k from all host =
    ap (λ place. refused 10 place false c.args.rounds) (c.told_place-in-Some-first_without.ensures (omega (arith, c.in-Some-first_without.ensures.below, few)))
    ∙ (λ i. closing c.args.rounds (c.in_default.ensures.first k from all host i) (c.in-Some-first_without.ensures.first host i))

pub returns-clause-ends : goal.returns-clause-ends
returns-clause-ends c few k from all host =
    λ i. closing c.args.rounds (c.in_default.ensures.first k from all host i) (c.in_default-first_without.ensures.first host i)
