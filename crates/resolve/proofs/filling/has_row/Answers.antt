use Rattle.std.proofs.Common.{◌∙◌}
use Rattle.catalog.specs.Meaning.{row_meaning}
use Rattle.resolve.proofs.Left.{row_there}
use Rattle.resolve.proofs.filling.has_row.Goals as goal

pub returns-in-Some-row_at : goal.returns-in-Some-row_at
returns-in-Some-row_at c = λ k from all.
    c.is_some.ensures
    ∙ row_there k c.args.finds.now from all c.args.oid.0 c.in-Some.place c.in-Some.ensures (λ x. row_meaning x.now) c.in-Some-row_at.row c.in-Some-row_at.ensures.row
