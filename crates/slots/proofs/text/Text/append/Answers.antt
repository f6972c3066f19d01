use Rattle.std.proofs.Common.{rules}
use Rattle.slots.proofs.Growing.{laid_when_written}
use Rattle.slots.proofs.text.Text.append.Goals as goal

pub returns-clause-after : goal.returns-clause-after
returns-clause-after c =
    laid_when_written _ _ _ _ _ _ _ _ c.self.view_is c.self.invariant c.copy_from_slice.ensures.after (search rules) (search rules) (search rules) (search rules) (search rules) (search rules)
