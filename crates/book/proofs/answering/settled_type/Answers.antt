use Rattle.std.proofs.Common.{ap, sym, ◌∙◌}
use Rattle.book.specs.Settled.{settled_component}
use Rattle.book.proofs.Told.{entry_stands}
use Rattle.book.proofs.answering.settled_type.Goals as goal

pub returns-in_ok-by_oid-in-BuiltIn-clause-tree : goal.returns-in_ok-by_oid-in-BuiltIn-clause-tree
returns-in_ok-by_oid-in-BuiltIn-clause-tree c = λ h.
    entry_stands c.in-BuiltIn.oid.0 c.in_ok-by_oid-in-BuiltIn.field-0 c.in_ok-by_oid-in-BuiltIn.ensures ∙ ap (settled_component h) (sym c.in-BuiltIn.is)
