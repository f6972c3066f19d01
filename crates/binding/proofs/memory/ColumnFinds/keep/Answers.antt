use Rattle.std.proofs.Common.{◌∙◌, ap, sym}
use Rattle.finds.specs.Columns.{columns_told}
use Rattle.keys.specs.declared.kinds.Attribute.{Attribute}
use Rattle.catalog.specs.declared.values.Column.{Column}
use Rattle.slots.specs.Stack.{LentItems}
use Rattle.binding.proofs.memory.ColumnFinds.keep.Goals as goal

pub returns-clause-kept : goal.returns-clause-kept
returns-clause-kept c = λ k laws related asked so once t s.
    c.keep_columns.ensures.kept k laws related asked
    (ap columns_told c.as_slice.ensures ∙ ap (λ (x : LentItems (Attribute × Column)). columns_told x.items) c.full.ensures.found ∙ so.found) t s
    (sym (c.in_default.ensures.full k asked so once t s))
