use Rattle.std.proofs.Common.{◌∙◌}
use Rattle.row_table.specs.Held.{nothing_held}
use Rattle.row_table.proofs.Put.{Holds, nothing_put}
use Rattle.row_table.proofs.table.RowTable.new.Goals as goal
use Rattle.row_table.proofs.table.RowTable.new.Goals.{After-new-4}

put : (c : After-new-4) → Holds (nothing_held c.args.allowance) c.new.result c.new-2.result 0 c.new-3.result c.new-4.result c.args.allowance
put c =
    nothing_put _ _ _ _ _ _
    c.new.ensures.holds c.new.ensures.count (c.new.ensures.size ∙ c.if-rows-ne-MOST_ROWS.false)
    c.new-2.ensures.holds c.new-2.ensures.count (c.new-2.ensures.size ∙ c.if-names-ne-MOST_NAMES.false) c.new-2.ensures.text c.if-text-ne-TEXT_BYTES.false
    c.new-3.ensures.holds c.new-3.ensures.count (c.new-3.ensures.size ∙ c.if-relations-ne-MOST_COLUMNS.false)
    c.new-4.ensures.holds c.new-4.ensures.count (c.new-4.ensures.size ∙ c.if-columns-ne-MOST_COLUMNS.false)

pub invariant_of-result : goal.invariant_of-result
invariant_of-result c = record { roomy = (put c).roomy; consistent = (put c).consistent }

pub returns : goal.returns
returns c = (
  record {
    rows = c.if-rows-ne-MOST_ROWS.false;
    names = c.if-names-ne-MOST_NAMES.false;
    text = c.if-text-ne-TEXT_BYTES.false;
    relations = c.if-relations-ne-MOST_COLUMNS.false;
    columns = c.if-columns-ne-MOST_COLUMNS.false;
  },
  (put (goal.at.returns c).After-new-4).held,
)
