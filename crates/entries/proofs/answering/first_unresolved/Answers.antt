use Rattle.std.proofs.Common.{◌∙◌, sym, arith}
use Rattle.entries.specs.Notes.{leads_told}
use Rattle.entries.proofs.Led.{first_behind, first_here, first_none}
use Rattle.entries.proofs.answering.first_unresolved.Goals as goal

pub returns-then-is_unresolved_at-clause-first : goal.returns-then-is_unresolved_at-clause-first
returns-then-is_unresolved_at-clause-first c catalog from all host =
    sym (c.loop-place.invariant catalog from all host ∙ first_here _ host c.args.entries.now (leads_told c.args.notes.now) _ c.loop-place.place c.loop-place-test.true
    (sym (c.is_unresolved_at.ensures catalog from all host) ∙ c.if-is_unresolved_at.true))

pub loop-place-preserved : goal.loop-place-preserved
loop-place-preserved c catalog from all host =
    c.loop-place.invariant catalog from all host ∙ first_behind _ host c.args.entries.now (leads_told c.args.notes.now) _ c.loop-place.place c.loop-place-test.true
    (sym (c.is_unresolved_at.ensures catalog from all host) ∙ c.if-is_unresolved_at.false) _ (omega arith)

pub returns-clause-first : goal.returns-clause-first
returns-clause-first c catalog from all host =
    sym (c.loop-place.invariant catalog from all host ∙ first_none _ host c.args.entries.now (leads_told c.args.notes.now) c.loop-place.place c.loop-place-test.false)
