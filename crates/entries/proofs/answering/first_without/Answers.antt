use Rattle.std.proofs.Common.{◌∙◌, sym, arith}
use Rattle.entries.specs.Notes.{leads_told}
use Rattle.entries.proofs.Led.{first_behind, first_here}
use Rattle.entries.proofs.answering.first_without.Goals as goal

pub returns-then-lacks_oid_at-clause-first : goal.returns-then-lacks_oid_at-clause-first
returns-then-lacks_oid_at-clause-first c host =
    sym (c.loop-place.invariant host ∙ first_here _ host c.args.entries.now (leads_told c.args.notes.now) _ c.loop-place.place c.loop-place-test.true
    (sym (c.lacks_oid_at.ensures host) ∙ c.if-lacks_oid_at.true))

pub loop-place-preserved : goal.loop-place-preserved
loop-place-preserved c host =
    c.loop-place.invariant host ∙ first_behind _ host c.args.entries.now (leads_told c.args.notes.now) _ c.loop-place.place c.loop-place-test.true
    (sym (c.lacks_oid_at.ensures host) ∙ c.if-lacks_oid_at.false) _ (omega arith)
