use Rattle.std.proofs.Common.{◌≡◌, ◌+◌, ◌*◌, ◌≤◌, drop}
use Rattle.finds.specs.Resolving.{declared_bytes}
use Rattle.requests.specs.Asked.{declared_by}
use Rattle.finds.proofs.declared.bytes_of.Given as goal

abbrev pub invariant-loop-entry : goal.invariant-loop-entry
invariant-loop-entry l =
    (declared_bytes (declared_by l.host l.entries) ≡ l.bytes + declared_bytes (declared_by l.host (drop l.entry-index l.entries))) ×
    (l.bytes ≤ 4294967296 * l.entry-index)
