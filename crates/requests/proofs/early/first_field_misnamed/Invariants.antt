use Rattle.std.proofs.Common.{◌≡◌, ◌+◌, drop, map}
use Rattle.life.specs.HostCalls.{first_misnamed, field_name}
use Rattle.requests.specs.Asked.{field_asked}
use Rattle.requests.proofs.early.first_field_misnamed.Given as goal

abbrev pub invariant-loop-i : goal.invariant-loop-i
invariant-loop-i l =
    first_misnamed l.host field_name l.from (map field_asked l.fields) ≡ first_misnamed l.host field_name (l.from + l.i) (map field_asked (drop l.i l.fields))
