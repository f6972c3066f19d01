use Rattle.std.proofs.Common.{◌≡◌, drop, map}
use Rattle.life.specs.HostCalls.{first_misnamed, type_name}
use Rattle.requests.specs.Asked.{type_asked}
use Rattle.requests.proofs.early.first_misnamed.Given as goal

abbrev pub invariant-loop-place : goal.invariant-loop-place
invariant-loop-place l =
    first_misnamed l.host type_name 0 (map type_asked l.entries) ≡ first_misnamed l.host type_name l.place (map type_asked (drop l.place l.entries))
