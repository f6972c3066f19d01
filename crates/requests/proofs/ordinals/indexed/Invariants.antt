use Rattle.std.proofs.Common.{◌+◌, ◌≤◌, drop, length}
use Rattle.requests.specs.Ordinals.{Indexed}
use Rattle.slots.specs.Slots.{filled}
use Rattle.requests.proofs.ordinals.indexed.Given as goal

-- a slot is left for each name that is to come
abbrev pub invariant-loop-place : goal.invariant-loop-place
invariant-loop-place l = record {
  indexed : Indexed l.host l.place (drop l.place l.names) l.map.slots.now;
  room : filled l.map.slots.now + l.place ≤ length l.map.slots.now;
}
