use Rattle.std.proofs.Common.{◌≡◌, ◌≤◌, ◌*◌, take}
use Rattle.std.specs.List.{flat_map}
use Rattle.script.specs.Names.{shown_byte}
use Rattle.transcript.proofs.words.write_some.Given as goal

-- what is shown of the bytes so far, of each at most three
abbrev pub invariant-loop-byte : goal.invariant-loop-byte
invariant-loop-byte g l = (take l.end l.text ≡ flat_map shown_byte (take l.byte-index l.bytes)) × (l.end ≤ l.byte-index * 3)
