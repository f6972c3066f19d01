use Rattle.std.proofs.Common.{◌≡◌, ◌*◌, ◌≤◌, map, take}
use Rattle.catalog.specs.Meaning.{text_of}
use Rattle.room.specs.Sizes.{bytes}
use Rattle.book.proofs.settling.bytes_of_labels.Given as goal

abbrev pub invariant-loop-label : goal.invariant-loop-label
invariant-loop-label l = (l.bytes ≡ bytes (map text_of (take l.label-index l.label-items))) × (l.bytes ≤ 63 * l.label-index)
