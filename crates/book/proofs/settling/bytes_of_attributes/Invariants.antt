use Rattle.std.proofs.Common.{◌≡◌, ◌*◌, ◌≤◌, map, take}
use Rattle.catalog.specs.Meaning.{attribute_meaning}
use Rattle.catalog.specs.Shape.{names_of}
use Rattle.room.specs.Sizes.{bytes}
use Rattle.book.proofs.settling.bytes_of_attributes.Given as goal

abbrev pub invariant-loop-attribute : goal.invariant-loop-attribute
invariant-loop-attribute l = (l.bytes ≡ bytes (names_of (map attribute_meaning (take l.attribute-index l.attribute-items)))) × (l.bytes ≤ 63 * l.attribute-index)
