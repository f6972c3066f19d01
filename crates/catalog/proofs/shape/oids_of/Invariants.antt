use Rattle.std.proofs.Common.{◌≡◌, map, take}
use Rattle.catalog.specs.Meaning.{attribute_meaning, links_told}
use Rattle.catalog.specs.Shape.{oids_of}
use Rattle.catalog.proofs.shape.oids_of.Given as goal

abbrev pub invariant-loop-attribute : goal.invariant-loop-attribute
invariant-loop-attribute l = links_told l.oids ≡ oids_of (map attribute_meaning (take l.attribute-index l.attribute-items))
