use Rattle.std.proofs.Common.{◌≡◌, map, take}
use Rattle.catalog.specs.Meaning.{attribute_meaning}
use Rattle.book.specs.Adding.{attribute_members}
use Rattle.book.specs.Book.{held_of}
use Rattle.book.specs.Held.{with_members}
use Rattle.book.proofs.tables.Book.push_attributes.Given as goal

abbrev pub invariant-loop-attribute : goal.invariant-loop-attribute
invariant-loop-attribute l = held_of l.self ≡ with_members (held_of l.fn.self) (take l.attribute-index (attribute_members (held_of l.fn.self).descriptions (map attribute_meaning l.attribute-items)))
