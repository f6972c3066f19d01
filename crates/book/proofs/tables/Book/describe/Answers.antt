use Rattle.std.proofs.Common.{◌≡◌, Some, ap, ◌∙◌}
use Rattle.std.specs.Option.{option_map}
use Rattle.book.specs.Book.{held_of}
use Rattle.book.specs.Descriptions.{slot_of}
use Rattle.book.proofs.Told.{entry_tree, slot_told, slot_tree}
use Rattle.book.proofs.tables.Book.describe.Goals as goal

pub returns-in-Some-clause-tree : goal.returns-in-Some-clause-tree
returns-in-Some-clause-tree c = ap (option_map (λ t. Some t)) (entry_tree c.args.oid.0 c.in-Some.built_in c.in-Some.ensures (held_of c.args.self.now))

-- the index leads to the slot
slot : (c : goal.In_ok-find-in-None) → Some c.in_ok-find-in-None.field-0 ≡ slot_of (held_of c.args.self.now).descriptions c.args.oid.0
slot c = c.in_ok-find-in-None.ensures ∙ c.args.self.now.sound.indexed c.args.oid.0

pub returns-in_ok-find-in-None-clause-tree : goal.returns-in_ok-find-in-None-clause-tree
returns-in_ok-find-in-None-clause-tree c =
    slot_tree (held_of c.args.self.now) c.args.oid.0 c.in_ok-find-in-None.field-0 c.in-None.ensures (slot c)

pub returns-in_ok-find-in-None-clause-told : goal.returns-in_ok-find-in-None-clause-told
returns-in_ok-find-in-None-clause-told c =
    slot_told (held_of c.args.self.now) c.args.oid.0 c.in_ok-find-in-None.field-0 c.in-None.ensures (slot c)
