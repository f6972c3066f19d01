use Rattle.std.proofs.Common.{rules, ◌∙◌, true, false, ap, refl, sym}
use Rattle.catalog.specs.Meaning.{row_meaning, shape_meaning, shape_told}
use Rattle.book.specs.Book.{held_of}
use Rattle.book.proofs.Described.{description_fits, description_founded, members_fit}
use Rattle.book.proofs.OneSettled.{settles_one}
use Rattle.book.proofs.Rows.{settled_stands, settled_tree}
use Rattle.book.proofs.Shapes.{parts_of_row}
use Rattle.book.proofs.tables.Book.settle.Goals as goal

pub push_kind-requires-clause-fits : goal.push_kind-requires-clause-fits
push_kind-requires-clause-fits c =
    let r = row_meaning c.args.row.now in
    let s = shape_meaning c.in-Ok.shape in
    members_fit (held_of c.args.self.now) c.args.oid.0 r s (sym c.settles.ensures ∙ c.if-not-settles.false) (parts_of_row r s (sym c.shape.ensures ∙ ap shape_told c.in-Ok.is))

pub push_descriptor-requires-clause-fits : goal.push_descriptor-requires-clause-fits
push_descriptor-requires-clause-fits c =
    let r = row_meaning c.args.row.now in
    let s = shape_meaning c.in-Ok.shape in
    description_fits (held_of c.args.self.now) c.args.oid.0 r s (sym c.settles.ensures ∙ c.if-not-settles.false) (parts_of_row r s (sym c.shape.ensures ∙ ap shape_told c.in-Ok.is))
    (held_of c.push_kind.new.self) c.in-Some.ensures.held

pub push_descriptor-requires-clause-founded : goal.push_descriptor-requires-clause-founded
push_descriptor-requires-clause-founded c =
    let r = row_meaning c.args.row.now in
    let s = shape_meaning c.in-Ok.shape in
    description_founded (held_of c.args.self.now) c.args.oid.0 r s (sym c.settles.ensures ∙ c.if-not-settles.false) (parts_of_row r s (sym c.shape.ensures ∙ ap shape_told c.in-Ok.is))
    (held_of c.push_kind.new.self) c.in-Some.ensures.held _ c.in-Some.ensures.components

pub returns-in_default-clause-settles_one : goal.returns-in_default-clause-settles_one
returns-in_default-clause-settles_one c = λ k there apart room.
    settles_one (held_of c.args.self.now) c.args.oid.0 (row_meaning c.args.row.now) k there apart room false (search rules) _ refl

pub returns-then-not-settles-clause-settles_one : goal.returns-then-not-settles-clause-settles_one
returns-then-not-settles-clause-settles_one c = λ k there apart room.
    settles_one (held_of c.args.self.now) c.args.oid.0 (row_meaning c.args.row.now) k there apart room false (search rules) _ refl

pub returns-in-Some-clause-tree : goal.returns-in-Some-clause-tree
returns-in-Some-clause-tree c = λ _. settled_tree (held_of c.args.self.now) c.args.oid.0 (row_meaning c.args.row.now) (search rules)

pub returns-in-Some-clause-stands : goal.returns-in-Some-clause-stands
returns-in-Some-clause-stands c =
    settled_stands (held_of c.args.self.now) c.args.oid.0 (row_meaning c.args.row.now) (search rules) (held_of c.push_descriptor.new.self) (search rules)

pub returns-in-Some-clause-settles_one : goal.returns-in-Some-clause-settles_one
returns-in-Some-clause-settles_one c = λ k there apart room.
    settles_one (held_of c.args.self.now) c.args.oid.0 (row_meaning c.args.row.now) k there apart room true (search rules) (held_of c.push_descriptor.new.self) (search rules)
