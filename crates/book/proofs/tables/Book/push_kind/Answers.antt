use Rattle.std.proofs.Common.{◌∙◌, ap, sym}
use Rattle.std.proofs.lemmas.List.{length-map}
use Rattle.catalog.specs.Few.{standing}
use Rattle.catalog.specs.Meaning.{attribute_meaning, head_meaning, row_meaning, shape_meaning, text_of}
use Rattle.catalog.specs.Shape.{array, domain, range}
use Rattle.book.specs.Book.{held_of}
use Rattle.book.proofs.Laying.{array_laid, composite_laid, domain_laid, enum_laid, head_is, no_component, pseudo_laid, range_laid, simple_laid}
use Rattle.book.proofs.tables.Book.push_kind.Goals as goal

pub returns-in_err-only_component-in-Domain : goal.returns-in_err-only_component-in-Domain
returns-in_err-only_component-in-Domain c =
    let h = held_of c.args.self.now in
    let s = shape_meaning c.args.shape.now in
    absurd (no_component h.descriptions s.links (head_is h (row_meaning c.args.row.now) s c.requires.shape domain (ap head_meaning c.in-Domain.is)) c.requires.known (sym c.only_component.ensures ∙ c.in_err-only_component-in-Domain.was))

pub returns-in_ok-only_component-in-Domain : goal.returns-in_ok-only_component-in-Domain
returns-in_ok-only_component-in-Domain c =
    domain_laid (held_of c.args.self.now) (row_meaning c.args.row.now) (shape_meaning c.args.shape.now) c.requires.shape (ap head_meaning c.in-Domain.is)
    c.in_ok-only_component-in-Domain.field-0 (sym c.only_component.ensures ∙ c.in_ok-only_component-in-Domain.was)

pub returns-in_err-only_component-in-Array : goal.returns-in_err-only_component-in-Array
returns-in_err-only_component-in-Array c =
    let h = held_of c.args.self.now in
    let s = shape_meaning c.args.shape.now in
    absurd (no_component h.descriptions s.links (head_is h (row_meaning c.args.row.now) s c.requires.shape array (ap head_meaning c.in-Array.is)) c.requires.known (sym c.only_component-in-Array.ensures ∙ c.in_err-only_component-in-Array.was))

pub returns-in_ok-only_component-in-Array : goal.returns-in_ok-only_component-in-Array
returns-in_ok-only_component-in-Array c =
    array_laid (held_of c.args.self.now) (row_meaning c.args.row.now) (shape_meaning c.args.shape.now) c.requires.shape (ap head_meaning c.in-Array.is)
    c.in_ok-only_component-in-Array.field-0 (sym c.only_component-in-Array.ensures ∙ c.in_ok-only_component-in-Array.was)

pub returns-in_err-only_component-in-Range : goal.returns-in_err-only_component-in-Range
returns-in_err-only_component-in-Range c =
    let h = held_of c.args.self.now in
    let s = shape_meaning c.args.shape.now in
    absurd (no_component h.descriptions s.links (head_is h (row_meaning c.args.row.now) s c.requires.shape range (ap head_meaning c.in-Range.is)) c.requires.known (sym c.only_component-in-Range.ensures ∙ c.in_err-only_component-in-Range.was))

pub returns-in_ok-only_component-in-Range : goal.returns-in_ok-only_component-in-Range
returns-in_ok-only_component-in-Range c =
    range_laid (held_of c.args.self.now) (row_meaning c.args.row.now) (shape_meaning c.args.shape.now) c.requires.shape (ap head_meaning c.in-Range.is)
    c.in_ok-only_component-in-Range.field-0 (sym c.only_component-in-Range.ensures ∙ c.in_ok-only_component-in-Range.was)

pub returns-in-Simple : goal.returns-in-Simple
returns-in-Simple c = simple_laid (held_of c.args.self.now) (row_meaning c.args.row.now) (shape_meaning c.args.shape.now) c.requires.shape (ap head_meaning c.in-Simple.is)

pub returns-in-Pseudo : goal.returns-in-Pseudo
returns-in-Pseudo c = pseudo_laid (held_of c.args.self.now) (row_meaning c.args.row.now) (shape_meaning c.args.shape.now) c.requires.shape (ap head_meaning c.in-Pseudo.is)

pub returns-in-Enum : goal.returns-in-Enum
returns-in-Enum c =
    let p = c.push_labels in
    enum_laid (held_of c.args.self.now) (row_meaning c.args.row.now) (shape_meaning c.args.shape.now) c.requires.shape (held_of p.new.self) p.result p.ensures.first
    _ (ap head_meaning c.in-Enum.is) (p.ensures.count ∙ sym (length-map (standing c.args.row.now.labels) text_of)) p.ensures.held

pub returns-in-Composite : goal.returns-in-Composite
returns-in-Composite c =
    let p = c.push_attributes in
    composite_laid (held_of c.args.self.now) (row_meaning c.args.row.now) (shape_meaning c.args.shape.now) c.requires.shape (held_of p.new.self) p.result p.ensures.first
    _ (ap head_meaning c.in-Composite.is) (p.ensures.count ∙ sym (length-map (standing c.args.row.now.attributes) attribute_meaning)) p.ensures.held
