use Rattle.std.proofs.Common.{◌∙◌, ap, option_map, sym}
use Rattle.book.specs.Book.{held_of}
use Rattle.book.specs.Held.{book_held}
use Rattle.book.specs.Settled.{column_text_told}
use Rattle.life.specs.Tests.{both}
use Rattle.life.specs.Written.{origin_at, origin_found}
use Rattle.binding.proofs.writing.origin_from.Goals as goal

pub returns-in-Some-column : goal.returns-in-Some-column
returns-in-Some-column c = λ sized.
    let held = c.in-Some-column.ensures in
    let fits = sized c.in-Some.relation.0 c.in-Some-attribute.attribute.0 (column_text_told c.in-Some-column.column) (sym held) in
    c.named_origin.ensures fits.0 fits.1
    ∙ ap origin_found held
    ∙ sym (λ i. origin_at (book_held (held_of c.args.book.now)) (both (option_map (λ r. r.0) (c.in-Some.is i)) (option_map (λ a. a.0) (c.in-Some-attribute.is i))))
