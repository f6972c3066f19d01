use Rattle.std.proofs.Common.{ap, sym, ◌∙◌}
use Rattle.std.specs.Option.{option_map}
use Rattle.book.specs.Book.{held_of}
use Rattle.book.specs.Settled.{TypeTold, settled_told}
use Rattle.book.proofs.Told.{name_inside}
use Rattle.book.proofs.tables.Book.name.Goals as goal

pub returns-in_ok-descriptor-in-Described : goal.returns-in_ok-descriptor-in-Described
returns-in_ok-descriptor-in-Described c =
    let d = c.in_ok-descriptor-in-Described in
    c.text_at.ensures
    ∙ name_inside c.args.self.now c.in-Described.slot.0 d.field-0 d.ensures.there
    ∙ ap (option_map (λ (t : TypeTold). t.name)) (d.ensures.told ∙ ap (settled_told (held_of c.args.self.now)) (sym c.in-Described.is))
