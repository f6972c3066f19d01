use Rattle.std.proofs.Common.{Some, ap, sym, ◌∙◌}
use Rattle.std.specs.List.{slice_get}
use Rattle.std.specs.Option.{option_and_then, option_map}
use Rattle.book.specs.Book.{held_of}
use Rattle.book.specs.Settled.{settled_component, settled_told}
use Rattle.book.proofs.Told.{components_stand}
use Rattle.book.proofs.tables.Book.made_of.Goals as goal

pub returns-in_ok-descriptor-in-Described : goal.returns-in_ok-descriptor-in-Described
returns-in_ok-descriptor-in-Described c =
    let d = c.in_ok-descriptor-in-Described in
    ap (option_and_then (settled_component (held_of c.args.self.now))) c.component_at.ensures
    ∙ components_stand c.args.self.now c.in-Described.slot.0 d.field-0 d.ensures.there c.args.i
    ∙ ap (λ x. option_map (λ t. Some t) (option_and_then (λ t. slice_get t.components c.args.i) x)) (d.ensures.told ∙ ap (settled_told (held_of c.args.self.now)) (sym c.in-Described.is))
