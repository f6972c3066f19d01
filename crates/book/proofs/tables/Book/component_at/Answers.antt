use Rattle.std.proofs.Common.{Option, ap, sym, ◌∙◌}
use Rattle.std.specs.List.{slice_get}
use Rattle.std.specs.Option.{option_and_then, option_map}
use Rattle.book.specs.Book.{held_of}
use Rattle.book.specs.Descriptions.{Member, components_of}
use Rattle.book.specs.declared.descriptor.Component.{Component}
use Rattle.book.specs.declared.descriptor.Part.{Part}
use Rattle.book.proofs.Told.{run_at}
use Rattle.book.proofs.tables.Book.component_at.Goals as goal

pub returns-in_ok-part-in-Composite : goal.returns-in_ok-part-in-Composite
returns-in_ok-part-in-Composite c =
    let b = c.args.self.now in
    ap (λ x. option_and_then (λ (y : Option Component). y) (option_map (λ (p : Part). p.typed) x)) c.in_ok-part-in-Composite.ensures
    ∙ ap (option_and_then (λ (y : Option Component). y)) (sym (run_at (λ (m : Member). m.typed) b.names.text.text c.in-Composite.attributes b.parts.items c.args.i))
    ∙ ap (λ k. option_and_then (λ (y : Option Component). y) (slice_get (components_of (held_of b).members k) c.args.i)) (sym c.in-Composite.is)
