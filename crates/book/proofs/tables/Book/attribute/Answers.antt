use Rattle.std.proofs.Common.{◌≡◌, ℕ, Some, None, Option, ap, sym, ◌∙◌}
use Rattle.std.specs.List.{slice_get}
use Rattle.std.specs.Option.{option_and_then, option_map}
use Rattle.catalog.specs.Shape.{Name}
use Rattle.unfolding.specs.Unfolding.{Tree}
use Rattle.book.specs.declared.settled.Settled.{Settled}
use Rattle.book.specs.declared.tables.Book.{Book}
use Rattle.book.specs.Book.{held_of}
use Rattle.book.specs.Settled.{settled_told, settled_tree, tree_told}
use Rattle.book.proofs.Told.{attributes_paired, both, no_name, no_type}
use Rattle.book.proofs.tables.Book.attribute.Goals as goal

-- what is told of the attribute
abbrev told : Book → Settled → ℕ → Option (Name × Tree)
told b s i = option_and_then (λ t. slice_get t.attributes i) (settled_told (held_of b) s)

-- it is nothing where no name is answered, or no type
unnamed : (c : goal.After-from_residual-in_err-name-in-Composite) → told c.args.self.now c.args.settled c.args.i ≡ None
unnamed c =
    let d = c.in_ok-attributes-in-Described in
    let described = d.ensures.told ∙ ap (settled_told (held_of c.args.self.now)) (sym c.in-Described.is) in
    no_name _ _ _ (attributes_paired c.args.self.now c.args.settled d.field-0 c.in-Composite.attributes c.in-Composite.is described c.args.i)
    c.in_err-name-in-Composite.ensures

untyped : (c : goal.After-from_residual-in_err-typed-in-Composite) → told c.args.self.now c.args.settled c.args.i ≡ None
untyped c =
    let d = c.in_ok-attributes-in-Described in
    let described = d.ensures.told ∙ ap (settled_told (held_of c.args.self.now)) (sym c.in-Described.is) in
    no_type _ _ _ (attributes_paired c.args.self.now c.args.settled d.field-0 c.in-Composite.attributes c.in-Composite.is described c.args.i)
    c.in_err-typed-in-Composite.ensures.tree

nothing : {A B C : Type 0} (f : A → C) (g : B → C) (r : Option A) (t : Option B) → r ≡ None → t ≡ None → option_map f r ≡ option_map g t
nothing f g r t e d = ap (option_map f) e ∙ sym (ap (option_map g) d)

-- and else it is both
there :
    (c : goal.In_ok-typed-in-Composite) →
    (t : Tree) × (told c.args.self.now c.args.settled c.args.i ≡ Some (c.in_ok-name-in-Composite.name.now, t)) ×
    (settled_tree (held_of c.args.self.now) c.in_ok-typed-in-Composite.typed ≡ Some t) ×
    (option_and_then (λ t. slice_get t.components c.args.i) (settled_told (held_of c.args.self.now) c.args.settled) ≡ Some t)
there c =
    let d = c.in_ok-attributes-in-Described in
    let described = d.ensures.told ∙ ap (settled_told (held_of c.args.self.now)) (sym c.in-Described.is) in
    both _ _ _ (attributes_paired c.args.self.now c.args.settled d.field-0 c.in-Composite.attributes c.in-Composite.is described c.args.i)
    c.in_ok-name-in-Composite.name.now (settled_tree (held_of c.args.self.now) c.in_ok-typed-in-Composite.typed)
    c.in_ok-name-in-Composite.ensures c.in_ok-typed-in-Composite.ensures.tree

pub returns-in_err-name-in-Composite-clause-name : goal.returns-in_err-name-in-Composite-clause-name
returns-in_err-name-in-Composite-clause-name c = nothing _ _ _ _ c.from_residual-in_err-name-in-Composite.ensures (unnamed c)

pub returns-in_err-name-in-Composite-clause-tree : goal.returns-in_err-name-in-Composite-clause-tree
returns-in_err-name-in-Composite-clause-tree c = nothing _ _ _ _ c.from_residual-in_err-name-in-Composite.ensures (unnamed c)

pub returns-in_err-name-in-Composite-clause-told : goal.returns-in_err-name-in-Composite-clause-told
returns-in_err-name-in-Composite-clause-told c = nothing _ _ _ _ c.from_residual-in_err-name-in-Composite.ensures (unnamed c)

pub returns-in_err-typed-in-Composite-clause-name : goal.returns-in_err-typed-in-Composite-clause-name
returns-in_err-typed-in-Composite-clause-name c = nothing _ _ _ _ c.from_residual-in_err-typed-in-Composite.ensures (untyped c)

pub returns-in_err-typed-in-Composite-clause-tree : goal.returns-in_err-typed-in-Composite-clause-tree
returns-in_err-typed-in-Composite-clause-tree c = nothing _ _ _ _ c.from_residual-in_err-typed-in-Composite.ensures (untyped c)

pub returns-in_err-typed-in-Composite-clause-told : goal.returns-in_err-typed-in-Composite-clause-told
returns-in_err-typed-in-Composite-clause-told c = nothing _ _ _ _ c.from_residual-in_err-typed-in-Composite.ensures (untyped c)

pub returns-in_ok-typed-in-Composite-clause-name : goal.returns-in_ok-typed-in-Composite-clause-name
returns-in_ok-typed-in-Composite-clause-name c = ap (option_map (λ (a : Name × Tree). a.0)) (sym (there c).1)

pub returns-in_ok-typed-in-Composite-clause-tree : goal.returns-in_ok-typed-in-Composite-clause-tree
returns-in_ok-typed-in-Composite-clause-tree c = ap (λ x. Some x) (there c).2 ∙ ap (option_map (λ (a : Name × Tree). Some a.1)) (sym (there c).1)

pub returns-in_ok-typed-in-Composite-clause-told : goal.returns-in_ok-typed-in-Composite-clause-told
returns-in_ok-typed-in-Composite-clause-told c =
    c.in_ok-typed-in-Composite.ensures.told ∙ ap (option_map tree_told) (there c).3 ∙ ap (option_map (λ (a : Name × Tree). tree_told a.1)) (sym (there c).1)
