use Rattle.std.proofs.Common.{◌≡◌, sym, ap, ap₂, ◌∙◌, ◌++◌, codes, arith}
use Rattle.std.proofs.lemmas.Grind.{common_steps}
use Rattle.std.specs.Option.{option_map}
use Rattle.book.specs.Book.{held_of}
use Rattle.book.specs.Held.{Held}
use Rattle.book.specs.Settled.{settled_told, settled_tree}
use Rattle.transcript.specs.Describe.{describe_text, tree_laid}
use Rattle.transcript.specs.Laying.{Stands}
use Rattle.transcript.proofs.Describing.{told_some}
use Rattle.transcript.proofs.Holding.{within_book}
use Rattle.transcript.proofs.tree.describe.Goals as goal

pub returns : goal.returns
returns c = λ t tree told.
    let h : Held = held_of c.args.book.now in
    let at = told_some t (settled_tree h c.in-Some.settled) (settled_told h c.in-Some.settled)
    (ap (option_map (settled_tree h)) (sym c.in-Some.is) ∙ tree)
    (ap (option_map (settled_told h)) (sym c.in-Some.is) ∙ told) in
    let stands : Stands h c.in-Some.settled at.0 = record { tree = at.2; told = at.3 } in
    let lays = c.in_ok-lay.ensures at.0 stands (within_book c.args.book.now c.in-Some.settled at.0 stands) in
    let text : c.as_slice.result.now ≡ describe_text t =
    c.as_slice.ensures.value
    ∙ ap (λ l. l.text) lays
    ∙ ap₂ (λ x y. (tree_laid 0 at.0 (record { text = x; shown = y })).text)
    (c.in_ok-extend_from_slice.ensures.items ∙ ap (λ x. x ++ codes "describe: ") c.new.ensures.items)
    c.new-2.ensures.items
    ∙ ap describe_text (sym at.1) in
    grind (arith, common_steps, text)
