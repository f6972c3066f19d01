use Rattle.std.proofs.Common.{◌≡◌, ◌+◌, Some, Option, drop, slice_get, option_and_then, sym, ap, ap₂, ◌∙◌, arith}
use Rattle.std.specs.Option.{option_map}
use Rattle.book.specs.Book.{held_of}
use Rattle.book.specs.Settled.{TypeTold, attributes_of_head, node_told, settled_told, settled_tree, tree_list, tree_told}
use Rattle.transcript.specs.Describe.{margin_behind, opening, parts_laid, tree_laid, add}
use Rattle.transcript.specs.Laying.{laid, trees_behind}
use Rattle.transcript.proofs.Describing.{name_at, part_next, part_none, parts_end, told_none, told_some, whole, within_at}
use Rattle.unfolding.specs.Unfolding.{Tree}
use Rattle.transcript.proofs.tree.Answer.+lay.Goals as goal

pub contents-returns-then-not-branch : goal.contents-returns-then-not-branch
contents-returns-then-not-branch t c = λ o name head ts st w.
    sym (rw c.if-not-branch.true at (c.in_ok-part.ensures o name head ts st w))
    ∙ c.loop-i.invariant o name head ts st w
    ∙ ap (parts_laid c.args.margin (attributes_of_head head) ts) (c.in_ok-labels.ensures (node_told o name head (tree_list ts)) st.told w.0)

pub contents-loop-i-preserved : goal.contents-loop-i-preserved
contents-loop-i-preserved t c = λ o name head ts st w.
    sym (rw c.if-not-branch.false at (c.in_ok-part.ensures o name head ts st w))
    ∙ c.loop-i.invariant o name head ts st w

pub contents-returns : goal.contents-returns
contents-returns t c = λ o name head ts st w.
    sym (parts_end c.args.margin (attributes_of_head head) ts c.loop-i.i (laid c.loop-i.self) (omega (arith, w.1)))
    ∙ c.loop-i.invariant o name head ts st w
    ∙ ap (parts_laid c.args.margin (attributes_of_head head) ts) (c.in_ok-labels.ensures (node_told o name head (tree_list ts)) st.told w.0)

pub lay-returns-in-Some : goal.lay-returns-in-Some
lay-returns-in-Some t c = λ tree st w.
    whole c.args.margin c.args.depth c.in-Some.left (laid c.args.self.now) (laid c.line.new.self) (laid c.contents.new.self) c.contents.result tree
    (omega (arith, c.in-Some.ensures.0, c.in-Some.ensures.1))
    st w
    (sym c.if-branch.true ∙ c.in_ok-line.ensures.follows tree st)
    (c.in_ok-line.ensures.laid tree st)
    c.contents.ensures

pub part-returns-in_default : goal.part-returns-in_default
part-returns-in_default t c = λ o name head ts st w.
    part_none c.args.margin (attributes_of_head head) ts c.args.i (laid c.args.self.now)
    (told_none (slice_get (tree_list ts) c.args.i)
    (c.in_default.ensures.tree
    ∙ ap (λ (x : Option TypeTold). option_map (λ (u : Tree). Some u) (option_and_then (λ (u : TypeTold). slice_get u.components c.args.i) x)) st.told))

pub part-returns : goal.part-returns
part-returns t c = λ o name head ts st w.
    let told : settled_told (held_of c.args.book.now) c.args.settled ≡ Some (node_told o name head (tree_list ts)) = st.told in
    let at = told_some
    (slice_get (tree_list ts) c.args.i)
    (settled_tree (held_of c.args.book.now) c.in-Some.component)
    (settled_told (held_of c.args.book.now) c.in-Some.component)
    (c.in-Some.ensures.tree
    ∙ ap (λ (x : Option TypeTold). option_map (λ (u : Tree). Some u) (option_and_then (λ (u : TypeTold). slice_get u.components c.args.i) x)) told)
    (c.in-Some.ensures.told
    ∙ ap (λ (x : Option TypeTold). option_map tree_told (option_and_then (λ (u : TypeTold). slice_get u.components c.args.i) x)) told) in
    let named = name_at (attributes_of_head head) (tree_list ts) c.args.i at.0 at.1 in
    let margin : c.in_ok-deeper.deeper ≡ margin_behind c.args.margin (slice_get (attributes_of_head head) c.args.i) =
    c.in_ok-deeper.ensures.margin (node_told o name head (tree_list ts)) told ∙ ap (margin_behind c.args.margin) named in
    let opened : laid c.open.new.self ≡ add (opening c.args.margin (slice_get (attributes_of_head head) c.args.i)) (laid c.args.self.now) =
    c.in_ok-deeper.ensures.laid (node_told o name head (tree_list ts)) told ∙ ap (λ n. add (opening c.args.margin n) (laid c.args.self.now)) named in
    let lays = c.in_ok-lay.ensures at.0 (record { tree = at.2; told = at.3 }) (within_at c.args.depth ts c.args.i at.0 w.2 at.1)
    ∙ ap₂ (λ m l. tree_laid m at.0 l) margin opened in
    part_next c.args.margin (attributes_of_head head) ts c.args.i at.0 (laid c.args.self.now) at.1
    ∙ ap (parts_laid c.args.margin (drop (c.args.i + 1) (attributes_of_head head)) (trees_behind (c.args.i + 1) ts)) (sym lays)
