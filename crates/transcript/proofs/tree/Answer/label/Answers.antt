use Rattle.std.proofs.Common.{slice_get, sym, ap, ◌∙◌, option_and_then, drop, ◌+◌}
use Rattle.book.specs.Settled.{TypeTold}
use Rattle.transcript.specs.Describe.{add, labels_text}
use Rattle.transcript.specs.Laying.{laid}
use Rattle.transcript.proofs.Describing.{label_next, label_none}
use Rattle.transcript.proofs.tree.Answer.label.Goals as goal

pub returns-in_default : goal.returns-in_default
returns-in_default c = λ t e.
    label_none c.args.margin t.labels c.args.i (laid c.args.self.now)
    (sym (c.in_default.ensures ∙ ap (option_and_then (λ (u : TypeTold). slice_get u.labels c.args.i)) e))

pub returns : goal.returns
returns c = λ t e.
    label_next c.args.margin t.labels c.args.i c.in-Some.label.now (laid c.args.self.now)
    (sym (c.in-Some.ensures ∙ ap (option_and_then (λ (u : TypeTold). slice_get u.labels c.args.i)) e))
    ∙ ap (λ x. add (labels_text c.args.margin (drop (c.args.i + 1) t.labels)) (record { text = x; shown = c.args.self.now.shown.items })) (sym c.in_ok-print.ensures.is)
