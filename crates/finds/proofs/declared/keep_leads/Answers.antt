use Rattle.std.proofs.Common.{◌+◌, ◌∙◌, ap, slice_get, sym}
use Rattle.book.specs.Book.{held_of}
use Rattle.book.specs.Held.{Held}
use Rattle.finds.specs.Keeping.{each}
use Rattle.finds.specs.Resolving.{lead_at, lead_kept, lead_kept_if}
use Rattle.finds.proofs.Leads.{kept_next, leads_from, next_lead}
use Rattle.finds.proofs.declared.keep_leads.Goals as goal

pub loop-place-preserved : goal.loop-place-preserved
loop-place-preserved c =
    let host = c.args.host.now in
    let xs = c.args.entries.now in
    let ls = c.args.leads.now in
    let i = c.loop-place.place in
    let h = held_of c.loop-place.book in
    let found = lead_at host (slice_get xs i) (slice_get ls i) in
    c.loop-place.invariant
    ∙ ap (each lead_kept h) (next_lead host xs ls i)
    ∙ kept_next h found (leads_from host xs ls (i + 1))
    ∙ ap (λ (g : Held). each lead_kept g (leads_from host xs ls (i + 1))) (ap (lead_kept_if h) (sym c.lead_at-found.ensures) ∙ sym c.keep_lead.ensures)
