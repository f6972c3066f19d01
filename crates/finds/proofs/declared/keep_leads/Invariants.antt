use Rattle.std.proofs.Common.{◌≡◌}
use Rattle.book.specs.Book.{held_of}
use Rattle.finds.specs.Keeping.{each}
use Rattle.finds.specs.Resolving.{lead_kept, leads_told}
use Rattle.finds.proofs.Leads.{leads_from}
use Rattle.finds.proofs.declared.keep_leads.Given as goal

abbrev pub invariant-loop-place : goal.invariant-loop-place
invariant-loop-place l =
    each lead_kept (held_of l.fn.book) (leads_told l.host l.entries l.leads) ≡ each lead_kept (held_of l.book) (leads_from l.host l.entries l.leads l.place)
