use Rattle.book.specs.Book.{held_of}
use Rattle.book.specs.Sizes.{sizes_told}
use Rattle.finds.specs.Resolving.{leads_told}
use Rattle.finds.proofs.Leads.{leads_from}
use Rattle.finds.proofs.NewLeads.{CountingLeads}
use Rattle.finds.proofs.declared.count_leads.Given as goal

abbrev pub invariant-loop-place : goal.invariant-loop-place
invariant-loop-place l =
    CountingLeads (held_of l.book) l.finds (leads_told l.host l.entries l.leads) (leads_from l.host l.entries l.leads l.place) l.seen (sizes_told l.sizes)
