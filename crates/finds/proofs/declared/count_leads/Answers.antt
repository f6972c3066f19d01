use Rattle.std.proofs.Common.{◌+◌, List, slice_get, subst, sym}
use Rattle.book.specs.Book.{held_of}
use Rattle.book.specs.Sizes.{sizes_told}
use Rattle.finds.specs.Resolving.{CountedLead, Lead, RoomFor, RoomForAll, lead_at, leads_told}
use Rattle.finds.proofs.Leads.{leads_from, next_lead}
use Rattle.finds.proofs.NewLeads.{CountingLeads, counted_next, none_counted, room_first}
use Rattle.finds.proofs.declared.count_leads.Goals as goal

pub loop-place-init : goal.loop-place-init
loop-place-init c =
    none_counted (held_of c.args.book.now) c.args.finds.now (leads_told c.args.host.now c.args.entries.now c.args.leads.now) c.args.seen.now c.requires.none c.requires.room

pub count_lead-more-requires : goal.count_lead-more-requires
count_lead-more-requires c =
    let host = c.args.host.now in
    let xs = c.args.entries.now in
    let ls = c.args.leads.now in
    let i = c.loop-place.place in
    subst (λ x. RoomFor x c.loop-place.seen) (sym c.lead_at-found.ensures)
    (room_first (lead_at host (slice_get xs i) (slice_get ls i)) (leads_from host xs ls (i + 1)) c.loop-place.seen
    (subst (λ (l : List Lead). RoomForAll l c.loop-place.seen) (next_lead host xs ls i) c.loop-place.invariant.room))

pub loop-place-preserved : goal.loop-place-preserved
loop-place-preserved c =
    let host = c.args.host.now in
    let xs = c.args.entries.now in
    let ls = c.args.leads.now in
    let i = c.loop-place.place in
    let h = held_of c.args.book.now in
    let f = c.args.finds.now in
    let all = leads_told host xs ls in
    let seen = c.loop-place.seen in
    let now = c.count_lead-more.new.seen in
    let more = sizes_told c.count_lead-more.result in
    counted_next h f all seen now (sizes_told c.loop-place.sizes) more (sizes_told c.plus-sizes.result) c.plus-sizes.ensures (leads_from host xs ls (i + 1)) (lead_at host (slice_get xs i) (slice_get ls i))
    (subst (λ x. CountedLead h f x seen now more) c.lead_at-found.ensures c.count_lead-more.ensures.counted)
    (subst (λ (l : List Lead). CountingLeads h f all l seen (sizes_told c.loop-place.sizes)) (next_lead host xs ls i) c.loop-place.invariant)
