use Rattle.std.proofs.Common.{◌∙◌, [], ap, refl, subst, sym}
use Rattle.book.specs.Book.{held_of}
use Rattle.book.specs.Held.{Held}
use Rattle.book.specs.Stands.{Stands}
use Rattle.life.specs.Calls.{fill, resolve}
use Rattle.life.specs.Steps.{Book}
use Rattle.requests.specs.Asked.{declared_by}
use Rattle.room.specs.Added.{with_types}
use Rattle.finds.specs.Finds.{reads_of}
use Rattle.finds.specs.Keeping.{SettledBy, each}
use Rattle.finds.specs.Resolving.{apart_kept, apart_told, lead_kept, leads_of, leads_told}
use Rattle.finds.proofs.Gathering.{each_capacity}
use Rattle.finds.proofs.Resolved.{apart_capacity, lead_capacity, resolved_stands, room_first}
use Rattle.finds.proofs.declared.keep_resolved.Goals as goal

pub returns-clause-capacity : goal.returns-clause-capacity
returns-clause-capacity c =
    ap (λ (h : Held). h.capacity) c.keep_apart.ensures
    ∙ each_capacity apart_kept apart_capacity (held_of c.keep_leads.new.book) (apart_told c.args.apart.now)
    ∙ ap (λ (h : Held). h.capacity) c.keep_leads.ensures
    ∙ each_capacity lead_kept lead_capacity (held_of c.keep.new.book) (leads_told c.args.host.now c.args.entries.now c.args.leads.now)
    ∙ c.keep.ensures.capacity

pub returns-clause-kept : goal.returns-clause-kept
returns-clause-kept c = λ k laws from settled t s es leads apart room.
    let f = c.args.finds.now in
    let h = held_of c.args.book.now in
    let g = held_of c.keep.new.book in
    let ds = declared_by c.args.host.now c.args.entries.now in
    let settled_so = subst (λ (b : Book). SettledBy k b.descriptors f) (sym s.book) settled in
    let stands = c.keep.ensures.kept k laws from settled t s (fill []) refl (room_first k laws f from t settled_so h s ds es apart.once apart.other room) in
    subst (λ (x : Held). Stands x (with_types k t (resolve ds) (reads_of f) es))
    (sym
    (c.keep_apart.ensures
    ∙ ap (λ (x : Held). each apart_kept x (apart_told c.args.apart.now)) c.keep_leads.ensures
    ∙ (λ i. each apart_kept (each lead_kept g (leads_of ds (leads i))) (apart.told i))))
    (resolved_stands k laws f from t settled_so h s ds es apart.once apart.other room g c.keep.ensures.capacity stands)
