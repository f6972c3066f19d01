use Rattle.std.proofs.Common.{◌≡◌, ◌+◌, ◌∙◌, arith, length, map, sym, subst, true}
use Rattle.std.proofs.lemmas.List.{length-map}
use Rattle.book.specs.Book.{held_of}
use Rattle.book.specs.Held.{sum_of}
use Rattle.book.specs.Sizes.{sizes_told}
use Rattle.catalog.specs.Meaning.{oid_told}
use Rattle.finds.specs.Keeping.{SettledBy}
use Rattle.finds.specs.Resolving.{enough, leads_of, size_of_resolved}
use Rattle.life.specs.HostCalls.{meant_type}
use Rattle.life.specs.Steps.{Book}
use Rattle.requests.specs.Asked.{declared_by, type_asked}
use Rattle.finds.proofs.Enough.{enough_for_short, few_enough, room_enough}
use Rattle.finds.proofs.Resolved.{size_resolved}
use Rattle.finds.proofs.Steps.{few_sum, fewer}
use Rattle.finds.proofs.declared.resolve_added.Goals as goal
use Rattle.finds.proofs.declared.resolve_added.Goals.{After-clear}

pub returns-then-not-is_enough-clause-enough : goal.returns-then-not-is_enough-clause-enough
returns-then-not-is_enough-clause-enough c = λ few few_apart short slots text.
    sym c.if-not-is_enough.true ∙ c.is_enough.ensures
    ∙ enough_for_short (declared_by c.args.host.now c.args.entries.now) (length c.args.apart.now) c.args.seen.now
    (omega (arith, few, length-map c.args.entries.now (λ x. meant_type c.args.host.now (type_asked x)))) few_apart short slots text

has : (c : After-clear) → enough (declared_by c.args.host.now c.args.entries.now) (length c.args.apart.now) c.args.seen.now ≡ true
has c = sym c.is_enough.ensures ∙ c.if-not-is_enough.false

pub count_leads-names-requires-clause-room : goal.count_leads-names-requires-clause-room
count_leads-names-requires-clause-room c =
    let was = c.clear.ensures in
    room_enough (declared_by c.args.host.now c.args.entries.now) (map oid_told c.args.leads.now) (length c.args.apart.now) c.args.seen.now
    (has (goal.at.count_leads-names-requires-clause-room c).After-clear)
    c.clear.new.self was.count was.size was.text was.lent

pub count_leads-names-requires-clause-few : goal.count_leads-names-requires-clause-few
count_leads-names-requires-clause-few c =
    few_enough (declared_by c.args.host.now c.args.entries.now) (map oid_told c.args.leads.now) (length c.args.apart.now) c.args.seen.now
    (has (goal.at.count_leads-names-requires-clause-few c).After-clear) (held_of c.args.book.now) c.args.finds.now

pub plus-requires-clause-more : goal.plus-requires-clause-more
plus-requires-clause-more c =
    fewer (8388608 + 65536) 4294967296 (sizes_told c.plus-more.result) (omega arith)
    (few_sum 8388608 65536 (sizes_told c.count_leads-names.result) (sizes_told c.count_apart-links.result) (sizes_told c.plus-more.result) c.count_leads-names.ensures.few c.count_apart-links.ensures.few c.plus-more.ensures)

pub returns-clause-added : goal.returns-clause-added
returns-clause-added c = λ k laws from settled t s es leads apart.
    let f = c.args.finds.now in
    let h = held_of c.args.book.now in
    let ds = declared_by c.args.host.now c.args.entries.now in
    c.plus.ensures
    ∙ (λ i. sum_of (c.added.ensures.size i) ((c.plus-more.ensures ∙ (λ j. sum_of (c.count_leads-names.ensures.size j) (c.count_apart-links.ensures.size j))) i))
    ∙ (λ i. size_of_resolved h f (leads_of ds (leads i)) (apart.told i))
    ∙ size_resolved k laws f from t (subst (λ (b : Book). SettledBy k b.descriptors f) (sym s.book) settled) h s ds es apart.once apart.other
