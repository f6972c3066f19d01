use Rattle.std.proofs.Common.{◌≡◌, ◌∙◌, ap, length, List, ℕ, refl, subst, sym, take}
use Rattle.std.proofs.lemmas.Result.{err_from_is_err_and}
use Rattle.book.specs.Book.{held_of}
use Rattle.book.specs.Held.{Held}
use Rattle.life.specs.RoundOne.{for_arrays_alone, resolve_walk, round_one}
use Rattle.life.specs.Steps.{Book}
use Rattle.finds.specs.Finds.{reads_of}
use Rattle.requests.specs.Asked.{declared_by}
use Rattle.room.specs.Tables.{contents}
use Rattle.calls.specs.Resolving.{EntriesKept, EntriesRefused, Noted}
use Rattle.calls.proofs.Entered.{all_kept, full_refuses, noted_so, stopped}
use Rattle.calls.proofs.resolving.fill_entries.Goals as goal

pub returns-in_err-rounds-clause-told : goal.returns-in_err-rounds-clause-told
returns-in_err-rounds-clause-told g c = λ few text names t s agree.
    let p = err_from_is_err_and c.from_residual.result c.from_residual.ensures.1 in
    rw (p.1, p.2)
    (stopped (g.C.TypeCatalog.meaning c.args.catalog.now) (held_of c.args.book.now) t s (declared_by c.args.host.now c.args.entries.now) _ c.in_err-rounds.ensures.outcome)

pub returns-in_err-keep_entries-clause-told : goal.returns-in_err-keep_entries-clause-told
returns-in_err-keep_entries-clause-told g c = λ few text names t s agree.
    let k = g.C.TypeCatalog.meaning c.args.catalog.now in
    let h = held_of c.args.book.now in
    let ds = declared_by c.args.host.now c.args.entries.now in
    let es = for_arrays_alone (round_one k (contents t) ds) in
    let reads = reads_of c.walk_entries.new.finds in
    let n = c.in_ok-rounds.rounds in
    let walked = c.in_ok-rounds.ensures in
    let there : resolve_walk k (contents t) ds ≡ _ = ap (λ (b : Book). resolve_walk k b ds) s.book ∙ sym walked.outcome in
    let noted : Noted k h c.walk_entries.new.finds c.walk_entries.new.notes ds es =
    noted_so k h t s ds agree n reads there c.walk_entries.new.finds c.walk_entries.new.notes refl (walked.leads few.entries_few) walked.apart in
    let fault = c.in_err-keep_entries.field-0.0 in
    let p = err_from_is_err_and c.from_residual-in_err-keep_entries.result c.from_residual-in_err-keep_entries.ensures.1 in
    rw (p.1, p.2)
    (subst (λ (b : Held). EntriesRefused h.capacity k t ds fault b) (sym c.in_err-keep_entries.ensures.unkept.0)
    (full_refuses k h t s ds n reads walked.outcome fault
    (c.in_err-keep_entries.ensures.kept k (g.C.TypeCatalog.laws c.args.catalog.now) walked.read t s few text names es noted)))

pub returns-clause-told : goal.returns-clause-told
returns-clause-told g c = λ few text names t s agree.
    let k = g.C.TypeCatalog.meaning c.args.catalog.now in
    let h = held_of c.args.book.now in
    let ds = declared_by c.args.host.now c.args.entries.now in
    let es = for_arrays_alone (round_one k (contents t) ds) in
    let reads = reads_of c.walk_entries.new.finds in
    let n = c.in_ok-rounds.rounds in
    let walked = c.in_ok-rounds.ensures in
    let there : resolve_walk k (contents t) ds ≡ _ = ap (λ (b : Book). resolve_walk k b ds) s.book ∙ sym walked.outcome in
    let noted : Noted k h c.walk_entries.new.finds c.walk_entries.new.notes ds es =
    noted_so k h t s ds agree n reads there c.walk_entries.new.finds c.walk_entries.new.notes refl (walked.leads few.entries_few) walked.apart in
    let kept = c.in_ok-keep_entries.ensures in
    let same : reads_of c.keep_entries.new.finds ≡ reads = λ i. take (length (kept.rows i)) (kept.queue i) in
    let fits = kept.kept k (g.C.TypeCatalog.laws c.args.catalog.now) walked.read t s few text names es noted in
    subst (λ (os : List ℕ). EntriesKept h.capacity k t ds n os (held_of c.keep_entries.new.book)) (sym same)
    (all_kept k h t s ds n reads walked.outcome fits.0 (held_of c.keep_entries.new.book) fits.1)
