use Rattle.std.proofs.Common.{rules, ◌≡◌, ℕ, List, Ok, ap, sym, ◌∙◌}
use Rattle.lines.specs.Reading.{seen}
use Rattle.offers.specs.Offered.{RowOffer, offered_row}
use Rattle.row_table.specs.Table.{held_of}
use Rattle.script.specs.Words.{words}
use Rattle.transcript.specs.declared.answers.Addition.TheVariants.{Row}
use Rattle.session.specs.Catalogs.{held_by}
use Rattle.session.specs.Lines.{Reply, addition_reply, row_reply, row_reply_to}
use Rattle.session.proofs.Added.{added}
use Rattle.session.proofs.Troubles.{unread}
use Rattle.session.proofs.catalogs.Catalogs.answer_row.Goals as goal

pub returns-in_err-line : goal.returns-in_err-line
returns-in_err-line c = unread _ _ _ _ _ c.in_err-line.field-0.0 c.read.result c.from_residual.result c.read.ensures c.in_err-line.was (search rules)

pub returns : goal.returns
returns c =
    let was = held_by c.args.self.now in
    let line = c.in_ok-line.line in
    let by : List ℕ → RowOffer → Reply = λ host offer. row_reply_to was offer.oid (offered_row host offer) in
    let host = sym c.as_slice.ensures.value in
    let offer = sym c.offered.ensures in
    let answer = sym c.add_row-outcome.ensures.answer in
    let held = sym c.add_row-outcome.ensures.held in
    let told : row_reply was (words c.args.rest.now) ≡ Ok (addition_reply was Row c.add_row-outcome.result (held_of c.add_row-outcome.new.self)) =
    ap (seen (λ l. by l.0 l.1)) c.in_ok-line.ensures ∙ (λ i. Ok (by (host i) (offer i))) ∙ (λ i. Ok (addition_reply was Row (answer i) (held i))) in
    added _ _ Row _ _ _ _ _ told c.tell_outcome.ensures
