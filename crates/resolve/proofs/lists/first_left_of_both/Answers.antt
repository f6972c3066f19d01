use Rattle.std.proofs.Common.{◌+◌, ◌≡◌, ◌<◌, ◌∙◌, ℕ, Bool, Some, ap, length, option_map, sym, arith}
use Rattle.finds.specs.Finds.{reads_of}
use Rattle.resolve.specs.Fills.{left_over}
use Rattle.resolve.specs.Lists.{types_of}
use Rattle.resolve.specs.Walks.{known_to}
use Rattle.resolve.proofs.Places.{field_within, place_behind, place_stays}
use Rattle.resolve.proofs.lists.first_left_of_both.Goals as goal

pub returns-in-Some : goal.returns-in-Some
returns-in-Some c = λ few k from all.
    sym (place_stays (left_over k (known_to c.args.book.now) (reads_of c.args.finds.now)) c.args.oids.now (types_of c.args.fields.now) 0 c.in-Some.place (sym (c.in-Some.ensures k from all)))

pub returns-in_err-place : goal.returns-in_err-place
returns-in_err-place c = λ few k from all.
    let os = c.args.oids.now in
    let types = types_of c.args.fields.now in
    let test : ℕ → Bool = left_over k (known_to c.args.book.now) (reads_of c.args.finds.now) in
    c.from_residual.ensures
    ∙ sym
    (place_behind test os types (sym (c.in_default.ensures k from all))
    ∙ ap (option_map (λ j. length os + j)) (sym (c.first_left_field.ensures k from all) ∙ c.in_err-place.was))

pub returns : goal.returns
returns c = λ few k from all.
    let os = c.args.oids.now in
    let types = types_of c.args.fields.now in
    let test : ℕ → Bool = left_over k (known_to c.args.book.now) (reads_of c.args.finds.now) in
    let first = sym (c.first_left_field.ensures k from all) ∙ c.in_ok-place.was in
    let within : c.in_ok-place.place < length c.args.fields.now = field_within test c.args.fields.now c.in_ok-place.place first in
    let exact : c.saturating_add.result ≡ length os + c.in_ok-place.place = omega (arith, c.saturating_add.ensures, within, few) in
    ap (λ j. Some j) exact
    ∙ sym (place_behind test os types (sym (c.in_default.ensures k from all)) ∙ ap (option_map (λ j. length os + j)) first)
