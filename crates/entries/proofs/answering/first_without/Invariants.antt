use Rattle.std.proofs.Common.{◌≡◌, ℕ, Bool, List, Option, drop}
use Rattle.book.specs.Book.{held_of}
use Rattle.book.specs.Held.{book_held}
use Rattle.entries.specs.Answers.{led, led_from, without_oid}
use Rattle.entries.specs.Notes.{leads_told}
use Rattle.life.specs.Calls.{Declared}
use Rattle.life.specs.Lists.{first_place}
use Rattle.requests.specs.Asked.{declared_by}
use Rattle.resolve.specs.Walks.{known_to}
use Rattle.entries.proofs.answering.first_without.Given as goal

abbrev pub invariant-loop-place : goal.invariant-loop-place
invariant-loop-place l =
    (host : List ℕ) →
    let test : Declared × Option ℕ → Bool = λ x. without_oid (book_held (held_of l.book)).arrays (known_to l.book) x.0 x.1 in
    first_place test 0 (led host l.entries l.notes)
    ≡ first_place test l.place (led_from l.place (declared_by host (drop l.place l.entries)) (leads_told l.notes))
