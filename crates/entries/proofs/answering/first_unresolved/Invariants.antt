use Rattle.std.proofs.Common.{◌≡◌, ℕ, Bool, List, Option, drop}
use Rattle.book.specs.Book.{held_of}
use Rattle.book.specs.Held.{book_held}
use Rattle.catalog.specs.Catalog.{Catalog}
use Rattle.entries.specs.Answers.{asked_for, led, led_from}
use Rattle.entries.specs.Notes.{leads_told}
use Rattle.finds.specs.Finds.{ReadFrom, queue_of, reads_of}
use Rattle.life.specs.Calls.{Declared}
use Rattle.life.specs.Lists.{first_place}
use Rattle.requests.specs.Asked.{declared_by}
use Rattle.resolve.specs.Fills.{left_over}
use Rattle.resolve.specs.Walks.{known_to}
use Rattle.entries.proofs.answering.first_unresolved.Given as goal

abbrev pub invariant-loop-place : goal.invariant-loop-place
invariant-loop-place l =
    (c : Catalog) → ReadFrom c l.finds → reads_of l.finds ≡ queue_of l.finds → (host : List ℕ) →
    let test : Declared × Option ℕ → Bool = λ x. asked_for (book_held (held_of l.book)).arrays (left_over c (known_to l.book) (reads_of l.finds)) x.0 x.1 in
    first_place test 0 (led host l.entries l.notes)
    ≡ first_place test l.place (led_from l.place (declared_by host (drop l.place l.entries)) (leads_told l.notes))
