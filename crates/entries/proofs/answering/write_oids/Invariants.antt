use Rattle.std.proofs.Common.{ℕ, List, drop}
use Rattle.book.specs.Book.{held_of}
use Rattle.book.specs.Held.{book_held}
use Rattle.entries.specs.Answers.{all_written, led, led_from}
use Rattle.entries.specs.Notes.{leads_told}
use Rattle.requests.specs.Asked.{declared_by}
use Rattle.resolve.proofs.Slots.{Writing}
use Rattle.resolve.specs.Walks.{known_to}
use Rattle.entries.proofs.answering.write_oids.Given as goal

abbrev pub invariant-loop-place : goal.invariant-loop-place
invariant-loop-place l =
    (host : List ℕ) →
    let all = all_written (book_held (held_of l.book)).arrays (known_to l.book) in
    Writing (λ (v : ℕ). v) (all (led host l.entries l.notes)) (all (led_from l.place (declared_by host (drop l.place l.entries)) (leads_told l.notes))) l.fn.out l.out l.place
