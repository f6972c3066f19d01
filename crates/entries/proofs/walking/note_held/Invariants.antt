use Rattle.std.proofs.Common.{◌≡◌, ◌≤◌, length, map, take}
use Rattle.book.specs.Book.{held_of}
use Rattle.book.specs.Held.{book_held}
use Rattle.requests.specs.Asked.{declared_by}
use Rattle.entries.specs.Notes.{apart_told, leads_told}
use Rattle.entries.specs.Wants.{held_lead}
use Rattle.entries.proofs.walking.note_held.Given as goal

abbrev pub invariant-loop-entry : goal.invariant-loop-entry
invariant-loop-entry l = record {
  leads : length l.entries ≤ 256 → leads_told l.notes ≡ map (held_lead (book_held (held_of l.book))) (declared_by l.host (take l.entry-index l.entries));
  apart : apart_told l.notes ≡ apart_told l.fn.notes;
}
