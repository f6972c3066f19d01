use Rattle.std.proofs.Common.{◌≡◌, [], drop}
use Rattle.book.specs.Book.{held_of}
use Rattle.keys.specs.Senses.{same_pair}
use Rattle.life.specs.Lists.{fresh_by}
use Rattle.life.specs.Tests.{sources}
use Rattle.requests.specs.Asked.{fields_of}
use Rattle.binding.specs.Asked.{asked_of}
use Rattle.binding.proofs.Asking.{holds}
use Rattle.binding.proofs.columns.any_asked.Given as goal

abbrev pub invariant-loop-field : goal.invariant-loop-field
invariant-loop-field l = fresh_by same_pair (holds (held_of l.book)) [] (sources (fields_of (drop l.field-index l.fields))) ≡ asked_of (held_of l.book) l.fields
