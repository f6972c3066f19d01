-- The lines that choose a catalog and set its allowance.
-- Assumes nothing.
use Rattle.std.specs.Prelude.{ℕ, if◌then◌else◌, List, Ok, Err, codes, Result}
use Rattle.std.specs.Str.{bytes_eq}
use Rattle.transcript.specs.declared.answers.InUse.{InUse}
use Rattle.transcript.specs.declared.answers.InUse.TheVariants.{Rows, Shelf}
use Rattle.transcript.specs.declared.answers.Reason.{Reason}
use Rattle.transcript.specs.declared.answers.Reason.TheVariants.{NotACatalog}
use Rattle.lines.specs.Reading.{number_read, onward, only_word}

-- `rows` or `shelf`
abbrev pub catalog_read : List ℕ → Result InUse Reason
catalog_read word =
    if bytes_eq word (codes "rows") then Ok Rows
    else (if bytes_eq word (codes "shelf") then Ok Shelf else Err NotACatalog)

-- `use rows` or `use shelf`
abbrev pub use_line : List (List ℕ) → Result InUse Reason
use_line ws = onward (only_word ws) catalog_read

-- `allowance N`
abbrev pub allowance_line : List (List ℕ) → Result ℕ Reason
allowance_line ws = onward (only_word ws) number_read
