-- The line that makes a new book.
-- Assumes nothing.
use Rattle.std.specs.Prelude.{ℕ, ◌^◌, if◌then◌else◌, List, [], ◌∷◌, get_or, set, replicate, is_some, unwrap_or, Some, None, Ok, Err, codes, Option, Result, ◌==◌}
use Rattle.std.specs.List.{before_first, after_first}
use Rattle.std.specs.Option.{ok_or}
use Rattle.std.specs.Str.{bytes_eq}
use Rattle.book.specs.Sizes.{position_of}
use Rattle.book.specs.declared.sizes.BookTable.{BookTable}
use Rattle.book.specs.declared.sizes.BookTable.TheVariants.{Descriptors, Parts, Names, Arrays, Text, Columns, Relations}
use Rattle.book.specs.declared.sizes.Sizes.{Sizes}
use Rattle.script.specs.Numbers.{number_below}
use Rattle.transcript.specs.declared.answers.Reason.{Reason}
use Rattle.transcript.specs.declared.answers.Reason.TheVariants.{NotASize, WordCount}
use Rattle.lines.specs.Reading.{onward, seen}

-- the table that a key names
abbrev pub table_read : List ℕ → Option BookTable
table_read key =
    if bytes_eq key (codes "descriptors") then Some Descriptors
    else if bytes_eq key (codes "parts") then Some Parts
    else if bytes_eq key (codes "names") then Some Names
    else if bytes_eq key (codes "arrays") then Some Arrays
    else if bytes_eq key (codes "text") then Some Text
    else if bytes_eq key (codes "columns") then Some Columns
    else if bytes_eq key (codes "relations") then Some Relations
    else None

-- a key and a number with an equals sign (61) between them
abbrev pub size_from : Option BookTable → Option ℕ → Option (BookTable × ℕ)
size_from None size = None
size_from (Some table) None = None
size_from (Some table) (Some size) = Some (table, size)

abbrev pub size_read : List ℕ → Option (BookTable × ℕ)
size_read word =
    size_from (table_read (before_first (λ b. b == 61) word)) (number_below (2 ^ 32) (after_first (λ b. b == 61) word))

-- the sizes that are asked for, in the order of the tables, with one more, for which none is asked yet
abbrev pub size_added : List (Option ℕ) → BookTable × ℕ → Result (List (Option ℕ)) Reason
size_added asked s =
    if is_some (get_or asked (position_of s.0) None) then Err WordCount else Ok (set asked (position_of s.0) (Some s.1))

abbrev pub sizes_read : List (Option ℕ) → List (List ℕ) → Result (List (Option ℕ)) Reason
sizes_read asked [] = Ok asked
sizes_read asked (w ∷ ws) = onward (ok_or (size_read w) NotASize) (λ s. onward (size_added asked s) (λ more. sizes_read more ws))

abbrev pub nothing_asked : List (Option ℕ)
nothing_asked = replicate 7 None

-- the size that is asked for, or else as much as a book can use
abbrev pub size_of : List (Option ℕ) → BookTable → ℕ → ℕ
size_of asked table full = unwrap_or (get_or asked (position_of table) None) full

abbrev pub sizes_of : List (Option ℕ) → Sizes
sizes_of asked = record {
  descriptors = size_of asked Descriptors 512;
  parts = size_of asked Parts 4096;
  names = size_of asked Names 1024;
  arrays = size_of asked Arrays 1024;
  text = size_of asked Text 65536;
  columns = size_of asked Columns 1024;
  relations = size_of asked Relations 128;
}

-- `book [descriptors=N] [parts=N] [names=N] [arrays=N] [text=N] [columns=N] [relations=N]`, in any order
abbrev pub book_line : List (List ℕ) → Result Sizes Reason
book_line ws = seen sizes_of (sizes_read nothing_asked ws)
