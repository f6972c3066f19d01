-- How a column round ends, as the law of a book's life has it.
-- Assumes nothing.
use Rattle.std.specs.Prelude.{◌≡◌, ℕ, true, List, [], option_map, Ok, Err, Result, Some, None, Option}
use Rattle.catalog.specs.Catalog.{Catalog}
use Rattle.keys.specs.Senses.{Pair}
use Rattle.life.specs.Bind.{column_round}
use Rattle.life.specs.Steps.{Ending, accepted, refused}
use Rattle.room.specs.Added.{columns_added}
use Rattle.room.specs.Sizes.{first_full, sizes_of}
use Rattle.room.specs.Tables.{Tables, contents}
use Rattle.requests.specs.declared.asked.FieldAsked.{FieldAsked}
use Rattle.book.specs.Held.{Held}
use Rattle.faults.specs.declared.columns.ColumnsFault.{ColumnsFault}
use Rattle.faults.specs.Faults.{columns_refusal_of, refused_so}
use Rattle.binding.specs.Asked.{asked_of, binding_of}

-- the first table without room for what the catalog has of these columns
abbrev pub columns_full : Catalog → Held → Tables → List Pair → Option ℕ
columns_full c h t asked = first_full h.capacity h.taken (sizes_of (columns_added c t asked))

-- the ending behind n rounds of types, where the book stands for these tables
abbrev pub round_ending : Catalog → Held → Tables → List FieldAsked → (n : ℕ) → Ending
round_ending c h t fields n =
    let asked = asked_of h fields in
    (column_round (λ b. None) (λ b. columns_full c h t asked) c (contents t) (binding_of fields) n [] c.allowance asked).ending

-- what is told of it
abbrev pub ending_told : (n : ℕ) → Result ℕ ColumnsFault → Ending
ending_told n (Ok columns) = accepted n columns
ending_told n (Err fault) = refused_so (columns_refusal_of fault)

-- the fault tells this table, after these rounds
abbrev pub FullAt : Option ℕ → (rounds : ℕ) → ColumnsFault → Type 0
FullAt full rounds fault = option_map (λ table. refused 8 table true rounds) full ≡ Some (refused_so (columns_refusal_of fault))
