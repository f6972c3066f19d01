-- What is printed of a book's sizes and of steps, byte by byte.
-- Assumes nothing.
use Rattle.std.specs.Prelude.{ℕ, List, ◌++◌, Some, None, codes, decimal, Option}
use Rattle.std.specs.List.{flat_map}
use Rattle.book.specs.declared.sizes.Sizes.{Sizes}
use Rattle.catalog.specs.declared.faults.Told.{Told}
use Rattle.transcript.specs.declared.steps.Step.{Step}
use Rattle.transcript.specs.declared.steps.Step.TheVariants.{Fill, Resolve, Bind}
use Rattle.transcript.specs.Printed.{refusal_text}

-- a step, by the first word of its line
abbrev pub step_text : Step → List ℕ
step_text Fill = codes "fill"
step_text Resolve = codes "resolve"
step_text Bind = codes "bind"

-- a number and the word before it
abbrev pub counted : List ℕ → ℕ → List ℕ
counted word n = word ++ decimal n

abbrev pub sizes_text : Sizes → List ℕ
sizes_text s =
    counted (codes "descriptors ") s.descriptors ++ (counted (codes " parts ") s.parts ++ (counted (codes " names ") s.names ++ (counted (codes " arrays ") s.arrays ++ (counted (codes " text ") s.text ++ (counted (codes " columns ") s.columns ++ counted (codes " relations ") s.relations)))))

-- the slots in force
abbrev pub book_text : Sizes → List ℕ
book_text s = codes "book: " ++ (sizes_text s ++ codes "\n")

abbrev pub step_refused_text : Step → Told → (allowance : ℕ) → List ℕ
step_refused_text what told allowance =
    step_text what ++ (codes ": " ++ (refusal_text told ++ (counted (codes " allowance ") allowance ++ codes "\n")))

abbrev pub filled_text : (rounds allowance : ℕ) → List ℕ
filled_text rounds allowance =
    counted (codes "fill: ok rounds ") rounds ++ (counted (codes " allowance ") allowance ++ codes "\n")

-- a space before each
abbrev pub oids_text : List ℕ → List ℕ
oids_text oids = flat_map (λ o. counted (codes " ") o) oids

abbrev pub resolved_text : (rounds allowance : ℕ) → List ℕ → List ℕ
resolved_text rounds allowance oids =
    counted (codes "resolve: ok rounds ") rounds ++ (counted (codes " allowance ") allowance ++ (codes " oids" ++ (oids_text oids ++ codes "\n")))

-- type rounds, then column rounds
abbrev pub bound_text : (types columns allowance : ℕ) → List ℕ
bound_text types columns allowance =
    counted (codes "bind: ok rounds ") types ++ (counted (codes " ") columns ++ (counted (codes " allowance ") allowance ++ codes "\n"))

abbrev pub ordinal_text : Option ℕ → List ℕ
ordinal_text None = codes "ordinal: nothing\n"
ordinal_text (Some n) = counted (codes "ordinal: ") n ++ codes "\n"
