-- What is told of the columns of a bound statement.
-- Assumes nothing.
use Rattle.std.specs.Prelude.{ℕ, List, Option, Result}
use Rattle.keys.specs.declared.span.Span.{Span}
use Rattle.life.specs.Ordinal.{ordinal}
use Rattle.lines.specs.Reading.{seen}
use Rattle.lines.specs.Steps.{ordinal_line}
use Rattle.transcript.specs.declared.answers.Reason.{Reason}

-- the last column of the name that the words say, which is looked up behind the host text
abbrev pub ordinal_told : List ℕ → List Span → List (List ℕ) → Result (Option ℕ) Reason
ordinal_told host names ws = seen (λ laid. ordinal laid.0 names laid.1) (ordinal_line host ws)
