-- The names of a line, laid one after the other into its host text, and where each lies.
-- Assumes nothing.
use Rattle.std.specs.Prelude.{ℕ, ◌^◌, if◌then◌else◌, List, [], ◌∷◌, ◌++◌, length, Some, None, Ok, Err, Option, Result, ◌==◌, nat_lt}
use Rattle.std.specs.List.{before_first, after_first}
use Rattle.std.specs.Option.{ok_or}
use Rattle.keys.specs.declared.span.Span.{Span}
use Rattle.script.specs.Numbers.{number_below}
use Rattle.transcript.specs.declared.answers.Reason.{Reason}
use Rattle.transcript.specs.declared.answers.Reason.TheVariants.{NotAName, TooMuchText}
use Rattle.lines.specs.Reading.{name_read, onward, seen}

-- two numbers with a plus sign (43) between them
abbrev pub span_from : Option ℕ → Option ℕ → Option Span
span_from None length = None
span_from (Some start) None = None
span_from (Some start) (Some length) = Some (record { start = start; length = length })

abbrev pub span_read : List ℕ → Option Span
span_read written =
    span_from (number_below (2 ^ 32) (before_first (λ b. b == 43) written)) (number_below (2 ^ 32) (after_first (λ b. b == 43) written))

-- a name behind a host text, and its span; a text of more bytes than 32 bits can count is refused
abbrev pub placed : List ℕ → List ℕ → Result (List ℕ × Span) Reason
placed host name =
    if nat_lt (length (host ++ name)) (2 ^ 32) then Ok (host ++ name, record { start = length host; length = length name }) else Err TooMuchText

abbrev pub name_laid : List ℕ → List ℕ → Result (List ℕ × Span) Reason
name_laid host word = onward (name_read word) (placed host)

-- behind @ (64) stands a span, which is handed on as it is and lays nothing; any other word is laid as a name
abbrev pub name_placed : List ℕ → List ℕ → Result (List ℕ × Span) Reason
name_placed host [] = name_laid host []
name_placed host (b ∷ bs) =
    if b == 64 then seen (λ span. (host, span)) (ok_or (span_read bs) NotAName) else name_laid host (b ∷ bs)
