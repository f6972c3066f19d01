-- The bytes of a text under a span.
-- Assumes nothing.
use Rattle.std.specs.Prelude.{ℕ, ◌+◌, List, take, drop}
use Rattle.keys.specs.declared.span.Span.{Span}

abbrev pub span_bytes : List ℕ → Span → List ℕ
span_bytes text s = take s.length (drop s.start text)

abbrev pub span_end : Span → ℕ
span_end s = s.start + s.length
