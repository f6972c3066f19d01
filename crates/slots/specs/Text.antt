-- A text in lent bytes, and the bytes under a span.
-- Assumes nothing.
use Rattle.std.specs.Prelude.{◌≡◌, ℕ, ◌+◌, ◌^◌, ◌<◌, ◌≤◌, List, ◌++◌, length, drop, Some, None, Option}
use Rattle.keys.specs.declared.span.Span.{Span}
use Rattle.keys.specs.Spans.{span_bytes, span_end}

-- a text, and the lent bytes behind it that are not in use
pub record LentText : Type 0 where
  pub text : List ℕ
  pub spare : List ℕ

-- how many bytes are lent
abbrev pub lent : LentText → ℕ
lent t = length t.text + length t.spare

-- there is room for n bytes more, and their span can be told in 32 bits
pub record Room (t : LentText) (n : ℕ) : Type 0 where
  pub lent : n ≤ length t.spare
  pub told : length t.text + n < 2 ^ 32

-- bytes laid behind a text, which keeps every earlier span's bytes, and the spare bytes behind them
pub record Laid (before : LentText) (bytes : List ℕ) (span : Span) (after : LentText) : Type 0 where
  pub room : Room before (length bytes)
  pub text : after.text ≡ before.text ++ bytes
  pub spare : after.spare ≡ drop (length bytes) before.spare
  pub at : (span.start ≡ length before.text) × (span.length ≡ length bytes)
  pub reads : span_bytes after.text span ≡ bytes
  pub within : span_end span ≤ length after.text
  pub keeps : (s : Span) → span_end s ≤ length before.text → span_bytes after.text s ≡ span_bytes before.text s

-- without room the text is as it was
abbrev pub Appended : LentText → List ℕ → Option Span → LentText → Type 0
Appended before bytes (Some span) after = Laid before bytes span after
Appended before bytes None after = (Room before (length bytes) → ⊥) × (after ≡ before)
