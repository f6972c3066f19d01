-- The names of a bound statement's columns, and the slots that lead to them.
-- Assumes nothing.
use Rattle.std.specs.Prelude.{◌≡◌, ℕ, ◌+◌, ◌≤◌, Bool, ◌&&◌, List, length, Option}
use Rattle.std.specs.Bool.{then_some}
use Rattle.std.specs.Option.{option_or}
use Rattle.std.specs.Str.{bytes_eq}
use Rattle.keys.specs.Senses.{bytes_digest}
use Rattle.keys.specs.Spans.{span_bytes, span_end}
use Rattle.keys.specs.declared.span.Span.{Span}
use Rattle.life.specs.HostCalls.{inside}
use Rattle.life.specs.Ordinal.{last_place}
use Rattle.slots.specs.Slots.{Entry, Kept, filled, held}

-- the host text, and the names in order
pub record Columns : Type 0 where
  pub host : List ℕ
  pub names : List Span

-- the name lies in the host text and has these bytes
abbrev pub has_bytes : List ℕ → List ℕ → Span → Bool
has_bytes host q name = inside host name && bytes_eq q (span_bytes host name)

-- where the slots lead from bytes
abbrev pub leads_to : List ℕ → List (Entry Span ℕ) → List ℕ → Option ℕ
leads_to host es q = held bytes_eq (span_bytes host) es q

-- the slots lead to the place, counted from i, of the last of these names that has the bytes
pub record Indexed (host : List ℕ) (i : ℕ) (names : List Span) (es : List (Entry Span ℕ)) : Type 0 where
  pub kept : Kept span_bytes bytes_digest span_end host es
  pub leads : (q : List ℕ) → leads_to host es q ≡ last_place (has_bytes host q) i names

-- one more name goes in, which comes before those that are there: they keep the bytes that they have
pub record Entered (host : List ℕ) (name : Span) (place : ℕ) (es fs : List (Entry Span ℕ)) : Type 0 where
  pub kept : Kept span_bytes bytes_digest span_end host fs
  pub leads : (q : List ℕ) → leads_to host fs q ≡ option_or (leads_to host es q) (then_some (has_bytes host q name) place)
  pub count : filled fs ≤ filled es + 1
  pub size : length fs ≡ length es
