-- How long the answer buffers of a step are to be.
-- Assumes nothing.
use Rattle.std.specs.Prelude.{ℕ, Some, None, Option}

-- as long as the line says, or else as its list
abbrev pub slots_asked : Option ℕ → ℕ → ℕ
slots_asked (Some slots) entries = slots
slots_asked None entries = entries
