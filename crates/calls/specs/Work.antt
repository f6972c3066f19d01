-- How much memory there is for counting names.
-- Assumes nothing.
use Rattle.std.specs.Prelude.{◌≡◌, ℕ, List, length}
use Rattle.keys.specs.declared.span.Span.{Span}
use Rattle.slots.specs.Slots.{Entry}
use Rattle.type_info.specs.declared.oid.Oid.{Oid}

pub record Lent (text : List ℕ) (names : List (Entry Span Oid)) : Type 0 where
  pub text_lent : length text ≡ 32768
  pub names_lent : length names ≡ 512
