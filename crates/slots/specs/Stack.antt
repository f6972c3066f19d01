-- Items in lent slots.
-- Assumes nothing.
use Rattle.std.specs.Prelude.{◌≡◌, ℕ, ◌+◌, List, [], ◌∷◌, ◌++◌, length, Some, None, Option}

-- the items in use, the oldest first, and how many slots are free
pub record LentItems (T : Type 0) : Type 0 where
  pub items : List T
  pub free : ℕ

module _ {T : Type 0} where
  abbrev pub slots_lent : LentItems T → ℕ
  slots_lent s = length s.items + s.free

  -- an item was laid behind the others; where no slot is free nothing is
  abbrev pub Pushed : LentItems T → T → Option (Unit {0}) → LentItems T → Type 0
  Pushed before item (Some done) after = (after.items ≡ before.items ++ item ∷ []) × (before.free ≡ after.free + 1)
  Pushed before item None after = (before.free ≡ 0) × (after ≡ before)
