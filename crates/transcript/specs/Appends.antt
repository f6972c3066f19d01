-- Printing lays bytes behind what was printed before.
-- Assumes nothing.
use Rattle.std.specs.Prelude.{◌≡◌, ℕ, List, ◌++◌, IfOk, Result}
use Rattle.std.specs.declared.alloc.AllocError.{AllocError}

pub record Behind (before bytes after : List ℕ) : Type 0 where
  pub is : after ≡ before ++ bytes

-- nothing is promised where memory is wanting
abbrev pub Appends : List ℕ → List ℕ → List ℕ → Result (Unit {0}) AllocError → Type 0
Appends bytes before after r = IfOk r (λ done. Behind before bytes after)
