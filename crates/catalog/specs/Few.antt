-- A few things held in place. Assumes nothing.
use Rattle.std.specs.Prelude.{ℕ, List, take}
use Rattle.catalog.specs.declared.few.Few.{Few}

-- those that stand; the other places are unused
abbrev pub standing : {T : Type 0} {n : ℕ} → Few T n → List T
standing f = take f.count f.items
