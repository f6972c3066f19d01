use Rattle.std.proofs.Common.{◌≡◌, ◌++◌, drop, map}
use Rattle.requests.specs.declared.asked.FieldAsked.{FieldAsked}
use Rattle.desk.proofs.bound.names_of.Given as goal

-- the names so far and those of what is left
abbrev pub invariant-loop-field : goal.invariant-loop-field
invariant-loop-field l = map (λ (f : FieldAsked). f.name) l.fields ≡ l.names.items ++ map (λ (f : FieldAsked). f.name) (drop l.field-index l.fields)
