-- What a step over two lists asks for.
-- Assumes nothing.
use Rattle.std.specs.Prelude.{ℕ, List, ◌++◌, map}
use Rattle.requests.specs.declared.asked.FieldAsked.{FieldAsked}
use Rattle.requests.specs.Asked.{fields_of}

-- the types of the fields, in the words of the law
abbrev pub types_of : List FieldAsked → List ℕ
types_of fields = map (λ f. f.oid) (fields_of fields)

-- OIDs, and then these
abbrev pub both_lists : List ℕ → List FieldAsked → List ℕ
both_lists oids fields = oids ++ types_of fields
