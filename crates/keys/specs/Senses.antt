-- What the three kinds of key stand for, when two are the same, and their hashes.
-- Assumes nothing.
use Rattle.std.specs.Prelude.{ℕ, ◌+◌, ◌*◌, ◌/◌, ◌%◌, ◌^◌, Bool, ◌&&◌, List, ℤ, pos, negsuc, fold, ◌==◌, bit_xor}
use Rattle.std.specs.Ordering.{int_eq}
use Rattle.type_info.specs.declared.oid.Oid.{Oid}
use Rattle.keys.specs.declared.kinds.Attribute.{Attribute}
use Rattle.keys.specs.declared.kinds.Name.{Name}

-- a relation's OID and an attribute's number
abbrev pub Pair : Type 0
Pair = ℕ × ℤ

abbrev pub same_pair : Pair → Pair → Bool
same_pair p q = p.0 == q.0 && int_eq p.1 q.1

abbrev pub oid_of : Oid → ℕ
oid_of o = o.0

abbrev pub pair_of : Attribute → Pair
pair_of a = (a.relation.0, a.number.0)

abbrev pub name_bytes : Name → List ℕ
name_bytes n = n.0.now

-- one step of a hash, and its end, in 32 bits
abbrev pub mixed : ℕ → ℕ → ℕ
mixed h x = bit_xor h x * 16777619 % 2 ^ 32

abbrev pub folded_hash : ℕ → ℕ
folded_hash h = bit_xor h (h / 2 ^ 16) * 2246822507 % 2 ^ 32

abbrev pub finished : ℕ → ℕ
finished h = bit_xor (folded_hash h) (folded_hash h / 2 ^ 13)

-- where each hash begins
abbrev pub seed : ℕ
seed = 2166136261

-- a number for each attribute number
abbrev pub folded_sign : ℤ → ℕ
folded_sign (pos n) = 2 * n
folded_sign (negsuc n) = 2 * n + 1

abbrev pub oid_digest : ℕ → ℕ
oid_digest o = finished (mixed seed o)

abbrev pub pair_digest : Pair → ℕ
pair_digest p = finished (mixed (mixed seed p.0) (folded_sign p.1))

abbrev pub bytes_digest : List ℕ → ℕ
bytes_digest bs = finished (fold mixed seed bs)
