-- What a table knows, and what becomes of it where a key is offered with a value.
-- Assumes nothing.
use Rattle.std.specs.Prelude.{◌≡◌, ℕ, ◌+◌, ◌<◌, Bool, List, ◌++◌, length, Some, None, Option, nat_eq}
use Rattle.std.specs.Map.{update}
use Rattle.std.specs.Str.{bytes_eq}
use Rattle.keys.specs.Senses.{Pair, bytes_digest, oid_of, pair_of, same_pair}
use Rattle.keys.specs.Spans.{span_bytes}
use Rattle.keys.specs.declared.kinds.Attribute.{Attribute}
use Rattle.keys.specs.declared.span.Span.{Span}
use Rattle.slots.specs.Slots.{Entry, filled, held, looks}
use Rattle.slots.specs.Text.{LentText, Room, lent}
use Rattle.type_info.specs.declared.oid.Oid.{Oid}

-- what a table by name is made of: the text that its names lie in, and its slots
pub record Names (V : Type 0) : Type 0 where
  pub text : LentText
  pub slots : List (Entry Span V)

module _ {V : Type 0} where
  -- the value under a name whose bytes lie in the text, under an OID, and under an attribute
  abbrev pub by_name : List ℕ → List (Entry Span V) → List ℕ → Option V
  by_name text es = held bytes_eq (span_bytes text) es

  abbrev pub by_oid : List (Entry Oid V) → ℕ → Option V
  by_oid es = held nat_eq oid_of es

  abbrev pub by_attribute : List (Entry Attribute V) → Pair → Option V
  by_attribute es = held same_pair pair_of es

  -- what a table by name knows
  abbrev pub known : Names V → List ℕ → Option V
  known t = by_name t.text.text t.slots

  -- how many slots a search for a name looks at
  abbrev pub looks_by_name : Names V → List ℕ → ℕ
  looks_by_name t = looks bytes_eq (span_bytes t.text.text) bytes_digest t.slots

  -- a slot is empty
  abbrev pub HasEmpty : {S : Type 0} → List (Entry S V) → Type 0
  HasEmpty es = filled es < length es

  -- there is room for one more name, of n bytes
  abbrev pub HasRoom : Names V → ℕ → Type 0
  HasRoom t n = HasEmpty t.slots × Room t.text n

  -- a key that was not there has the value v, one slot more is full, and nothing else has changed: in slots, and in a table by name
  pub record Gained {S Q : Type 0} (alike : Q → Q → Bool) (sense : S → Q) (es : List (Entry S V)) (q : Q) (v : V) (fs : List (Entry S V)) : Type 0 where
    pub holds : (p : Q) → held alike sense fs p ≡ update alike (held alike sense es) q (Some v) p
    pub count : filled fs ≡ filled es + 1
    pub size : length fs ≡ length es

  pub record GainedName (t : Names V) (name : List ℕ) (v : V) (u : Names V) : Type 0 where
    pub knows : (p : List ℕ) → known u p ≡ update bytes_eq (known t) name (Some v) p
    pub count : filled u.slots ≡ filled t.slots + 1
    pub size : length u.slots ≡ length t.slots
    pub text : u.text.text ≡ t.text.text ++ name
    pub lent : lent u.text ≡ lent t.text

  -- what is answered where a key is offered with a value: a key that is there keeps the one that it has, and the table is the
  -- same; any other is added where there is room, and where there is none nothing is answered, and the table is the same
  abbrev pub Interned : Option V → V → Type 0 → Type 0 → Type 0 → Option V → Type 0
  Interned (Some there) offered room added same answer = (answer ≡ Some there) × same
  Interned None offered room added same (Some v) = (v ≡ offered) × room × added
  Interned None offered room added same None = (room → ⊥) × same
