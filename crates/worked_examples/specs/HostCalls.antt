-- Worked examples of what a host asks: refusals before any round, what is told of them, and ordinals.
-- Assumes nothing.
use Rattle.std.specs.Prelude.{◌≡◌, ℕ, true, List, [], ◌∷◌, Some, None, codes, replicate}
use Rattle.catalog.specs.declared.faults.Layer.TheVariants as layer
use Rattle.keys.specs.declared.span.Span.{Span}
use Rattle.life.specs.HostCalls.{HostType, host_oid, host_name, host_array, HostField, HostCall, host_fill, host_resolve, host_bind, early_refusal, asked_outcome}
use Rattle.life.specs.Ordinal.{ordinal_among}
use Rattle.life.specs.Steps.{empty_book, accepted}
use Rattle.life.specs.Told.{told_of}
use Rattle.worked_examples.specs.Cards.{vectors}
use Rattle.worked_examples.specs.Steps.{room}

abbrev pub span : ℕ → ℕ → Span
span start length = record { start = start; length = length }

-- a field of int4 with this name
abbrev pub named : Span → HostField
named name = record { name = name; oid = 23; relation = None; attribute = None }

-- w, h and w
abbrev pub whw : List ℕ
whw = codes "whw"

abbrev pub columns : List HostField
columns = named (span 0 1) ∷ named (span 1 1) ∷ named (span 2 1) ∷ []

pub record OrdinalExamples : Type 0 where
  -- the last field of a name
  pub w : ordinal_among whw columns (span 0 1) ≡ Some 2
  pub h : ordinal_among whw columns (span 1 1) ≡ Some 1
  -- no field has the two bytes, and the empty name is no field's
  pub wh : ordinal_among whw columns (span 0 2) ≡ None
  pub empty : ordinal_among whw columns (span 3 0) ≡ None
  -- outside the text
  pub outside : ordinal_among whw columns (span 3 1) ≡ None
  pub outside_too : ordinal_among whw (named (span 3 1) ∷ []) (span 3 1) ≡ None

abbrev pub resolving : List HostType → ℕ → HostCall
resolving entries slots = host_resolve (record { entries = entries; slots = slots })

-- with as many slots as there are parameters and fields, or fewer
abbrev pub binding : List ℕ → List HostField → ℕ → ℕ → HostCall
binding parameters fields parameter_slots column_slots =
    host_bind
    (record { parameters = parameters; fields = fields; queries = true; origins = true; parameter_slots = parameter_slots; column_slots = column_slots })

abbrev pub long : List ℕ
long = replicate 130 95

pub record EarlyExamples : Type 0 where
  -- 256 entries and no more; the place is the 257th, among the fields of a Bind behind all parameters
  pub most : early_refusal [] (host_fill (replicate 256 23)) ≡ None
  pub too_many : early_refusal [] (host_fill (replicate 257 23)) ≡ Some (1, 256)
  pub too_many_fields : early_refusal whw (binding (23 ∷ 23 ∷ []) (replicate 257 (named (span 0 1))) 2 257) ≡ Some (1, 258)
  -- the lists are counted apart
  pub apart : early_refusal whw (binding (replicate 256 23) (replicate 256 (named (span 0 1))) 256 256) ≡ None
  -- a buffer that is too short; more slots than entries are no reason
  pub no_slot : early_refusal [] (resolving (host_oid 23 ∷ host_oid 23 ∷ []) 1) ≡ Some (2, 1)
  pub no_column_slot : early_refusal whw (binding (23 ∷ []) columns 5 2) ≡ Some (2, 3)
  -- how long a name may be
  pub nameless : early_refusal long (resolving (host_oid 23 ∷ host_name (span 0 0) ∷ []) 2) ≡ Some (3, 1)
  pub longest : early_refusal long (resolving (host_name (span 0 128) ∷ host_array (span 0 126) ∷ []) 2) ≡ None
  pub too_long : early_refusal long (resolving (host_name (span 0 129) ∷ []) 1) ≡ Some (3, 0)
  pub too_long_element : early_refusal long (resolving (host_array (span 0 127) ∷ []) 1) ≡ Some (3, 0)
  pub too_long_field : early_refusal long (binding (23 ∷ 23 ∷ []) (named (span 0 128) ∷ named (span 0 129) ∷ []) 2 2) ≡ Some (3, 3)
  -- the empty span at the very end is inside, and the next is not
  pub at_end : early_refusal whw (binding [] (named (span 3 0) ∷ []) 0 1) ≡ None
  pub past_end : early_refusal whw (binding [] (named (span 4 0) ∷ []) 0 1) ≡ Some (3, 0)
  -- 1 before 2, 2 before 3, also where the offence of the later kind is in the earlier list
  pub one_first : early_refusal [] (binding (23 ∷ []) (replicate 257 (named (span 0 1))) 0 0) ≡ Some (1, 257)
  pub two_first : early_refusal [] (binding (23 ∷ []) (named (span 0 1) ∷ named (span 0 1) ∷ []) 1 1) ≡ Some (2, 2)
  -- what is told of a refusal, and what follows where there is none
  pub told :
      told_of (asked_outcome room room long vectors empty_book (resolving (host_name (span 0 129) ∷ []) 1)).ending ≡
      Some (record { number = 3; place = 0; layer = layer.Call; rounds = 0 })
  pub follows : (asked_outcome room room (codes "int2vector") vectors empty_book (resolving (host_name (span 0 10) ∷ []) 1)).ending ≡ accepted 1 0
