-- A call as a host makes it: refusals 1 to 3, before any round, and the call that is meant where nothing is refused.
-- Assumes nothing.
use Rattle.std.specs.Prelude.{◌≡◌, ℕ, suc, ◌+◌, ◌≤◌, Bool, false, not, ◌&&◌, ◌⊎◌, ◌↔◌, List, [], ◌∷◌, ◌++◌, map, length, ℤ, if◌then◌else◌, Some, None, Option, option_map, nat_lt, nat_le}
use Rattle.std.specs.Option.{option_or}
use Rattle.catalog.specs.Catalog.{Catalog, Each, Laws, Grows}
use Rattle.keys.specs.declared.span.Span.{Span}
use Rattle.keys.specs.Spans.{span_bytes, span_end}
use Rattle.life.specs.Calls.{Declared, of_oid, of_name, array_of, Field, Call, fill, resolve, bind, describe}
use Rattle.life.specs.Keep.{call_event}
use Rattle.life.specs.Life.{Lawful}
use Rattle.life.specs.Lists.{first_place, FirstAt}
use Rattle.life.specs.Outcomes.{Outcome, refusal}
use Rattle.life.specs.Run.{perform, Done, Performed, CountedRun}
use Rattle.life.specs.Steps.{Book, empty_book, Event}

-- an entry of Resolve, over the host's text
pub data HostType : Type 0 where
  host_oid : ℕ → HostType
  host_name : Span → HostType
  host_array : Span → HostType

pub record HostField : Type 0 where
  pub name : Span
  pub oid : ℕ
  pub relation : Option ℕ
  pub attribute : Option ℤ

-- lists, and how many slots the answer buffer of each has
pub record ResolveAsked : Type 0 where
  pub entries : List HostType
  pub slots : ℕ

pub record BindAsked : Type 0 where
  pub parameters : List ℕ
  pub fields : List HostField
  pub queries : Bool
  pub origins : Bool
  pub parameter_slots : ℕ
  pub column_slots : ℕ

pub data HostCall : Type 0 where
  host_fill : List ℕ → HostCall
  host_resolve : ResolveAsked → HostCall
  host_bind : BindAsked → HostCall
  host_describe : ℕ → HostCall

-- the call that is meant: names are read out of the host's text
abbrev pub meant_type : List ℕ → HostType → Declared
meant_type host (host_oid o) = of_oid o
meant_type host (host_name s) = of_name (span_bytes host s)
meant_type host (host_array s) = array_of (span_bytes host s)

abbrev pub meant_field : HostField → Field
meant_field f = record { oid = f.oid; relation = f.relation; attribute = f.attribute }

abbrev pub meant : List ℕ → HostCall → Call
meant host (host_fill os) = fill os
meant host (host_resolve q) = resolve (map (meant_type host) q.entries)
meant host (host_bind q) =
    bind (record { parameters = q.parameters; fields = map meant_field q.fields; queries = q.queries; origins = q.origins })
meant host (host_describe o) = describe o

-- a name that a host writes, and how many bytes it may have
pub record HostName : Type 0 where
  pub span : Span
  pub least : ℕ
  pub most : ℕ

abbrev pub type_name : HostType → Option HostName
type_name (host_oid o) = None
type_name (host_name s) = Some (record { span = s; least = 1; most = 128 })
type_name (host_array s) = Some (record { span = s; least = 1; most = 126 })

abbrev pub field_name : HostField → Option HostName
field_name f = Some (record { span = f.name; least = 0; most = 128 })

-- the span ends within the text
abbrev pub inside : List ℕ → Span → Bool
inside host s = nat_le (span_end s) (length host)

-- a name that is too short or too long, or lies outside the host's text
abbrev pub misnamed : List ℕ → Option HostName → Bool
misnamed host None = false
misnamed host (Some n) = not (inside host n.span && (nat_le n.least n.span.length && nat_le n.span.length n.most))

-- the place, counted from i, of the first entry behind the first n
abbrev pub first_behind : {A : Type 0} → ℕ → ℕ → List A → Option ℕ
first_behind n i xs = if nat_lt n (length xs) then Some (i + n) else None

abbrev pub first_misnamed : {A : Type 0} → List ℕ → (A → Option HostName) → ℕ → List A → Option ℕ
first_misnamed host name i xs = first_place (λ x. misnamed host (name x)) i xs

-- number and place of a refusal
abbrev pub numbered : ℕ → Option ℕ → Option (ℕ × ℕ)
numbered number place = option_map (λ p. (number, p)) place

abbrev pub resolve_refusal : List ℕ → ResolveAsked → Option (ℕ × ℕ)
resolve_refusal host q =
    option_or (numbered 1 (first_behind 256 0 q.entries))
    (option_or (numbered 2 (first_behind q.slots 0 q.entries)) (numbered 3 (first_misnamed host type_name 0 q.entries)))

-- places go on from the parameters through the fields
abbrev pub bind_refusal : List ℕ → BindAsked → Option (ℕ × ℕ)
bind_refusal host q =
    let n : ℕ = length q.parameters in
    option_or (numbered 1 (option_or (first_behind 256 0 q.parameters) (first_behind 256 n q.fields)))
    (option_or (numbered 2 (option_or (first_behind q.parameter_slots 0 q.parameters) (first_behind q.column_slots n q.fields)))
    (numbered 3 (first_misnamed host field_name n q.fields)))

abbrev pub early_refusal : List ℕ → HostCall → Option (ℕ × ℕ)
early_refusal host (host_fill os) = numbered 1 (first_behind 256 0 os)
early_refusal host (host_resolve q) = resolve_refusal host q
early_refusal host (host_bind q) = bind_refusal host q
early_refusal host (host_describe o) = None

-- refused, with the book as it was, or else what follows
abbrev pub unless_early : Book → Outcome → Option (ℕ × ℕ) → Outcome
unless_early b fine None = fine
unless_early b fine (Some r) = refusal b r.0 r.1 0

-- what an asked call does
abbrev pub asked_outcome : (full full_columns : Book → Option ℕ) → List ℕ → Catalog → Book → HostCall → Outcome
asked_outcome full full_columns host c b call = unless_early b (perform full full_columns c b (meant host call)) (early_refusal host call)

-- an entry of a call: its index in its own list, how many slots the answer buffer of that list has, if it has one, and its name,
-- if it has one
pub record Entry : Type 0 where
  pub index : ℕ
  pub slots : Option ℕ
  pub name : Option HostName

abbrev pub entries_from : {A : Type 0} → Option ℕ → (A → Option HostName) → ℕ → List A → List Entry
entries_from slots name i [] = []
entries_from slots name i (x ∷ xs) = record { index = i; slots = slots; name = name x } ∷ entries_from slots name (suc i) xs

-- all entries of a call: a place is a place among them
abbrev pub entries : HostCall → List Entry
entries (host_fill os) = entries_from None (λ o. None) 0 os
entries (host_resolve q) = entries_from (Some q.slots) type_name 0 q.entries
entries (host_bind q) = entries_from (Some q.parameter_slots) (λ o. None) 0 q.parameters ++ entries_from (Some q.column_slots) field_name 0 q.fields
entries (host_describe o) = []

-- 256 entries of its list are before it
abbrev pub OneTooMany : Entry → Type 0
OneTooMany e = 256 ≤ e.index

-- its list has an answer buffer, which has no slot for it
abbrev pub WithoutSlot : Entry → Type 0
WithoutSlot e = (slots : ℕ) × (e.slots ≡ Some slots) × (slots ≤ e.index)

-- the span ends within the text, and has as many bytes as the name may have
abbrev pub WellNamed : List ℕ → HostName → Type 0
WellNamed host n = (n.span.start + n.span.length ≤ length host) × (n.least ≤ n.span.length) × (n.span.length ≤ n.most)

abbrev pub Misnamed : List ℕ → Entry → Type 0
Misnamed host e = (n : HostName) × (e.name ≡ Some n) × (WellNamed host n → ⊥)

abbrev pub NoneOf : (Entry → Type 0) → List Entry → Type 0
NoneOf P es = Each (λ e. P e → ⊥) es

-- of all entries, the one at this place is the first that offends so, and none offends against what comes before
abbrev pub RefusedEarly : List ℕ → HostCall → (number place : ℕ) → Type 0
RefusedEarly host call number place =
    let es : List Entry = entries call in
    ((number ≡ 1) × FirstAt OneTooMany 0 es place) ⊎
    (((number ≡ 2) × NoneOf OneTooMany es × FirstAt WithoutSlot 0 es place) ⊎
    ((number ≡ 3) × NoneOf OneTooMany es × NoneOf WithoutSlot es × FirstAt (Misnamed host) 0 es place))

-- a call is refused before any round, by this number at this place, exactly where that is so
abbrev pub EarlyLaw : Type 0
EarlyLaw = (host : List ℕ) (call : HostCall) (number place : ℕ) → (early_refusal host call ≡ Some (number, place)) ↔ RefusedEarly host call number place

module _ (full full_columns : Book → Option ℕ) where
  -- the event is this call, asked with this text and met by b, which it left as b'
  pub record AsAsked (host : List ℕ) (call : HostCall) (e : Event) (b b' : Book) : Type 0 where
    pub laws : Laws e.before
    pub event : e ≡ call_event e.before (meant host call) (asked_outcome full full_columns host e.before b call).ending
    pub left : b' ≡ (asked_outcome full full_columns host e.before b call).left

  -- b is the book that the calls which hosts asked, the last one first, left of the empty book, and c the catalog as it now stands
  abbrev pub AskedLife : List Event → Catalog → Book → Type 0
  AskedLife [] c b = b ≡ empty_book
  AskedLife (e ∷ h) c b =
      (b₀ : Book) × (host : List ℕ) × (call : HostCall) × AskedLife h e.before b₀ × AsAsked host call e b₀ b × Grows e.after c

-- whatever a host asks, what it does is a call performed, or one turned away before any round
abbrev pub AskedLaw : Type 0
AskedLaw =
    (full full_columns : Book → Option ℕ) (host : List ℕ) (call : HostCall) (e : Event) (b b' : Book) →
    AsAsked full full_columns host call e b b' → Done full full_columns e b b'

-- so all that is said of a book's life and its counts holds of any calls that hosts ask
abbrev pub AskedLifeLaw : Type 0
AskedLifeLaw =
    (full full_columns : Book → Option ℕ) (h : List Event) (c : Catalog) (b : Book) → AskedLife full full_columns h c b →
    Lawful h c b × ((p : Performed full full_columns h c b) × CountedRun full full_columns h c b p)
