-- What a host is told of a refused call: number, place, layer and rounds.
-- Assumes nothing.
use Rattle.std.specs.Prelude.{◌≡◌, ℕ, suc, ◌≤◌, Bool, true, false, ◌||◌, ◌⊎◌, List, if◌then◌else◌, ◌==◌, Some, None, Option, nat_le}
use Rattle.catalog.specs.Catalog.{Catalog}
use Rattle.catalog.specs.declared.faults.Layer.{Layer}
use Rattle.catalog.specs.declared.faults.Layer.TheVariants as layer
use Rattle.catalog.specs.declared.faults.Told.{Told}
use Rattle.life.specs.HostCalls.{HostCall, host_fill, host_resolve, host_bind, host_describe, asked_outcome}
use Rattle.life.specs.Steps.{Book, Ending, accepted, refused}

-- the layer of a refusal of a step: columns where it is of the column round
abbrev pub layer_of : ℕ → Bool → Layer
layer_of number true = layer.Columns
layer_of number false = if nat_le number 3 || number == 10 then layer.Call else if number == 5 then layer.Catalog else layer.Fill

abbrev pub told_of : Ending → Option Told
told_of (accepted types columns) = None
told_of (refused number place columns rounds) = Some (record { number = number; place = place; layer = layer_of number columns; rounds = rounds })

-- the refusals of each layer: what their number, their place and their rounds have to do with each other
abbrev pub Listed : Layer → (number place rounds : ℕ) → Type 0
Listed layer.Call n p r = (((n ≡ 1) ⊎ ((n ≡ 2) ⊎ (n ≡ 3))) × (r ≡ 0)) ⊎ (n ≡ 10)
Listed layer.Fill n p r = ((n ≡ 4) × (p ≡ 65) × (r ≡ 64)) ⊎ ((n ≡ 6) ⊎ ((n ≡ 7) ⊎ ((n ≡ 8) ⊎ (n ≡ 9))))
Listed layer.Catalog n p r = (n ≡ 5) × (p ≡ suc r)
Listed layer.Columns n p r = ((n ≡ 5) × (p ≡ suc r)) ⊎ (n ≡ 8)

-- the numbers that a call may be refused by: Fill by 1 and 4 to 9, Resolve by 1 to 10, Bind by 1 to 9, Describe by none
abbrev pub MayTell : HostCall → ℕ → Type 0
MayTell (host_fill os) n = (n ≡ 1) ⊎ ((4 ≤ n) × (n ≤ 9))
MayTell (host_resolve q) n = (1 ≤ n) × (n ≤ 10)
MayTell (host_bind q) n = (1 ≤ n) × (n ≤ 9)
MayTell (host_describe o) n = ⊥

-- the layers that a call may be refused by: none but a Bind is refused by layer columns
abbrev pub MayLayer : HostCall → Layer → Type 0
MayLayer (host_fill os) l = l ≡ layer.Columns → ⊥
MayLayer (host_resolve q) l = l ≡ layer.Columns → ⊥
MayLayer (host_bind q) l = Unit {0}
MayLayer (host_describe o) l = ⊥

-- whatever a host asks, what it is told is a refusal listed of that layer, and one that this call may have
abbrev pub ToldLaw : Type 0
ToldLaw =
    (full full_columns : Book → Option ℕ) (host : List ℕ) (c : Catalog) (b : Book) (call : HostCall) (t : Told) →
    told_of (asked_outcome full full_columns host c b call).ending ≡ Some t →
    Listed t.layer t.number t.place t.rounds × MayTell call t.number × MayLayer call t.layer
