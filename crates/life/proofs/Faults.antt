-- The fault of a refusal tells what a host is told of it.
-- Assumes nothing.
use Rattle.std.proofs.Common.{◌≡◌, ℕ, suc, ◌-◌, Bool, true, false, ◌||◌, ◌⊎◌, if◌then◌else◌, Some, Option, refl, ap, inl, inr, nat_le, arith}
use Rattle.std.specs.Prelude.{◌==◌}
use Rattle.catalog.specs.declared.faults.Layer.{Layer}
use Rattle.catalog.specs.declared.faults.Layer.TheVariants as layer
use Rattle.catalog.specs.declared.faults.Told.{Told}
use Rattle.life.specs.Faults.{call_fault, call_told, FaultLaw}
use Rattle.life.specs.Steps.{refused}
use Rattle.life.specs.Told.{layer_of, told_of, Listed}
use Rattle.life.proofs.Told.{told_law}

-- a refusal listed of the layer that two tests give is listed of one of three
by_tests : (t u : Bool) (n p r : ℕ) → Listed (if t then layer.Call else if u then layer.Catalog else layer.Fill) n p r →
    Listed layer.Call n p r ⊎ (Listed layer.Catalog n p r ⊎ Listed layer.Fill n p r)
by_tests true u n p r h = inl h
by_tests false true n p r h = inr (inl h)
by_tests false false n p r h = inr (inr h)

abbrev ToldBy : (n p : ℕ) → Bool → (r : ℕ) → Type 0
ToldBy n p columns r = told_of (refused n p columns r) ≡ Some (call_told (call_fault n p columns r))

one_less : (l : Layer) (r : ℕ) → ◌≡◌ {A = Option Told} (Some (record { number = 5; place = suc r; layer = l; rounds = r })) (Some (record { number = 5; place = suc r; layer = l; rounds = suc r - 1 }))
one_less l r = let less : r ≡ suc r - 1 = omega arith in ap (λ (k : ℕ). Some (record { number = 5; place = suc r; layer = l; rounds = k })) less

each : (n p r : ℕ) → Listed layer.Call n p r ⊎ (Listed layer.Catalog n p r ⊎ Listed layer.Fill n p r) → ToldBy n p false r
each n p r (inl (inl (inl e, z))) = rw (e, z) refl
each n p r (inl (inl (inr (inl e), z))) = rw (e, z) refl
each n p r (inl (inl (inr (inr e), z))) = rw (e, z) refl
each n p r (inl (inr e)) = rw e refl
each n p r (inr (inl (e, f))) = rw (e, f) (one_less layer.Catalog r)
each n p r (inr (inr (inl (e, f, g)))) = rw (e, f, g) refl
each n p r (inr (inr (inr (inl e)))) = rw e refl
each n p r (inr (inr (inr (inr (inl e))))) = rw e refl
each n p r (inr (inr (inr (inr (inr (inl e)))))) = rw e refl
each n p r (inr (inr (inr (inr (inr (inr e)))))) = rw e refl

by_table : (n p : ℕ) (columns : Bool) (r : ℕ) → Listed (layer_of n columns) n p r → ToldBy n p columns r
by_table n p true r (inl (e, f)) = rw (e, f) (one_less layer.Columns r)
by_table n p true r (inr e) = rw e refl
by_table n p false r h = each n p r (by_tests (nat_le n 3 || n == 10) (n == 5) n p r h)

pub fault_law : FaultLaw
fault_law full full_columns host c b call n p columns r e =
    by_table n p columns r (told_law full full_columns host c b call (record { number = n; place = p; layer = layer_of n columns; rounds = r }) (ap told_of e)).0
