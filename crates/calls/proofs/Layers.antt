-- What a fault tells of its layer.
-- Assumes nothing.
use Rattle.std.proofs.Common.{◌≡◌, ◌∙◌, ℕ, ◌<◌, Some, Option, List, Result, Ok, Err, IfErr, sym, refl, ap, subst, ⊎_elim, arith, false}
use Rattle.catalog.specs.Catalog.{Catalog}
use Rattle.catalog.specs.declared.faults.CatalogFault.TheVariants.{NoAllowance, BreaksLimit, Contradicts, Full as Lacks}
use Rattle.catalog.specs.declared.faults.Layer.TheVariants as layer
use Rattle.life.specs.HostCalls.{HostCall, asked_outcome, meant}
use Rattle.life.specs.Steps.{Book, Ending, refused}
use Rattle.life.specs.Told.{Listed, told_of}
use Rattle.life.proofs.Told.{told_law}
use Rattle.room.specs.Asked.{asked_within}
use Rattle.room.specs.Room.{columns_full, types_full}
use Rattle.room.specs.Tables.{Tables, contents}
use Rattle.book.specs.Held.{Held}
use Rattle.book.specs.Stands.{Stands}
use Rattle.binding.specs.Whole.{bound_ending}
use Rattle.binding.specs.declared.whole.Rounds.{Rounds}
use Rattle.calls.specs.Endings.{Did, TellsOf, ending_of}
use Rattle.life.specs.Life.{Agrees}
use Rattle.faults.specs.Faults.{call_refusal_of, refused_so}
use Rattle.faults.specs.declared.call.CallFault.{CallFault}
use Rattle.faults.specs.declared.call.CallFault.TheVariants.{TooLong, NoSlot, BadName, NoOid, Fill, Columns}
use Rattle.faults.specs.declared.columns.ColumnsFault.TheVariants as columns
use Rattle.faults.specs.declared.fill.FillFault.TheVariants.{Catalog as OfCatalog, TooManyRounds, Malformed, TooManyRows, Full, Unresolved}

-- a call is not refused as an addition to a catalog is
not_listed : (n p r : ℕ) → 10 < n → Listed layer.Fill n p r → ⊥
not_listed n p r more = ⊎_elim (λ y. omega (arith, more, y.0)) (⊎_elim (λ y. omega (arith, more, y)) (⊎_elim (λ y. omega (arith, more, y)) (⊎_elim (λ y. omega (arith, more, y)) (λ y. omega (arith, more, y)))))

module _ (full full_columns : Book → Option ℕ) (host : List ℕ) (c : Catalog) (b : Book) (call : HostCall) where
  abbrev end : Ending
  end = (asked_outcome full full_columns host c b call).ending

  no_addition : (n p r : ℕ) → 10 < n → end ≡ refused n p false r → told_of (refused n p false r) ≡ Some (record { number = n; place = p; layer = layer.Fill; rounds = r }) → ⊥
  no_addition n p r more e t = not_listed n p r more (told_law full full_columns host c b call (record { number = n; place = p; layer = layer.Fill; rounds = r }) (ap told_of e ∙ t)).0

  at_ending : (fault : CallFault) → end ≡ refused_so (call_refusal_of fault) → told_of (refused_so (call_refusal_of fault)) ≡ Some (call_refusal_of fault)
  at_ending (TooLong place) e = refl
  at_ending (NoSlot place) e = refl
  at_ending (BadName place) e = refl
  at_ending (NoOid place rounds) e = refl
  at_ending (Fill (OfCatalog (NoAllowance round))) e = refl
  at_ending (Fill (OfCatalog (BreaksLimit of))) e = absurd (no_addition 11 of.0 0 (omega arith) e refl)
  at_ending (Fill (OfCatalog (Contradicts of))) e = absurd (no_addition 12 of.0 0 (omega arith) e refl)
  at_ending (Fill (OfCatalog (Lacks table))) e = absurd (no_addition 13 _ 0 (omega arith) e refl)
  at_ending (Fill TooManyRounds) e = refl
  at_ending (Fill (Malformed oid round)) e = refl
  at_ending (Fill (TooManyRows oid round)) e = refl
  at_ending (Fill (Full table rounds)) e = refl
  at_ending (Fill (Unresolved place rounds)) e = refl
  at_ending (Columns (columns.Catalog fault)) e = refl
  at_ending (Columns (columns.Full table rounds)) e = refl

  -- the fault of a refusal tells what a host is told of it
  pub tells_so : (fault : CallFault) → refused_so (call_refusal_of fault) ≡ end → TellsOf end fault
  tells_so fault e = subst (λ (x : Ending). TellsOf x fault) e (at_ending fault (sym e))

module _ (c : Catalog) (b : Held) (host : List ℕ) (call : HostCall) where
  -- the fault is that of the refusal
  abbrev Ends : Ending → Type 0
  Ends e = (t : Tables) → Stands b t → e ≡ (asked_within b.capacity host c t call).ending

  pub layer_at : (fault : CallFault) → Ends (refused_so (call_refusal_of fault)) → (t : Tables) → Stands b t → TellsOf (asked_within b.capacity host c t call).ending fault
  layer_at fault ends t s =
      tells_so (λ _. types_full b.capacity c t (meant host call)) (λ _. columns_full b.capacity c t (meant host call)) host c (contents t) call fault (ends t s)

  pub layers : (r : Result ℕ CallFault) → Ends (ending_of r) → IfErr r (λ fault. (t : Tables) → Stands b t → TellsOf (asked_within b.capacity host c t call).ending fault)
  layers (Ok n) ends = tt
  layers (Err fault) ends = layer_at fault ends

  pub bound_layers : (r : Result Rounds CallFault) → Ends (bound_ending r) → IfErr r (λ fault. (t : Tables) → Stands b t → TellsOf (asked_within b.capacity host c t call).ending fault)
  bound_layers (Ok n) ends = tt
  bound_layers (Err fault) ends = layer_at fault ends

pub agreed_layers : (c : Catalog) (b b' : Held) (host : List ℕ) (call : HostCall) (r : Result ℕ CallFault) →
    ((t : Tables) → Stands b t → Agrees c (contents t) → Did c b b' host call (ending_of r) t) →
    IfErr r (λ fault. (t : Tables) → Stands b t → Agrees c (contents t) → TellsOf (asked_within b.capacity host c t call).ending fault)
agreed_layers c b b' host call (Ok n) did = tt
agreed_layers c b b' host call (Err fault) did = λ t s agree.
    tells_so (λ _. types_full b.capacity c t (meant host call)) (λ _. columns_full b.capacity c t (meant host call)) host c (contents t) call fault (did t s agree).ends
