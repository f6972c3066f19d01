-- A call that is turned away, and one that is not.
-- Assumes nothing.
use Rattle.std.proofs.Common.{◌≡◌, ◌∙◌, ℕ, Bool, List, Some, None, Option, sym, ap, subst}
use Rattle.std.proofs.lemmas.Simd.{map-map}
use Rattle.binding.specs.Whole.{binding_asked}
use Rattle.catalog.specs.Catalog.{Catalog}
use Rattle.life.specs.Calls.{bind}
use Rattle.life.specs.Faults.{of_layer_call}
use Rattle.life.specs.HostCalls.{HostCall, early_refusal, meant, meant_field, unless_early}
use Rattle.life.specs.Steps.{Ending}
use Rattle.room.specs.Asked.{asked_left, asked_within, left_unless}
use Rattle.room.specs.Room.{limited, tables_left}
use Rattle.room.specs.Tables.{Tables, contents}
use Rattle.book.specs.Held.{Held}
use Rattle.book.specs.Stands.{Stands}
use Rattle.requests.specs.Asked.{field_asked}
use Rattle.requests.specs.declared.asked.FieldAsked.{FieldAsked}
use Rattle.calls.specs.Endings.{Did, bind_call}
use Rattle.faults.specs.Faults.{call_refusal_of, refused_so}
use Rattle.faults.specs.declared.call.CallFault.{CallFault}

module _ (c : Catalog) (b : Held) (host : List ℕ) (call : HostCall) (t : Tables) where
  abbrev fine : Ending
  fine = (limited b.capacity c t (meant host call)).ending

  abbrev end_by : Option (ℕ × ℕ) → Ending
  end_by r = (unless_early (contents t) (limited b.capacity c t (meant host call)) r).ending

  abbrev left_by : Option (ℕ × ℕ) → Tables
  left_by r = left_unless t (tables_left b.capacity c t (meant host call)) r

  -- a call that is refused before any round
  pub turned : (n p : ℕ) (fault : CallFault) → Some (n, p) ≡ early_refusal host call → call_refusal_of fault ≡ of_layer_call n p 0 → Stands b t →
      Did c b b host call (refused_so (call_refusal_of fault)) t
  turned n p fault is told s = record {
    ends = ap refused_so told ∙ ap end_by is;
    left = subst (Stands b) (ap left_by is) s;
  }

  -- one that is not does what the call does that is meant
  pub passed_ends : (e : Ending) → None ≡ early_refusal host call → e ≡ fine → e ≡ (asked_within b.capacity host c t call).ending
  passed_ends e none ends = ends ∙ ap end_by none

  pub passed_left : (b' : Held) → None ≡ early_refusal host call → Stands b' (tables_left b.capacity c t (meant host call)) → Stands b' (asked_left b.capacity host c t call)
  passed_left b' none left = subst (Stands b') (ap left_by none) left

  pub passed : (b' : Held) (e : Ending) → None ≡ early_refusal host call → e ≡ fine → Stands b' (tables_left b.capacity c t (meant host call)) → Did c b b' host call e t
  passed b' e none ends left = record { ends = passed_ends e none ends; left = passed_left b' none left }

-- the bind that is meant
pub meant_so : (host parameters : List ℕ) (fields : List FieldAsked) (queries origins : Bool) (parameter_slots column_slots : ℕ) →
    bind (binding_asked parameters fields queries origins) ≡ meant host (bind_call parameters fields queries origins parameter_slots column_slots)
meant_so host parameters fields queries origins parameter_slots column_slots =
    ap (λ fs. bind (record { parameters = parameters; fields = fs; queries = queries; origins = origins })) (sym (map-map meant_field field_asked fields))
