-- A bind that ended and left the book as the law says is a step of the book's life.
-- Assumes nothing.
use Rattle.std.proofs.Common.{◌≡◌, ℕ, Bool, List, ◌∷◌, sym, subst}
use Rattle.catalog.specs.Catalog.{Catalog, Grows, Laws, Spent}
use Rattle.life.specs.Calls.{Call, bind}
use Rattle.life.specs.HostCalls.{HostCall}
use Rattle.life.specs.Keep.{call_event}
use Rattle.life.specs.Steps.{Ending, Event, rounds_told}
use Rattle.requests.specs.declared.asked.FieldAsked.{FieldAsked}
use Rattle.room.specs.Asked.{asked_left, asked_within}
use Rattle.room.specs.Tables.{Tables}
use Rattle.book.specs.Held.{Held}
use Rattle.book.specs.Lived.{HasLived, LawHolds}
use Rattle.book.specs.Stands.{Stands}
use Rattle.finds.specs.Columns.{RelatedBy}
use Rattle.binding.specs.Whole.{binding_asked}
use Rattle.binding.specs.Writing.{ColumnsSized}
use Rattle.calls.specs.Endings.{Did, bind_call}
use Rattle.calls.proofs.Lives.{one_more, related, sized}
use Rattle.calls.proofs.Turned.{meant_so}

module _ (c : Catalog) (b b' : Held) (host parameters : List ℕ) (fields : List FieldAsked) (queries origins : Bool) (parameter_slots column_slots : ℕ) (e : Ending) where
  abbrev call : HostCall
  call = bind_call parameters fields queries origins parameter_slots column_slots

  module _ (ends : (t : Tables) → Stands b t → e ≡ (asked_within b.capacity host c t call).ending)
      (left : RelatedBy c b → (t : Tables) → Stands b t → Stands b' (asked_left b.capacity host c t call)) where
    pub did : RelatedBy c b → (t : Tables) → Stands b t → Did c b b' host call e t
    did related t s = record { ends = ends t s; left = left related t s }

    module _ (c' : Catalog) (laws : Laws c) (cost : Spent (rounds_told e) c c') (same : b'.capacity ≡ b.capacity) (h : List Event) (d : Catalog) (l : HasLived h d b) (m : Grows d c) where
      pub bind_lives : LawHolds (call_event c (bind (binding_asked parameters fields queries origins)) e ∷ h) c' b'
      bind_lives =
          subst (λ (k : Call). LawHolds (call_event c k e ∷ h) c' b') (sym (meant_so host parameters fields queries origins parameter_slots column_slots))
          (one_more h d c c' b b' host call e laws l m cost same (λ t s lived. did (related h c b t laws lived s) t s))

      pub bind_sized : Laws c' → ColumnsSized b'
      bind_sized laws' = sized (call_event c (bind (binding_asked parameters fields queries origins)) e ∷ h) c' b' laws' bind_lives
