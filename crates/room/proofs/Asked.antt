-- Asked calls are lives within capacities.
-- Assumes nothing.
use Rattle.std.proofs.Common.{ℕ, List, [], ◌∷◌, Option, sym, refl, subst, inl, inr, ⊎_elim}
use Rattle.catalog.specs.Catalog.{Catalog, Laws}
use Rattle.life.specs.HostCalls.{HostCall, meant, early_refusal, unless_early}
use Rattle.life.specs.Keep.{call_event}
use Rattle.life.specs.Steps.{Event}
use Rattle.life.proofs.HostCalls.{early_number}
use Rattle.life.proofs.Lists.{split_option}
use Rattle.room.specs.Asked.{left_unless, asked_within, AskedWithin, AskedLifeWithin, AskedRoomLaw}
use Rattle.room.specs.Room.{limited, tables_left, DoneWithin, LivedWithin}
use Rattle.room.specs.Sizes.{Sizes}
use Rattle.room.specs.Tables.{Tables, contents}

module _ (capacity : Sizes) where
  module _ (host : List ℕ) (c : Catalog) (t : Tables) (call : HostCall) (laws : Laws c) where
    abbrev Does : Option (ℕ × ℕ) → Type 0
    Does r =
        DoneWithin capacity (call_event c (meant host call) (unless_early (contents t) (limited capacity c t (meant host call)) r).ending) t
        (left_unless t (tables_left capacity c t (meant host call)) r)

    outcome_done : Does (early_refusal host call)
    outcome_done =
        ⊎_elim
        (λ z. subst Does (sym z) (record { laws = laws; after = refl; what = inl (refl, refl) }))
        (λ z. subst Does (sym z.1) (record { laws = laws; after = refl; what = inr ((early_number host call z.0 z.1, refl, refl), refl) }))
        (split_option (early_refusal host call))

  pub asked_done : (host : List ℕ) (call : HostCall) (e : Event) (t t' : Tables) → AskedWithin capacity host call e t t' → DoneWithin capacity e t t'
  asked_done host call e t t' a =
      subst (λ (v : Event). DoneWithin capacity v t t') (sym a.event)
      (subst (λ (v : Tables). DoneWithin capacity (call_event e.before (meant host call) (asked_within capacity host e.before t call).ending) t v) (sym a.left)
      (outcome_done host e.before t call a.laws))

  asked_life : (h : List Event) (c : Catalog) (t : Tables) → AskedLifeWithin capacity h c t → LivedWithin capacity h c t
  asked_life [] c t l = l
  asked_life (e ∷ h) c t l = (l.0, asked_life h e.before l.0 l.3, asked_done l.1 l.2 e l.0 t l.4, l.5)

pub asked_room_law : AskedRoomLaw
asked_room_law = asked_life
