-- What `intern` leaves where it adds a name. Assumes nothing.
use Rattle.std.proofs.Common.{◌≡◌, ℕ, List, length, Some, None, refl, ap, ◌∙◌, cond, arith, length-append, length-drop, Option}
use Rattle.std.specs.Str.{bytes_eq}
use Rattle.keys.specs.Senses.{bytes_digest}
use Rattle.keys.specs.Spans.{span_bytes, span_end}
use Rattle.keys.specs.declared.span.Span.{Span}
use Rattle.slots.specs.declared.map.Stop.TheVariants.{Gap}
use Rattle.slots.specs.Slots.{Entry, Kept, Told, Free, Added, Steady}
use Rattle.slots.specs.Text.{Appended, Laid, LentText, lent}
use Rattle.indexes.specs.Known.{by_name, known, GainedName, HasRoom, Interned, Names}

module _ {V : Type 0} where
  -- a search for a name stopped at an empty slot, and then the name was laid behind the text
  pub record Grown (t : Names V) (name : List ℕ) (slot : ℕ) (span : Span) (after : LentText) : Type 0 where
    pub kept : Kept span_bytes bytes_digest span_end t.text.text t.slots
    pub looked : ℕ
    pub told : Told bytes_eq (span_bytes t.text.text) bytes_digest t.slots name looked (Gap slot)
    pub laid : Laid t.text name span after
    pub steady : Steady bytes_eq span_bytes bytes_digest span_end t.text.text name t.slots

  module _ (t : Names V) (name : List ℕ) (slot : ℕ) (span : Span) (after : LentText) (grown : Grown t name slot span after) where
    pub still_kept : Kept span_bytes bytes_digest span_end after.text t.slots
    still_kept = rw grown.laid.text (record { sound = grown.steady.sound grown.kept.sound; within = grown.steady.within })

    pub still_free : Free (span_bytes after.text) bytes_digest t.slots name slot
    still_free = rw grown.laid.text (grown.steady.free name slot ((grown.looked, grown.told.0), grown.told.1))

    still_lent : lent after ≡ lent t.text
    still_lent = rw (grown.laid.text, grown.laid.spare) (omega (arith, grown.laid.room.lent, length-append t.text.text name, length-drop (length name) t.text.spare))

    pub interned :
        (fs : List (Entry Span V)) (v : V) → Added bytes_eq (span_bytes after.text) bytes_digest t.slots name v fs →
        let u : Names V = record { text = after; slots = fs } in
        Interned (known t name) v (HasRoom t (length name)) (GainedName t name v u) (u ≡ t) (Some v)
    interned fs v added = rw grown.told.3 (
      refl,
      (grown.told.2, grown.laid.room),
      record {
        knows = λ q. added.holds q ∙ ap (λ (o : Option V). cond (bytes_eq name q) (Some v) o) (ap (λ (text : List ℕ). by_name text t.slots q) grown.laid.text ∙ grown.steady.holds q);
        count = added.count;
        size = added.size;
        text = grown.laid.text;
        lent = still_lent;
      },
    )

  -- bytes that are no name leave what the table knows
  module _ (t : Names V) (kept : Kept span_bytes bytes_digest span_end t.text.text t.slots)
      (steady : (more : List ℕ) → Steady bytes_eq span_bytes bytes_digest span_end t.text.text more t.slots)
      (bytes : List ℕ) (after : LentText) where
    pub kept_behind : (r : Option Span) → Appended t.text bytes r after → Kept span_bytes bytes_digest span_end after.text t.slots
    kept_behind (Some span) laid = rw laid.text (record { sound = (steady bytes).sound kept.sound; within = (steady bytes).within })
    kept_behind None same = rw same.1 kept

    pub known_behind : (r : Option Span) → Appended t.text bytes r after → (q : List ℕ) → known (record { text = after; slots = t.slots }) q ≡ known t q
    known_behind (Some span) laid q = ap (λ (text : List ℕ). by_name text t.slots q) laid.text ∙ (steady bytes).holds q
    known_behind None same q = ap (λ (x : LentText). by_name x.text t.slots q) same.1
