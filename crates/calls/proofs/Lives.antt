-- A call that did what the law says is one more step of a book's life.
-- Assumes nothing.
use Rattle.std.proofs.Common.{◌≡◌, ◌∙◌, ℕ, List, [], ◌∷◌, sym, refl, ap, subst, arith}
use Rattle.catalog.specs.Catalog.{Catalog, Grows, Laws, Spent, spent}
use Rattle.life.specs.Calls.{describe}
use Rattle.life.specs.HostCalls.{HostCall, host_describe, meant}
use Rattle.life.specs.Keep.{call_event}
use Rattle.life.specs.Life.{Agrees, Lawful}
use Rattle.life.specs.Steps.{Ending, Event, accepted, rounds_told}
use Rattle.room.specs.Asked.{asked_left}
use Rattle.room.specs.Room.{DoneWithin, LivedWithin}
use Rattle.room.specs.Sizes.{Sizes}
use Rattle.room.specs.Tables.{Tables, contents, extended, no_tables}
use Rattle.room.proofs.Asked.{asked_done}
use Rattle.room.proofs.Extended.{extended_none}
use Rattle.room.proofs.Room.{room_law}
use Rattle.book.specs.Held.{Held}
use Rattle.book.specs.Lived.{HasLived, LawHolds}
use Rattle.book.specs.Stands.{Stands}
use Rattle.finds.specs.Columns.{RelatedBy}
use Rattle.finds.proofs.Related.{related_by}
use Rattle.binding.specs.Writing.{ColumnsSized}
use Rattle.calls.specs.Endings.{Did}

whole : (h : List Event) (c : Catalog) (b : Held) → HasLived h c b → LawHolds h c b
whole h c b l =
    let law = room_law b.capacity h c l.tables l.lived in
    record { life = l; lawful = subst (Lawful h c) l.stands.book law.0; counted = law.1 }

same_grows : (c d : Catalog) → c ≡ d → Grows c d
same_grows c d e = subst (Grows c) e (record { rows_stay = λ o r y. y; named_stay = λ s o y. y; columns_stay = λ o a k y. y })

grows_on : (a b c : Catalog) → Grows a b → Grows b c → Grows a c
grows_on a b c m n = record {
  rows_stay = λ o r y. n.rows_stay o r (m.rows_stay o r y);
  named_stay = λ s o y. n.named_stay s o (m.named_stay s o y);
  columns_stay = λ o a k y. n.columns_stay o a k (m.columns_stay o a k y);
}

-- a life goes on over a catalog that grows
pub grown : (capacity : Sizes) (h : List Event) (c d : Catalog) (t : Tables) → LivedWithin capacity h c t → Grows c d → LivedWithin capacity h d t
grown capacity [] c d t l m = l
grown capacity (e ∷ h) c d t l m = (l.0, l.1, l.2, grows_on e.after c d l.3 m)

pub one_more : (h : List Event) (d c c' : Catalog) (b b' : Held) (host : List ℕ) (call : HostCall) (ending : Ending) →
    Laws c → HasLived h d b → Grows d c → Spent (rounds_told ending) c c' → b'.capacity ≡ b.capacity →
    ((t : Tables) → Stands b t → LivedWithin b.capacity h c t → Did c b b' host call ending t) →
    LawHolds (call_event c (meant host call) ending ∷ h) c' b'
one_more h d c c' b b' host call ending laws l m cost same does =
    let t : Tables = l.tables in
    let lived : LivedWithin b.capacity h c t = grown b.capacity h d c t l.lived m in
    let did = does t l.stands lived in
    let e : Event = call_event c (meant host call) ending in
    let t' : Tables = asked_left b.capacity host c t call in
    let done : DoneWithin b.capacity e t t' =
    asked_done b.capacity host call e t t' (record { laws = laws; event = ap (call_event c (meant host call)) did.ends; left = refl }) in
    let now : LivedWithin b.capacity (e ∷ h) c' t' = (t, lived, done, same_grows e.after c' (sym cost.after)) in
    whole (e ∷ h) c' b' (record { tables = t'; lived = subst (λ (s : Sizes). LivedWithin s (e ∷ h) c' t') (sym same) now; stands = did.left })

-- of a book that has lived the tables of relations are those that the catalog's columns tell
pub related : (h : List Event) (c : Catalog) (b : Held) (t : Tables) → Laws c → LivedWithin b.capacity h c t → Stands b t → RelatedBy c b
related h c b t laws l s =
    let law = room_law b.capacity h c t l in
    related_by c laws b t s law.2 (λ p k e. law.0.agrees.columns p.0 p.1 k e)

-- and the names of its columns are within their limits
pub sized : (h : List Event) (c : Catalog) (b : Held) → Laws c → LawHolds h c b → ColumnsSized b
sized h c b laws l r a k e = laws.columns_fit r a k (l.lawful.agrees.columns r a k e)

-- a Describe asks for nothing and leaves the tables as they are
untouched : (c : Catalog) (b : Held) (o : ℕ) (t : Tables) → Stands b t → Stands b (asked_left b.capacity [] c t (host_describe o))
untouched c b o t s = subst (Stands b) (sym (extended_none (extended t no_tables) ∙ extended_none t)) s

nothing_spent : (c : Catalog) → Spent 0 c c
nothing_spent c = record { enough = omega arith; after = ap (spent c) (omega arith) }

pub describes : (h : List Event) (d c : Catalog) (b : Held) (o : ℕ) → Laws c → HasLived h d b → Grows d c →
    LawHolds (call_event c (describe o) (accepted 0 0) ∷ h) c b
describes h d c b o laws l m =
    one_more h d c c b b [] (host_describe o) (accepted 0 0) laws l m (nothing_spent c) refl
    (λ t s _. record { ends = refl; left = untouched c b o t s })

-- tables that a life left agree with the catalog
pub agreeing : (h : List Event) (c : Catalog) (capacity : Sizes) (t : Tables) → LivedWithin capacity h c t → Agrees c (contents t)
agreeing h c capacity t l = (room_law capacity h c t l).0.agrees
