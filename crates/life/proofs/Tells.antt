-- The tests of a call agree with the statements, and what an option that falls back on another is.
-- Assumes nothing.
use Rattle.std.proofs.Common.{◌≡◌, ℕ, Bool, true, false, cond, ◌&&◌, ◌⊎◌, ◌↔◌, List, ℤ, nat_eq, Some, None, Decides, Option, option_to_list, sym, refl, ap, ◌∙◌, subst, inl, inr, ⊎_elim}
use Rattle.std.proofs.lemmas.Bool.{and_from, and_parts, cond-true}
use Rattle.std.proofs.lemmas.Bool.Decides.{Decides-eqb, Decides-like}
use Rattle.std.proofs.lemmas.Option.{some_pair_parts}
use Rattle.std.proofs.lemmas.Slice.Eq.{bytes_eq-Decides}
use Rattle.std.specs.List.{list_any}
use Rattle.std.specs.Option.{option_or}
use Rattle.catalog.specs.Catalog.{Catalog}
use Rattle.catalog.specs.Shape.{Name}
use Rattle.keys.specs.Kinds.{same-pair}
use Rattle.keys.specs.Senses.{Pair, same_pair}
use Rattle.unfolding.specs.Lists.{Mem}
use Rattle.life.specs.Calls.{Declared, of_oid, of_name, array_of, Field, Call, fill, resolve, bind, describe, Names, IsArrayOf, ComesFrom, Declares, DeclaresArray, AsksColumn}
use Rattle.life.specs.Lists.{AnyOf}
use Rattle.life.specs.Tests.{is_just, is_named, is_array_of, declares, declares_array, both, source, sources, asks_column}
use Rattle.life.proofs.Lists.{not_some_none, split_option, never, mem_tells, flat_mem, any_tells}

pub or_some : {A : Type 0} (x y : Option A) (a : A) → option_or x y ≡ Some a → (x ≡ Some a) ⊎ ((x ≡ None) × (y ≡ Some a))
or_some None y a e = inr (refl, e)
or_some (Some v) y a e = inl e

pub or_first : {A : Type 0} (x y : Option A) (a : A) → x ≡ Some a → option_or x y ≡ Some a
or_first x y a e = ap (λ v. option_or v y) e

pub or_next : {A : Type 0} (x y : Option A) → x ≡ None → option_or x y ≡ y
or_next x y e = ap (λ v. option_or v y) e

-- what is held, or else what is new, where the two agree
pub or_adds : {A New : Type 0} (x y : Option A) (a : A) → (y ≡ Some a → New) → (New → (x ≡ None → y ≡ Some a) × ((v : A) → x ≡ Some v → v ≡ a)) →
    (option_or x y ≡ Some a) ↔ ((x ≡ Some a) ⊎ New)
or_adds x y a f g = (
  λ e. ⊎_elim (λ z. inl z) (λ z. inr (f z.1)) (or_some x y a e),
  ⊎_elim
      (or_first x y a)
      (λ n. ⊎_elim (λ z. or_next x y z ∙ (g n).0 z) (λ z. or_first x y a (z.1 ∙ ap (λ v. Some v) ((g n).1 z.0 z.1))) (split_option x)),
)

pub if_some : {A : Type 0} (f : Bool) (x : Option A) (a : A) → cond f x None ≡ Some a → (f ≡ true) × (x ≡ Some a)
if_some true x a e = (refl, e)
if_some false x a e = absurd (not_some_none a e refl)

pub if_true : {A : Type 0} (f : Bool) (x : Option A) → f ≡ true → cond f x None ≡ x
if_true f x e = cond-true f x None e

pub just_tells : {A : Type 0} (same : A → A → Bool) → ((x y : A) → Decides (same x y) (x ≡ y)) → (x : Option A) (y : A) → Decides (is_just same x y) (x ≡ Some y)
just_tells same tells None y = (λ e. absurd cc, λ e. absurd (not_some_none y e refl))
just_tells same tells (Some x) y = (λ e. ap (λ v. Some v) ((tells x y).0 e), λ e. (tells x y).1 cc)

named_tells : (n : Name) (x : Declared) → Decides (is_named x n) (Names x n)
named_tells n (of_oid o) = never
named_tells n (of_name m) = bytes_eq-Decides m n
named_tells n (array_of m) = bytes_eq-Decides m n

array_tells : (c : Catalog) (e : ℕ) (x : Declared) → Decides (is_array_of c x e) (IsArrayOf c x e)
array_tells c e (of_oid o) = never
array_tells c e (of_name m) = never
array_tells c e (array_of m) = just_tells nat_eq Decides-eqb (c.named m) e

pub declares_tells : (call : Call) (n : Name) → Decides (declares call n) (Declares call n)
declares_tells (fill os) n = never
declares_tells (resolve ds) n = any_tells (λ x. is_named x n) (λ x. Names x n) (named_tells n) ds
declares_tells (bind q) n = never
declares_tells (describe o) n = never

pub declares_array_tells : (c : Catalog) (call : Call) (e : ℕ) → Decides (declares_array c call e) (DeclaresArray c call e)
declares_array_tells c (fill os) e = never
declares_array_tells c (resolve ds) e = any_tells (λ x. is_array_of c x e) (λ x. IsArrayOf c x e) (array_tells c e) ds
declares_array_tells c (bind q) e = never
declares_array_tells c (describe o) e = never

pub source_is : (f : Field) (r : ℕ) (a : ℤ) → (source f ≡ Some (r, a)) ↔ ComesFrom f r a
source_is f r a = (from f.relation f.attribute, λ x. λ i. both (x.0 i) (x.1 i))
  where
    from : (x : Option ℕ) (y : Option ℤ) → both x y ≡ Some (r, a) → (x ≡ Some r) × (y ≡ Some a)
    from None y e = absurd (not_some_none (r, a) e refl)
    from (Some p) None e = absurd (not_some_none (r, a) e refl)
    from (Some p) (Some q) e = let same = some_pair_parts p r q a e in (ap (λ v. Some v) same.0, ap (λ v. Some v) same.1)

-- where the fields come from
pub sources_tell : (fs : List Field) (r : ℕ) (a : ℤ) → Mem (r, a) (sources fs) ↔ AnyOf (λ f. ComesFrom f r a) fs
sources_tell fs r a =
    let all = flat_mem (λ f. option_to_list (source f)) fs (r, a) in (
      λ m. let x = all.0 m in (x.0, x.1, (source_is x.0 r a).0 (listed_is (source x.0) x.2)),
      λ x. all.1 (x.0, x.1, is_listed (source x.0) ((source_is x.0 r a).1 x.2)),
    )
  where
    listed_is : (x : Option Pair) → Mem (r, a) (option_to_list x) → x ≡ Some (r, a)
    listed_is None m = absurd m
    listed_is (Some p) m = ⊎_elim (λ e. ap (λ v. Some v) (sym e)) (λ y. absurd y) m

    is_listed : (x : Option Pair) → x ≡ Some (r, a) → Mem (r, a) (option_to_list x)
    is_listed x e = subst (λ y. Mem (r, a) (option_to_list y)) (sym e) (inl refl)

from_tells : (fs : List Field) (r : ℕ) (a : ℤ) → Decides (list_any (same_pair (r, a)) (sources fs)) (AnyOf (λ f. ComesFrom f r a) fs)
from_tells fs r a =
    Decides-like (list_any (same_pair (r, a)) (sources fs)) (sources_tell fs r a).0 (sources_tell fs r a).1 (mem_tells same_pair same-pair (r, a) (sources fs))

pub asks_tells : (call : Call) (r : ℕ) (a : ℤ) → Decides (asks_column call r a) (AsksColumn call r a)
asks_tells (fill os) r a = never
asks_tells (resolve ds) r a = never
asks_tells (bind q) r a =
    let from : Bool = list_any (same_pair (r, a)) (sources q.fields) in (
      λ e. let x = and_parts q.queries (q.origins && from) e in let y = and_parts q.origins from x.1 in (x.0, y.0, (from_tells q.fields r a).0 y.1),
      λ m. and_from q.queries (q.origins && from) m.0 (and_from q.origins from m.1 ((from_tells q.fields r a).1 m.2)),
    )
asks_tells (describe o) r a = never
