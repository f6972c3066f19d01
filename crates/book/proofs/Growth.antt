-- What is told goes on being told where the text and the parts grow at their ends.
-- Assumes nothing.
use Rattle.std.proofs.Common.{◌≡◌, ℕ, ◌+◌, ◌≤◌, Bool, true, ◌&&◌, List, [], ◌∷◌, ◌++◌, length, map, take, drop, nat_le, Some, None, Option, refl, ap, ◌∙◌, arith, length-drop}
use Rattle.std.proofs.lemmas.Bool.{and_parts, le-leb, leb-true}
use Rattle.std.proofs.lemmas.List.{drop-append-le, take-append-le}
use Rattle.std.specs.List.{list_all}
use Rattle.std.specs.Option.{option_map}
use Rattle.catalog.specs.Shape.{enumeration, composite}
use Rattle.keys.specs.declared.span.Span.{Span}
use Rattle.keys.specs.Kinds.{span-grows}
use Rattle.keys.specs.Spans.{span_bytes, span_end}
use Rattle.book.specs.declared.descriptor.ColumnNames.{ColumnNames}
use Rattle.book.specs.declared.descriptor.Descriptor.{Descriptor}
use Rattle.book.specs.declared.descriptor.Kind.{Kind}
use Rattle.book.specs.declared.descriptor.Kind.TheVariants.{Simple, Pseudo, Domain, Array, Range, Enum, Composite}
use Rattle.book.specs.declared.descriptor.Part.{Part}
use Rattle.book.specs.declared.descriptor.Run.{Run}
use Rattle.book.specs.Descriptions.{Member, components_of, description_of, descriptions_of, head_of, member_of, members_of, names_of, run_of, types_of}
use Rattle.book.specs.Tables.{column_inside, column_read, descriptor_inside, part_inside, relation_inside, run_inside, span_inside}

pub and_so : (a b : Bool) → a ≡ true → b ≡ true → (a && b) ≡ true
and_so a b x y = (λ i. x i && y i)

-- what is read of each as before is read of all so
module _ {A B : Type 0} where
  pub map_kept : (f g : A → B) (test : A → Bool) → ((x : A) → test x ≡ true → f x ≡ g x) → (xs : List A) → list_all test xs ≡ true → map f xs ≡ map g xs
  map_kept f g test same [] e = refl
  map_kept f g test same (x ∷ xs) e =
      let b = and_parts (test x) (list_all test xs) e in
      λ i. same x b.0 i ∷ map_kept f g test same xs b.1 i

module _ {A : Type 0} where
  pub all_kept : (s t : A → Bool) → ((x : A) → s x ≡ true → t x ≡ true) → (xs : List A) → list_all s xs ≡ true → list_all t xs ≡ true
  all_kept s t goes [] e = refl
  all_kept s t goes (x ∷ xs) e =
      let b = and_parts (s x) (list_all s xs) e in
      and_so (t x) (list_all t xs) (goes x b.0) (all_kept s t goes xs b.1)

  pub all_one_more : (t : A → Bool) (xs : List A) (x : A) → list_all t xs ≡ true → t x ≡ true → list_all t (xs ++ x ∷ []) ≡ true
  all_one_more t [] x e y = and_so (t x) true y refl
  all_one_more t (z ∷ xs) x e y =
      let b = and_parts (t z) (list_all t xs) e in
      and_so (t z) (list_all t (xs ++ x ∷ [])) b.0 (all_one_more t xs x b.1 y)

pub le_longer : (a m n : ℕ) → m ≤ n → nat_le a m ≡ true → nat_le a n ≡ true
le_longer a m n l e = le-leb a n (omega (arith, leb-true a m e))

-- a text that grows
module _ (text more : List ℕ) where
  pub span_kept : (s : Span) → span_inside (length text) s ≡ true → span_bytes (text ++ more) s ≡ span_bytes text s
  span_kept s e = span-grows text more s (leb-true (span_end s) (length text) e)

  pub members_kept : (ps : List Part) → list_all (part_inside (length text)) ps ≡ true → members_of (text ++ more) ps ≡ members_of text ps
  members_kept ps = map_kept (member_of (text ++ more)) (member_of text) (part_inside (length text)) (λ p e. λ i. record { called = span_kept p.name e i; typed = p.typed }) ps

  pub column_kept : (k : Option ColumnNames) → column_inside (length text) k ≡ true → option_map (column_read (text ++ more)) k ≡ option_map (column_read text) k
  column_kept None e = refl
  column_kept (Some k) e =
      let b = and_parts (span_inside (length text) k.table) (span_inside (length text) k.name) e in
      λ i. Some (record { table = span_kept k.table b.0 i; column = span_kept k.name b.1 i })

  pub relation_kept : (r : Option Span) → relation_inside (length text) r ≡ true → option_map (span_bytes (text ++ more)) r ≡ option_map (span_bytes text) r
  relation_kept None e = refl
  relation_kept (Some s) e = ap (λ t. Some t) (span_kept s e)

  -- and parts that grow
  module _ (ms ns : List Member) where
    run_kept : (r : Run) → nat_le (r.first + r.count) (length ms) ≡ true → run_of r (ms ++ ns) ≡ run_of r ms
    run_kept r e =
        let l = leb-true (r.first + r.count) (length ms) e in
        ap (take r.count) (drop-append-le r.first ms ns (omega arith))
        ∙ take-append-le r.count (drop r.first ms) ns (omega (arith, length-drop r.first ms))

    head_kept : (k : Kind) → run_inside (length ms) k ≡ true → head_of (ms ++ ns) k ≡ head_of ms k
    head_kept Simple e = refl
    head_kept Pseudo e = refl
    head_kept (Domain c) e = refl
    head_kept (Array c) e = refl
    head_kept (Range c) e = refl
    head_kept (Enum r) e = ap (λ l. enumeration (names_of l)) (run_kept r e)
    head_kept (Composite r) e = ap (λ l. composite (names_of l)) (run_kept r e)

    components_kept : (k : Kind) → run_inside (length ms) k ≡ true → components_of (ms ++ ns) k ≡ components_of ms k
    components_kept Simple e = refl
    components_kept Pseudo e = refl
    components_kept (Domain c) e = refl
    components_kept (Array c) e = refl
    components_kept (Range c) e = refl
    components_kept (Enum r) e = refl
    components_kept (Composite r) e = ap types_of (run_kept r e)

    pub descriptions_kept : (ds : List Descriptor) → list_all (descriptor_inside (length ms) (length text)) ds ≡ true →
        descriptions_of (ms ++ ns) (text ++ more) ds ≡ descriptions_of ms text ds
    descriptions_kept = map_kept (description_of (ms ++ ns) (text ++ more)) (description_of ms text) (descriptor_inside (length ms) (length text)) (λ d e.
        let b = and_parts (span_inside (length text) d.name) (run_inside (length ms) d.kind) e in
        λ i. record { oid = d.oid.0; name = span_kept d.name b.0 i; head = head_kept d.kind b.1 i; components = components_kept d.kind b.1 i })

-- within less is within more
module _ (m n : ℕ) (l : m ≤ n) where
  pub part_further : (p : Part) → part_inside m p ≡ true → part_inside n p ≡ true
  part_further p = le_longer (span_end p.name) m n l

  pub column_further : (k : Option ColumnNames) → column_inside m k ≡ true → column_inside n k ≡ true
  column_further None e = refl
  column_further (Some k) e =
      let b = and_parts (span_inside m k.table) (span_inside m k.name) e in
      and_so (span_inside n k.table) (span_inside n k.name) (le_longer (span_end k.table) m n l b.0) (le_longer (span_end k.name) m n l b.1)

  pub relation_further : (r : Option Span) → relation_inside m r ≡ true → relation_inside n r ≡ true
  relation_further None e = refl
  relation_further (Some s) e = le_longer (span_end s) m n l e

  run_further : (k : Kind) → run_inside m k ≡ true → run_inside n k ≡ true
  run_further Simple e = refl
  run_further Pseudo e = refl
  run_further (Domain c) e = refl
  run_further (Array c) e = refl
  run_further (Range c) e = refl
  run_further (Enum r) e = le_longer (r.first + r.count) m n l e
  run_further (Composite r) e = le_longer (r.first + r.count) m n l e

pub descriptor_further : (p q m n : ℕ) → p ≤ q → m ≤ n → (d : Descriptor) → descriptor_inside p m d ≡ true → descriptor_inside q n d ≡ true
descriptor_further p q m n k l d e =
    let b = and_parts (span_inside m d.name) (run_inside p d.kind) e in
    and_so (span_inside n d.name) (run_inside q d.kind) (le_longer (span_end d.name) m n l b.0) (run_further p q k d.kind b.1)
