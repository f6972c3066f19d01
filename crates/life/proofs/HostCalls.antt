-- Refusals before any round are what the entries of a call say, and an asked call is performed or turned away.
-- Assumes nothing.
use Rattle.std.proofs.Common.{◌≡◌, ℕ, zero, suc, ◌+◌, ◌<◌, ◌≤◌, Bool, true, false, ◌&&◌, ◌⊎◌, ◌↔◌, List, [], ◌∷◌, ◌++◌, length, if◌then◌else◌, Some, None, Decides, Option, nat_lt, nat_le, sym, refl, ap, ◌∙◌, subst, inl, inr, ⊎_elim, arith}
use Rattle.std.proofs.lemmas.Bool.{cases_Bool, leb-true, le-leb}
use Rattle.std.proofs.lemmas.Bool.Decides.{Decides-and, Decides-ltb, Decides-not}
use Rattle.std.specs.Option.{option_or}
use Rattle.catalog.specs.Catalog.{Catalog, Laws}
use Rattle.keys.specs.Spans.{span_end}
use Rattle.life.specs.Keep.{call_event}
use Rattle.life.specs.Lists.{first_place, FirstAt}
use Rattle.life.specs.Outcomes.{Outcome}
use Rattle.life.specs.Run.{perform, Done, Performed}
use Rattle.life.specs.Steps.{Book, Event}
use Rattle.life.specs.HostCalls.{HostName, HostCall, host_fill, host_resolve, host_bind, host_describe, meant, type_name, field_name, inside, misnamed, first_behind, first_misnamed, numbered, early_refusal, unless_early, asked_outcome, Entry, entries_from, entries, OneTooMany, WithoutSlot, WellNamed, Misnamed, NoneOf, RefusedEarly, EarlyLaw, AskedLife, AskedLaw, AskedLifeLaw}
use Rattle.life.proofs.Lists.{not_both, not_some_none, same_some, split_option, chosen_true, chosen_false, same_truth, place_yes, place_no, place_first}
use Rattle.life.proofs.Run.{run_law}

le_tells : (a b : ℕ) → Decides (nat_le a b) (a ≤ b)
le_tells a b = (leb-true a b, le-leb a b)

lt_yes : (a b : ℕ) → a < b → nat_lt a b ≡ true
lt_yes a b = (Decides-ltb a b).1

lt_none : (a : ℕ) → nat_lt a 0 ≡ false
lt_none a = ⊎_elim (λ y. absurd (omega (arith, (Decides-ltb a 0).0 y))) (λ n. n) (cases_Bool (nat_lt a 0))

lt_suc : (a b : ℕ) → nat_lt a b ≡ nat_lt (suc a) (suc b)
lt_suc a b =
    same_truth _ _ (λ e. lt_yes (suc a) (suc b) (omega (arith, (Decides-ltb a b).0 e))) (λ e. lt_yes a b (omega (arith, (Decides-ltb (suc a) (suc b)).0 e)))

-- the tests that a refusal makes of each entry
abbrev one_too_many : Entry → Bool
one_too_many e = nat_le 256 e.index

abbrev is_past : Option ℕ → ℕ → Bool
is_past None i = false
is_past (Some slots) i = nat_le slots i

abbrev without_slot : Entry → Bool
without_slot e = is_past e.slots e.index

abbrev ill_named : List ℕ → Entry → Bool
ill_named host e = misnamed host e.name

past_tells : (slots : Option ℕ) (i : ℕ) → Decides (is_past slots i) ((n : ℕ) × (slots ≡ Some n) × (n ≤ i))
past_tells None i = (λ e. absurd cc, λ x. absurd (not_some_none x.0 x.1 refl))
past_tells (Some m) i = (λ e. (m, refl, leb-true m i e), λ x. let z : m ≡ x.0 = same_some refl x.1 in le-leb m i (omega (arith, z, x.2)))

well_tells : (host : List ℕ) (n : HostName) → Decides (inside host n.span && (nat_le n.least n.span.length && nat_le n.span.length n.most)) (WellNamed host n)
well_tells host n =
    let d = Decides-and _ _ (le_tells (span_end n.span) (length host)) (Decides-and _ _ (le_tells n.least n.span.length) (le_tells n.span.length n.most)) in
    (λ e. let x = d.0 e in (x.0, x.1.0, x.1.1), λ x. d.1 (x.0, (x.1, x.2)))

misnamed_tells : (host : List ℕ) (name : Option HostName) → Decides (misnamed host name) ((n : HostName) × (name ≡ Some n) × (WellNamed host n → ⊥))
misnamed_tells host None = (λ e. absurd cc, λ x. absurd (not_some_none x.0 x.1 refl))
misnamed_tells host (Some n) =
    let d = Decides-not _ (well_tells host n) in
    (λ e. (n, refl, d.0 e), λ x. d.1 (λ w. x.2 (subst (WellNamed host) (same_some refl x.1) w)))

-- where a test finds nothing, no element has what it tells
module _ (test : Entry → Bool) (P : Entry → Type 0) (tells : (e : Entry) → Decides (test e) (P e)) where
  place_none : (i : ℕ) (es : List Entry) → first_place test i es ≡ None → NoneOf P es
  place_none i [] e = tt
  place_none i (x ∷ es) e =
      ⊎_elim
      (λ y. absurd (not_some_none i (place_yes test P i x es y) e))
      (λ n. (λ p. not_both ((tells x).1 p) n, place_none (suc i) es (sym (place_no test P i x es n) ∙ e)))
      (cases_Bool (test x))

  none_place : (i : ℕ) (es : List Entry) → NoneOf P es → first_place test i es ≡ None
  none_place i [] n = refl
  none_place i (x ∷ es) n =
      ⊎_elim (λ y. absurd (n.0 ((tells x).0 y))) (λ z. place_no test P i x es z ∙ none_place (suc i) es n.1) (cases_Bool (test x))

  place_at : (es : List Entry) (j : ℕ) → (first_place test 0 es ≡ Some j) ↔ FirstAt P 0 es j
  place_at es j = place_first test P es (λ x m. tells x) 0 j

-- what a chain of three comes to
module _ (x y z : Option ℕ) (n p : ℕ) where
  abbrev Chained : Type 0
  Chained =
      ((n ≡ 1) × (x ≡ Some p)) ⊎
      (((n ≡ 2) × (x ≡ None) × (y ≡ Some p)) ⊎ ((n ≡ 3) × (x ≡ None) × (y ≡ None) × (z ≡ Some p)))

abbrev chain : (x y z : Option ℕ) → Option (ℕ × ℕ)
chain x y z = option_or (numbered 1 x) (option_or (numbered 2 y) (numbered 3 z))

pair_same : {a b n p : ℕ} → ◌≡◌ {A = Option (ℕ × ℕ)} (Some (a, b)) (Some (n, p)) → (n ≡ a) × (Some b ≡ Some p)
pair_same {a} {b} {n} {p} e = let z : ◌≡◌ {A = ℕ × ℕ} (a, b) (n, p) = same_some refl e in (sym (ap (λ v. v.0) z), ap (λ v. Some v.1) z)

none_pair : {n p : ℕ} → ◌≡◌ {A = Option (ℕ × ℕ)} None (Some (n, p)) → ⊥
none_pair {n} {p} e = absurd cc

chain_tells : (x y z : Option ℕ) (n p : ℕ) → chain x y z ≡ Some (n, p) → Chained x y z n p
chain_tells (Some a) y z n p e = inl (pair_same e)
chain_tells None (Some a) z n p e = let s = pair_same e in inr (inl (s.0, refl, s.1))
chain_tells None None (Some a) n p e = let s = pair_same e in inr (inr (s.0, refl, refl, s.1))
chain_tells None None None n p e = absurd (none_pair e)

told_chain : (x y z : Option ℕ) (n p : ℕ) → Chained x y z n p → chain x y z ≡ Some (n, p)
told_chain x y z n p (inl h) = ap (λ v. chain v y z) h.1 ∙ ap (λ v. Some (v, p)) (sym h.0)
told_chain x y z n p (inr (inl h)) = (λ i. chain (h.1 i) (h.2 i) z) ∙ ap (λ v. Some (v, p)) (sym h.0)
told_chain x y z n p (inr (inr h)) = (λ i. chain (h.1 i) (h.2 i) (h.3 i)) ∙ ap (λ v. Some (v, p)) (sym h.0)

-- the entries of one list
module _ {A : Type 0} (slots : Option ℕ) (name : A → Option HostName) where
  abbrev of : ℕ → List A → List Entry
  of i xs = entries_from slots name i xs

  abbrev entry : ℕ → A → Entry
  entry i x = record { index = i; slots = slots; name = name x }

  -- a test that passes from the nth on finds the first behind the first n
  module _ (test : Entry → Bool) (n : ℕ) (from : (i : ℕ) (x : A) → test (entry i x) ≡ nat_le n i) where
    counted : (d i p : ℕ) (xs : List A) → n ≡ i + d → first_place test p (of i xs) ≡ first_behind d p xs
    counted zero i p [] e = refl
    counted (suc d) i p [] e = ap (λ t. if t then Some (p + suc d) else None) (sym (lt_none (suc d)))
    counted zero i p (x ∷ xs) e =
        chosen_true (test (entry i x)) _ _ (from i x ∙ le-leb n i (omega (arith, e)))
        ∙ ap (λ v. Some v) same
        ∙ sym (ap (λ t. if t then Some (p + 0) else None) (lt_yes 0 (suc (length xs)) (omega arith)))
      where
        same : p ≡ p + 0
        same = omega arith
    counted (suc d) i p (x ∷ xs) e =
        ⊎_elim
        (λ y. absurd (omega (arith, e, leb-true n i (sym (from i x) ∙ y))))
        (λ z. chosen_false (test (entry i x)) _ _ z ∙ counted d (suc i) (suc p) xs (omega (arith, e)) ∙ later)
        (cases_Bool (test (entry i x)))
      where
        next : suc p + d ≡ p + suc d
        next = omega arith

        later : first_behind d (suc p) xs ≡ first_behind (suc d) p (x ∷ xs)
        later = λ j. if lt_suc d (length xs) j then Some (next j) else None

    behind : (p : ℕ) (xs : List A) → first_place test p (of 0 xs) ≡ first_behind n p xs
    behind p xs = counted n 0 p xs (omega arith)

  -- a test that never passes finds nothing
  no_place : (test : Entry → Bool) → ((i : ℕ) (x : A) → test (entry i x) ≡ false) → (i p : ℕ) (xs : List A) → first_place test p (of i xs) ≡ None
  no_place test never i p [] = refl
  no_place test never i p (x ∷ xs) = chosen_false (test (entry i x)) _ _ (never i x) ∙ no_place test never (suc i) (suc p) xs

  by_name : (host : List ℕ) (i p : ℕ) (xs : List A) → first_place (ill_named host) p (of i xs) ≡ first_misnamed host name p xs
  by_name host i p [] = refl
  by_name host i p (x ∷ xs) = ap (λ v. elim (misnamed host (name x)) as (λ _. Option ℕ) [ true ↦ Some p | false ↦ v ]) (by_name host (suc i) (suc p) xs)

  -- places go on into the next list
  onward : (test : Entry → Bool) (i p : ℕ) (xs : List A) (es : List Entry) →
      first_place test p (of i xs ++ es) ≡ option_or (first_place test p (of i xs)) (first_place test (p + length xs) es)
  onward test i p [] es = ap (λ v. first_place test v es) (omega arith)
  onward test i p (x ∷ xs) es =
      ⊎_elim
      (λ y. chosen_true (test (entry i x)) _ _ y ∙ ap (λ v. option_or v rest) (sym (chosen_true (test (entry i x)) _ _ y)))
      (λ z.
      chosen_false (test (entry i x)) _ _ z
      ∙ onward test (suc i) (suc p) xs es
      ∙ ap (λ v. option_or (first_place test (suc p) (of (suc i) xs)) (first_place test v es)) (omega arith)
      ∙ ap (λ v. option_or v rest) (sym (chosen_false (test (entry i x)) _ _ z)))
      (cases_Bool (test (entry i x)))
    where
      rest : Option ℕ
      rest = first_place test (p + suc (length xs)) es

abbrev by_entries : List ℕ → List Entry → Option (ℕ × ℕ)
by_entries host es = chain (first_place one_too_many 0 es) (first_place without_slot 0 es) (first_place (ill_named host) 0 es)

or_nothing : {A : Type 0} (x : Option A) → option_or x None ≡ x
or_nothing None = refl
or_nothing (Some v) = refl

refused_by_entries : (host : List ℕ) (call : HostCall) → early_refusal host call ≡ by_entries host (entries call)
refused_by_entries host (host_fill os) =
    sym
    ((λ i.
    chain (behind None (λ o. None) one_too_many 256 (λ i x. refl) 0 os i) (no_place None (λ o. None) without_slot (λ i x. refl) 0 0 os i)
    (no_place None (λ o. None) (ill_named host) (λ i x. refl) 0 0 os i))
    ∙ or_nothing _)
refused_by_entries host (host_resolve q) =
    sym
    (λ i.
    chain (behind (Some q.slots) type_name one_too_many 256 (λ i x. refl) 0 q.entries i)
    (behind (Some q.slots) type_name without_slot q.slots (λ i x. refl) 0 q.entries i) (by_name (Some q.slots) type_name host 0 0 q.entries i))
refused_by_entries host (host_bind q) = sym (λ i. chain (many i) (short i) (named i))
  where
    n : ℕ
    n = length q.parameters

    none : ℕ → Option HostName
    none o = None

    fields : List Entry
    fields = entries_from (Some q.column_slots) field_name 0 q.fields

    both : (test : Entry → Bool) (x y : Option ℕ) → first_place test 0 (entries_from (Some q.parameter_slots) none 0 q.parameters) ≡ x →
        first_place test n fields ≡ y →
        first_place test 0 (entries_from (Some q.parameter_slots) none 0 q.parameters ++ fields) ≡ option_or x y
    both test x y e f = onward (Some q.parameter_slots) none test 0 0 q.parameters fields ∙ (λ i. option_or (e i) (later i))
      where
        from_zero : 0 + n ≡ n
        from_zero = omega arith

        later : first_place test (0 + n) fields ≡ y
        later = ap (λ v. first_place test v fields) from_zero ∙ f

    many : first_place one_too_many 0 (entries (host_bind q)) ≡ option_or (first_behind 256 0 q.parameters) (first_behind 256 n q.fields)
    many =
        both one_too_many _ _ (behind (Some q.parameter_slots) none one_too_many 256 (λ i x. refl) 0 q.parameters)
        (behind (Some q.column_slots) field_name one_too_many 256 (λ i x. refl) n q.fields)

    short : first_place without_slot 0 (entries (host_bind q)) ≡ option_or (first_behind q.parameter_slots 0 q.parameters) (first_behind q.column_slots n q.fields)
    short =
        both without_slot _ _ (behind (Some q.parameter_slots) none without_slot q.parameter_slots (λ i x. refl) 0 q.parameters)
        (behind (Some q.column_slots) field_name without_slot q.column_slots (λ i x. refl) n q.fields)

    named : first_place (ill_named host) 0 (entries (host_bind q)) ≡ first_misnamed host field_name n q.fields
    named =
        both (ill_named host) _ _ (no_place (Some q.parameter_slots) none (ill_named host) (λ i x. refl) 0 0 q.parameters)
        (by_name (Some q.column_slots) field_name host 0 n q.fields)
refused_by_entries host (host_describe o) = refl

pub early_law : EarlyLaw
early_law host call number place = (
  λ e. from (chain_tells x y z number place (sym same ∙ e)),
  λ r. same ∙ told_chain x y z number place (to r),
)
  where
    es : List Entry
    es = entries call

    x : Option ℕ
    x = first_place one_too_many 0 es

    y : Option ℕ
    y = first_place without_slot 0 es

    z : Option ℕ
    z = first_place (ill_named host) 0 es

    same : early_refusal host call ≡ by_entries host es
    same = refused_by_entries host call

    many : (e : Entry) → Decides (one_too_many e) (OneTooMany e)
    many e = le_tells 256 e.index

    short : (e : Entry) → Decides (without_slot e) (WithoutSlot e)
    short e = past_tells e.slots e.index

    ill : (e : Entry) → Decides (ill_named host e) (Misnamed host e)
    ill e = misnamed_tells host e.name

    from : Chained x y z number place → RefusedEarly host call number place
    from (inl h) = inl (h.0, (place_at one_too_many OneTooMany many es place).0 h.1)
    from (inr (inl h)) =
        inr (inl (h.0, place_none one_too_many OneTooMany many 0 es h.1, (place_at without_slot WithoutSlot short es place).0 h.2))
    from (inr (inr h)) =
        inr
        (inr (h.0, place_none one_too_many OneTooMany many 0 es h.1, place_none without_slot WithoutSlot short 0 es h.2, (place_at (ill_named host) (Misnamed host) ill es place).0 h.3))

    to : RefusedEarly host call number place → Chained x y z number place
    to (inl h) = inl (h.0, (place_at one_too_many OneTooMany many es place).1 h.1)
    to (inr (inl h)) =
        inr (inl (h.0, none_place one_too_many OneTooMany many 0 es h.1, (place_at without_slot WithoutSlot short es place).1 h.2))
    to (inr (inr h)) =
        inr
        (inr (h.0, none_place one_too_many OneTooMany many 0 es h.1, none_place without_slot WithoutSlot short 0 es h.2, (place_at (ill_named host) (Misnamed host) ill es place).1 h.3))

-- the number is 1, 2 or 3
pub early_number : (host : List ℕ) (call : HostCall) (r : ℕ × ℕ) → early_refusal host call ≡ Some r → (r.0 ≡ 1) ⊎ ((r.0 ≡ 2) ⊎ (r.0 ≡ 3))
early_number host call r e = ⊎_elim (λ h. inl h.0) (⊎_elim (λ h. inr (inl h.0)) (λ h. inr (inr h.0))) ((early_law host call r.0 r.1).0 e)

-- on a catalog that keeps its laws
outcome_done : (full full_columns : Book → Option ℕ) (host : List ℕ) (c : Catalog) (b : Book) (call : HostCall) → Laws c →
    let o : Outcome = asked_outcome full full_columns host c b call in Done full full_columns (call_event c (meant host call) o.ending) b o.left
outcome_done full full_columns host c b call laws = ⊎_elim performed away (split_option (early_refusal host call))
  where
    done : Option (ℕ × ℕ) → Outcome
    done r = unless_early b (perform full full_columns c b (meant host call)) r

    Step : Outcome → Type 0
    Step o = Done full full_columns (call_event c (meant host call) o.ending) b o.left

    performed : early_refusal host call ≡ None → Step (done (early_refusal host call))
    performed e = subst (λ r. Step (done r)) (sym e) (record { laws = laws; after = refl; what = inl (refl, refl) })

    away : ((r : ℕ × ℕ) × (early_refusal host call ≡ Some r)) → Step (done (early_refusal host call))
    away z =
        subst (λ r. Step (done r)) (sym z.1)
        (record { laws = laws; after = refl; what = inr ((early_number host call z.0 z.1, refl, refl), refl) })

pub asked_law : AskedLaw
asked_law full full_columns host call e b b' a =
    subst (λ (v : Event). Done full full_columns v b b') (sym a.event)
    (subst (λ (v : Book). Done full full_columns (call_event e.before (meant host call) (asked_outcome full full_columns host e.before b call).ending) b v) (sym a.left)
    (outcome_done full full_columns host e.before b call a.laws))

performed_so : (full full_columns : Book → Option ℕ) (h : List Event) (c : Catalog) (b : Book) → AskedLife full full_columns h c b → Performed full full_columns h c b
performed_so full full_columns [] c b l = l
performed_so full full_columns (e ∷ h) c b l =
    (l.0, performed_so full full_columns h e.before l.0 l.3, asked_law full full_columns l.1 l.2 e l.0 b l.4, l.5)

pub asked_life_law : AskedLifeLaw
asked_life_law full full_columns h c b l =
    let p = performed_so full full_columns h c b l in
    let r = run_law full full_columns h c b p in
    (r.0, (p, r.1))
