-- Names that are not refused are short, and the entries that are meant.
-- Assumes nothing.
use Rattle.std.proofs.Common.{◌≡◌, ◌∙◌, ℕ, suc, ◌≤◌, Bool, true, false, if◌then◌else◌, List, [], ◌∷◌, map, length, drop, Some, None, Option, nat_le, sym, refl, ap, subst, inl, inr, ⊎_elim, arith}
use Rattle.std.proofs.lemmas.Bool.{and_parts, cases_Bool, leb-true, not-false}
use Rattle.std.proofs.lemmas.List.{length-take}
use Rattle.std.proofs.lemmas.Simd.{map-map}
use Rattle.std.specs.Option.{option_or}
use Rattle.catalog.specs.Shape.{Name}
use Rattle.keys.specs.declared.span.Span.{Span}
use Rattle.keys.specs.Spans.{span_bytes}
use Rattle.life.specs.Calls.{Declared, resolve}
use Rattle.life.specs.HostCalls.{ResolveAsked, early_refusal, first_behind, first_misnamed, host_resolve, inside, meant, meant_type, misnamed, numbered, type_name, unless_early}
use Rattle.life.specs.Buffers.{written_over}
use Rattle.life.specs.Outcomes.{Outcome}
use Rattle.life.specs.Resolve.{oids}
use Rattle.life.specs.Steps.{Ending, accepts}
use Rattle.life.proofs.Lists.{chosen_true, chosen_false, not_some_none, mem_split}
use Rattle.room.specs.Added.{declared_names, entry_names}
use Rattle.requests.specs.Asked.{declared_by, type_asked}
use Rattle.requests.specs.Early.{resolve_asked}
use Rattle.requests.specs.declared.asked.TypeAsked.{TypeAsked}
use Rattle.requests.specs.declared.asked.TypeAsked.TheVariants.{Oid, Name as OfName, ArrayOf}
use Rattle.room.specs.Room.{limited}
use Rattle.room.specs.Tables.{Tables, contents}
use Rattle.book.specs.Held.{Held}
use Rattle.catalog.specs.Catalog.{Catalog}
use Rattle.calls.specs.Answers.{oids_by_law}
use Rattle.calls.specs.Resolving.{Few}
use Rattle.unfolding.specs.Lists.{Mem}

-- the entries that are meant
pub meant_entries : (host : List ℕ) (entries : List TypeAsked) (slots : ℕ) → meant host (host_resolve (resolve_asked entries slots)) ≡ resolve (declared_by host entries)
meant_entries host entries slots = ap resolve (map-map (meant_type host) type_asked entries)

second_none : {A : Type 0} (x y : Option A) → option_or x y ≡ None → y ≡ None
second_none None y e = e
second_none (Some a) y e = absurd cc

no_number : (number : ℕ) (x : Option ℕ) → numbered number x ≡ None → x ≡ None
no_number number None e = refl
no_number number (Some p) e = absurd cc

short_span : (host : List ℕ) (s : Span) (most : ℕ) → misnamed host (Some (record { span = s; least = 1; most = most })) ≡ false → most ≤ 128 → length (span_bytes host s) ≤ 128
short_span host s most e few =
    let named = and_parts (inside host s) _ (not-false _ e) in
    let within = and_parts (nat_le 1 s.length) (nat_le s.length most) named.1 in
    omega (arith, length-take s.length (drop s.start host), leb-true s.length most within.1, few)

module _ (host : List ℕ) where
  abbrev refuses : TypeAsked → Bool
  refuses x = misnamed host (type_name (type_asked x))

  short_entry : (x : TypeAsked) → refuses x ≡ false → (n : Name) → Mem n (entry_names (meant_type host (type_asked x))) → length n ≤ 128
  short_entry (Oid o) e n m = absurd m
  short_entry (OfName span) e n (inl same) = subst (λ (k : Name). length k ≤ 128) (sym same) (short_span host span 128 e (omega arith))
  short_entry (OfName span) e n (inr m) = absurd m
  short_entry (ArrayOf span) e n (inl same) = subst (λ (k : Name). length k ≤ 128) (sym same) (short_span host span 126 e (omega arith))
  short_entry (ArrayOf span) e n (inr m) = absurd m

  short_all : (entries : List TypeAsked) (i : ℕ) → first_misnamed host type_name i (map type_asked entries) ≡ None →
      (n : Name) → Mem n (declared_names (resolve (declared_by host entries))) → length n ≤ 128
  short_all [] i e n m = absurd m
  short_all (x ∷ xs) i e n m =
      ⊎_elim
      (λ y. absurd (not_some_none i (chosen_true (refuses x) (Some i) (first_misnamed host type_name (suc i) (map type_asked xs)) y) e))
      (λ z.
      ⊎_elim
      (λ here. short_entry x z n here)
      (λ there. short_all xs (suc i) (sym (chosen_false (refuses x) (Some i) (first_misnamed host type_name (suc i) (map type_asked xs)) z) ∙ e) n there)
      (mem_split n (entry_names (meant_type host (type_asked x))) (declared_names (resolve (declared_by host xs))) m))
      (cases_Bool (refuses x))

  -- where nothing is refused before any round, the entries are few and their names short
  pub few_entries : (entries : List TypeAsked) (slots : ℕ) → None ≡ early_refusal host (host_resolve (resolve_asked entries slots)) → length entries ≤ 256 → Few host entries
  few_entries entries slots e few = record {
    entries_few = few;
    names_short =
        short_all entries 0
        (no_number 3 (first_misnamed host type_name 0 (map type_asked entries))
        (second_none (numbered 2 (first_behind slots 0 (map type_asked entries))) _ (second_none (numbered 1 (first_behind 256 0 (map type_asked entries))) _ (sym e))));
  }

-- what is written of a Resolve
module _ (c : Catalog) (h : Held) (host : List ℕ) (t : Tables) (entries : List TypeAsked) (slots : ℕ) where
  abbrev q : ResolveAsked
  q = resolve_asked entries slots

  abbrev answers : List Declared → Option (ℕ × ℕ) → List ℕ
  answers ds r =
      let o : Outcome = unless_early (contents t) (limited h.capacity c t (resolve ds)) r in
      if accepts o.ending then oids c (contents t) o.left.descriptors ds else []

  abbrev law : List ℕ
  law = oids_by_law h.capacity host c t q

  pub turned_writes : (told : ℕ × ℕ) → Some told ≡ early_refusal host (host_resolve q) → (buffer : List ℕ) → buffer ≡ written_over law buffer
  turned_writes told e buffer = ap (λ r. written_over (answers (map (meant_type host) q.entries) r) buffer) e

  writes : (accepted : Bool) (os before after : List ℕ) → (accepted ≡ true → after ≡ written_over os before) → (accepted ≡ false → after ≡ before) →
      after ≡ written_over (if accepted then os else []) before
  writes true os before after w u = w refl
  writes false os before after w u = u refl

  pub passed_writes : None ≡ early_refusal host (host_resolve q) → (before after : List ℕ) (e : Ending) → e ≡ (limited h.capacity c t (resolve (declared_by host entries))).ending →
      (accepts e ≡ true → after ≡ written_over (oids c (contents t) (limited h.capacity c t (resolve (declared_by host entries))).left.descriptors (declared_by host entries)) before) →
      (accepts e ≡ false → after ≡ before) → after ≡ written_over law before
  passed_writes none before after e ends w u =
      let ds : List Declared = declared_by host entries in
      writes (accepts e) (oids c (contents t) (limited h.capacity c t (resolve ds)).left.descriptors ds) before after w u
      ∙ ap (λ (x : Ending). written_over (if accepts x then oids c (contents t) (limited h.capacity c t (resolve ds)).left.descriptors ds else []) before) ends
      ∙ (λ i. written_over (answers (sym (map-map (meant_type host) type_asked entries) i) (none i)) before)
