use Rattle.std.proofs.Common.{◌≡◌, ℕ, ◌<◌, ◌≤◌, List, length, get_or, Some, None, Ok, Err, Equal, Less, Greater, Ordering, Option, Result, Bor, sym, ap, ◌∙◌, ⊎_elim, arith, rules}
use Rattle.std.proofs.lemmas.Bool.{cases_lt, cases_order}
use Rattle.std.proofs.lemmas.Cmp.{ranked}
use Rattle.std.proofs.lemmas.Fn.{always_returns_same}
use Rattle.std.specs.Fn.{Called, ComputesKey, Mut}
use Rattle.std.specs.List.Sorted.{IsBinarySearchResult, IsSearchInRange}
use Rattle.std.specs.Ordering.{nat_cmp, ordering_index}
use Rattle.std.specs.Cmp.{nat_cmp_is}
use Rattle.std.specs.Option.{MatchOption}
use Rattle.std.specs.Result.{result_ok}
use borrow.Author.Tests.{tests}
use Rattle.type_info.specs.declared.builtin.BuiltIn.{BuiltIn}
use Rattle.type_info.specs.Meaning.{Lists, entry_of, found}
use Rattle.type_info.specs.Table.{Entry, at, by_oid}
use Rattle.type_info.proofs.Facts.{blank, not-falling, by_oid-at, by_oid-none}
use Rattle.type_info.proofs.builtin.by_oid.Goals as goal

rises : (a b o : ℕ) → a ≤ b → ordering_index (nat_cmp a o) ≤ ordering_index (nat_cmp b o)
rises a b o h =
    ⊎_elim (λ (e : a ≡ o). rw (sym (nat_cmp_is a o Equal e))
    (⊎_elim (λ (f : b ≡ o). rw (sym (nat_cmp_is b o Equal f)) (omega arith))
    (⊎_elim (λ (l : b < o). absurd (omega arith)) (λ (l : o < b). rw (sym (nat_cmp_is b o Greater l)) (omega arith))) (cases_order b o)))
    (⊎_elim (λ (l : a < o). rw (sym (nat_cmp_is a o Less l)) (omega arith))
    (λ (l : o < a). rw (sym (nat_cmp_is a o Greater l), sym (nat_cmp_is b o Greater (omega arith))) (omega arith))) (cases_order a o)

module _ (t : List BuiltIn) (n : length t ≡ 92) (s : Lists t) (o : ℕ) where
  oid-at : (i : ℕ) (d : BuiltIn) → i < 92 → (get_or t i d).0.0 ≡ (at i).oid
  oid-at i d h = ap (λ (x : Entry). x.oid) (s i d h)

  searched : (r : Result ℕ ℕ) → IsSearchInRange r (length t) → IsBinarySearchResult (λ b. nat_cmp b.0.0 o) t r →
      MatchOption (result_ok r) (None ≡ by_oid o) (λ i. Some (entry_of (get_or t i blank)) ≡ by_oid o)
  searched (Ok i) l f =
      let h : i < 92 = omega (arith, n, l) in
      ap Some (s i blank h) ∙ sym (by_oid-at i h) ∙ ap by_oid (sym (oid-at i blank h) ∙ ranked _ o Equal (sym (f blank)))
  searched (Err i) l f =
      let g = f (λ j k d jk kn. let h : k < 92 = omega (arith, n, kn) in
      let q = not-falling j k jk h in
      rises _ _ o (omega (arith, oid-at j d (omega (arith, h)), oid-at k d h, q))) in
      sym (by_oid-none o (λ k h e. ⊎_elim
      (λ (u : k < i). let z = ranked _ o Less (sym (g.0 k blank (omega arith) u)) in omega (arith, oid-at k blank h, e, z))
      (λ (u : i ≤ k). let z = ranked _ o Greater (sym (g.1 k blank u (omega (arith, n, h)))) in omega (arith, oid-at k blank h, e, z))
      (cases_lt k i)))

  -- the same of the search's answer as an Option, from what the library says of it
  told :
      {F : Type 0} {g : Mut F (Bor BuiltIn × Unit {0}) Ordering} {f : F} (r : Result ℕ ℕ) (m : Option ℕ) → m ≡ result_ok r →
      IsSearchInRange r (length t) → ((by : BuiltIn → Ordering) → ComputesKey g by f → IsBinarySearchResult by t r) →
      ((a : Bor BuiltIn × Unit {0}) (k : Ordering) (f' : F) → Called g f a k f' → (k ≡ nat_cmp a.0.now.0.0 o) × (f' ≡ f)) →
      MatchOption m (None ≡ by_oid o) (λ i. Some (entry_of (get_or t i blank)) ≡ by_oid o)
  told r m e l p k = rw e (searched r l (p (λ b. nat_cmp b.0.0 o) (always_returns_same _ _ _ k)))

pub returns-in_err-place : goal.returns-in_err-place
returns-in_err-place c =
    ap found c.from_residual.ensures
    ∙ told c.table-entries.result.now c.table-entries.ensures.len c.table-entries.ensures.places c.args.oid.0 c.binary_search_by.result None c.in_err-place.ensures.value
    c.binary_search_by.ensures.bound c.binary_search_by.ensures.position (λ a r q k. search (rules, tests))

pub returns : goal.returns
returns c =
    told c.table-entries.result.now c.table-entries.ensures.len c.table-entries.ensures.places c.args.oid.0 c.binary_search_by.result (Some c.in_ok-place.place) c.in_ok-place.ensures.value
    c.binary_search_by.ensures.bound c.binary_search_by.ensures.position (λ a r q k. search (rules, tests))
