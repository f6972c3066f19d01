-- A name that lies outside the text is no column's; the slots as the names go in. Assumes nothing.
use Rattle.std.proofs.Common.{◌≡◌, ℕ, suc, ◌<◌, Bool, false, ◌&&◌, List, [], ◌∷◌, length, get_or, drop, None, refl, sym, ap, ◌∙◌, subst, drop-cons}
use Rattle.std.proofs.Math.Seq.{drop-length}
use Rattle.std.specs.Bool.{then_some}
use Rattle.std.specs.Option.{option_or}
use Rattle.std.specs.Str.{bytes_eq}
use Rattle.keys.specs.Senses.{bytes_digest}
use Rattle.keys.specs.Spans.{span_bytes, span_end}
use Rattle.keys.specs.declared.span.Span.{Span}
use Rattle.life.specs.HostCalls.{inside}
use Rattle.life.specs.Ordinal.{last_place, ordinal}
use Rattle.requests.specs.Ordinals.{Entered, Indexed, has_bytes, leads_to}
use Rattle.slots.specs.Slots.{Entry, Kept}

nowhere : {A : Type 0} (i : ℕ) (xs : List A) → last_place (λ x. false) i xs ≡ None
nowhere i [] = refl
nowhere i (x ∷ xs) = ap (λ o. option_or o None) (nowhere (suc i) xs)

pub outside_names : (host : List ℕ) (names : List Span) (asked : Span) → inside host asked ≡ false → None ≡ ordinal host names asked
outside_names host names asked e =
    sym (ap (λ (b : Bool). last_place (λ t. b && (inside host t && bytes_eq (span_bytes host asked) (span_bytes host t))) 0 names) e ∙ nowhere 0 names)

module _ (host : List ℕ) (names : List Span) where
  -- no name is in
  pub indexed_none : (es : List (Entry Span ℕ)) → Kept span_bytes bytes_digest span_end host es → ((q : List ℕ) → leads_to host es q ≡ None) →
      Indexed host (length names) (drop (length names) names) es
  indexed_none es kept none = rw drop-length (record { kept = kept; leads = none })

  -- name i goes in, after those behind it
  pub indexed_more : (i j : ℕ) (d : Span) (es fs : List (Entry Span ℕ)) → j ≡ suc i → i < length names → Indexed host j (drop j names) es →
      Entered host (get_or names i d) i es fs → Indexed host i (drop i names) fs
  indexed_more i j d es fs e l behind entered =
      let before = subst (λ n. Indexed host n (drop n names) es) e behind in
      rw (drop-cons names i d) (record {
        kept = entered.kept;
        leads = λ q. entered.leads q ∙ ap (λ o. option_or o (then_some (has_bytes host q (get_or names i d)) i)) (before.leads q);
      })
