-- A buffer that is written slot by slot.
-- Assumes nothing.
use Rattle.std.proofs.Common.{◌≡◌, ℕ, ◌+◌, ◌<◌, ◌≤◌, List, [], ◌∷◌, ◌++◌, length, map, take, drop, set, sym, ap, ◌∙◌, arith, append_assoc, append-nil}
use Rattle.std.proofs.lemmas.List.{drop-drop, drop-map, drop-set-lt, length-map, length-take-le, map-append, take-append-drop, take_more_set}
use Rattle.life.specs.Buffers.{written_over}

-- of what is to be told of a buffer, which was `before` and is `now`, this is left to write from the place on
pub record Writing {A X : Type 0} (told : A → X) (all rest : List X) (before now : List A) (place : ℕ) : Type 0 where
  pub so_far : map told (take place now) ++ rest ≡ all
  pub behind : drop place now ≡ drop place before

module _ {A X : Type 0} (told : A → X) (all : List X) (before : List A) where
  pub writing_more : (rest later : List X) (x : X) (now : List A) (place : ℕ) (v : A) → rest ≡ x ∷ later → told v ≡ x → place < length now →
      Writing told all rest before now place → Writing told all later before (set now place v) (place + 1)
  writing_more rest later x now place v next is within so = record {
    so_far =
        ap (λ k. map told k ++ later) (take_more_set now place v within)
        ∙ ap (λ k. k ++ later) (map-append told (take place now) (v ∷ []))
        ∙ append_assoc (map told (take place now)) (told v ∷ []) later
        ∙ ap (λ y. map told (take place now) ++ (y ∷ later)) is
        ∙ sym (ap (λ k. map told (take place now) ++ k) next)
        ∙ so.so_far;
    behind =
        drop-set-lt (place + 1) now place v (omega arith)
        ∙ sym (drop-drop 1 place now)
        ∙ ap (drop 1) so.behind
        ∙ drop-drop 1 place before;
  }

  pub writing_done : (rest : List X) (now : List A) (place : ℕ) → rest ≡ [] → place ≤ length now → Writing told all rest before now place →
      map told now ≡ written_over all (map told before)
  writing_done rest now place none within so =
      let front : map told (take place now) ≡ all = sym (ap (λ k. map told (take place now) ++ k) none ∙ append-nil (map told (take place now))) ∙ so.so_far in
      let long : place ≡ length all = omega (arith, ap length front, length-map (take place now) told, length-take-le place now within) in
      ap (map told) (sym (take-append-drop place now))
      ∙ map-append told (take place now) (drop place now)
      ∙ ap (λ k. k ++ map told (drop place now)) front
      ∙ ap (λ k. all ++ map told k) so.behind
      ∙ ap (λ k. all ++ k) (sym (drop-map told place before))
      ∙ ap (λ n. all ++ drop n (map told before)) long
