-- Members laid one after the other.
-- Assumes nothing.
use Rattle.std.proofs.Common.{◌≡◌, ℕ, ◌+◌, ◌<◌, List, [], ◌∷◌, ◌++◌, length, map, take, drop, get_or, sym, ap, ◌∙◌, subst, arith, append_assoc, append-nil, length-append, take-append-drop}
use Rattle.std.proofs.lemmas.List.{get_or-map, length-map, map-append, take_more}
use Rattle.std.proofs.lemmas.List.Sums.{sum_by-append}
use Rattle.room.specs.Sizes.{bytes}
use Rattle.book.specs.Descriptions.{Member, names_of}
use Rattle.book.specs.Held.{Fits, Held, size_of_members, sum_of, with_members}

bytes_more : (ms ns : List Member) → bytes (names_of (ms ++ ns)) ≡ bytes (names_of ms) + bytes (names_of ns)
bytes_more ms ns = ap bytes (map-append (λ (m : Member). m.called) ms ns) ∙ sum_by-append length (names_of ms) (names_of ns)

pub members_none : (h : Held) → with_members h [] ≡ h
members_none h =
    let still : (n : ℕ) → n + 0 ≡ n = λ n. omega arith in
    let s = h.taken in
    λ i. record h {
      members = append-nil h.members i;
      taken = record {
        descriptors = still s.descriptors i;
        parts = still s.parts i;
        names = still s.names i;
        arrays = still s.arrays i;
        text = still s.text i;
        columns = still s.columns i;
        relations = still s.relations i;
      };
    }

pub members_more : (h : Held) (ms ns : List Member) → with_members (with_members h ms) ns ≡ with_members h (ms ++ ns)
members_more h ms ns =
    let still : (n : ℕ) → (n + 0) + 0 ≡ n + 0 = λ n. omega arith in
    let s = h.taken in
    let parts : (s.parts + length ms) + length ns ≡ s.parts + length (ms ++ ns) = omega (arith, length-append ms ns) in
    let text : (s.text + bytes (names_of ms)) + bytes (names_of ns) ≡ s.text + bytes (names_of (ms ++ ns)) = omega (arith, bytes_more ms ns) in
    λ i. record h {
      members = append_assoc h.members ms ns i;
      taken = record {
        descriptors = still s.descriptors i;
        parts = parts i;
        names = still s.names i;
        arrays = still s.arrays i;
        text = text i;
        columns = still s.columns i;
        relations = still s.relations i;
      };
    }

-- the next of members, where those before it are laid
module _ (h g : Held) (ms : List Member) (i : ℕ) (m : Member) (laid : g ≡ with_members h (take i ms)) (next : take (i + 1) ms ≡ take i ms ++ m ∷ []) where
  -- it fits where they all do
  pub next_fits : Fits (sum_of h.taken (size_of_members ms)) h.capacity → Fits (sum_of g.taken (size_of_members (m ∷ []))) g.capacity
  next_fits fits =
      let rest : List Member = drop (i + 1) ms in
      let whole : ms ≡ (take i ms ++ m ∷ []) ++ rest = sym (take-append-drop (i + 1) ms) ∙ ap (λ l. l ++ rest) next in
      let long : length ms ≡ (length (take i ms) + 1) + length rest =
      ap length whole ∙ length-append (take i ms ++ m ∷ []) rest ∙ ap (λ n. n + length rest) (length-append (take i ms) (m ∷ [])) in
      let many : bytes (names_of ms) ≡ (bytes (names_of (take i ms)) + bytes (names_of (m ∷ []))) + bytes (names_of rest) =
      ap (λ l. bytes (names_of l)) whole ∙ bytes_more (take i ms ++ m ∷ []) rest ∙ ap (λ n. n + bytes (names_of rest)) (bytes_more (take i ms) (m ∷ [])) in
      subst (λ (x : Held). Fits (sum_of x.taken (size_of_members (m ∷ []))) x.capacity) (sym laid) (record {
        descriptors = omega (arith, fits.descriptors);
        parts = omega (arith, fits.parts, long);
        names = omega (arith, fits.names);
        arrays = omega (arith, fits.arrays);
        text = omega (arith, fits.text, many);
        columns = omega (arith, fits.columns);
        relations = omega (arith, fits.relations);
      })

  pub next_laid : (k : Held) → k ≡ with_members g (m ∷ []) → k ≡ with_members h (take (i + 1) ms)
  next_laid k e = e ∙ ap (λ x. with_members x (m ∷ [])) laid ∙ members_more h (take i ms) (m ∷ []) ∙ ap (with_members h) (sym next)

-- the member of an item comes next after those of the items before it
pub next_member : {A B : Type 0} (g : B → Member) (h : A → B) (xs : List A) (i : ℕ) (x : A) → x ≡ get_or xs i x → i < length xs →
    take (i + 1) (map g (map h xs)) ≡ take i (map g (map h xs)) ++ g (h x) ∷ []
next_member g h xs i x here inside =
    let l : i < length (map h xs) = omega (arith, inside, length-map xs h) in
    let m : i < length (map g (map h xs)) = omega (arith, l, length-map (map h xs) g) in
    take_more (map g (map h xs)) i (g (h x)) m
    ∙ ap (λ y. take i (map g (map h xs)) ++ y ∷ []) (get_or-map g (map h xs) i (h x) (g (h x)) l ∙ ap g (get_or-map h xs i x (h x) inside ∙ ap h (sym here)))
