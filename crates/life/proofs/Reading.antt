-- The loop of round 1 comes to its lists.
-- Assumes nothing.
use Rattle.std.proofs.Common.{◌≡◌, ℕ, zero, suc, Bool, true, false, ◌||◌, List, [], ◌∷◌, ◌++◌, nat_eq, sym, refl, ap, ◌∙◌, ⊎_elim, append_assoc, append-nil}
use Rattle.std.proofs.lemmas.Bool.{cases_Bool}
use Rattle.std.proofs.lemmas.Bool.Decides.{Decides-eqb}
use Rattle.catalog.specs.Catalog.{Catalog}
use Rattle.life.specs.Calls.{Declared}
use Rattle.life.specs.Lists.{is_in}
use Rattle.life.specs.Reading.{Read, reading, halted, then_read, read_row, read_question, read_all, read_entries, summed, ReadingLaw}
use Rattle.life.specs.RoundOne.{Question, in_full, for_array, asked_oid, asked_in_full, for_arrays_alone, miscoded, refusable, entry_asks, all_asks, spared, asked_once}
use Rattle.life.specs.Steps.{Book}
use Rattle.life.specs.Walk.{answered, malformed, Asked, stop, ask_each}
use Rattle.life.proofs.Fresh.{mem_push}
use Rattle.life.proofs.Lists.{chosen_true, chosen_false}

module _ (c : Catalog) (b : Book) where
  abbrev skip : ℕ → Bool
  skip = answered b.descriptors

  abbrev once : List ℕ → List ℕ → List Question → List Question
  once seen apart qs = asked_once c b seen apart qs

  full_passes : (seen apart : List ℕ) (o : ℕ) (qs : List Question) → (skip o || is_in o seen) ≡ true → once seen apart (in_full o ∷ qs) ≡ once seen apart qs
  full_passes seen apart o qs = chosen_true (skip o || is_in o seen) _ _

  full_takes : (seen apart : List ℕ) (o : ℕ) (qs : List Question) → (skip o || is_in o seen) ≡ false →
      once seen apart (in_full o ∷ qs) ≡ in_full o ∷ once (o ∷ seen) apart qs
  full_takes seen apart o qs = chosen_false (skip o || is_in o seen) _ _

  alone_passes : (seen apart : List ℕ) (e : ℕ) (qs : List Question) → (spared c b e || is_in e apart) ≡ true →
      once seen apart (for_array e ∷ qs) ≡ once seen apart qs
  alone_passes seen apart e qs = chosen_true (spared c b e || is_in e apart) _ _

  alone_takes : (seen apart : List ℕ) (e : ℕ) (qs : List Question) → (spared c b e || is_in e apart) ≡ false →
      once seen apart (for_array e ∷ qs) ≡ for_array e ∷ once seen (e ∷ apart) qs
  alone_takes seen apart e qs = chosen_false (spared c b e || is_in e apart) _ _

  -- only what is in the lists of those seen counts
  once_same : (qs : List Question) (seen seen' apart apart' : List ℕ) →
      ((o : ℕ) → is_in o seen ≡ is_in o seen') → ((o : ℕ) → is_in o apart ≡ is_in o apart') → once seen apart qs ≡ once seen' apart' qs
  once_same [] seen seen' apart apart' e f = refl
  once_same (in_full o ∷ qs) seen seen' apart apart' e f =
      let test : (skip o || is_in o seen) ≡ (skip o || is_in o seen') = ap (λ x. skip o || x) (e o) in
      ⊎_elim
      (λ t. full_passes seen apart o qs t ∙ once_same qs seen seen' apart apart' e f ∙ sym (full_passes seen' apart' o qs (sym test ∙ t)))
      (λ t.
      full_takes seen apart o qs t
      ∙ ap (λ l. in_full o ∷ l) (once_same qs (o ∷ seen) (o ∷ seen') apart apart' (λ p. ap (λ x. nat_eq p o || x) (e p)) f)
      ∙ sym (full_takes seen' apart' o qs (sym test ∙ t)))
      (cases_Bool (skip o || is_in o seen))
  once_same (for_array o ∷ qs) seen seen' apart apart' e f =
      let test : (spared c b o || is_in o apart) ≡ (spared c b o || is_in o apart') = ap (λ x. spared c b o || x) (f o) in
      ⊎_elim
      (λ t. alone_passes seen apart o qs t ∙ once_same qs seen seen' apart apart' e f ∙ sym (alone_passes seen' apart' o qs (sym test ∙ t)))
      (λ t.
      alone_takes seen apart o qs t
      ∙ ap (λ l. for_array o ∷ l) (once_same qs seen seen' (o ∷ apart) (o ∷ apart') e (λ p. ap (λ x. nat_eq p o || x) (f p)))
      ∙ sym (alone_takes seen' apart' o qs (sym test ∙ t)))
      (cases_Bool (spared c b o || is_in o apart))

  abbrev asked : ℕ → List Question → Asked
  asked left qs = ask_each asked_oid (refusable c) left qs

  -- what the lists come to behind a queue and those read apart
  abbrev sums : ℕ → List ℕ → List ℕ → List Question → Read
  sums left queue apart l = summed (asked left l) (queue ++ asked_in_full l) (apart ++ for_arrays_alone l)

  -- one row more, and then the rest
  sums_row : (q : Question) (left : ℕ) (queue apart queue' apart' : List ℕ) (l : List Question) →
      queue ++ asked_in_full (q ∷ l) ≡ queue' ++ asked_in_full l → apart ++ for_arrays_alone (q ∷ l) ≡ apart' ++ for_arrays_alone l →
      sums left queue apart (q ∷ l) ≡ read_row (asked_oid q) left (refusable c q) (λ rest. sums rest queue' apart' l)
  sums_row q zero queue apart queue' apart' l e f = refl
  sums_row q (suc left) queue apart queue' apart' l e f =
      let full : List ℕ = queue ++ asked_in_full (q ∷ l) in
      let alone : List ℕ = apart ++ for_arrays_alone (q ∷ l) in
      ⊎_elim
      (λ t. ap (λ a. summed a full alone) (chosen_true (refusable c q) _ _ t) ∙ sym (chosen_true (refusable c q) _ (sums left queue' apart' l) t))
      (λ t.
      ap (λ a. summed a full alone) (chosen_false (refusable c q) (stop 6 (asked_oid q)) (asked left l) t)
      ∙ (λ i. summed (asked left l) (e i) (f i))
      ∙ sym (chosen_false (refusable c q) (halted 6 (asked_oid q)) _ t))
      (cases_Bool (refusable c q))

  -- a row, and then what is done with what is left
  row_then : (o left : ℕ) (bad : Bool) (f : ℕ → Read) (next : List ℕ → List ℕ → ℕ → Read) (g : ℕ → Read) →
      ((rest : ℕ) → then_read (f rest) next ≡ g rest) → then_read (read_row o left bad f) next ≡ read_row o left bad g
  row_then o zero bad f next g e = refl
  row_then o (suc left) true f next g e = refl
  row_then o (suc left) false f next g e = e left

  all_read_so : (qs : List Question) (queue apart : List ℕ) (left : ℕ) → read_all c b qs queue apart left ≡ sums left queue apart (once queue apart qs)
  all_read_so [] queue apart left = λ i. reading (sym (append-nil queue) i) (sym (append-nil apart) i) left
  all_read_so (in_full o ∷ qs) queue apart left =
      let test : Bool = skip o || is_in o queue in
      let row : (ℕ → Read) → Read = read_row o left (malformed c o) in
      let one : ℕ → Read = λ rest. reading (queue ++ o ∷ []) apart rest in
      let then_all : Read → Read = λ r. then_read r (read_all c b qs) in
      ⊎_elim
      (λ t.
      ap then_all (chosen_true test (reading queue apart left) (row one) t)
      ∙ all_read_so qs queue apart left
      ∙ ap (sums left queue apart) (sym (full_passes queue apart o qs t)))
      (λ t.
      ap then_all (chosen_false test (reading queue apart left) (row one) t)
      ∙ row_then o left (malformed c o) one (read_all c b qs) (λ rest. sums rest (queue ++ o ∷ []) apart (once (o ∷ queue) apart qs))
      (λ rest.
      all_read_so qs (queue ++ o ∷ []) apart rest
      ∙ ap (sums rest (queue ++ o ∷ []) apart)
      (once_same qs (queue ++ o ∷ []) (o ∷ queue) apart apart (λ p. mem_push nat_eq Decides-eqb skip o p queue) (λ p. refl)))
      ∙ sym
      (sums_row (in_full o) left queue apart (queue ++ o ∷ []) apart (once (o ∷ queue) apart qs)
      (sym (append_assoc queue (o ∷ []) (asked_in_full (once (o ∷ queue) apart qs)))) refl)
      ∙ ap (sums left queue apart) (sym (full_takes queue apart o qs t)))
      (cases_Bool (skip o || is_in o queue))
  all_read_so (for_array e ∷ qs) queue apart left =
      let test : Bool = spared c b e || is_in e apart in
      let row : (ℕ → Read) → Read = read_row e left (miscoded (c.rows e)) in
      let one : ℕ → Read = λ rest. reading queue (apart ++ e ∷ []) rest in
      let then_all : Read → Read = λ r. then_read r (read_all c b qs) in
      ⊎_elim
      (λ t.
      ap then_all (chosen_true test (reading queue apart left) (row one) t)
      ∙ all_read_so qs queue apart left
      ∙ ap (sums left queue apart) (sym (alone_passes queue apart e qs t)))
      (λ t.
      ap then_all (chosen_false test (reading queue apart left) (row one) t)
      ∙ row_then e left (miscoded (c.rows e)) one (read_all c b qs) (λ rest. sums rest queue (apart ++ e ∷ []) (once queue (e ∷ apart) qs))
      (λ rest.
      all_read_so qs queue (apart ++ e ∷ []) rest
      ∙ ap (sums rest queue (apart ++ e ∷ []))
      (once_same qs queue queue (apart ++ e ∷ []) (e ∷ apart) (λ p. refl) (λ p. mem_push nat_eq Decides-eqb skip e p apart)))
      ∙ sym
      (sums_row (for_array e) left queue apart queue (apart ++ e ∷ []) (once queue (e ∷ apart) qs) refl
      (sym (append_assoc apart (e ∷ []) (for_arrays_alone (once queue (e ∷ apart) qs)))))
      ∙ ap (sums left queue apart) (sym (alone_takes queue apart e qs t)))
      (cases_Bool (spared c b e || is_in e apart))

  then_then : (r : Read) (f g : List ℕ → List ℕ → ℕ → Read) → then_read (then_read r f) g ≡ then_read r (λ u v n. then_read (f u v n) g)
  then_then (reading u v n) f g = refl
  then_then (halted n p) f g = refl

  then_same : (r : Read) (f g : List ℕ → List ℕ → ℕ → Read) → ((u v : List ℕ) (n : ℕ) → f u v n ≡ g u v n) → then_read r f ≡ then_read r g
  then_same (reading u v n) f g e = e u v n
  then_same (halted n p) f g e = refl

  read_append : (xs ys : List Question) (queue apart : List ℕ) (left : ℕ) →
      read_all c b (xs ++ ys) queue apart left ≡ then_read (read_all c b xs queue apart left) (read_all c b ys)
  read_append [] ys queue apart left = refl
  read_append (x ∷ xs) ys queue apart left =
      then_same (read_question c b x queue apart left) (read_all c b (xs ++ ys)) (λ u v n. then_read (read_all c b xs u v n) (read_all c b ys))
      (read_append xs ys)
      ∙ sym (then_then (read_question c b x queue apart left) (read_all c b xs) (read_all c b ys))

  entries_read : (ds : List Declared) (queue apart : List ℕ) (left : ℕ) →
      read_entries c b ds queue apart left ≡ read_all c b (all_asks c b ds) queue apart left
  entries_read [] queue apart left = refl
  entries_read (x ∷ ds) queue apart left =
      then_same (read_all c b (entry_asks c b x) queue apart left) (read_entries c b ds) (read_all c b (all_asks c b ds)) (entries_read ds)
      ∙ sym (read_append (entry_asks c b x) (all_asks c b ds) queue apart left)

pub reading_law : ReadingLaw
reading_law c b ds = entries_read c b ds [] [] 256 ∙ all_read_so c b (all_asks c b ds) [] [] 256
