-- What is printed of a name is read as that name.
use Rattle.std.proofs.Common.{◌≡◌, ℕ, ◌+◌, ◌*◌, ◌/◌, ◌%◌, ◌<◌, true, false, eqb, List, [], ◌∷◌, ◌++◌, Some, refl, ap, ◌∙◌, ⊎_elim, arith}
use Rattle.std.specs.List.{flat_map, AllByRecursion}
use Rattle.std.proofs.lemmas.Bool.Decides.{nat_tests}
use Rattle.std.proofs.lemmas.Bool.{cases_Bool, and_right}
use Rattle.script.specs.Names.{plain, hex_digit, hex_upper, consed, unescaped, named, escape_of, shown_byte, shown_first, ShownReadsBack}

hex_digit-hex_upper : (d : ℕ) → d < 16 → hex_digit (hex_upper d) ≡ Some d
hex_digit-hex_upper d h = grind (arith, nat_tests)

unescaped-escape_of : (b : ℕ) (t : List ℕ) → b < 256 → unescaped (escape_of b ++ t) ≡ consed b (unescaped t)
unescaped-escape_of b t h =
    let high : b / 16 < 16 = omega arith in
    let low : b % 16 < 16 = omega arith in
    let same : b / 16 * 16 + b % 16 ≡ b = omega arith in
    rw (hex_digit-hex_upper (b / 16) high, hex_digit-hex_upper (b % 16) low) (ap (λ (v : ℕ). consed v (unescaped t)) same)

not-percent : (b : ℕ) → plain b ≡ true → eqb b 37 ≡ false
not-percent b p = grind (arith, nat_tests)

unescaped-plain : (b : ℕ) (t : List ℕ) → plain b ≡ true → unescaped (b ∷ t) ≡ consed b (unescaped t)
unescaped-plain b [] p = rw p
unescaped-plain b (h ∷ []) p = rw p
unescaped-plain b (h ∷ (l ∷ rest)) p = rw (p, not-percent b p)

unescaped-byte : (b : ℕ) (t : List ℕ) → b < 256 → unescaped (shown_byte b ++ t) ≡ consed b (unescaped t)
unescaped-byte b t h =
    ⊎_elim (λ p. rw p (unescaped-plain b t p)) (λ p. rw p (unescaped-escape_of b t h)) (cases_Bool (plain b))

unescaped-bytes : (bs : List ℕ) → AllByRecursion (λ b. b < 256) bs → unescaped (flat_map shown_byte bs) ≡ Some bs
unescaped-bytes [] h = refl
unescaped-bytes (b ∷ bs) h = rw (unescaped-byte b (flat_map shown_byte bs) h.0, unescaped-bytes bs h.1)

named-escape_of : (b : ℕ) (t : List ℕ) → b < 256 → named (escape_of b ++ t) ≡ consed b (unescaped t)
named-escape_of b t h = rw (and_right (eqb (hex_upper (b / 16)) 45) false refl) (unescaped-escape_of b t h)

named-plain : (b : ℕ) (t : List ℕ) → plain b ≡ true → eqb b 64 ≡ false → named (b ∷ t) ≡ consed b (unescaped t)
named-plain b t p e = rw (not-percent b p, e) (unescaped-plain b t p)

named-first : (b : ℕ) (t : List ℕ) → b < 256 → named (shown_first b ++ t) ≡ consed b (unescaped t)
named-first b t h =
    ⊎_elim
    (λ e. rw e (named-escape_of b t h))
    (λ e. rw e (⊎_elim (λ p. rw p (named-plain b t p e)) (λ p. rw p (named-escape_of b t h)) (cases_Bool (plain b))))
    (cases_Bool (eqb b 64))

pub read_back : ShownReadsBack
read_back [] h = refl
read_back (b ∷ bs) h = named-first b (flat_map shown_byte bs) h.0 ∙ ap (consed b) (unescaped-bytes bs h.1)
