-- The names of a script: visible bytes stand for themselves, %HH for any byte, %- for the empty name.
-- Assumes nothing.
use Rattle.std.specs.Prelude.{◌≡◌, ℕ, ◌+◌, ◌-◌, ◌*◌, ◌/◌, ◌%◌, ◌<◌, Bool, cond, not, ◌&&◌, List, [], ◌∷◌, ◌++◌, length, take, Some, None, Ok, Err, codes, Option, Result, ◌==◌, nat_le, nat_lt}
use Rattle.std.specs.Borrow.{Bor}
use Rattle.std.specs.List.{flat_map, AllByRecursion}
use Rattle.std.specs.Str.{bytes_eq}
use Rattle.script.specs.declared.names.NameFault.{NameFault}
use Rattle.script.specs.declared.names.NameFault.TheVariants.{NotAName, OutOfMemory}

-- 0x21 to 0x7E, but for the percent sign
abbrev pub plain : ℕ → Bool
plain b = nat_le 33 b && (nat_le b 126 && not (b == 37))

-- the value of a hexadecimal digit of either case
abbrev pub hex_digit : ℕ → Option ℕ
hex_digit b =
    cond (nat_le 48 b && nat_le b 57) (Some (b - 48))
    (cond (nat_le 65 b && nat_le b 70) (Some (b - 55))
    (cond (nat_le 97 b && nat_le b 102) (Some (b - 87)) None))

-- the byte that two hexadecimal digits write
abbrev pub hex_byte : Option ℕ → Option ℕ → Option ℕ
hex_byte None l = None
hex_byte (Some h) None = None
hex_byte (Some h) (Some l) = Some (h * 16 + l)

abbrev pub consed : ℕ → Option (List ℕ) → Option (List ℕ)
consed b None = None
consed b (Some bs) = Some (b ∷ bs)

abbrev pub escaped : Option ℕ → Option ℕ → Option (List ℕ) → Option (List ℕ)
escaped None l rest = None
escaped (Some h) None rest = None
escaped (Some h) (Some l) rest = consed (h * 16 + l) rest

abbrev pub plainly : ℕ → Option (List ℕ) → Option (List ℕ)
plainly b rest = cond (plain b) (consed b rest) None

-- the bytes that a text of plain bytes and %HH writes
abbrev pub unescaped : List ℕ → Option (List ℕ)
unescaped [] = Some []
unescaped (b ∷ []) = plainly b (Some [])
unescaped (b ∷ (h ∷ [])) = plainly b (unescaped (h ∷ []))
unescaped (b ∷ (h ∷ (l ∷ rest))) =
    cond (b == 37) (escaped (hex_digit h) (hex_digit l) (unescaped rest)) (plainly b (unescaped (h ∷ (l ∷ rest))))

-- the first byte that a written text stands for and a shorter rest for the others; nothing at its end, and a fault where it stands for none
abbrev pub NextByte : List ℕ → Result (Option (ℕ × Bor (List ℕ))) NameFault → Type 0
NextByte written (Ok None) = written ≡ []
NextByte written (Ok (Some next)) =
    (unescaped written ≡ consed next.0 (unescaped next.1.now)) × (length next.1.now < length written)
NextByte written (Err NotAName) = unescaped written ≡ None
NextByte written (Err (OutOfMemory e)) = ⊥

-- what a text holds with the bytes of a name behind it, if there is a name
abbrev pub laid : List ℕ → Option (List ℕ) → Option (List ℕ)
laid before None = None
laid before (Some name) = Some (before ++ name)

-- how a fault is told
abbrev pub fault_text : NameFault → List ℕ
fault_text NotAName = codes "not a name"
fault_text (OutOfMemory e) = codes "out of memory"

-- the bytes that a text writes laid behind what another holds; a fault may leave some of them there
abbrev pub Laid : List ℕ → List ℕ → List ℕ → Result (Unit {0}) NameFault → Type 0
Laid written before after (Ok done) = laid before (unescaped written) ≡ Some after
Laid written before after (Err NotAName) = (unescaped written ≡ None) × (take (length before) after ≡ before)
Laid written before after (Err (OutOfMemory e)) = take (length before) after ≡ before

-- the name that a word writes; a word that begins with @ (64) is none, nor is one without a byte
abbrev pub named : List ℕ → Option (List ℕ)
named [] = None
named (b ∷ bs) = cond (bytes_eq (b ∷ bs) (codes "%-")) (Some []) (cond (b == 64) None (unescaped (b ∷ bs)))

-- a name laid behind what a text holds; a word that is no name, or want of memory, leaves the text as it was
abbrev pub Decoded : List ℕ → List ℕ → List ℕ → Result (Unit {0}) NameFault → Type 0
Decoded word before after (Ok done) = (name : List ℕ) × (named word ≡ Some name) × (after ≡ before ++ name)
Decoded word before after (Err NotAName) = (named word ≡ None) × (after ≡ before)
Decoded word before after (Err (OutOfMemory e)) = after ≡ before

-- the byte of a hexadecimal digit, in upper case
abbrev pub hex_upper : ℕ → ℕ
hex_upper d = cond (nat_lt d 10) (48 + d) (55 + d)

-- a byte as a percent sign (37) and two hexadecimal digits
abbrev pub escape_of : ℕ → List ℕ
escape_of b = 37 ∷ (hex_upper (b / 16) ∷ (hex_upper (b % 16) ∷ []))

-- a plain byte as itself, any other as an escape
abbrev pub shown_byte : ℕ → List ℕ
shown_byte b = cond (plain b) (b ∷ []) (escape_of b)

-- a first byte, of which a plain @ (64) would write no name
abbrev pub shown_first : ℕ → List ℕ
shown_first b = cond (b == 64) (escape_of b) (shown_byte b)

-- how a name is printed
abbrev pub shown : List ℕ → List ℕ
shown [] = codes "%-"
shown (b ∷ bs) = shown_first b ++ flat_map shown_byte bs

-- what is printed of a name is read as that name
abbrev pub ShownReadsBack : Type 0
ShownReadsBack = (name : List ℕ) → AllByRecursion (λ b. b < 256) name → named (shown name) ≡ Some name
