-- What is shown of a byte is ASCII.
-- Assumes nothing.
use Rattle.std.proofs.Common.{◌≡◌, ◌+◌, ◌/◌, ◌%◌, ◌<◌, ℕ, Bool, true, false, cond, List, [], ◌∷◌, refl, subst, sym, arith}
use Rattle.std.proofs.lemmas.Str.{IsAscii-append, IsUtf8-from_ascii}
use Rattle.std.proofs.lemmas.Str.Ascii.{IsAscii-cons, IsAscii-nil}
use Rattle.std.proofs.lemmas.List.Elements.{All-head, All-tail}
use Rattle.std.specs.List.{All, flat_map}
use Rattle.std.specs.Str.{IsAscii, IsUtf8}
use Rattle.std.specs.Prelude.{nat_lt}
use Rattle.script.specs.Names.{escape_of, hex_upper, plain, shown_byte}

digit_if : (low : Bool) (d : ℕ) → d < 16 → cond low (48 + d) (55 + d) < 128
digit_if true d small = omega arith
digit_if false d small = omega arith

shown_if : (stands : Bool) (b : ℕ) → b < 256 → (stands ≡ true → b < 128) → IsAscii (cond stands (b ∷ []) (escape_of b))
shown_if true b byte low = IsAscii-cons b [] (low refl) IsAscii-nil
shown_if false b byte low =
    let last = hex_upper (b % 16) ∷ [] in
    IsAscii-cons 37 (hex_upper (b / 16) ∷ last) (omega arith)
    (IsAscii-cons (hex_upper (b / 16)) last (digit_if (nat_lt (b / 16) 10) (b / 16) (omega arith))
    (IsAscii-cons (hex_upper (b % 16)) [] (digit_if (nat_lt (b % 16) 10) (b % 16) (omega arith)) IsAscii-nil))

low_if_plain : (b : ℕ) → plain b ≡ true → b < 128
low_if_plain b stands = grind arith

shown_is_ascii : (bs : List ℕ) → All (λ b. b < 256) bs → IsAscii (flat_map shown_byte bs)
shown_is_ascii [] all = IsAscii-nil
shown_is_ascii (b ∷ bs) all =
    IsAscii-append (shown_byte b) (flat_map shown_byte bs) (shown_if (plain b) b (All-head (λ c. c < 256) b bs all) (low_if_plain b)) (shown_is_ascii bs (All-tail (λ c. c < 256) b bs all))

pub shown_is_text : (text bs : List ℕ) → All (λ b. b < 256) bs → text ≡ flat_map shown_byte bs → IsUtf8 text
shown_is_text text bs all laid = subst IsUtf8 (sym laid) (IsUtf8-from_ascii (flat_map shown_byte bs) (shown_is_ascii bs all))
