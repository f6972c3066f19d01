-- What a text cut at its first plus sign (43) tells of a span, and one cut at its first equals sign (61) of a size.
-- Assumes nothing.
use Rattle.std.proofs.Common.{◌≡◌, ℕ, suc, ◌+◌, ◌^◌, ◌≤◌, eqb, List, [], ◌∷◌, ◌++◌, length, Some, None, Option, refl, eq-eqb, arith}
use Rattle.std.proofs.lemmas.Bool.{ne_eqb}
use Rattle.std.proofs.Math.ListN.{drop_of_length-le}
use Rattle.std.proofs.Math.Seq.{take-append_seam, drop-append-add}
use Rattle.std.specs.List.{position_or_len}
use Rattle.book.specs.declared.sizes.BookTable.{BookTable}
use Rattle.script.specs.Numbers.{number_below}
use Rattle.script.specs.Words.{Absent}
use Rattle.lines.specs.Books.{size_from, size_read, table_read}
use Rattle.lines.specs.Host.{span_from, span_read}

-- the first byte c stands behind what has none
place : (c : ℕ) (l r : List ℕ) → Absent c l → position_or_len (λ b. eqb b c) (l ++ (c ∷ r)) ≡ length l
place c [] r never = rw (eq-eqb c c refl)
place c (b ∷ l) r never = rw (ne_eqb b c (never 0 (omega arith)), place c l r (λ k h. never (suc k) (omega arith))) (omega arith)

absent : (c : ℕ) (s : List ℕ) → Absent c s → position_or_len (λ b. eqb b c) s ≡ length s
absent c [] never = refl
absent c (b ∷ s) never = rw (ne_eqb b c (never 0 (omega arith)), absent c s (λ k h. never (suc k) (omega arith))) (omega arith)

no_length : (start : Option ℕ) → span_from start None ≡ None
no_length None = refl
no_length (Some start) = refl

pub no_plus : (s : List ℕ) → Absent 43 s → span_read s ≡ None
no_plus s never =
    let le : length s ≤ length s + 1 = omega arith in rw (absent 43 s never, drop_of_length-le s le) (no_length _)

pub at_plus : (s start length : List ℕ) → s ≡ start ++ (43 ∷ length) → Absent 43 start →
    span_read s ≡ span_from (number_below (2 ^ 32) start) (number_below (2 ^ 32) length)
at_plus s start length e never =
    rw (e, place 43 start length never, take-append_seam start (43 ∷ length), drop-append-add start (43 ∷ length) 1)

no_size : (table : Option BookTable) → size_from table None ≡ None
no_size None = refl
no_size (Some table) = refl

pub no_equals : (s : List ℕ) → Absent 61 s → size_read s ≡ None
no_equals s never =
    let le : length s ≤ length s + 1 = omega arith in rw (absent 61 s never, drop_of_length-le s le) (no_size _)

pub at_equals : (s key size : List ℕ) → s ≡ key ++ (61 ∷ size) → Absent 61 key →
    size_read s ≡ size_from (table_read key) (number_below (2 ^ 32) size)
at_equals s key size e never =
    rw (e, place 61 key size never, take-append_seam key (61 ∷ size), drop-append-add key (61 ∷ size) 1)
