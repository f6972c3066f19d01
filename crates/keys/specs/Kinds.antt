-- The laws of the three kinds of key: a test on what they stand for decides whether two are the same, and a text that
-- grows at its end leaves what its stored names stand for.
-- Assumes nothing.
use Rattle.std.specs.Prelude.{◌≡◌, ℕ, ◌≤◌, List, ◌++◌, length, take, drop, Decides, ◌==◌, nat_eq, refl}
use Rattle.std.proofs.Common.{ap, ◌∙◌, arith, length-drop}
use Rattle.std.specs.Ordering.{int_eq}
use Rattle.std.specs.Str.{bytes_eq}
use Rattle.std.proofs.lemmas.Slice.Eq.{bytes_eq-Decides}
use Rattle.std.proofs.lemmas.List.{drop-append-le, take-append-le}
use Rattle.std.proofs.lemmas.Bool.Decides.{Decides-eqb, Decides-int_eq, Decides-and, Decides-like}
use Rattle.keys.specs.declared.span.Span.{Span}
use Rattle.keys.specs.Laws.{Laws}
use Rattle.keys.specs.Spans.{span_bytes, span_end}
use Rattle.keys.specs.Senses.{oid_of, Pair, pair_of, same_pair}

pub oid-laws : Laws (λ _. oid_of) nat_eq (λ _. 0)
oid-laws = record { tells = Decides-eqb; grows = λ text more s l. refl }

pub same-pair : (p q : Pair) → Decides (same_pair p q) (p ≡ q)
same-pair p q =
    Decides-like (same_pair p q) (λ e. λ i. (e.0 i, e.1 i)) (λ e. (cc, cc))
    (Decides-and (p.0 == q.0) (int_eq p.1 q.1) (Decides-eqb p.0 q.0) (Decides-int_eq p.1 q.1))

pub pair-laws : Laws (λ _. pair_of) same_pair (λ _. 0)
pair-laws = record { tells = same-pair; grows = λ text more s l. refl }

-- a text that grows at its end keeps the bytes under each span within it
pub span-grows : (text more : List ℕ) (s : Span) → span_end s ≤ length text → span_bytes (text ++ more) s ≡ span_bytes text s
span-grows text more s l =
    ap (take s.length) (drop-append-le s.start text more (omega arith))
    ∙ take-append-le s.length (drop s.start text) more (omega (arith, length-drop s.start text))

pub bytes_laws : Laws span_bytes bytes_eq span_end
bytes_laws = record { tells = bytes_eq-Decides; grows = span-grows }
