-- Bytes that are laid behind the text in use. Assumes nothing.
use Rattle.std.proofs.Common.{◌≡◌, ℕ, ◌+◌, ◌^◌, ◌<◌, ◌≤◌, List, ◌++◌, length, take, drop, sym, ap, ◌∙◌, arith, length-append, length-drop}
use Rattle.std.proofs.lemmas.List.{take_all, drop_at, drop-drop, length-take-le}
use Rattle.std.proofs.lemmas.Slice.{take-put_mid, drop-put_mid}
use borrow.Rule.Slice.PartMut.{put_mid}
use Rattle.keys.specs.declared.span.Span.{Span}
use Rattle.keys.specs.Kinds.{span-grows}
use Rattle.keys.specs.Spans.{span_bytes}
use Rattle.slots.specs.Text.{Laid, LentText, Room}

pub laid :
    (before after : LentText) (bytes : List ℕ) (span : Span) → Room before (length bytes) → after.text ≡ before.text ++ bytes →
    after.spare ≡ drop (length bytes) before.spare → span.start ≡ length before.text → span.length ≡ length bytes → Laid before bytes span after
laid before after bytes span room text spare start long =
    record {
      room = room;
      text = text;
      spare = spare;
      at = (start, long);
      reads = ap (λ l. span_bytes l span) text ∙ ap (take span.length) (drop_at before.text bytes span.start (sym start)) ∙ take_all span.length bytes (omega arith);
      within = omega (arith, ap length text, length-append before.text bytes);
      keeps = λ s l. ap (λ t. span_bytes t s) text ∙ span-grows before.text bytes s l;
    }

-- the bytes are written into the lent ones, from the end of the text on
pub laid_when_written :
    (before : LentText) (lent bytes written : List ℕ) (used end n : ℕ) (span : Span) → record { text = take used lent; spare = drop used lent } ≡ before → used ≤ length lent →
    written ≡ bytes → n ≡ length bytes → end ≡ used + length bytes → end ≤ length lent → end < 2 ^ 32 → span.start ≡ used → span.length ≡ length bytes →
    Laid before bytes span (record { text = take end (put_mid used n lent written); spare = drop end (put_mid used n lent written) })
laid_when_written before lent bytes written used end n span was inside same count at room told start long =
    let as_many : length written ≡ length bytes = ap length same in
    let text : length (take used lent) ≡ used = length-take-le used lent inside in
    rw (← was)
    (laid _ _ bytes span
    (record { lent = omega (arith, length-drop used lent); told = omega arith })
    (take-put_mid used n lent written end (omega arith) inside ∙ ap (λ l. take used lent ++ l) same)
    (drop-put_mid used n lent written end (omega arith) inside (omega arith) ∙ ap (λ i. drop i lent) at ∙ sym (drop-drop (length bytes) used lent))
    (start ∙ sym text)
    long)
