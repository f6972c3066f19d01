use Rattle.std.proofs.Common.{◌≡◌, ℕ, List, length, get_or, is_some, IfSome, nat_lt, ltb-true, ltb-false, Bor, Some, None, Option, sym, refl, ap, ◌∙◌}
use Rattle.std.specs.List.{slice_get}
use Rattle.std.specs.Option.{option_copied}
use Rattle.std.proofs.lemmas.Option.{slice_get_past, slice_get_read}
use Rattle.book.proofs.Told.{slot_as_told}
use Rattle.book.proofs.tables.Book.descriptor.Goals as goal

-- what a slice's `get` answers
got : {A : Type 0} (xs : List A) (i : ℕ) (r : Option (Bor A)) → is_some r ≡ nat_lt i (length xs) → IfSome r (λ x. x.now ≡ get_or xs i x.now) → option_copied r ≡ slice_get xs i
got xs i None there read = sym (slice_get_past xs i (ltb-false i (length xs) (sym there)))
got xs i (Some x) there read = sym (slice_get_read xs (length xs) i x.now refl (ltb-true i (length xs) (sym there)) read)

pub returns-clause-told : goal.returns-clause-told
returns-clause-told c =
    let read = got c.as_slice.result.now c.args.slot.0 c.get.result c.get.ensures.lookup.0 c.get.ensures.lookup.1 in
    slot_as_told c.args.self.now c.args.slot.0 c.copied.result (c.copied.ensures ∙ read ∙ ap (λ ds. slice_get ds c.args.slot.0) c.as_slice.ensures)
