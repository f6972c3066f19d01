-- What a bind answers is what the law says that it answers.
-- Assumes nothing.
use Rattle.std.proofs.Common.{◌≡◌, ℕ, Bool, List, [], map, if◌then◌else◌, Some, None, Option, sym, refl, ap, ◌∙◌}
use Rattle.std.proofs.lemmas.Simd.{map-map}
use Rattle.catalog.specs.Catalog.{Catalog, Laws}
use Rattle.life.specs.Buffers.{written_over}
use Rattle.life.specs.Calls.{Field}
use Rattle.life.specs.HostCalls.{BindAsked, HostCall, early_refusal, host_bind, meant, meant_field, unless_early}
use Rattle.life.specs.Outcomes.{Outcome}
use Rattle.life.specs.Steps.{Book, Ending, Event, accepted, accepts, refused}
use Rattle.life.specs.Written.{bound_columns, written}
use Rattle.requests.specs.Asked.{field_asked, fields_of}
use Rattle.requests.specs.Early.{bind_asked}
use Rattle.requests.specs.declared.asked.FieldAsked.{FieldAsked}
use Rattle.room.specs.Asked.{asked_within, left_unless}
use Rattle.room.specs.Room.{LivedWithin, limited, tables_left}
use Rattle.room.specs.Tables.{Tables, contents}
use Rattle.room.proofs.Room.{eight_law}
use Rattle.book.specs.Held.{Held, book_held}
use Rattle.binding.specs.Writing.{column_told, columns_answered, type_told, types_answered}
use Rattle.binding.specs.declared.writing.BoundColumn.{BoundColumn}
use Rattle.binding.specs.declared.writing.BoundType.{BoundType}
use Rattle.calls.specs.Answers.{AnswersByLaw, columns_by_law, types_by_law}
use Rattle.calls.specs.Endings.{Did}

module _ (c : Catalog) (b b' : Held) (host parameters : List ℕ) (fields : List FieldAsked) (queries origins : Bool) (parameter_slots column_slots : ℕ) (t : Tables)
    (types types' : List BoundType) (columns columns' : List BoundColumn) where
  abbrev q : BindAsked
  q = bind_asked parameters fields queries origins parameter_slots column_slots

  abbrev call : HostCall
  call = host_bind q

  abbrev Answers : Type 0
  Answers = AnswersByLaw b.capacity host c t q b' types types' columns columns'

  module _ (laws : Laws c) (h : List Event) (lived : LivedWithin b.capacity h c t) (e : Ending) (did : Did c b b' host call e t) where
    abbrev out : Outcome
    out = asked_within b.capacity host c t call

    -- the book that the law leaves is the book
    left_so : out.left ≡ book_held b'
    left_so = sym (by_early (early_refusal host call)) ∙ did.left.book
      where
        by_early : (r : Option (ℕ × ℕ)) → contents (left_unless t (tables_left b.capacity c t (meant host call)) r) ≡ (unless_early (contents t) (limited b.capacity c t (meant host call)) r).left
        by_early None = (eight_law b.capacity h c t lived laws (meant host call)).0
        by_early (Some r) = refl

    types_at : types_by_law b.capacity host c t q ≡ map (λ w. Some w) (if accepts e then map (written (book_held b')) parameters else [])
    types_at =
        ap (λ (x : Ending). map (λ w. Some w) (if accepts x then map (written out.left) parameters else [])) (sym did.ends)
        ∙ ap (λ (k : Book). map (λ w. Some w) (if accepts e then map (written k) parameters else [])) left_so

    columns_at : columns_by_law b.capacity host c t q ≡ map (λ k. Some k) (if accepts e then bound_columns (book_held b') 0 (fields_of fields) else [])
    columns_at =
        ap (λ (x : Ending). map (λ k. Some k) (if accepts x then bound_columns out.left 0 (map meant_field (map field_asked fields)) else [])) (sym did.ends)
        ∙ ap (λ (k : Book). map (λ x. Some x) (if accepts e then bound_columns k 0 (map meant_field (map field_asked fields)) else [])) left_so
        ∙ ap (λ (fs : List Field). map (λ k. Some k) (if accepts e then bound_columns (book_held b') 0 fs else [])) (map-map meant_field field_asked fields)

  pub answers_accepted : (laws : Laws c) (h : List Event) (lived : LivedWithin b.capacity h c t) (n m : ℕ) → Did c b b' host call (accepted n m) t →
      map (type_told b') types' ≡ written_over (types_answered b' parameters) (map (type_told b') types) →
      map (column_told b') columns' ≡ written_over (columns_answered b' fields) (map (column_told b') columns) → Answers
  answers_accepted laws h lived n m did types_so columns_so = record {
    types_so =
        types_so
        ∙ sym (ap (λ all. written_over all (map (type_told b') types)) (types_at laws h lived (accepted n m) did ∙ map-map (λ w. Some w) (written (book_held b')) parameters));
    columns_so = columns_so ∙ sym (ap (λ all. written_over all (map (column_told b') columns)) (columns_at laws h lived (accepted n m) did));
  }

  pub answers_refused : (laws : Laws c) (h : List Event) (lived : LivedWithin b.capacity h c t) (n p : ℕ) (of_columns : Bool) (r : ℕ) → Did c b b' host call (refused n p of_columns r) t →
      types' ≡ types → columns' ≡ columns → Answers
  answers_refused laws h lived n p of_columns r did types_so columns_so = record {
    types_so = ap (map (type_told b')) types_so ∙ sym (ap (λ all. written_over all (map (type_told b') types)) (types_at laws h lived (refused n p of_columns r) did));
    columns_so = ap (map (column_told b')) columns_so ∙ sym (ap (λ all. written_over all (map (column_told b') columns)) (columns_at laws h lived (refused n p of_columns r) did));
  }
