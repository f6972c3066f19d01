-- The steps of a list that is read one by one.
-- Assumes nothing.
use Rattle.std.proofs.Common.{◌≡◌, ℕ, false, List, [], ◌∷◌, ◌++◌, None, Ok, Err, codes, Result, refl, ◌∙◌, append_assoc}
use Rattle.std.specs.Str.{bytes_eq}
use Rattle.keys.specs.declared.span.Span.{Span}
use Rattle.offers.specs.declared.offer.OfferedAttribute.{OfferedAttribute}
use Rattle.requests.specs.declared.asked.FieldAsked.{FieldAsked}
use Rattle.requests.specs.declared.asked.TypeAsked.{TypeAsked}
use Rattle.script.specs.Words.{only_of}
use Rattle.transcript.specs.declared.answers.Reason.{Reason}
use Rattle.transcript.specs.declared.answers.Reason.TheVariants.{WordCount}
use Rattle.lines.specs.Additions.{column_line}
use Rattle.lines.specs.Host.{name_placed}
use Rattle.lines.specs.Reading.{oid_read, onward}
use Rattle.lines.specs.Rows.{attributes_placed, labels_placed}
use Rattle.lines.specs.Steps.{field_placed, fields_placed}

-- three words with none or more than one behind them
pub column_other : (r n t : List ℕ) (ws : List (List ℕ)) → only_of ws ≡ None → column_line (r ∷ (n ∷ (t ∷ ws))) ≡ Err WordCount
column_other r n t [] e = refl
column_other r n t (w ∷ []) e = cc
column_other r n t (w ∷ (v ∷ ws)) e = refl

-- what is read of labels, with others before them
abbrev pub with_labels : List Span → List ℕ × List Span × List (List ℕ) → Result (List ℕ × List Span × List (List ℕ)) Reason
with_labels before l = Ok (l.0, before ++ l.1, l.2)

before_labels : (before : List Span) (x : Span) (r : Result (List ℕ × List Span × List (List ℕ)) Reason) →
    onward (onward r (with_labels (x ∷ []))) (with_labels before) ≡ onward r (with_labels (before ++ x ∷ []))
before_labels before x (Ok l) = rw append_assoc
before_labels before x (Err why) = refl

-- one label more
pub label_more :
    (whole : Result (List ℕ × List Span × List (List ℕ)) Reason) (host word further : List ℕ) (ws rest : List (List ℕ)) (before after : List Span) (x : Span) →
    whole ≡ onward (labels_placed host ws) (with_labels before) → ws ≡ word ∷ rest → bytes_eq word (codes "attributes") ≡ false →
    name_placed host word ≡ Ok (further, x) → after ≡ before ++ x ∷ [] → whole ≡ onward (labels_placed further rest) (with_labels after)
label_more whole host word further ws rest before after x so_far first other placed push =
    so_far ∙ rw (first, other, placed, push) (before_labels before x (labels_placed further rest))

-- the same of attributes
abbrev pub with_attributes : List OfferedAttribute → List ℕ × List OfferedAttribute → Result (List ℕ × List OfferedAttribute) Reason
with_attributes before a = Ok (a.0, before ++ a.1)

before_attributes : (before : List OfferedAttribute) (x : OfferedAttribute) (r : Result (List ℕ × List OfferedAttribute) Reason) →
    onward (onward r (with_attributes (x ∷ []))) (with_attributes before) ≡ onward r (with_attributes (before ++ x ∷ []))
before_attributes before x (Ok a) = rw append_assoc
before_attributes before x (Err why) = refl

pub attribute_more :
    (whole : Result (List ℕ × List OfferedAttribute) Reason) (host name oid further : List ℕ) (ws rest : List (List ℕ)) (before after : List OfferedAttribute)
    (x : OfferedAttribute) → whole ≡ onward (attributes_placed host ws) (with_attributes before) → ws ≡ name ∷ (oid ∷ rest) →
    name_placed host name ≡ Ok (further, x.name) → oid_read oid ≡ Ok x.oid → after ≡ before ++ x ∷ [] →
    whole ≡ onward (attributes_placed further rest) (with_attributes after)
attribute_more whole host name oid further ws rest before after x so_far first placed read push =
    so_far ∙ rw (first, placed, read, push) (before_attributes before x (attributes_placed further rest))

-- the same of numbers
abbrev pub with_numbers : List ℕ → List ℕ × List (List ℕ) → List ℕ × List (List ℕ)
with_numbers before p = (before ++ p.0, p.1)

-- of entries
abbrev pub with_entries : List TypeAsked → List ℕ × List TypeAsked → Result (List ℕ × List TypeAsked) Reason
with_entries before e = Ok (e.0, before ++ e.1)

-- of fields
abbrev pub with_fields : List FieldAsked → List ℕ × List FieldAsked → Result (List ℕ × List FieldAsked) Reason
with_fields before f = Ok (f.0, before ++ f.1)

before_fields : (before : List FieldAsked) (x : FieldAsked) (r : Result (List ℕ × List FieldAsked) Reason) →
    onward (onward r (with_fields (x ∷ []))) (with_fields before) ≡ onward r (with_fields (before ++ x ∷ []))
before_fields before x (Ok f) = rw append_assoc
before_fields before x (Err why) = refl

pub field_more :
    (whole : Result (List ℕ × List FieldAsked) Reason) (host name oid relation attribute further : List ℕ) (ws rest : List (List ℕ))
    (before after : List FieldAsked) (x : FieldAsked) → whole ≡ onward (fields_placed host ws) (with_fields before) →
    ws ≡ name ∷ (oid ∷ (relation ∷ (attribute ∷ rest))) → field_placed host name oid relation attribute ≡ Ok (further, x) →
    after ≡ before ++ x ∷ [] → whole ≡ onward (fields_placed further rest) (with_fields after)
field_more whole host name oid relation attribute further ws rest before after x so_far first placed push =
    so_far ∙ rw (first, placed, push) (before_fields before x (fields_placed further rest))
