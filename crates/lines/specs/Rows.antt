-- The line that adds a row to the row table.
-- Assumes nothing.
use Rattle.std.specs.Prelude.{ℕ, if◌then◌else◌, List, [], ◌∷◌, Ok, Err, codes, Result}
use Rattle.std.specs.Str.{bytes_eq}
use Rattle.keys.specs.declared.span.Span.{Span}
use Rattle.offers.specs.Offered.{RowOffer, offer_of}
use Rattle.offers.specs.declared.offer.OfferedAttribute.{OfferedAttribute}
use Rattle.transcript.specs.declared.answers.Reason.{Reason}
use Rattle.transcript.specs.declared.answers.Reason.TheVariants.{WordCount}
use Rattle.lines.specs.Host.{name_placed}
use Rattle.lines.specs.Reading.{code_read, link_read, oid_read, onward}
use Rattle.lines.specs.declared.row.RowLine.{RowLine}

-- labels as far as the word `attributes`, laid in turn, and the words from that one on
abbrev pub labels_placed : List ℕ → List (List ℕ) → Result (List ℕ × List Span × List (List ℕ)) Reason
labels_placed host [] = Ok (host, [], [])
labels_placed host (w ∷ ws) =
    if bytes_eq w (codes "attributes") then Ok (host, [], w ∷ ws)
    else onward (name_placed host w) (λ p. onward (labels_placed p.0 ws) (λ l. Ok (l.0, p.1 ∷ l.1, l.2)))

-- `labels NAME..`, which may be left out
abbrev pub labels_read : List ℕ → List (List ℕ) → Result (List ℕ × List Span × List (List ℕ)) Reason
labels_read host [] = Ok (host, [], [])
labels_read host (w ∷ ws) = if bytes_eq w (codes "labels") then labels_placed host ws else Ok (host, [], w ∷ ws)

-- attributes, each a name, which is laid in turn, and an OID
abbrev pub attributes_placed : List ℕ → List (List ℕ) → Result (List ℕ × List OfferedAttribute) Reason
attributes_placed host [] = Ok (host, [])
attributes_placed host (name ∷ []) = Err WordCount
attributes_placed host (name ∷ (oid ∷ ws)) =
    onward (name_placed host name) (λ p.
    onward (oid_read oid) (λ o.
    onward (attributes_placed p.0 ws) (λ a.
    Ok (a.0, record { name = p.1; oid = o } ∷ a.1))))

-- `attributes (NAME OID)..`, which may be left out
abbrev pub attributes_read : List ℕ → List (List ℕ) → Result (List ℕ × List OfferedAttribute) Reason
attributes_read host [] = Ok (host, [])
attributes_read host (w ∷ ws) = if bytes_eq w (codes "attributes") then attributes_placed host ws else Err WordCount

-- the row that a line offers, and with it the line's host text
abbrev pub row_of : RowLine → RowOffer
row_of line = record (offer_of line.row) { labels = line.labels.items; attributes = line.attributes.items }

abbrev pub row_offered : RowLine → List ℕ × RowOffer
row_offered line = (line.host.items, row_of line)

-- `row OID PRETTY TYPTYPE TYPCATEGORY TYPELEM TYPBASETYPE RNGSUBTYPE TYPARRAY [labels NAME..] [attributes (NAME OID)..]`
abbrev pub row_line : List (List ℕ) → Result (List ℕ × RowOffer) Reason
row_line (oid ∷ (pretty ∷ (typtype ∷ (typcategory ∷ (typelem ∷ (typbasetype ∷ (rngsubtype ∷ (typarray ∷ lists)))))))) =
    onward (oid_read oid) (λ o.
    onward (name_placed [] pretty) (λ p.
    onward (code_read typtype) (λ t.
    onward (code_read typcategory) (λ c.
    onward (link_read typelem) (λ e.
    onward (link_read typbasetype) (λ b.
    onward (link_read rngsubtype) (λ r.
    onward (link_read typarray) (λ y.
    onward (labels_read p.0 lists) (λ l.
    onward (attributes_read l.0 l.2) (λ a.
    Ok (
      a.0,
      record {
        oid = o;
        pretty = p.1;
        typtype = t;
        typcategory = c;
        typelem = e;
        typbasetype = b;
        rngsubtype = r;
        typarray = y;
        labels = l.1;
        attributes = a.1;
      },
    )))))))))))
row_line others = Err WordCount
