-- What is printed of a type with all that it holds, byte by byte.
-- Assumes nothing.
use Rattle.std.specs.Prelude.{ℕ, ◌+◌, Bool, false, not, List, [], ◌∷◌, ◌++◌, drop, replicate, slice_get, nat_eq, Some, None, codes, Option, if◌then◌else◌}
use Rattle.std.specs.List.{flat_map, list_any}
use Rattle.book.specs.Settled.{attributes_of_head, labels_of_head, tree_told}
use Rattle.catalog.specs.Shape.{Name, Head, simple, pseudo, domain, array, range, enumeration, composite}
use Rattle.script.specs.Names.{shown as shown_name}
use Rattle.unfolding.specs.Unfolding.{Tree, built, node, Trees, none, more}
use Rattle.transcript.specs.Types.{head_known_text}

-- an answer so far, and the OIDs of the types that it shows whole
pub record Laid : Type 0 where
  pub text : List ℕ
  pub shown : List ℕ

abbrev pub add : List ℕ → Laid → Laid
add bytes l = record l { text = l.text ++ bytes }

abbrev pub spaces : ℕ → List ℕ
spaces n = replicate n 32

-- of a type that holds others or labels its OID, where it is not built in
abbrev pub holder_of_head : ℕ → Head → Option ℕ
holder_of_head o simple = None
holder_of_head o pseudo = None
holder_of_head o domain = Some o
holder_of_head o array = Some o
holder_of_head o range = Some o
holder_of_head o (enumeration labels) = Some o
holder_of_head o (composite names) = Some o

abbrev pub holder : Tree → Option ℕ
holder (built o) = None
holder (node o name head ts) = holder_of_head o head

-- it is shown whole once
abbrev pub is_shown : ℕ → Laid → Bool
is_shown o l = list_any (λ p. nat_eq p o) l.shown

abbrev pub opens : Option ℕ → Laid → Bool
opens None l = false
opens (Some o) l = not (is_shown o l)

-- how the line of a head ends
abbrev pub ended : Option ℕ → Laid → Laid
ended None l = add (codes "\n") l
ended (Some o) l =
    if is_shown o l then add (codes " (above)\n") l
    else record { text = l.text ++ codes "\n"; shown = l.shown ++ o ∷ [] }

-- the line of a label
abbrev pub label_text : ℕ → Name → List ℕ
label_text margin n = spaces margin ++ (codes "label " ++ (shown_name n ++ codes "\n"))

abbrev pub labels_text : ℕ → List Name → List ℕ
labels_text margin ns = flat_map (label_text margin) ns

-- what stands before a component: the line of the attribute that it is the type of, if it is one's
abbrev pub opening : ℕ → Option Name → List ℕ
opening margin None = spaces margin
opening margin (Some n) = spaces margin ++ (codes "attribute " ++ (shown_name n ++ (codes "\n" ++ spaces (margin + 2))))

abbrev pub margin_behind : ℕ → Option Name → ℕ
margin_behind margin None = margin
margin_behind margin (Some n) = margin + 2

abbrev mutual
  -- a type, its head where the answer stands, and what it holds within a margin wider by two
  pub tree_laid : ℕ → Tree → Laid → Laid
  tree_laid margin (built o) l = ended None (add (head_known_text (tree_told (built o))) l)
  tree_laid margin (node o name head ts) l =
      let headed = add (head_known_text (tree_told (node o name head ts))) l in
      let line = ended (holder_of_head o head) headed in
      if opens (holder_of_head o head) headed
      then parts_laid (margin + 2) (attributes_of_head head) ts (add (labels_text (margin + 2) (labels_of_head head)) line)
      else line

  -- components, each with its attribute's name where there is one
  pub parts_laid : ℕ → List Name → Trees → Laid → Laid
  parts_laid margin ns none l = l
  parts_laid margin ns (more t ts) l =
      parts_laid margin (drop 1 ns) ts (tree_laid (margin_behind margin (slice_get ns 0)) t (add (opening margin (slice_get ns 0)) l))

abbrev pub describe_text : Option Tree → List ℕ
describe_text None = codes "describe: nothing\n"
describe_text (Some t) = (tree_laid 0 t (record { text = codes "describe: "; shown = [] })).text
