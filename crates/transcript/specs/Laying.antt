-- How an answer is laid by the code.
-- Assumes nothing.
use Rattle.std.specs.Prelude.{◌≡◌, ℕ, zero, suc, ◌≤◌, length, Some, None, Option}
use Rattle.book.specs.declared.settled.Settled.{Settled}
use Rattle.book.specs.declared.settled.TypeKind.{TypeKind}
use Rattle.book.specs.declared.settled.TypeKind.TheVariants as k
use Rattle.book.specs.Held.{Held}
use Rattle.book.specs.Settled.{TypeTold, labels_of_head, settled_told, settled_tree, tree_list, tree_told}
use Rattle.unfolding.specs.Unfolding.{Tree, built, node, Trees, none, more}
use Rattle.transcript.specs.declared.tree.Answer.{Answer}
use Rattle.transcript.specs.Describe.{Laid}

abbrev pub laid : Answer → Laid
laid a = record { text = a.text.items; shown = a.shown.items }

-- of a type that holds others or labels its OID
abbrev pub holder_of_kind : ℕ → TypeKind → Option ℕ
holder_of_kind o k.Simple = None
holder_of_kind o k.Pseudo = None
holder_of_kind o k.Domain = Some o
holder_of_kind o k.Array = Some o
holder_of_kind o k.Range = Some o
holder_of_kind o k.Enum = Some o
holder_of_kind o k.Composite = Some o

abbrev pub holder_told : TypeTold → Option ℕ
holder_told t = holder_of_kind t.oid t.kind

-- a settled type of a book is told as this tree
pub record Stands (h : Held) (settled : Settled) (t : Tree) : Type 0 where
  pub tree : settled_tree h settled ≡ Some t
  pub told : settled_told h settled ≡ tree_told t

abbrev mutual
  -- no type in it goes deeper than this, and none has more than 4096 labels or components
  pub Within : ℕ → Tree → Type 0
  Within depth (built o) = Unit {0}
  Within zero (node o name head ts) = ⊥
  Within (suc depth) (node o name head ts) =
      (length (labels_of_head head) ≤ 4096) × (length (tree_list ts) ≤ 4096) × AllWithin depth ts

  pub AllWithin : ℕ → Trees → Type 0
  AllWithin depth none = Unit {0}
  AllWithin depth (more t ts) = Within depth t × AllWithin depth ts

-- those behind the first so many
abbrev pub trees_behind : ℕ → Trees → Trees
trees_behind zero ts = ts
trees_behind (suc i) none = none
trees_behind (suc i) (more t ts) = trees_behind i ts
