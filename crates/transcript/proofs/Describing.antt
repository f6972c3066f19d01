-- Labels and components are laid one after the other.
-- Assumes nothing.
use Rattle.std.proofs.Common.{◌≡◌, ℕ, zero, suc, ◌+◌, ◌≤◌, true, if◌then◌else◌, List, [], ◌∷◌, length, drop, slice_get, Some, None, Ok, Err, Option, Result, IfOk, refl, sym, ap, ap₂, ◌∙◌, append_assoc, append-nil, add-one, subst}
use Rattle.std.specs.List.{zip}
use Rattle.std.specs.Option.{option_map}
use Rattle.std.proofs.lemmas.Option.{none-some, same_Some, slice_get_past}
use Rattle.std.specs.declared.alloc.AllocError.{AllocError}
use Rattle.catalog.specs.Shape.{Head, Name}
use Rattle.book.specs.declared.settled.Settled.{Settled}
use Rattle.book.specs.Held.{Held}
use Rattle.book.specs.Settled.{TypeTold, attributes_of_head, labels_of_head, tree_list, tree_told}
use Rattle.unfolding.specs.Unfolding.{Tree, built, node, Trees, none, more}
use Rattle.transcript.specs.Describe.{Laid, add, ended, holder, holder_of_head, label_text, labels_text, margin_behind, opening, opens, parts_laid, tree_laid}
use Rattle.transcript.specs.Laying.{AllWithin, Stands, Within, trees_behind}
use Rattle.transcript.specs.Types.{head_known_text}

module _ {A : Type 0} where
  pub drop-some : (xs : List A) (i : ℕ) (x : A) → slice_get xs i ≡ Some x → drop i xs ≡ x ∷ drop (suc i) xs
  drop-some [] i x e = absurd (none-some x e)
  drop-some (y ∷ xs) zero x e = ap (λ z. z ∷ xs) (same_Some y x e)
  drop-some (y ∷ xs) (suc i) x e = drop-some xs i x e

  pub drop-none : (xs : List A) (i : ℕ) → slice_get xs i ≡ None → drop i xs ≡ []
  drop-none [] zero e = refl
  drop-none [] (suc i) e = refl
  drop-none (y ∷ xs) zero e = absurd (none-some y (sym e))
  drop-none (y ∷ xs) (suc i) e = drop-none xs i e

  pub first-drop : (xs : List A) (i : ℕ) → slice_get (drop i xs) 0 ≡ slice_get xs i
  first-drop [] zero = refl
  first-drop [] (suc i) = refl
  first-drop (x ∷ xs) zero = refl
  first-drop (x ∷ xs) (suc i) = first-drop xs i

  pub rest-drop : (xs : List A) (i : ℕ) → drop 1 (drop i xs) ≡ drop (suc i) xs
  rest-drop [] zero = refl
  rest-drop [] (suc i) = refl
  rest-drop (x ∷ xs) zero = refl
  rest-drop (x ∷ xs) (suc i) = rest-drop xs i

pub add-nil : (l : Laid) → add [] l ≡ l
add-nil l = ap (λ t. record { text = t; shown = l.shown }) (append-nil l.text)

-- the next label, or none
pub label_next : (margin : ℕ) (ns : List Name) (i : ℕ) (n : Name) (l : Laid) → slice_get ns i ≡ Some n →
    add (labels_text margin (drop i ns)) l ≡ add (labels_text margin (drop (i + 1) ns)) (add (label_text margin n) l)
label_next margin ns i n l e =
    rw (add-one i)
    (ap (λ ms. add (labels_text margin ms) l) (drop-some ns i n e)
    ∙ ap (λ t. record { text = t; shown = l.shown }) (sym (append_assoc l.text (label_text margin n) (labels_text margin (drop (suc i) ns)))))

pub label_none : (margin : ℕ) (ns : List Name) (i : ℕ) (l : Laid) → slice_get ns i ≡ None → add (labels_text margin (drop i ns)) l ≡ l
label_none margin ns i l e = ap (λ ms. add (labels_text margin ms) l) (drop-none ns i e) ∙ add-nil l

pub behind-some : (ts : Trees) (i : ℕ) (t : Tree) → slice_get (tree_list ts) i ≡ Some t → trees_behind i ts ≡ more t (trees_behind (suc i) ts)
behind-some none i t e = absurd (none-some t e)
behind-some (more u ts) zero t e = ap (λ v. more v ts) (same_Some u t e)
behind-some (more u ts) (suc i) t e = behind-some ts i t e

pub behind-none : (ts : Trees) (i : ℕ) → slice_get (tree_list ts) i ≡ None → trees_behind i ts ≡ none
behind-none none zero e = refl
behind-none none (suc i) e = refl
behind-none (more u ts) zero e = absurd (none-some u (sym e))
behind-none (more u ts) (suc i) e = behind-none ts i e

pub behind-all : (ts : Trees) (i : ℕ) → length (tree_list ts) ≤ i → trees_behind i ts ≡ none
behind-all ts i l = behind-none ts i (slice_get_past (tree_list ts) i l)

-- the next component, or none
pub part_next : (margin : ℕ) (ns : List Name) (ts : Trees) (i : ℕ) (t : Tree) (l : Laid) → slice_get (tree_list ts) i ≡ Some t →
    parts_laid margin (drop i ns) (trees_behind i ts) l ≡
    parts_laid margin (drop (i + 1) ns) (trees_behind (i + 1) ts) (tree_laid (margin_behind margin (slice_get ns i)) t (add (opening margin (slice_get ns i)) l))
part_next margin ns ts i t l e =
    rw (add-one i)
    (ap (λ us. parts_laid margin (drop i ns) us l) (behind-some ts i t e)
    ∙ ap₂
    (λ ms n. parts_laid margin ms (trees_behind (suc i) ts) (tree_laid (margin_behind margin n) t (add (opening margin n) l)))
    (rest-drop ns i)
    (first-drop ns i))

pub part_none : (margin : ℕ) (ns : List Name) (ts : Trees) (i : ℕ) (l : Laid) → slice_get (tree_list ts) i ≡ None →
    parts_laid margin (drop i ns) (trees_behind i ts) l ≡ l
part_none margin ns ts i l e = ap (λ us. parts_laid margin (drop i ns) us l) (behind-none ts i e)

pub within_at : (depth : ℕ) (ts : Trees) (i : ℕ) (t : Tree) → AllWithin depth ts → slice_get (tree_list ts) i ≡ Some t → Within depth t
within_at depth none i t all e = absurd (none-some t e)
within_at depth (more u ts) zero t all e = subst (Within depth) (same_Some u t e) all.0
within_at depth (more u ts) (suc i) t all e = within_at depth ts i t all.1 e

-- the name of a component's attribute
pub name_at : (ns : List Name) (ts : List Tree) (i : ℕ) (t : Tree) → slice_get ts i ≡ Some t → option_map (λ a. a.0) (slice_get (zip ns ts) i) ≡ slice_get ns i
name_at ns [] i t e = absurd (none-some t e)
name_at [] (u ∷ ts) i t e = refl
name_at (n ∷ ns) (u ∷ ts) zero t e = refl
name_at (n ∷ ns) (u ∷ ts) (suc i) t e = name_at ns ts i t e

pub parts_end : (margin : ℕ) (ns : List Name) (ts : Trees) (i : ℕ) (l : Laid) → length (tree_list ts) ≤ i →
    parts_laid margin (drop i ns) (trees_behind i ts) l ≡ l
parts_end margin ns ts i l long = ap (λ us. parts_laid margin (drop i ns) us l) (behind-all ts i long)

-- what a book tells of the i-th component
pub told_none : (x : Option Tree) → None ≡ option_map (λ (t : Tree). Some t) x → x ≡ None
told_none None e = refl
told_none (Some t) e = absurd (none-some (Some t) e)

pub told_some : (x a : Option Tree) (b : Option TypeTold) → Some a ≡ option_map (λ (t : Tree). Some t) x → Some b ≡ option_map tree_told x →
    (t : Tree) × (x ≡ Some t) × (a ≡ Some t) × (b ≡ tree_told t)
told_some None a b e f = absurd (none-some a (sym e))
told_some (Some t) a b e f = (t, refl, same_Some a (Some t) e, same_Some b (tree_told t) f)

-- a type whose contents follow its line
pub whole : {h : Held} {s : Settled} (margin depth left : ℕ) (l m n : Laid) (r : Result (Unit {0}) AllocError) (t : Tree) →
    depth ≡ suc left → Stands h s t → Within depth t →
    true ≡ opens (holder t) (add (head_known_text (tree_told t)) l) →
    m ≡ ended (holder t) (add (head_known_text (tree_told t)) l) →
    ((o : ℕ) (name : Name) (head : Head) (ts : Trees) → Stands h s (node o name head ts) → Within (suc left) (node o name head ts) →
    IfOk r (λ done. n ≡ parts_laid (margin + 2) (attributes_of_head head) ts (add (labels_text (margin + 2) (labels_of_head head)) m))) →
    IfOk r (λ done. n ≡ tree_laid margin t l)
whole margin depth left l m n (Err e) t deep st w opened line holds = tt
whole margin depth left l m n (Ok u) (built o) deep st w opened line holds = cc
whole margin depth left l m n (Ok u) (node o name head ts) deep st w opened line holds =
    let headed : Laid = add (head_known_text (tree_told (node o name head ts))) l in
    let parts : Laid → Laid = λ x. parts_laid (margin + 2) (attributes_of_head head) ts (add (labels_text (margin + 2) (labels_of_head head)) x) in
    holds o name head ts st (subst (λ (d : ℕ). Within d (node o name head ts)) deep w)
    ∙ ap parts line
    ∙ ap
    (λ b. if b then parts (ended (holder_of_head o head) headed) else ended (holder_of_head o head) headed)
    opened
