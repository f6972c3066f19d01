-- A row settled is a row settled in the words of the law.
-- Assumes nothing.
use Rattle.std.proofs.Common.{◌≡◌, ℕ, Bool, true, false, not, ◌&&◌, if◌then◌else◌, is_some, option_and_then, Some, None, Option, ⊎_elim, sym, refl, ap, ◌∙◌, subst}
use Rattle.std.specs.List.{list_all}
use Rattle.std.specs.Option.{option_map}
use Rattle.std.proofs.lemmas.Bool.{cases_Bool, or_from, or_right}
use Rattle.catalog.specs.Catalog.{Catalog, CatalogRow}
use Rattle.catalog.specs.Shape.{Shape, shape}
use Rattle.unfolding.specs.Unfolding.{Tree, built_in, node}
use Rattle.unfolding.proofs.Unfolding.{row-formed}
use Rattle.life.specs.Rounds.{Descriptors}
use Rattle.life.specs.Settle.{made, made_of, put_if, settle_one}
use Rattle.life.proofs.Lists.{chosen_false, chosen_true}
use Rattle.book.specs.Adding.{is_known, settles, settles_so, size_of_shape, with_row}
use Rattle.book.specs.Descriptions.{described_by}
use Rattle.book.specs.Held.{Held, has_room}
use Rattle.book.specs.Stands.{RoomForRow}
use Rattle.book.proofs.Described.{known_answered}
use Rattle.book.proofs.Gathered.{gather_unknown}
use Rattle.book.proofs.Rows.{row_stands}

module _ (h : Held) (o : ℕ) (r : CatalogRow) (c : Catalog) (there : c.rows o ≡ Some r) (apart : built_in o ≡ false) (room : RoomForRow h r) where
  abbrev b : Descriptors
  b = described_by h.descriptions

  abbrev Follows : Bool → Type 0
  Follows v = described_by (if v then with_row h o r else h).descriptions ≡ settle_one c b o

  made_so : (x : Option Shape) → shape r ≡ x → made c b o ≡ option_and_then (made_of b o) x
  made_so x e = ap (option_and_then (made_of b o)) (row-formed c o r there ∙ e)

  stays : settle_one c b o ≡ b → settles h o r ≡ false → Follows (settles h o r)
  stays same left = subst Follows (sym left) (sym same)

  known_stays : (x : Option Shape) → is_known h.descriptions o ≡ true → settles_so h o x ≡ false
  known_stays None e = refl
  known_stays (Some s) e = ap (λ v. not v && (list_all (is_known h.descriptions) s.links && has_room h (size_of_shape s))) e

  described_stays : is_some (b o) ≡ true → Follows (settles h o r)
  described_stays e =
      stays (chosen_true (is_some (b o)) b (put_if b o (made c b o)) e)
      (known_stays (shape r) (known_answered h.descriptions o ∙ or_right (built_in o) (is_some (b o)) e))

  module _ (e : is_some (b o) ≡ false) where
    fresh : is_known h.descriptions o ≡ false
    fresh = known_answered h.descriptions o ∙ or_from (built_in o) (is_some (b o)) apart e

    opened : (x : Option Tree) → made c b o ≡ x → settle_one c b o ≡ put_if b o x
    opened x m = chosen_false (is_some (b o)) b (put_if b o (made c b o)) e ∙ ap (put_if b o) m

    by_shape : (x : Option Shape) → shape r ≡ x → Follows (settles h o r)
    by_shape None y = stays (opened None (made_so None y)) (ap (settles_so h o) y)
    by_shape (Some s) y =
        ⊎_elim
        (λ k.
        let x = row_stands h o r s y fresh k in
        subst Follows (sym (ap (settles_so h o) y ∙ (λ i. not (fresh i) && (k i && room s y i))))
        (x.described ∙ sym (opened (Some x.tree) (made_so (Some s) y ∙ x.made))))
        (λ n.
        stays
        (opened None (made_so (Some s) y ∙ ap (option_map (node o s.name s.head)) (gather_unknown h.descriptions s.links n)))
        (ap (settles_so h o) y ∙ (λ i. not (fresh i) && (n i && has_room h (size_of_shape s)))))
        (cases_Bool (list_all (is_known h.descriptions) s.links))

  follows : Follows (settles h o r)
  follows = ⊎_elim described_stays (λ e. by_shape e (shape r) refl) (cases_Bool (is_some (b o)))

  pub settles_one : (v : Bool) → v ≡ settles h o r → (g : Held) → g ≡ (if v then with_row h o r else h) → described_by g.descriptions ≡ settle_one c b o
  settles_one v told g held = ap (λ (x : Held). described_by x.descriptions) held ∙ subst Follows (sym told) follows
