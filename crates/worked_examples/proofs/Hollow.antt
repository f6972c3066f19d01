-- No hollow body is what is said.
-- Assumes nothing.
use Rattle.std.proofs.Common.{◌≡◌, ℕ, zero, suc, ◌≤◌, false, List, [], ◌∷◌, Some, None, codes, sym, refl, ◌∙◌, subst, inl, inr, ⊎_elim, arith}
use Rattle.std.proofs.lemmas.Option.{none-some, same_Some}
use Rattle.catalog.specs.Shape.{Name, Shape, domain, enumeration, formed, shape}
use Rattle.life.specs.HostCalls.{host_fill, RefusedEarly}
use Rattle.life.specs.Life.{Lawful}
use Rattle.life.specs.Outcomes.{Unresolved, RefusedAtFirst}
use Rattle.life.specs.Rounds.{Layer, Stands}
use Rattle.life.specs.Steps.{Book, empty_book, accepted, refused, Step}
use Rattle.type_info.specs.Table.{types, entries}
use Rattle.unfolding.specs.Lists.{Mem}
use Rattle.unfolding.specs.Unfolding.{Tree, built, node, none, Link, Unfolds, itself}
use Rattle.worked_examples.specs.Cards.{prices}
use Rattle.worked_examples.specs.Hollow.{fill_of, free_fill, HollowLaw}
use Rattle.worked_examples.specs.Steps.{hue}

abbrev hue_shape : Shape
hue_shape = record { name = codes "hue"; head = enumeration (codes "red" ∷ []); links = [] }

hue_formed : formed (prices 64) 50004 ≡ Some hue_shape
unfolding formed shape
hue_formed = refl

hue_unfolds : Unfolds (prices 64) 50004 hue
unfolding types entries
hue_unfolds = (hue_shape, hue_formed, refl, refl, refl, refl, tt)

price_links : Link (prices 64) 50001 50003
unfolding formed shape
price_links = (record { name = codes "price"; head = domain; links = 50003 ∷ [] }, refl, inl refl)

hue_stands : Layer (prices 64) empty_book.descriptors (50004 ∷ []) 0 50004
unfolding types entries
hue_stands = (inl refl, (refl, refl))

price_stands : Layer (prices 64) empty_book.descriptors (50001 ∷ []) 0 50001
unfolding types entries
price_stands = (inl refl, (refl, refl))

edge_stands : Layer (prices 64) empty_book.descriptors (50001 ∷ []) 1 50003
unfolding types entries
edge_stands = ((50001, price_stands, price_links), (refl, refl), λ x. x, λ x. ⊎_elim (λ e. absurd (omega (arith, e))) (λ y. y) x.0)

only : (o : ℕ) → Mem o (50004 ∷ []) → o ≡ 50004
only o = ⊎_elim (λ e. e) (λ x. absurd x)

hue_leads_nowhere : (o : ℕ) → Link (prices 64) 50004 o → ⊥
hue_leads_nowhere o l = let same : hue_shape ≡ l.0 = same_Some hue_shape l.0 (sym hue_formed ∙ l.1) in subst (λ (s : Shape). Mem o s.links) (sym same) l.2

nothing_behind : (k o : ℕ) → Layer (prices 64) empty_book.descriptors (50004 ∷ []) (suc k) o → ⊥
nothing_behind zero o x = hue_leads_nowhere o (subst (λ p. Link (prices 64) p o) (only x.0.0 x.0.1.0) x.0.2)
nothing_behind (suc k) o x = nothing_behind k x.0.0 x.0.1

only_round_one : (k o : ℕ) → Stands (prices 64) empty_book.descriptors (50004 ∷ []) k o → k ≡ 1
only_round_one zero o x = absurd x
only_round_one (suc zero) o x = refl
only_round_one (suc (suc k)) o x = absurd (nothing_behind k o x)

its_own : (t : Tree) (o p : ℕ) → Unfolds (prices 64) o t → Unfolds (prices 64) p t → o ≡ p
its_own (built q) o p x y = x.0 ∙ sym y.0
its_own (node q n h ts) o p x y = x.3 ∙ sym y.3

keeps_nothing : Step (fill_of 50004 (accepted 1 0)) empty_book empty_book → ⊥
keeps_nothing s = none-some hue ((s.descriptors refl 50004 hue).1 (inr ((1, hue_stands), hue_unfolds)))

answers_nothing : Lawful (fill_of 50004 (accepted 1 0) ∷ []) (prices 63) empty_book → ⊥
unfolding types entries
answers_nothing l = let x = (l.answers 50004).1 (inr (inl (refl, (50004, inl refl, itself refl), (hue, hue_unfolds)))) in none-some x.0 x.1

nameless : (b : Book) → ((n : Name) → b.names n ≡ None) → Step (fill_of 50004 (accepted 1 0)) empty_book b → ⊥
nameless b lacks s =
    let known : b.descriptors 50004 ≡ Some hue = (s.descriptors refl 50004 hue).1 (inr ((1, hue_stands), hue_unfolds)) in
    none-some 50004 (sym (lacks (codes "hue")) ∙ (s.names refl (codes "hue") 50004).1 (inr (inl (enumeration (codes "red" ∷ []), none, known))))

one_for_all : (t : Tree) (b : Book) → ((o : ℕ) → b.descriptors o ≡ Some t) → Step (fill_of 50004 (accepted 1 0)) empty_book b → ⊥
one_for_all t b all s = absurd (omega (arith, its_own t 50004 1 (unfolds 50004) (unfolds 1)))
  where
    unfolds : (o : ℕ) → Unfolds (prices 64) o t
    unfolds o = ⊎_elim (λ e. absurd (none-some t e)) (λ x. x.1) ((s.descriptors refl o t).0 (all o))

stops_short : (b : Book) → Step (fill_of 50001 (accepted 1 0)) empty_book b → ⊥
stops_short b s = let two : 2 ≤ 1 = (s.counts 1 refl).0 2 (inr (50003, edge_stands)) in omega (arith, two)

made_up : (n : ℕ) (b : Book) → (n ≡ 1 → ⊥) → Step (fill_of 50004 (accepted n 0)) empty_book b → ⊥
made_up n b other s =
    let l = s.counts n refl in
    let one : 1 ≤ n = l.0 1 (inr (50004, hue_stands)) in
    ⊎_elim (λ e. absurd (omega (arith, e, one))) (⊎_elim (λ x. other x.0) (λ x. other (only_round_one n x.0 x.1))) l.1

free_rounds : (b : Book) → Step (free_fill 50004 (accepted 1 0)) empty_book b → ⊥
free_rounds b s = absurd (omega (arith, s.lowers))

always_nine : (place rounds : ℕ) → RefusedAtFirst (refused 9 place false rounds) 9 rounds (Unresolved (prices 64)) (50004 ∷ []) → ⊥
always_nine place rounds r =
    let x = r.if_any.0 (place, refl) in x.2.1 (hue, subst (λ o. Unfolds (prices 64) o hue) (sym (only x.0 x.1)) hue_unfolds)

always_early : (host : List ℕ) (number place : ℕ) → RefusedEarly host (host_fill (50004 ∷ [])) number place → ⊥
always_early host number place =
    ⊎_elim
    (λ x. ⊎_elim (λ y. absurd (omega (arith, y.1))) (λ y. y.1) x.1)
    (⊎_elim
    (λ x. ⊎_elim (λ y. none-some y.1.0 y.1.1) (λ y. y.1) x.2)
    (λ x. ⊎_elim (λ y. none-some y.1.0 y.1.1) (λ y. y.1) x.3))

pub hollow_law : HollowLaw
hollow_law = record {
  keeps_nothing = keeps_nothing;
  answers_nothing = answers_nothing;
  nameless = nameless;
  one_for_all = one_for_all;
  stops_short = stops_short;
  made_up = made_up;
  free_rounds = free_rounds;
  always_nine = always_nine;
  always_early = always_early;
}
