-- The law of a book's life.
-- Assumes nothing.
use Rattle.std.proofs.Common.{◌≡◌, ℕ, true, false, ◌⊎◌, List, [], ◌∷◌, is_some, Some, None, Option, sym, refl, ap, ◌∙◌, subst, inl, inr, ⊎_elim}
use Rattle.std.proofs.lemmas.Bool.{cases_Bool}
use Rattle.catalog.specs.Catalog.{CatalogRow, Catalog, Laws, Grows}
use Rattle.catalog.specs.Shape.{Name, Head, Shape, formed}
use Rattle.unfolding.specs.Lists.{Mem}
use Rattle.unfolding.specs.Unfolding.{Tree, built, node, Trees, Link, built_in, Unfolds, HasUnfolding, Leads, itself, onward}
use Rattle.unfolding.proofs.Unfolding.{formed-row, formed-grows, unfolds-grows, link-has, shape-name}
use Rattle.life.specs.Calls.{array_link}
use Rattle.life.specs.Life.{Lived, Earlier, Counted, Agrees, LifetimeLaw}
use Rattle.life.specs.Rounds.{Descriptors, Described, Known, Unknown, StandsOnce}
use Rattle.life.specs.Steps.{Book, empty_book, answer, PrettyName, keeps_finds, Event, wanted, LedTo, KeepsDescriptors, Step}
use Rattle.life.proofs.Known.{cases_known, found_tells, Right, found_right}
use Rattle.life.proofs.Lists.{not_both, not_some_none, same_some, is_some_if}
use Rattle.life.proofs.Standing.{link_stands, stands_unknown, stands_led}

pub pretty_leads : (c : Catalog) → Laws c → (o : ℕ) (n : Name) (h : Head) (ts : Trees) → Unfolds c o (node o n h ts) → c.named n ≡ Some o
pretty_leads c laws o n h ts u =
    let r = formed-row c o u.0 u.1 in
    ap c.named (sym u.4 ∙ shape-name r.0 u.0 r.2) ∙ laws.pretty_leads o r.0 r.1

-- what always holds of the descriptors: they are unfoldings of OIDs not built in, and their links are known
pub record Sound (c : Catalog) (b : Descriptors) : Type 0 where
  pub right : Right c b
  pub apart : (o : ℕ) → Described b o → built_in o ≡ false
  pub closed : (o p : ℕ) → Described b o → Link c o p → Known b p

-- whatever a request leads to is known or stands
abbrev pub Met : Catalog → Descriptors → List ℕ → ℕ → Type 0
Met c b rs o = Known b o ⊎ StandsOnce c b rs o

pub met_unless : (c : Catalog) (b : Descriptors) (rs : List ℕ) (o : ℕ) → (Unknown b o → StandsOnce c b rs o) → Met c b rs o
met_unless c b rs o f = ⊎_elim (λ k. inl k) (λ u. inr (f u)) (cases_known b o)

pub met : (c : Catalog) (b : Descriptors) (rs : List ℕ) → Sound c b → (o : ℕ) → LedTo c rs o → Met c b rs o
met c b rs s o led = go o led.2
  where
    go : (o : ℕ) → Leads c led.0 o → Met c b rs o
    go o (itself e) = met_unless c b rs o (λ u. (1, (subst (λ x. Mem x rs) e led.1, u)))
    go o (onward p l nb k) =
        ⊎_elim
        (⊎_elim (λ y. absurd (not_both y nb)) (λ d. inl (s.closed p o d k)))
        (λ x. met_unless c b rs o (λ u. link_stands c b rs p o x k u))
        (go p l)

-- a descriptor's row is that of the catalog before it grew
row_was : (c d : Catalog) (o : ℕ) → Grows c d → built_in o ≡ false → (t : Tree) → Unfolds c o t →
    (r : CatalogRow) × (s : Shape) × (c.rows o ≡ Some r) × (d.rows o ≡ Some r) × (formed c o ≡ Some s) × (formed d o ≡ Some s)
row_was c d o g nb (built q) u = absurd (not_both u.1 nb)
row_was c d o g nb (node q n h ts) u =
    let r = formed-row c o u.0 u.1 in
    (r.0, u.0, r.1, g.rows_stay o r.0 r.1, u.1, formed-grows c d g o u.0 u.1)

sound_grows : (c d : Catalog) (b : Descriptors) → Grows c d → Sound c b → Sound d b
sound_grows c d b g s = record {
  right = λ o t e. unfolds-grows c d g o t (s.right o t e);
  apart = s.apart;
  closed = λ o p h l.
      let w = row_was c d o g (s.apart o h) h.0 (s.right o h.0 h.1) in
      s.closed o p h (w.1, w.4, subst (λ (x : Shape). Mem p x.links) (same_some l.1 w.5) l.2);
}

module _ (c : Catalog) (rs : List ℕ) (b b' : Descriptors) (s : Sound c b) (k : KeepsDescriptors c rs b b') where
  known_stays : (o : ℕ) → Known b o → Known b' o
  known_stays o = ⊎_elim (λ y. inl y) (λ d. inr (d.0, (k o d.0).1 (inl d.1)))

  met_known : (o : ℕ) → Met c b rs o → HasUnfolding c o → Known b' o
  met_known o m u = ⊎_elim (known_stays o) (λ x. inr (u.0, (k o u.0).1 (inr (x, u.1)))) m

  sound_keeps : Sound c b'
  sound_keeps = record {
    right = λ o t e. ⊎_elim (s.right o t) (λ x. x.1) ((k o t).0 e);
    apart = λ o d. ⊎_elim (λ e. s.apart o (d.0, e)) (λ x. (stands_unknown c b rs o x.0).0) ((k o d.0).0 d.1);
    closed = λ o p d l.
        ⊎_elim
        (λ e. known_stays p (s.closed o p (d.0, e) l))
        (λ x. met_known p (met_unless c b rs p (λ u. link_stands c b rs o p x.0 l u)) (link-has c o p d.0 (stands_unknown c b rs o x.0).0 x.1 l))
        ((k o d.0).0 d.1);
  }

-- what always holds of the book of a life
pub record Fit (c : Catalog) (b : Book) : Type 0 where
  pub sound : Sound c b.descriptors
  pub agrees : Agrees c b
  -- the pretty name and the array of what is described are held
  pub pretty_held : (n : Name) (o : ℕ) → PrettyName b n o → b.names n ≡ Some o
  pub array_held : (e a : ℕ) → Described b.descriptors e → array_link (c.rows e) ≡ Some a → b.arrays e ≡ Some a

fit_empty : (c : Catalog) → Fit c empty_book
fit_empty c = record {
  sound = record {
    right = λ o t e. absurd (not_some_none t e refl);
    apart = λ o d. absurd (not_some_none d.0 d.1 refl);
    closed = λ o p d l. absurd (not_some_none d.0 d.1 refl);
  };
  agrees = record {
    names = λ n o e. absurd (not_some_none o e refl);
    arrays = λ e a x. absurd (not_some_none a x refl);
    columns = λ r a k e. absurd (not_some_none k e refl);
  };
  pretty_held = λ n o x. absurd (not_some_none (node o n x.0 x.1) x.2 refl);
  array_held = λ e a d x. absurd (not_some_none d.0 d.1 refl);
}

fit_grows : (c d : Catalog) (b : Book) → Grows c d → Fit c b → Fit d b
fit_grows c d b g f = record {
  sound = sound_grows c d b.descriptors g f.sound;
  agrees = record {
    names = λ n o e. g.named_stay n o (f.agrees.names n o e);
    arrays = λ e a x. link_grows (c.rows e) e a refl (f.agrees.arrays e a x);
    columns = λ r a k e. g.columns_stay r a k (f.agrees.columns r a k e);
  };
  pretty_held = f.pretty_held;
  array_held = λ e a h x.
      let w = row_was c d e g (f.sound.apart e h) h.0 (f.sound.right e h.0 h.1) in
      f.array_held e a h (ap array_link (w.2 ∙ sym w.3) ∙ x);
}
  where
    link_grows : (x : Option CatalogRow) (e a : ℕ) → c.rows e ≡ x → array_link x ≡ Some a → array_link (d.rows e) ≡ Some a
    link_grows None e a z y = absurd (not_some_none a y refl)
    link_grows (Some r) e a z y = ap array_link (g.rows_stay e r z) ∙ y

-- of a step that keeps its finds
fit_keeps : (e : Event) (b after : Book) → Fit e.before b → Step e b after → keeps_finds e.ending ≡ true → Fit e.before after
fit_keeps e b after f s y =
    let k = s.descriptors y in
    let now = sound_keeps e.before (wanted e) b.descriptors after.descriptors f.sound k in
    record {
      sound = now;
      agrees = record {
        names = λ n o x.
            ⊎_elim
            (f.agrees.names n o)
            (⊎_elim (λ p. pretty_leads e.before s.laws o n p.0 p.1 (now.right o (node o n p.0 p.1) p.2)) (λ p. p.1))
            ((s.names y n o).0 x);
        arrays = λ q a x. ⊎_elim (f.agrees.arrays q a) (λ p. p.0) ((s.arrays y q a).0 x);
        columns = λ r a q x. ⊎_elim (f.agrees.columns r a q) (λ p. p.2) ((s.columns r a q).0 x);
      };
      pretty_held = λ n o x. (s.names y n o).1 (inr (inl x));
      array_held = λ q a d x.
          (s.arrays y q a).1
          (⊎_elim
          (λ z. inl (f.array_held q a (d.0, z) x))
          (λ z. inr (x, inr ((stands_unknown e.before b.descriptors (wanted e) q z.0).0, stands_led e.before b.descriptors (wanted e) q z.0)))
          ((k q d.0).0 d.1));
    }

fit_step : (e : Event) (b after : Book) → Fit e.before b → Step e b after → Fit e.before after
fit_step e b after f s = ⊎_elim (fit_keeps e b after f s) (λ n. subst (Fit e.before) (sym (s.leaves n)) f) (cases_Bool (keeps_finds e.ending))

pub fit : (h : List Event) (c : Catalog) (b : Book) → Lived h c b → Fit c b
fit [] c b l = subst (Fit c) (sym l) (fit_empty c)
fit (e ∷ h) c b l = fit_grows e.after c b l.3 (fit_grows e.before e.after b l.2.stays (fit_step e l.0 b (fit h e.before l.0 l.1) l.2))

pub agrees : (h : List Event) (c : Catalog) (b : Book) → Lived h c b → Agrees c b
agrees h c b l = (fit h c b l).agrees

-- what is described was led to earlier, and what was is known
described_earlier : (h : List Event) (c : Catalog) (b : Book) → Lived h c b → (o : ℕ) → Described b.descriptors o → Earlier h o
described_earlier [] c b l o d = absurd (not_some_none d.0 d.1 (ap (λ (x : Book). x.descriptors o) l))
described_earlier (e ∷ h) c b l o d =
    ⊎_elim
    (λ y.
    ⊎_elim
    (λ z. inr (described_earlier h e.before l.0 l.1 o (d.0, z)))
    (λ z. inl (y, stands_led e.before l.0.descriptors (wanted e) o z.0, (d.0, z.1)))
    ((l.2.descriptors y o d.0).0 d.1))
    (λ n. inr (described_earlier h e.before l.0 l.1 o (subst (λ (x : Book). Described x.descriptors o) (l.2.leaves n) d)))
    (cases_Bool (keeps_finds e.ending))

earlier_known : (h : List Event) (c : Catalog) (b : Book) → Lived h c b → (o : ℕ) → Earlier h o → Known b.descriptors o
earlier_known [] c b l o x = absurd x
earlier_known (e ∷ h) c b l o (inl x) =
    let s = (fit h e.before l.0 l.1).sound in
    met_known e.before (wanted e) l.0.descriptors b.descriptors s (l.2.descriptors x.0) o (met e.before l.0.descriptors (wanted e) s o x.1) x.2
earlier_known (e ∷ h) c b l o (inr x) =
    let was = earlier_known h e.before l.0 l.1 o x in
    ⊎_elim
    (λ y. known_stays e.before (wanted e) l.0.descriptors b.descriptors (fit h e.before l.0 l.1).sound (l.2.descriptors y) o was)
    (λ n. subst (λ (z : Book). Known z.descriptors o) (sym (l.2.leaves n)) was)
    (cases_Bool (keeps_finds e.ending))

counted : (h : List Event) (c : Catalog) (b : Book) (l : Lived h c b) → Counted h c b l
counted [] c b l = tt
counted (e ∷ h) c b l = (l.2.counts, l.2.lowers, counted h e.before l.0 l.1)

pub lifetime_law : LifetimeLaw
lifetime_law h c b l =
    let f = fit h c b l in (
      record {
        answers = λ o.
            let known = found_tells b.descriptors o in (
              λ x. ⊎_elim (λ y. inl y) (λ d. inr (described_earlier h c b l o d)) (known.0 (ap is_some x.1)),
              λ x. is_some_if (answer b o) (known.1 (⊎_elim (λ y. inl y) (earlier_known h c b l o) x)),
            );
        right = found_right c b.descriptors f.sound.right;
        agrees = f.agrees;
      },
      counted h c b l,
    )
