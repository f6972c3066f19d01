-- One row read, or refused.
-- Assumes nothing.
use Rattle.std.proofs.Common.{◌≡◌, ℕ, suc, ◌-◌, ◌<◌, ◌≤◌, Bool, true, false, not, List, [], ◌∷◌, ◌++◌, length, is_some, nat_lt, if◌then◌else◌, slice_get, Some, None, Option, sym, refl, ap, ◌∙◌, arith}
use Rattle.std.specs.Option.{option_and_then}
use Rattle.std.proofs.lemmas.Bool.{and_from}
use Rattle.std.proofs.lemmas.Bool.Decides.{Decides-ltb}
use Rattle.std.proofs.lemmas.Option.{slice_get-get_or}
use Rattle.catalog.specs.Catalog.{Catalog, CatalogRow}
use Rattle.catalog.specs.Shape.{Shape, formed, shape}
use Rattle.life.specs.Walk.{stop, ask, is_ill, links_in, malformed}
use Rattle.life.proofs.Lists.{chosen_true, chosen_false}
use Rattle.finds.specs.declared.tables.Finds.{Finds}
use Rattle.finds.specs.Finds.{queue_of, rows_of, waits}
use Rattle.type_info.specs.declared.oid.Oid.{Oid}
use Rattle.faults.specs.declared.fill.FillFault.TheVariants.{Malformed}
use Rattle.resolve.specs.Rounds.{RowRead, RowRefused, with_all}
use Rattle.resolve.specs.Walks.{next_of}
use Rattle.resolve.proofs.Cut.{with_none}
use Rattle.resolve.proofs.Pushing.{few_queued}

-- what a catalog tells of an OID, by its row
no_row : (c : Catalog) (o : ℕ) → None ≡ c.rows o → (malformed c o ≡ false) × (None ≡ formed c o)
unfolding formed
no_row c o none = (sym (ap is_ill none), ap (option_and_then shape) none)

good_row : (c : Catalog) (o : ℕ) (r : CatalogRow) (s : Shape) → Some r ≡ c.rows o → Some s ≡ shape r → (malformed c o ≡ false) × (Some s ≡ formed c o)
unfolding formed
good_row c o r s row well = (sym (ap is_ill row) ∙ sym (ap (λ (x : Option Shape). not (is_some x)) well), well ∙ ap (option_and_then shape) row)

ill_row : (c : Catalog) (o : ℕ) (r : CatalogRow) → Some r ≡ c.rows o → None ≡ shape r → malformed c o ≡ true
ill_row c o r row ill = sym (ap is_ill row) ∙ sym (ap (λ (x : Option Shape). not (is_some x)) ill)

-- where one more may be asked for
pub ask_good : (c : Catalog) (left o : ℕ) (os : List ℕ) → malformed c o ≡ false → ask c (suc left) (o ∷ os) ≡ ask c left os
ask_good c left o os = chosen_false (malformed c o) _ _

ask_ill : (c : Catalog) (left o : ℕ) (os : List ℕ) → malformed c o ≡ true → ask c (suc left) (o ∷ os) ≡ stop 6 o
ask_ill c left o os = chosen_true (malformed c o) _ _

module _ (c : Catalog) (skip : ℕ → Bool) (most : ℕ) (f : Finds) (waiting : length (rows_of f) < length (queue_of f)) (top : most ≤ 256) (room : length (rows_of f) < most)
    (o : ℕ) (told : Some o ≡ slice_get (queue_of f) (length (rows_of f))) where
  is_next : o ≡ next_of f
  is_next = let e : Some o ≡ Some (next_of f) = told ∙ slice_get-get_or (queue_of f) (length (rows_of f)) 0 waiting in cc

  -- there is a place for the row, which is kept in g
  module _ (g : Finds) (put : Bool) (placed : put ≡ waits (queue_of f) (rows_of f)) (queue : queue_of g ≡ queue_of f) (row : Option CatalogRow) (is : row ≡ c.rows o)
      (rows : rows_of g ≡ (if put then rows_of f ++ row ∷ [] else rows_of f)) where
    row_kept : rows_of g ≡ rows_of f ++ c.rows (next_of f) ∷ []
    row_kept =
        let there : put ≡ true = placed ∙ and_from (nat_lt (length (rows_of f)) (length (queue_of f))) (nat_lt (length (rows_of f)) 256)
        ((Decides-ltb (length (rows_of f)) (length (queue_of f))).1 waiting) ((Decides-ltb (length (rows_of f)) 256).1 (omega arith)) in
        rows
        ∙ ap (λ (t : Bool). if t then rows_of f ++ row ∷ [] else rows_of f) there
        ∙ ap (λ r. rows_of f ++ r ∷ []) (is ∙ ap c.rows is_next)

    -- then the links of its shape are pushed, and it is h
    shaped_read : (s : Option Shape) (h : Finds) → (malformed c o ≡ false) × (s ≡ formed c o) → queue_of h ≡ with_all skip (queue_of g) (links_in s) → rows_of h ≡ rows_of g → RowRead c skip most f h
    shaped_read s h well pushed same = record {
      room = room;
      good = sym (ap (malformed c) is_next) ∙ well.0;
      queue = pushed ∙ (λ i. with_all skip (queue i) (links_in (well.1 i))) ∙ ap (λ p. with_all skip (queue_of f) (links_in (formed c p))) is_next;
      rows = same ∙ row_kept;
    }

    pub read_none : row ≡ None → RowRead c skip most f g
    read_none none = shaped_read None g (no_row c o (sym none ∙ is)) (sym (with_none skip (queue_of g) (few_queued g))) refl

    pub read_good : (r : CatalogRow) (s : Shape) (links : List ℕ) (h : Finds) → row ≡ Some r → Some s ≡ shape r → links ≡ s.links → queue_of h ≡ with_all skip (queue_of g) links →
        rows_of h ≡ rows_of g → RowRead c skip most f h
    read_good r s links h some well linked pushed = shaped_read (Some s) h (good_row c o r s (sym some ∙ is) well) (pushed ∙ ap (with_all skip (queue_of g)) linked)

  pub read_ill : (r : CatalogRow) (oid : Oid) (round : ℕ) → oid.0 ≡ o → Some r ≡ c.rows o → None ≡ shape r → RowRefused c most round f (Malformed oid round)
  read_ill r oid round same row ill = record {
    asked = λ os.
        let less : most - length (rows_of f) ≡ suc (most - suc (length (rows_of f))) = omega arith in
        ap (λ l. ask c l (next_of f ∷ os)) less
        ∙ ask_ill c (most - suc (length (rows_of f))) (next_of f) os (sym (ap (malformed c) is_next) ∙ ill_row c o r row ill)
        ∙ ap (stop 6) (sym is_next ∙ sym same);
    told = refl;
  }
