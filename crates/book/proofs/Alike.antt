-- Which other tables a book stands for.
-- Assumes nothing.
use Rattle.std.proofs.Common.{◌≡◌, nat_eq, sym, ◌∙◌}
use Rattle.room.specs.Added as added
use Rattle.room.specs.Order.{Alike}
use Rattle.room.specs.Tables.{Tables, contents, look_up}
use Rattle.room.proofs.Order.{same_related}
use Rattle.room.proofs.Permuted.{held_alike}
use Rattle.book.specs.Held.{Held, book_held}
use Rattle.book.specs.Stands.{Stands}

module _ (h : Held) (t u : Tables) (s : Stands h t) where
  pub stands_alike : Stands h u → Alike t u
  stands_alike r = record { book = s.book ∙ sym r.book; sizes = s.sizes ∙ sym r.sizes }

  pub alike_stands : Alike t u → look_up nat_eq t.relations ≡ look_up nat_eq u.relations → Stands h u
  alike_stands a e = record { book = sym a.book ∙ s.book; relations = sym e ∙ s.relations; sizes = sym a.sizes ∙ s.sizes }

  -- those that hold each key once and have its contents, in any order
  pub stands_held : added.Held t → added.Held u → contents u ≡ book_held h → Stands h u
  stands_held ht hu e =
      let same : contents t ≡ contents u = s.book ∙ sym e in
      alike_stands (held_alike t u ht hu same) (same_related t u ht hu same)
