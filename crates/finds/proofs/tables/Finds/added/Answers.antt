use Rattle.std.proofs.Common.{◌∙◌, subst, sym}
use Rattle.book.specs.Book.{held_of}
use Rattle.book.specs.Held.{sum_of}
use Rattle.finds.specs.Keeping.{SettledBy}
use Rattle.life.specs.Steps.{Book}
use Rattle.finds.proofs.Landed.{size_added}
use Rattle.finds.proofs.tables.Finds.added.Goals as goal

pub returns-clause-added : goal.returns-clause-added
returns-clause-added c = λ k laws from settled t s call none.
    c.plus.ensures
    ∙ (λ i. sum_of (c.settled_sizes.ensures.size i) (c.array_sizes.ensures.size i))
    ∙ size_added k laws c.args.self.now from t (subst (λ (b : Book). SettledBy k b.descriptors c.args.self.now) (sym s.book) settled) (held_of c.args.book.now) s call none
