use Rattle.std.proofs.Common.{◌∙◌}
use Rattle.book.specs.Book.{held_of}
use Rattle.finds.specs.Columns.{columns_told}
use Rattle.finds.proofs.Counts.{columns_size}
use Rattle.finds.proofs.columns.columns_added.Goals as goal

pub returns-clause-added : goal.returns-clause-added
returns-clause-added c = λ k asked once same t s.
    c.count_columns.ensures ∙ columns_size (held_of c.args.book.now) t s k asked once (columns_told c.args.columns.now) same
