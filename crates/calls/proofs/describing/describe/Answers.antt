use Rattle.book.specs.Book.{held_of}
use Rattle.calls.proofs.Lives.{describes}
use Rattle.calls.proofs.describing.describe.Goals as goal

pub returns-clause-lives : goal.returns-clause-lives
returns-clause-lives c h d catalog laws l m = describes h d catalog (held_of c.args.book.now) c.args.oid.0 laws l m
