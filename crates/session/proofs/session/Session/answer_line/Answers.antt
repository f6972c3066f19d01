use Rattle.std.proofs.Common.{refl}
use Rattle.script.specs.Words.{words}
use Rattle.session.specs.Catalogs.{held_by}
use Rattle.session.specs.Lines.{reply}
use Rattle.session.specs.Run.{run_of}
use Rattle.session.proofs.session.Session.answer_line.Goals as goal
use Rattle.session.proofs.Answered.{prints, counts}

pub returns-clause-prints : goal.returns-clause-prints
returns-clause-prints c = prints (reply (held_by c.args.self.now.catalogs) c.args.verb.now (words c.args.rest.now))
    c.args.out.now.items c.answer-answered.new.out.items c.end.new.out.items (held_by c.args.self.now.catalogs) (held_by c.answer-answered.new.self)
    c.args.self.now.read c.answer-answered.result c.end.result c.answer-answered.ensures c.end.ensures.prints

pub returns-clause-counts : goal.returns-clause-counts
returns-clause-counts c = counts (reply (held_by c.args.self.now.catalogs) c.args.verb.now (words c.args.rest.now))
    c.args.out.now.items c.answer-answered.new.out.items c.end.new.out.items (held_by c.args.self.now.catalogs) (held_by c.answer-answered.new.self)
    c.args.self.now.read (run_of c.args.self.now) (run_of c.end.new.self) c.answer-answered.result c.end.result
    refl c.answer-answered.ensures c.end.ensures.prints c.end.ensures.counts
