use Rattle.std.proofs.Common.{◌∙◌, ◌≡◌, arith, inl, subst, true, ⊎_elim}
use Rattle.std.specs.Vec.{vec_items}
use Rattle.desk.specs.Run.{no_steps}
use Rattle.script.specs.Words.{lines}
use Rattle.session.specs.Run.{run_of}
use Rattle.desk.proofs.Unstepped.{apart, to_come, to_do}
use Rattle.desk.proofs.steps.Desk.run.Goals as goal

pub loop-rest-preserved : goal.loop-rest-preserved
loop-rest-preserved c = (
  λ none.
      let was = c.loop-rest.invariant.0 none in
      let first = c.in-Some.ensures.first in
      let so = apart c.in-Some.line.now (lines c.in-Some.further.now) (subst (λ ls. no_steps ls ≡ true) first was.0) in
      let did = (c.in_ok-book.ensures.others so.0).1 in
      let laid = (c.in_ok-book.ensures.printed so.0).is in (
        so.1,
        to_come c.in-Some.line.now (lines c.in-Some.further.now) (lines c.loop-rest.rest.now) (run_of c.loop-rest.session) (run_of c.line.new.session) first did
            (vec_items c.loop-rest.out) (vec_items c.line.new.out) laid
            ∙ was.1,
        to_do c.in-Some.line.now (lines c.in-Some.further.now) (lines c.loop-rest.rest.now) (run_of c.loop-rest.session) (run_of c.line.new.session) first did ∙ was.2,
      ),
  ⊎_elim (λ x. inl (omega (arith, c.in-Some.ensures.shorter, x))) (λ x. inl (omega (arith, c.in-Some.ensures.shorter, x.0))) c.loop-rest.invariant.1,
)

pub returns-then-is_some-clause-prints : goal.returns-then-is_some-clause-prints
returns-then-is_some-clause-prints c none =
    let was = c.loop-rest.invariant.0 none in
    let first = c.in-Some.ensures.first in
    let so = apart c.in-Some.line.now (lines c.in-Some.further.now) (subst (λ ls. no_steps ls ≡ true) first was.0) in
    to_come c.in-Some.line.now (lines c.in-Some.further.now) (lines c.loop-rest.rest.now) (run_of c.loop-rest.session) (run_of c.line.new.session) first
    (c.in_ok-book.ensures.others so.0).1 (vec_items c.loop-rest.out) (vec_items c.line.new.out) (c.in_ok-book.ensures.printed so.0).is
    ∙ was.1
