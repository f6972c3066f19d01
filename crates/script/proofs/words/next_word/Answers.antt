use Rattle.std.proofs.Common.{◌≡◌, ℕ, ◌-◌, ◌<◌, List, length, get_or, take, drop, sym, ap, ◌∙◌, arith, rules}
use Rattle.std.proofs.lemmas.List.{at_drop_all, take_rest, places}
use Rattle.script.specs.Words.{words}
use Rattle.script.proofs.Lines.{past-spaces, first-word}
use Rattle.script.proofs.words.next_word.Goals as goal

pub returns-in_err-start-clause-first : goal.returns-in_err-start-clause-first
returns-in_err-start-clause-first c =
    let line = c.args.line.now in
    rw c.from_residual.ensures (past-spaces line (length line) (search rules) ∙ at_drop_all words line (length line) (omega arith))

pub returns : goal.returns
returns c =
    let rest : List ℕ = take (length c.args.line.now - c.in_ok-start.start) (drop c.in_ok-start.start c.args.line.now) in
    let some : 0 < length rest = search (rules, places) in
    let none : get_or rest 0 0 ≡ 32 → ⊥ = search (rules, places) in
    let word : 0 < c.unwrap_or-end.result = search rules in
    record {
      first =
          past-spaces c.args.line.now c.in_ok-start.start (search rules)
          ∙ ap words (sym (take_rest c.args.line.now c.in_ok-start.start))
          ∙ first-word rest c.unwrap_or-end.result word (search rules) (search rules) (search rules)
          ∙ rw (c.split_at.ensures.front, c.split_at.ensures.back);
      shorter = search (rules, places);
    }
