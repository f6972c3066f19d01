use Rattle.std.proofs.Common.{rules, ◌≡◌, ◌^◌, sym, ◌∙◌}
use Rattle.script.specs.Numbers.{number_below}
use Rattle.script.proofs.Behind.{behind_run, behind_end, number_behind}
use Rattle.script.proofs.numbers.unsigned.Goals as goal

pub returns : goal.returns
returns c =
    let h = c.try_fold.ensures.ran in
    let run = behind_run _ (2 ^ 32) (λ p x q k. search rules) h.0 c.iter.result h.4.0 _ _ h.4.1 h.5 (search rules) in
    let end = behind_end (2 ^ 32) h.3 h.4.0 c.try_fold.new.self h.1 c.try_fold.result run.1 (λ x k. search rules) h.4.2 h.6 in
    let below : number_below (2 ^ 32) c.args.word.now ≡ number_behind (2 ^ 32) 0 c.iter.result.rest.now = search rules in
    sym (below ∙ run.0 ∙ end)
