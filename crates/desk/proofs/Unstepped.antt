-- Lines that ask no step, one after the other.
-- Assumes nothing.
use Rattle.std.proofs.Common.{◌≡◌, ◌∙◌, ℕ, true, false, not, List, ◌∷◌, ◌++◌, append_assoc, sym, ap}
use Rattle.std.proofs.lemmas.Bool.{and_parts, not-true}
use Rattle.script.specs.Words.{words}
use Rattle.session.specs.Run.{Run, all_done, all_printed, done, printed}
use Rattle.desk.specs.Run.{is_step, no_steps}

pub apart : (line : List ℕ) (ls : List (List ℕ)) → no_steps (line ∷ ls) ≡ true → (is_step (words line) ≡ false) × (no_steps ls ≡ true)
apart line ls e = let p = and_parts (not (is_step (words line))) (no_steps ls) e in (not-true (is_step (words line)) p.0, p.1)

-- what is printed with what is to come, and what will have been done, once a line is carried out
module _ (line : List ℕ) (ls before : List (List ℕ)) (r r' : Run) (whole : before ≡ line ∷ ls) (did : r' ≡ done r (words line)) where
  pub to_come : (out out' : List ℕ) → out' ≡ out ++ printed r line → out' ++ all_printed r' ls ≡ out ++ all_printed r before
  to_come out out' laid =
      (λ i. laid i ++ all_printed (did i) ls)
      ∙ append_assoc out (printed r line) (all_printed (done r (words line)) ls)
      ∙ ap (λ x. out ++ all_printed r x) (sym whole)

  pub to_do : all_done r' ls ≡ all_done r before
  to_do = (λ i. all_done (did i) ls) ∙ ap (all_done r) (sym whole)
