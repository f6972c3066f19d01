-- Which lines need a book, and how they are counted.
-- Assumes nothing.
use Rattle.std.specs.Prelude.{◌≡◌, ◌⊎◌, ℕ, Bool, true, false, not, ◌&&◌, List, [], ◌∷◌}
use Rattle.std.specs.Option.{is_some}
use Rattle.lines.specs.Verbs.{step_read}
use Rattle.script.specs.Words.{words}
use Rattle.session.specs.Run.{Run, one_more}

-- by its words
abbrev pub is_step : List (List ℕ) → Bool
is_step [] = false
is_step (verb ∷ ws) = is_some (step_read verb)

-- none of these lines asks a step
abbrev pub no_steps : List (List ℕ) → Bool
no_steps [] = true
no_steps (line ∷ ls) = not (is_step (words line)) && no_steps ls

-- a step that was echoed is answered, or it is a call that was refused, or it is not understood
abbrev pub StepEnded : Run → Run → Type 0
StepEnded before after =
    (after.read ≡ before.read) × (after.echoed ≡ before.echoed)
    × (((after.refused ≡ before.refused) × (after.misread ≡ before.misread))
    ⊎ ((after.refused ≡ one_more before.refused) × (after.misread ≡ before.misread))
    ⊎ ((after.refused ≡ before.refused) × (after.misread ≡ one_more before.misread)))
