-- One piece printed behind another.
-- Assumes nothing.
use Rattle.std.proofs.Common.{◌≡◌, ℕ, List, ◌++◌, ap, ◌∙◌, subst, append_assoc}
use Rattle.transcript.specs.Appends.{Behind}

pub then : {x y z a b : List ℕ} → Behind x a y → Behind y b z → Behind x (a ++ b) z
then {x = x} {a = a} {b = b} first second =
    record { is = second.is ∙ ap (λ (s : List ℕ). s ++ b) first.is ∙ append_assoc x a b }

pub same : {x y a b : List ℕ} → a ≡ b → Behind x a y → Behind x b y
same {x = x} {y = y} e p = subst (λ (t : List ℕ). Behind x t y) e p
