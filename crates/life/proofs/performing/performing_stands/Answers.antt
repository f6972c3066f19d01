use Rattle.life.proofs.Run.{perform_law, rounds_law, run_law}
use Rattle.life.proofs.performing.performing_stands.Goals as goal

pub returns : goal.returns
returns c = record { lives = perform_law; rounds = rounds_law; run = run_law }
