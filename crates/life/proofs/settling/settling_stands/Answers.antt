use Rattle.life.proofs.InTurn.{any_order_law, in_turn_law}
use Rattle.life.proofs.settling.settling_stands.Goals as goal

pub returns : goal.returns
returns c = record { any_order = any_order_law; in_turn = in_turn_law }
