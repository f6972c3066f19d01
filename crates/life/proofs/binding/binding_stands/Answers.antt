use Rattle.life.proofs.Bind.{bind_law, bind_nine_law, column_round_law, columns_law, questions_law}
use Rattle.life.proofs.binding.binding_stands.Goals as goal

pub returns : goal.returns
returns c = record { step = bind_law; columns = columns_law; questions = questions_law; column_round = column_round_law; nine = bind_nine_law }
