use Rattle.room.proofs.Fitting.{capacity_law, first_full_law, sum_law}
use Rattle.room.proofs.sizes.sizes_stand.Goals as goal

pub returns : goal.returns
returns c = record { first_full = first_full_law; sums = sum_law; capacities = capacity_law }
