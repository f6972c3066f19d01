use Rattle.room.proofs.Asked.{asked_room_law}
use Rattle.room.proofs.Order.{order_law}
use Rattle.room.proofs.Room.{columns_place_law, eight_law, room_law}
use Rattle.room.proofs.limits.limited_lives_stand.Goals as goal

pub returns : goal.returns
returns c = record { lives = room_law; eight = eight_law; columns_place = columns_place_law; asked = asked_room_law; order = order_law }
