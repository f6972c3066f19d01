-- Where no table lacks room, all of them fit with what is added.
-- Assumes nothing.
use Rattle.std.proofs.Common.{◌≡◌, Bool, false, is_some, Some, None, Option, sym, ap, ◌∙◌, arith}
use Rattle.std.specs.Option.{option_map}
use Rattle.room.specs.Sizes.{Sizes, first_full}
use Rattle.room.proofs.Fitting.{first_full_law}
use Rattle.book.specs.declared.sizes.BookTable.{BookTable}
use Rattle.book.specs.declared.sizes.Sizes.{Sizes as CodeSizes}
use Rattle.book.specs.Held.{Fits, sum_of}
use Rattle.book.specs.Sizes.{position_of, sizes_told}

pub fits_then : (capacity taken added : Sizes) → first_full capacity taken added ≡ None → Fits (sum_of taken added) capacity
fits_then capacity taken added e =
    let all = (first_full_law capacity taken added).1.0 e in
    record {
      descriptors = all 0 (omega arith);
      parts = all 1 (omega arith);
      names = all 2 (omega arith);
      arrays = all 3 (omega arith);
      text = all 4 (omega arith);
      columns = all 5 (omega arith);
      relations = all 6 (omega arith);
    }

pub room_told :
    (capacity taken more : Sizes) (added : CodeSizes) (r : Option BookTable) (t : Bool) →
    sizes_told added ≡ more → option_map position_of r ≡ first_full capacity taken (sizes_told added) → t ≡ is_some r → t ≡ false → Fits (sum_of taken more) capacity
room_told capacity taken more added None t same told some none = fits_then capacity taken more (ap (first_full capacity taken) (sym same) ∙ sym told)
room_told capacity taken more added (Some table) t same told some none = absurd cc
