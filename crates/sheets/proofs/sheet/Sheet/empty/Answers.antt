use Rattle.std.proofs.Common.{refl}
use Rattle.sheets.proofs.Places.{zeros, zeros_small, nothing_filled, as_wide}
use Rattle.sheets.proofs.sheet.Sheet.empty.Goals as goal

pub invariant_of-result : goal.invariant_of-result
invariant_of-result c = record { three = refl; wide = as_wide; shadows = refl; bounded = zeros_small 60 }

pub returns : goal.returns
returns c = (nothing_filled, (refl, zeros 60))
