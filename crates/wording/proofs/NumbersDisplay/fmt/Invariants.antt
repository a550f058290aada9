use Rattle.std.proofs.Common.{take, flat_map}
use Rattle.std.specs.Fmt.{HasWritten, IsPlainFormatter}
use Rattle.wording.specs.Texts.{after_blank}
use Rattle.wording.proofs.NumbersDisplay.fmt.Given as goal

-- the numbers up to here are written
abbrev pub invariant-loop-number : goal.invariant-loop-number
invariant-loop-number g l = IsPlainFormatter l.initial.f → HasWritten g.W.Write.write_str_gives l.initial.f (flat_map after_blank (take l.number-index l.number-items)) l.f
