use Rattle.std.proofs.Common.{refl, arith}
use Rattle.std.proofs.lemmas.Bool.Decides.{not_from_Decides}
use Rattle.flows.proofs.lines.lines_within_limits.Goals as goal

pub returns-then-not-within_limit : goal.returns-then-not-within_limit
returns-then-not-within_limit g c = (c.loop-line.line, refl, (omega arith, c.loop-line.invariant, not_from_Decides c.within_limit.result c.within_limit.ensures c.if-not-within_limit.true))
