use Rattle.std.proofs.Common.{refl, arith}
use Rattle.std.proofs.lemmas.Bool.Decides.{not_from_Decides}
use Rattle.flows.proofs.lines.lines_bind.Goals as goal

pub returns-then-not-binds : goal.returns-then-not-binds
returns-then-not-binds g c = (c.loop-line.line, refl, (omega arith, c.loop-line.invariant, not_from_Decides c.binds.result c.binds.ensures c.if-not-binds.true))
