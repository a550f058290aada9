use Rattle.std.proofs.Common.{ℕ, ◌<◌}
use Rattle.auction.specs.Limits.{WithinLimit}
use Rattle.auction.specs.Grids.{limit_at}
use Rattle.flows.specs.Flows.{array_flow}
use Rattle.flows.proofs.lines.lines_within_limits.Given as goal

abbrev pub invariant-loop-line : goal.invariant-loop-line
invariant-loop-line g l = (k : ℕ) → k < l.line → WithinLimit (limit_at (g.N.Network.grid l.network) k) (array_flow (g.N.Network.grid l.network) l.nets k)
