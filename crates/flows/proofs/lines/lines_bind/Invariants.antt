use Rattle.std.proofs.Common.{ℕ, ◌<◌}
use Rattle.auction.specs.Limits.{Binds}
use Rattle.auction.specs.Grids.{limit_at}
use Rattle.sheets.specs.Proposals.{prices_of}
use Rattle.flows.specs.Flows.{array_flow}
use Rattle.flows.proofs.lines.lines_bind.Given as goal

abbrev pub invariant-loop-line : goal.invariant-loop-line
invariant-loop-line g l = (k : ℕ) → k < l.line → Binds (limit_at (g.N.Network.grid l.network) k) ((prices_of l.sheet).shadow k) (array_flow (g.N.Network.grid l.network) l.nets k)
