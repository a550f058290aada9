use Rattle.sheets.specs.Proposals.{dispatch_of}
use Rattle.judgement.proofs.Running.{Running}
use Rattle.judgement.proofs.sums.sum_in.Given as goal

abbrev pub invariant-loop-number : goal.invariant-loop-number
invariant-loop-number g l = Running (g.L.OrderList.entries l.list) (dispatch_of l.sheet l.index) (g.M.Measure.term l.measure) (g.M.Measure.rate l.measure) l.number l.total
