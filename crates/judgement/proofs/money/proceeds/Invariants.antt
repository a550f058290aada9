use Rattle.orders.specs.Reads.{entry}
use Rattle.judgement.proofs.Paying.{Paid}
use Rattle.judgement.proofs.money.proceeds.Given as goal

abbrev pub invariant-loop-zone : goal.invariant-loop-zone
invariant-loop-zone g l = Paid l.prices (entry (g.L.OrderList.entries l.list) l.number).order l.quantity l.zone l.total
