use Rattle.std.proofs.Common.{◌≡◌, length}
use Rattle.sheets.specs.Proposals.{dispatch_of}
use Rattle.orders.specs.Books.{lent}
use Rattle.judgement.specs.Verdicts.{Nets}
use Rattle.judgement.proofs.judging.net_injections.Given as goal

abbrev pub invariant-loop-zone : goal.invariant-loop-zone
invariant-loop-zone g l =
    Nets l.zone (lent g.X.OrderList g.Y.OrderList g.W.OrderList l.book) (dispatch_of l.sheet) l.nets × (length l.nets ≡ 24)
