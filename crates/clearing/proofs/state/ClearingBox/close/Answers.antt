use Rattle.std.proofs.Common.{refl, ap}
use Rattle.ledger.specs.Pages.{page}
use Rattle.steps.proofs.Ledgers.{closed_so, not_closed}
use Rattle.clearing.proofs.state.ClearingBox.close.Goals as goal

pub returns-in_err-close : goal.returns-in_err-close
returns-in_err-close g c =
    let b = c.args.self.now in
    let h = c.in_err-close.ensures in
    (refl, not_closed g.X.OrderList g.Y.OrderList g.W.OrderList (g.N.Network.grid b.network) c.args.house b.book b.sheets (page b.ledger) (page c.close.new.self) c.in_err-close.field-0.0 c.from_residual.result c.from_residual.ensures.1 h.0 (ap page h.1))

pub returns : goal.returns
returns g c =
    let b = c.args.self.now in
    let h = c.in_ok-close.ensures in
    (refl, closed_so g.X.OrderList g.Y.OrderList g.W.OrderList (g.N.Network.grid b.network) c.args.house b.book b.sheets (page b.ledger) (page c.close.new.self) h.2 h.3)
