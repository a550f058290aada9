use Rattle.std.proofs.Common.{refl}
use Rattle.ledger.specs.Pages.{page}
use Rattle.steps.proofs.Judging.{tried_so, not_tried}
use Rattle.clearing.proofs.state.ClearingBox.try_sheet.Goals as goal

pub returns-in_err-verdict : goal.returns-in_err-verdict
returns-in_err-verdict g c =
    let b = c.args.self.now in
    (refl, not_tried g.X.OrderList g.Y.OrderList g.W.OrderList (g.N.Network.grid b.network) c.args.house b.book b.sheets (page b.ledger) (page c.judged.new.ledger) c.in_err-verdict.field-0.0 c.of-sheet.result.now c.from_residual.result c.from_residual.ensures.1 (c.of-sheet.ensures, c.in_err-verdict.ensures))

pub returns : goal.returns
returns g c =
    let b = c.args.self.now in
    (refl, tried_so g.X.OrderList g.Y.OrderList g.W.OrderList (g.N.Network.grid b.network) c.args.house b.book b.sheets (page b.ledger) (page c.judged.new.ledger) c.in_ok-verdict.verdict c.of-sheet.result.now c.accepted.result c.accepted.ensures (c.of-sheet.ensures, c.in_ok-verdict.ensures))
