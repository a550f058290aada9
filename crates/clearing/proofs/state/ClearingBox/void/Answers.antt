use Rattle.std.proofs.Common.{ap, ◌∙◌}
use Rattle.ledger.specs.Pages.{page}
use Rattle.steps.proofs.Judging.{voided_so}
use Rattle.clearing.proofs.state.ClearingBox.void.Goals as goal

pub returns : goal.returns
returns g c =
    let b = c.args.self.now in
    let b' = c.clear.new.self in (
      c.clear.ensures.kept.0,
      voided_so g.X.OrderList g.Y.OrderList g.W.OrderList (g.N.Network.grid b.network) c.args.house b.book b'.book b.sheets b'.sheets (page b.ledger) (page b'.ledger)
          c.clear.ensures.orders c.clear.ensures.sheets (ap page c.clear.ensures.kept.1 ∙ c.start_anew.ensures),
    )
