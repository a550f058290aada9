use Rattle.std.proofs.Common.{ap, ◌∙◌}
use Rattle.ledger.specs.Pages.{page}
use Rattle.orders.specs.Books.{booked}
use Rattle.clearing.specs.Views.{kinds_of}
use Rattle.steps.proofs.Opening.{opened_so}
use Rattle.clearing.proofs.state.ClearingBox.open.Goals as goal

pub returns : goal.returns
returns g c =
    let b = c.clear.new.self in
    record {
      network = c.clear.ensures.kept.0;
      history = opened_so (kinds_of g.X.OrderList g.Y.OrderList g.W.OrderList) (g.N.Network.grid b.network) (booked g.X.OrderList g.Y.OrderList g.W.OrderList b.book) b.sheets (page b.ledger)
          c.clear.ensures.orders c.clear.ensures.sheets (ap page c.clear.ensures.kept.1 ∙ c.opening.ensures);
    }
