use Rattle.std.proofs.Common.{◌∙◌}
use Rattle.auction.specs.declared.Broken.TheVariants.{Quantity}
use Rattle.orders.specs.Books.{book_of}
use Rattle.sheets.specs.Proposals.{dispatch_of, prices_of}
use Rattle.judgement.proofs.Ties.{amount_tie}
use Rattle.judgement.proofs.judging.judge.Goals as goal

-- an accepted sheet's orders take what is possible for them
pub accounts-requires : goal.accounts-requires
accounts-requires g c = λ l n. c.in_ok-prices.ensures.0 (Quantity l n)

pub returns : goal.returns
returns g c =
    let book = book_of (g.X.OrderList.entries c.args.first.now) (g.Y.OrderList.entries c.args.second.now) (g.W.OrderList.entries c.args.third.now) in
    let tie = amount_tie (g.N.Network.grid c.args.network.now) (prices_of c.args.sheet.now) c.in_ok-prices.prices (g.met.N.Network.fewzones c.args.network.now) c.in_ok-prices.ensures.1 book (dispatch_of c.args.sheet.now) in
    let told = c.accounts.ensures in
    (c.in_ok-prices.ensures.0, told.welfare, told.rent, told.zero ∙ tie 0, told.one ∙ tie 1)
