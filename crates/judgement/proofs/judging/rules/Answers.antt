use Rattle.std.proofs.Common.{refl}
use Rattle.std.proofs.lemmas.Bool.Decides.{not_from_Decides}
use Rattle.std.proofs.lemmas.Result.{err_from_is_err_and}
use Rattle.orders.specs.Books.{lent}
use Rattle.sheets.specs.Proposals.{dispatch_of, prices_of}
use Rattle.judgement.proofs.Steps.{balance_broken, flow_broken, zone_price_broken, binding_broken, contentment_broken, none_broken}
use Rattle.judgement.proofs.judging.rules.Goals as goal

pub returns-then-not-in_balance : goal.returns-then-not-in_balance
returns-then-not-in_balance g c =
    let grid = g.N.Network.grid c.args.network.now in
    let book = lent g.X.OrderList g.Y.OrderList g.W.OrderList c.args.book.now in
    balance_broken grid book (dispatch_of c.args.sheet.now) (prices_of c.args.sheet.now) (g.met.N.Network.fewzones c.args.network.now) c.net_injections-nets.result c.net_injections-nets.ensures c.in_ok-quantities_possible.ensures (not_from_Decides c.in_balance.result c.in_balance.ensures c.if-not-in_balance.true)

pub returns-in_err-lines_within_limits : goal.returns-in_err-lines_within_limits
returns-in_err-lines_within_limits g c =
    let grid = g.N.Network.grid c.args.network.now in
    let book = lent g.X.OrderList g.Y.OrderList g.W.OrderList c.args.book.now in
    let exit = err_from_is_err_and c.from_residual-in_err-lines_within_limits.result c.from_residual-in_err-lines_within_limits.ensures.1 in
    rw (exit.1, exit.2) (flow_broken grid book (dispatch_of c.args.sheet.now) (prices_of c.args.sheet.now) (g.met.N.Network.fewzones c.args.network.now) c.net_injections-nets.result c.net_injections-nets.ensures c.in_ok-quantities_possible.ensures (c.if-not-in_balance.ensures.0 refl) c.in_err-lines_within_limits.field-0.0 c.in_err-lines_within_limits.ensures)

pub returns-in_err-prices : goal.returns-in_err-prices
returns-in_err-prices g c =
    let grid = g.N.Network.grid c.args.network.now in
    let book = lent g.X.OrderList g.Y.OrderList g.W.OrderList c.args.book.now in
    let exit = err_from_is_err_and c.from_residual-in_err-prices.result c.from_residual-in_err-prices.ensures.1 in
    rw (exit.1, exit.2) (zone_price_broken grid book (dispatch_of c.args.sheet.now) (prices_of c.args.sheet.now) (g.met.N.Network.fewzones c.args.network.now) c.net_injections-nets.result c.net_injections-nets.ensures c.in_ok-quantities_possible.ensures (c.if-not-in_balance.ensures.0 refl) c.in_ok-lines_within_limits.ensures c.in_err-prices.field-0.0 c.in_err-prices.ensures)

pub returns-in_err-lines_bind : goal.returns-in_err-lines_bind
returns-in_err-lines_bind g c =
    let grid = g.N.Network.grid c.args.network.now in
    let book = lent g.X.OrderList g.Y.OrderList g.W.OrderList c.args.book.now in
    let exit = err_from_is_err_and c.from_residual-in_err-lines_bind.result c.from_residual-in_err-lines_bind.ensures.1 in
    rw (exit.1, exit.2) (binding_broken grid book (dispatch_of c.args.sheet.now) (prices_of c.args.sheet.now) (g.met.N.Network.fewzones c.args.network.now) c.net_injections-nets.result c.net_injections-nets.ensures c.in_ok-quantities_possible.ensures (c.if-not-in_balance.ensures.0 refl) c.in_ok-lines_within_limits.ensures c.in_ok-prices.prices c.in_ok-prices.ensures c.in_err-lines_bind.field-0.0 c.in_err-lines_bind.ensures)

pub returns-in_err-orders_content : goal.returns-in_err-orders_content
returns-in_err-orders_content g c =
    let grid = g.N.Network.grid c.args.network.now in
    let book = lent g.X.OrderList g.Y.OrderList g.W.OrderList c.args.book.now in
    let exit = err_from_is_err_and c.from_residual-in_err-orders_content.result c.from_residual-in_err-orders_content.ensures.1 in
    rw (exit.1, exit.2) (contentment_broken grid book (dispatch_of c.args.sheet.now) (prices_of c.args.sheet.now) (g.met.N.Network.fewzones c.args.network.now) c.net_injections-nets.result c.net_injections-nets.ensures c.in_ok-quantities_possible.ensures (c.if-not-in_balance.ensures.0 refl) c.in_ok-lines_within_limits.ensures c.in_ok-prices.prices c.in_ok-prices.ensures c.in_ok-lines_bind.ensures c.in_err-orders_content.field-0.0 c.in_err-orders_content.ensures)

pub returns : goal.returns
returns g c =
    let grid = g.N.Network.grid c.args.network.now in
    let book = lent g.X.OrderList g.Y.OrderList g.W.OrderList c.args.book.now in
    none_broken grid book (dispatch_of c.args.sheet.now) (prices_of c.args.sheet.now) (g.met.N.Network.fewzones c.args.network.now) c.net_injections-nets.result c.net_injections-nets.ensures c.in_ok-quantities_possible.ensures (c.if-not-in_balance.ensures.0 refl) c.in_ok-lines_within_limits.ensures c.in_ok-prices.prices c.in_ok-prices.ensures c.in_ok-lines_bind.ensures c.in_ok-orders_content.ensures
