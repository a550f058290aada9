use Rattle.std.proofs.Common.{◌+◌, refl, arith}
use Rattle.clearing.specs.Views.{kinds_of, situation}
use Rattle.history.proofs.Handling.{entered_first, entered_second, entered_third}
use Rattle.clearing.proofs.state.ClearingBox.enter.Goals as goal

pub returns-in-First : goal.returns-in-First
returns-in-First g c =
    let b = c.args.self.now in
    (refl, entered_first (kinds_of g.X.OrderList g.Y.OrderList g.W.OrderList) (g.N.Network.grid b.network) c.args.house (situation g.X.OrderList g.Y.OrderList g.W.OrderList b) (g.X.OrderList.entries b.book.first) (g.Y.OrderList.entries b.book.second) (g.W.OrderList.entries b.book.third) c.args.wish c.zones-zones.result (c.standing_kwh-second.result + c.standing_kwh-third.result) c.zones-zones.ensures c.enter_into.result c.in-First.wish c.in-First.is (omega arith) (g.X.OrderList.entries c.enter_into.new.list) c.enter_into.ensures)

pub returns-in-Second : goal.returns-in-Second
returns-in-Second g c =
    let b = c.args.self.now in
    (refl, entered_second (kinds_of g.X.OrderList g.Y.OrderList g.W.OrderList) (g.N.Network.grid b.network) c.args.house (situation g.X.OrderList g.Y.OrderList g.W.OrderList b) (g.X.OrderList.entries b.book.first) (g.Y.OrderList.entries b.book.second) (g.W.OrderList.entries b.book.third) c.args.wish c.zones-zones.result (c.standing_kwh-first.result + c.standing_kwh-third.result) c.zones-zones.ensures c.enter_into-in-Second.result c.in-Second.wish c.in-Second.is (omega arith) (g.Y.OrderList.entries c.enter_into-in-Second.new.list) c.enter_into-in-Second.ensures)

pub returns-in-Third : goal.returns-in-Third
returns-in-Third g c =
    let b = c.args.self.now in
    (refl, entered_third (kinds_of g.X.OrderList g.Y.OrderList g.W.OrderList) (g.N.Network.grid b.network) c.args.house (situation g.X.OrderList g.Y.OrderList g.W.OrderList b) (g.X.OrderList.entries b.book.first) (g.Y.OrderList.entries b.book.second) (g.W.OrderList.entries b.book.third) c.args.wish c.zones-zones.result (c.standing_kwh-first.result + c.standing_kwh-second.result) c.zones-zones.ensures c.enter_into-in-Third.result c.in-Third.wish c.in-Third.is (omega arith) (g.W.OrderList.entries c.enter_into-in-Third.new.list) c.enter_into-in-Third.ensures)
