use Rattle.std.proofs.Common.{refl, arith}
use Rattle.clearing.specs.Views.{kinds_of, situation}
use Rattle.history.proofs.Handling.{withdrawn_first, withdrawn_second, withdrawn_third, withdrawn_none}
use Rattle.clearing.proofs.state.ClearingBox.withdraw.Goals as goal

pub returns-in-0 : goal.returns-in-0
returns-in-0 g c =
    let b = c.args.self.now in
    (refl, withdrawn_first (kinds_of g.X.OrderList g.Y.OrderList g.W.OrderList) (g.N.Network.grid b.network) c.args.house (situation g.X.OrderList g.Y.OrderList g.W.OrderList b) (g.X.OrderList.entries b.book.first) (g.Y.OrderList.entries b.book.second) (g.W.OrderList.entries b.book.third) c.args.list c.args.number c.withdraw_from.result (g.X.OrderList.entries c.withdraw_from.new.list) (omega arith) c.withdraw_from.ensures)

pub returns-in-1 : goal.returns-in-1
returns-in-1 g c =
    let b = c.args.self.now in
    (refl, withdrawn_second (kinds_of g.X.OrderList g.Y.OrderList g.W.OrderList) (g.N.Network.grid b.network) c.args.house (situation g.X.OrderList g.Y.OrderList g.W.OrderList b) (g.X.OrderList.entries b.book.first) (g.Y.OrderList.entries b.book.second) (g.W.OrderList.entries b.book.third) c.args.list c.args.number c.withdraw_from-in-1.result (g.Y.OrderList.entries c.withdraw_from-in-1.new.list) (omega arith) c.withdraw_from-in-1.ensures)

pub returns-in-2 : goal.returns-in-2
returns-in-2 g c =
    let b = c.args.self.now in
    (refl, withdrawn_third (kinds_of g.X.OrderList g.Y.OrderList g.W.OrderList) (g.N.Network.grid b.network) c.args.house (situation g.X.OrderList g.Y.OrderList g.W.OrderList b) (g.X.OrderList.entries b.book.first) (g.Y.OrderList.entries b.book.second) (g.W.OrderList.entries b.book.third) c.args.list c.args.number c.withdraw_from-in-2.result (g.W.OrderList.entries c.withdraw_from-in-2.new.list) (omega arith) c.withdraw_from-in-2.ensures)

pub returns-in_default : goal.returns-in_default
returns-in_default g c =
    let b = c.args.self.now in
    (refl, withdrawn_none (kinds_of g.X.OrderList g.Y.OrderList g.W.OrderList) (g.N.Network.grid b.network) c.args.house (situation g.X.OrderList g.Y.OrderList g.W.OrderList b) (g.X.OrderList.entries b.book.first) (g.Y.OrderList.entries b.book.second) (g.W.OrderList.entries b.book.third) c.args.list c.args.number (λ e. omega arith) (λ e. omega arith) (λ e. omega arith))
