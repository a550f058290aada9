use Rattle.std.proofs.Common.{◌≤◌, refl, subst}
use Rattle.history.proofs.Calling.{stranger_outcome}
use Rattle.clearing.specs.Views.{kinds_of, situation}
use Rattle.clearing.proofs.Carrying.{carried}
use Rattle.clearing.proofs.state.ClearingBox.call.Goals as goal

pub returns-in_err-house : goal.returns-in_err-house
returns-in_err-house g c =
    let b = c.args.self.now in
    let h = c.in_err-house.ensures in
    let out = stranger_outcome (kinds_of g.X.OrderList g.Y.OrderList g.W.OrderList) (g.N.Network.grid b.network) c.args.call (situation g.X.OrderList g.Y.OrderList g.W.OrderList b) c.in_err-house.field-0.0 c.from_residual.result (subst (λ i. 2 ≤ i) c.house.ensures h.1) h.0 c.from_residual.ensures.1 in
    record { outcome = (refl, out); history = carried g.N.Network g.X.OrderList g.Y.OrderList g.W.OrderList c.args.call b b c.from_residual.result (refl, out) }

pub returns : goal.returns
returns g c =
    record { outcome = c.handle.ensures; history = carried g.N.Network g.X.OrderList g.Y.OrderList g.W.OrderList c.args.call c.args.self.now c.handle.new.self c.handle.result c.handle.ensures }
