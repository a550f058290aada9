use Rattle.std.proofs.Common.{◌≡◌, refl, rules}
use Rattle.history.specs.declared.calls.Call.TheVariants as Calls
use Rattle.history.specs.Events.{of_closed_hour}
use Rattle.clearing.specs.Views.{situation}
use Rattle.clearing.proofs.Carrying.{handled_so, not_now_so}
use Rattle.clearing.proofs.state.ClearingBox.handle.Goals as goal

pub returns-in-Open-Enter : goal.returns-in-Open-Enter
returns-in-Open-Enter g c = handled_so g.N.Network g.X.OrderList g.Y.OrderList g.W.OrderList c.args.house (λ i. Calls.Enter i c.in-Open-Enter.wish) c.args.call c.args.self.now c.enter.new.self c.enter.result c.in-Open-Enter.is-1 c.requires (λ i. refl) c.in-Open-Enter.ensures c.enter.ensures

pub returns-in-Open-Withdraw : goal.returns-in-Open-Withdraw
returns-in-Open-Withdraw g c = handled_so g.N.Network g.X.OrderList g.Y.OrderList g.W.OrderList c.args.house (λ i. Calls.Withdraw i c.in-Open-Withdraw.list c.in-Open-Withdraw.number) c.args.call c.args.self.now c.withdraw.new.self c.withdraw.result c.in-Open-Withdraw.is-1 c.requires (λ i. refl) c.in-Open-Withdraw.ensures c.withdraw.ensures

pub returns-in-Open-Close : goal.returns-in-Open-Close
returns-in-Open-Close g c = handled_so g.N.Network g.X.OrderList g.Y.OrderList g.W.OrderList c.args.house (λ i. Calls.Close i) c.args.call c.args.self.now c.close.new.self c.close.result c.in-Open-Close.is-1 c.requires (λ i. refl) c.in-Open-Close.ensures c.close.ensures

pub returns-in-Closed-Fill : goal.returns-in-Closed-Fill
returns-in-Closed-Fill g c = handled_so g.N.Network g.X.OrderList g.Y.OrderList g.W.OrderList c.args.house (λ i. Calls.Fill i c.in-Closed-Fill.filling) c.args.call c.args.self.now c.fill.new.self c.fill.result c.in-Closed-Fill.is-1 c.requires (λ i. refl) c.in-Closed-Fill.ensures c.fill.ensures

pub returns-in-Closed-Try : goal.returns-in-Closed-Try
returns-in-Closed-Try g c = handled_so g.N.Network g.X.OrderList g.Y.OrderList g.W.OrderList c.args.house (λ i. Calls.Try i) c.args.call c.args.self.now c.try_sheet.new.self c.try_sheet.result c.in-Closed-Try.is-1 c.requires (λ i. refl) c.in-Closed-Try.ensures c.try_sheet.ensures

pub returns-in-Closed-Settle : goal.returns-in-Closed-Settle
returns-in-Closed-Settle g c = handled_so g.N.Network g.X.OrderList g.Y.OrderList g.W.OrderList c.args.house (λ i. Calls.Settle i) c.args.call c.args.self.now c.settle.new.self c.settle.result c.in-Closed-Settle.is-1 c.requires (λ i. refl) c.in-Closed-Settle.ensures c.settle.ensures

pub returns-in-Closed-Void : goal.returns-in-Closed-Void
returns-in-Closed-Void g c = handled_so g.N.Network g.X.OrderList g.Y.OrderList g.W.OrderList c.args.house (λ i. Calls.Void i) c.args.call c.args.self.now c.void.new.self c.void.result c.in-Closed-Void.is-1 c.requires (λ i. refl) c.in-Closed-Void.ensures c.void.ensures

pub returns-in_default : goal.returns-in_default
returns-in_default g c =
    let not_now : of_closed_hour c.args.call ≡ (situation g.X.OrderList g.Y.OrderList g.W.OrderList c.args.self.now).closed → ⊥ = search rules in
    not_now_so g.N.Network g.X.OrderList g.Y.OrderList g.W.OrderList c.args.house c.args.call c.args.self.now c.requires not_now

pub returns-in_default-2 : goal.returns-in_default-2
returns-in_default-2 g c =
    let not_now : of_closed_hour c.args.call ≡ (situation g.X.OrderList g.Y.OrderList g.W.OrderList c.args.self.now).closed → ⊥ = search rules in
    not_now_so g.N.Network g.X.OrderList g.Y.OrderList g.W.OrderList c.args.house c.args.call c.args.self.now c.requires not_now
