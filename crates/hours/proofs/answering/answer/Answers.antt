use Rattle.std.proofs.Common.{◌≡◌, Some, None, Err, subst, rules}
use Rattle.auction.specs.declared.Refusal.TheVariants.{NotNow}
use Rattle.hours.specs.Calls.{call_of}
use Rattle.hours.specs.Answering.{AnswersOne}
use Rattle.hours.proofs.Heeding.{makes_call, makes_none}
use Rattle.hours.proofs.answering.answer.Goals as goal

pub returns-in_err-call : goal.returns-in_err-call
returns-in_err-call g c =
    let none : None ≡ call_of c.args.command.now = search rules in
    let is : Err NotNow ≡ c.from_residual.result = search rules in
    subst (λ a. AnswersOne g.N.Network g.X.OrderList g.Y.OrderList g.W.OrderList c.args.command.now c.args.clearing.now a c.args.clearing.now) is (makes_none g.N.Network g.X.OrderList g.Y.OrderList g.W.OrderList c.args.command.now c.args.clearing.now none)

pub returns : goal.returns
returns g c =
    let some : Some c.in_ok-call.call ≡ call_of c.args.command.now = search rules in
    makes_call g.N.Network g.X.OrderList g.Y.OrderList g.W.OrderList c.args.command.now c.args.clearing.now c.call.new.self c.call.result c.in_ok-call.call some c.call.ensures.outcome
