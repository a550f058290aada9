use Rattle.std.proofs.lemmas.Result.{err_from_is_err_and}
use Rattle.sheets.specs.Proposals.{dispatch_of}
use Rattle.places.proofs.Threes.{of_first, of_second, of_third}
use Rattle.places.proofs.places.first_of.Goals as goal

pub returns-in_err-first_in : goal.returns-in_err-first_in
returns-in_err-first_in g c =
    let exit = err_from_is_err_and c.from_residual.result c.from_residual.ensures.1 in
    rw (exit.1, exit.2) (of_first (g.X.OrderList.entries c.args.book.now.first.now) (g.Y.OrderList.entries c.args.book.now.second.now) (g.W.OrderList.entries c.args.book.now.third.now) (dispatch_of c.args.sheet.now) (g.R.Rule.asks c.args.rule.now) (g.R.Rule.named c.args.rule.now) c.in_err-first_in.field-0.0 c.in_err-first_in.ensures)

pub returns-in_err-first_in-2 : goal.returns-in_err-first_in-2
returns-in_err-first_in-2 g c =
    let exit = err_from_is_err_and c.from_residual-in_err-first_in-2.result c.from_residual-in_err-first_in-2.ensures.1 in
    rw (exit.1, exit.2) (of_second (g.X.OrderList.entries c.args.book.now.first.now) (g.Y.OrderList.entries c.args.book.now.second.now) (g.W.OrderList.entries c.args.book.now.third.now) (dispatch_of c.args.sheet.now) (g.R.Rule.asks c.args.rule.now) (g.R.Rule.named c.args.rule.now) c.in_ok-first_in.ensures c.in_err-first_in-2.field-0.0 c.in_err-first_in-2.ensures)

pub returns : goal.returns
returns g c = of_third (g.X.OrderList.entries c.args.book.now.first.now) (g.Y.OrderList.entries c.args.book.now.second.now) (g.W.OrderList.entries c.args.book.now.third.now) (dispatch_of c.args.sheet.now) (g.R.Rule.asks c.args.rule.now) (g.R.Rule.named c.args.rule.now) c.in_ok-first_in.ensures c.in_ok-first_in-2.ensures c.first_in-3.result c.first_in-3.ensures
