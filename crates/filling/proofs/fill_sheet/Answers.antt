use Rattle.std.proofs.Common.{◌≡◌, sym, ap, ◌∙◌, w32, SFits, to_z, of_z, rules}
use Rattle.std.proofs.lemmas.Int.{to_z-of_z}
use Rattle.history.specs.declared.calls.Filling.{Filling}
use Rattle.history.specs.declared.calls.Filling.TheVariants.{Quantity, Lambda}
use Rattle.filling.proofs.fill_sheet.Goals as goal
use Rattle.filling.proofs.Cells.{quantity_filled, lambda_filled}

pub returns-in-Quantity : goal.returns-in-Quantity
returns-in-Quantity c =
    let is : c.args.filling ≡ Quantity c.from.result c.from-in-Quantity.result c.in-Quantity.kwh = cc in
    quantity_filled c.args.filling c.from.result c.from-in-Quantity.result c.in-Quantity.kwh is c.args.sheet.now c.fill_quantity.new.self c.fill_quantity.result c.fill_quantity.ensures

pub returns-in-Lambda : goal.returns-in-Lambda
returns-in-Lambda c =
    let fits : SFits w32 c.in-Lambda.lambda = search rules in
    let same = to_z-of_z w32 c.in-Lambda.lambda fits in
    lambda_filled c.args.filling (to_z w32 (of_z w32 c.in-Lambda.lambda)) (c.in-Lambda.is ∙ ap {B = Filling} Lambda (sym same)) c.args.sheet.now c.fill_lambda.new.self c.fill_lambda.result c.fill_lambda.ensures
