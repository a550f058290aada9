use Rattle.std.proofs.Common.{refl}
use Rattle.std.proofs.lemmas.Result.{err_from_is_err_and}
use Rattle.ground.proofs.begin_layers.Goals as goal

pub returns-in_err-layers_over-in-Growing : goal.returns-in_err-layers_over-in-Growing
returns-in_err-layers_over-in-Growing c =
    let p = err_from_is_err_and c.from_residual.result c.from_residual.ensures.1 in
    rw (p.1, p.2, c.in-Growing.is) (c.in_err-layers_over-in-Growing.ensures.0, c.in_err-layers_over-in-Growing.ensures.1, refl)

pub returns-in_err-layers_over-in-Tabled : goal.returns-in_err-layers_over-in-Tabled
returns-in_err-layers_over-in-Tabled c =
    let p = err_from_is_err_and c.from_residual-in_err-layers_over-in-Tabled.result c.from_residual-in_err-layers_over-in-Tabled.ensures.1 in
    rw (p.1, p.2, c.in-Tabled.is) (c.in_err-layers_over-in-Tabled.ensures.0, c.in_err-layers_over-in-Tabled.ensures.1, refl)

pub returns-in_ok-layers_over-in-Growing : goal.returns-in_ok-layers_over-in-Growing
returns-in_ok-layers_over-in-Growing c = rw c.in-Growing.is (c.in_ok-layers_over-in-Growing.field-0, c.in_ok-layers_over-in-Growing.ensures, refl)

pub returns-in_ok-layers_over-in-Tabled : goal.returns-in_ok-layers_over-in-Tabled
returns-in_ok-layers_over-in-Tabled c = rw c.in-Tabled.is (c.in_ok-layers_over-in-Tabled.field-0, c.in_ok-layers_over-in-Tabled.ensures, refl)
