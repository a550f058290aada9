use Rattle.std.proofs.lemmas.Result.{err_from_is_err_and}
use Rattle.ground.proofs.layers_over.Goals as goal

pub returns-in_err-lay : goal.returns-in_err-lay
returns-in_err-lay g c =
    let p = err_from_is_err_and c.from_residual.result c.from_residual.ensures.1 in
    rw (p.1, p.2) (c.lay.new.self, (c.over-layered.result, c.over-layered.ensures, c.in_err-lay.ensures))
