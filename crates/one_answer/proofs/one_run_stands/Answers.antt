use Rattle.one_answer.proofs.Runs.{one_run}
use Rattle.one_answer.proofs.one_run_stands.Goals as goal

pub returns : goal.returns
returns g c grid = one_run g.K.ThreeKinds.kinds grid g.K.ThreeKinds.answerable
