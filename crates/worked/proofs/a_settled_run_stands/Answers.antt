use Rattle.worked.proofs.Settling.{settled_run}
use Rattle.worked.proofs.a_settled_run_stands.Goals as goal

pub returns : goal.returns
returns c = settled_run
