use Rattle.one_answer.proofs.Answering.{one_right_answer}
use Rattle.one_answer.proofs.one_answer_stands.Goals as goal

pub returns : goal.returns
returns g c = one_right_answer g.K.ThreeKinds.kinds g.K.ThreeKinds.answerable
