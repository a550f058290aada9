use Rattle.stream.proofs.Spelled.{spelled_stands}
use Rattle.stream.proofs.lengths.letters_stand.Goals as goal

pub returns : goal.returns
returns c = spelled_stands
