-- Not `using`: with `groups` named on `decode`, its return stays open.
use Rattle.decoding.proofs.Groups.{groups}
use Rattle.decoding.proofs.decode.Goals as goal

pub returns : goal.returns
returns c = groups c.args.item.now.letter c.args.item.now.operands.now c.network_command.result c.hour_command.result c.sheet_command.result c.or.result c.or-2.result c.network_command.ensures c.hour_command.ensures c.sheet_command.ensures c.or.ensures c.or-2.ensures
