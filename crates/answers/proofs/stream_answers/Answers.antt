use Rattle.std.proofs.Common.{take, string_bytes}
use Rattle.one_answer.specs.Power.{power_kinds}
use Rattle.answers.proofs.Joining.{joined}
use Rattle.answers.proofs.stream_answers.Goals as goal

pub returns : goal.returns
returns c = joined power_kinds c.new-dialogue.result.reader.bytes.now (take 65536 c.args.stream.now) c.new-dialogue.ensures.0 c.in_ok-footing.footing c.read_block.new.dialogue.reader.bytes.now c.read_block.new.dialogue.reader.at (string_bytes c.read_block.new.dialogue.lines) (string_bytes c.hear.new.dialogue.lines) c.in_ok-footing.ensures c.in_ok-hear.ensures
