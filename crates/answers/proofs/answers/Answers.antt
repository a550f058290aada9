use Rattle.std.proofs.Common.{take, string_bytes}
use Rattle.answers.proofs.Joining.{block_alone}
use Rattle.answers.proofs.answers.Goals as goal

pub returns : goal.returns
returns c = block_alone c.new-dialogue.result.reader.bytes.now (take 65536 c.args.stream.now) c.new-dialogue.ensures.0 c.in_ok-read_block.field-0 c.read_block.new.dialogue.reader.bytes.now c.read_block.new.dialogue.reader.at (string_bytes c.read_block.new.dialogue.lines) c.in_ok-read_block.ensures
