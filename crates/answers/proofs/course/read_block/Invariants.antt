use Rattle.std.proofs.Common.{◌≡◌, ◌-◌, length, string_bytes}
use Rattle.answers.specs.Courses.{BlockRead}
use Rattle.answers.proofs.course.read_block.Given as goal

-- the stream stays what it is, and what was written is what was given so far
abbrev pub invariant-commands : goal.invariant-commands
invariant-commands l = (l.dialogue.reader.bytes.now ≡ l.initial.dialogue.reader.bytes.now) × BlockRead l.initial.dialogue.reader.bytes.now l.dialogue.reader.at (string_bytes l.dialogue.lines) l.footing

abbrev pub decreases-commands : goal.decreases-commands
decreases-commands l = length l.initial.dialogue.reader.bytes.now - l.dialogue.reader.at
