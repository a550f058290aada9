use Rattle.std.proofs.Common.{◌≡◌, false, ◌++◌, Ok, Err, MatchResult, string_bytes, ap, ◌∙◌, rules}
use Rattle.stream.specs.Spelling.{letter_of}
use Rattle.report.specs.declared.Mark.{Mark}
use Rattle.report.specs.declared.Outcome.TheVariants.{Taken}
use Rattle.report.specs.Lines.{answer_text}
use Rattle.reading.proofs.Saying.{found_and_said}
use Rattle.ground.specs.Grounds.{opened_ground}
use Rattle.answers.proofs.Giving.{one_given, said_so}
use Rattle.answers.proofs.course.read_block.Goals as goal

pub commands-preserved : goal.commands-preserved
commands-preserved c =
    let bytes = c.args.dialogue.now.reader.bytes.now in
    let text = string_bytes c.commands.dialogue.lines in
    let placed = c.in-Some.placed in
    let mark : Mark = record { offset = placed.offset; letter = letter_of placed.command } in
    let answer = c.take-answer.result in
    let shut : opened_ground c.commands.footing ≡ false = search rules in
    let cases : MatchResult answer (λ _. c.map.result ≡ Ok Taken) (λ refusal. c.map.result ≡ Err refusal) = search rules in
    let (same, found, said) = found_and_said bytes c.commands.dialogue c.next.new.self c.say.new.self placed (answer_text mark c.map.result) c.commands.invariant.0 (search rules) (search rules) (search rules) c.in_ok-say.ensures.said in (
      same,
      one_given bytes c.commands.dialogue.reader.at text c.commands.footing placed c.say.new.self.reader.at (string_bytes c.say.new.self.lines) c.take-answer.new.self answer
          c.commands.invariant.1 shut found c.take-answer.ensures (said ∙ ap (λ l. text ++ l) (said_so mark answer c.map.result cases)),
    )
