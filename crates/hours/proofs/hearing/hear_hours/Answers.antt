use Rattle.std.proofs.Common.{string_bytes, refl, ◌∙◌, subst, rules}
use Rattle.auction.specs.declared.House.TheVariants.{Zero, One}
use Rattle.stream.specs.Spelling.{letter_of}
use Rattle.reading.specs.Dialogues.{Ended}
use Rattle.reading.proofs.Saying.{found_and_said}
use Rattle.history.specs.Keeping.{Keeps}
use Rattle.clearing.specs.Views.{kinds_of, situation}
use Rattle.hours.specs.Calls.{StreamHistory, call_of}
use Rattle.hours.specs.Transcripts.{with_call, line_of, HoursAnswered}
use Rattle.hours.proofs.Transcribing.{none_heard, one_more, all_heard}
use Rattle.hours.proofs.hearing.hear_hours.Goals as goal

pub commands-init : goal.commands-init
commands-init g c = (refl, refl, none_heard (kinds_of g.X.OrderList g.Y.OrderList g.W.OrderList) (g.N.Network.grid c.open-clearing.result.network) c.args.dialogue.now.reader.bytes.now c.args.dialogue.now.reader.at (string_bytes c.args.dialogue.now.lines) (situation g.X.OrderList g.Y.OrderList g.W.OrderList c.open-clearing.result) c.open-clearing.ensures.history)

pub commands-preserved : goal.commands-preserved
commands-preserved g c =
    let k = kinds_of g.X.OrderList g.Y.OrderList g.W.OrderList in
    let bytes = c.args.dialogue.now.reader.bytes.now in
    let placed = c.in-Some.placed in
    let held = situation g.X.OrderList g.Y.OrderList g.W.OrderList c.commands.clearing in
    let held' = situation g.X.OrderList g.Y.OrderList g.W.OrderList c.answer-answered.new.clearing in
    let goes_on : (h : StreamHistory) → Keeps k (g.N.Network.grid c.open-clearing.result.network) h held → Keeps k (g.N.Network.grid c.open-clearing.result.network) (with_call (call_of placed.command) c.answer-answered.result h) held'
    = subst (λ n. (h : StreamHistory) → Keeps k (g.N.Network.grid n) h held → Keeps k (g.N.Network.grid n) (with_call (call_of placed.command) c.answer-answered.result h) held') c.commands.invariant.0 c.answer-answered.ensures.goes_on in
    let line = line_of placed.offset (letter_of placed.command) c.answer-answered.result (held'.account Zero) (held'.account One) in
    let (same, found, said) = found_and_said bytes c.commands.dialogue c.next.new.self c.say.new.dialogue placed line c.commands.invariant.1 (search rules) (search rules) (search rules) c.in_ok-say.ensures.said in (
      c.answer-answered.ensures.same_network ∙ c.commands.invariant.0,
      same,
      one_more k (g.N.Network.grid c.open-clearing.result.network) bytes c.args.dialogue.now.reader.at (string_bytes c.args.dialogue.now.lines) c.commands.dialogue.reader.at (string_bytes c.commands.dialogue.lines) held placed c.say.new.dialogue.reader.at (string_bytes c.say.new.dialogue.lines) held' c.answer-answered.result
          c.commands.invariant.2 found c.answer-answered.ensures.not_now goes_on said,
    )

pub returns : goal.returns
returns g c =
    let k = kinds_of g.X.OrderList g.Y.OrderList g.W.OrderList in
    let bytes = c.args.dialogue.now.reader.bytes.now in
    let there : Ended c.commands.dialogue.reader.bytes.now c.commands.dialogue.reader.at (string_bytes c.commands.dialogue.lines) (string_bytes c.next.new.self.lines) = search rules in
    let ended : Ended bytes c.commands.dialogue.reader.at (string_bytes c.commands.dialogue.lines) (string_bytes c.next.new.self.lines) = subst (λ b. Ended b c.commands.dialogue.reader.at (string_bytes c.commands.dialogue.lines) (string_bytes c.next.new.self.lines)) c.commands.invariant.1 there in
    subst (λ n. HoursAnswered k (g.N.Network.grid n) bytes c.args.dialogue.now.reader.at (string_bytes c.args.dialogue.now.lines) (string_bytes c.next.new.self.lines)) c.open-clearing.ensures.network
    (all_heard k (g.N.Network.grid c.open-clearing.result.network) bytes c.args.dialogue.now.reader.at (string_bytes c.args.dialogue.now.lines) c.commands.dialogue.reader.at (string_bytes c.commands.dialogue.lines) (situation g.X.OrderList g.Y.OrderList g.W.OrderList c.commands.clearing) (string_bytes c.next.new.self.lines) c.commands.invariant.2 ended)
