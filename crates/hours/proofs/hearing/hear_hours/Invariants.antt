use Rattle.std.proofs.Common.{◌≡◌, ◌-◌, length, string_bytes}
use Rattle.clearing.specs.Views.{kinds_of, situation}
use Rattle.hours.specs.Transcripts.{Sofar}
use Rattle.hours.proofs.hearing.hear_hours.Given as goal

-- the network and the stream stay what they are, and what was written is what was heard so far
abbrev pub invariant-commands : goal.invariant-commands
invariant-commands g l =
    (l.clearing.network ≡ l.initial.clearing.network) × (l.dialogue.reader.bytes.now ≡ l.initial.dialogue.reader.bytes.now)
    × Sofar (kinds_of g.X.OrderList g.Y.OrderList g.W.OrderList) (g.N.Network.grid l.initial.clearing.network) l.initial.dialogue.reader.bytes.now l.initial.dialogue.reader.at (string_bytes l.initial.dialogue.lines) l.dialogue.reader.at (string_bytes l.dialogue.lines) (situation g.X.OrderList g.Y.OrderList g.W.OrderList l.clearing)

abbrev pub decreases-commands : goal.decreases-commands
decreases-commands g l = length l.initial.dialogue.reader.bytes.now - l.dialogue.reader.at
