-- What was read of a stream after the box was opened, and what was answered.
use Rattle.std.specs.Prelude.{◌≡◌, ℕ, ◌+◌, ◌≤◌, List, [], ◌∷◌, ◌++◌, length, take, ℤ, Some, None, Ok, Err, Option}
use Rattle.auction.specs.declared.House.TheVariants.{Zero, One}
use Rattle.auction.specs.declared.Refusal.TheVariants.{NotNow}
use Rattle.auction.specs.Grids.{Grid}
use Rattle.stream.specs.declared.commands.Command.{Command}
use Rattle.stream.specs.Spelling.{spelled, letter_of}
use Rattle.report.specs.Lines.{taken_text, accepted_text, refused_text, stream_fault}
use Rattle.reading.specs.Dialogues.{Ended}
use Rattle.kinds.specs.declared.linear.ZoneWish.{ZoneWish}
use Rattle.kinds.specs.declared.transfer.kind.TransferWish.{TransferWish}
use Rattle.history.specs.declared.calls.Reply.TheVariants.{Done, Accepted}
use Rattle.history.specs.Events.{Answer, Kinds}
use Rattle.history.specs.Words.{account}
use Rattle.history.specs.Situations.{Situation}
use Rattle.history.specs.Right.{Run}
use Rattle.history.specs.Promise.{Promise}
use Rattle.history.specs.Keeping.{Keeps}
use Rattle.hours.specs.Calls.{StreamCall, StreamHistory, call_of}

abbrev pub StreamKinds : Type 1
StreamKinds = Kinds ZoneWish ZoneWish TransferWish

-- a command with its place and its answer
pub record Heard : Type 0 where
  pub offset : ℕ
  pub command : Command
  pub answer : Answer

-- the calls among what was heard, each with its answer; a transcript has the newest first, as a history does
abbrev pub with_call : Option StreamCall → Answer → StreamHistory → StreamHistory
with_call None a h = h
with_call (Some c) a h = record { call = c; answer = a } ∷ h

abbrev pub history_of : List Heard → StreamHistory
history_of [] = []
history_of (x ∷ t) = with_call (call_of x.command) x.answer (history_of t)

-- the bytes that spell what was heard
abbrev pub bytes_of : List Heard → List ℕ
bytes_of [] = []
bytes_of (x ∷ t) = bytes_of t ++ spelled x.command

-- each command's place is where its bytes begin
abbrev pub WellPlaced : ℕ → List Heard → Type 0
WellPlaced start [] = Unit {0}
WellPlaced start (x ∷ t) = (x.offset ≡ start + length (bytes_of t)) × WellPlaced start t

-- the network block is over: its commands are refused
abbrev pub BlockOver : List Heard → Type 0
BlockOver [] = Unit {0}
BlockOver (x ∷ t) = (call_of x.command ≡ None → x.answer ≡ Err NotNow) × BlockOver t

-- the line of a command: taken, accepted with both accounts after the call, or refused
abbrev pub line_of : ℕ → ℕ → Answer → ℤ → ℤ → List ℕ
line_of offset letter (Ok Done) zero one = taken_text offset letter
line_of offset letter (Ok (Accepted welfare rent)) zero one = accepted_text offset letter welfare rent zero one
line_of offset letter (Err refusal) zero one = refused_text (stream_fault offset letter refusal)

abbrev pub lines_of : StreamKinds → Grid → List Heard → List ℕ
lines_of k g [] = []
lines_of k g (x ∷ t) = lines_of k g t ++ line_of x.offset (letter_of x.command) x.answer (account k g (history_of (x ∷ t)) Zero) (account k g (history_of (x ∷ t)) One)

-- What was heard from a place of the stream up to another, and what was written of it: all answers are right, and the box keeps their history.
pub record Sofar (k : StreamKinds) (g : Grid) (bytes : List ℕ) (start : ℕ) (before : List ℕ) (at : ℕ) (text : List ℕ) (held : Situation) : Type 0 where
  pub transcript : List Heard
  pub onward : start ≤ at
  pub spells : take at bytes ≡ take start bytes ++ bytes_of transcript
  pub placed : WellPlaced start transcript
  pub block_over : BlockOver transcript
  pub keeps : Keeps k g (history_of transcript) held
  pub written : text ≡ before ++ lines_of k g transcript

-- The hours of a stream, from the place after the command that opened the box: there is a run of calls of a box over this network whose calls are those that the stream spells there, each with the right answer; the lines that were written are those of these answers; reading went on to the end or to a fault; and what both houses rely on holds of the run.
pub record HoursAnswered (k : StreamKinds) (g : Grid) (bytes : List ℕ) (start : ℕ) (before after : List ℕ) : Type 0 where
  pub transcript : List Heard
  pub end : ℕ
  pub spells : take end bytes ≡ take start bytes ++ bytes_of transcript
  pub placed : WellPlaced start transcript
  pub block_over : BlockOver transcript
  pub run : Run k g (history_of transcript)
  pub written : Ended bytes end (before ++ lines_of k g transcript) after
  pub promise : Promise k g (history_of transcript)
