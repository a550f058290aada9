-- One command more, and the end.
use Rattle.std.proofs.Common.{◌≡◌, ℕ, ◌+◌, ◌≤◌, List, [], ◌∷◌, ◌++◌, length, take, Some, None, Ok, Err, sym, ap, ◌∙◌, subst, append_assoc, append-nil, arith, length-append}
use Rattle.std.proofs.lemmas.List.{length-take-le}
use Rattle.auction.specs.declared.House.TheVariants.{Zero, One}
use Rattle.auction.specs.declared.Refusal.TheVariants.{NotNow}
use Rattle.auction.specs.Grids.{Grid}
use Rattle.stream.specs.Spelling.{spelled, letter_of}
use Rattle.reading.specs.declared.Placed.{Placed}
use Rattle.reading.specs.Next.{Found}
use Rattle.reading.specs.Dialogues.{Ended}
use Rattle.history.specs.Events.{Answer}
use Rattle.history.specs.Situations.{Situation}
use Rattle.history.specs.Keeping.{Keeps}
use Rattle.history.proofs.Promised.{promised}
use Rattle.hours.specs.Calls.{call_of}
use Rattle.hours.specs.Transcripts.{StreamKinds, Heard, with_call, history_of, bytes_of, line_of, lines_of, Sofar, HoursAnswered}

-- nothing heard yet
pub none_heard : (k : StreamKinds) (g : Grid) (bytes : List ℕ) (start : ℕ) (before : List ℕ) (held : Situation) → Keeps k g [] held → Sofar k g bytes start before start before held
none_heard k g bytes start before held keeps = record { transcript = []; onward = omega arith; spells = sym (append-nil (take start bytes)); placed = tt; block_over = tt; keeps = keeps; written = sym (append-nil before) }

-- where a command stands, told by the bytes before it
where_it_stands : (bytes : List ℕ) (start at : ℕ) (heard : List ℕ) → start ≤ at → at ≤ length bytes → take at bytes ≡ take start bytes ++ heard → at ≡ start + length heard
where_it_stands bytes start at heard onward within spells =
    let all = length-take-le at bytes within in
    let first = length-take-le start bytes (omega arith) in
    omega (arith, simp length-append at (ap length spells))

pub one_more : (k : StreamKinds) (g : Grid) (bytes : List ℕ) (start : ℕ) (before : List ℕ) (at : ℕ) (text : List ℕ) (held : Situation) (placed : Placed) (at' : ℕ) (text' : List ℕ) (held' : Situation) (a : Answer)
    → Sofar k g bytes start before at text held
    → Found bytes at (Ok (Some placed)) at'
    → (call_of placed.command ≡ None → a ≡ Err NotNow)
    → ((h : _) → Keeps k g h held → Keeps k g (with_call (call_of placed.command) a h) held')
    → text' ≡ text ++ line_of placed.offset (letter_of placed.command) a (held'.account Zero) (held'.account One)
    → Sofar k g bytes start before at' text' held'
one_more k g bytes start before at text held placed at' text' held' a so (is, spells, on, within) not_now goes_on says = record {
  transcript = x ∷ so.transcript;
  onward = omega (arith, so.onward);
  spells = spells ∙ ap (λ b. b ++ spelled placed.command) so.spells ∙ append_assoc (take start bytes) (bytes_of so.transcript) (spelled placed.command);
  placed = (is ∙ where_it_stands bytes start at (bytes_of so.transcript) so.onward (omega arith) so.spells, so.placed);
  block_over = (not_now, so.block_over);
  keeps = keeps';
  written = says ∙ ap (λ t. t ++ line held') so.written ∙ append_assoc before (lines_of k g so.transcript) (line held') ∙ ap (λ s. before ++ (lines_of k g so.transcript ++ line s)) keeps'.as_told;
}
  where
    x : Heard
    x = record { offset = placed.offset; command = placed.command; answer = a }

    keeps' : Keeps k g (history_of (x ∷ so.transcript)) held'
    keeps' = goes_on (history_of so.transcript) so.keeps

    line : Situation → List ℕ
    line s = line_of placed.offset (letter_of placed.command) a (s.account Zero) (s.account One)

-- the whole: what was heard so far, and the end
pub all_heard : (k : StreamKinds) (g : Grid) (bytes : List ℕ) (start : ℕ) (before : List ℕ) (at : ℕ) (text : List ℕ) (held : Situation) (after : List ℕ) → Sofar k g bytes start before at text held → Ended bytes at text after → HoursAnswered k g bytes start before after
all_heard k g bytes start before at text held after so ended = record {
  transcript = so.transcript;
  end = at;
  spells = so.spells;
  placed = so.placed;
  block_over = so.block_over;
  run = so.keeps.run;
  written = subst (λ t. Ended bytes at t after) so.written ended;
  promise = promised k g (history_of so.transcript) so.keeps.run;
}
