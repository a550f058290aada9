-- One command of the network block more.
use Rattle.std.proofs.Common.{◌≡◌, ℕ, false, List, [], ◌∷◌, ◌++◌, length, take, Some, Ok, Err, Result, MatchResult, sym, refl, ap, ◌∙◌, arith}
use Rattle.std.proofs.lemmas.List.{length-take-le}
use Rattle.stream.specs.Spelling.{spelled, letter_of}
use Rattle.auction.specs.declared.Refusal.{Refusal}
use Rattle.report.specs.declared.Mark.{Mark}
use Rattle.report.specs.declared.Outcome.{Outcome}
use Rattle.report.specs.declared.Outcome.TheVariants.{Taken}
use Rattle.report.specs.Lines.{answer_text}
use Rattle.reading.specs.declared.Placed.{Placed}
use Rattle.reading.specs.Next.{Found}
use Rattle.block.specs.declared.draft.Draft.TheVariants.{Nothing}
use Rattle.ground.specs.declared.Ground.{Ground}
use Rattle.ground.specs.declared.Ground.TheVariants.{Base}
use Rattle.ground.specs.Grounds.{BlockAnswer, Takes, opened_ground}
use Rattle.answers.specs.Courses.{BlockRead, block_line}

pub none_given : (bytes : List ℕ) (at : ℕ) (text : List ℕ) → at ≡ 0 → text ≡ [] → BlockRead bytes at text (Base Nothing)
none_given bytes at text start blank = record { given = []; spells = ap (λ n. take n bytes) start; placed = tt; course = refl; written = blank }

pub one_given : (bytes : List ℕ) (at : ℕ) (text : List ℕ) (footing : Ground) (placed : Placed) (at' : ℕ) (text' : List ℕ) (footing' : Ground) (a : BlockAnswer)
    → BlockRead bytes at text footing → opened_ground footing ≡ false
    → Found bytes at (Ok (Some placed)) at'
    → Takes footing placed.command a footing' → text' ≡ text ++ block_line placed.offset (letter_of placed.command) a
    → BlockRead bytes at' text' footing'
one_given bytes at text footing placed at' text' footing' a so shut (is, spells, on, within) takes says = record {
  given = record { offset = placed.offset; command = placed.command; answer = a } ∷ so.given;
  spells = spells ∙ ap (λ b. b ++ spelled placed.command) so.spells;
  placed = (is ∙ sym (length-take-le at bytes (omega arith)) ∙ ap length so.spells, so.placed);
  course = (footing, so.course, shut, takes);
  written = says ∙ ap (λ t. t ++ block_line placed.offset (letter_of placed.command) a) so.written;
}

-- a block's answer is said as its line
pub said_so : (mark : Mark) (a : BlockAnswer) (r : Result Outcome Refusal) → MatchResult a (λ _. r ≡ Ok Taken) (λ refusal. r ≡ Err refusal) → answer_text mark r ≡ block_line mark.offset mark.letter a
said_so mark (Ok _) r is = ap (answer_text mark) is
said_so mark (Err refusal) r is = ap (answer_text mark) is
