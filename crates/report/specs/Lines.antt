-- What the program says of a command.
use Rattle.std.specs.Prelude.{ℕ, List, ◌++◌, ℤ, Ok, Err, Result, codes, decimal}
use Rattle.std.specs.Fmt.{signed_decimal}
use Rattle.std.proofs.Math.Utf8.{encode}
use Rattle.auction.specs.declared.Refusal.{Refusal}
use Rattle.auction.specs.Refusals.{refusal_number, refusal_place}
use Rattle.report.specs.declared.StreamFault.{StreamFault}
use Rattle.report.specs.declared.Mark.{Mark}
use Rattle.report.specs.declared.Outcome.{Outcome}
use Rattle.report.specs.declared.Outcome.TheVariants.{Taken, Accepted}
use Rattle.report.specs.declared.Said.{Said}

-- the refusal of the command with this letter, which begins at this offset
abbrev pub stream_fault : ℕ → ℕ → Refusal → StreamFault
stream_fault offset letter refusal = record { mark = record { offset = offset; letter = letter }; refusal = refusal }

-- how the line of a command begins: its offset and its letter
abbrev pub mark_text : ℕ → ℕ → List ℕ
mark_text offset letter = decimal offset ++ (codes " " ++ encode letter)

-- a taken command's line: offset, letter, ok
abbrev pub taken_text : ℕ → ℕ → List ℕ
taken_text offset letter = mark_text offset letter ++ codes " ok\n"

-- a refused command's line: offset, letter, refused, the number of the question that got a no, and the two numbers of the place
abbrev pub refused_text : StreamFault → List ℕ
refused_text f = mark_text f.mark.offset f.mark.letter ++ (codes " refused " ++ (decimal (refusal_number f.refusal) ++ (codes " " ++ (decimal (refusal_place f.refusal).0 ++ (codes " " ++ (decimal (refusal_place f.refusal).1 ++ codes "\n"))))))

-- the line of an accepted sheet: offset, letter, accepted, welfare, rent, and the two accounts after the call
abbrev pub accepted_text : ℕ → ℕ → ℤ → ℤ → ℤ → ℤ → List ℕ
accepted_text offset letter welfare rent zero one = mark_text offset letter ++ (codes " accepted " ++ (signed_decimal welfare ++ (codes " " ++ (signed_decimal rent ++ (codes " " ++ (signed_decimal zero ++ (codes " " ++ (signed_decimal one ++ codes "\n"))))))))

-- the line of an answer: taken, accepted, or refused
abbrev pub answer_text : Mark → Result Outcome Refusal → List ℕ
answer_text mark (Ok Taken) = taken_text mark.offset mark.letter
answer_text mark (Ok (Accepted welfare rent accounts)) = accepted_text mark.offset mark.letter welfare rent accounts.zero accounts.one
answer_text mark (Err refusal) = refused_text (stream_fault mark.offset mark.letter refusal)

abbrev pub line_text : Said → List ℕ
line_text said = answer_text said.mark said.answer
