-- Which commands a readable text writes.
use Rattle.std.specs.Prelude.{◌≡◌, ℕ, ◌<◌, true, ◌||◌, List, [], ◌∷◌, ◌++◌, length, ℤ, FitsSigned, ◌==◌, ◌≢◌, slice_index}
use Rattle.std.specs.Int.{w64}
use Rattle.std.specs.Str.Parse.{IsNumeral, without_leading_sign, signed_digits_value}
use Rattle.stream.specs.declared.Command.{Command}
use Rattle.parsing.specs.Numbers.{Means}
use Rattle.notation.specs.Scanning.{is_blank}
use Rattle.notation.specs.Showing.{spellings}

-- a word in decimal digits, perhaps after a sign, writes a number
pub record IsNumber (word : List ℕ) (number : ℤ) : Type 0 where
  pub digits : IsNumeral 10 (without_leading_sign word)
  pub fits : FitsSigned w64 (signed_digits_value 10 word)
  pub value : number ≡ signed_digits_value 10 word

-- a word ends here: at the text's end or at a blank
abbrev pub WordEnds : List ℕ → Type 0
WordEnds [] = Unit {0}
WordEnds (byte ∷ _) = is_blank byte ≡ true

-- a line ends here: at the text's end or at a line feed
abbrev pub LineEnds : List ℕ → Type 0
LineEnds [] = Unit {0}
LineEnds (byte ∷ _) = byte ≡ 10

-- a text writes numbers: one word for each, with blanks between them
pub data Numbers : List ℕ → List ℤ → Type 0 where
  no_number : Numbers [] []
  skip_blank : (byte : ℕ) (rest : List ℕ) (numbers : List ℤ) → is_blank byte ≡ true → Numbers rest numbers → Numbers (byte ∷ rest) numbers
  number : (word rest : List ℕ) (value : ℤ) (numbers : List ℤ) → IsNumber word value → WordEnds rest → Numbers rest numbers → Numbers (word ++ rest) (value ∷ numbers)

-- a piece of text writes no command, where it is blank, or one: its letter as a word, and its numbers
pub data Piece : List ℕ → List Command → Type 0 where
  no_command : Piece [] []
  leading_blank : (byte : ℕ) (rest : List ℕ) (commands : List Command) → is_blank byte ≡ true → Piece rest commands → Piece (byte ∷ rest) commands
  command : (letter : ℕ) (rest : List ℕ) (numbers : List ℤ) (meant : Command) → WordEnds rest → Numbers rest numbers → Means letter numbers meant → Piece (letter ∷ rest) (meant ∷ [])

-- a semicolon or a line feed
abbrev pub EndsPiece : ℕ → Type 0
EndsPiece byte = (byte == 59 || byte == 10) ≡ true

-- A text writes commands: piece after piece, each ended by a semicolon or by its line's end, where a comment from `#` on may stand before that.
pub data Writes : List ℕ → List Command → Type 0 where
  last : (piece : List ℕ) (commands : List Command) → Piece piece commands → Writes piece commands
  ended : (piece : List ℕ) (byte : ℕ) (rest : List ℕ) (commands more : List Command) → Piece piece commands → EndsPiece byte → Writes rest more → Writes (piece ++ (byte ∷ rest)) (commands ++ more)
  noted : (piece comment rest : List ℕ) (commands more : List Command) → Piece piece commands → ((k : ℕ) → k < length comment → slice_index comment k ≢ 10) → LineEnds rest → Writes rest more → Writes (piece ++ (35 ∷ (comment ++ rest))) (commands ++ more)

-- a piece of text adds the command that it writes, if it writes one
abbrev pub AddedByPiece : List ℕ → List ℕ → List ℕ → Type 0
AddedByPiece piece was is = (commands : List Command) × Piece piece commands × (is ≡ was ++ spellings commands)

-- bytes that are the commands of a text, one after another
abbrev pub StreamOf : List ℕ → List ℕ → Type 0
StreamOf text bytes = (commands : List Command) × Writes text commands × (bytes ≡ spellings commands)
