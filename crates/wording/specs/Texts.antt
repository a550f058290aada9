-- A command in readable text: its letter and its operands as decimal numbers, on a line of its own.
use Rattle.std.specs.Prelude.{ℕ, List, [], ◌∷◌, ◌++◌, ℤ}
use Rattle.std.specs.Fmt.{signed_decimal}
use Rattle.stream.specs.declared.Command.{Command}
use Rattle.stream.specs.Spelling.{letter_of}
use Rattle.parsing.specs.Numbers.{numbers_of}

-- a number with a blank before it
abbrev pub after_blank : ℤ → List ℕ
after_blank number = 32 ∷ signed_decimal number

-- numbers with a blank before each, to the end of the line
abbrev pub after_blanks : List ℤ → List ℕ
after_blanks [] = 10 ∷ []
after_blanks (number ∷ numbers) = after_blank number ++ after_blanks numbers

abbrev pub text_of : Command → List ℕ
text_of command = letter_of command ∷ after_blanks (numbers_of command)
