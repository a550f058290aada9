-- Why a command is wrong, in words.
use Rattle.std.specs.Prelude.{ℕ, List, codes}
use Rattle.parsing.specs.declared.wrong.Wrong.{Wrong}
use Rattle.parsing.specs.declared.wrong.Wrong.TheVariants.{NoCommand, NoNumber, TooFew, TooMany, DoesNotFit}

-- what is wrong with a command as it is written down
abbrev pub in_words : Wrong → List ℕ
in_words NoCommand = codes "no command has this name"
in_words NoNumber = codes "an operand is no number"
in_words TooFew = codes "operands are missing"
in_words TooMany = codes "there are too many operands"
in_words DoesNotFit = codes "an operand does not fit its width"
