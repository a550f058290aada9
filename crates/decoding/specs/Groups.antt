-- What a group of commands reads.
use Rattle.std.specs.Prelude.{◌≡◌, ℕ, List, ◌∷◌, length, Some, Option, MatchOption, ◌≢◌}
use Rattle.stream.specs.declared.commands.Command.{Command}
use Rattle.stream.specs.Spelling.{spelled}

-- the command that a letter with its operands spells; none only where the group has another length for the letter, or none
abbrev pub Reads : Option ℕ → ℕ → List ℕ → Option Command → Type 0
Reads known letter operands read = MatchOption read (known ≢ Some (length operands)) (λ command. spelled command ≡ letter ∷ operands)
