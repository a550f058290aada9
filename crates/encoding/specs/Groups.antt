-- What a group of commands writes.
use Rattle.std.specs.Prelude.{◌≡◌, ℕ, List, ◌++◌, Option, MatchOption}

-- the operands of a command whose letter the group has a length for; nothing of another
abbrev pub Writes : Option ℕ → List ℕ → List ℕ → List ℕ → Type 0
Writes known operands before after = MatchOption known (after ≡ before) (λ _. after ≡ before ++ operands)
