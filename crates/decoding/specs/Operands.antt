-- How operands are read from the front.
use Rattle.std.specs.Prelude.{◌≡◌, ℕ, ◌+◌, List, ◌++◌, length}

-- some bytes are read, so many, from those that were left
abbrev pub Taken : ℕ → List ℕ → List ℕ → List ℕ → Type 0
Taken count bytes before after = (before ≡ bytes ++ after) × (length before ≡ count + length after)
