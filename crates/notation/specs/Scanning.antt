-- The parts of a readable text.
use Rattle.std.specs.Prelude.{◌≡◌, ℕ, ◌<◌, ◌≤◌, Bool, true, false, not, ◌||◌, ◌⊎◌, List, ◌++◌, length, ℤ, ◌==◌, slice_index}
use Rattle.stream.specs.declared.Command.{Command}
use Rattle.stream.specs.Spelling.{spelled}
use Rattle.parsing.specs.Numbers.{Means}
use Rattle.notation.specs.Showing.{spellings}

-- a space, a tab or a return
abbrev pub is_blank : ℕ → Bool
is_blank byte = byte == 32 || (byte == 9 || byte == 13)

abbrev pub is_word : ℕ → Bool
is_word byte = not (is_blank byte)

-- a semicolon, the line's end or the beginning of a comment
abbrev pub ends_command : ℕ → Bool
ends_command byte = byte == 59 || (byte == 10 || byte == 35)

abbrev pub ends_line : ℕ → Bool
ends_line byte = byte == 10

-- the first place from `at` on at which the text stops, or its end, where it stops at the bytes of which `stops_at` says yes
pub record FirstStop (text : List ℕ) (at : ℕ) (stops_at : ℕ → Bool) (r : ℕ) : Type 0 where
  pub onward : at ≤ r
  pub within : at ≤ length text → r ≤ length text
  pub before : (k : ℕ) → at ≤ k → k < r → stops_at (slice_index text k) ≡ false
  pub here : r < length text → stops_at (slice_index text r) ≡ true

-- a piece of text adds nothing, or the command that its letter and its numbers mean
abbrev pub Added : List ℕ → List ℕ → Type 0
Added was is = (is ≡ was) ⊎ ((command : Command) × (letter : ℕ) × (numbers : List ℤ) × Means letter numbers command × (is ≡ was ++ spelled command))

-- bytes that are one command after another
abbrev pub Commands : List ℕ → Type 0
Commands bytes = (commands : List Command) × (bytes ≡ spellings commands)
