-- How a stream is read: which letters name a command, how many bytes of operands each has, and what is read at a place.
use Rattle.std.specs.Prelude.{◌≡◌, ℕ, ◌+◌, ◌<◌, ◌≤◌, cond, List, length, take, drop, Some, None, Option, MatchOption, ◌==◌, slice_index}
use Rattle.std.specs.Option.{option_or}

-- the letters of the network block, in ASCII: Z, Y, K, R, V, H and G
abbrev pub network_length : ℕ → Option ℕ
network_length c =
    cond (c == 90) (Some 1)
    (cond (c == 89) (Some 1)
    (cond (c == 75) (Some 9)
    (cond (c == 82) (Some 52)
    (cond (c == 86) (Some 52)
    (cond (c == 72) (Some 5)
    (cond (c == 71) (Some 0) None))))))

-- those of an hour's orders and of its course: O, B, T and W, then C, Q, S and X
abbrev pub hour_length : ℕ → Option ℕ
hour_length c =
    cond (c == 79) (Some 10)
    (cond (c == 66) (Some 10)
    (cond (c == 84) (Some 11)
    (cond (c == 87) (Some 4)
    (cond (c == 67) (Some 1)
    (cond (c == 81) (Some 1)
    (cond (c == 83) (Some 1)
    (cond (c == 88) (Some 1) None)))))))

-- those of a sheet: A, L and M
abbrev pub sheet_length : ℕ → Option ℕ
sheet_length c =
    cond (c == 65) (Some 8)
    (cond (c == 76) (Some 5)
    (cond (c == 77) (Some 6) None))

-- how many bytes of operands follow a letter; none for a byte that names no command
unfoldable pub operand_length : ℕ → Option ℕ
operand_length letter = option_or (network_length letter) (option_or (hour_length letter) (sheet_length letter))

-- a letter with as many bytes of operands as it has
abbrev pub Whole : ℕ → List ℕ → Type 0
Whole letter operands = operand_length letter ≡ Some (length operands)

-- What stands whole at a place of a stream: a letter and right after it its operands; the next place is right after those.
pub record Stands (bytes : List ℕ) (at letter : ℕ) (operands : List ℕ) (next : ℕ) : Type 0 where
  pub first : letter ≡ slice_index bytes at
  pub others : operands ≡ take (length operands) (drop (at + 1) bytes)
  pub whole : Whole letter operands
  pub after : next ≡ at + 1 + length operands
  pub within : next ≤ length bytes

-- a byte that names no command
pub record Unknown (bytes : List ℕ) (at : ℕ) : Type 0 where
  pub there : at < length bytes
  pub unknown : operand_length (slice_index bytes at) ≡ None

-- a letter whose operands the stream does not have
pub record Short (bytes : List ℕ) (at letter : ℕ) : Type 0 where
  pub there : at < length bytes
  pub first : letter ≡ slice_index bytes at
  pub short : MatchOption (operand_length letter) ⊥ (λ n. length bytes < at + 1 + n)
