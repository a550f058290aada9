-- What the bytes up to the next place are.
use Rattle.std.proofs.Common.{◌≡◌, ℕ, ◌+◌, ◌<◌, List, [], ◌∷◌, ◌++◌, length, get_or, take, drop, append_assoc, arith, take-add}
use Rattle.std.proofs.lemmas.List.{take_more}
use Rattle.stream.specs.Reading.{Stands}

-- the bytes up to the next place: those before this one, the letter and the operands
pub longer : (bytes : List ℕ) (at letter : ℕ) (operands : List ℕ) (next : ℕ) → Stands bytes at letter operands next → take next bytes ≡ take at bytes ++ (letter ∷ operands)
longer bytes at letter operands next s =
    let here : at < length bytes = omega (arith, s.after, s.within) in
    let split : take (at + 1 + length operands) bytes ≡ take (at + 1) bytes ++ take (length operands) (drop (at + 1) bytes) = take-add (at + 1) (length operands) bytes in
    let one : take (at + 1) bytes ≡ take at bytes ++ (get_or bytes at 0 ∷ []) = take_more bytes at 0 here in
    let join : (take at bytes ++ (letter ∷ [])) ++ operands ≡ take at bytes ++ (letter ∷ operands) = simp append_assoc in
    let f : letter ≡ get_or bytes at 0 = s.first in
    let o : operands ≡ take (length operands) (drop (at + 1) bytes) = s.others in
    let a : next ≡ at + 1 + length operands = s.after in
    cc
