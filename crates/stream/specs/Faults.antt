-- What a fault of the reader says of the stream.
use Rattle.std.specs.Prelude.{◌≡◌, ℕ, List, ◌++◌, codes, decimal}
use Rattle.auction.specs.declared.Refusal.{Refusal}
use Rattle.auction.specs.declared.Refusal.TheVariants.{NoCommand, NoOperands}
use Rattle.stream.specs.declared.reader.ReadFault.{ReadFault}
use Rattle.stream.specs.declared.reader.ReadFault.TheVariants.{UnknownByte, MissingOperands}
use Rattle.stream.specs.Reading.{Unknown, Short}

-- the fault is what there is at a place of the stream
abbrev pub Faulty : List ℕ → ℕ → ReadFault → Type 0
Faulty bytes at (UnknownByte offset) = (offset ≡ at) × Unknown bytes at
Faulty bytes at (MissingOperands offset letter) = (offset ≡ at) × Short bytes at letter

abbrev pub offset_of : ReadFault → ℕ
offset_of (UnknownByte offset) = offset
offset_of (MissingOperands offset _) = offset

-- the letter to show; `?` in ASCII for a byte that is none
abbrev pub shown_letter : ReadFault → ℕ
shown_letter (UnknownByte _) = 63
shown_letter (MissingOperands _ letter) = letter

-- what it is refused as
abbrev pub refused_as : ReadFault → Refusal
refused_as (UnknownByte _) = NoCommand
refused_as (MissingOperands _ _) = NoOperands

-- what it says in words
abbrev pub fault_words : ReadFault → List ℕ
fault_words (UnknownByte offset) = codes "unknown byte at offset " ++ decimal offset
fault_words (MissingOperands offset _) = codes "missing operands at offset " ++ decimal offset
