-- What is read at a place of a stream.
use Rattle.std.specs.Prelude.{◌≡◌, ℕ, ◌<◌, ◌≤◌, List, ◌++◌, length, take, Some, None, Ok, Err, Option, Result}
use Rattle.stream.specs.Spelling.{spelled}
use Rattle.stream.specs.declared.reader.ReadFault.{ReadFault}
use Rattle.stream.specs.Faults.{Faulty, offset_of, shown_letter, refused_as}
use Rattle.report.specs.declared.StreamFault.{StreamFault}
use Rattle.report.specs.Lines.{stream_fault}
use Rattle.reading.specs.declared.Placed.{Placed}

-- a fault of the reader, with the place and the letter that are shown
abbrev pub fault_told : ReadFault → StreamFault
fault_told f = stream_fault (offset_of f) (shown_letter f) (refused_as f)

-- The end; or a command that is spelled from this place to the next; or a fault that stands at this place.
abbrev pub Found : List ℕ → ℕ → Result (Option Placed) StreamFault → ℕ → Type 0
Found bytes at (Ok None) at' = (length bytes ≤ at) × (at' ≡ at)
Found bytes at (Ok (Some read)) at' = (read.offset ≡ at) × (take at' bytes ≡ take at bytes ++ spelled read.command) × (at < at') × (at' ≤ length bytes)
Found bytes at (Err fault) at' = (f : ReadFault) × Faulty bytes at f × (fault ≡ fault_told f)

-- the same, and the stream stays what it is
abbrev pub Next : List ℕ → ℕ → Result (Option Placed) StreamFault → List ℕ → ℕ → Type 0
Next bytes at r bytes' at' = (bytes' ≡ bytes) × Found bytes at r at'
