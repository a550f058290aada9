-- What is read of a stream while it is answered, and where reading ends.
use Rattle.std.specs.Prelude.{◌≡◌, ℕ, ◌≤◌, ◌⊎◌, List, ◌++◌, length, Some, None, Ok, Option}
use Rattle.stream.specs.declared.reader.ReadFault.{ReadFault}
use Rattle.stream.specs.Faults.{Faulty}
use Rattle.report.specs.Lines.{refused_text}
use Rattle.reading.specs.declared.Placed.{Placed}
use Rattle.reading.specs.Next.{Found, fault_told}

-- Reading ended: at the end of the stream, or at a fault, which is written too.
abbrev pub Ended : List ℕ → ℕ → List ℕ → List ℕ → Type 0
Ended bytes at text text' = ((length bytes ≤ at) × (text' ≡ text)) ⊎ ((f : ReadFault) × Faulty bytes at f × (text' ≡ text ++ refused_text (fault_told f)))

-- reading ended; or a command was found, and nothing was written
abbrev pub Hears : List ℕ → ℕ → List ℕ → Option Placed → ℕ → List ℕ → Type 0
Hears bytes at text None at' text' = Ended bytes at text text'
Hears bytes at text (Some placed) at' text' = Found bytes at (Ok (Some placed)) at' × (text' ≡ text)
