-- What a program does that makes text of its whole input.
use Rattle.std.specs.Prelude.{◌≡◌, ℕ, List, Ok, Option, Result, String, string_bytes}
use Rattle.std.specs.Global.{Global}
use Rattle.std.specs.Fn.{Once}
use denote.Ref.{Bor}
use Rattle.std.specs.Io.KnownBytes.{Appends}

-- The bytes of a text that the function may answer to the input were written after those that were there before.
abbrev pub Answered : {F E : Type 0} → Once F (Global × (Bor (List ℕ) × Unit {0})) (Result (String Global) E) → F → Global → List ℕ → Option (List ℕ) → Option (List ℕ) → Type 0
Answered g f heap input before after = (text : String Global) × (seen : Bor (List ℕ)) × (seen.now ≡ input) × g.post f (heap, (seen, tt)) (Ok text) × Appends before after (string_bytes text)
