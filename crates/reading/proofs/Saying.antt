-- A command that was found, and the line that was said of it.
use Rattle.std.proofs.Common.{◌≡◌, ℕ, List, ◌++◌, Some, Ok, string_bytes, sym, ap, ◌∙◌, subst}
use Rattle.reading.specs.declared.Placed.{Placed}
use Rattle.reading.specs.declared.dialogue.Dialogue.{Dialogue}
use Rattle.reading.specs.Next.{Found}
use Rattle.reading.specs.Dialogues.{Hears}

-- where the command stands in the bytes that are read, and the text after its line
pub found_and_said : (bytes : List ℕ) (before heard after : Dialogue) (placed : Placed) (line : List ℕ)
    → before.reader.bytes.now ≡ bytes → heard.reader.bytes.now ≡ before.reader.bytes.now
    → Hears before.reader.bytes.now before.reader.at (string_bytes before.lines) (Some placed) heard.reader.at (string_bytes heard.lines)
    → after.reader ≡ heard.reader → string_bytes after.lines ≡ string_bytes heard.lines ++ line
    → (after.reader.bytes.now ≡ bytes) × Found bytes before.reader.at (Ok (Some placed)) after.reader.at × (string_bytes after.lines ≡ string_bytes before.lines ++ line)
found_and_said bytes before heard after placed line same kept read still said =
    let there : Found before.reader.bytes.now before.reader.at (Ok (Some placed)) after.reader.at = subst (λ r. Found before.reader.bytes.now before.reader.at (Ok (Some placed)) r.at) (sym still) read.0 in (
      ap (λ r. r.bytes.now) still ∙ kept ∙ same,
      subst (λ b. Found b before.reader.at (Ok (Some placed)) after.reader.at) same there,
      said ∙ ap (λ t. t ++ line) read.1,
    )
