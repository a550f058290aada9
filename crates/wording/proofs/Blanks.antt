-- Numbers with a blank before each, the letter before them, and the line's end after them.
use Rattle.std.proofs.Common.{◌≡◌, ℕ, ◌<◌, List, [], ◌∷◌, ◌++◌, ℤ, flat_map, refl, ap, ◌∙◌, append_assoc}
use Rattle.std.proofs.lemmas.Str.{encode_ascii}
use Rattle.std.specs.Char.{encode_utf8}
use Rattle.wording.specs.Texts.{after_blank, after_blanks}

pub ended : (numbers : List ℤ) → flat_map after_blank numbers ++ (10 ∷ []) ≡ after_blanks numbers
ended [] = refl
ended (number ∷ numbers) = append_assoc (after_blank number) (flat_map after_blank numbers) (10 ∷ []) ∙ ap (λ l. after_blank number ++ l) (ended numbers)

pub headed : (letter : ℕ) → letter < 128 → (rest : List ℕ) → encode_utf8 letter ++ rest ≡ letter ∷ rest
headed letter ascii rest = ap (λ l. l ++ rest) (encode_ascii letter ascii)
