-- A command that is spelled in a stream stands there whole.
use Rattle.std.proofs.Common.{◌≡◌, ℕ, ◌+◌, ◌*◌, List, [], ◌∷◌, ◌++◌, length, drop, ℤ, Some, sym, refl, ap, inl, inr, arith, length-append}
use Rattle.std.proofs.lemmas.List.{get_or_at, take_at}
use lib.Seq.{drop-append-add}
use Rattle.stream.specs.declared.commands.Command.{Command}
use Rattle.stream.specs.declared.commands.Command.TheVariants.{Tree, Table, Link, Row, Monitor, HoldBack, Open, Offer, Bid, Transfer, Withdraw, Close, Try, Settle, Void, Quantity, Lambda, ShadowPrice}
use Rattle.stream.specs.Spelling.{le16, le32, sensitivities, letter_of, operands_of}
use Rattle.stream.specs.Reading.{operand_length, Whole, Stands}
use Rattle.stream.specs.Letters.{FullRow, SpelledStands}

-- two bytes for each sensitivity
length_sensitivities : (row : List ℤ) → length (sensitivities row) ≡ 2 * length row
unfolding le16
length_sensitivities [] = refl
length_sensitivities (z ∷ zs) = let more = length_sensitivities zs in omega arith

length_row : (limit : ℕ) (row : List ℤ) → length row ≡ 24 → length (le32 limit ++ sensitivities row) ≡ 52
unfolding le32
length_row limit row full = let bytes = length_sensitivities row in omega arith

whole : (command : Command) → FullRow command → Whole (letter_of command) (operands_of command)
unfolding operand_length le16 le32
whole (Tree _) _ = refl
whole (Table _) _ = refl
whole (Link _ _ _) _ = refl
whole (Row limit row) full = ap Some (sym (length_row limit row (full limit row (inl refl))))
whole (Monitor limit row) full = ap Some (sym (length_row limit row (full limit row (inr refl))))
whole (HoldBack _ _) _ = refl
whole Open _ = refl
whole (Offer _ _ _ _) _ = refl
whole (Bid _ _ _ _) _ = refl
whole (Transfer _ _ _ _ _) _ = refl
whole (Withdraw _ _ _) _ = refl
whole (Close _) _ = refl
whole (Try _) _ = refl
whole (Settle _) _ = refl
whole (Void _) _ = refl
whole (Quantity _ _ _ _) _ = refl
whole (Lambda _ _) _ = refl
whole (ShadowPrice _ _ _) _ = refl

-- a letter with its operands stands after whatever bytes come before it
placed : (before : List ℕ) (letter : ℕ) (operands after : List ℕ) → Whole letter operands → Stands (before ++ (letter ∷ operands ++ after)) (length before) letter operands (length before + length (letter ∷ operands))
placed before letter operands after known =
    let rest : drop (length before + 1) (before ++ (letter ∷ operands ++ after)) ≡ operands ++ after = drop-append-add before (letter ∷ operands ++ after) 1 in
    let long : length (before ++ (letter ∷ operands ++ after)) ≡ length before + length (letter ∷ operands ++ after) = length-append before (letter ∷ operands ++ after) in
    let tail : length (operands ++ after) ≡ length operands + length after = length-append operands after in
    record {
      first = sym (get_or_at before letter (operands ++ after) 0 (length before) refl);
      others = rw rest (sym (take_at operands after (length operands) refl));
      whole = known;
      after = omega arith;
      within = omega arith;
    }

pub spelled_stands : SpelledStands
spelled_stands before after command full = placed before (letter_of command) (operands_of command) after (whole command full)
