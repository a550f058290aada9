-- A letter with another count of operands than it has, in none of the three groups of letters.
use Rattle.std.proofs.Common.{◌≡◌, ℕ, List, Some, None, Option, refl, subst}
use Rattle.std.specs.Option.{option_or}
use Rattle.decoding.specs.Groups.{Reads}
use Rattle.stream.specs.declared.commands.Command.{Command}
use Rattle.stream.specs.Reading.{network_length, hour_length, sheet_length, operand_length}

neither : (a b v : Option ℕ) → (a ≡ v → ⊥) → (b ≡ v → ⊥) → option_or a b ≡ v → ⊥
neither None b v p q e = q e
neither (Some x) b v p q e = p e

-- of two groups, the first that reads it
either : (a b : Option ℕ) (letter : ℕ) (operands : List ℕ) (one other : Option Command) → Reads a letter operands one → Reads b letter operands other → Reads (option_or a b) letter operands (option_or one other)
either a b letter operands None None p q = neither a b _ p q
either a b letter operands None (Some _) p q = q
either a b letter operands (Some _) other p q = p

assoc : (a b c : Option ℕ) → option_or (option_or a b) c ≡ option_or a (option_or b c)
assoc None b c = refl
assoc (Some _) b c = refl

-- the first of the three groups that reads it
pub groups : (letter : ℕ) (operands : List ℕ) (network hour sheet two three : Option Command) → Reads (network_length letter) letter operands network → Reads (hour_length letter) letter operands hour → Reads (sheet_length letter) letter operands sheet → two ≡ option_or network hour → three ≡ option_or two sheet → Reads (operand_length letter) letter operands three
unfolding operand_length
groups letter operands network hour sheet two three p q r e f =
    rw f (rw e (subst (λ known. Reads known letter operands (option_or (option_or network hour) sheet)) (assoc (network_length letter) (hour_length letter) (sheet_length letter)) (either _ _ _ _ (option_or network hour) sheet (either _ _ _ _ network hour p q) r)))
