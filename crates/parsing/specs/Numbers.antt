-- A command's operands as numbers, in the order in which they are written down.
use Rattle.std.specs.Prelude.{◌≡◌, ℕ, ◌-◌, cond, ◌||◌, List, [], ◌∷◌, ◌++◌, length, replicate, ℤ, pos, ◌==◌}
use Rattle.stream.specs.declared.Command.{Command}
use Rattle.stream.specs.declared.Command.TheVariants.{Tree, Table, Link, Row, Monitor, HoldBack, Open, Offer, Bid, Transfer, Withdraw, Close, Try, Settle, Void, Quantity, Lambda, ShadowPrice}
use Rattle.stream.specs.Spelling.{letter_of}

abbrev pub numbers_of : Command → List ℤ
numbers_of (Tree zones) = pos zones ∷ []
numbers_of (Table zones) = pos zones ∷ []
numbers_of (Link parent toParent toChild) = pos parent ∷ pos toParent ∷ pos toChild ∷ []
numbers_of (Row limit row) = pos limit ∷ row
numbers_of (Monitor limit row) = pos limit ∷ row
numbers_of (HoldBack line kwh) = pos line ∷ pos kwh ∷ []
numbers_of Open = []
numbers_of (Offer house zone price quantity) = pos house ∷ pos zone ∷ pos price ∷ pos quantity ∷ []
numbers_of (Bid house zone price quantity) = pos house ∷ pos zone ∷ pos price ∷ pos quantity ∷ []
numbers_of (Transfer house first second price quantity) = pos house ∷ pos first ∷ pos second ∷ pos price ∷ pos quantity ∷ []
numbers_of (Withdraw house list number) = pos house ∷ pos list ∷ pos number ∷ []
numbers_of (Close house) = pos house ∷ []
numbers_of (Try house) = pos house ∷ []
numbers_of (Settle house) = pos house ∷ []
numbers_of (Void house) = pos house ∷ []
numbers_of (Quantity house list number quantity) = pos house ∷ pos list ∷ pos number ∷ pos quantity ∷ []
numbers_of (Lambda house lambda) = pos house ∷ lambda ∷ []
numbers_of (ShadowPrice house line price) = pos house ∷ pos line ∷ pos price ∷ []

-- Of a row, R or V in ASCII, sensitivities of 0 may be left out at the end: with its limit it has 25 numbers.
abbrev pub filled : ℕ → List ℤ → List ℤ
filled letter numbers = cond (letter == 82 || letter == 86) (numbers ++ replicate (25 - length numbers) (pos 0)) numbers

-- a letter and numbers mean a command
abbrev pub Means : ℕ → List ℤ → Command → Type 0
Means letter numbers command = (letter ≡ letter_of command) × (filled letter numbers ≡ numbers_of command)
