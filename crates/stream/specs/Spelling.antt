-- How a command is spelled in a stream: one letter in ASCII, and then its operands, each number with its lowest byte first.
use Rattle.std.specs.Prelude.{ℕ, ◌/◌, ◌%◌, List, [], ◌∷◌, ◌++◌, ℤ, Some, None, Option}
use Rattle.std.specs.Int.{w16, w32}
use Rattle.std.proofs.Common.{of_z}
use Rattle.stream.specs.declared.commands.Command.{Command}
use Rattle.stream.specs.declared.commands.Command.TheVariants.{Tree, Table, Link, Row, Monitor, HoldBack, Open, Offer, Bid, Transfer, Withdraw, Close, Try, Settle, Void, Quantity, Lambda, ShadowPrice}

-- a number below 2 ^ 16 as two bytes
unfoldable pub le16 : ℕ → List ℕ
le16 n = n % 256 ∷ n / 256 % 256 ∷ []

-- a number below 2 ^ 32 as four bytes
unfoldable pub le32 : ℕ → List ℕ
le32 n = n % 256 ∷ n / 256 % 256 ∷ n / 65536 % 256 ∷ n / 16777216 % 256 ∷ []

-- a signed number in two's complement: one below 0 is spelled as 2 ^ 16 or 2 ^ 32 more
abbrev pub signed16 : ℤ → List ℕ
signed16 z = le16 (of_z w16 z)

abbrev pub signed32 : ℤ → List ℕ
signed32 z = le32 (of_z w32 z)

-- one sensitivity after another
abbrev pub sensitivities : List ℤ → List ℕ
sensitivities [] = []
sensitivities (z ∷ zs) = signed16 z ++ sensitivities zs

abbrev pub letter_of : Command → ℕ
letter_of (Tree _) = 90
letter_of (Table _) = 89
letter_of (Link _ _ _) = 75
letter_of (Row _ _) = 82
letter_of (Monitor _ _) = 86
letter_of (HoldBack _ _) = 72
letter_of Open = 71
letter_of (Offer _ _ _ _) = 79
letter_of (Bid _ _ _ _) = 66
letter_of (Transfer _ _ _ _ _) = 84
letter_of (Withdraw _ _ _) = 87
letter_of (Close _) = 67
letter_of (Try _) = 81
letter_of (Settle _) = 83
letter_of (Void _) = 88
letter_of (Quantity _ _ _ _) = 65
letter_of (Lambda _ _) = 76
letter_of (ShadowPrice _ _ _) = 77

abbrev pub operands_of : Command → List ℕ
operands_of (Tree zones) = zones ∷ []
operands_of (Table zones) = zones ∷ []
operands_of (Link parent toParent toChild) = parent ∷ le32 toParent ++ le32 toChild
operands_of (Row limit row) = le32 limit ++ sensitivities row
operands_of (Monitor limit row) = le32 limit ++ sensitivities row
operands_of (HoldBack line kwh) = line ∷ le32 kwh
operands_of Open = []
operands_of (Offer house zone price quantity) = house ∷ zone ∷ le32 price ++ le32 quantity
operands_of (Bid house zone price quantity) = house ∷ zone ∷ le32 price ++ le32 quantity
operands_of (Transfer house first second price quantity) = house ∷ first ∷ second ∷ le32 price ++ le32 quantity
operands_of (Withdraw house list number) = house ∷ list ∷ le16 number
operands_of (Close house) = house ∷ []
operands_of (Try house) = house ∷ []
operands_of (Settle house) = house ∷ []
operands_of (Void house) = house ∷ []
operands_of (Quantity house list number quantity) = house ∷ list ∷ le16 number ++ le32 quantity
operands_of (Lambda house lambda) = house ∷ signed32 lambda
operands_of (ShadowPrice house line price) = house ∷ line ∷ le32 price

abbrev pub spelled : Command → List ℕ
spelled command = letter_of command ∷ operands_of command

-- whose command it is; the network block's commands are of no house
abbrev pub house_of : Command → Option ℕ
house_of (Tree _) = None
house_of (Table _) = None
house_of (Link _ _ _) = None
house_of (Row _ _) = None
house_of (Monitor _ _) = None
house_of (HoldBack _ _) = None
house_of Open = None
house_of (Offer house _ _ _) = Some house
house_of (Bid house _ _ _) = Some house
house_of (Transfer house _ _ _ _) = Some house
house_of (Withdraw house _ _) = Some house
house_of (Close house) = Some house
house_of (Try house) = Some house
house_of (Settle house) = Some house
house_of (Void house) = Some house
house_of (Quantity house _ _ _) = Some house
house_of (Lambda house _) = Some house
house_of (ShadowPrice house _ _) = Some house
