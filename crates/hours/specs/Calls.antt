-- Which call of the box a command of the stream makes.
use Rattle.std.specs.Prelude.{Some, None, Option}
use Rattle.stream.specs.declared.commands.Command.{Command}
use Rattle.stream.specs.declared.commands.Command.TheVariants as Word
use Rattle.kinds.specs.declared.linear.ZoneWish.{ZoneWish}
use Rattle.kinds.specs.declared.transfer.kind.TransferWish.{TransferWish}
use Rattle.history.specs.declared.calls.Wish.TheVariants.{First, Second, Third}
use Rattle.history.specs.declared.calls.Filling.TheVariants.{Quantity, Lambda, ShadowPrice}
use Rattle.history.specs.declared.calls.Call.{Call}
use Rattle.history.specs.declared.calls.Call.TheVariants.{Enter, Withdraw, Close, Fill, Try, Settle, Void}
use Rattle.history.specs.Events.{History}

-- the calls of the stream: offers go to the first list, bids to the second, transfers to the third
abbrev pub StreamCall : Type 0
StreamCall = Call ZoneWish ZoneWish TransferWish

abbrev pub StreamHistory : Type 0
StreamHistory = History ZoneWish ZoneWish TransferWish

-- none for a command of the network block
abbrev pub call_of : Command → Option StreamCall
call_of (Word.Tree _) = None
call_of (Word.Table _) = None
call_of (Word.Link _ _ _) = None
call_of (Word.Row _ _) = None
call_of (Word.Monitor _ _) = None
call_of (Word.HoldBack _ _) = None
call_of Word.Open = None
call_of (Word.Offer house zone price quantity) = Some (Enter house (First (record { zone = zone; price = price; quantity = quantity })))
call_of (Word.Bid house zone price quantity) = Some (Enter house (Second (record { zone = zone; price = price; quantity = quantity })))
call_of (Word.Transfer house first second price quantity) = Some (Enter house (Third (record { first = first; second = second; price = price; quantity = quantity })))
call_of (Word.Withdraw house list number) = Some (Withdraw house list number)
call_of (Word.Close house) = Some (Close house)
call_of (Word.Try house) = Some (Try house)
call_of (Word.Settle house) = Some (Settle house)
call_of (Word.Void house) = Some (Void house)
call_of (Word.Quantity house list number quantity) = Some (Fill house (Quantity list number quantity))
call_of (Word.Lambda house lambda) = Some (Fill house (Lambda lambda))
call_of (Word.ShadowPrice house line price) = Some (Fill house (ShadowPrice line price))
