-- One hour as both houses see it, from the first order to its settling: each call with its answer.
use Rattle.std.specs.Prelude.{◌≡◌, ℕ, [], ◌∷◌, pos, neg_ℤ, Ok}
use Rattle.auction.specs.declared.House.TheVariants.{Zero, One}
use Rattle.auction.specs.declared.Broken.TheVariants.{Contentment}
use Rattle.kinds.specs.declared.linear.ZoneWish.{ZoneWish}
use Rattle.kinds.specs.declared.transfer.kind.TransferWish.{TransferWish}
use Rattle.history.specs.declared.calls.Wish.TheVariants.{First, Second}
use Rattle.history.specs.declared.calls.Filling.TheVariants.{Quantity, Lambda, ShadowPrice}
use Rattle.history.specs.declared.calls.Call.{Call}
use Rattle.history.specs.declared.calls.Call.TheVariants.{Enter, Close, Fill, Try, Settle}
use Rattle.history.specs.declared.calls.Reply.TheVariants as Says
use Rattle.history.specs.Events.{Answer, Event, History, Kinds}
use Rattle.history.specs.Words.{account, rent_account, settled_hours}
use Rattle.history.specs.Right.{Run}
use Rattle.one_answer.specs.Power.{power_kinds}
use Rattle.worked.specs.Cases.{accepted, refused}
use Rattle.worked.specs.Table.{two_zones}

-- offers, bids and transfers, as the lists of the program mean them
abbrev pub kinds : Kinds ZoneWish ZoneWish TransferWish
kinds = power_kinds

abbrev pub wish : (zone price quantity : ℕ) → ZoneWish
wish zone price quantity = record { zone = zone; price = price; quantity = quantity }

abbrev pub answered : Call ZoneWish ZoneWish TransferWish → Answer → Event ZoneWish ZoneWish TransferWish
answered call answer = record { call = call; answer = answer }

abbrev pub done : Call ZoneWish ZoneWish TransferWish → Event ZoneWish ZoneWish TransferWish
done call = answered call (Ok Says.Done)

-- The newest call stands first. House 0 forgets the price of the full line at its first try.
abbrev pub settled_hour : History ZoneWish ZoneWish TransferWish
settled_hour =
    answered (Settle 0) (accepted 300000 60000000)
    ∷ answered (Try 0) (accepted 300000 60000000)
    ∷ done (Fill 0 (ShadowPrice 1 2000))
    ∷ answered (Try 0) (refused (Contentment 0 1))
    ∷ done (Fill 0 (Lambda (pos 3000000)))
    ∷ done (Fill 0 (Quantity 1 0 60))
    ∷ done (Fill 0 (Quantity 0 1 30))
    ∷ done (Fill 0 (Quantity 0 0 30))
    ∷ done (Close 1)
    ∷ done (Enter 1 (Second (wish 1 9000 60)))
    ∷ done (Enter 0 (First (wish 1 5000 50)))
    ∷ done (Enter 0 (First (wish 0 3000 100)))
    ∷ []

-- every answer is right, the hour is settled, and its money is on the accounts
pub record SettledRun : Type 0 where
  pub right : Run kinds two_zones settled_hour
  pub settled : settled_hours settled_hour ≡ 1
  pub seller_is_paid : account kinds two_zones settled_hour Zero ≡ neg_ℤ (pos 240000000)
  pub buyer_pays : account kinds two_zones settled_hour One ≡ pos 300000000
  pub rent : rent_account kinds two_zones settled_hour ≡ pos 60000000
