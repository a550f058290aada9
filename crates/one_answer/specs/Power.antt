-- What the lists of offers, bids and transfers take: each asks of a wish what the kind of its orders says, a transfer in its ghost members, an offer and a bid in the definitions that every order with one zone has for its own.
use Rattle.kinds.specs.declared.ZoneWish.{ZoneWish}
use Rattle.kinds.specs.declared.TransferWish.{TransferWish}
use Rattle.kinds.specs.Wishes.{order_wished, zone_found, terms_fit}
use Rattle.kinds.specs.contracts.selling.SellingSide.TheImpl.{ghosts as offer}
use Rattle.kinds.specs.contracts.buying.BuyingSide.TheImpl.{ghosts as bid}
use Rattle.kinds.specs.contracts.transfer.kind.TransferKind.TheImpl.{ghosts as transfer}
use Rattle.history.specs.Events.{Kinds, by_list}

abbrev pub power_kinds : Kinds ZoneWish ZoneWish TransferWish
power_kinds = record { order = by_list (order_wished offer.meant) (order_wished bid.meant) transfer.wished; exists = by_list zone_found zone_found transfer.found; ranged = by_list terms_fit terms_fit transfer.fitting }
