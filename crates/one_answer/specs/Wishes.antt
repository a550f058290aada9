-- The questions about the wish for an offer, a bid or a transfer.
use Rattle.std.specs.Prelude.{ℕ, max}
use Rattle.std.proofs.Math.Logic.Dec
use Rattle.std.proofs.Math.Decide.{map_dec, dec_le, dec_lt, ℕ_discrete}
use Rattle.auction.specs.Bounds.{most_price, most_kwh}
use Rattle.rows.specs.Bounds.{InRange}
use Rattle.kinds.specs.Kinds.{TwoZones}
use Rattle.kinds.specs.declared.ZoneWish.{ZoneWish}
use Rattle.kinds.specs.declared.TransferWish.{TransferWish}
use Rattle.history.specs.declared.calls.Wish.{Wish}
use Rattle.history.specs.declared.calls.Wish.TheVariants.{First, Second, Third}
use Rattle.one_answer.specs.Answers.{Answerable}
use Rattle.one_answer.specs.Power.{power_kinds}

two_zones : (first second zones : ℕ) → Dec (TwoZones first second zones)
two_zones first second zones = map_dec (λ are. record { there = are.0; apart = are.1 }) (λ are. (are.there, are.apart)) (Dec.and (dec_lt (max first second) zones) (Dec.not (ℕ_discrete first second)))

in_range : (price quantity : ℕ) → Dec (InRange price quantity)
in_range price quantity = map_dec (λ are. record { price_in_range = are.0; some = are.1.0; quantity_in_range = are.1.1 }) (λ are. (are.price_in_range, (are.some, are.quantity_in_range))) (Dec.and (dec_le price most_price) (Dec.and (dec_lt 0 quantity) (dec_le quantity most_kwh)))

found : (wish : Wish ZoneWish ZoneWish TransferWish) (zones : ℕ) → Dec (power_kinds.exists wish zones)
found (First w) zones = dec_lt w.zone zones
found (Second w) zones = dec_lt w.zone zones
found (Third w) zones = two_zones w.first w.second zones

fitting : (wish : Wish ZoneWish ZoneWish TransferWish) → Dec (power_kinds.ranged wish)
fitting (First w) = in_range w.price w.quantity
fitting (Second w) = in_range w.price w.quantity
fitting (Third w) = in_range w.price w.quantity

pub answerable : Answerable power_kinds
answerable = record { exists = found; ranged = fitting }
