-- How many of each thing there may be, and how large each number; each bound stands here once.
use Rattle.std.specs.Prelude.{ℕ}

abbrev pub most_zones : ℕ
most_zones = 24

abbrev pub most_lines : ℕ
most_lines = 60

-- monitored rows of one layer
abbrev pub most_monitored : ℕ
most_monitored = 10

-- orders entered in one list in one hour
abbrev pub most_orders : ℕ
most_orders = 512

-- tries in one hour
abbrev pub most_tries : ℕ
most_tries = 200

-- settled hours
abbrev pub most_hours : ℕ
most_hours = 744

-- a quantity, a limit, a held-back amount, and all standing orders together, in kWh
abbrev pub most_kwh : ℕ
most_kwh = 10000000

-- an order's price, in cents per MWh
abbrev pub most_price : ℕ
most_price = 500000

-- the size of lambda, in thousandths of a cent per MWh
abbrev pub most_lambda : ℕ
most_lambda = 1000000000

-- the size of a zone price, in thousandths of a cent per MWh
abbrev pub most_zone_price : ℕ
most_zone_price = 500000000

-- a line's shadow price, in cents per MWh
abbrev pub most_shadow_price : ℕ
most_shadow_price = 1000000

-- the size of a sensitivity, in thousandths
abbrev pub most_sensitivity : ℕ
most_sensitivity = 1000
