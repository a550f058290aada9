-- What a line's limit means: for the flow over it, for a shadow price on it, and for the congestion rent.
use Rattle.std.specs.Prelude.{◌≡◌, ℕ, ◌-◌, ◌*◌, ◌<◌, ◌≤◌, ℤ, pos, ◌≤ℤ◌}
use Rattle.auction.specs.Bounds.{most_kwh}

-- a limit is a number of kWh
abbrev pub Limit : Type 0
Limit = ℕ

abbrev pub LimitInRange : Limit → Type 0
LimitInRange limit = limit ≤ most_kwh

-- the limit that is read of a line that is not there
abbrev pub zero_limit : Limit
zero_limit = 0

-- what is left of a limit when some kWh are held back; never below 0
abbrev pub lowered : Limit → ℕ → Limit
lowered limit held = limit - held

-- the limit in the unit of flows, thousandths of a kWh
abbrev pub capacity : Limit → ℤ
capacity limit = pos (1000 * limit)

abbrev pub WithinLimit : Limit → ℤ → Type 0
WithinLimit limit flow = flow ≤ℤ capacity limit

-- a positive shadow price wants a flow that is at its limit
abbrev pub Binds : Limit → ℕ → ℤ → Type 0
Binds limit shadow flow = 0 < shadow → flow ≡ capacity limit

-- the rent of one line, in millionths of a cent: 1000 times its shadow price times its limit
abbrev pub line_rent : Limit → ℕ → ℤ
line_rent limit shadow = pos (1000 * (shadow * limit))
