-- The items of a list in a fixed place.
use Rattle.std.specs.Prelude.{ℕ, List, take}
use Rattle.filled.specs.declared.list.Filled.{Filled}

-- as many as are counted; what stands past them is no item
abbrev pub kept : {T : Type 0} {N : ℕ} → Filled T N → List T
kept list = take list.count list.rows
