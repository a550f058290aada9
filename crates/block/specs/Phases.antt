-- Which commands the network block allows, and how far it has come after one that was accepted.
use Rattle.std.specs.Prelude.{◌≡◌, ℕ, zero, suc, ◌-◌, ◌≤◌, Bool, true, false, Some, None, Ok, Err, Option, Result}
use Rattle.stream.specs.declared.commands.Command.{Command}
use Rattle.stream.specs.declared.commands.Command.TheVariants.{Tree, Table, Link, Row, Monitor, HoldBack, Open, Offer, Bid, Transfer, Withdraw, Close, Try, Settle, Void, Quantity, Lambda, ShadowPrice}
use Rattle.stream.specs.Spelling.{house_of}
use Rattle.auction.specs.declared.Fault.{Fault}
use Rattle.auction.specs.Refusals.{refusal_of}
use Rattle.auction.specs.declared.Refusal.{Refusal}
use Rattle.auction.specs.declared.Refusal.TheVariants.{NoCommand, NoOperands, Stranger, NotNow, Missing, OutOfRange, NotOwn, NoPlace, NoTry, Sheet}
use Rattle.block.specs.declared.phases.Phase.{Phase}
use Rattle.block.specs.declared.phases.Phase.TheVariants.{Start, Links, Linked, Rows, Monitored, HeldBack}
use Rattle.block.specs.declared.phases.Phase.TheVariants as Reached

-- a network begins where none was given yet
abbrev pub may_begin : Phase → Bool
may_begin Start = true
may_begin (Links _) = false
may_begin Linked = false
may_begin Rows = false
may_begin Monitored = false
may_begin HeldBack = false
may_begin Reached.Open = false

-- a tree takes links until each zone but the first has one
abbrev pub may_link : Phase → Bool
may_link Start = false
may_link (Links _) = true
may_link Linked = false
may_link Rows = false
may_link Monitored = false
may_link HeldBack = false
may_link Reached.Open = false

-- a table takes rows until a layer comes over it
abbrev pub may_add_rows : Phase → Bool
may_add_rows Start = false
may_add_rows (Links _) = false
may_add_rows Linked = false
may_add_rows Rows = true
may_add_rows Monitored = false
may_add_rows HeldBack = false
may_add_rows Reached.Open = false

-- a whole network takes monitored lines until some capacity is held back
abbrev pub may_monitor : Phase → Bool
may_monitor Start = false
may_monitor (Links _) = false
may_monitor Linked = true
may_monitor Rows = true
may_monitor Monitored = true
may_monitor HeldBack = false
may_monitor Reached.Open = false

-- a whole network can be held back, and opened
abbrev pub whole : Phase → Bool
whole Start = false
whole (Links _) = false
whole Linked = true
whole Rows = true
whole Monitored = true
whole HeldBack = true
whole Reached.Open = false

-- the commands of the houses are for the open box
abbrev pub allowed : Phase → Command → Bool
allowed p (Tree _) = may_begin p
allowed p (Table _) = may_begin p
allowed p (Link _ _ _) = may_link p
allowed p (Row _ _) = may_add_rows p
allowed p (Monitor _ _) = may_monitor p
allowed p (HoldBack _ _) = whole p
allowed p Open = whole p
allowed p (Offer _ _ _ _) = false
allowed p (Bid _ _ _ _) = false
allowed p (Transfer _ _ _ _ _) = false
allowed p (Withdraw _ _ _) = false
allowed p (Close _) = false
allowed p (Try _) = false
allowed p (Settle _) = false
allowed p (Void _) = false
allowed p (Quantity _ _ _ _) = false
allowed p (Lambda _ _) = false
allowed p (ShadowPrice _ _ _) = false

-- the commands that belong to the layers over the base, and end it
abbrev pub for_layers : Command → Bool
for_layers (Tree _) = false
for_layers (Table _) = false
for_layers (Link _ _ _) = false
for_layers (Row _ _) = false
for_layers (Monitor _ _) = true
for_layers (HoldBack _ _) = true
for_layers Open = true
for_layers (Offer _ _ _ _) = false
for_layers (Bid _ _ _ _) = false
for_layers (Transfer _ _ _ _ _) = false
for_layers (Withdraw _ _ _) = false
for_layers (Close _) = false
for_layers (Try _) = false
for_layers (Settle _) = false
for_layers (Void _) = false
for_layers (Quantity _ _ _ _) = false
for_layers (Lambda _ _) = false
for_layers (ShadowPrice _ _ _) = false

-- a tree of which so many links are still to come
abbrev pub links_to_come : ℕ → Phase
links_to_come zero = Linked
links_to_come (suc n) = Links (suc n)

abbrev pub after_link : Phase → Phase
after_link Start = Start
after_link (Links missing) = links_to_come (missing - 1)
after_link Linked = Linked
after_link Rows = Rows
after_link Monitored = Monitored
after_link HeldBack = HeldBack
after_link Reached.Open = Reached.Open

-- after an accepted command
abbrev pub next_phase : Phase → Command → Phase
next_phase p (Tree zones) = links_to_come (zones - 1)
next_phase p (Table _) = Rows
next_phase p (Link _ _ _) = after_link p
next_phase p (Row _ _) = Rows
next_phase p (Monitor _ _) = Monitored
next_phase p (HoldBack _ _) = HeldBack
next_phase p Open = Reached.Open
next_phase p (Offer _ _ _ _) = p
next_phase p (Bid _ _ _ _) = p
next_phase p (Transfer _ _ _ _ _) = p
next_phase p (Withdraw _ _ _) = p
next_phase p (Close _) = p
next_phase p (Try _) = p
next_phase p (Settle _) = p
next_phase p (Void _) = p
next_phase p (Quantity _ _ _ _) = p
next_phase p (Lambda _ _) = p
next_phase p (ShadowPrice _ _ _) = p

-- a house that is neither 0 nor 1
abbrev pub Strange : Option ℕ → Type 0
Strange None = ⊥
Strange (Some house) = 2 ≤ house

-- the answer to a command: a stranger's is refused first, then one that is not allowed now
abbrev pub AllowedNext : Phase → Command → Result Phase Refusal → Type 0
AllowedNext p c (Ok next) = (Strange (house_of c) → ⊥) × (allowed p c ≡ true) × (next ≡ next_phase p c)
AllowedNext p c (Err NoCommand) = ⊥
AllowedNext p c (Err NoOperands) = ⊥
AllowedNext p c (Err Stranger) = Strange (house_of c)
AllowedNext p c (Err NotNow) = (Strange (house_of c) → ⊥) × (allowed p c ≡ false)
AllowedNext p c (Err Missing) = ⊥
AllowedNext p c (Err OutOfRange) = ⊥
AllowedNext p c (Err NotOwn) = ⊥
AllowedNext p c (Err NoPlace) = ⊥
AllowedNext p c (Err NoTry) = ⊥
AllowedNext p c (Err (Sheet _)) = ⊥

-- a fault of a network's addition, told as a refusal
abbrev pub told : {X : Type 0} → Result X Fault → Result X Refusal
told (Ok x) = Ok x
told (Err fault) = Err (refusal_of fault)

-- an answer is the telling of one with this property
abbrev pub Tells : {X : Type 0} → Result X Refusal → (Result X Fault → Type 0) → Type 0
Tells {X} r P = (f : Result X Fault) × P f × (r ≡ told f)
