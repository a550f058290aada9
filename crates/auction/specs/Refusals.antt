-- Why a command is refused: the question that got a no, its number, and the place that it names.
use Rattle.std.specs.Prelude.{ℕ, Ok, Err, Result}
use Rattle.auction.specs.declared.Broken.{Broken}
use Rattle.auction.specs.declared.Broken.TheVariants.{Quantity, Balance, Flow, ZonePrice, Binding, Contentment}
use Rattle.auction.specs.declared.Refusal.{Refusal}
use Rattle.auction.specs.declared.Refusal.TheVariants.{NoCommand, NoOperands, Stranger, NotNow, Missing, OutOfRange, NotOwn, NoPlace, NoTry, Sheet}
use Rattle.auction.specs.declared.Fault.{Fault}
use Rattle.auction.specs.declared.Fault.TheVariants as Lack

abbrev pub broken_number : Broken → ℕ
broken_number (Quantity _ _) = 10
broken_number Balance = 11
broken_number (Flow _) = 12
broken_number (ZonePrice _) = 13
broken_number (Binding _) = 14
broken_number (Contentment _ _) = 15

abbrev pub broken_place : Broken → ℕ × ℕ
broken_place (Quantity list number) = (list, number)
broken_place Balance = (0, 0)
broken_place (Flow line) = (line, 0)
broken_place (ZonePrice zone) = (zone, 0)
broken_place (Binding line) = (line, 0)
broken_place (Contentment list number) = (list, number)

abbrev pub refusal_number : Refusal → ℕ
refusal_number NoCommand = 1
refusal_number NoOperands = 2
refusal_number Stranger = 3
refusal_number NotNow = 4
refusal_number Missing = 5
refusal_number OutOfRange = 6
refusal_number NotOwn = 7
refusal_number NoPlace = 8
refusal_number NoTry = 9
refusal_number (Sheet broken) = broken_number broken

abbrev pub refusal_place : Refusal → ℕ × ℕ
refusal_place NoCommand = (0, 0)
refusal_place NoOperands = (0, 0)
refusal_place Stranger = (0, 0)
refusal_place NotNow = (0, 0)
refusal_place Missing = (0, 0)
refusal_place OutOfRange = (0, 0)
refusal_place NotOwn = (0, 0)
refusal_place NoPlace = (0, 0)
refusal_place NoTry = (0, 0)
refusal_place (Sheet broken) = broken_place broken

abbrev pub refusal_of : Fault → Refusal
refusal_of Lack.Missing = Missing
refusal_of Lack.OutOfRange = OutOfRange
refusal_of Lack.NoPlace = NoPlace

-- What is answered to the wish to add something: the questions are put in their order, and the first that gets a no is the answer.
abbrev pub FirstNo : Type 0 → Type 0 → Type 0 → Fault → Type 0
FirstNo exists in_range place-left Lack.Missing = exists → ⊥
FirstNo exists in_range place-left Lack.OutOfRange = exists × (in_range → ⊥)
FirstNo exists in_range place-left Lack.NoPlace = exists × in_range × (place-left → ⊥)

-- three yes and what then holds of the value made, or the first no and what then holds
abbrev pub Answered : {X : Type 0} → Result X Fault → Type 0 → Type 0 → Type 0 → (X → Type 0) → Type 0 → Type 0
Answered (Ok x) exists in_range place-left Made Refused = exists × in_range × place-left × Made x
Answered (Err fault) exists in_range place-left Made Refused = FirstNo exists in_range place-left fault × Refused

-- a question that always gets a yes
abbrev pub Always : Type 0
Always = Unit {0}
