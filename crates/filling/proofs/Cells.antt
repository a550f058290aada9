-- From what each way of filling a sheet says to what a filling says.
use Rattle.std.proofs.Common.{◌≡◌, ℕ, ◌<◌, ◌≤◌, ℤ, nat_abs, Some, Ok, Err, Result, sym, ap, subst}
use Rattle.auction.specs.declared.Fault.{Fault}
use Rattle.auction.specs.Refusals.{Answered, Always}
use Rattle.auction.specs.Bounds.{most_lambda, most_orders, most_kwh}
use Rattle.sheets.specs.declared.sheet.Sheet.{Sheet}
use Rattle.sheets.specs.Proposals.{dispatch_of, prices_of, with_quantity}
use Rattle.history.specs.declared.calls.Filling.{Filling}
use Rattle.history.specs.declared.calls.Filling.TheVariants.{Quantity, Lambda}
use Rattle.history.specs.Right.{Fitting}
use Rattle.filling.specs.Sheets.{HasPlace, SheetFilled}

abbrev pub AnswerFilled : Filling → Sheet → Sheet → Result (Unit {0}) Fault → Type 0
AnswerFilled f s t r = Answered r (HasPlace f) (Fitting f) Always (λ _. SheetFilled s t (Some f)) (t ≡ s)

pub quantity_filled : (f : Filling) (list number kWh : ℕ) → f ≡ Quantity list number kWh → (s t : Sheet) (r : Result (Unit {0}) Fault)
    → Answered r ((list < 3) × (number < most_orders)) (kWh ≤ most_kwh) Always (λ _. ((l n : ℕ) → dispatch_of t l n ≡ with_quantity (dispatch_of s) list number kWh l n) × (prices_of t ≡ prices_of s)) (t ≡ s)
    → AnswerFilled f s t r
quantity_filled f list number kWh is s t (Ok u) a =
    subst (λ x. AnswerFilled x s t (Ok u)) (sym is) (a.0, a.1, a.2, record { quantities = a.3.0; lambda = ap (λ p. p.lambda) a.3.1; shadows = λ l. ap (λ p. p.shadow l) a.3.1 })
quantity_filled f list number kWh is s t (Err fault) a = subst (λ x. AnswerFilled x s t (Err fault)) (sym is) a

pub lambda_filled : (f : Filling) (lambda : ℤ) → f ≡ Lambda lambda → (s t : Sheet) (r : Result (Unit {0}) Fault)
    → Answered r Always (nat_abs lambda ≤ most_lambda) Always (λ _. ((l n : ℕ) → dispatch_of t l n ≡ dispatch_of s l n) × (prices_of t ≡ record { lambda = lambda; shadow = (prices_of s).shadow })) (t ≡ s)
    → AnswerFilled f s t r
lambda_filled f lambda is s t (Ok u) a =
    subst (λ x. AnswerFilled x s t (Ok u)) (sym is) (a.0, a.1, a.2, record { quantities = a.3.0; lambda = ap (λ p. p.lambda) a.3.1; shadows = λ l. ap (λ p. p.shadow l) a.3.1 })
lambda_filled f lambda is s t (Err fault) a = subst (λ x. AnswerFilled x s t (Err fault)) (sym is) a
