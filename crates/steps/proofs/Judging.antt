-- Calls that judge a sheet or end the hour.
use Rattle.std.proofs.Common.{◌≡◌, suc, true, false, [], ℤ, pos, ◌+ℤ◌, IsErrAnd, Ok, Err, Result, sym, refl, ap, ◌∙◌, subst, inl, inr}
use mathlib.Core.Path.{fun_ext}
use Rattle.auction.specs.declared.House.{House}
use Rattle.auction.specs.declared.House.TheVariants.{Zero, One}
use Rattle.auction.specs.declared.Broken.{Broken}
use Rattle.auction.specs.declared.Refusal.{Refusal}
use Rattle.auction.specs.declared.Refusal.TheVariants as Refused
use Rattle.auction.specs.Houses.{house_number}
use Rattle.auction.specs.Grids.{Grid}
use Rattle.auction.specs.Hours.{Book as Orders, Dispatch, Prices, amount_of, rent_of}
use Rattle.orders.specs.declared.OrderList.{Ghosts as ListMeaning}
use Rattle.orders.specs.declared.book.Book.{Book}
use Rattle.orders.specs.Books.{booked, book_of}
use Rattle.judgement.specs.declared.verdict.Verdict as Found
use Rattle.judgement.specs.Verdicts.{Judged}
use Rattle.ledger.specs.Pages.{Page, tried_page, new_page, settled_page, paid_by}
use Rattle.filling.specs.Sheets.{Sheets, sheet_of, dispatches, prices_by, Blank}
use Rattle.sheets.specs.declared.sheet.Sheet.{Sheet}
use Rattle.sheets.specs.Proposals.{dispatch_of, prices_of}
use Rattle.history.specs.declared.calls.Call.TheVariants.{Try, Settle, Void}
use Rattle.history.specs.declared.calls.Reply.{Reply}
use Rattle.history.specs.declared.calls.Reply.TheVariants.{Done, Accepted}
use Rattle.history.specs.Events.{Answer, numbered}
use Rattle.history.specs.Right.{Verdict}
use Rattle.history.specs.Handling.{Handled}
use Rattle.history.proofs.Calling.{numbered_is}
use Rattle.steps.specs.Parts.{kinds_of, situation_of, Spent}
use Rattle.steps.proofs.Sheets.{same_prices}

-- what the judgement finds, as an answer
accepted_answer : (g : Grid) (b : Orders) (d : Dispatch) (p : Prices) (v : Found.Verdict) → Judged g b d p (Ok v) → Verdict g b d p (Ok (Accepted v.welfare v.rent))
accepted_answer g b d p v found = inl (found.0, let w = found.1 in let r = found.2 in cc)

broken_answer : (g : Grid) (b : Orders) (d : Dispatch) (p : Prices) (x : Broken) → Judged g b d p (Err x) → Verdict g b d p (Err (Refused.Sheet x))
broken_answer g b d p x found = inr (x, found, refl)

pub blank_dispatches : (s : Sheets) → Blank s → dispatches s ≡ (λ house l n. 0)
blank_dispatches s b = fun_ext (λ house. fun_ext (λ l. fun_ext (λ n. (b house).quantities l n)))

pub blank_prices : (s : Sheets) → Blank s → prices_by s ≡ (λ house. record { lambda = pos 0; shadow = λ l. 0 })
blank_prices s b = fun_ext (λ house. same_prices (b house).lambda (b house).shadows)

pub voided_so : {X Y W P Q R : Type 0} (x : ListMeaning X P) (y : ListMeaning Y Q) (w : ListMeaning W R) (g : Grid) (house : House) (b b' : Book X Y W) (s s' : Sheets) (p p' : Page) → booked x y w b' ≡ book_of [] [] [] → Blank s' → p' ≡ new_page p
    → Handled (kinds_of x y w) g house (Void (house_number house)) (situation_of (booked x y w b) s p) (Ok Done) (situation_of (booked x y w b') s' p')
voided_so x y w g house b b' s s' p p' none blank e = record {
  answered = refl;
  next = λ i. record { closed = (e i).closed; book = none i; dispatch = blank_dispatches s' blank i; prices = blank_prices s' blank i; tries = (e i).tries; settled_hours = (e i).settled; account = paid_by (e i); rent_account = (e i).rent };
}

-- the page of a closed hour that is settled
settled_is : (p : Page) (zero one rent : ℤ) → p.closed ≡ true → settled_page (tried_page p) zero one rent ≡ record { closed = false; tries = 0; settled = suc p.settled; zero = p.zero +ℤ zero; one = p.one +ℤ one; rent = p.rent +ℤ rent }
settled_is p zero one rent is = simp is

-- the house's own sheet was judged, and the page that was p is then p'
module _ {X Y W P Q R : Type 0} (x : ListMeaning X P) (y : ListMeaning Y Q) (w : ListMeaning W R) (g : Grid) (house : House) (b : Book X Y W) (s : Sheets) (p p' : Page) where
  -- the orders of the hour
  abbrev now_booked : Orders
  now_booked = booked x y w b

  -- what came of judging it
  abbrev Judges : Sheet → Result Found.Verdict Refusal → Type 0
  Judges sheet r = (sheet ≡ sheet_of s house) × Spent g now_booked (dispatch_of sheet) (prices_of sheet) p r p'

  own_sheet : (sheet : Sheet) (r : Result Found.Verdict Refusal) → Judges sheet r → Spent g now_booked (dispatches s house) (prices_by s house) p r p'
  own_sheet sheet r (is, found) = subst (λ t. Spent g now_booked (dispatch_of t) (prices_of t) p r p') is found

  abbrev Tries : Answer → Type 0
  Tries a = Handled (kinds_of x y w) g house (Try (house_number house)) (situation_of now_booked s p) a (situation_of now_booked s p')

  abbrev Settles : Answer → Type 0
  Settles a = Handled (kinds_of x y w) g house (Settle (house_number house)) (situation_of now_booked s p) a (situation_of now_booked s p')

  pub tried_so : (v : Found.Verdict) (sheet : Sheet) (reply : Reply) → reply ≡ Accepted v.welfare v.rent → Judges sheet (Ok v) → Tries (Ok reply)
  tried_so v sheet reply is judges =
      let own = own_sheet sheet (Ok v) judges in
      subst (λ r. Tries (Ok r)) (sym is) (record { answered = inl (own.0, accepted_answer g now_booked (dispatches s house) (prices_by s house) v own.1); next = ap (situation_of now_booked s) own.2 })

  -- a refused try, and a refused settle, at most use up a try
  try_refused : (refusal : Refusal) → Spent g now_booked (dispatches s house) (prices_by s house) p (Err refusal) p' → Tries (Err refusal)
  try_refused refusal (inl (none, is, e)) = subst (λ q. Tries (Err q)) (sym is) (record { answered = inr (none, refl); next = ap (situation_of now_booked s) e })
  try_refused refusal (inr (x, left, found, is, e)) = subst (λ q. Tries (Err q)) (sym is) (record { answered = inl (left, broken_answer g now_booked (dispatches s house) (prices_by s house) x found); next = ap (situation_of now_booked s) e })

  settle_refused : (refusal : Refusal) → Spent g now_booked (dispatches s house) (prices_by s house) p (Err refusal) p' → Settles (Err refusal)
  settle_refused refusal (inl (none, is, e)) = subst (λ q. Settles (Err q)) (sym is) (record { answered = inr (none, refl); next = ap (situation_of now_booked s) e })
  settle_refused refusal (inr (x, left, found, is, e)) = subst (λ q. Settles (Err q)) (sym is) (record { answered = inl (left, broken_answer g now_booked (dispatches s house) (prices_by s house) x found); next = ap (situation_of now_booked s) e })

  pub not_tried : (refusal : Refusal) (sheet : Sheet) (a : Answer) → IsErrAnd a (λ r. r ≡ refusal) → Judges sheet (Err refusal) → Tries a
  not_tried refusal sheet (Ok reply) lifted judges = absurd lifted
  not_tried refusal sheet (Err r) lifted judges = subst (λ q. Tries (Err q)) (sym lifted) (try_refused refusal (own_sheet sheet (Err refusal) judges))

  pub not_settled : (refusal : Refusal) (sheet : Sheet) (a : Answer) → IsErrAnd a (λ r. r ≡ refusal) → Judges sheet (Err refusal) → Settles a
  not_settled refusal sheet (Ok reply) lifted judges = absurd lifted
  not_settled refusal sheet (Err r) lifted judges = subst (λ q. Settles (Err q)) (sym lifted) (settle_refused refusal (own_sheet sheet (Err refusal) judges))

  -- an accepted settle: the amounts and the rent of the verdict are posted
  settled_by : (v : Found.Verdict) (b' : Book X Y W) (s' : Sheets) (p'' : Page) → p.closed ≡ true → Spent g now_booked (dispatches s house) (prices_by s house) p (Ok v) p' → p'' ≡ settled_page p' v.amounts.zero v.amounts.one v.rent → booked x y w b' ≡ book_of [] [] [] → Blank s'
      → Handled (kinds_of x y w) g house (Settle (house_number house)) (situation_of now_booked s p) (Ok (Accepted v.welfare v.rent)) (situation_of (booked x y w b') s' p'')
  settled_by v b' s' p'' is (left, found, spent) e none blank = record {
    answered = inl (left, accepted_answer g now_booked (dispatches s house) (prices_by s house) v found);
    next = λ i. record { closed = (now i).closed; book = none i; dispatch = blank_dispatches s' blank i; prices = blank_prices s' blank i; tries = (now i).tries; settled_hours = (now i).settled; account = accounts i; rent_account = rents i };
  }
    where
      now : p'' ≡ record { closed = false; tries = 0; settled = suc p.settled; zero = p.zero +ℤ v.amounts.zero; one = p.one +ℤ v.amounts.one; rent = p.rent +ℤ v.rent }
      now = e ∙ ap (λ q. settled_page q v.amounts.zero v.amounts.one v.rent) spent ∙ settled_is p v.amounts.zero v.amounts.one v.rent is

      due : House → House → ℤ
      due caller other = amount_of g now_booked (dispatches s caller) (prices_by s caller) (house_number other)

      each : (other : House) → paid_by p'' other ≡ paid_by p other +ℤ due (numbered (house_number house)) other
      each Zero = ap (λ q. q.zero) now ∙ ap (λ a. p.zero +ℤ a) (found.3 ∙ ap (λ h. due h Zero) (sym (numbered_is house)))
      each One = ap (λ q. q.one) now ∙ ap (λ a. p.one +ℤ a) (found.4 ∙ ap (λ h. due h One) (sym (numbered_is house)))

      accounts : paid_by p'' ≡ (λ other. paid_by p other +ℤ due (numbered (house_number house)) other)
      accounts = fun_ext each

      rents : p''.rent ≡ p.rent +ℤ rent_of g now_booked (dispatches s (numbered (house_number house))) (prices_by s (numbered (house_number house)))
      rents = ap (λ q. q.rent) now ∙ ap (λ a. p.rent +ℤ a) (found.2 ∙ ap (λ h. rent_of g now_booked (dispatches s h) (prices_by s h)) (sym (numbered_is house)))

  pub settled_so : (v : Found.Verdict) (sheet : Sheet) (reply : Reply) (rent : ℤ) (b' : Book X Y W) (s' : Sheets) (p'' : Page)
      → reply ≡ Accepted v.welfare v.rent → rent ≡ v.rent → p.closed ≡ true → Judges sheet (Ok v)
      → p'' ≡ settled_page p' v.amounts.zero v.amounts.one rent → booked x y w b' ≡ book_of [] [] [] → Blank s'
      → Handled (kinds_of x y w) g house (Settle (house_number house)) (situation_of now_booked s p) (Ok reply) (situation_of (booked x y w b') s' p'')
  settled_so v sheet reply rent b' s' p'' is er closed judges e none blank =
      subst (λ r. Handled (kinds_of x y w) g house (Settle (house_number house)) (situation_of now_booked s p) (Ok r) (situation_of (booked x y w b') s' p'')) (sym is)
      (settled_by v b' s' p'' closed (own_sheet sheet (Ok v) judges) (e ∙ ap (settled_page p' v.amounts.zero v.amounts.one) er) none blank)
