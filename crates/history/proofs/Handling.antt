-- From what happens to one list to what the box holds.
use Rattle.std.proofs.Common.{◌≡◌, ℕ, zero, suc, ◌+◌, ◌<◌, true, cond, eqb, ◌⊎◌, List, [], ◌∷◌, ◌++◌, length, Ok, Err, sym, refl, ap, subst, inl, inr, append-nil, arith}
use Rattle.auction.specs.declared.House.{House}
use Rattle.auction.specs.declared.Refusal.{Refusal}
use Rattle.auction.specs.declared.Refusal.TheVariants.{Missing, OutOfRange, NoPlace}
use Rattle.auction.specs.Sums.{Σℕ}
use Rattle.auction.specs.Houses.{house_number}
use Rattle.auction.specs.Grids.{Grid}
use Rattle.auction.specs.Hours.{Entry, Book, list_at}
use Rattle.orders.specs.Reads.{standing_kwh, without, PlaceLeft}
use Rattle.history.specs.declared.calls.Wish.TheVariants.{First, Second, Third}
use Rattle.history.specs.declared.calls.Wish.{Wish}
use Rattle.history.specs.declared.calls.Call.TheVariants.{Enter, Withdraw}
use Rattle.history.specs.Events.{Answer, Kinds, taken, list_of}
use Rattle.history.specs.Situations.{Situation}
use Rattle.history.specs.Right.{Ask, Done, Room, Questions, all_standing_kwh}
use Rattle.history.specs.Steps.{after}
use Rattle.history.specs.Handling.{ListEntered, ListWithdrawn, Handled}

-- the same situation with other orders
abbrev pub with_book : Situation → Book → Situation
with_book s b = record s { book = b }

abbrev pub three : List Entry → List Entry → List Entry → Book
three x y z = x ∷ y ∷ z ∷ []

pub same_three : {a b c x y z : List Entry} → a ≡ x → b ≡ y → c ≡ z → three a b c ≡ three x y z
same_three p q r = cc

-- another way to put the same question
ask_same : {P Q X : Type 0} {refusal : Refusal} {a : Answer} → (P → Q) → (Q → P) → (P × X) ⊎ ((P → ⊥) × (a ≡ Err refusal)) → (Q × X) ⊎ ((Q → ⊥) × (a ≡ Err refusal))
ask_same to from (inl x) = inl (to x.0, x.1)
ask_same to from (inr x) = inr ((λ q. x.0 (from q)), x.1)

ask_next : {P X Y : Type 0} {refusal : Refusal} {a : Answer} → (X → Y) → (P × X) ⊎ ((P → ⊥) × (a ≡ Err refusal)) → (P × Y) ⊎ ((P → ⊥) × (a ≡ Err refusal))
ask_next f (inl x) = inl (x.0, f x.1)
ask_next f (inr x) = inr x

-- the standing orders of three lists
pub all_of_three : (x y z : List Entry) → all_standing_kwh (three x y z) ≡ standing_kwh x + standing_kwh y + standing_kwh z
unfolding Σℕ
all_of_three x y z = omega arith

room_to : (b : Book) (l q elsewhere : ℕ) → standing_kwh (list_at b l) + elsewhere ≡ all_standing_kwh b → PlaceLeft (list_at b l) elsewhere q → Room b l q
room_to b l q elsewhere e p = (p.few_enough, omega (arith, p.modest_enough))

room_from : (b : Book) (l q elsewhere : ℕ) → standing_kwh (list_at b l) + elsewhere ≡ all_standing_kwh b → Room b l q → PlaceLeft (list_at b l) elsewhere q
room_from b l q elsewhere e r = record { few_enough = r.0; modest_enough = omega (arith, r.1) }

-- Entering: one lemma for each list

first_after : {P Q R : Type 0} (k : Kinds P Q R) (g : Grid) (i : ℕ) (w : P) (s : Situation) (x y z x' : List Entry) (a : Answer)
    → x' ≡ cond (taken a) (x ++ record { house = i; standing = true; order = k.order (First w) } ∷ []) x
    → with_book s (three x' y z) ≡ after k g (with_book s (three x y z)) (record { call = Enter i (First w); answer = a })
first_after k g i w s x y z x' (Ok reply) e = ap (with_book s) (same_three e (sym (append-nil y)) (sym (append-nil z)))
first_after k g i w s x y z x' (Err refusal) e = ap (with_book s) (same_three e refl refl)

second_after : {P Q R : Type 0} (k : Kinds P Q R) (g : Grid) (i : ℕ) (w : Q) (s : Situation) (x y z y' : List Entry) (a : Answer)
    → y' ≡ cond (taken a) (y ++ record { house = i; standing = true; order = k.order (Second w) } ∷ []) y
    → with_book s (three x y' z) ≡ after k g (with_book s (three x y z)) (record { call = Enter i (Second w); answer = a })
second_after k g i w s x y z y' (Ok reply) e = ap (with_book s) (same_three (sym (append-nil x)) e (sym (append-nil z)))
second_after k g i w s x y z y' (Err refusal) e = ap (with_book s) (same_three refl e refl)

third_after : {P Q R : Type 0} (k : Kinds P Q R) (g : Grid) (i : ℕ) (w : R) (s : Situation) (x y z z' : List Entry) (a : Answer)
    → z' ≡ cond (taken a) (z ++ record { house = i; standing = true; order = k.order (Third w) } ∷ []) z
    → with_book s (three x y z') ≡ after k g (with_book s (three x y z)) (record { call = Enter i (Third w); answer = a })
third_after k g i w s x y z z' (Ok reply) e = ap (with_book s) (same_three (sym (append-nil x)) (sym (append-nil y)) e)
third_after k g i w s x y z z' (Err refusal) e = ap (with_book s) (same_three refl refl e)

-- the questions of a call that enters, where the place in one list was asked for
place_asked : {P Q R : Type 0} (k : Kinds P Q R) (g : Grid) (house : House) (i : ℕ) (wish : Wish P Q R) (s : Situation) (zones elsewhere : ℕ) (a : Answer)
    → zones ≡ g.zones
    → standing_kwh (list_at s.book (list_of wish)) + elsewhere ≡ all_standing_kwh s.book
    → Ask (k.exists wish zones) Missing (Ask (k.ranged wish) OutOfRange (Ask (PlaceLeft (list_at s.book (list_of wish)) elsewhere (k.order wish).largest) NoPlace Done)) a
    → Questions k g s house (Enter i wish) a
place_asked k g house i wish s zones elsewhere a zs all asked =
    ask_next (ask_next (ask_same (room_to s.book (list_of wish) (k.order wish).largest elsewhere all) (room_from s.book (list_of wish) (k.order wish).largest elsewhere all)))
    (subst (λ n. Ask (k.exists wish n) Missing (Ask (k.ranged wish) OutOfRange (Ask (PlaceLeft (list_at s.book (list_of wish)) elsewhere (k.order wish).largest) NoPlace Done)) a) zs asked)

module _ {P Q R : Type 0} (k : Kinds P Q R) (g : Grid) (house : House) (s : Situation) (x y z : List Entry) (wish : Wish P Q R) (zones elsewhere : ℕ) (zs : zones ≡ g.zones) (a : Answer) where
  -- the call enters its wish into one list, and leaves the others
  abbrev Enters : List Entry → List Entry → List Entry → Wish P Q R → Type 0
  Enters x' y' z' meant = Handled k g house (Enter (house_number house) meant) (with_book s (three x y z)) a (with_book s (three x' y' z'))

  pub entered_first : (w : P) → wish ≡ First w → elsewhere ≡ standing_kwh y + standing_kwh z → (x' : List Entry)
      → ListEntered (k.exists (First w) zones) (k.ranged (First w)) house (k.order (First w)) elsewhere x a x' → Enters x' y z wish
  entered_first w is e x' done = subst (Enters x' y z) (sym is) (record {
    answered = place_asked k g house (house_number house) (First w) (with_book s (three x y z)) zones elsewhere a zs (omega (arith, e, all_of_three x y z)) done.answered;
    next = first_after k g (house_number house) w s x y z x' a done.next;
  })

  pub entered_second : (w : Q) → wish ≡ Second w → elsewhere ≡ standing_kwh x + standing_kwh z → (y' : List Entry)
      → ListEntered (k.exists (Second w) zones) (k.ranged (Second w)) house (k.order (Second w)) elsewhere y a y' → Enters x y' z wish
  entered_second w is e y' done = subst (Enters x y' z) (sym is) (record {
    answered = place_asked k g house (house_number house) (Second w) (with_book s (three x y z)) zones elsewhere a zs (omega (arith, e, all_of_three x y z)) done.answered;
    next = second_after k g (house_number house) w s x y z y' a done.next;
  })

  pub entered_third : (w : R) → wish ≡ Third w → elsewhere ≡ standing_kwh x + standing_kwh y → (z' : List Entry)
      → ListEntered (k.exists (Third w) zones) (k.ranged (Third w)) house (k.order (Third w)) elsewhere z a z' → Enters x y z' wish
  entered_third w is e z' done = subst (Enters x y z') (sym is) (record {
    answered = place_asked k g house (house_number house) (Third w) (with_book s (three x y z)) zones elsewhere a zs (omega (arith, e, all_of_three x y z)) done.answered;
    next = third_after k g (house_number house) w s x y z z' a done.next;
  })

-- Withdrawing

-- one list of three, left as it is or with an order withdrawn
one_of_three : {P Q R : Type 0} (k : Kinds P Q R) (g : Grid) (i list number : ℕ) (s : Situation) (x y z x' y' z' : List Entry) (a : Answer)
    → x' ≡ cond (taken a) (cond (eqb 0 list) (without x number) x) x
    → y' ≡ cond (taken a) (cond (eqb 1 list) (without y number) y) y
    → z' ≡ cond (taken a) (cond (eqb 2 list) (without z number) z) z
    → with_book s (three x' y' z') ≡ after k g (with_book s (three x y z)) (record { call = Withdraw i list number; answer = a })
one_of_three k g i list number s x y z x' y' z' (Ok reply) p q r = ap (with_book s) (same_three p q r)
one_of_three k g i list number s x y z x' y' z' (Err refusal) p q r = ap (with_book s) (same_three p q r)

same_either : (a : Answer) (x : List Entry) → x ≡ cond (taken a) x x
same_either (Ok reply) x = refl
same_either (Err refusal) x = refl

module _ {P Q R : Type 0} (k : Kinds P Q R) (g : Grid) (house : House) (s : Situation) (x y z : List Entry) (list number : ℕ) (a : Answer) where
  abbrev Withdraws : List Entry → List Entry → List Entry → ℕ → Type 0
  Withdraws x' y' z' l = Handled k g house (Withdraw (house_number house) l number) (with_book s (three x y z)) a (with_book s (three x' y' z'))

  pub withdrawn_first : (x' : List Entry) → list ≡ 0 → ListWithdrawn house number x a x' → Withdraws x' y z list
  withdrawn_first x' is done = subst (Withdraws x' y z) (sym is) (record { answered = done.answered; next = one_of_three k g (house_number house) 0 number s x y z x' y z a done.next (same_either a y) (same_either a z) })

  pub withdrawn_second : (y' : List Entry) → list ≡ 1 → ListWithdrawn house number y a y' → Withdraws x y' z list
  withdrawn_second y' is done = subst (Withdraws x y' z) (sym is) (record { answered = done.answered; next = one_of_three k g (house_number house) 1 number s x y z x y' z a (same_either a x) done.next (same_either a z) })

  pub withdrawn_third : (z' : List Entry) → list ≡ 2 → ListWithdrawn house number z a z' → Withdraws x y z' list
  withdrawn_third z' is done = subst (Withdraws x y z') (sym is) (record { answered = done.answered; next = one_of_three k g (house_number house) 2 number s x y z x y z' a (same_either a x) (same_either a y) done.next })

-- there are only three lists
no_fourth : (x y z : List Entry) (list number : ℕ) → (list ≡ 0 → ⊥) → (list ≡ 1 → ⊥) → (list ≡ 2 → ⊥) → number < length (list_at (three x y z) list) → ⊥
no_fourth x y z zero number n0 n1 n2 lt = n0 refl
no_fourth x y z (suc zero) number n0 n1 n2 lt = n1 refl
no_fourth x y z (suc (suc zero)) number n0 n1 n2 lt = n2 refl
no_fourth x y z (suc (suc (suc l))) number n0 n1 n2 lt = omega (arith, lt)

pub withdrawn_none : {P Q R : Type 0} (k : Kinds P Q R) (g : Grid) (house : House) (s : Situation) (x y z : List Entry) (list number : ℕ) → (list ≡ 0 → ⊥) → (list ≡ 1 → ⊥) → (list ≡ 2 → ⊥)
    → Handled k g house (Withdraw (house_number house) list number) (with_book s (three x y z)) (Err Missing) (with_book s (three x y z))
withdrawn_none k g house s x y z list number n0 n1 n2 = record { answered = inr (no_fourth x y z list number n0 n1 n2, refl); next = refl }
