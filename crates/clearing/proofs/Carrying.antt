-- From a call that is handled to what comes of it, and from that to the longer history.
use Rattle.std.proofs.Common.{◌≡◌, ℕ, ◌∷◌, Err, sym, refl, ap, ◌∙◌, subst}
use Rattle.auction.specs.declared.House.{House}
use Rattle.auction.specs.declared.Refusal.TheVariants.{NotNow}
use Rattle.auction.specs.Houses.{house_number}
use Rattle.network.specs.declared.Network.{Ghosts as NetworkMeaning}
use Rattle.orders.specs.declared.OrderList.{Ghosts as ListMeaning}
use Rattle.history.specs.declared.calls.Call.{Call}
use Rattle.history.specs.Events.{Answer, caller_number, of_closed_hour}
use Rattle.history.specs.Promise.{Promise}
use Rattle.history.specs.Keeping.{Keeps}
use Rattle.history.proofs.Calling.{allowed_outcome, not_now_outcome, kept_on}
use Rattle.clearing.specs.declared.state.ClearingBox.{ClearingBox}
use Rattle.clearing.specs.Views.{kinds_of, situation, Handles, ComesOut, CarriesOn}

module _ {N X Y W P Q R : Type 0} (n : NetworkMeaning N) (x : ListMeaning X P) (y : ListMeaning Y Q) (w : ListMeaning W R) (house : House) where
  -- a call that the hour allows, made by the house whose number it gives
  pub handled_so : (make : ℕ → Call P Q R) (c : Call P Q R) (b b' : ClearingBox N X Y W) (a : Answer) {i : ℕ} → c ≡ make i → caller_number c ≡ house_number house → ((j : ℕ) → caller_number (make j) ≡ j)
      → of_closed_hour (make (house_number house)) ≡ (situation x y w b).closed → Handles n x y w house (make (house_number house)) b a b' → ComesOut n x y w c b a b'
  handled_so make c b b' a {i} is by numbers now (same, handled) =
      let own : make (house_number house) ≡ c = ap make (sym by ∙ ap caller_number is ∙ numbers i) ∙ sym is in
      (same, allowed_outcome (kinds_of x y w) (n.grid b.network) house (make (house_number house)) c (situation x y w b) (situation x y w b') a own (numbers (house_number house)) now handled)

  -- a call that the hour does not allow
  pub not_now_so : (c : Call P Q R) (b : ClearingBox N X Y W) → caller_number c ≡ house_number house → (of_closed_hour c ≡ (situation x y w b).closed → ⊥) → ComesOut n x y w c b (Err NotNow) b
  not_now_so c b by not_now = (refl, not_now_outcome (kinds_of x y w) (n.grid b.network) house c (situation x y w b) by not_now)

pub carried : {N X Y W P Q R : Type 0} (n : NetworkMeaning N) (x : ListMeaning X P) (y : ListMeaning Y Q) (w : ListMeaning W R) (c : Call P Q R) (b b' : ClearingBox N X Y W) (a : Answer) → ComesOut n x y w c b a b' → CarriesOn n x y w c b a b'
carried n x y w c b b' a (same, out) h keeps =
    subst (λ m. Keeps (kinds_of x y w) (n.grid m) (record { call = c; answer = a } ∷ h) (situation x y w b') × Promise (kinds_of x y w) (n.grid m) (record { call = c; answer = a } ∷ h)) (sym same)
    (kept_on (kinds_of x y w) (n.grid b.network) c (situation x y w b) (situation x y w b') a out h keeps)
