-- What the box holds, in the words of a history.
use Rattle.std.specs.Prelude.{◌≡◌, ◌∷◌}
use Rattle.auction.specs.declared.House.{House}
use Rattle.network.specs.declared.Network.{Ghosts as NetworkMeaning}
use Rattle.orders.specs.declared.OrderList.{Ghosts as ListMeaning}
use Rattle.orders.specs.Books.{booked}
use Rattle.ledger.specs.Pages.{page}
use Rattle.history.specs.declared.calls.Call.{Call}
use Rattle.history.specs.Events.{Answer, History}
use Rattle.history.specs.Situations.{Situation}
use Rattle.history.specs.Promise.{Promise}
use Rattle.history.specs.Handling.{Handled, Outcome}
use Rattle.history.specs.Keeping.{Keeps}
use Rattle.steps.specs.Parts.{situation_of}
pub use Rattle.steps.specs.Parts.{kinds_of}
use Rattle.clearing.specs.declared.state.ClearingBox.{ClearingBox}

abbrev pub situation : {N X Y W P Q R : Type 0} → ListMeaning X P → ListMeaning Y Q → ListMeaning W R → ClearingBox N X Y W → Situation
situation x y w b = situation_of (booked x y w b.book) b.sheets (page b.ledger)

-- the box handles a call that the hour allows, over the same network
abbrev pub Handles : {N X Y W P Q R : Type 0} → NetworkMeaning N → ListMeaning X P → ListMeaning Y Q → ListMeaning W R → House → Call P Q R → ClearingBox N X Y W → Answer → ClearingBox N X Y W → Type 0
Handles n x y w house c b a b' = (b'.network ≡ b.network) × Handled (kinds_of x y w) (n.grid b.network) house c (situation x y w b) a (situation x y w b')

-- the box keeps a history: it is a run over the box's network, and all that the box holds is what its words tell
abbrev pub BoxKeeps : {N X Y W P Q R : Type 0} → NetworkMeaning N → ListMeaning X P → ListMeaning Y Q → ListMeaning W R → History P Q R → ClearingBox N X Y W → Type 0
BoxKeeps n x y w h b = Keeps (kinds_of x y w) (n.grid b.network) h (situation x y w b)

-- what both houses rely on holds of a history of the box
abbrev pub BoxPromise : {N X Y W P Q R : Type 0} → NetworkMeaning N → ListMeaning X P → ListMeaning Y Q → ListMeaning W R → History P Q R → ClearingBox N X Y W → Type 0
BoxPromise n x y w h b = Promise (kinds_of x y w) (n.grid b.network) h

-- Of every history that the box kept before a call, the longer one is kept after it, so that the answer is the right one; and the promise holds of it.
abbrev pub CarriesOn : {N X Y W P Q R : Type 0} → NetworkMeaning N → ListMeaning X P → ListMeaning Y Q → ListMeaning W R → Call P Q R → ClearingBox N X Y W → Answer → ClearingBox N X Y W → Type 0
CarriesOn {P = P} {Q = Q} {R = R} n x y w c b a b' = (h : History P Q R) → BoxKeeps n x y w h b → BoxKeeps n x y w (record { call = c; answer = a } ∷ h) b' × BoxPromise n x y w (record { call = c; answer = a } ∷ h) b'

-- the same of any box, whether or not it keeps a history: the answer is the right one to what it holds, and what it then holds follows
abbrev pub ComesOut : {N X Y W P Q R : Type 0} → NetworkMeaning N → ListMeaning X P → ListMeaning Y Q → ListMeaning W R → Call P Q R → ClearingBox N X Y W → Answer → ClearingBox N X Y W → Type 0
ComesOut n x y w c b a b' = (b'.network ≡ b.network) × Outcome (kinds_of x y w) (n.grid b.network) c (situation x y w b) a (situation x y w b')
