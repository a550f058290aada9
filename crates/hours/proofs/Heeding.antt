-- A command that makes a call, and one that makes none.
use Rattle.std.proofs.Common.{◌≡◌, ℕ, Some, None, Err, refl, subst, arith}
use Rattle.auction.specs.declared.Refusal.TheVariants.{NotNow}
use Rattle.network.specs.declared.Network.{Ghosts as NetworkMeaning}
use Rattle.orders.specs.declared.OrderList.{Ghosts as ListMeaning}
use Rattle.kinds.specs.declared.linear.ZoneWish.{ZoneWish}
use Rattle.kinds.specs.declared.transfer.kind.TransferWish.{TransferWish}
use Rattle.stream.specs.declared.commands.Command.{Command}
use Rattle.history.specs.Events.{Answer}
use Rattle.history.specs.Keeping.{Keeps}
use Rattle.history.proofs.Calling.{kept_on}
use Rattle.clearing.specs.declared.state.ClearingBox.{ClearingBox}
use Rattle.clearing.specs.Views.{kinds_of, situation, ComesOut}
use Rattle.hours.specs.Calls.{StreamCall, call_of}
use Rattle.hours.specs.Transcripts.{with_call}
use Rattle.hours.specs.Answering.{AnswersOne}

module _ {N X Y W : Type 0} (n : NetworkMeaning N) (x : ListMeaning X ZoneWish) (y : ListMeaning Y ZoneWish) (w : ListMeaning W TransferWish) (command : Command) (b : ClearingBox N X Y W) where
  pub makes_call : (b' : ClearingBox N X Y W) (a : Answer) (c : StreamCall) → Some c ≡ call_of command → ComesOut n x y w c b a b' → AnswersOne n x y w command b a b'
  makes_call b' a c is (same, out) = record {
    same_network = same;
    not_now = λ none. let z : ◌≡◌ {A = ℕ} 0 1 = cc in absurd (omega arith);
    goes_on = λ h keeps. subst (λ o. Keeps (kinds_of x y w) (n.grid b.network) (with_call o a h) (situation x y w b')) is
        (kept_on (kinds_of x y w) (n.grid b.network) c (situation x y w b) (situation x y w b') a out h keeps).0;
  }

  pub makes_none : None ≡ call_of command → AnswersOne n x y w command b (Err NotNow) b
  makes_none is = record {
    same_network = refl;
    not_now = λ none. refl;
    goes_on = λ h keeps. subst (λ o. Keeps (kinds_of x y w) (n.grid b.network) (with_call o (Err NotNow) h) (situation x y w b)) is keeps;
  }
