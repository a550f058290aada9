-- What comes of one command that is heard after the box was opened.
use Rattle.std.specs.Prelude.{◌≡◌, None, Err}
use Rattle.auction.specs.declared.Refusal.TheVariants.{NotNow}
use Rattle.network.specs.declared.Network.{Ghosts as NetworkMeaning}
use Rattle.orders.specs.declared.OrderList.{Ghosts as ListMeaning}
use Rattle.kinds.specs.declared.linear.ZoneWish.{ZoneWish}
use Rattle.kinds.specs.declared.transfer.kind.TransferWish.{TransferWish}
use Rattle.stream.specs.declared.commands.Command.{Command}
use Rattle.history.specs.Events.{Answer}
use Rattle.history.specs.Keeping.{Keeps}
use Rattle.clearing.specs.declared.state.ClearingBox.{ClearingBox}
use Rattle.clearing.specs.Views.{kinds_of, situation}
use Rattle.hours.specs.Calls.{StreamHistory, call_of}
use Rattle.hours.specs.Transcripts.{with_call}

-- of every history that the box kept, the longer one is kept over the same network; a command of the network block is no call, and is refused
pub record AnswersOne {N X Y W : Type 0} (n : NetworkMeaning N) (x : ListMeaning X ZoneWish) (y : ListMeaning Y ZoneWish) (w : ListMeaning W TransferWish) (command : Command) (b : ClearingBox N X Y W) (a : Answer) (b' : ClearingBox N X Y W) : Type 0 where
  pub same_network : b'.network ≡ b.network
  pub not_now : call_of command ≡ None → a ≡ Err NotNow
  pub goes_on : (h : StreamHistory) → Keeps (kinds_of x y w) (n.grid b.network) h (situation x y w b) → Keeps (kinds_of x y w) (n.grid b.network) (with_call (call_of command) a h) (situation x y w b')
