use Rattle.std.proofs.Common.{◌≡◌, ℕ, List, take, Option, Some, None, Result, Ok, String, IfSome, string_bytes, rules}
use Rattle.std.specs.Option.{option_map}
use Rattle.std.specs.Global.{Global}
use Rattle.std.specs.Fn.{Once}
use Rattle.std.specs.Io.KnownBytes.{Appends}
use denote.Ref.{Bor}
use Rattle.piping.specs.Whole.{Answered}
use Rattle.piping.proofs.pipe.Goals as goal

answered_known : {F E : Type 0} (g : Once F (Global × (Bor (List ℕ) × Unit {0})) (Result (String Global) E)) (f : F) (heap : Global) (given : Option (List ℕ)) (seen : Bor (List ℕ)) (text : String Global) (before after : Option (List ℕ))
    → IfSome (option_map (take 65536) given) (λ xs. seen.now ≡ xs) → g.post f (heap, (seen, tt)) (Ok text) → Appends before after (string_bytes text)
    → IfSome given (λ xs. Answered g f heap (take 65536 xs) before after)
answered_known g f heap None seen text before after read answers writes = tt
answered_known g f heap (Some xs) seen text before after read answers writes = (text, seen, read, answers, writes)

pub returns : goal.returns
returns g c = answered_known g.F.FnOnce c.args.answer c.args.heap (g.R.Read.remaining c.args.input) c.as_slice.result c.in_ok-text.text (g.W.Write.contents c.args.output.now) (g.W.Write.contents c.write_all.new.self) (search rules) (search rules) (search rules)
