use Rattle.std.proofs.Common.{◌≡◌, ◌-◌, length, take, string_bytes}
use Rattle.notation.proofs.Sofar.{Sofar}
use Rattle.notation.proofs.to_text.Given as goal

abbrev pub invariant-items : goal.invariant-items
invariant-items l = (l.reader.bytes.now ≡ take 65536 l.stream) × Sofar l.reader.bytes.now (string_bytes l.text) l.reader.at

abbrev pub decreases-items : goal.decreases-items
decreases-items l = length l.reader.bytes.now - l.reader.at
