use Rattle.std.proofs.Common.{drop, vec_items}
use Rattle.std.specs.Slice.Iter.{split_rest, split_done}
use Rattle.notation.proofs.Pieces.{Found}
use Rattle.notation.proofs.reading.numbers.Given as goal

abbrev pub invariant-loop-word : goal.invariant-loop-word
invariant-loop-word l = Found (drop l.from l.piece) (split_rest l.word-iterator) (split_done l.word-iterator) (vec_items l.found)
