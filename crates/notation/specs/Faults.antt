-- Why a text gave no stream, in words.
use Rattle.std.specs.Prelude.{ℕ, List, ◌++◌, codes, decimal}
use Rattle.parsing.specs.Reasons.{in_words}
use Rattle.notation.specs.declared.reading.TextFault.{TextFault}
use Rattle.notation.specs.declared.reading.TextFault.TheVariants.{NoMemory, Wrong}

-- what is wrong, after the line where it is
abbrev pub text_fault_words : TextFault → List ℕ
text_fault_words NoMemory = codes "no memory"
text_fault_words (Wrong line wrong) = codes "line " ++ decimal line ++ codes ": " ++ in_words wrong
