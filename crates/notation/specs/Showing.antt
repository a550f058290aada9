-- What a stream is as readable text.
use Rattle.std.specs.Prelude.{◌≡◌, ℕ, ◌≤◌, ◌⊎◌, List, [], ◌∷◌, ◌++◌, length, take, codes}
use Rattle.stream.specs.declared.Command.{Command}
use Rattle.stream.specs.declared.ReadFault.{ReadFault}
use Rattle.stream.specs.Spelling.{spelled}
use Rattle.stream.specs.Faults.{Faulty, fault_words}
use Rattle.wording.specs.Texts.{text_of}

-- the bytes and the text of one command after another
abbrev pub spellings : List Command → List ℕ
spellings [] = []
spellings (command ∷ commands) = spelled command ++ spellings commands

abbrev pub texts : List Command → List ℕ
texts [] = []
texts (command ∷ commands) = text_of command ++ texts commands

-- the comment at which the text of a faulty stream stops
abbrev pub fault_text : ReadFault → List ℕ
fault_text fault = codes "# " ++ (fault_words fault ++ codes "\n")

-- a stream that is read to its end, or to a fault
pub record Shown (bytes text : List ℕ) : Type 0 where
  pub commands : List Command
  pub at : ℕ
  pub read : spellings commands ≡ take at bytes
  pub written : ((length bytes ≤ at) × (text ≡ texts commands)) ⊎ ((fault : ReadFault) × Faulty bytes at fault × (text ≡ texts commands ++ fault_text fault))
