-- What is read of a stream so far, and written of its text.
use Rattle.std.proofs.Common.{◌≡◌, ℕ, ◌≤◌, List, [], ◌∷◌, ◌++◌, length, take, sym, refl, ap, ◌∙◌, inl, inr, append_assoc, arith}
use Rattle.std.proofs.lemmas.List.{append-nil}
use Rattle.stream.specs.declared.Command.{Command}
use Rattle.stream.specs.declared.ReadFault.{ReadFault}
use Rattle.stream.specs.Spelling.{spelled}
use Rattle.stream.specs.Reading.{Stands}
use Rattle.stream.specs.Faults.{Faulty}
use Rattle.stream.proofs.Standing.{longer}
use Rattle.wording.specs.Texts.{text_of}
use Rattle.notation.specs.Scanning.{Added, Commands}
use Rattle.notation.specs.Showing.{spellings, texts, fault_text, Shown}

pub record Sofar (bytes text : List ℕ) (at : ℕ) : Type 0 where
  pub commands : List Command
  pub read : spellings commands ≡ take at bytes
  pub written : text ≡ texts commands
  pub within : at ≤ length bytes

pub nothing_yet : (bytes text : List ℕ) (at : ℕ) → text ≡ [] → at ≡ 0 → Sofar bytes text at
nothing_yet bytes text at none start =
    record { commands = []; read = sym (ap (λ n. take n bytes) start); written = none; within = omega arith }

spellings_++ : (cs ds : List Command) → spellings (cs ++ ds) ≡ spellings cs ++ spellings ds
spellings_++ [] ds = refl
spellings_++ (c ∷ cs) ds = ap (λ l. spelled c ++ l) (spellings_++ cs ds) ∙ sym (append_assoc (spelled c) (spellings cs) (spellings ds))

-- more commands after those that are written
pub written_more : (was is : List ℕ) (done commands : List Command) → was ≡ spellings done → is ≡ was ++ spellings commands → is ≡ spellings (done ++ commands)
written_more was is done commands so more = more ∙ ap (λ l. l ++ spellings commands) so ∙ sym (spellings_++ done commands)

spellings_push : (cs : List Command) (c : Command) → spellings (cs ++ (c ∷ [])) ≡ spellings cs ++ spelled c
spellings_push cs c = spellings_++ cs (c ∷ []) ∙ ap (λ l. spellings cs ++ l) (append-nil (spelled c))

-- one more command, or none, after commands
pub added : (was is : List ℕ) → Commands was → Added was is → Commands is
added was is (cs, e) (inl same) = (cs, same ∙ e)
added was is (cs, e) (inr (c, letter, numbers, means, more)) = (cs ++ (c ∷ []), more ∙ ap (λ l. l ++ spelled c) e ∙ sym (spellings_push cs c))

texts_push : (cs : List Command) (c : Command) → texts (cs ++ (c ∷ [])) ≡ texts cs ++ text_of c
texts_push [] c = append-nil (text_of c)
texts_push (x ∷ cs) c = ap (λ l. text_of x ++ l) (texts_push cs c) ∙ sym (append_assoc (text_of x) (texts cs) (text_of c))

pub one_more : (bytes text more : List ℕ) (at letter next : ℕ) (operands : List ℕ) (c : Command) → Sofar bytes text at → Stands bytes at letter operands next → spelled c ≡ letter ∷ operands → more ≡ text ++ text_of c → Sofar bytes more next
one_more bytes text more at letter next operands c so s e w =
    record {
      commands = so.commands ++ (c ∷ []);
      read = spellings_push so.commands c ∙ ap (λ l. l ++ spelled c) so.read ∙ ap (λ l. take at bytes ++ l) e ∙ sym (longer bytes at letter operands next s);
      written = w ∙ ap (λ l. l ++ text_of c) so.written ∙ sym (texts_push so.commands c);
      within = s.within;
    }

pub all_read : (bytes text : List ℕ) (at : ℕ) → Sofar bytes text at → length bytes ≤ at → Shown bytes text
all_read bytes text at so end = record { commands = so.commands; at = at; read = so.read; written = inl (end, so.written) }

pub faulted : (bytes text more : List ℕ) (at : ℕ) (fault : ReadFault) → Sofar bytes text at → Faulty bytes at fault → more ≡ text ++ fault_text fault → Shown bytes more
faulted bytes text more at fault so f e =
    record { commands = so.commands; at = at; read = so.read; written = inr (fault, f, e ∙ ap (λ l. l ++ fault_text fault) so.written) }
