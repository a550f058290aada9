use Rattle.std.proofs.Common.{◌≡◌, ℕ, List, ◌∷◌, ◌++◌, string_bytes, sym, ◌∙◌, subst, rules}
use Rattle.stream.specs.Reading.{Stands}
use Rattle.stream.specs.Spelling.{spelled}
use Rattle.wording.specs.Texts.{text_of}
use Rattle.notation.proofs.Sofar.{Sofar, one_more}
use Rattle.notation.proofs.to_text.Goals as goal

pub items-preserved : goal.items-preserved
items-preserved c =
    let bytes : List ℕ = c.items.reader.bytes.now in
    let text : List ℕ = string_bytes c.items.text in
    let more : List ℕ = string_bytes c.push_str.new.self in
    let next : ℕ = c.next.new.self.at in
    let stands : Stands bytes c.items.reader.at c.in-Ok-Some.item.letter c.in-Ok-Some.item.operands.now next = search rules in
    let spells : spelled c.in-Some.command ≡ c.in-Ok-Some.item.letter ∷ c.in-Ok-Some.item.operands.now = search rules in
    let longer : more ≡ text ++ text_of c.in-Some.command = search rules in
    let kept : c.next.new.self.bytes.now ≡ bytes = search rules in
    let P : List ℕ → Type 0 = λ b. Sofar b more next in (
      kept ∙ c.items.invariant.0,
      subst P (sym kept) (one_more bytes text more c.items.reader.at c.in-Ok-Some.item.letter next c.in-Ok-Some.item.operands.now c.in-Some.command c.items.invariant.1 stands spells longer),
    )
