use Rattle.std.proofs.Common.{◌≡◌, ◌+◌, ◌<◌, ◌≤◌, List, [], ◌∷◌, ◌++◌, length, get_or, vec_items, sym, refl, ap, inl, inr, ◌∙◌, arith, rules}
use Rattle.std.proofs.lemmas.List.{append-nil}
use Rattle.stream.specs.Spelling.{spelled}
use Rattle.parsing.specs.Numbers.{Means}
use Rattle.notation.specs.Scanning.{is_blank, is_word}
use Rattle.notation.proofs.Pieces.{blank_piece, one_piece}
use Rattle.notation.proofs.reading.add_piece.Goals as goal

pub returns-in_default : goal.returns-in_default
returns-in_default c =
    let past : length c.args.piece.now ≤ c.find_from-start.result = search rules in
    record {
      added = inl refl;
      written = ([], blank_piece c.args.piece.now c.find_from-start.result (c.find_from-start.ensures.first is_word (λ byte answer says. search rules)) past, sym (append-nil (vec_items c.args.out.now)));
    }

pub returns : goal.returns
returns c =
    let piece = c.args.piece.now in
    let start = c.find_from-start.result in
    let end = c.find_from-end.result in
    let meant = c.in_ok-meant.meant in
    let numbers : List _ = vec_items c.in_ok-operands.operands in
    let one : end ≡ start + 1 = omega arith in
    let there : start < length piece = search rules in
    let means : Means (get_or piece start 0) numbers meant = search rules in
    let longer : vec_items c.extend_from_slice.new.self ≡ vec_items c.args.out.now ++ spelled meant = search rules in
    record {
      added = inr (meant, get_or piece start 0, numbers, means, longer);
      written = (
        meant ∷ [],
        one_piece piece start end numbers meant (c.find_from-start.ensures.first is_word (λ byte answer says. search rules)) there (c.find_from-end.ensures.first is_blank (λ byte answer says. search rules)) one c.in_ok-operands.ensures means,
        longer ∙ ap (λ l. vec_items c.args.out.now ++ l) (sym (append-nil (spelled meant))),
      );
    }
