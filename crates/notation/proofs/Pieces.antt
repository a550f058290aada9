-- How the places that a text was cut at make up what it writes.
use Rattle.std.proofs.Common.{◌≡◌, ℕ, zero, suc, ◌+◌, ◌-◌, ◌<◌, ◌≤◌, Bool, true, false, not, ◌||◌, eqb, List, [], ◌∷◌, ◌++◌, length, get_or, take, drop, ℤ, MatchBool, sym, refl, ap, ◌∙◌, subst, inl, inr, append_assoc, arith, ne_eqb, eqb-true}
use borrow.Author.Tests.{eqb-false}
use Rattle.std.proofs.lemmas.List.{drop_all, drop-drop, drop_more, get_or-drop, get_or_past, get_or-take, length-take, length-append, take-append-drop, append-nil}
use Rattle.std.proofs.Math.Seq.{get_or-append_seam}
use Rattle.std.proofs.lemmas.Bool.{cases_lt, false≢true}
use Rattle.stream.specs.declared.Command.{Command}
use Rattle.parsing.specs.Numbers.{Means}
use Rattle.notation.specs.Scanning.{is_blank, is_word, ends_command, ends_line, FirstStop}
use Rattle.notation.specs.Writing.{AddedByPiece, WordEnds, LineEnds, Numbers, no_number, skip_blank, Piece, no_command, leading_blank, command, EndsPiece, Writes, last, ended, noted}

-- a text from one place on is the stretch up to another place, and the text from there on
cut : (text : List ℕ) (i j : ℕ) → i ≤ j → take (j - i) (drop i text) ++ drop j text ≡ drop i text
cut text i j onward =
    let there : i + (j - i) ≡ j = omega arith in
    let rest : drop (j - i) (drop i text) ≡ drop j text = drop-drop (j - i) i text ∙ ap (λ n. drop n text) there in
    ap (λ l. take (j - i) (drop i text) ++ l) (sym rest) ∙ take-append-drop (j - i) (drop i text)

-- what may stand after a blank may stand after a stretch of blanks
after_blanks : (P : List ℕ → Type 0) → ((b : ℕ) (rest : List ℕ) → is_blank b ≡ true → P rest → P (b ∷ rest)) → (text : List ℕ) (i n : ℕ) → i + n ≤ length text → ((k : ℕ) → i ≤ k → k < i + n → is_blank (get_or text k 0) ≡ true) → P (drop (i + n) text) → P (drop i text)
after_blanks P one text i zero within blanks p = let here : i + 0 ≡ i = omega arith in subst (λ (j : ℕ). P (drop j text)) here p
after_blanks P one text i (suc n) within blanks p =
    let next : i + suc n ≡ i + 1 + n = omega arith in
    let fits : i + 1 + n ≤ length text = omega arith in
    let rest : P (drop (i + 1) text) = after_blanks P one text (i + 1) n fits (λ k low high. blanks k (omega arith) (omega arith)) (subst (λ (j : ℕ). P (drop j text)) next p) in
    let there : i < length text = omega arith in
    subst P (sym (drop_more text i 0 there)) (one (get_or text i 0) (drop (i + 1) text) (blanks i (omega arith) (omega arith)) rest)

-- the same, up to the first place of a word
up_to_word : (P : List ℕ → Type 0) → ((b : ℕ) (rest : List ℕ) → is_blank b ≡ true → P rest → P (b ∷ rest)) → (text : List ℕ) (i j : ℕ) → i ≤ length text → FirstStop text i is_word j → P (drop j text) → P (drop i text)
up_to_word P one text i j within stop p =
    let there : j ≤ length text = stop.within within in
    let onward : i ≤ j = stop.onward in
    let sum : i + (j - i) ≡ j = omega arith in
    let blanks : (k : ℕ) → i ≤ k → k < i + (j - i) → is_blank (get_or text k 0) ≡ true = λ k low high. let h : not (is_blank (get_or text k 0)) ≡ false = stop.before k low (omega arith) in not_blank (is_blank (get_or text k 0)) h in
    after_blanks P one text i (j - i) (omega arith) blanks (subst (λ (k : ℕ). P (drop k text)) (sym sum) p)
  where
    not_blank : (b : Bool) → not b ≡ false → b ≡ true
    not_blank true e = refl
    not_blank false e = sym e

-- a word ends where the text stops at a blank
pub word_ends : (text : List ℕ) (i j : ℕ) → FirstStop text i is_blank j → WordEnds (drop j text)
word_ends text i j stop =
    elim (cases_lt j (length text)) [ inl there ↦ subst WordEnds (sym (drop_more text j 0 there)) (stop.here there) | inr past ↦ subst WordEnds (sym (drop_all j text past)) tt ]

-- The numbers of a text, as far as its words were read: whatever the rest writes comes after those that were found.
pub record Found (text rest : List ℕ) (done : Bool) (found : List ℤ) : Type 0 where
  pub more : done ≡ false → (numbers : List ℤ) → Numbers rest numbers → Numbers text (found ++ numbers)
  pub all : done ≡ true → Numbers text found

pub none_found : (text : List ℕ) → Found text text false []
none_found text = record { more = λ _ numbers ns. ns; all = λ past. absurd (false≢true past) }

-- one word more, which writes one number, or none where it is empty
pub one_word : (text rest next word : List ℕ) (was is : Bool) (found one : List ℤ) → was ≡ false → MatchBool is (rest ≡ word) ((y : ℕ) × (rest ≡ word ++ (y ∷ next))) → (length word < length rest → is_blank (get_or rest (length word) 0) ≡ true) → ((tail : List ℕ) (numbers : List ℤ) → WordEnds tail → Numbers tail numbers → Numbers (word ++ tail) (one ++ numbers)) → Found text rest was found → Found text next is (found ++ one)
one_word text rest next word was true found one goes whole blank writes so =
    let here : Numbers rest (one ++ []) = subst (λ (l : List ℕ). Numbers l (one ++ [])) (append-nil word ∙ sym whole) (writes [] [] tt no_number) in
    record {
      more = λ on. absurd (false≢true (sym on));
      all = λ _. subst (λ (l : List ℤ). Numbers text (found ++ l)) (append-nil one) (so.more goes (one ++ []) here);
    }
one_word text rest next word was false found one goes (y, cut_at) blank writes so =
    record { more = λ _ numbers ns. longer numbers ns; all = λ past. absurd (false≢true past) }
  where
    longer : (numbers : List ℤ) → Numbers next numbers → Numbers text ((found ++ one) ++ numbers)
    longer numbers ns =
        let long : length rest ≡ length word + suc (length next) = ap length cut_at ∙ length-append word (y ∷ next) in
        let read : get_or rest (length word) 0 ≡ y = ap (λ l. get_or l (length word) 0) cut_at ∙ get_or-append_seam word y next 0 in
        let ends : is_blank y ≡ true = ap is_blank (sym read) ∙ blank (omega arith) in
        let here : Numbers rest (one ++ numbers) = subst (λ (l : List ℕ). Numbers l (one ++ numbers)) (sym cut_at) (writes (y ∷ next) numbers ends (skip_blank y next numbers ends ns)) in
        subst (λ (l : List ℤ). Numbers text l) (sym (append_assoc found one numbers)) (so.more goes (one ++ numbers) here)

-- a piece that is blank writes nothing
pub blank_piece : (piece : List ℕ) (start : ℕ) → FirstStop piece 0 is_word start → length piece ≤ start → Piece piece []
blank_piece piece start stop end =
    up_to_word (λ (l : List ℕ). Piece l []) (λ b l e p. leading_blank b l [] e p) piece 0 start (omega arith) stop (subst (λ (l : List ℕ). Piece l []) (sym (drop_all start piece end)) no_command)

-- a piece between two places that are one adds nothing
pub nothing_added : (text : List ℕ) (at end : ℕ) (before after : List ℕ) → end ≤ at → after ≡ before → AddedByPiece (take (end - at) (drop at text)) before after
nothing_added text at end before after past same =
    let nowhere : end - at ≡ 0 = omega (arith, past) in
    let none : take (end - at) (drop at text) ≡ [] = ap (λ (n : ℕ). take n (drop at text)) nowhere in
    let first : FirstStop [] 0 is_word 0 = record { onward = omega arith; within = λ h. omega arith; before = λ k from below. absurd (omega arith); here = λ h. absurd (omega arith) } in
    rw (none) ([], blank_piece [] 0 first (omega arith), same ∙ sym (append-nil before))

-- a piece with a letter as its first word, and numbers after it, writes the command that they mean
pub one_piece : (piece : List ℕ) (start end : ℕ) (numbers : List ℤ) (meant : Command) → FirstStop piece 0 is_word start → start < length piece → FirstStop piece start is_blank end → end ≡ start + 1 → Numbers (drop end piece) numbers → Means (get_or piece start 0) numbers meant → Piece piece (meant ∷ [])
one_piece piece start end numbers meant stop there word one ns means =
    let rest : Numbers (drop (start + 1) piece) numbers = subst (λ (i : ℕ). Numbers (drop i piece) numbers) one ns in
    let ends : WordEnds (drop (start + 1) piece) = subst (λ (i : ℕ). WordEnds (drop i piece)) one (word_ends piece start end word) in
    let here : Piece (drop start piece) (meant ∷ []) = subst (λ (l : List ℕ). Piece l (meant ∷ [])) (sym (drop_more piece start 0 there)) (command (get_or piece start 0) (drop (start + 1) piece) numbers meant ends rest means) in
    up_to_word (λ (l : List ℕ). Piece l (meant ∷ [])) (λ b l e p. leading_blank b l (meant ∷ []) e p) piece 0 start (omega arith) stop here

-- no comment begins at another byte
pub no_comment : (X : Type 0) (byte at : ℕ) → (byte ≡ 35 → ⊥) → MatchBool (eqb byte 35) X (at ≡ at)
no_comment X byte at other = subst (λ (b : Bool). MatchBool b X (at ≡ at)) (sym (ne_eqb byte 35 other)) refl

-- The commands of a text, as far as they were read: whatever the rest writes comes after those that are done.
pub record Going (text : List ℕ) (at : ℕ) (done : List Command) : Type 0 where
  pub more : at ≤ length text → (rest : List Command) → Writes (drop at text) rest → Writes text (done ++ rest)
  pub all : length text < at → Writes text done

pub nothing_done : (text : List ℕ) → Going text 0 []
nothing_done text = record { more = λ here rest ws. ws; all = λ past. absurd (omega arith) }

pub all_done : (text : List ℕ) (at : ℕ) (done : List Command) → length text ≤ at → Going text at done → Writes text done
all_done text at done end so =
    elim (cases_lt (length text) at) [
      | inl past ↦ so.all past
      | inr here ↦ subst (Writes text) (append-nil done) (so.more here [] (subst (λ (l : List ℕ). Writes l []) (sym (drop_all at text end)) (last [] [] no_command)))
    ]

-- the text goes on after a piece that a semicolon or a line's end ended
after_ender : (text : List ℕ) (at end : ℕ) (done commands : List Command) → at ≤ end → end < length text → EndsPiece (get_or text end 0) → Piece (take (end - at) (drop at text)) commands → Going text at done → Going text (end + 1) (done ++ commands)
after_ender text at end done commands onward inside ender piece so =
    record { more = λ here rest ws. go rest ws; all = λ past. absurd (omega arith) }
  where
    go : (rest : List Command) → Writes (drop (end + 1) text) rest → Writes text ((done ++ commands) ++ rest)
    go rest ws =
        let split : take (end - at) (drop at text) ++ (get_or text end 0 ∷ drop (end + 1) text) ≡ drop at text = ap (λ l. take (end - at) (drop at text) ++ l) (sym (drop_more text end 0 inside)) ∙ cut text at end onward in
        let written : Writes (drop at text) (commands ++ rest) = subst (λ (l : List ℕ). Writes l (commands ++ rest)) split (ended (take (end - at) (drop at text)) (get_or text end 0) (drop (end + 1) text) commands rest piece ender ws) in
        subst (Writes text) (sym (append_assoc done commands rest)) (so.more (omega arith) (commands ++ rest) written)

-- a piece at the end of the text
at_the_end : (text : List ℕ) (at end : ℕ) (done commands : List Command) → at < length text → at ≤ end → length text ≤ end → Piece (take (end - at) (drop at text)) commands → Going text at done → Going text (end + 1) (done ++ commands)
at_the_end text at end done commands there onward ends piece so =
    let rest : drop end text ≡ [] = drop_all end text ends in
    let split : take (end - at) (drop at text) ≡ drop at text = sym (append-nil (take (end - at) (drop at text))) ∙ ap (λ l. take (end - at) (drop at text) ++ l) (sym rest) ∙ cut text at end onward in
    record {
      more = λ here. absurd (omega arith);
      all = λ past. so.more (omega arith) commands (subst (λ (l : List ℕ). Writes l commands) split (last (take (end - at) (drop at text)) commands piece));
    }

-- the text goes on after a comment
after_comment : (text : List ℕ) (at end stop : ℕ) (done commands : List Command) → at ≤ end → end < length text → get_or text end 0 ≡ 35 → FirstStop text (end + 1) ends_line stop → Piece (take (end - at) (drop at text)) commands → Going text at done → Going text (stop + 1) (done ++ commands)
after_comment text at end stop done commands onward inside hash line piece so =
    record { more = λ here rest ws. longer here rest ws; all = λ past. whole past }
  where
    no_line_end : end + 1 ≤ stop → (k : ℕ) → k < length (take (stop - (end + 1)) (drop (end + 1) text)) → get_or (take (stop - (end + 1)) (drop (end + 1) text)) k 0 ≡ 10 → ⊥
    no_line_end later k short is =
        let n : ℕ = stop - (end + 1) in
        let small : k < n = omega (arith, length-take n (drop (end + 1) text)) in
        let same : get_or (take n (drop (end + 1) text)) k 0 ≡ get_or text (end + 1 + k) 0 = get_or-take n (drop (end + 1) text) k 0 small ∙ get_or-drop (end + 1) text k 0 in
        eqb-false (get_or text (end + 1 + k) 0) 10 (line.before (end + 1 + k) (omega arith) (omega arith)) (sym same ∙ is)

    put : (rest : List Command) → LineEnds (drop stop text) → Writes (drop stop text) rest → Writes text (done ++ (commands ++ rest))
    put rest ends ws =
        let comment : List ℕ = take (stop - (end + 1)) (drop (end + 1) text) in
        let later : end + 1 ≤ stop = line.onward in
        let tail : comment ++ drop stop text ≡ drop (end + 1) text = cut text (end + 1) stop later in
        let head : drop end text ≡ 35 ∷ drop (end + 1) text = drop_more text end 0 inside ∙ ap (λ b. b ∷ drop (end + 1) text) hash in
        let split : take (end - at) (drop at text) ++ (35 ∷ (comment ++ drop stop text)) ≡ drop at text = ap (λ l. take (end - at) (drop at text) ++ (35 ∷ l)) tail ∙ ap (λ l. take (end - at) (drop at text) ++ l) (sym head) ∙ cut text at end onward in
        so.more (omega arith) (commands ++ rest) (subst (λ (l : List ℕ). Writes l (commands ++ rest)) split (noted (take (end - at) (drop at text)) comment (drop stop text) commands rest piece (no_line_end later) ends ws))

    ends_at_feed : (byte : ℕ) → byte ≡ 10 → EndsPiece byte
    ends_at_feed byte e = subst EndsPiece (sym e) refl

    longer : stop + 1 ≤ length text → (rest : List Command) → Writes (drop (stop + 1) text) rest → Writes text ((done ++ commands) ++ rest)
    longer here rest ws =
        let inside' : stop < length text = omega arith in
        let feed : get_or text stop 0 ≡ 10 = eqb-true (get_or text stop 0) 10 (line.here inside') in
        let split : drop stop text ≡ get_or text stop 0 ∷ drop (stop + 1) text = drop_more text stop 0 inside' in
        let ends : LineEnds (drop stop text) = subst LineEnds (sym split) feed in
        let one : Writes (drop stop text) rest = subst (λ (l : List ℕ). Writes l rest) (sym split) (ended [] (get_or text stop 0) (drop (stop + 1) text) [] rest no_command (ends_at_feed (get_or text stop 0) feed) ws) in
        subst (Writes text) (sym (append_assoc done commands rest)) (put rest ends one)

    whole : length text < stop + 1 → Writes text (done ++ commands)
    whole past =
        let over : length text ≤ stop = omega arith in
        let none : drop stop text ≡ [] = drop_all stop text over in
        subst (λ (l : List Command). Writes text (done ++ l)) (append-nil commands) (put [] (subst LineEnds (sym none) tt) (subst (λ (l : List ℕ). Writes l []) (sym none) (last [] [] no_command)))

-- one piece more, from `at` to `end`, with the comment after it, if one begins there
pub one_more_piece : (text : List ℕ) (at end stop : ℕ) (done commands : List Command) → at < length text → FirstStop text at ends_command end → MatchBool (eqb (get_or text end 0) 35) (FirstStop text (end + 1) ends_line stop) (stop ≡ end) → Piece (take (end - at) (drop at text)) commands → Going text at done → Going text (stop + 1) (done ++ commands)
one_more_piece text at end stop done commands there cut_at goes piece so =
    elim (cases_lt end (length text)) [
      | inl inside ↦ by_hash (eqb (get_or text end 0) 35) refl inside goes
      | inr ends ↦ past_all ends (subst (λ (b : ℕ). MatchBool (eqb b 35) (FirstStop text (end + 1) ends_line stop) (stop ≡ end)) (get_or_past text end 0 ends) goes)
    ]
  where
    ender : (semicolon feed hash : Bool) → hash ≡ false → (semicolon || (feed || hash)) ≡ true → (semicolon || feed) ≡ true
    ender true feed hash no-hash e = refl
    ender false true hash no-hash e = refl
    ender false false hash no-hash e = sym no-hash ∙ e

    past_all : length text ≤ end → stop ≡ end → Going text (stop + 1) (done ++ commands)
    past_all ends same = subst (λ (i : ℕ). Going text (i + 1) (done ++ commands)) (sym same) (at_the_end text at end done commands there cut_at.onward ends piece so)

    by_hash : (b : Bool) → eqb (get_or text end 0) 35 ≡ b → end < length text → MatchBool b (FirstStop text (end + 1) ends_line stop) (stop ≡ end) → Going text (stop + 1) (done ++ commands)
    by_hash true is inside line = after_comment text at end stop done commands cut_at.onward inside (eqb-true (get_or text end 0) 35 is) line piece so
    by_hash false is inside same = subst (λ (i : ℕ). Going text (i + 1) (done ++ commands)) (sym same) (after_ender text at end done commands cut_at.onward inside (ender (eqb (get_or text end 0) 59) (eqb (get_or text end 0) 10) (eqb (get_or text end 0) 35) is (cut_at.here inside)) piece so)
