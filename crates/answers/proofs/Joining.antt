-- The block and the hours, put together.
use Rattle.std.proofs.Common.{◌≡◌, ℕ, Bool, true, false, List, OnOk, Result, MatchBool, sym, subst}
use Rattle.std.proofs.lemmas.Result.{IfOk-weaker}
use Rattle.auction.specs.Grids.{Grid}
use Rattle.ground.specs.declared.Ground.{Ground}
use Rattle.ground.specs.Grounds.{opened_ground}
use Rattle.reading.specs.Dialogues.{Ended}
use Rattle.hours.specs.Transcripts.{StreamKinds, HoursAnswered}
use Rattle.answers.specs.Courses.{ground_grid, BlockEnded, BlockAnswered, HoursIfOpened, StreamAnswered}

-- where the box was opened, the hours begin where the block ended; else reading had ended
rest_of : (k : StreamKinds) (bytes : List ℕ) (footing : Ground) (b : Bool) (at : ℕ) (block bytes' : List ℕ) (at' : ℕ) (mid text : List ℕ)
    → MatchBool b ((bytes' ≡ bytes) × (at' ≡ at) × (mid ≡ block)) (Ended bytes at block mid)
    → MatchBool b (HoursAnswered k (ground_grid footing) bytes' at' mid text) (text ≡ mid)
    → MatchBool b (HoursAnswered k (ground_grid footing) bytes at block text) (Ended bytes at block text)
rest_of k bytes footing true at block bytes' at' mid text (same, here, blank) heard =
    subst (λ x. HoursAnswered k (ground_grid footing) x at block text) same (subst (λ n. HoursAnswered k (ground_grid footing) bytes' n block text) here (subst (λ t. HoursAnswered k (ground_grid footing) bytes' at' t text) blank heard))
rest_of k bytes footing false at block bytes' at' mid text ended heard = subst (Ended bytes at block) (sym heard) ended

pub joined : (k : StreamKinds) (bytes stream : List ℕ) → bytes ≡ stream → (footing : Ground) (bytes' : List ℕ) (at' : ℕ) (mid text : List ℕ) → BlockEnded bytes footing bytes' at' mid → HoursIfOpened k footing bytes' at' mid text → StreamAnswered k stream text
joined k bytes stream is footing bytes' at' mid text ended heard = subst (λ b. StreamAnswered k b text) is
    (record { footing = footing; at = ended.at; block = ended.block; block_read = ended.block_read; rest = rest_of k bytes footing (opened_ground footing) ended.at ended.block bytes' at' mid text ended.stands heard })

-- the lines of the block alone: nothing after it where the box was opened, else where reading had ended
alone_of : (bytes : List ℕ) (b : Bool) (at : ℕ) (block bytes' : List ℕ) (at' : ℕ) (text : List ℕ) → MatchBool b ((bytes' ≡ bytes) × (at' ≡ at) × (text ≡ block)) (Ended bytes at block text) → MatchBool b (text ≡ block) (Ended bytes at block text)
alone_of bytes true at block bytes' at' text (same, here, blank) = blank
alone_of bytes false at block bytes' at' text ended = ended

pub block_alone : (bytes stream : List ℕ) → bytes ≡ stream → (footing : Ground) (bytes' : List ℕ) (at' : ℕ) (text : List ℕ) → BlockEnded bytes footing bytes' at' text → BlockAnswered stream text
block_alone bytes stream is footing bytes' at' text ended = subst (λ b. BlockAnswered b text) is
    (record { footing = footing; at = ended.at; block = ended.block; block_read = ended.block_read; rest = alone_of bytes (opened_ground footing) ended.at ended.block bytes' at' text ended.stands })

-- the hours were heard over the network of an opened block
opened_hours : (k : StreamKinds) (footing : Ground) (grid : Grid) (bytes : List ℕ) (at : ℕ) (before after : List ℕ) → opened_ground footing ≡ true → grid ≡ ground_grid footing → HoursAnswered k grid bytes at before after → HoursIfOpened k footing bytes at before after
opened_hours k footing grid bytes at before after unlocked is heard =
    subst (λ b. MatchBool b (HoursAnswered k (ground_grid footing) bytes at before after) (after ≡ before)) (sym unlocked) (subst (λ g. HoursAnswered k g bytes at before after) is heard)

pub heard_opened : {E : Type 0} (r : Result (Unit {0}) E) (k : StreamKinds) (footing : Ground) (grid : Grid) (bytes : List ℕ) (at : ℕ) (before after : List ℕ) → opened_ground footing ≡ true → grid ≡ ground_grid footing → OnOk r (HoursAnswered k grid bytes at before after) → OnOk r (HoursIfOpened k footing bytes at before after)
heard_opened r k footing grid bytes at before after unlocked is =
    IfOk-weaker r (λ _. HoursAnswered k grid bytes at before after) (λ _. HoursIfOpened k footing bytes at before after) (λ _. opened_hours k footing grid bytes at before after unlocked is)
