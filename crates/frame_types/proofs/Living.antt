-- A type that is counted: the steps found or left its frame live.
use Rattle.std.proofs.Common.{◌≡◌, ℕ, true, Option, IsTrue, if◌then◌else◌, refl, sym, ap, ◌∙◌, subst, arith}
use Rattle.xp_words.specs.KindWords.{is_kind, kind_write}
use Rattle.xp_words.specs.Places.{sizes_of}
use Rattle.xp_words.specs.declared.kind.KindWord.{KindWord}
use Rattle.xp_words.specs.declared.place.Place.TheVariants.{Kind}
use Rattle.xp_board.specs.declared.step.Act.TheVariants.{Cas, Store}
use Rattle.xp_board.specs.declared.step.Mark.{Mark}
use Rattle.xp_board.specs.declared.step.StepKind.{StepKind}
use Rattle.xp_board.specs.Acts.{left_by}
use Rattle.xp_board.specs.Readings.{is_live_word}
use Rattle.xp_board.specs.Steps.{some_since}
use Rattle.xp_board.specs.Told.{Post, PortValue}
use Rattle.xp_board.proofs.Sums.{when_eq}
use Rattle.step_maker.specs.Moves.{Came, Moves}
use Rattle.step_maker.proofs.Coming.{came_post}
use Rattle.step_maker.proofs.Noting.{moves_since}
use Rattle.flush_words.proofs.Lasting.{came_longer}
use Rattle.kind_words.proofs.KindWriting.{fields_write}
use Rattle.frame_types.specs.Taking.{LeavesLive}
use Rattle.frame_types.specs.declared.taking.Taken.{Taken}
use Rattle.frame_types.specs.declared.taking.Taken.TheVariants.{Counted, InWork, Waiting}

-- one step left it live
pub lives_by_store : (v w : PortValue) (f : ℕ) (k : KindWord) (kind : StepKind) (mark : Option Mark) (found : ℕ) → IsTrue (is_kind k) → k.validated ≡ true →
    Moves v w (Kind f) (Store (kind_write k)) kind mark found → LeavesLive v w f Counted
unfolding left_by
lives_by_store v w f k kind mark found is live m n low =
    moves_since v w (Kind f) (Store (kind_write k)) kind mark found m n is_live_word low (ap (λ (l : KindWord). l.validated) (fields_write k is) ∙ live)

pub lives_by_exchange : (v w : PortValue) (f e : ℕ) (k : KindWord) (kind : StepKind) (mark : Option Mark) → IsTrue (is_kind k) → k.validated ≡ true →
    Moves v w (Kind f) (Cas e (kind_write k)) kind mark e → LeavesLive v w f Counted
unfolding left_by
lives_by_exchange v w f e k kind mark is live m n low =
    moves_since v w (Kind f) (Cas e (kind_write k)) kind mark e m n is_live_word low
    (subst (λ b. is_live_word (if b then kind_write k else e) ≡ true) (sym (when_eq e e refl)) (ap (λ (l : KindWord). l.validated) (fields_write k is) ∙ live))

-- behind earlier steps
pub lives_behind : (u v w : PortValue) (f : ℕ) (t : Taken) → Came u v → LeavesLive v w f t → LeavesLive u w f t
lives_behind u v w f Counted came live = λ n low.
    let longer = came_longer u v came in
    subst (λ (p : Post). IsTrue (some_since (sizes_of p.machine) n (Kind f) is_live_word w.holdings.steps)) (came_post u v came) (live n (omega (arith, low, longer)))
lives_behind u v w f (InWork progress own) came live = tt
lives_behind u v w f (Waiting own stamp stop) came live = tt
