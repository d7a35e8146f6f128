-- Steps at words of frames, of counts and of the clock leave all other words.
use Rattle.std.proofs.Common.{◌==◌, ℕ, Bool, true, false, List, [], ◌∷◌, ◌++◌, Option, Some, None, sym, subst}
use Rattle.xp_words.specs.declared.kind.KindWord.{KindWord}
use Rattle.xp_words.specs.declared.kind.PageType.{PageType}
use Rattle.xp_words.specs.KindWords.{kind_fields}
use Rattle.xp_words.specs.declared.place.Place.{Place}
use Rattle.xp_words.specs.declared.place.Place.TheVariants.{Cell, Clock, Kind, Life, M2p, Map, Pages, Priv, Refs, Vcpu}
use Rattle.xp_board.specs.declared.step.Act.{Act}
use Rattle.xp_board.specs.declared.step.Mark.{Mark}
use Rattle.xp_board.specs.declared.step.StepKind.{StepKind}
use Rattle.xp_board.specs.Told.{PortValue, told_word}
use Rattle.step_maker.specs.Moves.{Moment, Moves, Ran}
use Rattle.step_maker.specs.Visits.{Does, Only, Then, Visit, Where, visits}
use Rattle.step_maker.proofs.Telling.{told_elsewhere}
use Rattle.frame_words.specs.Freeing.{FreesBy, PutBy}
use Rattle.frame_types.specs.Found.{Dies, DropsBy, StoresKind}
use Rattle.kind_words.specs.Kinds.{dead_kind}
use Rattle.solo_pages.specs.Shown.{SameBeside}
use Rattle.solo_pages.proofs.Beside.{beside_self, beside_trans}

-- ---- one step
abbrev pub IsFramePlace : Place → Type 0
IsFramePlace Clock = Unit {0}
IsFramePlace (Pages d) = Unit {0}
IsFramePlace (Refs f) = Unit {0}
IsFramePlace (Kind f) = Unit {0}
IsFramePlace (Cell f i) = Unit {0}
IsFramePlace (Map k) = Unit {0}
IsFramePlace _ = ⊥

pub moves_beside : (v w : PortValue) (p : Place) (a : Act) (k : StepKind) (mark : Option Mark) (x : ℕ) → IsFramePlace p → Moves v w p a k mark x → SameBeside (told_word v) (told_word w)
moves_beside v w p a k mark x is m =
    record {
      maps = λ f. told_elsewhere v w p a k mark x m (M2p f) (λ e. subst IsFramePlace (sym e) is);
      own = λ s j b c. told_elsewhere v w p a k mark x m (Vcpu s j) (λ e. subst IsFramePlace (sym e) is);
      privileges = λ d. told_elsewhere v w p a k mark x m (Priv d) (λ e. subst IsFramePlace (sym e) is);
      lives = λ d. told_elsewhere v w p a k mark x m (Life d) (λ e. subst IsFramePlace (sym e) is);
    }

-- ---- lists of them
abbrev pub AtFrames : List Visit → Type 0
AtFrames [] = Unit {0}
AtFrames (x ∷ xs) = IsFramePlace x.place × AtFrames xs

ran_beside : (v w : PortValue) (ms : List Moment) → Ran v ms w → AtFrames (visits ms) → SameBeside (told_word v) (told_word w)
ran_beside v w [] ran at = subst (λ (y : PortValue). SameBeside (told_word v) (told_word y)) (sym ran) (beside_self (told_word v))
ran_beside v w (m ∷ ms) ran at =
    beside_trans (told_word v) (told_word ran.0) (told_word w) (ran_beside v ran.0 ms ran.1 at.1) (moves_beside ran.0 w m.place m.act m.kind m.mark m.found at.0 ran.2.moves)

pub does_beside : (v w : PortValue) (P : List Visit → Type 0) → ((vs : List Visit) → P vs → AtFrames vs) → Does v w P → SameBeside (told_word v) (told_word w)
unfolding Does
does_beside v w P each does = ran_beside v w does.0 does.1 (each (visits does.0) does.2)

-- ---- which lists are so
pub at_both : (before after : List Visit) → AtFrames before → AtFrames after → AtFrames (after ++ before)
at_both before [] a b = a
at_both before (x ∷ xs) a b = (b.0, at_both before xs a b.1)

pub at_then : (P Q : List Visit → Type 0) → ((vs : List Visit) → P vs → AtFrames vs) → ((vs : List Visit) → Q vs → AtFrames vs) → (vs : List Visit) → Then P Q vs → AtFrames vs
at_then P Q p q vs t = subst AtFrames (sym t.list) (at_both t.before t.after (p t.before t.first) (q t.after t.next))

pub at_only : (x : Visit) → IsFramePlace x.place → (vs : List Visit) → Only x vs → AtFrames vs
at_only x is vs e = subst AtFrames (sym e) (is, tt)

pub at_where : (b : Bool) (P : List Visit → Type 0) → ((vs : List Visit) → P vs → AtFrames vs) → (vs : List Visit) → Where b P vs → AtFrames vs
at_where true P p vs a = p vs a
at_where false P p vs e = subst AtFrames (sym e) tt

pub at_stores : (f : ℕ) (k : KindWord) (vs : List Visit) → StoresKind f k vs → AtFrames vs
at_stores f k vs a = at_only _ tt vs a.1

pub at_dies : (f : ℕ) (t : PageType) (marked : Bool) (vs : List Visit) → Dies f t marked vs → AtFrames vs
at_dies f t marked vs a = at_then _ (StoresKind f (dead_kind t marked a.0)) (at_only _ tt) (at_stores f (dead_kind t marked a.0)) vs a.1

at_frees : (f : ℕ) (last : Option ℕ) (vs : List Visit) → FreesBy f last vs → AtFrames vs
at_frees f None vs e = subst AtFrames (sym e) tt
at_frees f (Some owner) vs a = subst AtFrames (sym a.4) (tt, (tt, (tt, (tt, tt))))

pub at_put : (f : ℕ) (vs : List Visit) → PutBy f vs → AtFrames vs
at_put f vs a = at_then _ (FreesBy f a.last) (at_only _ tt) (at_frees f a.last) vs a.steps

pub at_drops : (f : ℕ) (t : PageType) (vs : List Visit) → DropsBy f t vs → AtFrames vs
at_drops f t vs a =
    at_then _ (Then (Where ((kind_fields a.0).number == 1) (Dies f t false)) (PutBy f)) (at_only _ tt)
    (at_then (Where ((kind_fields a.0).number == 1) (Dies f t false)) (PutBy f) (at_where ((kind_fields a.0).number == 1) (Dies f t false) (at_dies f t false)) (at_put f)) vs a.1
