-- The innermost of the tables that are being released is left with another kind word, of its type: that goes on with a call that asked it.
use Rattle.std.proofs.Common.{◌≡◌, ℕ, ◌-◌, Bool, true, false, List, [], ◌∷◌, None, IsTrue, refl, sym, ap, ◌∙◌, arith}
use Rattle.std.proofs.lemmas.Bool.Decides.{nat_tests}
use Rattle.xp_words.specs.KindWords.{is_kind, kind_fields, kind_write}
use Rattle.xp_words.specs.Places.{Sizes}
use Rattle.xp_words.specs.declared.kind.KindWord.{KindWord}
use Rattle.xp_words.specs.declared.place.Place.TheVariants.{Clock, Kind}
use Rattle.xp_board.specs.declared.holdings.Holdings.{Holdings}
use Rattle.xp_board.specs.declared.holdings.Work.{Work}
use Rattle.xp_board.specs.declared.step.Act.TheVariants.{Load, Store}
use Rattle.xp_board.specs.declared.step.StepKind.TheVariants as kinds
use Rattle.xp_board.specs.Readings.{is_closing, is_dead}
use Rattle.xp_board.specs.Told.{PortValue}
use Rattle.step_maker.specs.Holds.{Same}
use Rattle.step_maker.specs.Moves.{Moves}
use Rattle.step_maker.proofs.Coming.{moves_came}
use Rattle.step_maker.specs.Answers.{Deed, Serves}
use Rattle.step_maker.specs.Asked.{Request, of_back}
use Rattle.step_maker.specs.Reasons.{keeps_type}
use Rattle.step_maker.proofs.Piecing.{serves_step}
use Rattle.step_maker.proofs.Keeping.{kept_type}
use Rattle.frame_types.proofs.Serving.{work_alive}
use Rattle.kind_words.specs.Kinds.{dead_kind, partial_kind}
use Rattle.kind_words.proofs.KindFacts.{clock_is_small, work_word}
use Rattle.kind_words.proofs.KindWriting.{dead_is, fields_write}
use Rattle.partial_state.specs.declared.stack.TableWork.{TableWork}
use Rattle.partial_state.specs.Levels.{level_type}
use Rattle.partial_state.proofs.LevelFacts.{level_type-typed}
use Rattle.level_release.specs.Asking.{Continues, IsReleasePiece}
use Rattle.level_release.specs.Holding.{Empties, IsReleasedWork}
use Rattle.level_release.proofs.HandsLeft.{partial_leaves}
use Rattle.level_release.proofs.HandsTop.{hands_same, top, top_here}
use Rattle.level_release.proofs.Serving.{piece_back, piece_later, piece_looks, piece_rest, top_asked}

-- ---- it is not dead
pub closing_alive : (k : KindWord) → IsTrue (is_closing k) → is_dead k ≡ false
closing_alive k closing = grind (arith, nat_tests)

alive : {z : Sizes} {made : ℕ} {t : TableWork} {e : Work} → IsReleasedWork z made t e → is_dead (kind_fields e.word) ≡ false
alive {t} {e} is = by t.own refl
  where
    by : (b : Bool) → t.own ≡ b → is_dead (kind_fields e.word) ≡ false
    by true own = work_alive (kind_fields e.word) (is.work own)
    by false lent = closing_alive (kind_fields e.word) (is.closing lent)

-- ---- the store
module _ {h : Holdings} {v : PortValue} {t : TableWork} {us : List TableWork} (s : Empties h v (t ∷ us)) (l : KindWord) (spelled : IsTrue (is_kind l)) (typed : l.kind ≡ level_type t.level) {w : PortValue} {found : ℕ}
    (store : Moves v w (Kind t.frame) (Store (kind_write l)) kinds.Kind None found) where
  keeps : IsTrue (keeps_type found (kind_write l))
  keeps =
      let e = top s in
      let word : found ≡ e.work.word = work_word v.post.machine v.post.vcpu v.holdings t.frame found e.work store.finds (top_here s) in kept_type found (kind_write l) (kind_fields e.work.word) l
      (ap (λ y. kind_fields y) word) (fields_write l spelled) (typed ∙ sym e.is.kind) (alive e.is)

  piece_left : {u : PortValue} {r : Request} {ts : List TableWork} {ds : List Deed} → IsReleasePiece u v r (t ∷ ts) ds → IsReleasePiece u w r (t ∷ ts) ds
  piece_left {u} {r} {ts} {ds} a =
      let came = moves_came v w (Kind t.frame) (Store (kind_write l)) kinds.Kind None found store in
      piece_later a came (serves_step u v w r ds (Kind t.frame) (Store (kind_write l)) kinds.Kind None found a.serves store (top_asked w a came, keeps))

-- partial, with what is recorded still
pub partial_keeps : {h : Holdings} {v w : PortValue} {t : TableWork} {us : List TableWork} {found : ℕ} → Empties h v (t ∷ us) →
    Moves v w (Kind t.frame) (Store (kind_write (partial_kind (level_type t.level) false false (512 - t.done) 0))) kinds.Kind None found →
    IsTrue (keeps_type found (kind_write (partial_kind (level_type t.level) false false (512 - t.done) 0)))
partial_keeps {t = t} s store = keeps s (partial_kind (level_type t.level) false false (512 - t.done) 0) (partial_leaves s).is refl store

-- dead, with a clock value that was found; and its reference is given back
module _ {h : Holdings} {v x d : PortValue} (w : PortValue) {t : TableWork} {us : List TableWork} {clock found : ℕ} (s : Empties h v (t ∷ us)) (look : Moves v x Clock Load kinds.Look None clock) (same : Same v x)
    (store : Moves x d (Kind t.frame) (Store (kind_write (dead_kind (level_type t.level) false clock))) kinds.Kind None found) (put : Serves d w (of_back t.frame) []) where
  spelled : IsTrue (is_kind (dead_kind (level_type t.level) false clock))
  spelled = dead_is (level_type t.level) (level_type-typed t.level) false clock (clock_is_small v.post.machine v.post.vcpu v.holdings clock look.finds)

  pub closes : (ts : List TableWork) → Continues v w (t ∷ ts) ts []
  unfolding Continues
  closes ts u r ds a =
      let looked = piece_looks x a look in
      piece_rest (piece_back (piece_left (hands_same same (moves_came v x Clock Load kinds.Look None clock look) s) (dead_kind (level_type t.level) false clock) spelled refl store looked) put)
