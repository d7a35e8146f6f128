-- What the steps show that give a type back, and the words that they leave on a board that tells all words.
use Rattle.std.proofs.Common.{◌≡◌, ℕ, ◌%◌, ◌^◌, ◌<◌, ◌==◌, ◌&&◌, if◌then◌else◌, not, Bool, true, false, [], None, IsTrue, refl, sym, ap, ◌∙◌}
use Rattle.xp_board.proofs.Sums.{when_eq}
use Rattle.xp_words.specs.KindWords.{kind_fields, kind_write}
use Rattle.xp_words.specs.PageTypes.{type_number}
use Rattle.xp_words.specs.declared.kind.KindWord.{KindWord}
use Rattle.xp_words.specs.declared.kind.PageType.{PageType}
use Rattle.xp_words.specs.declared.place.Place.TheVariants.{Clock, Kind, Refs}
use Rattle.xp_board.specs.declared.step.Act.TheVariants.{Load, Store, Add}
use Rattle.xp_board.specs.declared.step.StepKind.TheVariants as kinds
use Rattle.xp_board.specs.Readings.{is_closing, is_dead, is_free, is_type}
use Rattle.xp_board.specs.RefSteps.{one_down}
use Rattle.xp_board.specs.Told.{PortValue, is_telling, told_word}
use Rattle.step_maker.specs.Holds.{Same}
use Rattle.step_maker.specs.Moves.{Moves}
use Rattle.step_maker.specs.Plain.{Words, change, Leaves}
use Rattle.step_maker.proofs.Telling.{leaves, load_tells, moves_telling, told_there, told_elsewhere}
use Rattle.step_maker.specs.Answers.{Serves}
use Rattle.step_maker.specs.Asked.{of_back}
use Rattle.step_maker.specs.Reasons.{keeps_type}
use Rattle.step_maker.proofs.Piecing.{serves_step, serves_then}
use Rattle.frame_words.specs.Plain.{put, stamp_now}
use Rattle.frame_words.proofs.Putting.{clock_low}
use Rattle.frame_words.proofs.Twinning.{low_rest}
use Rattle.frame_words.proofs.Taking.{backs_itself}
use Rattle.kind_words.specs.Kinds.{dead_kind}
use Rattle.kind_words.proofs.KindFacts.{work_word}
use Rattle.kind_words.proofs.KindWriting.{fields_write}
use Rattle.frame_types.specs.Plain.{dropped_plain, set_kind}
use Rattle.frame_types.specs.Taking.{MayDropPlain}
use Rattle.frame_types.proofs.Lowered.{lowered_words, lowers}
use Rattle.frame_types.proofs.Dropping.{closing, found_is, here, is_closed, fields, kind_is, last_may}

-- ---- not the last
module _ (v a w : PortValue) (f found : ℕ) (kind : PageType) (lower : Moves v a (Kind f) (Add one_down) kinds.Kind None found) where
  pub more_serves : Serves a w (of_back f) [] → Serves v w (of_back f) []
  more_serves put = serves_then v a w (of_back f) [] [] (lowers v a f found lower) put

  pub telling_a : is_telling v ≡ true → is_telling a ≡ true
  telling_a telling = moves_telling v a (Kind f) (Add one_down) kinds.Kind None found lower ∙ telling

  by_number : (b : Bool) → ((kind_fields found).number == 1) ≡ b → is_telling v ≡ true → ((kind_fields (told_word v (Kind f))).number == 1) ≡ b
  by_number b is telling = ap (λ x. (kind_fields x).number == 1) (told_there v a (Kind f) (Add one_down) kinds.Kind None found lower telling) ∙ is

  pub more_words : ((kind_fields found).number == 1) ≡ false → (is_telling a ≡ true → Leaves w (put f (told_word a))) → is_telling v ≡ true → Leaves w (dropped_plain f kind (told_word v))
  more_words off after telling q =
      after (telling_a telling) q ∙ ap (λ (m : Words). put f m q) (λ i p. lowered_words v a f found lower telling p i)
      ∙ sym (ap (λ b. put f (if b then set_kind f (dead_kind kind false (stamp_now (told_word v))) (change (Add one_down) (Kind f) (told_word v)) else change (Add one_down) (Kind f) (told_word v)) q) (by_number false off telling))

-- ---- the frame stands live, and is not free
module _ (v a : PortValue) (f found : ℕ) (kind : PageType) (frame : f < v.post.machine.frames) (drops : MayDropPlain v.post.machine f kind v.holdings) (lower : Moves v a (Kind f) (Add one_down) kinds.Kind None found) where
  stands_live : is_telling v ≡ true → (kind_fields (told_word v (Kind f))).validated ≡ true
  stands_live telling = ap (λ x. (kind_fields x).validated) (told_there v a (Kind f) (Add one_down) kinds.Kind None found lower telling) ∙ (found_is v a f found kind frame drops lower).live

  pub more_stands : (is_telling a ≡ true → is_free (told_word a (Refs f)) ≡ false) → is_telling v ≡ true → (is_free (told_word v (Refs f)) ≡ false) × ((kind_fields (told_word v (Kind f))).validated ≡ true)
  more_stands owned telling = (
    ap is_free (sym (told_elsewhere v a (Kind f) (Add one_down) kinds.Kind None found lower (Refs f) (λ e. cc))) ∙ owned (telling_a v a v f found kind lower telling),
    stands_live telling,
  )

  pub last_stands : (b d : PortValue) (stamp x new : ℕ) → Moves a b Clock Load kinds.Look None stamp → Moves b d (Kind f) (Store new) kinds.Kind None x → (is_telling d ≡ true → is_free (told_word d (Refs f)) ≡ false) →
      is_telling v ≡ true → (is_free (told_word v (Refs f)) ≡ false) × ((kind_fields (told_word v (Kind f))).validated ≡ true)
  last_stands b d stamp x new look dead owned =
      more_stands (λ on. ap is_free (sym (load_tells a b Clock kinds.Look None stamp look on (Refs f)) ∙ sym (told_elsewhere b d (Kind f) (Store new) kinds.Kind None x dead (Refs f) (λ e. cc)))
      ∙ owned (moves_telling b d _ _ _ _ _ dead ∙ moves_telling a b Clock Load kinds.Look None stamp look ∙ on))

-- ---- the last
same_type : (t : PageType) → IsTrue (is_type t t && true)
same_type t = rw (when_eq (type_number t) (type_number t) refl) refl

closed_lives : (k : KindWord) → IsTrue (is_closing k) → IsTrue (not (is_dead k))
closed_lives k closing = lives_by k.validated (k.number == 0) k.partial k.locked closing
  where
    lives_by : (b c d e : Bool) → IsTrue (b && c) → IsTrue (not (not b && (not d && not e)))
    lives_by true c d e is = refl
    lives_by false c d e is = absurd cc

keeps_by : (t : PageType) (k l : KindWord) → k.kind ≡ t → l.kind ≡ t → IsTrue (not (is_dead k)) → IsTrue (is_type k.kind l.kind && not (is_dead k))
keeps_by t k l a b live = rw (a, b, live) (same_type t)

module _ (v a b d w : PortValue) (f found stamp x : ℕ) (kind : PageType) (frame : f < v.post.machine.frames) (drops : MayDropPlain v.post.machine f kind v.holdings)
    (lower : Moves v a (Kind f) (Add one_down) kinds.Kind None found) (last : ((kind_fields found).number == 1) ≡ true)
    (look : Moves a b Clock Load kinds.Look None stamp) (same : Same a b) (dead : Moves b d (Kind f) (Store (kind_write (dead_kind kind false stamp))) kinds.Kind None x) where
  -- the word found is that of the closing frame
  closing_word : x ≡ (closing v a f found kind frame drops lower last).word
  closing_word = work_word b.post.machine b.post.vcpu b.holdings f x _ dead.finds (here v a f found kind frame drops lower last b stamp look same)

  keeps : IsTrue (keeps_type x (kind_write (dead_kind kind false stamp)))
  keeps =
      rw (closing_word, fields_write (dead_kind kind false stamp) (last_may v a f found kind frame drops lower last b stamp look same).is)
      (keeps_by kind (kind_fields (closing v a f found kind frame drops lower last).word) (dead_kind kind false stamp)
      (ap (λ (y : KindWord). y.kind) (fields v a f found kind frame drops lower last) ∙ kind_is v a f found kind frame drops lower) refl
      (closed_lives (kind_fields (closing v a f found kind frame drops lower last).word) (is_closed v a f found kind frame drops lower last b stamp look same)))

  pub last_serves : Serves d w (of_back f) [] → Serves v w (of_back f) []
  last_serves put =
      let asks = backs_itself v.post.machine v.post.vcpu f in
      let one = lowers v a f found lower in
      let two = serves_step v a b (of_back f) [] _ _ _ _ _ one look tt in
      let three = serves_step v b d (of_back f) [] _ _ _ _ _ two dead (asks _, keeps) in
      serves_then v d w (of_back f) [] [] three put

  pub last_words : (is_telling d ≡ true → Leaves w (put f (told_word d))) → is_telling v ≡ true → Leaves w (dropped_plain f kind (told_word v))
  last_words after telling q =
      let on_a = telling_a v a w f found kind lower telling in
      let on_b = moves_telling a b Clock Load kinds.Look None stamp look ∙ on_a in
      let on_d = moves_telling b d _ _ _ _ _ dead ∙ on_b in
      let at_b : told_word b ≡ told_word a = λ i p. load_tells a b Clock kinds.Look None stamp look on_a p i in
      let at_d : told_word d ≡ change (Store (kind_write (dead_kind kind false stamp))) (Kind f) (told_word b) = λ i p. leaves b d _ _ _ _ _ dead on_b p i in
      let at_a : told_word a ≡ change (Add one_down) (Kind f) (told_word v) = λ i p. lowered_words v a f found lower telling p i in
      let clock : stamp ≡ stamp_now (told_word v) =
      sym (low_rest stamp (clock_low a b stamp look))
      ∙ ap (λ y. y % 2 ^ 36) (sym (told_there a b Clock Load kinds.Look None stamp look on_a) ∙ told_elsewhere v a (Kind f) (Add one_down) kinds.Kind None found lower Clock (λ e. cc)) in
      after on_d q
      ∙ ap (λ (m : Words). put f m q) (at_d ∙ ap (λ (m : Words). change (Store (kind_write (dead_kind kind false stamp))) (Kind f) m) (at_b ∙ at_a)
      ∙ ap (λ c. change (Store (kind_write (dead_kind kind false c))) (Kind f) (change (Add one_down) (Kind f) (told_word v))) clock)
      ∙ sym (ap (λ t. put f (if t then set_kind f (dead_kind kind false (stamp_now (told_word v))) (change (Add one_down) (Kind f) (told_word v)) else change (Add one_down) (Kind f) (told_word v)) q) (by_number v a w f found kind lower true last telling))
