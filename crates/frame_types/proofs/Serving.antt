-- What the steps show that leave a frame of the own works, and the words after them.
use Rattle.std.proofs.Common.{◌≡◌, ℕ, ◌%◌, ◌^◌, true, false, List, [], Some, None, IsTrue, sym, ap, ◌∙◌, arith}
use Rattle.std.proofs.lemmas.Bool.Decides.{nat_tests}
use Rattle.xp_words.specs.declared.kind.KindWord.{KindWord}
use Rattle.xp_words.specs.declared.kind.PageType.{PageType}
use Rattle.xp_words.specs.declared.place.Place.TheVariants.{Clock, Kind, Refs}
use Rattle.xp_words.specs.KindWords.{is_kind, kind_fields, kind_write}
use Rattle.xp_words.specs.declared.reply.Stop.{Stop}
use Rattle.xp_words.specs.declared.reply.Stop.TheVariants.{Refused, Paused}
use Rattle.xp_words.specs.declared.reply.Refusal.TheVariants as refusals
use Rattle.xp_words.specs.declared.reply.Pause.TheVariants.{Busy, Flush, Lost}
use Rattle.xp_board.specs.declared.step.Act.TheVariants.{Load, Store}
use Rattle.xp_board.specs.declared.step.StepKind.TheVariants as kinds
use Rattle.xp_board.specs.declared.holdings.Work.{Work}
use Rattle.xp_board.specs.Hands.{work_on}
use Rattle.xp_board.specs.Readings.{is_dead, is_free, is_work}
use Rattle.xp_board.specs.Told.{PortValue, is_telling, told_word}
use Rattle.step_maker.specs.Moves.{Met, Moves}
use Rattle.step_maker.specs.Plain.{Leaves, Words}
use Rattle.step_maker.proofs.Telling.{leaves, load_tells, moves_telling, told_there}
use Rattle.step_maker.specs.Answers.{Deed, Serves}
use Rattle.step_maker.specs.Asked.{of_back, of_frame}
use Rattle.step_maker.proofs.Later.{IsUncounted}
use Rattle.step_maker.proofs.Piecing.{serves_back, serves_step}
use Rattle.step_maker.proofs.Keeping.{kept_type}
use Rattle.frame_words.proofs.Taking.{names_itself}
use Rattle.frame_words.proofs.Twinning.{low_rest}
use Rattle.frame_words.specs.Plain.{put, stamp_now}
use Rattle.kind_words.specs.Kinds.{dead_kind}
use Rattle.kind_words.proofs.KindFacts.{clock_is_small, work_word}
use Rattle.kind_words.proofs.KindWriting.{fields_write}
use Rattle.frame_types.specs.Taking.{IsTypeStop}
use Rattle.frame_types.specs.Plain.{set_kind}

-- ---- they serve the type that is asked
pub work_alive : (k : KindWord) → IsTrue (is_work k) → is_dead k ≡ false
work_alive k work = grind (arith, nat_tests)

module _ (u v d : PortValue) (f owner : ℕ) (want : PageType) (ds : List Deed) (before : Serves u v (of_frame f owner (Some want)) ds) where
  -- a word of that type is left in its place
  pub store_serves : (e : Work) (l : KindWord) (x : ℕ) → work_on f v.holdings.works ≡ Some e → IsTrue (is_work (kind_fields e.word)) → (kind_fields e.word).kind ≡ want → IsTrue (is_kind l) → l.kind ≡ want →
      Moves v d (Kind f) (Store (kind_write l)) kinds.Kind None x → Serves u d (of_frame f owner (Some want)) ds
  store_serves e l x here work kind is type store =
      let word : x ≡ e.word = work_word v.post.machine v.post.vcpu v.holdings f x e store.finds here in
      serves_step u v d (of_frame f owner (Some want)) ds (Kind f) (Store (kind_write l)) kinds.Kind None x before store
      (names_itself u.post.machine u.post.vcpu f owner (Some want) (Met u d), kept_type x (kind_write l) (kind_fields e.word) l (ap (λ y. kind_fields y) word) (fields_write l is) (type ∙ sym kind) (work_alive (kind_fields e.word) work))

  pub back_serves : Serves v d (of_back f) [] → Serves u d (of_frame f owner (Some want)) ds
  back_serves put = serves_back u v d (of_frame f owner (Some want)) ds [] before f (names_itself u.post.machine u.post.vcpu f owner (Some want) (Met u d)) put

  pub look_serves : (clock : ℕ) → Moves v d Clock Load kinds.Look None clock → Serves u d (of_frame f owner (Some want)) ds
  look_serves clock look = serves_step u v d (of_frame f owner (Some want)) ds Clock Load kinds.Look None clock before look tt

-- ---- the words
module _ (v d : PortValue) (f x : ℕ) (l : KindWord) (store : Moves v d (Kind f) (Store (kind_write l)) kinds.Kind None x) (telling : is_telling v ≡ true) where
  pub stored_words : told_word d ≡ set_kind f l (told_word v)
  stored_words = λ i q. leaves v d (Kind f) (Store (kind_write l)) kinds.Kind None x store telling q i

  pub telling_on : is_telling d ≡ true
  telling_on = moves_telling v d (Kind f) (Store (kind_write l)) kinds.Kind None x store ∙ telling

  pub put_behind : (w : PortValue) → (is_telling d ≡ true → Leaves w (put f (told_word d))) → Leaves w (put f (set_kind f l (told_word v)))
  put_behind w after q = after telling_on q ∙ ap (λ (m : Words). put f m q) stored_words

  -- a frame whose reference is given back then is owned
  pub owned_before : (is_telling d ≡ true → is_free (told_word d (Refs f)) ≡ false) → is_free (told_word v (Refs f)) ≡ false
  owned_before owned = ap (λ (m : Words). is_free (m (Refs f))) (sym stored_words) ∙ owned telling_on

-- behind a look at the clock
module _ (v a d : PortValue) (f x clock : ℕ) (look : Moves v a Clock Load kinds.Look None clock) (telling : is_telling v ≡ true) where
  telling_a : is_telling a ≡ true
  telling_a = moves_telling v a Clock Load kinds.Look None clock look ∙ telling

  same_words : told_word a ≡ told_word v
  same_words = λ i p. load_tells v a Clock kinds.Look None clock look telling p i

  stamp_is : clock ≡ stamp_now (told_word v)
  stamp_is = sym (low_rest clock (clock_is_small v.post.machine v.post.vcpu v.holdings clock look.finds)) ∙ ap (λ y. y % 2 ^ 36) (sym (told_there v a Clock Load kinds.Look None clock look telling))

  pub dead_words : (w : PortValue) (want : PageType) → Moves a d (Kind f) (Store (kind_write (dead_kind want true clock))) kinds.Kind None x → (is_telling d ≡ true → Leaves w (put f (told_word d))) →
      Leaves w (put f (set_kind f (dead_kind want true (stamp_now (told_word v))) (told_word v)))
  dead_words w want store after q =
      put_behind a d f x (dead_kind want true clock) store telling_a w after q
      ∙ ap (λ (m : Words). put f (set_kind f (dead_kind want true clock) m) q) same_words ∙ ap (λ c. put f (set_kind f (dead_kind want true c) (told_word v)) q) stamp_is

  pub owned_behind : (l : KindWord) → Moves a d (Kind f) (Store (kind_write l)) kinds.Kind None x → (is_telling d ≡ true → is_free (told_word d (Refs f)) ≡ false) → is_free (told_word v (Refs f)) ≡ false
  owned_behind l store owned = ap (λ (m : Words). is_free (m (Refs f))) (sym same_words) ∙ owned_before a d f x l store telling_a owned

-- a type is not to be had for no count
pub type_uncounted : (e : Stop) → IsTypeStop e → IsUncounted e
type_uncounted (Refused (refusals.OtherType f want x)) is = tt
type_uncounted (Refused (refusals.Clock x)) is = tt
type_uncounted (Paused (Lost place e x)) is = tt
type_uncounted (Paused (Busy f x)) is = tt
type_uncounted (Paused (Flush v stamp x)) is = tt
type_uncounted _ is = absurd is
