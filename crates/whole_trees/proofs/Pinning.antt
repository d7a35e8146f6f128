-- The step that sets a pin, and the moment behind it.
use Rattle.std.proofs.Common.{◌≡◌, ◌++◌, ℕ, Bool, false, List, [], Result, Ok, None, IsTrue, refl, sym, ap, subst, ◌∙◌, Some, ◌≤◌, arith}
use Rattle.xp_words.specs.declared.kind.KindWord.{KindWord}
use Rattle.xp_words.specs.declared.kind.PageType.{PageType}
use Rattle.xp_words.specs.declared.place.Place.{Place}
use Rattle.xp_words.specs.declared.place.Place.TheVariants.{Kind}
use Rattle.xp_words.specs.declared.reply.Stop.{Stop}
use Rattle.xp_words.specs.KindWords.{kind_fields, kind_write}
use Rattle.xp_words.specs.Machine.{Machine}
use Rattle.xp_words.proofs.KindLaws.{fields_back, fields_in_range}
use Rattle.xp_board.specs.declared.holdings.Made.{Made}
use Rattle.xp_board.specs.declared.holdings.Holdings.{Holdings}
use Rattle.xp_board.specs.declared.step.Act.TheVariants.{Cas, Load}
use Rattle.xp_board.specs.declared.step.Step.{Step}
use Rattle.xp_board.specs.declared.step.StepKind.TheVariants as kinds
use Rattle.xp_board.specs.After.{hands_of}
use Rattle.xp_board.specs.Lists.{EachOf}
use Rattle.xp_board.specs.Readings.{kind_at}
use Rattle.xp_board.specs.Recorded.{HasType}
use Rattle.xp_board.specs.Runs.{Run, State, start, word_at}
use Rattle.xp_board.specs.Sound.{SoundState, SoundWords, hand_of}
use Rattle.xp_board.specs.Told.{Post, PortValue}
use Rattle.step_maker.specs.Moves.{Came}
use Rattle.step_maker.proofs.Coming.{came_post, came_trans, moves_came}
use Rattle.step_maker.proofs.Noting.{swapped}
use Rattle.sound_rule.proofs.OwnRun.{RunsSound}
use Rattle.partial_state.specs.Levels.{level_type}
use Rattle.table_words.specs.Pins.{pinned_kind}
use Rattle.table_entries.proofs.Shared.{gave_came, ref_came}
use Rattle.course_laws.proofs.Stopping.{acquired_came}
use Rattle.mmuext_ops.specs.Course.{PinEnds, Pinned, SawKind, SetsPin, is_pinned, acquired, lost, pinned, pinned_before, raced, refused, seen, unreferred}
use Rattle.whole_trees.specs.Whole.{IsToldBySteps, IsWholeTree, WasPinned}
use Rattle.whole_trees.proofs.Hands.{came_more, run_told, told_on}
use Rattle.whole_trees.proofs.Behind.{IsBehind, is_behind}
use Rattle.whole_trees.proofs.Moments.{state}
use Rattle.whole_trees.proofs.Tops.{pinned_whole}
use Rattle.whole_trees.proofs.Typing.{HasTyped, acquired_has, as_typed}

-- ---- the last step of a pin that is done
-- behind a look, with a typed reference in hand
pub record SetsIt (v w : PortValue) (f : ℕ) (t : PageType) : Type 0 where
  pub from : PortValue
  pub before : Came v from
  pub has : HasTyped f t from.holdings
  pub word : ℕ
  pub off : is_pinned word ≡ false
  pub sets : SetsPin from w f word word

looked_has : (v u : PortValue) (f x : ℕ) (t : PageType) → SawKind v u f x → HasTyped f t v.holdings → HasTyped f t u.holdings
looked_has v u f x t saw has = as_typed f t v.holdings u.holdings (ap (λ (y : PortValue). y.holdings.typed) saw.to) has

set_by_end : (v e w : PortValue) (f level : ℕ) (r : Result (Unit {0}) Stop) → Came v e → HasTyped f (level_type level) e.holdings → PinEnds e w f level r → r ≡ Ok tt → SetsIt v w f (level_type level)
set_by_end v e w f level _ came has (pinned u x saw off sets) is =
    record { from = u; before = came_trans v e u came (moves_came e u (Kind f) Load kinds.Look None x saw); has = looked_has e u f x (level_type level) saw has; word = x; off = off; sets = sets }
set_by_end v e w f level _ came has (seen u x saw on gone) is = absurd cc
set_by_end v e w f level _ came has (raced u y x found saw off tried away on gone) is = absurd cc
set_by_end v e w f level _ came has (lost u y x found saw off tried away still gone) is = absurd cc

set_by_pin : (v w : PortValue) (d f level : ℕ) (answers : List Bool) (r : Result (Unit {0}) Stop) → 1 ≤ level → Pinned v w d f level answers r → r ≡ Ok tt → SetsIt v w f (level_type level)
set_by_pin v w d f level _ _ table (unreferred stop ref) is = absurd cc
set_by_pin v w d f level _ _ table (pinned_before a b x ref saw gave same) is = absurd cc
set_by_pin v w d f level _ _ table (refused a b c x answers stop ref saw gave other acquisition) is = absurd cc
set_by_pin v w d f level _ _ table (acquired a b c e x answers answer ref saw gave other acquisition ends) is =
    let came : Came v e =
    came_trans v a e (ref_came v a f d _ ref)
    (came_trans a b e (moves_came a b (Kind f) Load kinds.Look None x saw) (came_trans b c e (gave_came b c f gave) (acquired_came c f d level e answers (Ok f) acquisition))) in
    set_by_end v e w f level answer came (acquired_has c e f d level answers (Ok f) table acquisition refl) ends is

-- ---- the word that it leaves
first_typed : (m : Place → ℕ) (f : ℕ) (t : PageType) (h : Holdings) → HasTyped f t h → EachOf (λ e. HasType m e.frame e.kind) h.typed → (kind_at m f).kind ≡ t
unfolding EachOf
first_typed m f t h has each =
    let first = (subst (λ xs. EachOf (λ e. HasType m e.frame e.kind) xs) has.typed each).0 in
    subst (λ g. HasType m g (Some t)) has.frame (subst (λ k. HasType m has.newest.frame k) has.kind first)

module _ (n : Machine) (opening : List ℕ) (log : List (ℕ × Step)) (b : State) (later : List Made) (v w : PortValue) (f : ℕ) (t : PageType) (sound : SoundWords n opening) (runs : RunsSound) (run : Run n (start n opening) log b)
    (machine : v.post.machine ≡ n) (told : IsToldBySteps n v.post.vcpu v.holdings) (is : (hand_of b.hands v.post.vcpu).steps ≡ later ++ w.holdings.steps) (set : SetsIt v w f t) where
  abbrev s : ℕ
  s = v.post.vcpu

  abbrev k : KindWord
  k = kind_fields set.word

  abbrev new : ℕ
  new = kind_write (pinned_kind k)

  own : set.from.post.machine ≡ n
  own = ap (λ (q : Post). q.machine) (came_post v set.from set.before) ∙ machine

  told_from : IsToldBySteps n s set.from.holdings
  told_from =
      subst (λ m. IsToldBySteps m s set.from.holdings) machine
      (told_on v set.from set.before (subst (λ m. IsToldBySteps m s v.holdings) (sym machine) told))

  there : IsBehind n opening log s (Kind f) (Cas set.word new) set.word v.holdings.steps w.holdings.steps set.from.holdings.steps
  there =
      let more = came_more v set.from set.before in
      is_behind n opening log b later s set.from w (Kind f) (Cas set.word new) kinds.Kind set.word sound runs run own is set.sets v.holdings.steps more.0 w.holdings.steps [] more.1 refl

  -- ---- the moment before it
  state_before : SoundState n there.before.words there.before.hands
  state_before = state n opening s sound runs there.before there.set.earlier there.set.run

  hand_before : hand_of there.before.hands s ≡ set.from.holdings
  hand_before = run_told n opening s sound runs there.before there.set.earlier there.set.run ∙ ap (λ xs. hands_of n s xs) there.steps ∙ sym told_from

  kind_before : k.kind ≡ t
  kind_before =
      ap (λ y. (kind_fields y).kind) (sym there.found_there)
      ∙ first_typed (word_at n there.before) f t (hand_of there.before.hands s) (subst (HasTyped f t) (sym hand_before) set.has) (state_before.sound.counts.kinds.typed s there.set.made.vcpu)

  -- ---- the moment behind it
  kind_now : kind_at (word_at n there.moment) f ≡ pinned_kind k
  kind_now = ap kind_fields (there.left ∙ swapped set.word new) ∙ fields_back (pinned_kind k) (fields_in_range set.word).0 (fields_in_range set.word).1

  on : IsTrue (kind_at (word_at n there.moment) f).pinned
  on = ap (λ (y : KindWord). y.pinned) kind_now

  typed_now : (kind_at (word_at n there.moment) f).kind ≡ t
  typed_now = ap (λ (y : KindWord). y.kind) kind_now ∙ kind_before

  pub was_pinned : WasPinned n opening log s v.holdings.steps w.holdings.steps f t
  was_pinned =
      record {
        before = there.before;
        moment = there.moment;
        set = there.set;
        unpinned = ap (λ y. (kind_fields y).pinned) there.found_there ∙ set.off;
        pinned = on;
        kind = typed_now;
        whole = subst (λ u. IsWholeTree n (word_at n there.moment) f u) typed_now (pinned_whole n (word_at n there.moment) (hand_of there.moment.hands) (state n opening s sound runs there.moment there.older there.run).sound f on).1;
      }

pub pin_was_set : RunsSound → (n : Machine) (opening : List ℕ) (log : List (ℕ × Step)) (b : State) (v w z : PortValue) (d f level : ℕ) (answers : List Bool) →
    SoundWords n opening → Run n (start n opening) log b → v.post.machine ≡ n → IsToldBySteps n v.post.vcpu v.holdings → (hand_of b.hands v.post.vcpu).steps ≡ z.holdings.steps →
    1 ≤ level → Pinned v w d f level answers (Ok tt) → Came w z → WasPinned n opening log v.post.vcpu v.holdings.steps w.holdings.steps f (level_type level)
pin_was_set runs n opening log b v w z d f level answers sound run machine told is table pin goes =
    let more = came_more w z goes in
    was_pinned n opening log b more.0 v w f (level_type level) sound runs run machine told (is ∙ more.1) (set_by_pin v w d f level answers (Ok tt) table pin refl)
