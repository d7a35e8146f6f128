-- A base is installed: what is in hand behind the store and the flush, the steps, and the course.
use Rattle.std.proofs.Common.{◌≡◌, ◌≢◌, ℕ, ◌+◌, ◌-◌, if◌then◌else◌, true, List, [], ◌∷◌, ◌++◌, Option, Some, None, Result, Ok, Err, IfErr, add-one, refl, sym, ap, ◌∙◌, subst, arith, inl}
use Rattle.xp_words.specs.Machine.{Machine}
use Rattle.xp_words.specs.Places.{sizes_of}
use Rattle.xp_words.specs.declared.kind.PageType.TheVariants.{L4}
use Rattle.xp_words.specs.declared.reply.Pause.TheVariants.{Due}
use Rattle.xp_words.specs.declared.reply.Stop.{Stop}
use Rattle.xp_words.specs.declared.reply.Stop.TheVariants.{Paused}
use Rattle.xp_board.specs.declared.step.Act.TheVariants.{Store}
use Rattle.xp_board.specs.declared.step.StepKind.TheVariants as kinds
use Rattle.xp_board.specs.Hands.{owner_from}
use Rattle.xp_board.specs.KindSteps.{live_typed}
use Rattle.xp_board.specs.Told.{PortValue}
use Rattle.xp_preempt.specs.Gates.{Gate}
use Rattle.xp_preempt.proofs.Consulting.{gated_past, past_as, past_none}
use Rattle.xp_board.proofs.Sums.{when_eq}
use Rattle.step_maker.specs.Holds.{FlushedSame, Holds}
use Rattle.step_maker.specs.Moves.{Came, Met, Moves}
use Rattle.step_maker.proofs.Coming.{came_trans, met_after, met_before, moment_of, moves_came, moves_met}
use Rattle.step_maker.specs.Answers.{Deed, Serves, SetsWord, is_told_word, misses}
use Rattle.step_maker.specs.Asked.{IsAsked, IsFor, Request, context, named_type, of}
use Rattle.step_maker.specs.Finding.{FoundAt}
use Rattle.step_maker.proofs.Piecing.{serves_inner, serves_nothing, serves_step}
use Rattle.flush_words.proofs.Lasting.{came_longer}
use Rattle.kind_words.proofs.KindHands.{known_first}
use Rattle.level_validate.specs.Unwinding.{own_domain}
use Rattle.level_release.specs.Asking.{of_release}
use Rattle.level_release.specs.Asking as releases
use Rattle.level_release.specs.Course.{ReleasesFrameBy}
use Rattle.level_release.specs.Holding.{HoldsLive}
use Rattle.table_bases.specs.declared.words.Base.{Base}
use Rattle.table_bases.specs.declared.words.Base.TheVariants.{Kernel, User}
use Rattle.table_bases.specs.Asking.{of_base}
use Rattle.table_bases.specs.Course.{FlushesBehind, InstallsBy, ReleasesOld}
use Rattle.table_bases.specs.Holding.{HoldsNoMore, FoundClockLow, base_number, base_place, came_out, naming, with_typed}
use Rattle.table_bases.proofs.Behind.{behind_came, behind_serves, stays_warm}
use Rattle.table_bases.proofs.Requests.{base_contexts, base_entries, base_flushes, base_owner, base_rose, within_release}
use Rattle.table_bases.proofs.Storing.{base_in_context}

-- ---- the words
no_flush_word : (base : Base) → base_number base ≢ 5
no_flush_word Kernel = λ e. cc
no_flush_word User = λ e. cc

told_word : (base : Base) → is_told_word (base_number base) ≡ true
told_word Kernel = refl
told_word User = refl

names_top : (base : Base) → IsFor (Some L4) (named_type (base_number base))
names_top Kernel = refl
names_top User = refl

pub word_after : (old : ℕ) → old ≢ 0 → old ≡ old - 1 + 1
word_after old some = omega (arith, some)

pub warm_behind : (base : Base) (new : Option ℕ) {v x : PortValue} {old : ℕ} → Moves v x (base_place v.post.vcpu base) (Store (naming new)) kinds.Context None old → Holds v x (with_typed (came_out old v.holdings) v.holdings) → FoundClockLow v → FoundClockLow x
warm_behind base new {v} {x} {old} store put warm = stays_warm v x (moves_came v x (base_place v.post.vcpu base) (Store (naming new)) kinds.Context None old store) (ap (λ (q : PortValue). q.holdings.ran) put) warm

-- ---- behind the store and the flush
module _ (base : Base) (new : Option ℕ) {v x c : PortValue} {old : ℕ} (store : Moves v x (base_place v.post.vcpu base) (Store (naming new)) kinds.Context None old) (behind : FlushesBehind x c) where
  abbrev request : Request
  request = of_base (own_domain v) new true

  abbrev deed : List Deed
  deed = SetsWord v.post.vcpu (base_number base) (naming new) ∷ []

  came_x : Came v x
  came_x = moves_came v x (base_place v.post.vcpu base) (Store (naming new)) kinds.Context None old store

  stored_serves : Serves v x request deed
  stored_serves =
      subst (λ b. Serves v x request ((if b then deed else []) ++ [])) (told_word base)
      (serves_step v v x request [] (base_place v.post.vcpu base) (Store (naming new)) kinds.Context None old (serves_nothing v request) store (inl (refl, inl (no_flush_word base))))

  pub set_serves : Serves v c request deed
  set_serves = behind_serves v x c request deed stored_serves (base_flushes (own_domain v) new true) behind

  pub set_came : Came v c
  set_came = came_trans v x c came_x (behind_came x c behind)

  -- ---- what the word named is asked
  module _ (w : PortValue) (after : Came c w) (g : ℕ) (is : old ≡ g + 1) where
    found_old : FoundAt (Met v w) (base_place v.post.vcpu base) old
    unfolding moment_of
    found_old =
        record {
          moment = moment_of v (base_place v.post.vcpu base) (Store (naming new)) kinds.Context None old;
          was = met_before v x w _ (moves_met v x (base_place v.post.vcpu base) (Store (naming new)) kinds.Context None old store) (came_trans x c w (behind_came x c behind) after);
          place = refl;
          word = refl;
        }

    asks_old : IsAsked v.post.machine v.post.vcpu request (Met v w) g
    asks_old =
        of (own_domain v) (Some L4)
        (context v.post.vcpu (base_number base) old (base_contexts (own_domain v) new true) found_old (base_in_context base) (when_eq old (g + 1) is) (inl refl) refl (names_top base))

    quiet_release : (n : Machine) (answer : Result (Unit {0}) Stop) → IfErr answer (λ e. e ≡ Paused Due) → misses n answer ≡ []
    quiet_release n (Ok done) due = refl
    quiet_release n (Err e) due = rw due refl

    pub released_serves : (answer : Result (Unit {0}) Stop) → IfErr answer (λ e. e ≡ Paused Due) → Serves c w (of_release g (own_domain v) request.pages_of answer) (misses c.post.machine answer) → Serves v w request deed
    released_serves answer due a =
        serves_inner v c w request (of_release g (own_domain v) request.pages_of answer) deed []
        (within_release v.post.machine v.post.vcpu g (own_domain v) (releases.is_due_answer answer) request (Met c w) (Met v w) (λ m y. met_after v c w m set_came y) (base_entries (own_domain v) new true)
        (base_owner (own_domain v) new true) (base_rose (own_domain v) new true) asks_old) set_serves
        (subst (λ ds. Serves c w (of_release g (own_domain v) request.pages_of answer) ds) (quiet_release c.post.machine answer due) a)

  -- ---- the hand
  module _ (put : Holds v x (with_typed (came_out old v.holdings) v.holdings)) where
    pub holds_old : FlushedSame x c → HoldsNoMore v → old ≢ 0 → HoldsLive c (old - 1) L4
    holds_old same none some =
        let is : came_out old v.holdings ≡ live_typed (old - 1) L4 (owner_from v.holdings) ∷ [] = ap (λ y. came_out y v.holdings) (word_after old some ∙ add-one (old - 1)) in
        let typed : c.holdings.typed ≡ live_typed (old - 1) L4 (owner_from v.holdings) ∷ [] = ap (λ (q : PortValue). q.holdings.typed) same ∙ ap (λ (q : PortValue). q.holdings.typed) put ∙ is in
        record {
          works = ap (λ (q : PortValue). q.holdings.works) same ∙ ap (λ (q : PortValue). q.holdings.works) put ∙ none.works;
          looking = ap (λ (q : PortValue). q.holdings.looking) same ∙ ap (λ (q : PortValue). q.holdings.looking) put ∙ none.looking;
          reference = live_typed (old - 1) L4 (owner_from v.holdings);
          typed = typed;
          frame = refl;
          recent = came_longer v c set_came;
          live = known_first (sizes_of c.post.machine) (old - 1) L4 (owner_from v.holdings) [] c.holdings typed;
        }

  -- ---- the course
  pub none_course : {g : Gate} → old ≡ 0 → InstallsBy v c base new g g
  none_course none = past_none refl (record { stored = x; flushed = c; old = old; stores = store; flushes = behind; releases = subst (λ y. ReleasesOld c c y []) (sym none) (refl, refl) })

  pub old_course : {w : PortValue} {answer : Result (Unit {0}) Stop} {g h : Gate} → old ≢ 0 → IfErr answer (λ e. e ≡ Paused Due) → ReleasesFrameBy c w (old - 1) L4 g h answer → InstallsBy v w base new g h
  old_course {w} {answer} some due by =
      let is = sym (word_after old some ∙ add-one (old - 1)) in
      past_as (λ on. absurd cc)
      (λ answers released. record { stored = x; flushed = c; old = old; stores = store; flushes = behind; releases = subst (λ y. ReleasesOld c w y answers) is (answer, released, due) })
      (gated_past by)
