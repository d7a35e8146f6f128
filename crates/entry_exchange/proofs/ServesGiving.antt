-- What an entry asks is given back or released, and the lock goes off: what a guest sees of it.
use Rattle.std.proofs.Common.{◌≡◌, ℕ, ◌+◌, [], None, IsTrue, Result, Ok, Err, IfErr, refl, rules, ap, subst, inl}
use Rattle.xp_words.specs.KindWords.{kind_write}
use Rattle.xp_words.specs.Machine.{Machine}
use Rattle.xp_words.specs.declared.entry.Demand.TheVariants.{Read, Typed}
use Rattle.xp_words.specs.declared.kind.KindWord.{KindWord}
use Rattle.xp_words.specs.declared.kind.PageType.{PageType}
use Rattle.xp_words.specs.declared.place.Place.TheVariants.{Kind}
use Rattle.xp_words.specs.declared.reply.Pause.TheVariants.{Due}
use Rattle.xp_words.specs.declared.reply.Stop.{Stop}
use Rattle.xp_words.specs.declared.reply.Stop.TheVariants.{Paused}
use Rattle.xp_board.specs.declared.step.Act.TheVariants.{Store}
use Rattle.xp_board.specs.declared.step.StepKind.TheVariants as kinds
use Rattle.xp_board.specs.Readings.{is_partial}
use Rattle.xp_board.specs.Told.{Post, PortValue}
use Rattle.xp_board.proofs.Sums.{when_eq}
use Rattle.step_maker.specs.Moves.{Met, Moves}
use Rattle.step_maker.proofs.Coming.{came_post}
use Rattle.step_maker.specs.Answers.{Serves, misses}
use Rattle.step_maker.specs.Asked.{Within, back, of_back}
use Rattle.step_maker.specs.Finding.{Finding}
use Rattle.step_maker.proofs.Grown.{grown_by, risen}
use Rattle.step_maker.proofs.Piecing.{serves_back, serves_came, serves_step, serves_within, within_back}
use Rattle.kept_marks.proofs.Serving.{asked_later, left_serves}
use Rattle.kind_words.specs.Kinds.{MayLeave}
use Rattle.level_release.specs.Asking.{of_release}
use Rattle.table_words.specs.OldWords.{old_place}
use Rattle.table_words.specs.declared.old_words.OldWord.TheVariants.{Second}
use Rattle.entry_exchange.specs.Serving.{ServesTable, of_given}

-- ---- behind any piece that asks the frame
-- a call that gives it back
pub behind_back : (v w : PortValue) (f : ℕ) → Serves v w (of_back f) [] → ServesTable v w f
behind_back v w f gives u r ds before asked locks =
    record {
      more = [];
      hidden = inl refl;
      serves = serves_back u v w r ds [] before f (asked_later u v w r f (serves_came v w (of_back f) [] gives) asked) gives;
    }

-- ---- released
within_given : (n : Machine) (s f owner pages : ℕ) (t : PageType) (answer : Result (Unit {0}) Stop) (F : Finding) → Within n s (of_release f owner pages answer) F (of_given (Typed f t) owner pages) F
within_given n s f owner pages t answer F =
    let gate = risen (of_release f owner pages answer).rose in
    grown_by n s (of_release f owner pages answer) (of_given (Typed f t) owner pages) F F (λ m a. a) (search (rules, gate)) (record { owner = refl; pages_of = refl }) (λ g none k is. absurd cc) (λ any g none. absurd cc) (λ g is. back is)

module _ (v w : PortValue) (f owner pages : ℕ) where
  pub released_ref : Serves v w (of_back f) [] → Serves v w (of_given (Read f) owner pages) []
  released_ref gives =
      serves_within v w (of_back f) (of_given (Read f) owner pages) [] (within_back v.post.machine v.post.vcpu f (of_given (Read f) owner pages) (Met v w) (Met v w) (λ m a. a) (back (when_eq f f refl))) gives

  none_missed : (answer : Result (Unit {0}) Stop) → IfErr answer (λ e. e ≡ Paused Due) → misses v.post.machine answer ≡ []
  none_missed (Ok done) due = refl
  none_missed (Err e) due = rw due refl

  pub released_typed : (t : PageType) (answer : Result (Unit {0}) Stop) → IfErr answer (λ e. e ≡ Paused Due) → Serves v w (of_release f owner pages answer) (misses v.post.machine answer) → Serves v w (of_given (Typed f t) owner pages) []
  released_typed t answer due a =
      serves_within v w (of_release f owner pages answer) (of_given (Typed f t) owner pages) [] (within_given v.post.machine v.post.vcpu f owner pages t answer (Met v w))
      (subst (λ ds. Serves v w (of_release f owner pages answer) ds) (none_missed answer due) a)

-- ---- the lock went off with the last type count
module _ (v u y w : PortValue) (f : ℕ) (k : KindWord) (may : MayLeave u f k) (partial : IsTrue (is_partial k)) (found : ℕ) (store : Moves u y (Kind f) (Store (kind_write k)) kinds.Kind None found)
    (names : Moves y w (old_place y.post.vcpu Second) (Store (f + 1)) kinds.Context None 0) where
  pub named_serves : Serves v u (of_back f) [] → Serves v w (of_back f) []
  named_serves gives =
      let before = left_serves u y f k may partial found store v (of_back f) [] gives (back (when_eq f f refl)) in
      let same : y.post.vcpu ≡ v.post.vcpu = ap (λ (p : Post). p.vcpu) (came_post v y (serves_came v y (of_back f) [] before)) in
      serves_step v y w (of_back f) [] (old_place y.post.vcpu Second) (Store (f + 1)) kinds.Context None 0 before names (inl (same, inl (λ e. absurd cc)))
