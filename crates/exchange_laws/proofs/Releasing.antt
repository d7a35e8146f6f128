-- What the old word asked is released as on the plain value, or that is left to be settled.
use Rattle.std.proofs.Common.{◌≡◌, inl, inr, arith, ℕ, zero, suc, ◌<◌, ◌≤◌, Option, Bool, true, false, List, [], ◌∷◌, Result, Ok, Err, IfErr, refl, sym, ap, subst}
use Rattle.xp_words.specs.Machine.{IsMachine, Machine}
use Rattle.xp_words.specs.declared.entry.Demand.{Demand}
use Rattle.xp_words.specs.declared.entry.Demand.TheVariants.{Typed}
use Rattle.xp_words.specs.declared.kind.PageType.{PageType}
use Rattle.xp_words.specs.declared.reply.Pause.TheVariants.{Due}
use Rattle.xp_words.specs.declared.reply.Stop.{Stop}
use Rattle.xp_words.specs.declared.reply.Stop.TheVariants.{Paused}
use Rattle.xp_preempt.specs.Gates.{yeses}
use Rattle.xp_board.specs.Told.{PortValue, is_telling, told_word}
use Rattle.xp_board.proofs.KindForms.{frame_inside}
use Rattle.partial_state.specs.Levels.{level_type}
use Rattle.partial_state.specs.declared.stack.TableWork.{TableWork}
use Rattle.step_maker.specs.Answers.{Stops}
use Rattle.frame_types.specs.Lowering.{DropsType}
use Rattle.table_entries.specs.Asking.{of_entries}
use Rattle.table_law.specs.Plain.{Describes, Plain}
use Rattle.table_law.specs.Release.{drop_demand, let_go}
use Rattle.course_laws.proofs.Awaiting.{rose_by}
use Rattle.course_laws.proofs.Stopping.{no_yes}
use Rattle.level_release.specs.Course as release
use Rattle.level_release.specs.Course.{Emptied, Lowered, RanDown, WasReleased}
use Rattle.entry_exchange.specs.Course as course
use Rattle.entry_exchange.specs.Course.{ReleasedDemand}
use Rattle.release_laws.proofs.Seen.{drops_seen}
use Rattle.release_laws.specs.Pauses.{IsLeft}
use Rattle.exchange_laws.specs.Plain.{LeavesPlain}
use Rattle.exchange_laws.proofs.Given.{given_back}

-- the law of releases
abbrev pub ReleasesAsPlain : Type 0
ReleasesAsPlain =
    (v w : PortValue) (f level : ℕ) (answers : List Bool) (p : Plain) → IsMachine v.post.machine → is_telling v ≡ true → f < v.post.machine.frames → level ≤ 4 →
    Describes v.post.machine (told_word v) p → WasReleased v f (level_type level) w answers (Ok tt) → Describes v.post.machine (told_word w) (let_go level f p)

abbrev pub PausesAsPlain : Type 0
PausesAsPlain =
    (v w : PortValue) (f level : ℕ) (answers : List Bool) (p : Plain) → is_telling v ≡ true → f < v.post.machine.frames → level ≤ 4 → Describes v.post.machine (told_word v) p →
    WasReleased v f (level_type level) w answers (Err (Paused Due)) → IsLeft v.post.machine w f level (let_go level f p)

-- ---- it pauses for the gate only where that said yes
-- no call in it is paused for the gate
lowered_calm : (v : PortValue) (ts : List TableWork) (w : PortValue) (us : List TableWork) (r : Result Bool Stop) → Lowered v ts w us r → r ≡ Err (Paused Due) → ⊥
lowered_calm _ _ _ _ _ (release.given v w t ts few gave) is = absurd cc
lowered_calm _ _ _ _ _ (release.opened v w t ts f recorded closing few gave) is = absurd cc
lowered_calm _ _ _ _ _ (release.stopped v w t ts stop few gave) is =
    let e : stop ≡ Paused Due = cc in rose_by v w (of_entries 0 0) refl (subst (λ s. Stops v w (of_entries 0 0) s) e (gave.entry.stops 0 0))
lowered_calm _ _ _ _ _ (release.emptied v w t ts full dead) is = absurd cc

ran_calm : {below : Option ℕ} → (v : PortValue) (ts : List TableWork) (w : PortValue) (us : List TableWork) (answers : List Bool) (r : Result (Unit {0}) Stop) → RanDown below v ts w us answers r → r ≡ Err (Paused Due) → yeses answers ≡ 0 → ⊥
ran_calm v ts _ _ _ _ release.begun is none = absurd cc
ran_calm v ts _ _ _ _ (release.unasked u w us xs done answers before step off) is none = absurd cc
ran_calm v ts _ _ _ _ (release.asked u w us xs answers before step on) is none = absurd cc
ran_calm v ts _ _ _ _ (release.due u w us xs answers before step on) is none = no_yes answers none
ran_calm v ts _ _ _ _ (release.stopped u w us xs answers stop before step) is none = lowered_calm u us w xs (Err stop) step (let e : stop ≡ Paused Due = cc in ap (λ s. Err s) e)

emptied_calm : {below : Option ℕ} → (v : PortValue) (t : TableWork) (w : PortValue) (answers : List Bool) (r : Result (Unit {0}) Stop) → Emptied below v t w answers r → r ≡ Err (Paused Due) → yeses answers ≡ 0 → ⊥
emptied_calm v t _ _ _ (release.finished w answers ran) is none = absurd cc
emptied_calm v t _ _ _ (release.paused u w us answers stop ran left) is none = ran_calm v (t ∷ []) u us answers (Err stop) ran is none

release_calm : (v : PortValue) (f : ℕ) (t : PageType) (w : PortValue) (answers : List Bool) (r : Result (Unit {0}) Stop) → WasReleased v f t w answers r → r ≡ Err (Paused Due) → yeses answers ≡ 0 → ⊥
release_calm v f t _ _ _ (release.plain w off gave) is none = absurd cc
release_calm v f t _ _ _ (release.shared u w on drops gave) is none = absurd cc
release_calm v f t _ _ _ (release.last u x w word level answers answer on same high drops look empties) is none = emptied_calm x _ w answers answer empties is none

-- ---- its frame is one of the machine
drops_inside : (v u : PortValue) (f : ℕ) (last : Bool) → DropsType v u f last → f < v.post.machine.frames
drops_inside v u f last a = frame_inside v.post.machine f a.lowers.step.may.place

pub released_inside : (v : PortValue) (f : ℕ) (t : PageType) (w : PortValue) (answers : List Bool) (r : Result (Unit {0}) Stop) → is_telling v ≡ true → WasReleased v f t w answers r → f < v.post.machine.frames
released_inside v f t _ _ _ telling (release.plain w off gave) = (drops_seen v w f t telling gave.found).0.inside
released_inside v f t _ _ _ telling (release.shared u w on drops gave) = drops_inside v u f false drops
released_inside v f t _ _ _ telling (release.last u x w word level answers answer on same high drops look empties) = drops_inside v u f true drops

-- ---- by what it asked
some_yes : (k : ℕ) → (k ≡ 0 → ⊥) → 0 < k
some_yes zero off = absurd (off refl)
some_yes (suc k) off = omega arith

module _ (releases : ReleasesAsPlain) (pauses : PausesAsPlain) (n : Machine) (v : PortValue) (machine : IsMachine n) (same : v.post.machine ≡ n) (telling : is_telling v ≡ true) (l : ℕ) (high : l ≤ 4) (p : Plain) (d : Describes n (told_word v) p) where
  there : Describes v.post.machine (told_word v) p
  there = subst (λ k. Describes k (told_word v) p) (sym same) d

  done_by : (w : PortValue) (g : ℕ) (answers : List Bool) → WasReleased v g (level_type l) w answers (Ok tt) → Describes n (told_word w) (let_go l g p)
  done_by w g answers was =
      subst (λ k. Describes k (told_word w) (let_go l g p)) same
      (releases v w g l answers p (subst IsMachine (sym same) machine) telling (released_inside v g (level_type l) w answers (Ok tt) telling was) high there was)

  rest_by : (w : PortValue) (g : ℕ) (answers : List Bool) → WasReleased v g (level_type l) w answers (Err (Paused Due)) → IsLeft n w g l (let_go l g p)
  rest_by w g answers was =
      subst (λ k. IsLeft k w g l (let_go l g p)) same (pauses v w g l answers p telling (released_inside v g (level_type l) w answers (Err (Paused Due)) telling was) high there was)

  typed_by : (w : PortValue) (g : ℕ) (answers : List Bool) (r : Result (Unit {0}) Stop) → WasReleased v g (level_type l) w answers r → IfErr r (λ stop. stop ≡ Paused Due) → LeavesPlain n w answers (let_go l g p)
  typed_by w g answers (Ok done) was due = inl (done_by w g answers was)
  typed_by w g answers (Err stop) was due =
      inr (
        some_yes (yeses answers) (release_calm v g (level_type l) w answers (Err stop) was (ap (λ s. Err s) due)),
        (g, l, rest_by w g answers (subst (λ s. WasReleased v g (level_type l) w answers (Err s)) due was)),
      )

  pub demand_released : (e : Demand) (w : PortValue) (answers : List Bool) → ((g : ℕ) (t : PageType) → e ≡ Typed g t → t ≡ level_type l) → ReleasedDemand v e w answers → LeavesPlain n w answers (drop_demand (let_go l) p e)
  demand_released _ _ _ asks course.nothing = inl d
  demand_released _ _ _ asks course.bad = inl d
  demand_released _ _ _ asks (course.referred w g gave) = inl (given_back n v w g p same telling d gave)
  demand_released _ _ _ asks (course.released w g t answers r was due) = typed_by w g answers r (subst (λ k. WasReleased v g k w answers r) (asks g t refl) was) due
