-- Nothing is in hand behind an element, whatever the first old word names; and answers that are no pause for the gate.
use Rattle.std.proofs.Common.{◌≡◌, ℕ, false, Option, Result, Ok, Err, IfErr, refl, inl, inr}
use Rattle.xp_words.specs.declared.reply.Pause.TheVariants as pauses
use Rattle.xp_words.specs.declared.reply.Stop.{Stop}
use Rattle.xp_words.specs.declared.reply.Stop.TheVariants.{Paused, Refused}
use Rattle.xp_board.specs.Told.{PortValue}
use Rattle.step_maker.specs.Holds.{FlushedHolds, Rests}
use Rattle.step_maker.proofs.Resting as resting
use Rattle.step_maker.proofs.Resting.{still_rests}
use Rattle.level_release.specs.Asking.{is_due_answer}
use Rattle.flush_waits.specs.Waiting.{IsWait}
use Rattle.table_bases.specs.Asking.{IsSpentStop}
use Rattle.mmuext_ops.specs.Elements.{LeavesElement}
use Rattle.mmuext_ops.specs.declared.element.Element.TheVariants.{Pin, Unpin}

-- ---- the hand
rests_by : (v w : PortValue) (o : Option ℕ) → Rests v → FlushedHolds v w (record v.holdings { old0 = o }) → Rests w
rests_by v w o rests holds = resting.rests_by v w o v.holdings.old1 rests holds

pub rests_pinned : (v w : PortValue) (f level : ℕ) (answer : Result (Unit {0}) Stop) → Rests v → LeavesElement v w (Pin f level) answer → Rests w
rests_pinned v w f level (Ok done) rests leaves = still_rests v w rests leaves
rests_pinned v w f level (Err (Refused x)) rests (inl leaves) = still_rests v w rests leaves
rests_pinned v w f level (Err (Refused x)) rests (inr leaves) = rests_by v w _ rests leaves
rests_pinned v w f level (Err (Paused x)) rests leaves = still_rests v w rests leaves

pub rests_unpinned : (v w : PortValue) (f : ℕ) (answer : Result (Unit {0}) Stop) → Rests v → LeavesElement v w (Unpin f) answer → Rests w
rests_unpinned v w f (Ok done) rests (inl leaves) = still_rests v w rests leaves
rests_unpinned v w f (Ok done) rests (inr leaves) = rests_by v w _ rests leaves
rests_unpinned v w f (Err e) rests leaves = still_rests v w rests leaves

-- ---- the gate
pub spent_undue : (answer : Result (Unit {0}) Stop) → IfErr answer IsSpentStop → is_due_answer answer ≡ false
spent_undue (Ok done) is = refl
spent_undue (Err (Refused x)) is = refl
spent_undue (Err (Paused x)) is = absurd is

pub wait_undue : (answer : Result (Unit {0}) Stop) → IfErr answer IsWait → is_due_answer answer ≡ false
wait_undue (Ok done) is = refl
wait_undue (Err (Refused x)) is = refl
wait_undue (Err (Paused pauses.Due)) is = absurd is
wait_undue (Err (Paused _)) is = refl
