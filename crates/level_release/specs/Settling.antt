-- The own old words: how one that names a frame is taken, and what is in hand after they were settled.
use Rattle.std.specs.Prelude.{◌≡◌, ℕ, ◌+◌, ◌<◌, Option, None, Some, Result, Ok, Err, IfErr}
use Rattle.xp_words.specs.declared.place.Place.TheVariants.{Kind}
use Rattle.xp_words.specs.declared.reply.Stop.{Stop}
use Rattle.xp_board.specs.declared.step.Act.TheVariants.{Load, Store}
use Rattle.xp_board.specs.declared.step.StepKind.TheVariants as kinds
use Rattle.xp_board.specs.Told.{PortValue}
use Rattle.step_maker.specs.Holds.{Holds, Rests, Same}
use Rattle.step_maker.specs.Moves.{Moves}
use Rattle.step_maker.specs.Answers.{Serves, Stops, misses}
use Rattle.table_words.specs.OldWords.{known_old, learned_old, old_place, taken_from_old}
use Rattle.table_words.specs.declared.old_words.OldWord.{OldWord}
use Rattle.table_words.specs.declared.old_words.OldWord.TheVariants.{First, Second}
use Rattle.level_release.specs.Asking.{IsReleaseEnd, of_settle}
use Rattle.level_release.specs.Course.{SettlesOneBy}
use Rattle.xp_preempt.specs.Gates.{Gate}

-- From u, with nothing in hand, to v the word was looked at, and named that frame; it was emptied; and the frame's kind word was found so.
-- For the second one the first is known to name none.
pub record TookOld (u v : PortValue) (which : OldWord) (f word : ℕ) : Type 0 where
  pub a : PortValue
  pub b : PortValue
  pub rests : Rests u
  pub clear : which ≡ Second → known_old First u.holdings ≡ Some 0
  pub frame : f < u.post.machine.frames
  pub look : Moves u a (old_place u.post.vcpu which) Load kinds.Look None (f + 1)
  pub looked : Holds u a (learned_old which (f + 1) u.holdings)
  pub take : Moves a b (old_place u.post.vcpu which) (Store 0) kinds.Context None (f + 1)
  pub taken : Holds a b (taken_from_old which (f + 1) a.holdings)
  pub kind : Moves b v (Kind f) Load kinds.Look None word
  pub same : Same b v

abbrev pub HasTakenOld : PortValue → ℕ → ℕ → Type 0
HasTakenOld v f word = (u : PortValue) × (which : OldWord) × TookOld u v which f word

-- only what is known of the two words is another
abbrev pub SettledHand : PortValue → PortValue → Type 0
SettledHand v w = Holds v w (record v.holdings { old0 = w.holdings.old0; old1 = w.holdings.old1 })

-- the word names none; paused, the first one names what is left
abbrev pub SettledWord : PortValue → PortValue → OldWord → Result (Unit {0}) Stop → Type 0
SettledWord v w which (Ok done) = Holds v w (learned_old which 0 v.holdings)
SettledWord v w which (Err e) = (f : ℕ) × Holds v w (record (learned_old which 0 v.holdings) { old0 = Some (f + 1) })

-- From u to w what the word names was settled, with a gate: all that is said of it.
pub record SettlesWord (u w : PortValue) (which : OldWord) (below left : Option ℕ) (g h : Gate) (answer : Result (Unit {0}) Stop) : Type 0 where
  pub rests : Rests w
  pub serves : (owner pages : ℕ) → Serves u w (of_settle owner pages answer) (misses u.post.machine answer)
  pub stops : (owner pages : ℕ) → IfErr answer (λ e. Stops u w (of_settle owner pages answer) e)
  pub kinds : IfErr answer IsReleaseEnd
  pub hand : SettledWord u w which answer
  pub course : SettlesOneBy below left u w which g h answer
