-- Each time that the gate pauses what a turn settles first, less is left.
use Rattle.std.proofs.Common.{◌≡◌, ◌⊎◌, ℕ, ◌<◌, ◌≤◌, Bool, true, List, Option, None, Some, Err, refl, subst, arith, inl, inr}
use Rattle.xp_words.specs.declared.ops.Op.{Op}
use Rattle.xp_words.specs.declared.reply.Stop.TheVariants.{Paused}
use Rattle.xp_preempt.specs.Gates.{ends_yes}
use Rattle.xp_board.specs.Told.{PortValue}
use Rattle.level_release.specs.Course.{LeavesLess, is_first_done, left_settled}
use Rattle.level_release.proofs.Falling.{settled_leaves}
use Rattle.vcpu_turn.specs.Cpus.{Processing, next_of}
use Rattle.vcpu_turn.specs.Leaving.{PausedInARow, PausesFirst, again, ends_first, is_settling, none}
use Rattle.vcpu_turn.specs.Turning as turning
use Rattle.vcpu_turn.specs.Turning.{DoesTurn, IsTurn}
use Rattle.vcpu_turn.specs.Settling.{Settles}
use Rattle.vcpu_turn.specs.declared.cpu.TurnEnd.{TurnEnd}

settles_leaves : (k : ℕ) (below : Option ℕ) → below ≡ Some k → (v w : PortValue) (answers : List Bool) (p : _) → ends_yes answers ≡ true → (s : Settles below v w answers (Err (Paused p))) → LeavesLess k (left_settled s.course) ⊎ (is_first_done s.course ≡ true)
settles_leaves k None is v w answers p said s = absurd cc
settles_leaves k (Some j) is v w answers p said s = subst (λ (i : ℕ). LeavesLess i (left_settled s.course) ⊎ (is_first_done s.course ≡ true)) (let e : j ≡ k = cc in e) (settled_leaves j v w answers (Err (Paused p)) said s.course)

going_leaves : (k : ℕ) (c : Processing) (o : Option Op) → c.left ≡ Some k → (v : PortValue) (d : Processing) (w : PortValue) (answers : List Bool) (end : TurnEnd) → ends_yes answers ≡ true → (does : DoesTurn c o v d w answers end) → is_settling does ≡ true →
    LeavesLess k d.left ⊎ (ends_first does ≡ true)
going_leaves k c o is v _ _ _ _ said (turning.DoesTurn.unsettled w answers p settles) settling = settles_leaves k c.left is v w answers p said settles
going_leaves k c o is v _ _ _ _ said (turning.DoesTurn.dying life w d end dead dies) settling = absurd cc
going_leaves k c o is v _ _ _ _ said (turning.DoesTurn.settled u w d early answers end settles does) settling = absurd cc

pub turn_leaves : (c d : Processing) (end : TurnEnd) (v w : PortValue) (answers : List Bool) (k : ℕ) → c.left ≡ Some k → (turn : IsTurn c d end v w answers) → is_settling turn.does ≡ true → ends_yes answers ≡ true →
    LeavesLess k d.left ⊎ (ends_first turn.does ≡ true)
turn_leaves c d end v w answers k is turn settling said = going_leaves k c (next_of c) is turn.begun d turn.worked answers end said turn.does settling

-- so that happens only so often in a row
some_left : (k : ℕ) (left : Option ℕ) → LeavesLess k left → (m : ℕ) × (left ≡ Some m) × (m < k)
some_left k None less = absurd less
some_left k (Some m) less = (m, refl, less)

first_leaves : (c d : Processing) (k : ℕ) → c.left ≡ Some k → PausesFirst c d → (m : ℕ) × (d.left ≡ Some m) × (m < k)
first_leaves c d k is paused = elim (turn_leaves c d paused.end paused.before paused.behind paused.answers k is paused.turn paused.settling paused.said) [
  | inl less ↦ some_left k d.left less
  | inr ended ↦ absurd (let not = paused.unended in cc)
]

pub row_ends : (n : ℕ) (c d : Processing) (k : ℕ) → c.left ≡ Some k → PausedInARow n c d → n ≤ k
row_ends _ _ _ k is (none c) = omega arith
row_ends _ _ _ k is (again n c d e paused rest) =
    let one = first_leaves c d k is paused in
    let less = one.2 in
    let more = row_ends n d e one.0 one.1 rest in
    omega (arith, less, more)
