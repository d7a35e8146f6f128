-- What of a vCPU is less behind its turn, in plain words.
use Rattle.std.proofs.Common.{◌≡◌, ◌≢◌, ℕ, ◌<◌, ◌≤◌, ◌⊎◌, inl, inr, Bool, true, List, Option, Some, None, refl, sym, ap, ◌∙◌, subst, arith}
use Rattle.xp_words.specs.Machine.{Machine}
use Rattle.xp_words.specs.Places.{run_of}
use Rattle.xp_words.specs.declared.ops.Op.{Op}
use Rattle.xp_words.specs.declared.place.Place.{Place}
use Rattle.xp_words.specs.declared.place.Place.TheVariants.{Vcpu}
use Rattle.xp_words.specs.declared.reply.LogLine.{LogLine}
use Rattle.xp_words.specs.declared.reply.Pause.{Pause}
use Rattle.xp_words.specs.declared.reply.Pause.TheVariants.{Due, Lost, Busy, Flush, Alive}
use Rattle.xp_board.specs.Told.{PortValue}
use Rattle.step_maker.specs.Plain.{Words}
use Rattle.table_words.specs.OldWords.{old_place}
use Rattle.table_words.specs.declared.old_words.OldWord.TheVariants.{First}
use Rattle.vcpu_turn.specs.Cpus.{Processing, after_turn, next_of, nothing_left}
use Rattle.vcpu_turn.specs.Turning.{DoesNext}
use Rattle.vcpu_turn.specs.declared.cpu.Progress.{Progress}
use Rattle.vcpu_turn.specs.declared.cpu.TurnEnd.{TurnEnd}
use Rattle.vcpu_turn.specs.declared.cpu.TurnEnd.TheVariants as ends
use Rattle.vcpu_turn.specs.Unhindered.{IsUnhindered}
use Rattle.frame_ranks.specs.Ranks.{GetsFurther, rank_at}
use Rattle.turn_measures.specs.Measures.{IsWithin, KeepsLeft, LeavesOthers, ahead, bit_named, left_rank, olds_named}
use Rattle.round_laws.specs.Rounds.{AwaitsFlush}

-- ---- what is less
-- From the words m to m' of vCPU v, which was c and is d: the first of these that differs falls; or all but the ranks stay, none of those falls, and one rises unless the turn awaits a flush.
pub data Less (n : Machine) (v : ℕ) (c d : Processing) (end : TurnEnd) (m m' : Words) : Type 0 where
  by_ahead : ahead d < ahead c → Less n v c d end m m'
  by_olds : ahead d ≡ ahead c → olds_named m' v < olds_named m v → Less n v c d end m m'
  by_left : ahead d ≡ ahead c → olds_named m' v ≡ olds_named m v → left_rank d.left < left_rank c.left → Less n v c d end m m'
  by_ranks : ahead d ≡ ahead c → olds_named m' v ≡ olds_named m v → d.left ≡ c.left → ((f : ℕ) → f < n.frames → rank_at m f ≤ rank_at m' f) → AwaitsFlush end ⊎ GetsFurther n m m' → Less n v c d end m m'

pub record TurnLeaves (n : Machine) (v : ℕ) (c d : Processing) (end : TurnEnd) (m m' : Words) : Type 0 where
  pub others : LeavesOthers n v m m'
  pub within : IsWithin d
  pub left : KeepsLeft m' v d.left
  pub stopped : d.retired ≡ true → m' (run_of v) ≢ 0
  pub ended : d.retired ≡ true → next_of d ≡ None
  pub less : Less n v c d end m m'

-- ---- plain facts
pub after_left : (c : Processing) (to : Progress) (log : List LogLine) (end : TurnEnd) → (after_turn c to log end).left ≡ c.left
after_left c to log (ends.Answered reply) = refl
after_left c to log (ends.Paused p) = refl
after_left c to log ends.Retired = refl

pub next_left : (c : Processing) (o : Option Op) (d : Processing) (v w : PortValue) (answers : List Bool) (end : TurnEnd) → DoesNext (nothing_left c) o d v w answers end → d.left ≡ None
next_left c (Some op) d v w answers end does = ap (λ (x : Processing). x.left) does.cpu ∙ after_left (nothing_left c) does.to does.log end
next_left c None d v w answers end does = ap (λ (x : Processing). x.left) does.cpu

pub none_kept : (m : Words) (v : ℕ) (left : Option ℕ) → KeepsLeft m v left → olds_named m v ≡ 0 → left ≡ None
none_kept m v None keeps none = refl
none_kept m v (Some k) keeps none = absurd (keeps.1 (no_name (m (old_place v First)) (omega arith)))
  where
    no_name : (w : ℕ) → bit_named w ≡ 0 → w ≡ 0
    no_name w none = grind arith

pub kept_as : (m m' : Words) (v : ℕ) (left : Option ℕ) → m' (old_place v First) ≡ m (old_place v First) → KeepsLeft m v left → KeepsLeft m' v left
kept_as m m' v None same keeps = tt
kept_as m m' v (Some k) same keeps = (keeps.0, λ none. keeps.1 (sym same ∙ none))

-- a place's own number
abbrev word_number : Place → ℕ
word_number (Vcpu v k) = k
word_number _ = 100

pub apart : (p q : Place) → word_number p ≢ word_number q → p ≢ q
apart p q off same = off (ap word_number same)

-- words in which the own old words and the ranks are the same
pub less_as : (n : Machine) (v : ℕ) (c d : Processing) (end : TurnEnd) (l m m' : Words) → olds_named m v ≡ olds_named l v → ((f : ℕ) → rank_at m f ≡ rank_at l f) → Less n v c d end m m' → Less n v c d end l m'
less_as n v c d end l m m' olds ranks (by_ahead falls) = by_ahead falls
less_as n v c d end l m m' olds ranks (by_olds ahead' falls) = by_olds ahead' (subst (λ k. olds_named m' v < k) olds falls)
less_as n v c d end l m m' olds ranks (by_left ahead' same falls) = by_left ahead' (same ∙ olds) falls
less_as n v c d end l m m' olds ranks (by_ranks ahead' same left up goes) =
    by_ranks ahead' (same ∙ olds) left (λ f real. subst (λ k. k ≤ rank_at m' f) (ranks f) (up f real))
    (elim goes [
      | inl waits ↦ inl waits
      | inr more ↦ inr (record { frame = more.frame; real = more.real; higher = subst (λ k. k < rank_at m' more.frame) (ranks more.frame) more.higher })
    ])

pub goes_or_waits : {A : Type 0} (n : Machine) (p : Pause) → IsUnhindered n (ends.Paused p) → (p ≡ Due → A) → AwaitsFlush (ends.Paused p) ⊎ A
goes_or_waits n Due free goes = inr (goes refl)
goes_or_waits n (Lost place expected found) free goes = absurd free
goes_or_waits n (Busy frame found) free goes = absurd free
goes_or_waits n (Flush vcpu stamp found) free goes = inl tt
goes_or_waits n (Alive vcpu found) free goes = absurd free
