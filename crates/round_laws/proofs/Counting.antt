-- How a turn of one vCPU lowers the number that says how much is to be done.
use Rattle.std.proofs.Common.{◌≡◌, ◌≢◌, ℕ, ◌+◌, ◌-◌, ◌*◌, ◌<◌, ◌≤◌, ◌⊎◌, inl, inr, Option, Some, None, IsTrue, sym, ap, ◌∙◌, subst, slice_set, arith}
use Rattle.std.specs.Prelude.{slice_get, sum_by}
use Rattle.std.proofs.lemmas.Bool.{cases_eq}
use Rattle.std.proofs.lemmas.Bool.Decides.{nat_tests}
use Rattle.std.proofs.lemmas.List.Elements.{All-from_get_or}
use Rattle.std.proofs.lemmas.List.Sums.{sum_by-le}
use Rattle.std.proofs.lemmas.Option.{slice_get-get_or, slice_get_within}
use Rattle.xp_words.specs.KindWords.{has_form, is_kind}
use Rattle.xp_words.specs.Machine.{Machine}
use Rattle.xp_words.specs.Places.{sizes_of}
use Rattle.xp_words.specs.declared.kind.KindWord.{KindWord}
use Rattle.step_maker.specs.Plain.{Words}
use Rattle.table_words.specs.OldWords.{old_place}
use Rattle.table_words.specs.declared.old_words.OldWord.TheVariants.{First, Second}
use Rattle.vcpu_turn.specs.Cpus.{Processing}
use Rattle.vcpu_turn.specs.declared.cpu.TurnEnd.{TurnEnd}
use Rattle.frame_ranks.specs.Ranks.{GetsFurther, rank_at, rank_of}
use Rattle.turn_measures.specs.Measures.{KeepsLeft, LeavesOthers, ahead, bit_named, left_rank, most_left, olds_named}
use Rattle.xp_machine.specs.Turns.{Stage}
use Rattle.round_laws.specs.Rounds.{AwaitsFlush}
use Rattle.round_laws.specs.Stages.{IsSteady, ahead_all, left_all, olds_all, ranks_open, to_go, words_of}
use Rattle.round_laws.proofs.Numbers.{falls_first, falls_fourth, falls_second, falls_third, stays_fourth}
use Rattle.round_laws.proofs.Sums.{set_sum, sum_falls, sum_le, sum_most, sum_same}
use Rattle.round_laws.proofs.Lessening.{Less, by_ahead, by_left, by_olds, by_ranks}

-- ---- bounds
bit_most : (w : ℕ) → bit_named w ≤ 1
bit_most w = grind (arith, nat_tests)

olds_most : (m : Words) (t : ℕ) → olds_named m t ≤ 2
olds_most m t = let one = bit_most (m (old_place t First)) in let two = bit_most (m (old_place t Second)) in omega arith

rank_least : (m : Words) (f : ℕ) → 515 - rank_at m f ≤ 515
rank_least m f = omega arith

pub rank_most : (k : KindWord) → IsTrue (is_kind k) → rank_of k ≤ 515
unfolding has_form
rank_most k is = grind (arith, nat_tests)

under : (k m : ℕ) → k < m → k ≤ m
under k m less = omega arith

same_number : (m : ℕ) → m ≤ m
same_number m = omega arith

left_most : (m : Words) (t : ℕ) (left : Option ℕ) → KeepsLeft m t left → left_rank left ≤ most_left
left_most m t None keeps = same_number most_left
left_most m t (Some k) keeps = under k most_left keeps.0

-- sums of which one part changes
sum_down : (t' t x' x : ℕ) → t' + x ≡ t + x' → x' < x → t' < t
sum_down t' t x' x sum falls = omega arith

sum_even : (t' t x' x : ℕ) → t' + x ≡ t + x' → x' ≡ x → t' ≡ t
sum_even t' t x' x sum same = omega arith

module _ (n : Machine) (s : Stage) (steady : IsSteady n s) where
  few_olds : olds_all n s ≤ 2 * (sizes_of n).vcpus
  few_olds = let k = sum_most (olds_named (words_of n s)) 2 0 (sizes_of n).vcpus (olds_most (words_of n s)) in omega arith

  few_ranks : ranks_open n (words_of n s) ≤ 515 * n.frames
  few_ranks = let k = sum_most (λ f. 515 - rank_at (words_of n s) f) 515 0 n.frames (rank_least (words_of n s)) in omega arith

  few_left : (d : Processing) → left_all s ≤ (sizes_of n).vcpus * most_left
  few_left d =
      subst (λ k. left_all s ≤ k * most_left) steady.all
      (sum_by-le (λ c. left_rank c.left) most_left s.cpus
      (All-from_get_or (λ c. left_rank c.left ≤ most_left) s.cpus d
      (λ i within. left_most (words_of n s) i _ (steady.each i _ (slice_get-get_or s.cpus i d within)).left)))

-- ---- the number
module _ (n : Machine) (v : ℕ) (c d : Processing) (end : TurnEnd) (s s' : Stage) (here : slice_get s.cpus v ≡ Some c) (cpus : s'.cpus ≡ slice_set s.cpus v d) (steady : IsSteady n s) (behind : IsSteady n s')
    (others : LeavesOthers n v (words_of n s) (words_of n s')) (most : (f : ℕ) → f < n.frames → rank_at (words_of n s') f ≤ 515) where
  real : v < (sizes_of n).vcpus
  real = subst (λ k. v < k) steady.all (slice_get_within s.cpus v c here)

  ahead_sum : ahead_all s' + ahead c ≡ ahead_all s + ahead d
  ahead_sum = ap (λ xs. sum_by ahead xs + ahead c) cpus ∙ set_sum ahead s.cpus v c d here

  left_sum : left_all s' + left_rank c.left ≡ left_all s + left_rank d.left
  left_sum = ap (λ xs. sum_by (λ (x : Processing). left_rank x.left) xs + left_rank c.left) cpus ∙ set_sum (λ (x : Processing). left_rank x.left) s.cpus v c d here

  other_olds : (t : ℕ) → t ≢ v → olds_named (words_of n s') t ≡ olds_named (words_of n s) t
  other_olds t off = λ i. bit_named (others.words t 2 off (λ same. absurd (omega arith)) i) + bit_named (others.words t 3 off (λ same. absurd (omega arith)) i)

  olds_less : olds_named (words_of n s') v < olds_named (words_of n s) v → olds_all n s' < olds_all n s
  olds_less falls =
      sum_falls (olds_named (words_of n s)) (olds_named (words_of n s')) 0 (sizes_of n).vcpus v (omega arith) (let r = real in omega arith)
      (λ t up down. elim (cases_eq t v) [
        | inl at ↦ subst (λ k. olds_named (words_of n s') k ≤ olds_named (words_of n s) k) (sym at) (under _ _ falls)
        | inr off ↦ (let same = other_olds t off in omega arith)
      ])
      falls

  olds_same : olds_named (words_of n s') v ≡ olds_named (words_of n s) v → olds_all n s' ≡ olds_all n s
  olds_same same =
      sum_same (olds_named (words_of n s)) (olds_named (words_of n s')) 0 (sizes_of n).vcpus
      (λ t up down. elim (cases_eq t v) [
        | inl at ↦ subst (λ k. olds_named (words_of n s') k ≡ olds_named (words_of n s) k) (sym at) same
        | inr off ↦ other_olds t off
      ])

  ranks_less : ((f : ℕ) → f < n.frames → rank_at (words_of n s) f ≤ rank_at (words_of n s') f) → ranks_open n (words_of n s') ≤ ranks_open n (words_of n s)
  ranks_less up =
      sum_le (λ f. 515 - rank_at (words_of n s) f) (λ f. 515 - rank_at (words_of n s') f) 0 n.frames
      (λ f low high. let k = up f (omega arith) in omega arith)

  ranks_fall : ((f : ℕ) → f < n.frames → rank_at (words_of n s) f ≤ rank_at (words_of n s') f) → GetsFurther n (words_of n s) (words_of n s') → ranks_open n (words_of n s') < ranks_open n (words_of n s)
  ranks_fall up more =
      sum_falls (λ f. 515 - rank_at (words_of n s) f) (λ f. 515 - rank_at (words_of n s') f) 0 n.frames more.frame (omega arith) (let r = more.real in omega arith)
      (λ f low high. let k = up f (omega arith) in omega arith)
      (let k = more.higher in let b = most more.frame more.real in omega arith)

  pub number_falls : Less n v c d end (words_of n s) (words_of n s') → (AwaitsFlush end × (to_go n s' ≤ to_go n s)) ⊎ (to_go n s' < to_go n s)
  number_falls less =
      by_case less (few_olds n s' behind) (few_left n s' behind d) (few_ranks n s' behind)
    where
      by_case : Less n v c d end (words_of n s) (words_of n s') → olds_all n s' ≤ 2 * (sizes_of n).vcpus → left_all s' ≤ (sizes_of n).vcpus * most_left → ranks_open n (words_of n s') ≤ 515 * n.frames →
          (AwaitsFlush end × (to_go n s' ≤ to_go n s)) ⊎ (to_go n s' < to_go n s)
      by_case (by_ahead falls) few low small =
          inr (falls_first (2 * (sizes_of n).vcpus) ((sizes_of n).vcpus * most_left) (515 * n.frames) (ahead_all s') (olds_all n s') (left_all s') (ranks_open n (words_of n s'))
          (ahead_all s) (olds_all n s) (left_all s) (ranks_open n (words_of n s)) few low small (sum_down _ _ _ _ ahead_sum falls))
      by_case (by_olds same falls) few low small =
          inr (falls_second (2 * (sizes_of n).vcpus) ((sizes_of n).vcpus * most_left) (515 * n.frames) (ahead_all s') (olds_all n s') (left_all s') (ranks_open n (words_of n s'))
          (ahead_all s) (olds_all n s) (left_all s) (ranks_open n (words_of n s)) few low small (sum_even _ _ _ _ ahead_sum same) (olds_less falls))
      by_case (by_left same alike falls) few low small =
          inr (falls_third (2 * (sizes_of n).vcpus) ((sizes_of n).vcpus * most_left) (515 * n.frames) (ahead_all s') (olds_all n s') (left_all s') (ranks_open n (words_of n s'))
          (ahead_all s) (olds_all n s) (left_all s) (ranks_open n (words_of n s)) few low small (sum_even _ _ _ _ ahead_sum same) (olds_same alike) (sum_down _ _ _ _ left_sum falls))
      by_case (by_ranks same alike left up goes) few low small =
          let first = sum_even _ _ _ _ ahead_sum same in
          let third = sum_even _ _ _ _ left_sum (ap left_rank left) in
          elim goes [
            | inl waits ↦
                inl (
                  waits,
                  stays_fourth (2 * (sizes_of n).vcpus) ((sizes_of n).vcpus * most_left) (515 * n.frames) (ahead_all s') (olds_all n s') (left_all s') (ranks_open n (words_of n s'))
                      (ahead_all s) (olds_all n s) (left_all s) (ranks_open n (words_of n s)) few low small first (olds_same alike) third (ranks_less up),
                )
            | inr more ↦
                inr (falls_fourth (2 * (sizes_of n).vcpus) ((sizes_of n).vcpus * most_left) (515 * n.frames) (ahead_all s') (olds_all n s') (left_all s') (ranks_open n (words_of n s'))
                (ahead_all s) (olds_all n s) (left_all s) (ranks_open n (words_of n s)) few low small first (olds_same alike) third (ranks_fall up more))
          ]
