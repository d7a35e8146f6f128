-- A legal step on a sound machine: first its mark, and then its act by the hand that the mark left, on a machine that is sound there too.
use Rattle.std.proofs.Common.{◌≡◌, ℕ, ◌<◌, ◌==◌, if◌then◌else◌, sym, ap, ◌∙◌, arith, subst, get_or-set_same, get_or-set_other}
use Rattle.std.proofs.Math.ListN.{set}
use Rattle.std.proofs.lemmas.Bool.Decides.{nat_tests}
use Rattle.xp_words.specs.Machine.{Machine}
use Rattle.xp_words.specs.declared.place.Place.{Place}
use Rattle.xp_words.specs.Places.{memory, run_of, sizes_of}
use Rattle.xp_words.proofs.PlaceLaws.{memory_other, memory_same}
use Rattle.xp_board.specs.declared.holdings.Holdings.{Holdings}
use Rattle.xp_board.specs.declared.step.Step.{Step}
use Rattle.xp_board.specs.Acts.{left_by}
use Rattle.xp_board.specs.After.{after}
use Rattle.xp_board.specs.Hands.{empty}
use Rattle.xp_board.specs.Keeping.{Acted, KeepsMark, Marked, MayAct}
use Rattle.xp_board.specs.Legal.{Legal}
use Rattle.xp_board.specs.Marks.{after_mark}
use Rattle.xp_board.specs.Runs.{State, Stepped, StepsTo, next, place_of, word_at}
use Rattle.xp_board.specs.Sound.{Sound, SoundState, hand_of}
use Rattle.xp_board.specs.Steps.{last_since}
use Rattle.xp_board.proofs.Noted.{mark_steps}
use Rattle.xp_board.proofs.Numbers.{place_number}
use Rattle.xp_board.proofs.Sums.{if_itself}

module _ (n : Machine) (s : ℕ) (x : Step) (m m2 : Place → ℕ) (h h2 : ℕ → Holdings) (real : s < (sizes_of n).vcpus) (legal : Legal n s (h s) x) (step : Stepped n s x m m2 h h2) (sound : Sound n m h) where
  -- the hands after the mark
  between : ℕ → Holdings
  between t = if t == s then after_mark n x.mark (h s) else h t

  marked : Marked n s x h between
  unfolding between
  marked = record { mine = if_itself s (after_mark n x.mark (h s)) (h s); others = λ t off. grind (arith, nat_tests) }

  -- a mark leaves what the vCPU knows of its own run word, since it makes no step
  running : Sound n m between → (between s).run ≡ (h s).run
  running after =
      (after.formed s real).own.run
      ∙ ap (λ xs. last_since (sizes_of n) 0 (run_of s) xs) (ap (λ (u : Holdings). u.steps) marked.mine ∙ mark_steps n x.mark (h s))
      ∙ sym ((sound.formed s real).own.run)

  pub by_act : {P : Type 0} → KeepsMark (λ n m h. Sound n m h) → ((b : ℕ → Holdings) → Sound n m b → MayAct n s x (b s) → Acted n s x m m2 b h2 → P) → P
  by_act keeps goal =
      let behind = keeps n s x m h between real (record { legal = legal.marked }) marked sound in
      goal between behind
      (record { place = legal.place; running = λ needs. running behind ∙ legal.running needs; spelling = legal.spelling; act = rw marked.mine legal.act })
      (record { here = step.here; elsewhere = step.elsewhere; mine = rw marked.mine step.mine; others = λ t off. step.others t off ∙ sym (marked.others t off) })

-- ---- a step of a run
module _ (n : Machine) (a b : State) (s : ℕ) (x : Step) (state : SoundState n a.words a.hands) (move : StepsTo n a s x b) where
  to_next : Stepped n s x (memory (sizes_of n) a.words) (memory (sizes_of n) (next n a s x).words) (hand_of a.hands) (hand_of (next n a s x).hands)
  to_next =
      let z = sizes_of n in
      let p = place_of n x in
      let left = left_by x.act (word_at n a p) in
      let hand = after n s (hand_of a.hands s) x (word_at n a p) in
      let at = place_number z x.place move.legal.place in
      record {
        here = ap (λ i. memory z (set a.words i left) p) (sym at) ∙ memory_same z a.words p left move.legal.place state.all_words;
        elsewhere = λ q off. ap (λ i. memory z (set a.words i left) q) (sym at) ∙ memory_other z a.words p q left move.legal.place off;
        mine = get_or-set_same a.hands s hand empty (subst (λ k. s < k) (sym state.all_hands) move.vcpu);
        others = λ t off. get_or-set_other a.hands s t hand empty off;
      }

  pub stepped : Stepped n s x (memory (sizes_of n) a.words) (memory (sizes_of n) b.words) (hand_of a.hands) (hand_of b.hands)
  stepped =
      subst (λ (c : State). Stepped n s x (memory (sizes_of n) a.words) (memory (sizes_of n) c.words) (hand_of a.hands) (hand_of c.hands)) (sym move.next_is) to_next
