-- A step over lists of words and of vCPUs, and runs of such steps.
use Rattle.std.proofs.Common.{◌≡◌, ◌≢◌, ℕ, ◌<◌, List, [], ◌∷◌, length, IsTrue, sym, ap, subst, ◌∙◌, get_or-set_same, get_or-set_other, length-set}
use Rattle.std.proofs.Math.ListN.{set}
use Rattle.xp_words.specs.Machine.{Machine}
use Rattle.xp_words.specs.declared.place.Place.{Place}
use Rattle.xp_words.specs.Places.{Sizes, sizes_of, place_at, is_place, memory, size}
use Rattle.xp_words.proofs.PlaceLaws.{memory_same, memory_other}
use Rattle.xp_board.proofs.Numbers.{place_number}
use Rattle.xp_board.specs.declared.step.Step.{Step}
use Rattle.xp_board.specs.declared.holdings.Holdings.{Holdings}
use Rattle.xp_board.specs.Legal.{Legal}
use Rattle.xp_board.specs.Hands.{empty}
use Rattle.xp_board.specs.Runs.{State, Stepped, Run, next, place_of, word_at}
use Rattle.xp_board.specs.Sound.{Sound, SoundState, hand_of}
use Rattle.xp_board.specs.Acts.{left_by}
use Rattle.xp_board.specs.After.{after}

-- ---- words and vCPUs after a store
stored_here : (z : Sizes) (words : List ℕ) (i w : ℕ) → IsTrue (is_place z (place_at z i)) → length words ≡ size z →
    memory z (set words i w) (place_at z i) ≡ w
stored_here z words i w h l =
    ap (λ j. memory z (set words j w) (place_at z i)) (sym (place_number z i h)) ∙ memory_same z words (place_at z i) w h l

stored_elsewhere : (z : Sizes) (words : List ℕ) (i w : ℕ) (p : Place) → IsTrue (is_place z (place_at z i)) → p ≢ place_at z i →
    memory z (set words i w) p ≡ memory z words p
stored_elsewhere z words i w p h other =
    ap (λ j. memory z (set words j w) p) (sym (place_number z i h)) ∙ memory_other z words (place_at z i) p w h other

hand_here : (hands : List Holdings) (s : ℕ) (u : Holdings) → s < length hands → hand_of (set hands s u) s ≡ u
hand_here hands s u h = get_or-set_same hands s u empty h

hand_elsewhere : (hands : List Holdings) (s t : ℕ) (u : Holdings) → t ≢ s → hand_of (set hands s u) t ≡ hand_of hands t
hand_elsewhere hands s t u h = get_or-set_other hands s t u empty h

-- ---- a step
-- what the law of one step says
abbrev pub StepsKeep : Type 0
StepsKeep =
    (n : Machine) (s : ℕ) (x : Step) (m m2 : Place → ℕ) (h h2 : ℕ → Holdings) → s < (sizes_of n).vcpus → Legal n s (h s) x →
    Stepped n s x m m2 h h2 → Sound n m h → Sound n m2 h2

module _ (n : Machine) (a : State) (s : ℕ) (x : Step) (real : s < (sizes_of n).vcpus) (there : IsTrue (is_place (sizes_of n) (place_of n x)))
    (state : SoundState n a.words a.hands) where
  next_steps : Stepped n s x (memory (sizes_of n) a.words) (memory (sizes_of n) (next n a s x).words) (hand_of a.hands) (hand_of (next n a s x).hands)
  next_steps =
      record {
        here = stored_here (sizes_of n) a.words x.place (left_by x.act (word_at n a (place_of n x))) there state.all_words;
        elsewhere = λ p other. stored_elsewhere (sizes_of n) a.words x.place (left_by x.act (word_at n a (place_of n x))) p there other;
        mine =
            let inside : s < length a.hands = subst (λ k. s < k) (sym state.all_hands) real in
            hand_here a.hands s (after n s (hand_of a.hands s) x (word_at n a (place_of n x))) inside;
        others = λ t other. hand_elsewhere a.hands s t (after n s (hand_of a.hands s) x (word_at n a (place_of n x))) other;
      }

next_sound : StepsKeep → (n : Machine) (a : State) (s : ℕ) (x : Step) → s < (sizes_of n).vcpus → Legal n s (hand_of a.hands s) x →
    SoundState n a.words a.hands → SoundState n (next n a s x).words (next n a s x).hands
next_sound keep n a s x real legal state =
    record {
      all_words = length-set a.words x.place (left_by x.act (word_at n a (place_of n x))) ∙ state.all_words;
      all_hands = length-set a.hands s (after n s (hand_of a.hands s) x (word_at n a (place_of n x))) ∙ state.all_hands;
      sound =
          keep n s x (memory (sizes_of n) a.words) (memory (sizes_of n) (next n a s x).words) (hand_of a.hands) (hand_of (next n a s x).hands) real legal
          (next_steps n a s x real legal.place state) state.sound;
    }

-- ---- runs
pub run_sound : StepsKeep → (n : Machine) (a b : State) (log : List (ℕ × Step)) → Run n a log b → SoundState n a.words a.hands →
    SoundState n b.words b.hands
run_sound keep n a b [] run state = subst (λ c. SoundState n c.words c.hands) (sym run) state
run_sound keep n a b (e ∷ es) run state =
    let before = run_sound keep n a run.0 es run.1 state in
    subst (λ c. SoundState n c.words c.hands) (sym run.2.next_is) (next_sound keep n run.0 e.0 e.1 run.2.vcpu run.2.legal before)
