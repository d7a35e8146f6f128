-- A frame that was found not the domain's since all its vCPUs were found stopped does not come to it.
use Rattle.std.proofs.Common.{◌≡◌, ℕ, ◌+◌, ◌<◌, ◌==◌, nat_lt, true, List, Some, inl, inr, arith}
use Rattle.std.proofs.lemmas.Bool.{cases_Bool, eqb-true}
use Rattle.std.proofs.lemmas.Bool.Decides.{nat_tests}
use Rattle.xp_words.specs.Machine.{Machine}
use Rattle.xp_words.specs.declared.place.Place.{Place}
use Rattle.xp_words.specs.declared.place.Place.TheVariants.{Life, Refs}
use Rattle.xp_words.specs.Places.{is_place, memory, run_of, sizes_of}
use Rattle.xp_words.specs.declared.reply.LogLine.{LogLine}
use Rattle.xp_board.specs.declared.step.Step.{Step}
use Rattle.xp_board.specs.declared.holdings.Holdings.{Holdings}
use Rattle.xp_board.specs.Found.{StoppedFound}
use Rattle.xp_board.specs.LifeSteps.{HasStopped}
use Rattle.xp_board.specs.Readings.{is_owned_by, owner_of}
use Rattle.xp_board.specs.Runs.{Run, State, word_at}
use Rattle.xp_board.specs.Sound.{Sound, SoundState, hand_of}
use Rattle.xp_board.proofs.RefWords.{zero_unowned}
use Rattle.xp_board.proofs.StepLists.{found_between}
use Rattle.dead_domains.specs.Listing.{HasListed, IsListed}
use Rattle.dead_domains.specs.Stopped.{IsStopped}
use Rattle.dead_domains.proofs.StoppedRuns.{RunsBringNothing}

pub all_stopped : (n : Machine) (m : Place → ℕ) (d s a : ℕ) (u : Holdings) → StoppedFound (sizes_of n) m u → HasStopped n s d a u → IsStopped n m d
all_stopped n m d s a u found y v real own =
    found_between (sizes_of n) y.since a (run_of v) (λ w. w == 1) (λ w. w ≡ 1 → m (run_of v) ≡ 1) u.steps (found v) (y.stopped v real own) (λ w passes is. is (eqb-true w 1 passes))

pub owned_inside : (n : Machine) (m : Place → ℕ) (h : ℕ → Holdings) (d f : ℕ) → Sound n m h → owner_of (m (Refs f)) ≡ Some d → f < n.frames
unfolding is_place
owned_inside n m h d f sound o =
    elim (cases_Bool (nat_lt f n.frames)) [
      | inl in_it ↦ grind (arith, nat_tests)
      | inr out ↦ absurd (let z : m (Refs f) ≡ 0 = sound.spelled.outside (Refs f) out in let q = rw z at o in zero_unowned d q)
    ]

-- in that state each frame of the domain is listed
here_listed : (n : Machine) (m : Place → ℕ) (h : ℕ → Holdings) (s d g : ℕ) (op : ℕ) (lines : List LogLine) → Sound n m h → s < (sizes_of n).vcpus → d < (sizes_of n).domains → m (Life d) ≡ s + 1 →
    (e : HasListed n s d (h s) op lines) → owner_of (m (Refs g)) ≡ Some d → IsListed n d e.since g (h s) op lines
here_listed n m h s d g op lines sound real inside life e own =
    elim (e.frames g (owned_inside n m h d g sound own)) [
      | inl other ↦ absurd (let no_owner = (sound.domains.dying d s inside real life).other g e.since e.stopped other in let owned : is_owned_by d (m (Refs g)) ≡ true = rw own (grind (arith, nat_tests)) in cc)
      | inr listed ↦ listed
    ]

pub listed_after : RunsBringNothing → (n : Machine) (a b : State) (log : List (ℕ × Step)) (s d g : ℕ) (op : ℕ) (lines : List LogLine) → SoundState n a.words a.hands → Run n a log b → s < (sizes_of n).vcpus →
    d < (sizes_of n).domains → word_at n a (Life d) ≡ s + 1 → (e : HasListed n s d (hand_of a.hands s) op lines) → owner_of (word_at n b (Refs g)) ≡ Some d →
    IsListed n d e.since g (hand_of a.hands s) op lines
listed_after law n a b log s d g op lines state run real inside life e own =
    let all = all_stopped n (memory (sizes_of n) a.words) d s e.since (hand_of a.hands s) (state.sound.found s real).stopped e.stopped in
    let was = (law n a b log run state).frames d g all own in
    here_listed n (memory (sizes_of n) a.words) (hand_of a.hands) s d g op lines state.sound real inside life e was
