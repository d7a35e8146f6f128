-- What no run brings to the stopped and the dead: step by step.
use Rattle.std.proofs.Common.{ℕ, ◌<◌, List, [], ◌∷◌, sym, subst}
use Rattle.xp_words.specs.Machine.{Machine}
use Rattle.xp_words.specs.declared.place.Place.{Place}
use Rattle.xp_words.specs.Places.{sizes_of, memory}
use Rattle.xp_board.specs.declared.step.Step.{Step}
use Rattle.xp_board.specs.declared.holdings.Holdings.{Holdings}
use Rattle.xp_board.specs.Legal.{Legal}
use Rattle.xp_board.specs.Runs.{State, Stepped, Run}
use Rattle.xp_board.specs.Sound.{Sound, SoundState, hand_of}
use Rattle.sound_rule.proofs.OwnRun.{RunsSound}
use Rattle.dead_domains.specs.Stopped.{GainsNothing}
use Rattle.dead_domains.proofs.Halves.{stepped}

abbrev pub StepsBringNothing : Type 0
StepsBringNothing =
    (n : Machine) (s : ℕ) (x : Step) (m m2 : Place → ℕ) (h h2 : ℕ → Holdings) → s < (sizes_of n).vcpus → Legal n s (h s) x →
    Stepped n s x m m2 h h2 → Sound n m h → GainsNothing n m m2

abbrev pub RunsBringNothing : Type 0
RunsBringNothing =
    (n : Machine) (a b : State) (log : List (ℕ × Step)) → Run n a log b → SoundState n a.words a.hands → GainsNothing n (memory (sizes_of n) a.words) (memory (sizes_of n) b.words)

brings_itself : (n : Machine) (m : Place → ℕ) → GainsNothing n m m
brings_itself n m = record { stopped = λ v e. e; frames = λ d f all e. e; dead = λ d e. e }

brings_more : (n : Machine) (m m2 m3 : Place → ℕ) → GainsNothing n m m2 → GainsNothing n m2 m3 → GainsNothing n m m3
brings_more n m m2 m3 a b =
    record {
      stopped = λ v e. b.stopped v (a.stopped v e);
      frames = λ d f all e. a.frames d f all (b.frames d f (λ v l o. a.stopped v (all v l o)) e);
      dead = λ d e. b.dead d (a.dead d e);
    }

pub run_brings_nothing : StepsBringNothing → RunsSound → RunsBringNothing
run_brings_nothing step law n a b [] run state =
    subst (λ (c : State). GainsNothing n (memory (sizes_of n) a.words) (memory (sizes_of n) c.words)) (sym run) (brings_itself n (memory (sizes_of n) a.words))
run_brings_nothing step law n a b (e ∷ es) run state =
    let c = run.0 in
    let move = run.2 in
    let there = law n a c es run.1 state in
    brings_more n (memory (sizes_of n) a.words) (memory (sizes_of n) c.words) (memory (sizes_of n) b.words) (run_brings_nothing step law n a c es run.1 state)
    (step n e.0 e.1 (memory (sizes_of n) c.words) (memory (sizes_of n) b.words) (hand_of c.hands) (hand_of b.hands) move.vcpu move.legal (stepped n c b e.0 e.1 there move) there.sound)
