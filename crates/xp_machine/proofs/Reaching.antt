-- What the code makes of a trace is what legal steps make of it.
use Rattle.std.proofs.Common.{◌≡◌, ℕ, ◌+◌, ◌<◌, ◌≤◌, Some, List, [], length, map, Result, Ok, Err, IfOk, refl, sym, ap, ◌∙◌, subst, lit<, arith, slice_index_or}
use Rattle.std.specs.Prelude.{slice_get, sum_by}
use Rattle.std.specs.List.{enumerate_from}
use Rattle.std.proofs.lemmas.List.{length-map, get_or-map, length-replicate, get_or-replicate}
use Rattle.std.proofs.lemmas.List.Elements.{All-get_or}
use Rattle.std.proofs.lemmas.List.FromFn.{length-enumerate_from, get_or-enumerate_from}
use Rattle.std.proofs.lemmas.Option.{slice_get_within, get_or_from_slice_get}
use Rattle.xp_words.specs.Machine.{IsMachine, Machine}
use Rattle.xp_words.specs.Places.{sizes_of, memory, run_of}
use Rattle.xp_words.specs.declared.ops.Op.{Op}
use Rattle.xp_board.specs.Hands.{empty, IsEmptyHand}
use Rattle.xp_board.specs.Readings.{domain_of}
use Rattle.xp_board.specs.declared.step.Step.{Step}
use Rattle.xp_board.specs.declared.holdings.Holdings.{Holdings}
use Rattle.xp_board.specs.Safe.{Safe}
use Rattle.xp_board.specs.Sound.{hand_of, SoundState, SoundWords}
use Rattle.xp_board.specs.Told.{Story, run_or}
use Rattle.xp_board.specs.Runs as runs
use Rattle.trace_text.specs.declared.trace.Trace.{Trace}
use Rattle.machine_build.specs.Opening.{IsOpening, opening_at}
use Rattle.shared_board.specs.Board.{Board, opened_story, port_value, state_of}
use Rattle.shared_board.proofs.Opened.{start_sound}
use Rattle.vcpu_runners.specs.Turns.{IsOf, Processing, fresh}
use Rattle.dead_domains.specs.Buried.{HasBuried}
use Rattle.vcpu_runners.specs.Cpus.{AreShort, IsShort, first_cpu, first_cpus}
use Rattle.vcpu_runners.specs.Destroyed.{AreDestroyed}
use Rattle.vcpu_runners.proofs.Gathering.{BuriesListed}
use Rattle.xp_machine.specs.Cpus.{order}
use Rattle.xp_machine.specs.Ran.{RanTo, first_gates}
use Rattle.xp_machine.specs.Ready.{Ready, TakesFresh}
use Rattle.xp_machine.specs.Turns.{Stage, WorksOff, stage}
use Rattle.xp_machine.proofs.Fresh.{of_fresh}
use Rattle.xp_machine.proofs.Moving.{empty_at}
use Rattle.xp_machine.proofs.Starting.{length_first, short_first}
use Rattle.xp_board.proofs.Numbers.{vcpu_there}
use Rattle.xp_preempt.specs.Gates.{Gate}

-- what follows of each value follows of the value of a call
pub if_ok : {A E : Type 0} (r : Result A E) (P Q : A → Type 0) → ((x : A) → P x → Q x) → IfOk r P → IfOk r Q
if_ok (Ok x) P Q f p = f x p
if_ok (Err e) P Q f p = tt

-- ---- the board before the first turn
pub empty_idles : IsEmptyHand empty
empty_idles = record { refs = refl; typed = refl; works = refl; locks = refl; ending = refl; claimed = refl; raised = refl; credits = refl; looking = refl }

pub runs_at_first : (t : Trace) (v : ℕ) → opening_at t (run_of v) ≡ 0
unfolding opening_at
runs_at_first t v = refl

pub first_at : (n : Machine) (scripts : List (List Op)) (v : ℕ) (c : Processing) → slice_get (first_cpus n scripts) v ≡ Some c → (script : List Op) × (c ≡ fresh n.frames v (domain_of n v) script)
unfolding first_cpus
first_at n scripts v c at =
    let numbered = enumerate_from 0 scripts in
    let none : ℕ × List Op = (0, []) in
    let within : v < length numbered = subst (λ k. v < k) (length-map numbered (first_cpu n)) (slice_get_within (map (first_cpu n) numbered) v c at) in
    let there : v < length scripts = subst (λ k. v < k) (length-enumerate_from 0 scripts) within in
    let is = sym (get_or_from_slice_get (map (first_cpu n) numbered) v c (first_cpu n none) at) in
    (slice_index_or scripts v [], is ∙ get_or-map (first_cpu n) numbered v none (first_cpu n none) within ∙ ap (first_cpu n) (get_or-enumerate_from 0 scripts v none there ∙ ap (λ k. (k, slice_index_or scripts v [])) (omega arith)))

pub takes_fresh : (t : Trace) (b : Board) (opened : List ℕ) → IsMachine t.layout → IsOpening t opened → b.machine ≡ t.layout → b.story ≡ opened_story t.layout opened → TakesFresh b
unfolding TakesFresh
takes_fresh t b opened is opening machine story v script real =
    let n = t.layout in
    let there : v < (sizes_of n).vcpus = subst (λ (k : Machine). v < (sizes_of k).vcpus) machine real in
    rw (machine, story)
    (of_fresh (port_value (record b { machine = n; story = opened_story n opened }) v) script
    (record {
      empty = subst IsEmptyHand (sym (get_or-replicate (length n.vcpu_domain) v empty empty there)) empty_idles;
      no_walk = ap (λ (h : Holdings). h.walk) (get_or-replicate (length n.vcpu_domain) v empty empty there);
      machine = is;
      warm = ap (λ (h : Holdings). h.cold) (get_or-replicate (length n.vcpu_domain) v empty empty there);
    })
    ((λ i. run_or (memory (sizes_of n) opened (run_of v)) (get_or-replicate (length n.vcpu_domain) v empty empty there i).run) ∙ opening.places (run_of v) (vcpu_there (sizes_of n) v 6 there (lit< tt)) ∙ runs_at_first t v))

of_first : (n : Machine) (b : Board) (scripts : List (List Op)) → b.machine ≡ n → TakesFresh b → length scripts ≡ length n.vcpu_domain →
    (v : ℕ) (c : Processing) → slice_get (first_cpus n scripts) v ≡ Some c → IsOf (port_value b v) c
unfolding TakesFresh
of_first n b scripts machine takes all v c at =
    let first = first_at n scripts v c at in
    let real : v < (sizes_of n).vcpus = subst (λ k. v < k) (length_first n scripts ∙ all) (slice_get_within (first_cpus n scripts) v c at) in
    subst (IsOf (port_value b v)) (ap (λ (k : Machine). fresh k.frames v (domain_of k v) first.0) machine ∙ sym first.1)
    (takes v first.0 (subst (λ (k : Machine). v < (sizes_of k).vcpus) (sym machine) real))

pub ready_board : (t : Trace) (b : Board) (opened : List ℕ) (cpus : List Processing) → SoundWords t.layout opened → IsOpening t opened → b.machine ≡ t.layout → b.story ≡ opened_story t.layout opened →
    length t.scripts ≡ length t.layout.vcpu_domain → sum_by length t.scripts ≤ 65536 → cpus ≡ first_cpus t.layout t.scripts → Ready b cpus
ready_board t b opened cpus words opening machine story scripts few first =
    subst (Ready b) (sym first)
    (record {
      all = length_first t.layout t.scripts ∙ scripts ∙ sym (ap (λ (n : Machine). (sizes_of n).vcpus) machine);
      hands = ap (λ (a : Story). length a.hands) story ∙ length-replicate (length t.layout.vcpu_domain) empty ∙ sym (ap (λ (n : Machine). (sizes_of n).vcpus) machine);
      short = short_first t.layout t.scripts few;
      sound = rw (machine, story) (start_sound t.layout opened words);
      of = of_first t.layout b t.scripts machine (takes_fresh t b opened words.sound.machine opening machine story) scripts;
    })

-- ---- the laws of the machine that the run rests on
abbrev pub RunsSafe : Type 0
RunsSafe = (n : Machine) (a b : runs.State) (log : List (ℕ × Step)) → runs.Run n a log b → SoundState n a.words a.hands → Safe n (memory (sizes_of n) b.words) (hand_of b.hands)

abbrev pub RestsSound : Type 0
RestsSound =
    (n : Machine) (words : List ℕ) (hands : List Holdings) → SoundState n words hands → ((s : ℕ) → s < (sizes_of n).vcpus → IsEmptyHand (hand_of hands s)) → SoundWords n words

-- ---- at the end
-- what each vCPU destroyed is buried, by its own steps of the run
destroyed : BuriesListed → (z : Machine) (b : Board) (opened : List ℕ) (cpus : List Processing) → b.machine ≡ z → SoundState z opened (runs.start z opened).hands →
    runs.Run z (runs.start z opened) b.story.log (state_of b.story) → Ready b cpus → AreDestroyed z (memory (sizes_of z) b.story.words) (hand_of b.story.hands) cpus
destroyed lists z b opened cpus machine begins run ready s i x c reply at op line none =
    let real : s < (sizes_of z).vcpus = subst (λ k. s < k) (ready.all ∙ ap (λ (n : Machine). (sizes_of n).vcpus) machine) (slice_get_within cpus s c at) in
    let keeps = (ready.of s c at).buried i x reply op line none in
    let none_made : 0 ≡ length (hand_of (runs.start z opened).hands s).steps = sym (ap (λ (h : Holdings). length h.steps) (get_or-replicate (sizes_of z).vcpus s empty empty real)) in
    lists z (runs.start z opened) (state_of b.story) b.story.log s x (i + 1) c.log begins run real
    (subst (λ k. HasBuried z s x (i + 1) k (hand_of b.story.hands s) c.log) none_made (subst (λ k. HasBuried k s x (i + 1) 0 (hand_of b.story.hands s) c.log) machine keeps))

-- the run that led to a board
pub ran : RunsSafe → RestsSound → BuriesListed → (t : Trace) (b b2 : Board) (opened : List ℕ) (cpus cpus2 : List Processing) (all : List Gate) (gates gates2 : List Gate) (vs : List ℕ) → SoundWords t.layout opened → IsOpening t opened →
    b.machine ≡ t.layout → b.story ≡ opened_story t.layout opened → b2.machine ≡ b.machine → b2.story.opening ≡ b.story.opening → Ready b2 cpus2 → cpus ≡ first_cpus t.layout t.scripts → gates ≡ first_gates t.layout all →
    vs ≡ order t.turns → WorksOff b.machine vs (stage b.story cpus gates) (stage b2.story cpus2 gates2) → runs.Run b2.machine (runs.start b2.machine b2.story.opening) b2.story.log (state_of b2.story) →
    RanTo t all (stage b2.story cpus2 gates2)
ran guards rests lists t b b2 opened cpus cpus2 all gates gates2 vs words opening machine story kept opens ready first own those works run =
    let z = t.layout in
    let closed : Stage = stage b2.story cpus2 gates2 in
    let begins = start_sound z opened words in
    let machine2 : b2.machine ≡ z = kept ∙ machine in
    let from2 : b2.story.opening ≡ opened = opens ∙ ap (λ (x : Story). x.opening) story in
    let led = subst (λ ws. runs.Run z (runs.start z ws) closed.board.log (state_of closed.board)) from2
    (subst (λ k. runs.Run k (runs.start k b2.story.opening) closed.board.log (state_of closed.board)) machine2 run) in
    let sound : SoundState z closed.board.words closed.board.hands = subst (λ k. SoundState k closed.board.words closed.board.hands) machine2 ready.sound in
    record {
      opened = opened;
      opening = opening;
      works = subst (λ k. WorksOff k (order t.turns) (stage (opened_story z opened) (first_cpus z t.scripts) (first_gates z all)) closed) machine
          (subst (λ us. WorksOff b.machine us (stage (opened_story z opened) (first_cpus z t.scripts) (first_gates z all)) closed) those
          (subst (λ gs. WorksOff b.machine vs (stage (opened_story z opened) (first_cpus z t.scripts) gs) closed) own
          (subst (λ cs. WorksOff b.machine vs (stage (opened_story z opened) cs gates) closed) first (subst (λ st. WorksOff b.machine vs (stage st cpus gates) closed) story works))));
      run = led;
      safe = λ newer older a parts run2. guards z (runs.start z opened) a older run2 begins;
      destroyed = destroyed lists z b2 opened cpus2 machine2 begins led ready;
      sound = rests z closed.board.words closed.board.hands sound (λ s real. empty_at b2 cpus2 s ready (subst (λ (k : Machine). s < (sizes_of k).vcpus) (sym machine2) real));
    }

pub short_runner : {A : Type 0} (cpu : A → Processing) (hands : List A) (i : ℕ) (d : A) → i < length hands → AreShort (map cpu hands) → IsShort (cpu (slice_index_or hands i d))
short_runner cpu hands i d within all = subst IsShort (get_or-map cpu hands i d (cpu d) within) (All-get_or IsShort (map cpu hands) i (cpu d) (subst (λ k. i < k) (sym (length-map hands cpu)) within) all)
