-- A machine at its opening, and behind so many rounds.
use Rattle.std.proofs.Common.{◌≡◌, ℕ, ◌<◌, ◌≤◌, All, List, [], ap, length, map, Some, refl, sym, ◌∙◌, subst, slice_get, slice_index_or, arith}
use Rattle.std.specs.List.{enumerate_from}
use Rattle.std.proofs.lemmas.List.{get_or-map, get_or-replicate, length-map, length-replicate}
use Rattle.std.proofs.lemmas.List.Elements.{All-map}
use Rattle.std.proofs.lemmas.List.FromFn.{get_or-enumerate_from, length-enumerate_from}
use Rattle.std.proofs.lemmas.Option.{get_or_from_slice_get, slice_get-get_or, slice_get_within}
use Rattle.xp_words.specs.Machine.{Machine}
use Rattle.xp_words.specs.Places.{memory, sizes_of}
use Rattle.xp_words.specs.declared.ops.Op.{Op}
use Rattle.xp_words.specs.declared.place.Place.TheVariants.{Clock, Life}
use Rattle.xp_board.specs.Hands.{IsEmptyHand, empty}
use Rattle.xp_board.specs.Readings.{domain_of, last_clock}
use Rattle.xp_board.specs.Sound.{SoundWords}
use Rattle.step_maker.specs.Plain.{Words}
use Rattle.flush_words.proofs.RowSteps.{life_there}
use Rattle.trace_text.specs.WellFormed.{IsWellFormed}
use Rattle.trace_text.specs.declared.trace.Trace.{Trace}
use Rattle.machine_build.specs.Opening.{IsOpening, opening_at}
use Rattle.shared_board.specs.Board.{opened_story}
use Rattle.shared_board.proofs.Opened.{start_sound}
use Rattle.vcpu_turn.specs.Cpus.{Processing, fresh, job_next, pending_of}
use Rattle.vcpu_turn.proofs.TurnSteps.{none_pending}
use Rattle.vcpu_runners.specs.Cpus.{first_cpu, first_cpus}
use Rattle.xp_machine.specs.Turns.{IsStagedTurn, Stage, Turns, more, none, stage}
use Rattle.xp_machine.proofs.Reaching.{empty_idles, first_at}
use Rattle.xp_machine.proofs.Starting.{length_first}
use Rattle.turn_measures.proofs.Sizes.{begun_within}
use Rattle.round_laws.specs.Rounds.{AreAllRetired, IsRound, rounds_to_go, turns_in_rounds}
use Rattle.round_laws.specs.Stages.{AreSparing, IsSteady, IsSteadyCpu, words_of}
use Rattle.round_laws.proofs.Waiting.{retired_at}
use Rattle.xp_preempt.specs.Gates.{Gate}

-- ---- laws of this crate
abbrev pub SteadyBehind : Type 0
SteadyBehind = (n : Machine) (v : ℕ) (s s' : Stage) → IsSteady n s → IsStagedTurn n v s s' → IsSteady n s'

abbrev pub AllRetire : Type 0
AllRetire = (n : Machine) (rounds : List (List ℕ)) (s s' : Stage) → IsSteady n s → All (IsRound n) rounds → Turns n (turns_in_rounds rounds) s s' → words_of n s' Clock < last_clock → rounds_to_go n s ≤ length rounds →
    AreAllRetired s'

-- ---- at the opening
life_opens : (t : Trace) (d : ℕ) → opening_at t (Life d) ≡ 0
unfolding opening_at
life_opens t d = refl

fresh_steady : (m : Words) (frames v domain : ℕ) (script : List Op) → AreSparing script → IsSteadyCpu m v (fresh frames v domain script)
fresh_steady m frames v domain script sparing = record { within = begun_within (job_next (slice_get script 0)); left = tt; stopped = λ is. absurd cc; ended = λ is. absurd cc; spares = sparing }

-- the scripts of a trace are those of its vCPUs
script_sparing : (n : Machine) (scripts : List (List Op)) (v : ℕ) (c : Processing) → All AreSparing scripts → slice_get (first_cpus n scripts) v ≡ Some c → AreSparing c.script
unfolding first_cpus
script_sparing n scripts v c sparing at =
    let numbered = enumerate_from 0 scripts in
    let none : ℕ × List Op = (0, []) in
    let within : v < length numbered = subst (λ k. v < k) (length-map numbered (first_cpu n)) (slice_get_within (map (first_cpu n) numbered) v c at) in
    let there : v < length scripts = subst (λ k. v < k) (length-enumerate_from 0 scripts) within in
    let is = sym (get_or_from_slice_get (map (first_cpu n) numbered) v c (first_cpu n none) at) ∙ get_or-map (first_cpu n) numbered v none (first_cpu n none) within ∙ ap (first_cpu n) (get_or-enumerate_from 0 scripts v none there) in
    subst (λ (x : Processing). AreSparing x.script) (sym is) (sparing v [] there)

pub steady_opening : (t : Trace) (opened : List ℕ) (gates : List Gate) → IsWellFormed t → All AreSparing t.scripts → SoundWords t.layout opened → IsOpening t opened →
    IsSteady t.layout (stage (opened_story t.layout opened) (first_cpus t.layout t.scripts) gates)
steady_opening t opened gates well sparing sound opening =
    record {
      machine = well.machine;
      state = start_sound t.layout opened sound;
      hands = length-replicate (sizes_of t.layout).vcpus empty;
      empty = λ v real. subst IsEmptyHand (sym (get_or-replicate (sizes_of t.layout).vcpus v empty empty real)) empty_idles;
      all = length_first t.layout t.scripts ∙ well.scripts;
      each = λ v c at.
          (let first = first_at t.layout t.scripts v c at in
          subst (IsSteadyCpu (memory (sizes_of t.layout) opened) v) (sym first.1) (fresh_steady (memory (sizes_of t.layout) opened) t.layout.frames v (domain_of t.layout v) first.0 (subst (λ (x : Processing). AreSparing x.script) first.1 (script_sparing t.layout t.scripts v c sparing at))));
      alive = λ d real. opening.places (Life d) (life_there (sizes_of t.layout) d real) ∙ life_opens t d;
    }

-- ---- behind turns
module _ (steady_behind : SteadyBehind) (n : Machine) where
  turns_steady : (vs : List ℕ) (s s' : Stage) → IsSteady n s → Turns n vs s s' → IsSteady n s'
  turns_steady _ s _ steady (none _) = steady
  turns_steady _ s _ steady (more vs v _ m s' turns turn) = steady_behind n v m s' (turns_steady vs s m steady turns) turn

-- ---- the end
none_pending_of : (n : Machine) (s : Stage) → IsSteady n s → AreAllRetired s → All (λ k. k ≡ 0) (map pending_of s.cpus)
none_pending_of n s steady all =
    All-map (λ k. k ≡ 0) pending_of s.cpus
    (λ i d within.
    let here = slice_get-get_or s.cpus i d within in
    none_pending (slice_index_or s.cpus i d) ((steady.each i (slice_index_or s.cpus i d) here).ended (retired_at s.cpus i (slice_index_or s.cpus i d) all here)))

pub answered_in_rounds : SteadyBehind → AllRetire → (n : Machine) (rounds : List (List ℕ)) (s s' : Stage) → IsSteady n s → All (IsRound n) rounds → Turns n (turns_in_rounds rounds) s s' →
    words_of n s' Clock < last_clock → rounds_to_go n s ≤ length rounds → All (λ k. k ≡ 0) (map pending_of s'.cpus)
answered_in_rounds steady_behind all_retire n rounds s s' steady all turns low enough =
    none_pending_of n s' (turns_steady steady_behind n (turns_in_rounds rounds) s s' steady turns) (all_retire n rounds s s' steady all turns low enough)
