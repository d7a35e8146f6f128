-- What the code makes of a trace in threads.
use Rattle.std.proofs.Common.{◌≡◌, ℕ, ◌<◌, ◌≤◌, false, Some, List, length, refl, sym, ap, ◌∙◌, subst, lit<, slice_index_or}
use Rattle.std.specs.Prelude.{slice_get, sum_by}
use Rattle.std.proofs.lemmas.List.Elements.{All-get_or}
use Rattle.std.proofs.lemmas.Option.{slice_get-get_or, slice_get_within}
use Rattle.xp_words.specs.Machine.{Machine}
use Rattle.xp_words.specs.Places.{size, sizes_of, run_of}
use Rattle.xp_words.specs.declared.ops.Op.{Op}
use Rattle.xp_board.specs.Hands.{empty}
use Rattle.xp_board.specs.Readings.{domain_of}
use Rattle.xp_board.specs.Sound.{SoundWords}
use Rattle.xp_board.proofs.Numbers.{vcpu_there}
use Rattle.trace_text.specs.declared.trace.Trace.{Trace}
use Rattle.machine_build.specs.Opening.{IsOpening}
use Rattle.thread_board.specs.Values.{BoardValue}
use Rattle.vcpu_runners.specs.Replayed.{AreFirst, RanInThreads, port_with}
use Rattle.vcpu_runners.proofs.Turning.{short_behind}
use Rattle.vcpu_runners.specs.Turns.{IsOf, Processing, fresh}
use Rattle.vcpu_runners.specs.Cpus.{AreShort, IsShort, first_cpus}
use Rattle.xp_machine.specs.Ran.{first_gates}
use Rattle.xp_machine.specs.Replay.{ReplayedTo}
use Rattle.xp_machine.proofs.Fresh.{of_fresh}
use Rattle.xp_machine.proofs.Reaching.{empty_idles, first_at, runs_at_first}
use Rattle.xp_machine.proofs.Starting.{length_first, short_first}
use Rattle.xp_preempt.specs.Gates.{Gate}

-- the board as the trace has it
board_is : (t : Trace) (b : BoardValue) (opened : List ℕ) → b.machine ≡ t.layout → b.opening ≡ opened → b ≡ record { table = b.table; machine = t.layout; opening = opened }
board_is t b opened machine words = λ i. record { table = b.table; machine = machine i; opening = words i }

-- a vCPU with any script may begin on a board of threads
fresh_idles : (t : Trace) (b : BoardValue) (opened : List ℕ) → SoundWords t.layout opened → IsOpening t opened → b.machine ≡ t.layout → b.opening ≡ opened →
    (s lender : ℕ) (script : List Op) → s < (sizes_of t.layout).vcpus → IsOf (port_with b s lender empty) (fresh t.layout.frames s (domain_of t.layout s) script)
fresh_idles t b opened words opening machine is s lender script real =
    subst (λ (k : BoardValue). IsOf (port_with k s lender empty) (fresh t.layout.frames s (domain_of t.layout s) script)) (sym (board_is t b opened machine is))
    (of_fresh (port_with (record { table = b.table; machine = t.layout; opening = opened }) s lender empty) script
    (record { empty = empty_idles; no_walk = refl; machine = words.sound.machine; warm = refl }) (opening.places (run_of s) (vcpu_there (sizes_of t.layout) s 6 real (lit< tt)) ∙ runs_at_first t s))

pub are_first : (t : Trace) (b : BoardValue) (opened : List ℕ) (cpus : List Processing) → SoundWords t.layout opened → IsOpening t opened → b.machine ≡ t.layout → b.opening ≡ opened →
    length t.scripts ≡ length t.layout.vcpu_domain → sum_by length t.scripts ≤ 65536 → cpus ≡ first_cpus t.layout t.scripts → AreFirst b cpus
are_first t b opened cpus words opening machine is scripts few first =
    subst (AreFirst b) (sym first)
    (record {
      all = length_first t.layout t.scripts ∙ scripts ∙ sym (ap (λ (n : Machine). (sizes_of n).vcpus) machine);
      short = short_first t.layout t.scripts few;
      of = λ s lender c at.
          let own = first_at t.layout t.scripts s c at in
          let real : s < (sizes_of t.layout).vcpus = subst (λ k. s < k) (length_first t.layout t.scripts ∙ scripts) (slice_get_within (first_cpus t.layout t.scripts) s c at) in
          subst (λ (k : Processing). IsOf (port_with b s lender empty) k × (k.retired ≡ false)) (sym own.1) (fresh_idles t b opened words opening machine is s lender own.0 real, refl);
    })

module _ (b : BoardValue) (gates left : List Gate) (cpus cpus2 : List Processing) (words : List ℕ) (first : AreFirst b cpus) (ran : RanInThreads b gates cpus words left cpus2) where
  pub short_last : AreShort cpus2
  short_last = λ k d within.
      let there : k < length cpus = subst (λ n. k < n) ran.all within in
      let was : slice_get cpus k ≡ Some (slice_index_or cpus k d) = slice_get-get_or cpus k d there in
      let end = ran.each k (slice_index_or cpus k d) (slice_index_or cpus2 k d) was (slice_get-get_or cpus2 k d within) in
      short_behind _ _ _ _ _ _ end.turns (All-get_or IsShort cpus k d there first.short)

  pub all_last : (n : Machine) → b.machine ≡ n → length cpus2 ≡ (sizes_of n).vcpus
  all_last n machine = ran.all ∙ first.all ∙ ap (λ (k : Machine). (sizes_of k).vcpus) machine

  pub all_words : (n : Machine) → b.machine ≡ n → length words ≡ size (sizes_of n)
  all_words n machine = ran.sound.all_words ∙ ap (λ (k : Machine). size (sizes_of k)) machine

  pub replayed_to : (t : Trace) (all : List Gate) (opened : List ℕ) → IsOpening t opened → b.machine ≡ t.layout → b.opening ≡ opened → cpus ≡ first_cpus t.layout t.scripts → gates ≡ first_gates t.layout all → ReplayedTo t all words left cpus2
  replayed_to t all opened opening machine is firsts own =
      record {
        opened = opened;
        opening = opening;
        table = b.table;
        ran = subst (λ (k : BoardValue). RanInThreads k (first_gates t.layout all) (first_cpus t.layout t.scripts) words left cpus2) (board_is t b opened machine is)
            (subst (λ (gs : List Gate). RanInThreads b gs (first_cpus t.layout t.scripts) words left cpus2) own (subst (λ (cs : List Processing). RanInThreads b gates cs words left cpus2) firsts ran));
      }
