-- The trace that is made by rule is one that a text can spell.
use Rattle.std.proofs.Common.{◌≡◌, ℕ, zero, suc, ◌+◌, ◌/◌, ◌%◌, ◌^◌, ◌<◌, ◌≤◌, ◌==◌, [], ◌∷◌, length, refl, arith, Bool, true, false, if◌then◌else◌}
use Rattle.std.specs.List.{All, AllPairs, slice_index}
use Rattle.std.proofs.lemmas.List.Elements.{All-nil, All-cons}
use Rattle.std.proofs.lemmas.List.FromFn.{length-map-range_with_len}
use Rattle.xp_words.specs.Machine.{IsMachine, IsMask}
use Rattle.xp_words.specs.declared.ops.Op.{Op}
use Rattle.std.specs.Bool.{IsTrue}
use Rattle.trace_text.specs.declared.trace.Own.{Own}
use Rattle.trace_text.specs.declared.trace.TurnRun.{TurnRun}
use Rattle.trace_text.specs.Counted.{is_apart, pages_of, numbers_in_call, numbers_in, extents_in_call, extents_in, destroys_in}
use Rattle.trace_text.specs.WellFormed.{IsOwn, IsCellRun, IsOp, IsWellFormed}
use Rattle.trace_gen.specs.Generated.{update_with, renumbering, table_of, pinning, mapping, unmapping, giving_back, asking, op_at, generated_op, generated_machine, generated_script, generated}
use Rattle.trace_gen.proofs.Made.{all_made, few_made, none_made}

alone : {X : Type 0} (P : X → Type 0) (x : X) → P x → All P (x ∷ [])
alone P x is = All-cons P x [] is (All-nil P)

-- ---- each operation of a round

either : (P : Op → Type 0) (b : Bool) (x y : Op) → P x → P y → P (if b then x else y)
either P true x y here there = here
either P false x y here there = there

-- what holds of all six of a round holds of the one at that place
at_each : (P : Op → Type 0) (place round : ℕ) → P (renumbering round) → P (pinning round) → P (mapping round) → P (unmapping round) → P (giving_back round) → P (asking round) → P (op_at place round)
at_each P place round first second third fourth fifth sixth =
    either P (place == 0) _ _ first
    (either P (place == 1) _ _ second
    (either P (place == 2) _ _ third
    (either P (place == 3) _ _ fourth
    (either P (place == 4) _ _ fifth sixth))))

update_is_op : (ptr val : ℕ) → ptr < 2 ^ 64 → val < 2 ^ 64 → IsOp 1 (update_with ptr val)
unfolding numbers_in numbers_in_call
update_is_op ptr val small_ptr small_val =
    record { spelled = (omega arith, alone (λ p. (p.ptr < 2 ^ 64) × (p.val < 2 ^ 64)) (record { ptr = ptr; val = val }) (small_ptr, small_val)); numbers = omega arith }

pinning_is_op : (round : ℕ) → round < 60000 → IsOp 1 (pinning round)
unfolding numbers_in numbers_in_call
pinning_is_op round few =
    record { spelled = alone (λ x. (x.command < 2 ^ 64) × (x.first < 2 ^ 64) × (x.second < 2 ^ 64)) (record { command = 0; first = table_of round; second = 0 }) (omega arith, omega arith, omega arith); numbers = omega arith }

giving_is_op : (round : ℕ) → round < 60000 → IsOp 1 (giving_back round)
unfolding numbers_in numbers_in_call
giving_is_op round few =
    record { spelled = (omega arith, omega arith, alone (λ n. n < 2 ^ 64) (128 + round % 64) (omega arith)); numbers = omega arith }

asking_is_op : (round : ℕ) → round < 60000 → IsOp 1 (asking round)
unfolding numbers_in numbers_in_call
asking_is_op round few =
    record { spelled = (omega arith, omega arith, alone (λ n. n < 2 ^ 64) round (omega arith)); numbers = omega arith }

generated_is_op : (number : ℕ) → number < 60000 → IsOp 1 (generated_op number)
unfolding generated_op
generated_is_op number few =
    let early : number / 6 < 60000 = omega arith in
    at_each (IsOp 1) (number % 6) (number / 6)
    (update_is_op _ _ (omega arith) (omega arith))
    (pinning_is_op _ early)
    (update_is_op _ _ (omega arith) (omega arith))
    (update_is_op _ _ (omega arith) (omega arith))
    (giving_is_op _ early)
    (asking_is_op _ early)

few_extents : (number : ℕ) → extents_in (generated_op number) ≤ 1
unfolding generated_op extents_in extents_in_call
few_extents number =
    at_each (λ op. extents_in op ≤ 1) (number % 6) (number / 6) (omega arith) (omega arith) (omega arith) (omega arith) (omega arith) (omega arith)

no_destroys : (number : ℕ) → destroys_in (generated_op number) ≡ 0
unfolding generated_op destroys_in
no_destroys number =
    at_each (λ op. destroys_in op ≡ 0) (number % 6) (number / 6) refl refl refl refl refl refl

-- ---- the trace

no_rights : (d : ℕ) → d < 1 → IsMask 1 d (slice_index (0 ∷ []) d)
no_rights zero first = record { within = omega arith; no_own = refl }
no_rights (suc d) first = let none : ⊥ = omega arith in absurd none

machine_is : IsMachine generated_machine
machine_is =
    record {
      some_frames = omega arith;
      few_frames = omega arith;
      some_count = omega arith;
      few_counts = omega arith;
      some_domains = omega arith;
      few_domains = omega arith;
      few_pages = alone (λ n. n ≤ 65536) 256 (omega arith);
      masks = refl;
      no_own = no_rights;
      some_vcpus = omega arith;
      few_vcpus = omega arith;
      of_domains = alone (λ d. d < 1) 0 (omega arith);
    }

-- the only run of owned frames
abbrev run : Own
run = record { domain = 0; first = 0; count = 192 }

run_apart : AllPairs (λ a b. IsTrue (is_apart a b)) (run ∷ [])
run_apart i j d before within = let none : ⊥ = omega arith in absurd none

run_fits : (d : ℕ) → d < 1 → pages_of d (run ∷ []) ≤ slice_index (256 ∷ []) d
run_fits zero first = omega arith
run_fits (suc d) first = let none : ⊥ = omega arith in absurd none

pub well_made : (n : ℕ) → n ≤ 60000 → IsWellFormed (generated n)
well_made n most =
    let long : length (generated_script n) ≡ n = length-map-range_with_len generated_op 0 n in
    let extents = few_made extents_in generated_op 0 n few_extents in
    let destroys = none_made destroys_in generated_op 0 n no_destroys in
    record {
      version = refl;
      machine = machine_is;
      frames = λ _. omega arith;
      some_clock = omega arith;
      clock = omega arith;
      owned = alone (IsOwn generated_machine) run (record { domain = omega arith; some = omega arith; inside = omega arith });
      apart = run_apart;
      pages = run_fits;
      cells = All-nil (IsCellRun 256);
      scripts = refl;
      ops = alone (All (IsOp 1)) (generated_script n) (all_made (IsOp 1) generated_op n (λ k within. generated_is_op k (omega arith)));
      few_ops = omega arith;
      few_destroys = omega arith;
      few_extents = omega arith;
      turns = alone (λ (r : TurnRun). r.vcpu < 1) (record { vcpu = 0; count = n + 1 }) (omega arith);
      few_turns = omega arith;
    }
