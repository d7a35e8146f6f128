-- Which vCPUs were found stopped stays so, and is more with each look.
use Rattle.std.proofs.Common.{◌≡◌, ◌≢◌, ℕ, ◌+◌, ◌==◌, Bool, true, false, Some, None, IsTrue, sym, ap, ◌∙◌, subst, inl, inr, arith}
use Rattle.std.proofs.lemmas.Bool.{cases_eq}
use Rattle.std.proofs.lemmas.Bool.Decides.{nat_tests}
use Rattle.xp_words.specs.Places.{run_of, sizes_of}
use Rattle.xp_words.specs.declared.reply.Pause.TheVariants.{Alive}
use Rattle.xp_words.specs.declared.reply.Stop.TheVariants.{Paused}
use Rattle.xp_board.specs.Acts.{left_by}
use Rattle.xp_board.specs.Readings.{domain_of}
use Rattle.xp_board.specs.Steps.{some_since}
use Rattle.xp_board.specs.Told.{Post, PortValue}
use Rattle.xp_board.specs.declared.step.Act.TheVariants.{Load}
use Rattle.xp_board.specs.declared.step.StepKind.TheVariants as kinds
use Rattle.step_maker.specs.Answers.{Stops}
use Rattle.step_maker.specs.Moves.{Came, Moves}
use Rattle.step_maker.proofs.Coming.{came_post, moves_came}
use Rattle.step_maker.proofs.Noting.{moves_since}
use Rattle.flush_words.proofs.Lasting.{came_keeps}
use Rattle.domain_destroy.specs.Asking.{StopsDestroyer}
use Rattle.domain_destroy.specs.Coming.{FoundStopped}
use Rattle.domain_destroy.proofs.Parts.{found_there}
use Rattle.domain_destroy.proofs.Staying.{doomed_stays, found_stopped_stays}

abbrev pub StoppedAt : PortValue → ℕ → ℕ → Type 0
StoppedAt v d k = FoundStopped v.post.machine v.post.vcpu d k v.holdings

-- more steps
pub stopped_stays : (v w : PortValue) (d k : ℕ) → Came v w → StoppedAt v d k → StoppedAt w d k
stopped_stays v w d k came y =
    subst (λ (q : Post). FoundStopped q.machine q.vcpu d k w.holdings) (sym (came_post v w came)) (found_stopped_stays v w came v.post.machine v.post.vcpu d k y)

-- one more vCPU: another domain's, or one that was found stopped
pub stopped_other : (v : PortValue) (d k : ℕ) → domain_of v.post.machine k ≢ d → StoppedAt v d k → StoppedAt v d (k + 1)
stopped_other v d k off y =
    record {
      since = y.since;
      doomed = y.doomed;
      stopped = λ u l real of. elim (cases_eq u k) [
        | inl at ↦ absurd (off (ap (domain_of v.post.machine) (sym at) ∙ of))
        | inr away ↦ y.stopped u (let a : u ≢ k = away in omega arith) real of
      ];
    }

module _ (v w : PortValue) (d k found : ℕ) (m : Moves v w (run_of k) Load kinds.Look None found) where
  run_looked : Came v w
  run_looked = moves_came v w (run_of k) Load kinds.Look None found m

  pub stopped_more : found ≡ 1 → StoppedAt v d k → StoppedAt w d (k + 1)
  unfolding left_by
  stopped_more is y =
      subst (λ (q : Post). FoundStopped q.machine q.vcpu d (k + 1) w.holdings) (sym (came_post v w run_looked))
      (record {
        since = y.since;
        doomed = doomed_stays v w run_looked v.post.machine v.post.vcpu d y.since y.doomed;
        stopped = λ u l real of. elim (cases_eq u k) [
          | inl at ↦ subst (λ j. IsTrue (some_since (sizes_of v.post.machine) y.since (run_of j) (λ w. w == 1) w.holdings.steps)) (sym at) (moves_since v w (run_of k) Load kinds.Look None found m y.since (λ w. w == 1) y.doomed.order (grind (arith, nat_tests, is)))
          | inr away ↦ came_keeps v w _ run_looked (y.stopped u (let a : u ≢ k = away in omega arith) real of)
        ];
      })

  -- found running
  pub alive_stops : domain_of v.post.machine k ≡ d → found ≢ 1 → StopsDestroyer v w d (Paused (Alive k found))
  unfolding Stops
  alive_stops of off = λ rose rises. (ap Some (sym of), found_there v w (run_of k) Load kinds.Look None found m, off)

-- ---- whether a vCPU is the domain's, as the code asks
pub other_by : (b : Bool) (x y : ℕ) → b ≡ false → b ≡ (x == y) → x ≢ y
other_by b x y off is = let t : (x == y) ≡ false = sym is ∙ off in grind (arith, nat_tests)

pub of_by : (b : Bool) (x y : ℕ) → b ≡ true → b ≡ (x == y) → x ≡ y
of_by b x y on is = let t : (x == y) ≡ true = sym is ∙ on in grind (arith, nat_tests)

-- look_run_of asks for another vCPU: one of the domain's is another
pub other_vcpu : (v : PortValue) (d k : ℕ) → domain_of v.post.machine k ≡ d → StoppedAt v d k → k ≢ v.post.vcpu
other_vcpu v d k of y at = y.doomed.foreign.other (ap (domain_of v.post.machine) (sym at) ∙ of)
