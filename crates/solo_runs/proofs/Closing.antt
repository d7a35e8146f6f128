-- How a run ends in which the only vCPU comes to the end of its script.
use Rattle.std.proofs.Common.{◌≡◌, true, List, [], ◌∷◌, Option, Some, length, refl, sym, ap, ◌∙◌, subst, arith}
use Rattle.std.specs.Prelude.{slice_get}
use Rattle.xp_words.specs.declared.ops.Op.{Op}
use Rattle.xp_board.specs.Readings.{domain_of}
use Rattle.trace_text.specs.declared.trace.Trace.{Trace}
use Rattle.shared_board.specs.Board.{opened_story}
use Rattle.xp_preempt.specs.Gates.{Gate}
use Rattle.vcpu_runners.specs.Cpus.{first_cpus}
use Rattle.vcpu_runners.specs.Turns.{Processing, fresh, pending_of}
use Rattle.xp_machine.specs.Ran.{first_gates}
use Rattle.xp_machine.specs.Turns.{Stage, stage}
use Rattle.xp_machine.proofs.Starting.{length_first}
use Rattle.solo_runs.specs.Finishing.{FinishesAlone}
use Rattle.solo_runs.proofs.Finishing.{Went, first_are, stopped, went}
use Rattle.solo_runs.proofs.Retiring.{retired_is_done}

list_of_one : {A : Type 0} (xs : List A) (x : A) → length xs ≡ 1 → slice_get xs 0 ≡ Some x → xs ≡ x ∷ []
list_of_one [] x one is = absurd cc
list_of_one (y ∷ []) x one is = let same : y ≡ x = cc in ap (λ z. z ∷ []) same
list_of_one (y ∷ z ∷ xs) x one is = absurd (omega arith)

-- the vCPU of a trace before its first turn
abbrev pub first_in : Trace → List Op → Processing
first_in t script = fresh t.layout.frames 0 (domain_of t.layout 0) script

module _ (t : Trace) (gates : List Gate) (script : List Op) (closed : Stage) (last : Processing) (run : FinishesAlone t gates script closed last) where
  abbrev opened_stage : Stage
  opened_stage = stage (opened_story t.layout run.ran.opened) (first_cpus t.layout t.scripts) (first_gates t.layout gates)

  -- its turns
  pub all_turns : Went t.layout opened_stage (first_in t script) run.ran.works.worked
  all_turns = went t.layout opened_stage (first_in t script) _ _ run.ran.works.worked run.ran.works.turns refl (record { one = length_first t.layout t.scripts ∙ (run.formed.scripts ∙ run.only); is = first_are t.layout t.scripts script run.script_is })

  pub is_last : all_turns.now ≡ last
  is_last = let both = sym all_turns.only.is ∙ run.last_is in cc

  pub is_retired : all_turns.now.retired ≡ true
  is_retired = subst (λ (k : Processing). k.retired ≡ true) (sym is_last) run.retired

  -- nobody stops behind them
  pub no_stop : closed ≡ run.ran.works.worked
  no_stop = stopped t.layout all_turns.now _ run.ran.works.worked closed run.ran.works.stops all_turns.only is_retired

  pub closing_cpus : closed.cpus ≡ last ∷ []
  closing_cpus = ap (λ (s : Stage). s.cpus) no_stop ∙ list_of_one run.ran.works.worked.cpus last all_turns.only.one run.last_is

  pub all_answered : pending_of last ≡ 0
  all_answered = subst (λ c. pending_of c ≡ 0) is_last (retired_is_done (first_in t script) _ all_turns.now _ all_turns.turned refl is_retired)
