-- The statuses that come with a text.
use Rattle.std.proofs.Common.{◌≢◌, ℕ, if◌then◌else◌, List, [], ◌∷◌, map, Result, Ok, Err, Option, Some, None, option_and_then, ◌≡◌, refl, sym, subst, inl, inr}
use Rattle.trace_lines.specs.declared.fault.LineFault.{LineFault}
use Rattle.trace_lines.specs.declared.fault.LineFault.TheVariants.{Passed, Bad}
use Rattle.trace_text.specs.declared.trace.Trace.{Trace}
use Rattle.trace_text.specs.TraceOf.{Fault, trace_of}
use Rattle.xp_machine.specs.declared.status.Status.{Status}
use Rattle.xp_machine.specs.declared.status.Status.TheVariants as status
use Rattle.vcpu_runners.specs.Gates.{ArePaced, SetBy}
use Rattle.xp_preempt.specs.Gates.{Gate, IsPaced, is_in_step}
use Rattle.xp_machine.specs.Audited.{IsImageDue}
use Rattle.xp_machine.specs.declared.audits.Showing.{Showing}
use Rattle.xp_machine.specs.declared.audits.Showing.TheVariants.{Line, Drawn}
use Rattle.xp_machine.specs.Texts.{fault_status, verdict_status}
use Rattle.command_words.specs.declared.asked.Asked.{Asked}
use Rattle.command_words.specs.declared.asked.Asked.TheVariants.{Run, Steps, Image, Generate, Audit, Draw}
use Rattle.walk_audit.specs.declared.verdict.Verdict.{Verdict}
use Rattle.walk_audit.specs.declared.verdict.Verdict.TheVariants.{Sound}
use Rattle.std.specs.Io.KnownBytes.{Keeps}
use Rattle.xp_machine.specs.Outcome.{Shown, WroteText, Outcome, OutcomeBy, OutcomeOf, IsDue, IsAnswer, pace_of}

-- a status that says of source and sink that its text was written, and that is none of the others
pub record HasText (s : Status) : Type 1 where
  pub wrote : (Due : Option (List ℕ) → Option (List ℕ) → Status → List ℕ → Type 0) (from from' to to' : Option (List ℕ)) → WroteText Due from from' to to' s → Outcome Due from from' to to' s
  pub no_words : s ≢ status.BadWords
  pub no_read : s ≢ status.ReadFault
  pub no_write : s ≢ status.WriteFault

of_done : HasText status.Done
of_done = record { wrote = λ Due from from' to to' h. h; no_words = λ e. cc; no_read = λ e. cc; no_write = λ e. cc }

of_trace : HasText status.BadTrace
of_trace = record { wrote = λ Due from from' to to' h. h; no_words = λ e. cc; no_read = λ e. cc; no_write = λ e. cc }

of_length : HasText status.TooLarge
of_length = record { wrote = λ Due from from' to to' h. h; no_words = λ e. cc; no_read = λ e. cc; no_write = λ e. cc }

of_image : HasText status.BadImage
of_image = record { wrote = λ Due from from' to to' h. h; no_words = λ e. cc; no_read = λ e. cc; no_write = λ e. cc }

of_unsound : HasText status.Unsound
of_unsound = record { wrote = λ Due from from' to to' h. h; no_words = λ e. cc; no_read = λ e. cc; no_write = λ e. cc }

of_fault : (f : LineFault) → HasText (fault_status f)
unfolding fault_status
of_fault (Bad cause) = of_trace
of_fault (Passed what number) = of_length

of_answer : (shown : Shown) (gates : List Gate) (r : Result Trace Fault) (s : Status) (text : List ℕ) → IsAnswer shown gates r s text → HasText s
of_answer shown gates (Ok t) s text h = subst HasText (sym h.0) of_done
of_answer shown gates (Err e) s text h = subst HasText (sym h.0) (of_fault e.cause)

pub due_has_text : (shown : Shown) (gates : List Gate) (from from' : Option (List ℕ)) (s : Status) (text : List ℕ) → IsDue shown gates from from' s text → HasText s
due_has_text shown gates from from' s text due = of_answer shown gates (trace_of due.0) s text due.2

of_verdict : (v : Verdict) → HasText (verdict_status v)
of_verdict Sound = of_done
of_verdict _ = of_unsound

pub image_has_text : (showing : Showing) (from from' : Option (List ℕ)) (s : Status) (text : List ℕ) → IsImageDue showing from from' s text → HasText s
image_has_text Line from from' s text (inl (bytes, read, inl h)) = subst HasText (sym h.told.shown.0) (of_verdict h.told.verdict)
image_has_text Drawn from from' s text (inl (bytes, read, inl h)) = subst HasText (sym h.told.shown.0) of_done
image_has_text showing from from' s text (inl (bytes, read, inr h)) = subst HasText (sym h.answer_is) of_image
image_has_text showing from from' s text (inr h) = subst HasText (sym h.answer_is) of_length

-- ---- what the words ask for
-- the gates are told the pace, and what is asked is done
pub outcome_by : (asked : Option Asked) (a : Asked) (pace : ℕ) (gates set : List Gate) (from from' to to' : Option (List ℕ)) (s : Status) → asked ≡ Some a → pace_of a ≡ Some pace → ArePaced pace gates set
    → OutcomeOf (Some a) set from from' to to' s → OutcomeBy asked gates from from' to to' s
outcome_by asked a pace gates set from from' to to' s is at paced out =
    subst (λ o. OutcomeBy o gates from from' to to' s) (sym is) (set, subst (λ p. SetBy p gates set) (sym at) paced, out)

-- or they are told nothing
pub outcome_untold : (asked : Option Asked) (a : Asked) (gates : List Gate) (from from' to to' : Option (List ℕ)) (s : Status) → asked ≡ Some a → pace_of a ≡ None
    → OutcomeOf (Some a) gates from from' to to' s → OutcomeBy asked gates from from' to to' s
outcome_untold asked a gates from from' to to' s is at out =
    subst (λ o. OutcomeBy o gates from from' to to' s) (sym is) (gates, subst (λ p. SetBy p gates gates) (sym at) refl, out)

-- they ask for no run
pub no_outcome : (asked : Option Asked) (gates : List Gate) (from to : Option (List ℕ)) (s : Status) → asked ≡ None → Keeps from from → Keeps to to → OutcomeBy asked gates from from to to s
no_outcome asked gates from to s is kept kept_too = subst (λ o. OutcomeBy o gates from from to to s) (sym is) (gates, refl, (kept, kept_too))

-- a gate that was told a pace
abbrev told : ℕ → Gate → Gate
told every g = record { paces = g.paces; asks = g.asks; yes = g.yes; says = λ n. if g.paces then is_in_step every n else g.says n }

is_told : (every : ℕ) (g : Gate) → IsPaced every g (told every g)
is_told every g = record { asks = refl; yes = refl; paces = refl; says = λ e n. rw e refl; unpaced = λ e n. rw e refl }

are_told : (every : ℕ) (gates : List Gate) → ArePaced every gates (map (told every) gates)
are_told every [] = tt
are_told every (g ∷ gs) = (is_told every g, are_told every gs)

-- there are gates that are told the pace
could_be_set : (pace : Option ℕ) (gates : List Gate) → (set : List Gate) × SetBy pace gates set
could_be_set None gates = (gates, refl)
could_be_set (Some every) gates = (map (told every) gates, are_told every gates)

-- want of memory before anything is read
pub memory_outcome : (asked : Option Asked) (gates : List Gate) (from to : Option (List ℕ)) → Keeps from from → Keeps to to → OutcomeBy asked gates from from to to status.Memory
memory_outcome asked gates from to kept kept_too = let set = could_be_set (option_and_then pace_of asked) gates in (set.0, set.1, of asked)
  where
    of : (o : Option Asked) → OutcomeOf o (could_be_set (option_and_then pace_of asked) gates).0 from from to to status.Memory
    of (Some (Run manner pace)) = kept_too
    of (Some (Steps pace)) = kept_too
    of (Some (Image pace)) = kept_too
    of (Some (Generate n)) = (kept, kept_too)
    of (Some Audit) = kept_too
    of (Some Draw) = kept_too
    of None = (kept, kept_too)
