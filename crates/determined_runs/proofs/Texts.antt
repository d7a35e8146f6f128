-- A run of a trace comes to one stage, and shows one text.
use Rattle.std.proofs.Common.{◌≡◌, ◌∙◌, ◌++◌, ℕ, ◌<◌, IsTrue, List, length, slice_index, Result, Ok, Err, sym, ap, subst}
use Rattle.std.proofs.lemmas.Grind.{same_number_lists}
use Rattle.xp_words.specs.Machine.{IsMachine}
use Rattle.xp_words.specs.Places.{Sizes, memory, place_at, size, sizes_of}
use Rattle.xp_words.proofs.PlaceLaws.{place_there}
use Rattle.xp_board.proofs.Numbers.{word_there}
use Rattle.trace_text.specs.declared.trace.Trace.{Trace}
use Rattle.trace_text.specs.TraceOf.{Fault, trace_of}
use Rattle.machine_build.specs.Opening.{IsOpening}
use Rattle.machine_image.specs.Image.{image_of}
use Rattle.shared_board.specs.Board.{opened_story}
use Rattle.vcpu_runners.specs.Cpus.{first_cpus}
use Rattle.xp_machine.specs.Cpus.{order}
use Rattle.xp_machine.specs.Outcome.{IsAnswer, RanBy, Shown}
use Rattle.xp_machine.specs.Outcome as shows
use Rattle.xp_machine.specs.Ran.{ImagedTrace, RanTo, RanTrace, ToldTrace, first_gates, report_at, steps_at}
use Rattle.xp_machine.specs.Turns.{Stage, WorksOff, stage}
use Rattle.xp_machine.specs.declared.status.Status.{Status}
use Rattle.command_words.specs.declared.asked.Manner.TheVariants as manners
use Rattle.xp_preempt.specs.Gates.{Gate}
use Rattle.determined_runs.specs.Shown.{IsOfOneThread}
use Rattle.determined_runs.proofs.Works.{works_same}

-- ---- the opening words
opening_same : (t : Trace) (a b : List ℕ) → IsOpening t a → IsOpening t b → a ≡ b
opening_same t a b p q =
    let z = sizes_of t.layout in
    same_number_lists a b (p.count ∙ sym q.count)
    (λ k low.
    let there = (place_there z k (subst (λ j. k < j) p.count low)).0 in
    sym (word_there z a k there) ∙ p.places (place_at z k) there ∙ sym (q.places (place_at z k) there) ∙ word_there z b k there)

-- ---- the stage at the end
pub run_same : (t : Trace) (gates : List Gate) (a b : Stage) → RanTo t gates a → RanTo t gates b → a ≡ b
run_same t gates a b p q =
    let opened = opening_same t q.opened p.opened q.opening p.opening in
    let works = subst (λ ws. WorksOff t.layout (order t.turns) (stage (opened_story t.layout ws) (first_cpus t.layout t.scripts) (first_gates t.layout gates)) b) opened q.works in
    works_same t.layout (order t.turns) (stage (opened_story t.layout p.opened) (first_cpus t.layout t.scripts) (first_gates t.layout gates)) a b p.sound.sound.machine p.works works

-- ---- the text
report_same : (t : Trace) (gates : List Gate) (x y : List ℕ) → RanTrace t gates x → RanTrace t gates y → x ≡ y
report_same t gates x y p q = p.report ∙ ap (λ s. report_at t.layout s) (run_same t gates p.closed q.closed p.ran q.ran) ∙ sym q.report

told_same : (t : Trace) (gates : List Gate) (x y : List ℕ) → ToldTrace t gates x → ToldTrace t gates y → x ≡ y
told_same t gates x y p q = p.told ∙ ap (λ s. report_at t.layout s ++ steps_at t.layout s) (run_same t gates p.closed q.closed p.ran q.ran) ∙ sym q.told

image_same : (t : Trace) (gates : List Gate) (x y : List ℕ) → ImagedTrace t gates x → ImagedTrace t gates y → x ≡ y
image_same t gates x y p q = p.image ∙ ap (λ (s : Stage). image_of t.layout s.board.words) (run_same t gates p.closed q.closed p.ran q.ran) ∙ sym q.image

shown_same : (shown : Shown) → IsOfOneThread shown → (t : Trace) (gates : List Gate) (x y : List ℕ) → RanBy shown t gates x → RanBy shown t gates y → x ≡ y
shown_same (shows.reported manners.Turns) one t gates x y p q = report_same t gates x y p q
shown_same (shows.reported manners.Replay) one t gates x y p q = absurd one
shown_same shows.told one t gates x y p q = told_same t gates x y p q
shown_same shows.imaged one t gates x y p q = image_same t gates x y p q

pub answer_same : (shown : Shown) → IsOfOneThread shown → (gates : List Gate) (r : Result Trace Fault) (v w : Status) (x y : List ℕ) → IsAnswer shown gates r v x → IsAnswer shown gates r w y → (v ≡ w) × (x ≡ y)
answer_same shown one gates (Ok t) v w x y p q = (p.0 ∙ sym q.0, shown_same shown one t gates x y p.1 q.1)
answer_same shown one gates (Err e) v w x y p q = (p.0 ∙ sym q.0, p.1 ∙ sym q.1)
