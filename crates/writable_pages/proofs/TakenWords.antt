-- An own frame is taken as ordinary memory, in plain words.
use Rattle.std.proofs.Common.{◌≡◌, ℕ, ◌<◌, ◌^◌, Bool, true, false, List, Result, Ok, sym, ap, ◌∙◌}
use Rattle.xp_words.specs.KindWords.{kind_fields}
use Rattle.xp_words.specs.declared.kind.PageType.TheVariants.{Writable}
use Rattle.xp_words.specs.declared.reply.Stop.{Stop}
use Rattle.xp_board.specs.Readings.{domain_of}
use Rattle.xp_board.specs.Told.{Post, PortValue}
use Rattle.step_maker.specs.Moves.{Came}
use Rattle.step_maker.proofs.Coming.{came_post}
use Rattle.step_maker.proofs.Telling.{came_telling}
use Rattle.step_maker.specs.Visits.{Visit, Does}
use Rattle.step_maker.proofs.Visiting.{does_came}
use Rattle.frame_types.specs.Found.{GoesBy, TakesBy, TakesFound, WaitsOf}
use Rattle.frame_types.specs.Plain.{IsTakenBy, TwinMemory, is_own, waits_by}
use Rattle.frame_types.specs.Standing.{standing_of}
use Rattle.frame_types.specs.declared.standing.Standing.{Standing}
use Rattle.frame_types.specs.declared.standing.Standing.TheVariants as stands
use Rattle.frame_types.specs.declared.taking.Taken.TheVariants.{Waiting}
use Rattle.frame_types.proofs.GivenUp.{after_stop, after_wait, found_stamp}
use Rattle.writable_pages.specs.Pages.{TookPage, counted, untyped, waiting}

-- ---- the stamp that was awaited stood in the word that was found
module _ (q : Post) (f owner x stamp : ℕ) (own : Bool) (stop : Stop) where
  waits_on : (marked : Bool) (found : ℕ) (vs : List Visit) → marked ≡ true → WaitsOf q owner marked found (Waiting own stamp stop) vs → stamp ≡ found
  waits_on true found vs on waits = waits.0
  waits_on false found vs on waits = absurd cc

  goes_on : (marked mine : Bool) (found : ℕ) (vs : List Visit) → marked ≡ true → GoesBy q f owner Writable marked found mine (Waiting own stamp stop) vs → stamp ≡ found
  goes_on marked mine found vs on goes = waits_on marked found goes.before on goes.first

  stood_by : (s : Standing) (vs : List Visit) → IsTakenBy Writable (kind_fields x) s (Waiting own stamp stop) → TakesBy q f owner Writable x s (Waiting own stamp stop) vs → stamp ≡ (kind_fields x).number
  stood_by stands.Counted vs way takes = absurd (let is = way in cc)
  stood_by stands.Partial vs way takes = goes_on (waits_by (kind_fields x) Writable stands.Partial) (is_own (kind_fields x) stands.Partial) (kind_fields x).number takes.next.after way.0 takes.next.next
  stood_by stands.Dead vs way takes = goes_on (waits_by (kind_fields x) Writable stands.Dead) (is_own (kind_fields x) stands.Dead) (kind_fields x).number takes.next.after way.0 takes.next.next
  stood_by stands.Other vs way takes = absurd (let is = way.0 in cc)
  stood_by stands.Busy vs way takes = absurd (let is = way.0 in cc)

stamp_low : (v u : PortValue) (f owner stamp : ℕ) (own : Bool) (stop : Stop) → TakesFound v u f owner Writable (Ok (Waiting own stamp stop)) → stamp < 2 ^ 36
unfolding Does
stamp_low v u f owner stamp own stop found =
    let t = found.2 in
    found_stamp t.word stamp (sym (stood_by v.post f owner t.word stamp own stop (standing_of (kind_fields t.word) Writable) t.steps.after t.way t.steps.next))

-- ---- by its calls
pub page_twin : (v w : PortValue) (f owner : ℕ) (answer : Result (Unit {0}) Stop) → owner ≡ domain_of v.post.machine v.post.vcpu → TookPage v f owner w answer → TwinMemory v w f answer
page_twin v _ f owner _ mine (counted w took) telling = let p = took.plain telling in (p.0, p.2)
page_twin v _ f owner _ mine (untyped u w stop took back) telling =
    after_stop v u w f stop (took.plain telling) (back.plain (came_telling v u (does_came v u _ took.found) ∙ telling))
page_twin v _ f owner _ mine (waiting u w own stamp stop took left) telling =
    let came = does_came v u _ took.found in
    let on = came_telling v u came ∙ telling in
    let home = mine ∙ ap (λ (p : Post). domain_of p.machine p.vcpu) (sym (came_post v u came)) in
    after_wait v u w f stamp own (stamp_low v u f owner stamp own stop took.found) stop took.waits.0 (took.plain telling) (left.plain home on) (λ gives. left.owned gives on)

pub page_came : (v w : PortValue) (f owner : ℕ) → TookPage v f owner w (Ok tt) → Came v w
page_came v _ f owner (counted w took) = does_came v w _ took.found
