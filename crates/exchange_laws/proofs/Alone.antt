-- Where the vCPU is alone an exchange neither pauses nor finds the clock at its last value.
use Rattle.std.proofs.Common.{◌≡◌, ◌<◌, ◌≤◌, ℕ, Bool, true, List, length, Some, None, Result, Ok, Err, IfErr, refl, inl, inr, arith}
use Rattle.xp_words.specs.Machine.{IsMachine, Machine}
use Rattle.xp_words.specs.declared.entry.Demand.{Demand}
use Rattle.xp_words.specs.declared.reply.Refusal.TheVariants as refusals
use Rattle.xp_words.specs.declared.reply.Stop.{Stop}
use Rattle.xp_words.specs.declared.reply.Stop.TheVariants.{Refused, Paused}
use Rattle.xp_preempt.specs.Gates.{yeses}
use Rattle.xp_board.specs.Told.{PortValue, is_telling, told_word}
use Rattle.step_maker.proofs.Coming.{moves_came}
use Rattle.step_maker.specs.Answers.{Stops}
use Rattle.step_maker.specs.Asked.{of_frame}
use Rattle.answer_laws.specs.Alone.{IsAlone}
use Rattle.answer_laws.proofs.Shared.{alone_telling}
use Rattle.partial_state.specs.Levels.{level_type}
use Rattle.table_law.specs.Alone.{PlainOutcome}
use Rattle.table_law.specs.Lawful.{IsAtRest}
use Rattle.table_law.specs.Plain.{Describes, Plain, plain_of}
use Rattle.course_laws.specs.Courses.{ClockGoesOn, IsFinal, IsOrderly}
use Rattle.course_laws.proofs.Awaiting.{AloneStays, NeitherLostNorBusy, NobodyWaitedFor, alone_orderly, decided}
use Rattle.course_laws.proofs.Stopping.{StopsAs, acquired_stops, ahead_of, behind, stops_here}
use Rattle.foreign_map.specs.declared.owners.Owners.{Owners}
use Rattle.writable_pages.specs.Pages as pages
use Rattle.writable_pages.specs.Pages.{GotPage, TookPage}
use Rattle.entry_exchange.specs.Asking.{of_exchange}
use Rattle.entry_exchange.specs.Course as course
use Rattle.entry_exchange.specs.Course.{Exchanged, PutEntry, TookDemand, new_demand}
use Rattle.entry_exchange.specs.Holding.{owner_at}
use Rattle.entry_exchange.specs.declared.exchanging.EntryUpdate.{EntryUpdate}
use Rattle.exchange_laws.specs.Plain.{ComesAsPlain, EndsAsPlain, ExchangesAsPlain, LeavesPlain, exchanged_plain}
use Rattle.exchange_laws.proofs.Going.{page_left_came}
use Rattle.exchange_laws.proofs.Unlocking.{lock_came}
use Rattle.table_entries.proofs.Shared.{ref_came, gave_came}

-- ---- what the new word asks is not to be had for what one of its calls stopped for
pub took_page_stops : (v : PortValue) (f owner : ℕ) (w : PortValue) (r : Result (Unit {0}) Stop) → TookPage v f owner w r → StopsAs v w r
took_page_stops v f owner _ _ (pages.counted w type) = tt
took_page_stops v f owner _ _ (pages.untyped u w stop type back) = ahead_of v u w stop (stops_here v u (of_frame f owner (Some (level_type 0))) stop refl refl type.stops) (gave_came u w f back)
took_page_stops v f owner _ _ (pages.waiting u w own stamp stop type left) =
    ahead_of v u w stop (stops_here v u (of_frame f owner (Some (level_type 0))) stop refl refl type.waits.1) (page_left_came u w f owner stamp own _ left.steps)

pub page_stops : (v : PortValue) (f owner : ℕ) (w : PortValue) (r : Result ℕ Stop) → GotPage v f owner w r → StopsAs v w r
page_stops v f owner _ _ (pages.unreferred w stop ref) = stops_here v w (of_frame f owner None) stop refl refl ref.stops
page_stops v f owner _ _ (pages.refused u w stop ref took) = behind v u w stop (ref_came v u f owner _ ref) (took_page_stops u f owner w (Err stop) took)
page_stops v f owner _ _ (pages.had u w ref took) = tt

demand_stops : (owner level : ℕ) (v : PortValue) (d : Demand) (w : PortValue) (answers : List Bool) (r : Result (Unit {0}) Stop) → TookDemand owner level v d w answers r → yeses answers ≡ 0 → StopsAs v w r
demand_stops owner level v _ _ _ _ course.nothing none = tt
demand_stops owner level v _ _ _ _ (course.referred w g ref) none = tt
demand_stops owner level v _ _ _ _ (course.unreferred w g stop ref) none = stops_here v w (of_frame g owner None) stop refl refl ref.stops
demand_stops owner level v _ _ _ _ (course.paged w g one page) none = tt
demand_stops owner level v _ _ _ _ (course.unpaged w g stop one page) none = page_stops v g owner w (Err stop) page
demand_stops owner level v _ _ _ _ (course.acquired w g answers two had) none = tt
demand_stops owner level v _ _ _ _ (course.refused w g answers stop two had) none = acquired_stops v g owner _ w answers (Err stop) had (λ is. none)

-- ---- done, or refused, and that not for the clock
abbrev pub IsEnded : Result (Unit {0}) Stop → Type 0
IsEnded (Ok done) = Unit {0}
IsEnded (Err e) = IsFinal e

ends_by : (n : Machine) (w : PortValue) (level : ℕ) (a : PlainOutcome) (r : Result (Unit {0}) Stop) → IsEnded r → ExchangesAsPlain n w level a r → EndsAsPlain n w level a r
ends_by n w level a (Ok done) ended is = is
ends_by n w level a (Err (Refused (refusals.Clock found))) ended is = ended
ends_by n w level a (Err (Refused _)) ended is = is
ends_by n w level a (Err (Paused x)) ended is = ended

module _ (stays : AloneStays) (neither : NeitherLostNorBusy) (nobody : NobodyWaitedFor) (v : PortValue) (x : EntryUpdate) (o : Owners) (alone : IsAlone v) (one : length v.post.machine.vcpu_domain ≡ 1) where
  -- no exchange of the word is lost
  abbrev NeverLost : Result ℕ Stop → PortValue → Type 0
  NeverLost (Ok old) w = Unit {0}
  NeverLost (Err e) w = Stops v w (of_exchange x o (Err e)) e → ⊥

  never_lost : (u y : PortValue) (f i seen new : ℕ) (keep : Bool) (r : Result ℕ Stop) (w : PortValue) → PutEntry u y f i seen new keep r → NeverLost r w
  never_lost u y f i seen new _ _ w (course.stored old step) = tt
  never_lost u y f i seen new _ _ w (course.exchanged step) = tt
  never_lost u y f i seen new _ _ w (course.lost found off step) = λ stops. neither v w _ _ alone refl stops

  exchange_ended : (w : PortValue) (answers : List Bool) (r : Result (Unit {0}) Stop) → Exchanged v x o w answers r → ClockGoesOn v w → yeses answers ≡ 0 → IfErr r (λ e. Stops v w (of_exchange x o r) e) → IsEnded r
  exchange_ended _ _ _ (course.bad u w seen saw bad lock) goes none stops = tt
  exchange_ended _ _ _ (course.same u y w seen old saw same puts lock) goes none stops = tt
  exchange_ended _ _ _ (course.unput u y w seen stop saw same puts lock) goes none stops = absurd (never_lost u y _ _ seen _ _ (Err stop) w puts stops)
  exchange_ended _ _ _ (course.untaken u y w seen answers stop saw differ a lock) goes none stops =
      decided stays neither v w alone goes nobody one (Err stop)
      (behind v u w stop (moves_came v u _ _ _ _ _ saw)
      (ahead_of u y w stop (demand_stops (owner_at x.level o.tables o.frames) x.level u (new_demand x seen) y answers (Err stop) a none) (lock_came y w x.table x.level lock)))
  exchange_ended _ _ _ (course.lost u y z a w seen answers stop saw differ taken puts gave lock) goes none stops = absurd (never_lost y z _ _ seen _ _ (Err stop) w puts stops)
  exchange_ended _ _ _ (course.done u y z a w seen old answers more saw differ taken puts lock gone) goes none stops = tt

-- ---- the law of exchanges on a board that tells all words
abbrev pub LeavesAsPlain : Type 0
LeavesAsPlain =
    (v w : PortValue) (x : EntryUpdate) (o : Owners) (answers : List Bool) (r : Result (Unit {0}) Stop) → IsMachine v.post.machine → is_telling v ≡ true → IsAtRest v.post.machine (told_word v) → IsOrderly v.post.machine (told_word v) →
    1 ≤ x.level → x.level ≤ 4 → x.table < v.post.machine.frames → x.index < 512 → Exchanged v x o w answers r →
    ComesAsPlain v.post.machine w x.level (exchanged_plain v.post.machine x o (plain_of (told_word v))) answers r

-- where the gate said no, nothing is left to be settled
calm_leaves : (n : Machine) (w : PortValue) (answers : List Bool) (q : Plain) → yeses answers ≡ 0 → LeavesPlain n w answers q → Describes n (told_word w) q
calm_leaves n w answers q none (inl d) = d
calm_leaves n w answers q none (inr (said, left)) = absurd (omega (arith, said, none))

calm_comes : (n : Machine) (w : PortValue) (level : ℕ) (a : PlainOutcome) (answers : List Bool) (r : Result (Unit {0}) Stop) → yeses answers ≡ 0 → ComesAsPlain n w level a answers r → ExchangesAsPlain n w level a r
calm_comes n w level a answers (Ok done) none is = (is.0, calm_leaves n w answers a.left none is.1)
calm_comes n w level a answers (Err e) none is = is

-- so alone it ends as the plain one
pub ends_alone : AloneStays → NeitherLostNorBusy → NobodyWaitedFor → LeavesAsPlain → (v w : PortValue) (x : EntryUpdate) (o : Owners) (answers : List Bool) (r : Result (Unit {0}) Stop) → IsAlone v → length v.post.machine.vcpu_domain ≡ 1 →
    IsAtRest v.post.machine (told_word v) → ClockGoesOn v w → 1 ≤ x.level → x.level ≤ 4 → x.table < v.post.machine.frames → x.index < 512 → Exchanged v x o w answers r → yeses answers ≡ 0 →
    IfErr r (λ e. Stops v w (of_exchange x o r) e) → EndsAsPlain v.post.machine w x.level (exchanged_plain v.post.machine x o (plain_of (told_word v))) r
ends_alone stays neither nobody leaves v w x o answers r alone one calm goes low high frame few exchange none stops =
    ends_by v.post.machine w x.level (exchanged_plain v.post.machine x o (plain_of (told_word v))) r (exchange_ended stays neither nobody v x o alone one w answers r exchange goes none stops)
    (calm_comes v.post.machine w x.level (exchanged_plain v.post.machine x o (plain_of (told_word v))) answers r none
    (leaves v w x o answers r alone.state.sound.machine (alone_telling v alone) calm (alone_orderly v alone) low high frame few exchange))
