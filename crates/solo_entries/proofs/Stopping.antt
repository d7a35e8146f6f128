-- Where the vCPU is alone and the only one, and the clock goes on, what is not to be had as ordinary memory is refused for what the words say.
use Rattle.std.proofs.Common.{◌≡◌, length, Result, Ok, Err, IfErr, None}
use Rattle.xp_words.specs.declared.reply.Pause.TheVariants.{Alive, Busy, Due, Flush, Lost}
use Rattle.xp_words.specs.declared.reply.Stop.{Stop}
use Rattle.xp_words.specs.declared.reply.Stop.TheVariants.{Refused, Paused}
use Rattle.xp_board.specs.Told.{PortValue}
use Rattle.step_maker.specs.Answers.{Stops}
use Rattle.step_maker.specs.Asked.{Request}
use Rattle.answer_laws.specs.Alone.{IsAlone}
use Rattle.course_laws.specs.Courses.{ClockGoesOn}
use Rattle.course_laws.proofs.Awaiting.{decided}
use Rattle.course_laws.proofs.Stopping.{StopsAs, ahead_of, behind}
use Rattle.solo_entries.proofs.Known.{Known}
use Rattle.solo_entries.proofs.Taking.{IsEnded}
use Rattle.step_maker.specs.Moves.{Came}

pub ended_by : {A : Type 0} → Known → (v w : PortValue) (r : Result A Stop) → IsAlone v → length v.post.machine.vcpu_domain ≡ 1 → ClockGoesOn v w → StopsAs v w r → IsEnded r
ended_by k v w (Ok a) alone one goes stops = tt
ended_by k v w (Err e) alone one goes stops = decided k.stays k.neither v w alone goes k.nobody one (Err e) stops

-- a call that stops within others
pub stops_within : {A : Type 0} (v a b w : PortValue) (r : Result A Stop) → Came v a → StopsAs a b r → Came b w → StopsAs v w r
stops_within v a b w (Ok done) before s after = tt
stops_within v a b w (Err e) before s after = behind v a w e before (ahead_of a b w e s after)

-- ---- no exchange of a word is lost
abbrev pub IsNotLost : Result (Unit {0}) Stop → Type 0
IsNotLost (Err (Paused (Lost place e found))) = ⊥
IsNotLost _ = Unit {0}

pub never_lost_alone : Known → (v w : PortValue) (r : Request) (answer : Result (Unit {0}) Stop) → IsAlone v → r.destroys ≡ None → IfErr answer (λ e. Stops v w r e) → IsNotLost answer
never_lost_alone k v w r (Ok done) alone none stops = tt
never_lost_alone k v w r (Err (Refused x)) alone none stops = tt
never_lost_alone k v w r (Err (Paused (Lost place e found))) alone none stops = k.neither v w r (Lost place e found) alone none stops
never_lost_alone k v w r (Err (Paused (Busy f found))) alone none stops = tt
never_lost_alone k v w r (Err (Paused Due)) alone none stops = tt
never_lost_alone k v w r (Err (Paused (Flush u stamp found))) alone none stops = tt
never_lost_alone k v w r (Err (Paused (Alive u found))) alone none stops = tt
