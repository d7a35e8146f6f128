-- Where the vCPU is alone: its words are orderly, and its acquisitions pause only for the gate, and for flushes of other vCPUs.
use Rattle.std.proofs.Common.{◌≡◌, ◌⊎◌, ℕ, false, length, Option, Some, None, Result, Ok, Err, IsTrue, refl, sym, ◌∙◌, subst, inl, inr, arith}
use Rattle.xp_words.specs.KindWords.{is_kind, kind_fields, kind_read}
use Rattle.xp_words.specs.Machine.{Machine}
use Rattle.xp_words.specs.Places.{sizes_of}
use Rattle.xp_words.specs.declared.kind.KindWord.{KindWord}
use Rattle.xp_words.specs.declared.place.Place.{Place}
use Rattle.xp_words.specs.declared.place.Place.TheVariants.{Kind}
use Rattle.xp_words.specs.declared.reply.Pause.{Pause}
use Rattle.xp_words.specs.declared.reply.Pause.TheVariants as pauses
use Rattle.xp_words.specs.declared.reply.Refusal.{Refusal}
use Rattle.xp_words.specs.declared.reply.Refusal.TheVariants as refusals
use Rattle.xp_words.specs.declared.reply.Stop.{Stop}
use Rattle.xp_words.specs.declared.reply.Stop.TheVariants.{Refused, Paused}
use Rattle.xp_board.specs.declared.holdings.Holdings.{Holdings}
use Rattle.xp_board.specs.Readings.{kind_at}
use Rattle.xp_board.specs.Sound.{Sound}
use Rattle.xp_board.specs.Spelling.{IsSpelling, is_kind_in}
use Rattle.xp_board.specs.Told.{Post, PortValue, Story, told_word, word_in}
use Rattle.xp_board.proofs.Counted.{type_below}
use Rattle.xp_board.proofs.KindForms.{fields_of}
use Rattle.xp_board.proofs.KindReadings.{live_count}
use Rattle.step_maker.specs.Moves.{Came}
use Rattle.step_maker.proofs.Coming.{came_post, met_after, met_before}
use Rattle.step_maker.specs.Answers.{Stops}
use Rattle.step_maker.specs.Asked.{Request}
use Rattle.answer_laws.specs.Alone.{IsAlone, IsDueOrFlush}
use Rattle.kind_words.proofs.KindFacts.{read_is}
use Rattle.kind_words.proofs.RowSteps.{kind_there}
use Rattle.course_laws.specs.Courses.{ClockGoesOn, IsAwaiting, IsDecided, IsFinal, IsOrderly}
use Rattle.course_laws.proofs.Stopping.{StopsAs, StopsIn}

-- ---- sound words are orderly
spelled_by : (n : Machine) (w : ℕ) (o : Option KindWord) → kind_read w ≡ o → IsTrue (is_kind_in n o) → IsTrue (is_kind (kind_fields w))
spelled_by n w (Some k) read is = subst (λ j. IsTrue (is_kind j)) (sym (fields_of w k read)) (read_is w k read).0
spelled_by n w None read is = absurd cc

orderly_sound : (n : Machine) (m : Place → ℕ) (h : ℕ → Holdings) → Sound n m h → IsOrderly n m
unfolding IsSpelling
orderly_sound n m h sound =
    record {
      spelled = λ g inside. spelled_by n (m (Kind g)) (kind_read (m (Kind g))) refl (sound.spelled.spelled (Kind g) (kind_there (sizes_of n) g inside));
      counted = λ g inside live. let most = type_below (sizes_of n) m h g sound.counts in let same = live_count (kind_at m g) live in omega arith;
    }

pub alone_orderly : (v : PortValue) → IsAlone v → IsOrderly v.post.machine (told_word v)
alone_orderly v alone = subst (λ (o : Option Story). IsOrderly v.post.machine (word_in v.post.machine o)) (sym alone.telling) (orderly_sound v.post.machine _ _ alone.state.sound)

-- ---- pauses
abbrev pub AloneStays : Type 0
AloneStays = (v w : PortValue) → IsAlone v → Came v w → IsAlone w

abbrev pub NeitherLostNorBusy : Type 0
NeitherLostNorBusy = (v w : PortValue) (r : Request) (x : Pause) → IsAlone v → r.destroys ≡ None → Stops v w r (Paused x) → IsDueOrFlush x

abbrev pub NobodyWaitedFor : Type 0
NobodyWaitedFor = (v w : PortValue) (r : Request) (u stamp x : ℕ) → length v.post.machine.vcpu_domain ≡ 1 → Stops v w r (Paused (pauses.Flush u stamp x)) → ⊥

pub clock_by : (v w from to : PortValue) (r : Request) (x : ℕ) → ClockGoesOn v w → Came v from → Came to w → Stops from to r (Refused (refusals.Clock x)) → ⊥
unfolding Stops
clock_by v w from to r x goes before after stops =
    let at = stops.1.1 in
    goes at.moment (met_after v from w at.moment before (met_before from to w at.moment at.was after)) at.place (at.word ∙ stops.0)

pub rose_by : (from to : PortValue) (r : Request) → r.rose ≡ false → Stops from to r (Paused pauses.Due) → ⊥
unfolding Stops
rose_by from to r calm stops = let rose = stops.0 in cc

module _ (stays : AloneStays) (neither : NeitherLostNorBusy) (v w : PortValue) (alone : IsAlone v) (goes : ClockGoesOn v w) where
  refused_for : (x : Refusal) → StopsIn v w (Refused x) → IsFinal (Refused x)
  refused_for (refusals.Clock y) s = clock_by v w s.from s.to s.request y goes s.before s.after s.stops
  refused_for _ s = tt

  paused_by : (x : Pause) → StopsIn v w (Paused x) → IsDueOrFlush x → IsAwaiting (Err (Paused x))
  paused_by pauses.Due s due = rose_by s.from s.to s.request s.calm s.stops
  paused_by (pauses.Flush u stamp found) s due = tt
  paused_by (pauses.Lost place expected found) s due = due
  paused_by (pauses.Busy f found) s due = due
  paused_by (pauses.Alive u found) s due = due

  stopped_for : (e : Stop) → StopsIn v w e → IsDecided (Err e) ⊎ IsAwaiting (Err e)
  stopped_for (Refused x) s = inl (refused_for x s)
  stopped_for (Paused x) s = inr (paused_by x s (neither s.from s.to s.request x (stays v s.from alone s.before) s.spares s.stops))

  pub answered : (answer : Result ℕ Stop) → StopsAs v w answer → IsDecided answer ⊎ IsAwaiting answer
  answered (Ok f) s = inl tt
  answered (Err e) s = stopped_for e s

  -- where it is the only one, it waits for none
  module _ (nobody : NobodyWaitedFor) (one : length v.post.machine.vcpu_domain ≡ 1) where
    awaits_none : (answer : Result ℕ Stop) → StopsAs v w answer → IsAwaiting answer → ⊥
    awaits_none (Err (Paused (pauses.Flush u stamp found))) s awaits =
        nobody s.from s.to s.request u stamp found (subst (λ (q : Post). length q.machine.vcpu_domain ≡ 1) (sym (came_post v s.from s.before)) one) s.stops
    awaits_none (Ok f) s awaits = awaits
    awaits_none (Err (Refused x)) s awaits = awaits
    awaits_none (Err (Paused pauses.Due)) s awaits = awaits
    awaits_none (Err (Paused (pauses.Lost place expected found))) s awaits = awaits
    awaits_none (Err (Paused (pauses.Busy f found))) s awaits = awaits
    awaits_none (Err (Paused (pauses.Alive u found))) s awaits = awaits

    pub decided : (answer : Result ℕ Stop) → StopsAs v w answer → IsDecided answer
    decided answer s = elim (answered answer s) [ inl is ↦ is | inr awaits ↦ absurd (awaits_none answer s awaits) ]
