-- Calls behind one another, until one is not paused by the gate.
use Rattle.std.proofs.Common.{◌≡◌, ℕ, ◌≤◌, Bool, true, List, [], ◌∷◌, Option, Some, None, Result, Ok, Err, refl, sym, ap, ◌∙◌, subst, arith}
use Rattle.xp_words.specs.Machine.{IsMachine, Machine}
use Rattle.xp_words.specs.RefWords.{ref_read}
use Rattle.xp_words.specs.declared.refs.RefWord.{RefWord}
use Rattle.xp_words.specs.declared.refs.RefWord.TheVariants.{Dying, Free, Owned}
use Rattle.xp_words.specs.declared.reply.Pause.TheVariants.{Due}
use Rattle.xp_words.specs.declared.reply.Refusal.{Refusal}
use Rattle.xp_words.specs.declared.reply.Refusal.TheVariants as refusals
use Rattle.xp_words.specs.declared.reply.Stop.{Stop}
use Rattle.xp_words.specs.declared.reply.Stop.TheVariants.{Refused, Paused}
use Rattle.xp_board.specs.Lawful.{Lawful}
use Rattle.xp_board.specs.Readings.{count_in, ref_count}
use Rattle.xp_board.specs.Told.{Post, PortValue, is_telling, told_word}
use Rattle.step_maker.proofs.Coming.{came_post, met_after, met_before}
use Rattle.step_maker.specs.Answers.{Stops}
use Rattle.step_maker.specs.Licences.{IsFull}
use Rattle.partial_state.specs.Levels.{level_type}
use Rattle.table_law.specs.Alone.{PlainOutcome, alone}
use Rattle.table_law.specs.Lawful.{IsAtRest}
use Rattle.table_law.specs.Plain.{plain_of}
use Rattle.table_twins.proofs.Kinding.{described_alike}
use Rattle.table_entries.specs.Acquiring.{Acquired}
use Rattle.course_laws.specs.Courses.{FindsAlive, IsDecided, IsHad, IsOrderly}
use Rattle.course_laws.proofs.Deciding.{LastOutcome, last_lawful, one_call}
use Rattle.course_laws.proofs.Stopping.{StopsIn, acquired_stops}
use Rattle.pause_laws.specs.Calls.{Calls, StaysFrom, HasRoom, Repeats, again, last, more, once}
use Rattle.course_laws.proofs.Beginning.{first_call}
use Rattle.course_laws.proofs.Calling.{CallOutcome, IsDone, RefusedCall, at_once, in_work, resumed_call}
use Rattle.course_laws.proofs.Extras.{extra, lent}
use Rattle.course_laws.proofs.Under.{spelled_same}
use Rattle.course_laws.proofs.Unwinding.{part, ParkedAt, parked_over}

-- ---- a call that finds room is not refused for a count at its limit
pub full_word : (owner limit w : ℕ) (r : Option RefWord) → ref_read w ≡ r → IsFull owner limit r → limit ≤ ref_count w
unfolding ref_count
full_word owner limit w (Some (Owned o a c)) is full = let count : count_in (ref_read w) ≡ c = ap count_in is in let low = full.1 in omega arith
full_word owner limit w (Some (Free stamp)) is full = absurd full
full_word owner limit w (Some (Dying o)) is full = absurd full
full_word owner limit w None is full = absurd full

never_full : (v w : PortValue) (g x : ℕ) → HasRoom v w → StopsIn v w (Refused (refusals.CountFull g x)) → ⊥
unfolding Stops
never_full v w g x room s =
    let why = s.stops in
    let at = why.4 in
    let low = room at.moment g (met_after v s.from w at.moment s.before (met_before s.from s.to w at.moment at.was s.after)) at.place in
    let same : s.from.post.machine ≡ v.post.machine = ap (λ (p : Post). p.machine) (came_post v s.from s.before) in
    let limit : s.from.post.machine.limit ≡ v.post.machine.limit = ap (λ (n : Machine). n.limit) same in
    let full = full_word why.0 s.from.post.machine.limit x (ref_read x) refl why.5 in
    let found : ref_count at.moment.found ≡ ref_count x = ap ref_count at.word in
    omega arith

-- ---- from parked words
module _ (n : Machine) (owner f level : ℕ) (a : PlainOutcome) (is : IsMachine n) where
  resumed_from : (v w : PortValue) (answers : List Bool) (answer : Result ℕ Stop) → ParkedAt n owner v f level a → Acquired v f owner level w answers answer → CallOutcome n owner v w f level (part a) answer
  resumed_from v w answers answer g acquired =
      let h = g.parked in
      let t = h.table in
      let there : ParkedAt n owner v t.frame t.level a =
      record {
        machine = g.machine;
        telling = g.telling;
        parked = record { table = t; inner = h.inner; plain = h.plain; frame = refl; level_is = refl; own = h.own; under_way = h.under_way; under = h.under; describes = h.describes; spelled = h.spelled; settled = h.settled };
      } in
      let call = subst (λ l. Acquired v t.frame owner l w answers answer) (sym h.level_is) (subst (λ i. Acquired v i owner level w answers answer) (sym h.frame) acquired) in
      subst (λ l. CallOutcome n owner v w f l (part a) answer) h.level_is (subst (λ i. CallOutcome n owner v w i t.level (part a) answer) h.frame (resumed_call n owner a is v t there refl w answers answer call))

  -- the words between two calls
  pub goes_on : (u x : PortValue) → StaysFrom u x → ParkedAt n owner u f level a → ParkedAt n owner x f level a
  goes_on u x on g =
      let h = g.parked in
      let q = parked_over true h.table h.inner h.plain in
      let alike = on.words in
      record {
        machine = on.machine ∙ g.machine;
        telling = on.telling;
        parked = record {
          table = h.table;
          inner = h.inner;
          plain = h.plain;
          frame = h.frame;
          level_is = h.level_is;
          own = h.own;
          under_way = h.under_way;
          under = h.under;
          describes = described_alike n (told_word x) (told_word u) (lent (extra (h.table ∷ [])) q) alike h.describes;
          spelled = spelled_same n (told_word u) (told_word x) q q (λ i inside. h.describes.kinds i inside) h.spelled alike (λ i. refl);
          settled = h.settled;
        };
      }

  -- a call that resumes is not refused at once
  any_call : (v w x : PortValue) (y : Refusal) → RefusedCall n owner v w f level y (part a) → RefusedCall n owner x w f level y (record { outcome = a; whole = true })
  any_call v w x y (at_once whole r) = absurd cc
  any_call v w x y (in_work u us r out left) = in_work u us r out left

  last_by : (v w x : PortValue) (answers : List Bool) (answer : Result ℕ Stop) → Acquired v f owner level w answers answer → HasRoom v w → CallOutcome n owner v w f level (part a) answer → LastOutcome n owner x w f level a answer
  last_by v w x answers (Ok g) acquired room o = o
  last_by v w x answers (Err (Paused y)) acquired room o = tt
  last_by v w x answers (Err (Refused (refusals.Clock y))) acquired room o = λ decided. absurd decided
  last_by v w x answers (Err (Refused (refusals.CountFull g y))) acquired room o = λ decided. absurd (never_full v w g y room (acquired_stops v f owner level w answers (Err (Refused (refusals.CountFull g y))) acquired (λ e. absurd cc)))
  last_by v w x answers (Err (Refused _)) acquired room o = λ decided. any_call v w x _ (o tt)

  pub resumed : (v w x : PortValue) (answer : Result ℕ Stop) → ParkedAt n owner v f level a → Repeats f owner level v w answer → LastOutcome n owner x w f level a answer
  resumed _ _ z _ g (last v w answers answer acquired room) = last_by v w z answers answer acquired room (resumed_from v w answers answer g acquired)
  resumed _ _ z _ g (again v u x w answers answer acquired finds on rest) = resumed x w z answer (goes_on u x on (resumed_from v u answers (Err (Paused Due)) g acquired finds)) rest

-- ---- from words at rest
module _ (v : PortValue) (f owner level : ℕ) (machine : IsMachine v.post.machine) (telling : is_telling v ≡ true) (calm : IsAtRest v.post.machine (told_word v)) (orderly : IsOrderly v.post.machine (told_word v)) (low : 1 ≤ level) (high : level ≤ 4) where
  abbrev a : PlainOutcome
  a = alone v.post.machine owner level f (plain_of (told_word v))

  behind : (u x w : PortValue) (answers : List Bool) (answer : Result ℕ Stop) → Acquired v f owner level u answers (Err (Paused Due)) → FindsAlive v u owner → StaysFrom u x → Repeats f owner level x w answer → LastOutcome v.post.machine owner v w f level a answer
  behind u x w answers answer acquired finds on rest =
      resumed v.post.machine owner f level a machine x w v answer (goes_on v.post.machine owner f level a machine u x on (first_call v f owner level machine telling calm orderly low high u answers (Err (Paused Due)) acquired finds)) rest

  done_by : (w : PortValue) (answer : Result ℕ Stop) → IsHad answer → LastOutcome v.post.machine owner v w f level a answer → IsDone v.post.machine w a
  done_by w (Ok g) had o = o
  done_by w (Err e) had o = absurd had

-- ---- any such list of calls
pub all_last : (v : PortValue) (f owner level : ℕ) (w : PortValue) (answer : Result ℕ Stop) → IsMachine v.post.machine → is_telling v ≡ true → IsAtRest v.post.machine (told_word v) → IsOrderly v.post.machine (told_word v) → 1 ≤ level → level ≤ 4 →
    Calls f owner level v w answer → LastOutcome v.post.machine owner v w f level (alone v.post.machine owner level f (plain_of (told_word v))) answer
all_last _ f owner level _ _ machine telling calm orderly low high (once v w answers answer acquired) = one_call v f owner level machine telling calm orderly low high w answers answer acquired
all_last _ f owner level _ _ machine telling calm orderly low high (more v u x w answers answer acquired finds on rest) = behind v f owner level machine telling calm orderly low high u x w answers answer acquired finds on rest

pub all_lawful : (v : PortValue) (f owner level : ℕ) (w : PortValue) (answer : Result ℕ Stop) → IsMachine v.post.machine → is_telling v ≡ true → IsAtRest v.post.machine (told_word v) → IsOrderly v.post.machine (told_word v) → 1 ≤ level → level ≤ 4 →
    Calls f owner level v w answer → IsDecided answer → (Lawful v.post.machine owner (told_word v) f (level_type level) → IsHad answer) × (IsHad answer → Lawful v.post.machine owner (told_word v) f (level_type level))
all_lawful v f owner level w answer machine telling calm orderly low high calls decided =
    last_lawful v f owner level machine telling calm orderly low high v w answer decided (all_last v f owner level w answer machine telling calm orderly low high calls)

pub all_done : (v : PortValue) (f owner level : ℕ) (w : PortValue) (answer : Result ℕ Stop) → IsMachine v.post.machine → is_telling v ≡ true → IsAtRest v.post.machine (told_word v) → IsOrderly v.post.machine (told_word v) → 1 ≤ level → level ≤ 4 →
    Calls f owner level v w answer → IsHad answer → IsDone v.post.machine w (alone v.post.machine owner level f (plain_of (told_word v)))
all_done v f owner level w answer machine telling calm orderly low high calls had =
    done_by v f owner level machine telling calm orderly low high w answer had (all_last v f owner level w answer machine telling calm orderly low high calls)
