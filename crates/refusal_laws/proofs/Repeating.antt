-- Calls behind one another, from words at rest that any plain value describes.
use Rattle.std.proofs.Common.{◌≡◌, ℕ, ◌≤◌, Bool, true, List, [], ◌∷◌, Result, Err, refl, sym, ◌∙◌, subst}
use Rattle.xp_words.specs.Machine.{IsMachine, Machine}
use Rattle.xp_words.specs.declared.reply.Pause.TheVariants.{Due}
use Rattle.xp_words.specs.declared.reply.Stop.{Stop}
use Rattle.xp_words.specs.declared.reply.Stop.TheVariants.{Paused}
use Rattle.xp_board.specs.Told.{PortValue, is_telling, told_word}
use Rattle.table_law.specs.Alone.{PlainOutcome, alone}
use Rattle.table_law.specs.Lawful.{IsAtRest}
use Rattle.table_law.specs.Plain.{Describes, Plain}
use Rattle.table_twins.proofs.Kinding.{described_alike}
use Rattle.table_entries.specs.Acquiring.{Acquired}
use Rattle.course_laws.specs.Courses.{FindsAlive, IsOrderly}
use Rattle.course_laws.proofs.Calling.{CallOutcome, resumed_call}
use Rattle.course_laws.proofs.Deciding.{LastOutcome, first_last}
use Rattle.course_laws.proofs.Extras.{extra, lent}
use Rattle.course_laws.proofs.Under.{spelled_same}
use Rattle.course_laws.proofs.Unwinding.{part, ParkedAt, parked_over}
use Rattle.pause_laws.specs.Calls.{Calls, HasRoom, Repeats, StaysFrom, again, last, more, once}
use Rattle.pause_laws.proofs.Repeating.{resumed}
use Rattle.refusal_laws.specs.Repeated as repeated
use Rattle.refusal_laws.specs.Repeated.{IsDeadFrame, PausedCalls}
use Rattle.refusal_laws.proofs.Described.{first_call, paused_dead}

-- ---- from parked words
module _ (n : Machine) (owner f level : ℕ) (a : PlainOutcome) (is : IsMachine n) where
  pub resumed_from : (v w : PortValue) (answers : List Bool) (answer : Result ℕ Stop) → ParkedAt n owner v f level a → Acquired v f owner level w answers answer → CallOutcome n owner v w f level (part a) answer
  resumed_from v w answers answer g acquired =
      let h = g.parked in
      let t = h.table in
      let there : ParkedAt n owner v t.frame t.level a =
      record {
        machine = g.machine;
        telling = g.telling;
        parked = record { table = t; inner = h.inner; plain = h.plain; frame = refl; level_is = refl; own = h.own; under_way = h.under_way; under = h.under; describes = h.describes; spelled = h.spelled; settled = h.settled };
      } in
      let call = subst (λ l. Acquired v t.frame owner l w answers answer) (sym h.level_is) (subst (λ i. Acquired v i owner level w answers answer) (sym h.frame) acquired) in
      subst (λ l. CallOutcome n owner v w f l (part a) answer) h.level_is (subst (λ i. CallOutcome n owner v w i t.level (part a) answer) h.frame (resumed_call n owner a is v t there refl w answers answer call))

  -- the words between two calls
  pub goes_on : (u x : PortValue) → StaysFrom u x → ParkedAt n owner u f level a → ParkedAt n owner x f level a
  goes_on u x on g =
      let h = g.parked in
      let q = parked_over true h.table h.inner h.plain in
      let alike = on.words in
      record {
        machine = on.machine ∙ g.machine;
        telling = on.telling;
        parked = record {
          table = h.table;
          inner = h.inner;
          plain = h.plain;
          frame = h.frame;
          level_is = h.level_is;
          own = h.own;
          under_way = h.under_way;
          under = h.under;
          describes = described_alike n (told_word x) (told_word u) (lent (extra (h.table ∷ [])) q) alike h.describes;
          spelled = spelled_same n (told_word u) (told_word x) q q (λ i inside. h.describes.kinds i inside) h.spelled alike (λ i. refl);
          settled = h.settled;
        };
      }

-- ---- one more call
pub more_paused : (f owner level : ℕ) (v u w : PortValue) (answer : Result ℕ Stop) → PausedCalls f owner level v u → Repeats f owner level u w answer → Calls f owner level v w answer
more_paused f owner level v _ w answer (repeated.first y u answers telling acquired finds on) rest = more v y u w answers answer acquired finds on.stays rest
more_paused f owner level v _ w answer (repeated.again x y u answers before acquired finds on) rest = more_paused f owner level v x w answer before (again x y u w answers answer acquired finds on.stays rest)

pub one_more : (f owner level : ℕ) (v u w : PortValue) (answers : List Bool) (answer : Result ℕ Stop) → PausedCalls f owner level v u → Acquired u f owner level w answers answer → HasRoom u w → Calls f owner level v w answer
one_more f owner level v u w answers answer before acquired room = more_paused f owner level v u w answer before (last u w answers answer acquired room)

pub all_told : (f owner level : ℕ) (v u : PortValue) → PausedCalls f owner level v u → is_telling v ≡ true
all_told f owner level v _ (repeated.first y u answers telling acquired finds on) = telling
all_told f owner level v _ (repeated.again x y u answers before acquired finds on) = all_told f owner level v x before

-- ---- from words at rest
module _ (v : PortValue) (f owner level : ℕ) (machine : IsMachine v.post.machine) (telling : is_telling v ≡ true) (calm : IsAtRest v.post.machine (told_word v)) (orderly : IsOrderly v.post.machine (told_word v)) (low : 1 ≤ level) (high : level ≤ 4) (p : Plain) (d : Describes v.post.machine (told_word v) p) where
  abbrev a : PlainOutcome
  a = alone v.post.machine owner level f p

  parked_by : (u x : PortValue) (answers : List Bool) → Acquired v f owner level u answers (Err (Paused Due)) → FindsAlive v u owner → StaysFrom u x → ParkedAt v.post.machine owner x f level a
  parked_by u x answers acquired finds on = goes_on v.post.machine owner f level a machine u x on (first_call v f owner level machine telling calm orderly low high p d u answers (Err (Paused Due)) acquired finds)

  pub parked_calls : (u : PortValue) → PausedCalls f owner level v u → ParkedAt v.post.machine owner u f level a
  parked_calls _ (repeated.first y u answers told acquired finds on) = parked_by y u answers acquired finds on.stays
  parked_calls _ (repeated.again x y u answers before acquired finds on) =
      goes_on v.post.machine owner f level a machine y u on.stays (resumed_from v.post.machine owner f level a machine x y answers (Err (Paused Due)) (parked_calls x before) acquired finds)

  -- what the first of paused calls found
  pub first_dead : (u : PortValue) → PausedCalls f owner level v u → IsDeadFrame v.post.machine p f owner
  first_dead u (repeated.first y _ answers told acquired finds on) = paused_dead v f owner level machine telling calm orderly low high p d y answers acquired
  first_dead u (repeated.again x y _ answers before acquired finds on) = first_dead x before

  one_call : (w : PortValue) (answers : List Bool) (answer : Result ℕ Stop) → Acquired v f owner level w answers answer → LastOutcome v.post.machine owner v w f level a answer
  one_call w answers answer acquired = first_last v.post.machine owner v w f level a answer (first_call v f owner level machine telling calm orderly low high p d w answers answer acquired)

  more_calls : (u x w : PortValue) (answers : List Bool) (answer : Result ℕ Stop) → Acquired v f owner level u answers (Err (Paused Due)) → FindsAlive v u owner → StaysFrom u x → Repeats f owner level x w answer → LastOutcome v.post.machine owner v w f level a answer
  more_calls u x w answers answer acquired finds on rest = resumed v.post.machine owner f level a machine x w v answer (parked_by u x answers acquired finds on) rest

pub all_last : (v : PortValue) (f owner level : ℕ) (w : PortValue) (p : Plain) (answer : Result ℕ Stop) → IsMachine v.post.machine → is_telling v ≡ true → IsAtRest v.post.machine (told_word v) → IsOrderly v.post.machine (told_word v) → 1 ≤ level → level ≤ 4 →
    Describes v.post.machine (told_word v) p → Calls f owner level v w answer → LastOutcome v.post.machine owner v w f level (alone v.post.machine owner level f p) answer
all_last _ f owner level _ p _ machine telling calm orderly low high d (once v w answers answer acquired) = one_call v f owner level machine telling calm orderly low high p d w answers answer acquired
all_last _ f owner level _ p _ machine telling calm orderly low high d (more v u x w answers answer acquired finds on rest) = more_calls v f owner level machine telling calm orderly low high p d u x w answers answer acquired finds on rest
