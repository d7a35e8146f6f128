-- A table is locked, from a port at which nothing is left: what the words are then.
use Rattle.solo_entries.specs.Exchanges.{HasTwoTypeCounts}
use Rattle.std.proofs.Common.{◌≡◌, ◌≢◌, ◌<◌, ◌≤◌, ℕ, ◌+◌, ◌-◌, ◌^◌, ◌==◌, ◌&&◌, not, nat_lt, if◌then◌else◌, Bool, true, false, Option, Some, None, Ok, IsTrue, refl, sym, ap, ◌∙◌, subst, arith, inl, inr, ◌⊎◌}
use Rattle.std.proofs.lemmas.Bool.{and_parts, cases_eq}
use Rattle.std.proofs.lemmas.Bool.Decides.{nat_tests}
use Rattle.xp_words.specs.KindWords.{is_kind, kind_fields, kind_write}
use Rattle.xp_words.specs.Machine.{IsMachine, Machine}
use Rattle.xp_words.specs.PageTypes.{is_table}
use Rattle.xp_words.specs.declared.kind.KindWord.{KindWord}
use Rattle.xp_words.specs.declared.place.Place.TheVariants.{Kind, Refs}
use Rattle.xp_board.specs.KindSteps.{locked_kind}
use Rattle.xp_board.specs.Readings.{is_dead, kind_at, ref_count}
use Rattle.xp_board.specs.Told.{PortValue, is_telling, told_word}
use Rattle.step_maker.specs.Moves.{Came}
use Rattle.step_maker.specs.Plain.{Leaves, Words}
use Rattle.step_maker.proofs.Alikes.{same_alike}
use Rattle.step_maker.proofs.Coming.{came_trans, moves_came}
use Rattle.step_maker.proofs.Telling.{came_telling, told_there, told_elsewhere}
use Rattle.step_maker.proofs.Visiting.{does_came}
use Rattle.answer_laws.specs.Alone.{IsAlone}
use Rattle.answer_laws.proofs.Shared.{alone_telling}
use Rattle.entry_locks.specs.Locks.{is_lockable, Unlocks}
use Rattle.entry_locks.specs.Plain.{with_lock}
use Rattle.entry_locks.specs.declared.locking.Locked.TheVariants.{Table}
use Rattle.entry_locks.proofs.LockWriting.{locked_is}
use Rattle.frame_types.specs.Plain.{set_kind}
use Rattle.frame_words.specs.Plain.{got, refer}
use Rattle.kind_words.proofs.KindWriting.{fields_write}
use Rattle.mmu_update.specs.Course.{TriedLock}
use Rattle.partial_state.specs.Levels.{level_type}
use Rattle.table_entries.specs.Acquiring.{GotRef}
use Rattle.table_entries.proofs.Shared.{ref_came}
use Rattle.table_law.specs.Alone.{PlainOutcome, take_reference}
use Rattle.table_law.specs.Lawful.{IsAtRest, share_count, IsRested}
use Rattle.table_law.specs.Plain.{Describes, Plain, Share, raised_share, share_of, sober, with_share, with_kind, share_in, fewer}
use Rattle.table_law.proofs.Counting.{at_here, at_there}
use Rattle.table_law.proofs.Describing.{owns_word, sober_live, sober_dead}
use Rattle.table_twins.proofs.Kinding.{described_alike, kinded}
use Rattle.table_twins.proofs.Referring.{same_taken}
use Rattle.table_twins.proofs.Typing.{live_sober}
use Rattle.course_laws.specs.Courses.{IsOrderly}
use Rattle.course_laws.proofs.Awaiting.{alone_orderly}
use Rattle.course_laws.proofs.Lending.{Lent, lent_there}
use Rattle.script_law.specs.Frames.{under_lock}
use Rattle.solo_entries.proofs.Holding.{less, off}
use Rattle.solo_entries.proofs.Known.{Known}
use Rattle.solo_entries.proofs.Memory.{sober_lockable}
use Rattle.solo_entries.proofs.Standing.{is_counting, put_same}
use Rattle.xp_words.specs.declared.refs.RefWord.{RefWord}
use Rattle.xp_words.specs.declared.refs.RefWord.TheVariants.{Dying, Free, Owned}
use Rattle.xp_board.specs.Readings.{count_in}
use Rattle.xp_words.specs.RefWords.{ref_read}
use Rattle.table_law.proofs.OnWords.{rested_plain}
use Rattle.table_law.specs.Exchange.{unlocked_plain}
use Rattle.entry_exchange.specs.Course as course
use Rattle.entry_exchange.specs.Course.{LeftLock}
use Rattle.course_laws.proofs.Extras.{IsSame}
use Rattle.xp_board.proofs.KindForms.{frame_inside}
use Rattle.xp_words.specs.declared.place.Place.{Place}
use Rattle.kind_words.specs.Kinds.{partial_kind}
use Rattle.exchange_laws.proofs.Unlocking.{lock_off}

-- ---- words of which a plain value is at rest
none_counts : (w : ℕ) (r : Option RefWord) → ref_read w ≡ r → share_in r ≡ None → ref_count w ≡ 0
unfolding ref_count
none_counts w (Some (Owned o a c)) e none = absurd cc
none_counts w (Some (Free stamp)) e none = ap count_in e
none_counts w (Some (Dying o)) e none = ap count_in e
none_counts w None e none = ap count_in e

share_counts : (w : ℕ) (o : Option Share) → share_of w ≡ o → ref_count w ≡ share_count o
share_counts w None is = none_counts w (ref_read w) refl is
share_counts w (Some s) is = (owns_word w s is).count

pub at_rest_by : (n : Machine) (l : Words) (q : Plain) → Describes n l q → IsRested n q → IsAtRest n l
at_rest_by n l q d rested =
    record {
      formed = λ g inside off. sym (sober_live (kind_at l g)) ∙ (sym (ap (λ (j : KindWord). j.validated) (d.kinds g inside)) ∙ rested.formed g inside (ap is_dead (d.kinds g inside) ∙ (sober_dead (kind_at l g) ∙ off)));
      counted = λ g inside on.
          let same : q.kinds g ≡ kind_at l g = d.kinds g inside ∙ live_sober (kind_at l g) on in
          subst (λ (j : KindWord). 0 < j.number) same (rested.counted g inside (ap (λ (j : KindWord). j.validated) same ∙ on));
      room = λ g inside. subst (λ c. c ≤ n.limit) (sym (share_counts (l (Refs g)) (share_of (l (Refs g))) refl ∙ ap share_count (sym (d.shares g inside)))) (rested.room g inside);
    }

-- from a port that is alone, whose words are at rest, and which p describes
module _ (k : Known) (v u y : PortValue) (p : Plain) (owner f level found : ℕ) (machine : IsMachine v.post.machine) (alone : IsAlone v) (calm : IsAtRest v.post.machine (told_word v)) (d : Describes v.post.machine (told_word v) p)
    (ref : GotRef v u f owner (Ok f)) (lock : TriedLock u y f owner (Ok (Table level found))) where
  abbrev n : Machine
  n = v.post.machine

  abbrev m : Words
  m = told_word v

  telling : is_telling v ≡ true
  telling = alone_telling v alone

  orderly : IsOrderly n m
  orderly = alone_orderly v alone

  none : refer n owner f (m (Refs f)) ≡ None
  none = (ref.plain telling).0

  came_u : Came v u
  came_u = ref_came v u f owner (Ok f) ref

  telling_u : is_telling u ≡ true
  telling_u = came_telling v u came_u ∙ telling

  pub came_y : Came v y
  came_y = came_trans v u y came_u (does_came u y _ lock.found)

  -- ---- the plain value
  pub lends : Lent v.post.machine f p (take_reference v.post.machine owner f p)
  lends = lent_there n m p owner f machine d none

  abbrev pub more : Plain
  more = with_share f (raised_share lends.share) p

  abbrev pub locked : Plain
  locked = under_lock f more

  kind_u : told_word u (Kind f) ≡ m (Kind f)
  kind_u = (ref.plain telling).1 (Kind f)

  at_u : Describes n (told_word u) more
  at_u =
      subst (λ (o : PlainOutcome). Describes n (told_word u) o.left) lends.is
      (described_alike n (told_word u) (got f m) (take_reference n owner f p).left (same_alike (told_word u) (got f m) (ref.plain telling).1) (same_taken n m p owner f d machine none))

  -- ---- the kind word
  abbrev word : KindWord
  word = kind_at (told_word v) f

  lockable : IsTrue (is_lockable word)
  lockable = subst (λ z. IsTrue (is_lockable (kind_fields z))) ((lock.plain telling_u).0 ∙ kind_u) (lock.plain telling_u).1

  live : word.validated ≡ true
  live = (and_parts (is_table word.kind) word.validated (and_parts (is_table word.kind && word.validated) (not word.locked && nat_lt 0 word.number) lockable).0).1

  table : IsTrue (is_table word.kind)
  table = (and_parts (is_table word.kind) word.validated (and_parts (is_table word.kind && word.validated) (not word.locked && nat_lt 0 word.number) lockable).0).0

  unlocked : word.locked ≡ false
  unlocked = let a = (and_parts (not word.locked) (nat_lt 0 word.number) (and_parts (is_table word.kind && word.validated) (not word.locked && nat_lt 0 word.number) lockable).1).0 in grind (arith, nat_tests)

  some : 0 < word.number
  some = let a = (and_parts (not word.locked) (nat_lt 0 word.number) (and_parts (is_table word.kind && word.validated) (not word.locked && nat_lt 0 word.number) lockable).1).1 in grind (arith, nat_tests)

  pub there : p.kinds f ≡ kind_at (told_word v) f
  there = d.kinds f lends.inside ∙ live_sober word live

  pub can_lock : is_lockable (p.kinds f) ≡ true
  can_lock = ap is_lockable (d.kinds f lends.inside) ∙ (sober_lockable word ∙ lockable)

  pub kind_is : (p.kinds f).kind ≡ level_type level
  kind_is = ap (λ (j : KindWord). j.kind) there ∙ (sym (ap (λ z. (kind_fields z).kind) ((lock.plain telling_u).0 ∙ kind_u)) ∙ (lock.plain telling_u).2)

  few : word.number + 1 < 2 ^ 26
  few =
      let most = orderly.counted f lends.inside live in
      let room = lends.room in
      let count = (owns_word (m (Refs f)) lends.share (sym (d.shares f lends.inside) ∙ lends.was)).count in
      let limit = machine.few_counts in
      omega (arith, most, room, count, limit)

  spelled : IsTrue (is_kind (locked_kind word))
  spelled = locked_is word (orderly.spelled f lends.inside) live table some few

  sobered : locked_kind word ≡ sober (kind_fields (kind_write (locked_kind word)))
  sobered = sym (ap sober (fields_write (locked_kind word) spelled) ∙ live_sober (locked_kind word) live)

  words_y : Leaves y (with_lock f (told_word u))
  words_y = (lock.plain telling_u).3

  with_word : Describes n (set_kind f (locked_kind (kind_fields (told_word u (Kind f)))) (told_word u)) (with_kind f (locked_kind word) more)
  with_word =
      subst (λ z. Describes n (set_kind f (locked_kind (kind_fields z)) (told_word u)) (with_kind f (locked_kind word) more)) (sym kind_u)
      (kinded n (told_word u) more f (locked_kind word) (locked_kind word) at_u sobered)

  pub at_y : Describes v.post.machine (told_word y) locked
  at_y =
      subst (λ j. Describes n (told_word y) (with_kind f (locked_kind j) more)) (sym there)
      (described_alike n (told_word y) (with_lock f (told_word u)) (with_kind f (locked_kind word) more) (same_alike (told_word y) (with_lock f (told_word u)) words_y) with_word)

  kind_here : locked.kinds f ≡ locked_kind (p.kinds f)
  kind_here = at_here f (locked_kind (p.kinds f)) p.kinds

  some_there : 0 < (p.kinds f).number
  some_there = let s = some in let c = ap (λ (j : KindWord). j.number) there in omega (arith, s, c)

  pub held_y : HasTwoTypeCounts f locked
  held_y =
      record {
        live = ap (λ (j : KindWord). j.validated) kind_here ∙ (ap (λ (j : KindWord). j.validated) there ∙ live);
        several = (let c = ap (λ (j : KindWord). j.number) kind_here in let s = some_there in omega (arith, s, c));
      }

  rested : IsRested n p
  rested = rested_plain n m p d calm

  pub rested_y : IsRested v.post.machine locked
  rested_y =
      record {
        formed = λ g inside off. formed_by g (cases_eq g f) inside off;
        counted = λ g inside on. counted_by g (cases_eq g f) inside on;
        room = λ g inside. room_by g (cases_eq g f) inside;
      }
    where
      formed_by : (g : ℕ) → (g ≡ f) ⊎ (g ≢ f) → g < n.frames → is_dead (locked.kinds g) ≡ false → (locked.kinds g).validated ≡ true
      formed_by g (inl e) inside off = ap (λ h. (locked.kinds h).validated) e ∙ held_y.live
      formed_by g (inr apart) inside off =
          let same = at_there f g (locked_kind (p.kinds f)) p.kinds apart in
          ap (λ (j : KindWord). j.validated) same ∙ rested.formed g inside (sym (ap is_dead same) ∙ off)

      counted_by : (g : ℕ) → (g ≡ f) ⊎ (g ≢ f) → g < n.frames → (locked.kinds g).validated ≡ true → 0 < (locked.kinds g).number
      counted_by g (inl e) inside on = subst (λ h. 0 < (locked.kinds h).number) (sym e) (let s = held_y.several in omega (arith, s))
      counted_by g (inr apart) inside on =
          let same = at_there f g (locked_kind (p.kinds f)) p.kinds apart in
          subst (λ (j : KindWord). 0 < j.number) (sym same) (rested.counted g inside (sym (ap (λ (j : KindWord). j.validated) same) ∙ on))

      room_by : (g : ℕ) → (g ≡ f) ⊎ (g ≢ f) → g < n.frames → share_count (locked.shares g) ≤ n.limit
      room_by g (inl e) inside =
          let here : locked.shares g ≡ Some (raised_share lends.share) = ap locked.shares e ∙ at_here f (Some (raised_share lends.share)) p.shares in
          subst (λ o. share_count o ≤ n.limit) (sym here) (let r = lends.room in omega (arith, r))
      room_by g (inr apart) inside = subst (λ o. share_count o ≤ n.limit) (sym (at_there f g (Some (raised_share lends.share)) p.shares apart)) (rested.room g inside)

  pub calm_y : IsAtRest v.post.machine (told_word y)
  calm_y = at_rest_by n (told_word y) locked at_y rested_y

  -- ---- with the lock off again
  fewer_raised : (t : Share) → 0 < t.count → fewer (Some (raised_share t)) ≡ Some t
  fewer_raised t many =
      let other : (t.count + 1 == 1) ≡ false = grind (arith, nat_tests) in
      ap (λ b. if b then None else Some (record { owner = t.owner; allocated = t.allocated; count = t.count + 1 - 1 })) other
      ∙ ap (λ c. Some (record { owner = t.owner; allocated = t.allocated; count = c })) (let e : t.count + 1 - 1 ≡ t.count = omega arith in e)

  less_locked : less f (locked_kind (p.kinds f)) ≡ p.kinds f
  less_locked =
      let j = p.kinds f in
      let e : j.number + 1 - 1 ≡ j.number = omega arith in
      let l : false ≡ j.locked = sym (ap (λ (i : KindWord). i.locked) there ∙ unlocked) in
      ap (λ c. record j { number = c; locked = false }) e ∙ ap (λ b. record j { locked = b }) l

  shares_by : (b : Bool) (g : ℕ) → (g == f) ≡ b → p.shares g ≡ (if b then fewer (locked.shares f) else (if b then Some (raised_share lends.share) else p.shares g))
  shares_by true g is =
      let e : g ≡ f = grind (arith, nat_tests) in
      ap p.shares e ∙ lends.was ∙ sym (ap fewer (at_here f (Some (raised_share lends.share)) p.shares) ∙ fewer_raised lends.share (owns_word (m (Refs f)) lends.share (sym (d.shares f lends.inside) ∙ lends.was)).some)
  shares_by false g is = refl

  kinds_by : (b : Bool) (g : ℕ) → (g == f) ≡ b → p.kinds g ≡ (if b then less f (locked.kinds f) else (if b then locked_kind (p.kinds f) else p.kinds g))
  kinds_by true g is = let e : g ≡ f = grind (arith, nat_tests) in ap p.kinds e ∙ sym (ap (less f) kind_here ∙ less_locked)
  kinds_by false g is = refl

  pub off_again : IsSame (off f locked) p
  off_again = record { shares = λ g. shares_by (g == f) g refl; kinds = λ g. kinds_by (g == f) g refl; cells = λ g i. refl }

-- ---- a lock goes off
-- what that comes to, where the table has more than one type count
pub unlocked_off : (level f : ℕ) (q : Plain) → HasTwoTypeCounts f q → unlocked_plain level f q ≡ off f q
unlocked_off level f q held =
    let many = held.several in
    let other : ((q.kinds f).number == 1) ≡ false = grind (arith, nat_tests) in
    ap (λ b. if b then with_kind f (partial_kind (level_type level) false false 512 0) q else off f q) other

-- and its steps: they change the kind word of the table and its reference word
module _ (n : Machine) (z w : PortValue) (f level : ℕ) (q : Plain) (same : z.post.machine ≡ n) (telling : is_telling z ≡ true) (d : Describes n (told_word z) q) (held : HasTwoTypeCounts f q) where
  last_off : (u : PortValue) → Unlocks z u f true → ⊥
  last_off u a =
      let inside = frame_inside z.post.machine f a.unlocks.step.may.place in
      let here : f < n.frames = subst (λ (j : Machine). f < j.frames) same inside in
      let word = told_there z u _ _ _ _ _ a.unlocks.step telling in
      let is : q.kinds f ≡ kind_fields a.found = d.kinds f here ∙ (ap (λ x. sober (kind_fields x)) word ∙ live_sober (kind_fields a.found) a.unlocks.live) in
      let one : ((kind_fields a.found).number == 1) ≡ true = sym a.counts in
      let count = ap (λ (j : KindWord). j.number) is in
      let many = held.several in
      grind (arith, nat_tests)

  -- all other words
  pub lock_leaves : LeftLock z f level w → (x : Place) → is_counting x ≡ false → x ≢ Kind f → told_word w x ≡ told_word z x
  lock_leaves (course.shared u _ a gave) x calm apart =
      gave.plain (came_telling z u (moves_came z u _ _ _ _ _ a.unlocks.step) ∙ telling) x ∙ put_same f (told_word u) x calm ∙ told_elsewhere z u _ _ _ _ _ a.unlocks.step x apart
  lock_leaves (course.last u y _ found a store names) x calm apart = absurd (last_off u a)

  pub lock_goes : 1 ≤ level → LeftLock z f level w → Describes n (told_word w) (off f q)
  lock_goes low left = subst (Describes n (told_word w)) (unlocked_off level f q held) (lock_off n z w f level q same telling low d left)
