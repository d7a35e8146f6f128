-- A word of a live table is written, from a port at which nothing is left to be settled: refused as the hypervisor's, or its entry exchanged.
use Rattle.solo_entries.specs.Exchanges.{ComesSo, HasTwoTypeCounts, LeavesFrames, later, now}
use Rattle.std.proofs.Common.{◌≡◌, ◌⊎◌, ◌≤◌, ◌<◌, ℕ, ◌-◌, ◌&&◌, nat_lt, Bool, true, false, List, length, Result, Ok, Err, IsTrue, refl, sym, ap, ◌∙◌, subst, arith, inl, inr}
use Rattle.std.proofs.Math.Path.{fun_ext}
use Rattle.std.proofs.lemmas.Bool.{and_parts}
use Rattle.std.proofs.lemmas.Bool.Decides.{nat_tests}
use Rattle.xp_words.specs.Machine.{IsMachine, Machine}
use Rattle.xp_words.specs.Places.{is_place, sizes_of, number}
use Rattle.xp_words.specs.declared.entry.Demand.TheVariants as demands
use Rattle.xp_words.specs.declared.place.Place.TheVariants.{Cell}
use Rattle.xp_words.specs.declared.reply.Pause.TheVariants.{Lost}
use Rattle.xp_words.specs.declared.reply.Refusal.{Refusal}
use Rattle.xp_words.specs.declared.reply.Refusal.TheVariants as refusals
use Rattle.xp_words.specs.declared.reply.Stop.{Stop}
use Rattle.xp_words.specs.declared.reply.Stop.TheVariants.{Refused, Paused}
use Rattle.xp_board.specs.Told.{Post, PortValue, is_telling, told_word}
use Rattle.step_maker.specs.Moves.{Came}
use Rattle.step_maker.specs.Plain.{Words}
use Rattle.step_maker.proofs.Coming.{came_post, came_trans, met_after, met_before, moves_came, came_self, same_machine}
use Rattle.step_maker.proofs.Telling.{came_telling, load_tells, told_there}
use Rattle.answer_laws.specs.Alone.{IsAlone}
use Rattle.answer_laws.proofs.Shared.{alone_telling}
use Rattle.entry_exchange.specs.Course as course
use Rattle.entry_exchange.specs.Course.{Exchanged, LeftLock, PutEntry, PutsNew, SawEntry, TookNew, new_demand, old_demand, ReleasedDemand}
use Rattle.entry_exchange.specs.Holding.{owner_at}
use Rattle.entry_exchange.specs.Words.{same_demand, word_kept}
use Rattle.entry_exchange.specs.declared.exchanging.EntryUpdate.{EntryUpdate}
use Rattle.exchange_laws.specs.Plain.{exchanged_plain}
use Rattle.exchange_laws.proofs.Going.{demand_came}
use Rattle.exchange_laws.proofs.Putting.{put_came, entry_put}
use Rattle.exchange_laws.proofs.Unlocking.{lock_came}
use Rattle.foreign_map.specs.declared.owners.Owners.{Owners}
use Rattle.table_words.specs.OldWords.{old_place}
use Rattle.table_words.specs.declared.old_words.OldWord.TheVariants.{First, Second}
use Rattle.table_law.specs.Alone.{PlainOutcome, meet, take_at}
use Rattle.table_law.specs.Lawful.{IsAtRest}
use Rattle.table_law.specs.Plain.{Describes, Plain}
use Rattle.table_law.specs.Undone.{CountsSome}
use Rattle.table_law.proofs.OnWords.{counts_plain}
use Rattle.course_laws.specs.Courses.{ClockGoesOn}
use Rattle.release_laws.specs.Pauses.{IsLeft}
use Rattle.script_law.specs.Values.{Frames, Outcome, Solo, behind_by, did, with_frames}
use Rattle.solo_ports.specs.Coming.{Comes, ComesUnpaused, IsDoneSo, IsRefusedSo}
use Rattle.solo_ports.specs.Standing.{IsUnkept, Owes, Stands, a_release, nothing}
use Rattle.solo_entries.proofs.Demanding.{PausedDemand, TookSo, demand_comes, demand_second}
use Rattle.solo_entries.proofs.Entries.{bad_comes, done_comes, same_comes, untaken_comes, held_cell}
use Rattle.solo_entries.proofs.Exchanging.{unlocked_second, held_meet, given_came, given_keeps}
use Rattle.solo_entries.proofs.Holding.{off}
use Rattle.solo_entries.proofs.Known.{Known}
use Rattle.solo_entries.proofs.Locking.{lock_leaves}
use Rattle.solo_entries.proofs.Olds.{KeepsSecond, puts_keeps, three_four, three_five}
use Rattle.solo_entries.proofs.Standing.{KeepsOthers, stands_behind}
use Rattle.solo_entries.proofs.Stopping.{IsNotLost}
use Rattle.table_law.specs.Exchange.{with_cell}

-- ---- what is left, as a port stands, behind steps that change nothing but the frames
module _ (k : Known) (v w : PortValue) (x : Solo) (stands : Stands v x) (others : KeepsOthers v w x) (second : told_word w (old_place v.post.vcpu Second) ≡ told_word v (old_place v.post.vcpu Second)) where
  stands_left : (q : Plain) → IsUnkept v.post.machine q → Stands w (with_frames q x)
  stands_left q unkept = stands_behind k v w x q stands others second unkept

  pub owes_left : (q : Plain) → IsUnkept v.post.machine q → LeavesFrames v.post.machine w q → Owes w (with_frames q x)
  owes_left q unkept (now first d) =
      let same = came_post v w others.came in
      nothing (record { stands = stands_left q unkept; first = first; frames = subst (λ (o : Post). Describes o.machine (told_word w) q) (sym same) d })
  owes_left q unkept (later g l left) =
      let same = came_post v w others.came in
      a_release g l (stands_left q unkept) (subst (λ (o : Post). IsLeft o.machine w g l q) (sym same) left)

  -- an outcome on the frames alone, behind other frames
  pub outcome_comes : (a : PlainOutcome) (p : Plain) (answer : Result (Unit {0}) Stop) → IsUnkept v.post.machine a.left → ComesSo v.post.machine w a answer → ComesUnpaused w (behind_by (with_frames p x) a a.refusal did) answer
  outcome_comes a p (Ok done) unkept c =
      subst (λ t. IsDoneSo w (behind_by (with_frames p x) a t did)) (sym c.0) (record { fine = refl; none = refl; owes = owes_left a.left unkept c.1 })
  outcome_comes a p (Err (Refused z)) unkept c =
      subst (λ t. IsRefusedSo w z (behind_by (with_frames p x) a t did)) (sym c.is) (record { why = Frames c.cause; is = refl; same = c.same; none = refl; owes = owes_left a.left unkept c.left })
  outcome_comes a p (Err (Paused z)) unkept c = absurd c

-- one that is not paused, as one that might be
pub unpaused_comes : (Kept : PortValue → Solo → Type 0) (w : PortValue) (x : Solo) (a : Outcome) (answer : Result (Unit {0}) Stop) → ComesUnpaused w a answer → Comes Kept w x a answer
unpaused_comes Kept w x a (Ok done) c = c
unpaused_comes Kept w x a (Err (Refused z)) c = c
unpaused_comes Kept w x a (Err (Paused z)) c = absurd c

-- ---- the entry of a locked table
-- the acquisition of a table that the new word asks was paused, and the lock went off
pub record PausedExchange (y w : PortValue) (t : EntryUpdate) (o : Owners) (answers : List Bool) (answer : Result (Unit {0}) Stop) : Type 0 where
  pub seen : ℕ
  pub looked : PortValue
  pub left : PortValue
  pub saw : SawEntry y looked t.table t.index seen
  pub differ : same_demand (new_demand t seen) (old_demand t seen) ≡ false
  pub paused : PausedDemand looked (owner_at t.level o.tables o.frames) t.level (new_demand t seen) left answers answer
  pub off_it : LeftLock left t.table t.level w

pub put_lost : (a b : PortValue) (f i seen new : ℕ) (keep : Bool) (r : Result ℕ Stop) → PutEntry a b f i seen new keep r → (stop : Stop) → r ≡ Err stop → IsNotLost (Err stop) → ⊥
put_lost a b f i seen new _ _ (course.stored old step) stop is unlost = absurd cc
put_lost a b f i seen new _ _ (course.exchanged step) stop is unlost = absurd cc
put_lost a b f i seen new _ _ (course.lost found off step) stop is unlost =
    let e : stop ≡ Paused (Lost (number (sizes_of a.post.machine) (Cell f i)) seen found) = cc in subst (λ x. IsNotLost (Err x)) e unlost

-- what a whole exchange comes to; and the second old word stays
pub record ComesBesideSecond (n : Machine) (y w : PortValue) (a : PlainOutcome) (answer : Result (Unit {0}) Stop) : Type 0 where
  pub comes : ComesSo n w a answer
  pub second : told_word w (old_place y.post.vcpu Second) ≡ told_word y (old_place y.post.vcpu Second)

-- ---- the look at the entry
module _ (y u : PortValue) (f i seen : ℕ) (saw : SawEntry y u f i seen) where
  place : IsTrue (nat_lt f y.post.machine.frames && nat_lt i 512)
  unfolding is_place
  place = saw.may.place

  pub saw_frame : f < y.post.machine.frames
  saw_frame = let a = (and_parts (nat_lt f y.post.machine.frames) (nat_lt i 512) place).0 in grind (arith, nat_tests)

  pub saw_few : i < 512
  saw_few = let a = (and_parts (nat_lt f y.post.machine.frames) (nat_lt i 512) place).1 in grind (arith, nat_tests)

  pub saw_came : Came y u
  saw_came = moves_came y u _ _ _ _ _ saw

  pub saw_words : is_telling y ≡ true → told_word u ≡ told_word y
  saw_words telling = fun_ext (load_tells y u _ _ _ _ saw telling)

  pub saw_it : is_telling y ≡ true → told_word y (Cell f i) ≡ seen
  saw_it telling = told_there y u _ _ _ _ _ saw telling

-- ---- behind it, with what it asks taken or refused: the words before it do not matter
module _ (k : Known) (y w : PortValue) (t : EntryUpdate) (o : Owners) (q : Plain) (machine : IsMachine y.post.machine) (telling : is_telling y ≡ true) (counts : CountsSome y.post.machine q) (held : HasTwoTypeCounts t.table q) (low : 1 ≤ t.level) (high : t.level ≤ 4)
    (u : PortValue) (seen : ℕ) (saw : SawEntry y u t.table t.index seen) (cell : q.cells t.table t.index ≡ seen) where
  abbrev whose : ℕ
  whose = owner_at t.level o.tables o.frames

  came_look : Came y u
  came_look = saw_came y u t.table t.index seen saw

  same_look : u.post.machine ≡ y.post.machine
  same_look = same_machine y u came_look

  telling_look : is_telling u ≡ true
  telling_look = came_telling y u came_look ∙ telling

  second_look : told_word u (old_place y.post.vcpu Second) ≡ told_word y (old_place y.post.vcpu Second)
  second_look = ap (λ (m : Words). m (old_place y.post.vcpu Second)) (saw_words y u t.table t.index seen saw telling)

  -- words of the vCPU, port by port
  second_on : (a b : PortValue) → Came u a → KeepsSecond a b → told_word a (old_place y.post.vcpu Second) ≡ told_word y (old_place y.post.vcpu Second) → told_word b (old_place y.post.vcpu Second) ≡ told_word y (old_place y.post.vcpu Second)
  second_on a b before keeps was =
      let vcpu = ap (λ (j : Post). j.vcpu) (came_post y a (came_trans y u a came_look before)) in
      let one = (keeps (came_telling u a before ∙ telling_look)).same in
      subst (λ s. told_word b (old_place s Second) ≡ told_word a (old_place s Second)) vcpu one ∙ was

  pub lock_second : (a b : PortValue) (p : Plain) → Came u a → HasTwoTypeCounts t.table p → Describes y.post.machine (told_word a) p → LeftLock a t.table t.level b → told_word a (old_place y.post.vcpu Second) ≡ told_word y (old_place y.post.vcpu Second) → told_word b (old_place y.post.vcpu Second) ≡ told_word y (old_place y.post.vcpu Second)
  lock_second a b p before h at lock was =
      lock_leaves y.post.machine a b t.table t.level p (same_machine u a before ∙ same_look) (came_telling u a before ∙ telling_look) at h lock (old_place y.post.vcpu Second) refl (λ e. cc) ∙ was

  left_second : (a b : PortValue) (p : Plain) → Came u a → HasTwoTypeCounts t.table p → LeavesFrames y.post.machine a p → LeftLock a t.table t.level b → told_word a (old_place y.post.vcpu Second) ≡ told_word y (old_place y.post.vcpu Second) → told_word b (old_place y.post.vcpu Second) ≡ told_word y (old_place y.post.vcpu Second)
  left_second a b p before h left lock was =
      let vcpu = ap (λ (j : Post). j.vcpu) (came_post y a (came_trans y u a came_look before)) in
      let one = unlocked_second k y.post.machine a b t.table t.level p (same_machine u a before ∙ same_look) (came_telling u a before ∙ telling_look) low h lock left in
      subst (λ s. told_word b (old_place s Second) ≡ told_word a (old_place s Second)) vcpu one ∙ was

  abbrev taking : PlainOutcome
  taking = meet y.post.machine (owner_at t.level o.tables o.frames) (take_at (t.level - 1) y.post.machine (owner_at t.level o.tables o.frames)) t.table t.index q (new_demand t seen)

  held_taking : HasTwoTypeCounts t.table taking.left
  held_taking = held_meet y.post.machine whose t.table q counts held (t.level - 1) t.table t.index (new_demand t seen)

  pub refused_behind : (z : PortValue) (answers : List Bool) (c : Refusal) → same_demand (new_demand t seen) (old_demand t seen) ≡ false → TookNew u z t o seen answers (Err (Refused c)) → KeepsSecond u z →
      TookSo {A = Unit {0}} y.post.machine z (meet y.post.machine (owner_at t.level o.tables o.frames) (take_at (t.level - 1) y.post.machine (owner_at t.level o.tables o.frames)) t.table t.index q (new_demand t seen)) (Err (Refused c)) →
      LeftLock z t.table t.level w → ComesBesideSecond y.post.machine y w (exchanged_plain y.post.machine t o q) (Err (Refused c))
  refused_behind z answers c differ took keeps so lock =
      record {
        comes = untaken_comes k y.post.machine t o q seen low high machine counts held cell u z w answers c same_look telling_look differ took so lock;
        second = left_second z w taking.left (demand_came whose t.level u (new_demand t seen) z answers (Err (Refused c)) took) held_taking so.left lock (second_on u z (came_self u) keeps second_look);
      }

  pub done_behind : (z a b : PortValue) (was : ℕ) (answers more : List Bool) → same_demand (new_demand t seen) (old_demand t seen) ≡ false → TookNew u z t o seen answers (Ok tt) → KeepsSecond u z →
      TookSo {A = Unit {0}} y.post.machine z (meet y.post.machine (owner_at t.level o.tables o.frames) (take_at (t.level - 1) y.post.machine (owner_at t.level o.tables o.frames)) t.table t.index q (new_demand t seen)) (Ok tt) →
      PutsNew z a t seen (Ok was) → LeftLock a t.table t.level b → ReleasedDemand b (old_demand t was) w more → ComesBesideSecond y.post.machine y w (exchanged_plain y.post.machine t o q) (Ok tt)
  done_behind z a b was answers more differ took keeps so puts lock gone =
      let new = word_kept t.keep seen t.word in
      let came_z = demand_came whose t.level u (new_demand t seen) z answers (Ok tt) took in
      let came_a = came_trans u z a came_z (put_came z a t.table t.index seen new t.keep (Ok was) puts) in
      let put = entry_put y.post.machine z a t.table t.index seen new t.keep (Ok was) taking.left (came_telling u z came_z ∙ telling_look) so.2 puts in
      record {
        comes = done_comes k y.post.machine t o q seen low high machine counts held cell u z a b w was answers more same_look telling_look (saw_frame y u t.table t.index seen saw) (saw_few y u t.table t.index seen saw) differ took so puts lock gone;
        second = second_on b w (came_trans u a b came_a (lock_came a b t.table t.level lock)) (given_keeps b (old_demand t was) w more gone)
            (lock_second a b (with_cell t.table t.index new taking.left) came_a (held_cell t.table t.table t.index new taking.left held_taking) put.1 lock
            (second_on z a came_z (puts_keeps z.post.vcpu 3 three_four three_five z a t.table t.index seen new t.keep (Ok was) puts) (second_on u z (came_self u) keeps second_look)));
      }

-- ---- from words that q describes
module _ (k : Known) (y w : PortValue) (t : EntryUpdate) (o : Owners) (q : Plain) (machine : IsMachine y.post.machine) (alone : IsAlone y) (only : length y.post.machine.vcpu_domain ≡ 1) (calm : IsAtRest y.post.machine (told_word y)) (first : told_word y (old_place y.post.vcpu First) ≡ 0)
    (d : Describes y.post.machine (told_word y) q) (held : HasTwoTypeCounts t.table q) (low : 1 ≤ t.level) (high : t.level ≤ 4) (goes : ClockGoesOn y w) where
  abbrev n : Machine
  n = y.post.machine

  telling : is_telling y ≡ true
  telling = alone_telling y alone

  counts : CountsSome n q
  counts = counts_plain n (told_word y) q d calm.counted

  abbrev owner : ℕ
  owner = owner_at t.level o.tables o.frames

  -- the entry was looked at
  module _ (u : PortValue) (seen : ℕ) (saw : SawEntry y u t.table t.index seen) where
    came_u : Came y u
    came_u = saw_came y u t.table t.index seen saw

    same_u : u.post.machine ≡ n
    same_u = same_machine y u came_u

    telling_u : is_telling u ≡ true
    telling_u = came_telling y u came_u ∙ telling

    words : told_word u ≡ told_word y
    words = saw_words y u t.table t.index seen saw telling

    cell : q.cells t.table t.index ≡ seen
    cell = d.cells t.table t.index (saw_frame y u t.table t.index seen saw) (saw_few y u t.table t.index seen saw) ∙ saw_it y u t.table t.index seen saw telling

    there : (P : Machine → Words → Type 0) → P n (told_word y) → P u.post.machine (told_word u)
    there P is = subst (λ (j : Machine). P j (told_word u)) (sym same_u) (subst (P n) (sym words) is)

    at_u : Describes n (told_word u) q
    at_u = subst (λ m. Describes n m q) (sym words) d

    first_u : told_word u (old_place u.post.vcpu First) ≡ 0
    first_u = subst (λ (j : Post). told_word u (old_place j.vcpu First) ≡ 0) (sym (came_post y u came_u)) (ap (λ (m : Words). m (old_place y.post.vcpu First)) words ∙ first)

    second_u : told_word u (old_place y.post.vcpu Second) ≡ told_word y (old_place y.post.vcpu Second)
    second_u = ap (λ (m : Words). m (old_place y.post.vcpu Second)) words

    took_so : (z : PortValue) (answers : List Bool) (r : Result (Unit {0}) Stop) → TookNew u z t o seen answers r → Came z w → PausedDemand u owner t.level (new_demand t seen) z answers r ⊎ TookSo {A = Unit {0}} u.post.machine z (meet u.post.machine owner (take_at (t.level - 1) u.post.machine owner) t.table t.index q (new_demand t seen)) r
    took_so z answers r took after =
        demand_comes k u owner q (subst IsMachine (sym same_u) machine) (k.stays y u alone came_u) (subst (λ (j : Machine). length j.vcpu_domain ≡ 1) (sym same_u) only) (there IsAtRest calm) first_u (subst (λ (j : Machine). Describes j (told_word u) q) (sym same_u) at_u)
        t.level t.table t.index high (new_demand t seen) z answers r took (λ m met at. goes m (met_after y u w m came_u (met_before u z w m met after)) at)

    took_second : (z : PortValue) (answers : List Bool) (r : Result (Unit {0}) Stop) → TookNew u z t o seen answers r → Came z w → KeepsSecond u z
    took_second z answers r took after =
        demand_second k u owner q (subst IsMachine (sym same_u) machine) (k.stays y u alone came_u) (subst (λ (j : Machine). length j.vcpu_domain ≡ 1) (sym same_u) only) (there IsAtRest calm) first_u (subst (λ (j : Machine). Describes j (told_word u) q) (sym same_u) at_u)
        t.level t.table t.index high (new_demand t seen) z answers r took (λ m met at. goes m (met_after y u w m came_u (met_before u z w m met after)) at)

    took_there : (z : PortValue) (r : Result (Unit {0}) Stop) → TookSo {A = Unit {0}} u.post.machine z (meet u.post.machine owner (take_at (t.level - 1) u.post.machine owner) t.table t.index q (new_demand t seen)) r →
        TookSo {A = Unit {0}} n z (meet n owner (take_at (t.level - 1) n owner) t.table t.index q (new_demand t seen)) r
    took_there z r so = subst (λ (j : Machine). TookSo {A = Unit {0}} j z (meet j owner (take_at (t.level - 1) j owner) t.table t.index q (new_demand t seen)) r) same_u so

    abbrev whole : PlainOutcome
    whole = exchanged_plain y.post.machine t o q

    -- the lock goes off
    off_second : (a : PortValue) (p : Plain) → Came u a → HasTwoTypeCounts t.table p → Describes n (told_word a) p → LeftLock a t.table t.level w → told_word a (old_place y.post.vcpu Second) ≡ told_word y (old_place y.post.vcpu Second) → told_word w (old_place y.post.vcpu Second) ≡ told_word y (old_place y.post.vcpu Second)
    off_second a p before h at lock was = lock_second k y w t o q machine telling counts held low high u seen saw cell a w p before h at lock was

    bad_ends : (new_demand t seen ≡ demands.Bad) → LeftLock u t.table t.level w → ComesBesideSecond n y w whole (Err (Refused (refusals.Reserved t.table t.index (word_kept t.keep seen t.word))))
    bad_ends bad lock =
        record {
          comes = bad_comes k n t o q seen low high machine counts held cell u w same_u telling_u (now first_u at_u) bad lock;
          second = off_second u q (came_self u) held at_u lock second_u;
        }

    same_ends : (z : PortValue) (was : ℕ) → same_demand (new_demand t seen) (old_demand t seen) ≡ true → PutsNew u z t seen (Ok was) → LeftLock z t.table t.level w → ComesBesideSecond n y w whole (Ok tt)
    same_ends z was alike puts lock =
        let new = word_kept t.keep seen t.word in
        let put = entry_put n u z t.table t.index seen new t.keep (Ok was) q telling_u at_u puts in
        let keeps = (puts_keeps u.post.vcpu 3 three_four three_five u z t.table t.index seen new t.keep (Ok was) puts telling_u).same in
        record {
          comes = same_comes k n t o q seen low high machine counts held cell u z w was same_u telling_u first_u at_u alike puts lock;
          second = off_second z (with_cell t.table t.index new q) (put_came u z t.table t.index seen new t.keep (Ok was) puts) (held_cell t.table t.table t.index new q held) put.1 lock
              (subst (λ s. told_word z (old_place s Second) ≡ told_word u (old_place s Second)) (ap (λ (j : Post). j.vcpu) (came_post y u came_u)) keeps ∙ second_u);
        }

    untaken_ends : (z : PortValue) (answers : List Bool) (stop : Stop) → same_demand (new_demand t seen) (old_demand t seen) ≡ false → TookNew u z t o seen answers (Err stop) → LeftLock z t.table t.level w → PausedExchange y w t o answers (Err stop) ⊎ ComesBesideSecond n y w whole (Err stop)
    untaken_ends z answers stop differ took lock =
        let after = lock_came z w t.table t.level lock in
        elim (took_so z answers (Err stop) took after) [
          | inl paused ↦ inl (record { seen = seen; looked = u; left = z; saw = saw; differ = differ; paused = paused; off_it = lock })
          | inr so ↦ inr (refused_ends stop took lock (took_there z (Err stop) so))
        ]
      where
        refused_ends : (e : Stop) → TookNew u z t o seen answers (Err e) → LeftLock z t.table t.level w → TookSo {A = Unit {0}} n z (meet n owner (take_at (t.level - 1) n owner) t.table t.index q (new_demand t seen)) (Err e) → ComesBesideSecond n y w whole (Err e)
        refused_ends (Refused c) a off_it so =
            refused_behind k y w t o q machine telling counts held low high u seen saw cell z answers c differ a (took_second z answers (Err (Refused c)) a (lock_came z w t.table t.level off_it)) so off_it
        refused_ends (Paused c) a off_it so = absurd so

    done_ends : (z a b : PortValue) (was : ℕ) (answers more : List Bool) → same_demand (new_demand t seen) (old_demand t seen) ≡ false → TookNew u z t o seen answers (Ok tt) → PutsNew z a t seen (Ok was) → LeftLock a t.table t.level b → ReleasedDemand b (old_demand t was) w more → ComesBesideSecond n y w whole (Ok tt)
    done_ends z a b was answers more differ took puts lock gone =
        let new = word_kept t.keep seen t.word in
        let came_z = demand_came owner t.level u (new_demand t seen) z answers (Ok tt) took in
        let came_put = put_came z a t.table t.index seen new t.keep (Ok was) puts in
        let to_b = came_trans u a b (came_trans u z a came_z came_put) (lock_came a b t.table t.level lock) in
        let came_b = given_came b (old_demand t was) w more (came_telling u b to_b ∙ telling_u) gone in
        let after = came_trans z a w came_put (came_trans a b w (lock_came a b t.table t.level lock) came_b) in
        done_behind k y w t o q machine telling counts held low high u seen saw cell z a b was answers more differ took (took_second z answers (Ok tt) took after) (took_ok z answers took after) puts lock gone
      where
        took_ok : (c : PortValue) (given : List Bool) → TookNew u c t o seen given (Ok tt) → Came c w → TookSo {A = Unit {0}} n c (meet n owner (take_at (t.level - 1) n owner) t.table t.index q (new_demand t seen)) (Ok tt)
        took_ok c given a after = elim (took_so c given (Ok tt) a after) [
          | inl paused ↦ absurd (let e = paused.paused in cc)
          | inr so ↦ took_there c (Ok tt) so
        ]

  -- ---- the whole
  pub exchange_ends : (answers : List Bool) (r : Result (Unit {0}) Stop) → IsNotLost r → Exchanged y t o w answers r → PausedExchange y w t o answers r ⊎ ComesBesideSecond y.post.machine y w (exchanged_plain y.post.machine t o q) r
  exchange_ends _ _ unlost (course.bad u _ seen saw bad lock) = inr (bad_ends u seen saw bad lock)
  exchange_ends _ _ unlost (course.same u z _ seen was saw alike puts lock) = inr (same_ends u seen saw z was alike puts lock)
  exchange_ends _ _ unlost (course.unput u z _ seen stop saw alike puts lock) = absurd (put_lost u z t.table t.index seen (word_kept t.keep seen t.word) t.keep (Err stop) puts stop refl unlost)
  exchange_ends _ _ unlost (course.untaken u z _ seen answers stop saw differ took lock) = untaken_ends u seen saw z answers stop differ took lock
  exchange_ends _ _ unlost (course.lost u z a b _ seen answers stop saw differ took puts gave lock) = absurd (put_lost z a t.table t.index seen (word_kept t.keep seen t.word) t.keep (Err stop) puts stop refl unlost)
  exchange_ends _ _ unlost (course.done u z a b _ seen was answers more saw differ took puts lock gone) = inr (done_ends u seen saw z a b was answers more differ took puts lock gone)
