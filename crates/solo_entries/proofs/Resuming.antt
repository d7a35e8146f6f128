-- A write that is kept goes on: it is paused again and still kept, or comes to its plain meaning.
use Rattle.solo_entries.specs.Exchanges.{ComesSo}
use Rattle.solo_entries.specs.Kept.{HasBegun, KeepsEntry}
use Rattle.std.proofs.Common.{◌≡◌, ◌⊎◌, ◌<◌, ◌≤◌, ℕ, ◌-◌, Bool, true, false, List, ◌++◌, length, Result, Ok, Err, refl, sym, ap, ◌∙◌, subst, arith, inl, inr}
use Rattle.xp_words.specs.Entries.{demand_at, is_slot}
use Rattle.xp_words.specs.Machine.{IsMachine, Machine}
use Rattle.xp_words.specs.declared.entry.Demand.TheVariants as demands
use Rattle.xp_words.specs.declared.place.Place.TheVariants.{Cell}
use Rattle.xp_words.specs.declared.reply.Pause.TheVariants as pauses
use Rattle.xp_words.specs.declared.reply.Pause.TheVariants.{Due}
use Rattle.xp_words.specs.declared.reply.Stop.{Stop}
use Rattle.xp_words.specs.declared.reply.Stop.TheVariants.{Refused, Paused}
use Rattle.xp_board.specs.Readings.{ref_count}
use Rattle.xp_board.specs.Told.{Post, PortValue, is_telling, told_word}
use Rattle.step_maker.specs.Moves.{Came}
use Rattle.step_maker.specs.Plain.{Words}
use Rattle.step_maker.specs.Twins.{Alike}
use Rattle.step_maker.proofs.Alikes.{same_alike}
use Rattle.step_maker.proofs.Coming.{came_post, came_trans, met_after, met_before, same_machine}
use Rattle.step_maker.proofs.Telling.{came_telling}
use Rattle.step_maker.proofs.Visiting.{does_came}
use Rattle.answer_laws.proofs.Shared.{alone_telling}
use Rattle.entry_exchange.specs.Course as course
use Rattle.entry_exchange.specs.Course.{Exchanged, LeftLock, SawEntry, TookNew, new_demand, old_demand}
use Rattle.entry_exchange.specs.Holding.{owner_at}
use Rattle.entry_exchange.specs.Words.{same_demand, word_kept}
use Rattle.entry_exchange.specs.declared.exchanging.EntryUpdate.{EntryUpdate}
use Rattle.entry_locks.specs.Locks.{of_lock}
use Rattle.entry_locks.specs.declared.locking.Locked.TheVariants.{Table}
use Rattle.exchange_laws.specs.Plain.{exchanged_plain, new_word, place_in}
use Rattle.exchange_laws.proofs.Going.{demand_came}
use Rattle.exchange_laws.proofs.Putting.{put_came}
use Rattle.exchange_laws.proofs.Unlocking.{lock_came}
use Rattle.foreign_map.specs.declared.owners.Owners.{Owners}
use Rattle.mmu_update.specs.Course as writing
use Rattle.mmu_update.specs.Course.{TriedLock, Wrote, entry_update}
use Rattle.mmu_update.specs.Elements.{update_request}
use Rattle.mmu_update.specs.Fits.{Updates}
use Rattle.mmu_update.specs.declared.element.Element.TheVariants.{Write}
use Rattle.partial_state.specs.Levels.{level_type}
use Rattle.table_entries.specs.Acquiring.{Acquired, GotRef}
use Rattle.table_entries.proofs.Shared.{ref_came}
use Rattle.table_words.specs.OldWords.{old_place}
use Rattle.table_words.specs.declared.old_words.OldWord.TheVariants.{First, Second}
use Rattle.table_law.specs.Alone.{PlainOutcome, alone, meet, take_at}
use Rattle.table_law.specs.Plain.{Plain}
use Rattle.table_law.specs.Undone.{CountsSome}
use Rattle.course_laws.specs.Courses.{ClockGoesOn}
use Rattle.course_laws.proofs.Stopping.{acquired_came}
use Rattle.pause_laws.specs.Calls.{HasRoom}
use Rattle.refusal_laws.specs.Refusals.{ComesTo}
use Rattle.refusal_laws.specs.Repeated as repeated
use Rattle.refusal_laws.specs.Repeated.{PausedCalls}
use Rattle.script_law.specs.Frames.{under_lock, write_word}
use Rattle.script_law.specs.Values.{Solo, behind_by, did, with_frames}
use Rattle.solo_ports.specs.Coming.{Comes}
use Rattle.solo_ports.specs.Standing.{Fair}
use Rattle.solo_ports.proofs.Along.{paused_on, follows_itself}
use Rattle.solo_entries.proofs.Again.{at_level, due_as, took_table}
use Rattle.solo_entries.proofs.Begun.{calls_alike, cells_are, counts, first_there, held, kept_table, kept_there, lends, machine_from, owner_alive, second_stays, unkept_under, write_is}
use Rattle.solo_entries.proofs.Demanding.{HadFirst, TookSo, comes_so, done_as}
use Rattle.solo_entries.proofs.Exchanging.{given_came}
use Rattle.solo_entries.proofs.Known.{Known}
use Rattle.solo_entries.proofs.Olds.{KeepsSecond, acquired_keeps, had_keeps, keeps_then, locked_keeps, ref_keeps, three_five, three_four, three_two, two_five, two_four}
use Rattle.solo_entries.proofs.Pausing.{owner_two}
use Rattle.solo_entries.proofs.Serving.{write_quiet}
use Rattle.solo_entries.proofs.Relocking.{never_other, never_unreferred, relocked}
use Rattle.solo_entries.proofs.Standing.{keeps_others}
use Rattle.solo_entries.proofs.Stopping.{IsNotLost, never_lost_alone}
use Rattle.solo_entries.proofs.Unkept.{unkept_exchanged}
use Rattle.solo_entries.proofs.Writing.{ComesBesideSecond, done_behind, outcome_comes, put_lost, refused_behind, saw_came, saw_few, saw_it, saw_words, unpaused_comes}

module _ (k : Known) (v w : PortValue) (x : Solo) (o : Owners) (f i word : ℕ) (keep : Bool) (e : KeepsEntry o f i word keep v x) (real : o.tables < length v.post.machine.page_limit) (alive : x.lives o.tables ≡ 0) (fair : Fair v w) where
  abbrev b : HasBegun v.post.machine v.post.vcpu o f i word keep x
  b = e.begun

  abbrev t : EntryUpdate
  t = entry_update f e.begun.level i word keep

  abbrev q : Plain
  q = under_lock f e.begun.taken

  abbrev owner : ℕ
  owner = owner_at e.begun.level o.tables o.frames

  abbrev Calls : PortValue → Type 0
  Calls c = PausedCalls e.begun.asked o.tables (e.begun.level - 1) e.begun.from c

  abbrev Ends : Result (Unit {0}) Stop → Type 0
  Ends r = Comes (KeepsEntry o f i word keep) w x (write_word v.post.machine o f i word keep x) r

  abbrev Made : List Bool → Result (Unit {0}) Stop → Type 0
  Made answers r = Updates o (Write f i word keep) v w answers r

  low : 1 ≤ e.begun.level
  low = let a = e.begun.two in omega (arith, a)

  telling : is_telling v ≡ true
  telling = alone_telling v e.stands.alone

  -- ---- the table is locked again
  module _ (u y : PortValue) (l found : ℕ) (ref : GotRef v u f o.tables (Ok f)) (lock : TriedLock u y f o.tables (Ok (Table l found))) where
    came_y : Came v y
    came_y = came_trans v u y (ref_came v u f o.tables (Ok f) ref) (does_came u y _ lock.found)

    telling_y : is_telling y ≡ true
    telling_y = came_telling v y came_y ∙ telling

    same_y : y.post.machine ≡ v.post.machine
    same_y = same_machine v y came_y

    locked_again : Alike (told_word y) (told_word e.locked) × (level_type l ≡ level_type e.begun.level)
    locked_again = relocked v u y f o.tables e.begun.level l found (told_word e.locked) e.stands.alone e.unlocked ref lock

    calls_y : Calls y
    calls_y =
        let a = kept_table k v.post.machine v.post.vcpu o f i word keep x e.stands.machine b e.locked e.calls in
        calls_alike e.begun.asked o.tables (e.begun.level - 1) e.begun.from e.locked y e.calls locked_again.0 (same_y ∙ sym (a.machine ∙ e.begun.machine)) (ap (λ (j : Post). j.vcpu) (came_post v y came_y) ∙ sym (a.vcpu ∙ e.begun.vcpu)) telling_y

    second_y : told_word y (old_place v.post.vcpu Second) ≡ told_word v (old_place v.post.vcpu Second)
    second_y =
        (keeps_then v.post.vcpu 3 three_four three_five (ref_keeps v.post.vcpu 3 three_four three_five v u f o.tables (Ok f) ref)
        (locked_keeps v.post.vcpu 3 three_four three_five u y f o.tables (Ok (Table l found)) lock) telling).same

    -- ---- its entry is looked at, and is the one that was seen there before
    module _ (c : PortValue) (seen : ℕ) (saw : SawEntry y c f i seen) where
      came_yc : Came y c
      came_yc = saw_came y c f i seen saw

      came_c : Came v c
      came_c = came_trans v y c came_y came_yc

      telling_c : is_telling c ≡ true
      telling_c = came_telling v c came_c ∙ telling

      calls_c : Calls c
      calls_c =
          paused_on e.begun.asked o.tables (e.begun.level - 1) e.begun.from y c calls_y (same_alike (told_word c) (told_word y) (λ p. ap (λ (m : Words). m p) (saw_words y c f i seen saw telling_y)))
          (came_post y c came_yc) telling_c

      cell : x.frames.cells f i ≡ seen
      cell =
          let inside = subst (λ (m : Machine). f < m.frames) (sym e.begun.machine) (lends v.post.machine v.post.vcpu o f i word keep x b).inside in
          sym (ap (λ (g : ℕ → ℕ → ℕ). g f i) (cells_are v.post.machine v.post.vcpu o f i word keep x b))
          ∙ (e.begun.frames.cells f i inside (saw_few y c f i seen saw)
          ∙ (sym ((kept_table k v.post.machine v.post.vcpu o f i word keep x e.stands.machine b y calls_y).same (Cell f i) (repeated.cell f i)) ∙ saw_it y c f i seen saw telling_y))

      cell_there : q.cells f i ≡ seen
      cell_there = ap (λ (g : ℕ → ℕ → ℕ). g f i) (cells_are v.post.machine v.post.vcpu o f i word keep x b) ∙ cell

      asks : new_demand t seen ≡ demands.Typed e.begun.asked (level_type (e.begun.level - 1))
      asks = subst (λ z. demand_at (level_type e.begun.level) i (word_kept keep z word) ≡ demands.Typed e.begun.asked (level_type (e.begun.level - 1))) cell e.begun.asks

      differs : same_demand (new_demand t seen) (old_demand t seen) ≡ false
      differs = subst (λ z. same_demand (demand_at (level_type e.begun.level) i (word_kept keep z word)) (demand_at (level_type e.begun.level) i z) ≡ false) cell e.begun.differ

      counts_y : CountsSome y.post.machine q
      counts_y = subst (λ (m : Machine). CountsSome m q) (sym same_y) (counts v.post.machine v.post.vcpu o f i word keep x b)

      -- ---- what it asks is acquired further
      module _ (z : PortValue) (answers : List Bool) (after : Came z w) where
        abbrev Had : Result ℕ Stop → Type 0
        Had a = Acquired c e.begun.asked o.tables (e.begun.level - 1) z answers a

        abbrev TakesSo : Result (Unit {0}) Stop → Type 0
        TakesSo r = TookSo {A = Unit {0}} y.post.machine z (meet y.post.machine (owner_at e.begun.level o.tables o.frames) (take_at (e.begun.level - 1) y.post.machine (owner_at e.begun.level o.tables o.frames)) f i q (new_demand t seen)) r

        clock : ClockGoesOn c z
        clock = λ m met at. fair.clock m (met_after v c w m came_c (met_before c z w m met after)) at

        room : HasRoom c z
        room = λ m g met at. subst (λ (j : Machine). ref_count m.found < j.limit) (sym (same_machine v c came_c)) (fair.room m g (met_after v c w m came_c (met_before c z w m met after)) at)

        comes : (a : Result ℕ Stop) → Had a → (a ≡ Err (Paused Due)) ⊎ ComesTo e.begun.from.post.machine z e.begun.asked (e.begun.level - 1) (alone e.begun.from.post.machine o.tables (e.begun.level - 1) e.begun.asked q) a
        comes a had =
            k.later e.begun.from c z e.begun.asked o.tables (e.begun.level - 1) q answers a (machine_from k v.post.machine v.post.vcpu o f i word keep x e.stands.machine b) e.begun.rest e.begun.orderly e.begun.clear
            (let h = e.begun.two in omega (arith, h)) (let h = e.begun.high in omega (arith, h)) e.begun.frames calls_c (k.stays v c e.stands.alone came_c)
            (subst (λ (m : Machine). length m.vcpu_domain ≡ 1) (sym (same_machine v c came_c)) e.stands.only) had clock room

        first_had : (a : Result ℕ Stop) → Had a → HadFirst z a
        first_had (Ok g) had =
            let keeps = (had_keeps c.post.vcpu 2 two_four two_five c e.begun.asked o.tables (e.begun.level - 1) z answers g had telling_c).same in
            subst (λ (j : Post). told_word z (old_place j.vcpu First) ≡ 0) (sym (came_post c z (acquired_came c e.begun.asked o.tables (e.begun.level - 1) z answers (Ok g) had)))
            (keeps ∙ first_there k v.post.machine v.post.vcpu o f i word keep x e.stands.machine b c calls_c)
        first_had (Err stop) had = tt

        there : (r : Result (Unit {0}) Stop) → TookSo {A = Unit {0}} e.begun.from.post.machine z (alone e.begun.from.post.machine o.tables (e.begun.level - 1) e.begun.asked q) r → TakesSo r
        there r so =
            subst (λ d. TookSo {A = Unit {0}} y.post.machine z (meet y.post.machine owner (take_at (e.begun.level - 1) y.post.machine owner) f i q d) r) (sym asks)
            (subst (λ d. TookSo {A = Unit {0}} y.post.machine z (alone y.post.machine d (e.begun.level - 1) e.begun.asked q) r) (sym (owner_two e.begun.level o.tables o.frames e.begun.two))
            (subst (λ (m : Machine). TookSo {A = Unit {0}} m z (alone m o.tables (e.begun.level - 1) e.begun.asked q) r) (e.begun.machine ∙ sym same_y) so))

        pub further : (r : Result (Unit {0}) Stop) → TookNew c z t o seen answers r → ((r ≡ Err (Paused Due)) × Acquired c e.begun.asked o.tables (e.begun.level - 1) z answers (Err (Paused Due))) ⊎ (TakesSo r × KeepsSecond c z)
        further r took =
            let a = took_table owner e.begun.level c e.begun.asked e.begun.two (new_demand t seen) z answers r took asks in
            let had = subst (λ d. Acquired c e.begun.asked d (e.begun.level - 1) z answers a.answer) (owner_two e.begun.level o.tables o.frames e.begun.two) a.had in
            elim (comes a.answer had) [
              | inl due ↦ inl (sym a.is ∙ due_as a.answer due, subst Had due had)
              | inr so ↦ inr (
                there r (subst (λ r. TookSo {A = Unit {0}} e.begun.from.post.machine z (alone e.begun.from.post.machine o.tables (e.begun.level - 1) e.begun.asked q) r) a.is
                    (done_as e.begun.from.post.machine z (alone e.begun.from.post.machine o.tables (e.begun.level - 1) e.begun.asked q) a.answer
                    (comes_so e.begun.from.post.machine z e.begun.asked (e.begun.level - 1) (alone e.begun.from.post.machine o.tables (e.begun.level - 1) e.begun.asked q) a.answer (first_had a.answer had) so))),
                acquired_keeps c.post.vcpu 3 three_four three_five three_two c e.begun.asked o.tables (e.begun.level - 1) z answers a.answer had,
              )
            ]

        -- paused again
        kept : (r : Result (Unit {0}) Stop) → Made answers r → Acquired c e.begun.asked o.tables (e.begun.level - 1) z answers (Err (Paused Due)) → LeftLock z f e.begun.level w → KeepsEntry o f i word keep w x
        kept r m had off_it =
            let came_z = acquired_came c e.begun.asked o.tables (e.begun.level - 1) z answers (Err (Paused Due)) had in
            kept_there k v z w x o f i word keep b e.stands (came_trans v c z came_c came_z)
            (repeated.again c z z answers calls_c had
            (owner_alive v w c z x o.tables (update_request o (Write f i word keep) r) m.serves.0 e.stands real alive m.serves.2 refl came_c after)
            (follows_itself z (came_telling c z came_z ∙ telling_c)))
            off_it (second_stays v u y c z f i o.tables o.tables (Table l found) seen e.begun.asked (e.begun.level - 1) answers (Err (Paused Due)) telling ref lock saw had)
            (update_request o (Write f i word keep) r) m.serves.0 m.serves.2 (write_quiet v.post.machine v.post.vcpu o f i word keep r m.serves.0 m.serves.1) m.rests

    -- ---- as the plain exchange
    abbrev plain : PlainOutcome
    plain = exchanged_plain v.post.machine t o q

    ended : (answers : List Bool) (r : Result (Unit {0}) Stop) → Made answers r → ComesBesideSecond y.post.machine y w (exchanged_plain y.post.machine t o q) r → Ends r
    ended answers r m c =
        let vcpu = ap (λ (j : Post). j.vcpu) (came_post v y came_y) in
        let second = subst (λ j. told_word w (old_place j Second) ≡ told_word y (old_place j Second)) vcpu c.second ∙ second_y in
        subst (λ a. Comes (KeepsEntry o f i word keep) w x a r) (sym (write_is v.post.machine v.post.vcpu o f i word keep x b))
        (unpaused_comes (KeepsEntry o f i word keep) w x (behind_by (with_frames e.begun.taken x) plain plain.refusal did) r (outcome_comes k v w x e.stands (keeps_others v w x (update_request o (Write f i word keep) r) m.serves.0 e.stands m.serves.2 (write_quiet v.post.machine v.post.vcpu o f i word keep r m.serves.0 m.serves.1) m.rests) second plain e.begun.taken r
        (unkept_exchanged v.post.machine owner (place_in t) (new_word t q) q (unkept_under v.post.machine v.post.vcpu o f i word keep x b e.stands.unkept))
        (subst (λ (j : Machine). ComesSo j w (exchanged_plain j t o q) r) same_y c.comes)))

    refused : (c z : PortValue) (seen : ℕ) (saw : SawEntry y c f i seen) (answers : List Bool) (stop : Stop) → Made answers (Err stop) → TookNew c z t o seen answers (Err stop) → LeftLock z f e.begun.level w →
        TookSo {A = Unit {0}} y.post.machine z (meet y.post.machine owner (take_at (e.begun.level - 1) y.post.machine owner) f i q (new_demand t seen)) (Err stop) → KeepsSecond c z → Ends (Err stop)
    refused c z seen saw answers (Refused a) m took off_it so keeps =
        ended answers (Err (Refused a)) m
        (refused_behind k y w t o q (subst IsMachine (sym same_y) e.stands.machine) telling_y (counts_y c seen saw) (held v.post.machine v.post.vcpu o f i word keep x b) low e.begun.high c seen saw (cell_there c seen saw) z answers a (differs c seen saw) took keeps so off_it)
    refused c z seen saw answers (Paused a) m took off_it so keeps = absurd so

    exchanged_so : (answers : List Bool) (r : Result (Unit {0}) Stop) → Made answers r → IsNotLost r → Exchanged y t o w answers r → Ends r
    exchanged_so _ _ m unlost (course.bad c _ seen saw bad off_it) = absurd (let a = sym (asks c seen saw) ∙ bad in cc)
    exchanged_so _ _ m unlost (course.same c z _ seen was saw alike puts off_it) = absurd (let a = sym (differs c seen saw) ∙ alike in cc)
    exchanged_so _ _ m unlost (course.unput c z _ seen stop saw alike puts off_it) = absurd (let a = sym (differs c seen saw) ∙ alike in cc)
    exchanged_so _ _ m unlost (course.untaken c z _ seen answers stop saw differ took off_it) = elim (further c seen saw z answers (lock_came z w f e.begun.level off_it) (Err stop) took) [
      | inl due ↦ subst Ends (sym due.0) (inr (kept c seen saw z answers (lock_came z w f e.begun.level off_it) (Err stop) m due.1 off_it))
      | inr so ↦ refused c z seen saw answers stop m took off_it so.0 so.1
    ]
    exchanged_so _ _ m unlost (course.lost c z a g _ seen answers stop saw differ took puts gave off_it) = absurd (put_lost z a f i seen (word_kept keep seen word) keep (Err stop) puts stop refl unlost)
    exchanged_so _ _ m unlost (course.done c z a g _ seen was answers more saw differ took puts off_it gone) =
        let to_a = put_came z a f i seen (word_kept keep seen word) keep (Ok was) puts in
        let to_g = came_trans z a g to_a (lock_came a g f e.begun.level off_it) in
        let came_z = demand_came owner e.begun.level c (new_demand t seen) z answers (Ok tt) took in
        let telling_g = came_telling c g (came_trans c z g came_z to_g) ∙ telling_c c seen saw in
        elim (further c seen saw z answers (came_trans z g w to_g (given_came g (old_demand t was) w more telling_g gone)) (Ok tt) took) [
          | inl due ↦ absurd (let a = due.0 in cc)
          | inr so ↦
              ended (more ++ answers) (Ok tt) m
              (done_behind k y w t o q (subst IsMachine (sym same_y) e.stands.machine) telling_y (counts_y c seen saw) (held v.post.machine v.post.vcpu o f i word keep x b) low e.begun.high c seen saw (cell_there c seen saw) z a g was answers more
              (differs c seen saw) took so.1 so.0 puts off_it gone)
        ]

  -- ---- the frame is in nobody else's hands
  busy : (u y : PortValue) (stop : Stop) → GotRef v u f o.tables (Ok f) → TriedLock u y f o.tables (Err stop) → ⊥
  busy u y (Paused (pauses.Busy g a)) ref lock = k.neither u y (of_lock f o.tables) (pauses.Busy g a) (k.stays v u e.stands.alone (ref_came v u f o.tables (Ok f) ref)) refl lock.stops
  busy u y (Paused _) ref lock = lock.plain (came_telling v u (ref_came v u f o.tables (Ok f) ref) ∙ telling)
  busy u y (Refused a) ref lock = lock.plain (came_telling v u (ref_came v u f o.tables (Ok f) ref) ∙ telling)

  slot_taken : (l : ℕ) → level_type l ≡ level_type e.begun.level → is_slot (level_type l) i ≡ true → ⊥
  slot_taken l same taken = let a = sym e.begun.open_slot ∙ (ap (λ j. is_slot j i) (sym same) ∙ taken) in cc

  goes_on : (answers : List Bool) (r : Result (Unit {0}) Stop) → Made answers r → Wrote v o f i word keep w answers r → Ends r
  goes_on _ _ m (writing.unreferred _ stop ref) = absurd (never_unreferred v w f o.tables e.begun.level (told_word e.locked) stop e.stands.alone e.unlocked ref fair.room)
  goes_on _ _ m (writing.unlocked u y _ stop ref lock gave) = absurd (busy u y stop ref lock)
  goes_on _ _ m (writing.slot u y _ l found ref lock taken off_it) = absurd (slot_taken l (locked_again u y l found ref lock).1 taken)
  goes_on _ _ m (writing.exchanged u y _ l found answers r ref lock off ex) =
      exchanged_so u y l found ref lock answers r m (never_lost_alone k v w (update_request o (Write f i word keep) r) r e.stands.alone refl m.stops)
      (at_level y o f i word keep e.begun.level low e.begun.high w answers r l (locked_again u y l found ref lock).1 ex)
  goes_on _ _ m (writing.untaken u y _ found stop ref lock page) = absurd (never_other v u y f o.tables e.begun.level found (told_word e.locked) e.stands.alone e.unlocked ref lock)
  goes_on _ _ m (writing.stored u y a c _ found old ref lock page store gave) = absurd (never_other v u y f o.tables e.begun.level found (told_word e.locked) e.stands.alone e.unlocked ref lock)

pub resumed : Known → (v w : PortValue) (x : Solo) (o : Owners) (f i word : ℕ) (keep : Bool) (answers : List Bool) (r : Result (Unit {0}) Stop) → KeepsEntry o f i word keep v x → o.tables < length v.post.machine.page_limit → x.lives o.tables ≡ 0 → Fair v w →
    Updates o (Write f i word keep) v w answers r → Comes (KeepsEntry o f i word keep) w x (write_word v.post.machine o f i word keep x) r
resumed k v w x o f i word keep answers r e real alive fair m = goes_on k v w x o f i word keep e real alive fair answers r m m.course
