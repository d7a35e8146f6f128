-- A write that the gate paused under the lock of its table, from where nothing was left, is kept.
use Rattle.solo_entries.specs.Kept.{HasBegun, IsUnlockedTable, KeepsEntry}
use Rattle.std.proofs.Common.{◌≡◌, ◌<◌, ◌≤◌, ℕ, ◌-◌, ◌==◌, if◌then◌else◌, Bool, true, false, List, length, Result, Ok, Err, refl, sym, ap, ◌∙◌, subst, arith}
use Rattle.std.proofs.lemmas.Bool.Decides.{nat_tests}
use Rattle.xp_words.specs.Entries.{demand_at}
use Rattle.xp_words.specs.Machine.{Machine}
use Rattle.xp_words.specs.declared.entry.Demand.TheVariants.{Typed}
use Rattle.xp_words.specs.declared.reply.Pause.TheVariants.{Due}
use Rattle.xp_words.specs.declared.reply.Stop.{Stop}
use Rattle.xp_words.specs.declared.reply.Stop.TheVariants.{Paused}
use Rattle.xp_board.specs.Told.{Post, PortValue, is_telling, told_word}
use Rattle.step_maker.specs.Moves.{Came}
use Rattle.step_maker.specs.Plain.{Words}
use Rattle.step_maker.proofs.Coming.{came_post, came_trans, same_machine}
use Rattle.step_maker.proofs.Telling.{came_telling}
use Rattle.answer_laws.specs.Alone.{IsAlone}
use Rattle.answer_laws.proofs.Shared.{alone_telling}
use Rattle.entry_exchange.specs.Holding.{owner_at}
use Rattle.entry_exchange.specs.Words.{same_demand, word_kept}
use Rattle.entry_locks.specs.declared.locking.Locked.TheVariants.{Table}
use Rattle.exchange_laws.proofs.Unlocking.{lock_came}
use Rattle.foreign_map.specs.declared.owners.Owners.{Owners}
use Rattle.mmu_update.specs.Course.{entry_update}
use Rattle.mmu_update.specs.Elements.{update_request}
use Rattle.mmu_update.specs.Fits.{Updates}
use Rattle.mmu_update.specs.declared.element.Element.TheVariants.{Write}
use Rattle.partial_state.specs.Levels.{level_type}
use Rattle.table_entries.specs.Acquiring.{Acquired}
use Rattle.table_words.specs.OldWords.{old_place}
use Rattle.table_words.specs.declared.old_words.OldWord.TheVariants.{First}
use Rattle.table_law.specs.Alone.{take_reference}
use Rattle.table_law.specs.Lawful.{IsAtRest}
use Rattle.table_law.specs.Plain.{Describes, Plain, raised_share, with_share}
use Rattle.course_laws.proofs.Awaiting.{AloneStays, alone_orderly}
use Rattle.course_laws.proofs.Lending.{Lent}
use Rattle.course_laws.proofs.Stopping.{acquired_came}
use Rattle.refusal_laws.specs.Repeated as repeated
use Rattle.refusal_laws.specs.Repeated.{PausedCalls}
use Rattle.script_law.specs.Frames.{under_lock}
use Rattle.script_law.specs.Values.{Solo}
use Rattle.solo_ports.specs.Standing.{Clean, StaysAlike}
use Rattle.solo_ports.proofs.Along.{stands_on, follows_itself}
use Rattle.solo_ports.proofs.Resting.{clean_rests}
use Rattle.solo_entries.proofs.Begun.{begun_there, kept_there, owner_alive, second_stays}
use Rattle.solo_entries.proofs.Demanding.{PausedDemand}
use Rattle.solo_entries.proofs.Known.{Known}
use Rattle.solo_entries.proofs.Locking.{at_y, calm_y, came_y, can_lock, kind_is, lends}
use Rattle.solo_entries.proofs.Olds.{keeps_then, locked_keeps, ref_keeps, two_five, two_four}
use Rattle.solo_entries.proofs.Relocking.{unlocked_alike}
use Rattle.solo_entries.proofs.Serving.{write_quiet}
use Rattle.solo_entries.proofs.Writes.{PausedWrite}
use Rattle.solo_entries.proofs.Writing.{PausedExchange, saw_came, saw_few, saw_it, saw_words}

-- of a table the tables' own domain is asked
pub owner_two : (level a b : ℕ) → 2 ≤ level → owner_at level a b ≡ a
owner_two level a b two = let e : (level == 1) ≡ false = grind (arith, nat_tests) in ap (λ c. if c then b else a) e

module _ (k : Known) (v w : PortValue) (x : Solo) (o : Owners) (f i word : ℕ) (keep : Bool) (answers : List Bool) (r : Result (Unit {0}) Stop) (clean : Clean v x) (real : o.tables < length v.post.machine.page_limit) (alive : x.lives o.tables ≡ 0)
    (u : Updates o (Write f i word keep) v w answers r) (a : PausedWrite v w o f i word keep answers r) where
  abbrev n : Machine
  n = v.post.machine

  abbrev y : PortValue
  y = a.held

  abbrev paused : PausedExchange y w (entry_update f a.level i word keep) o answers r
  paused = a.paused

  abbrev c : PortValue
  c = paused.looked

  abbrev z : PortValue
  z = paused.left

  abbrev asked : PausedDemand c (owner_at a.level o.tables o.frames) a.level (demand_at (level_type a.level) i (word_kept keep paused.seen word)) z answers r
  asked = paused.paused

  abbrev calm : IsAtRest v.post.machine (told_word v)
  calm = clean_rests v x clean

  telling : is_telling v ≡ true
  telling = alone_telling v clean.stands.alone

  abbrev lent_so : Lent v.post.machine f x.frames (take_reference v.post.machine o.tables f x.frames)
  lent_so = lends k v a.referred a.held x.frames o.tables f a.level a.found clean.stands.machine clean.stands.alone (clean_rests v x clean) clean.frames a.ref a.lock

  abbrev taken : Plain
  taken = with_share f (raised_share lent_so.share) x.frames

  described : Describes n (told_word y) (under_lock f taken)
  described = at_y k v a.referred y x.frames o.tables f a.level a.found clean.stands.machine clean.stands.alone calm clean.frames a.ref a.lock

  calm_there : IsAtRest n (told_word y)
  calm_there = calm_y k v a.referred y x.frames o.tables f a.level a.found clean.stands.machine clean.stands.alone calm clean.frames a.ref a.lock

  to_y : Came v y
  to_y = came_y k v a.referred y x.frames o.tables f a.level a.found clean.stands.machine clean.stands.alone calm clean.frames a.ref a.lock

  to_c : Came v c
  to_c = came_trans v y c to_y (saw_came y c f i paused.seen paused.saw)

  telling_y : is_telling y ≡ true
  telling_y = came_telling v y to_y ∙ telling

  words : told_word c ≡ told_word y
  words = saw_words y c f i paused.seen paused.saw telling_y

  alone_c : IsAlone c
  alone_c = k.stays v c clean.stands.alone to_c

  there : (P : Machine → Words → Type 0) → P n (told_word y) → P c.post.machine (told_word c)
  there P is = subst (λ (j : Machine). P j (told_word c)) (sym (same_machine v c to_c)) (subst (P n) (sym words) is)

  cell : x.frames.cells f i ≡ paused.seen
  cell = described.cells f i lent_so.inside (saw_few y c f i paused.seen paused.saw) ∙ saw_it y c f i paused.seen paused.saw telling_y

  first_c : told_word c (old_place c.post.vcpu First) ≡ 0
  first_c =
      let same = (keeps_then v.post.vcpu 2 two_four two_five (ref_keeps v.post.vcpu 2 two_four two_five v a.referred f o.tables (Ok f) a.ref) (locked_keeps v.post.vcpu 2 two_four two_five a.referred y f o.tables (Ok (Table a.level a.found)) a.lock) telling).same in
      subst (λ (j : Post). told_word c (old_place j.vcpu First) ≡ 0) (sym (came_post v c to_c)) (ap (λ (m : Words). m (old_place v.post.vcpu First)) words ∙ (same ∙ clean.first))

  abbrev began : HasBegun v.post.machine v.post.vcpu o f i word keep x
  began =
      record {
        level = a.level;
        two = asked.two;
        high = a.high;
        open_slot = a.open_slot;
        lockable = can_lock k v a.referred y x.frames o.tables f a.level a.found clean.stands.machine clean.stands.alone calm clean.frames a.ref a.lock;
        typed = kind_is k v a.referred y x.frames o.tables f a.level a.found clean.stands.machine clean.stands.alone calm clean.frames a.ref a.lock;
        taken = taken;
        takes = lent_so.is;
        asked = asked.table;
        asks = subst (λ e. demand_at (level_type a.level) i (word_kept keep e word) ≡ Typed asked.table (level_type (a.level - 1))) (sym cell) asked.asks;
        differ = subst (λ e. same_demand (demand_at (level_type a.level) i (word_kept keep e word)) (demand_at (level_type a.level) i e) ≡ false) (sym cell) paused.differ;
        from = c;
        machine = same_machine v c to_c;
        vcpu = ap (λ (j : Post). j.vcpu) (came_post v c to_c);
        rest = there IsAtRest calm_there;
        orderly = alone_orderly c alone_c;
        clear = first_c;
        frames = there (λ m l. Describes m l (under_lock f taken)) described;
      }

  had : Acquired c asked.table o.tables (a.level - 1) z answers (Err (Paused Due))
  had = subst (λ d. Acquired c asked.table d (a.level - 1) z answers (Err (Paused Due))) (owner_two a.level o.tables o.frames asked.two) asked.acquired

  came_z : Came c z
  came_z = acquired_came c asked.table o.tables (a.level - 1) z answers (Err (Paused Due)) had

  telling_c : is_telling c ≡ true
  telling_c = came_telling v c to_c ∙ telling

  calls : PausedCalls asked.table o.tables (a.level - 1) c z
  calls =
      repeated.first z z answers telling_c had
      (owner_alive v w c z x o.tables (update_request o (Write f i word keep) r) u.serves.0 clean.stands real alive u.serves.2 refl to_c (lock_came z w f a.level paused.off_it))
      (follows_itself z (came_telling c z came_z ∙ telling_c))

  pub keeps_paused : (r ≡ Err (Paused Due)) × KeepsEntry o f i word keep w x
  keeps_paused = (
    asked.paused,
    kept_there k v z w x o f i word keep began clean.stands (came_trans v c z to_c came_z) calls paused.off_it
        (second_stays v a.referred y c z f i o.tables o.tables (Table a.level a.found) paused.seen asked.table (a.level - 1) answers (Err (Paused Due)) telling a.ref a.lock paused.saw had)
        (update_request o (Write f i word keep) r) u.serves.0 u.serves.2 (write_quiet v.post.machine v.post.vcpu o f i word keep r u.serves.0 u.serves.1) u.rests,
  )

-- ---- it stands along steps that change stamps, the clock and the words of flushes alone
pub keeps_entry_on : AloneStays → (o : Owners) (f i word : ℕ) (keep : Bool) (v w : PortValue) (x : Solo) → StaysAlike v w → KeepsEntry o f i word keep v x → KeepsEntry o f i word keep w x
keeps_entry_on stays o f i word keep v w x on e =
    let post = came_post v w on.came in
    let same : w.post.machine ≡ v.post.machine = same_machine v w on.came in
    let b = e.begun in
    record {
      stands = stands_on stays v w x on e.stands;
      first = subst (λ (j : Post). told_word w (old_place j.vcpu First) ≡ 0) (sym post) (on.words (old_place v.post.vcpu First) two_four two_five ∙ e.first);
      begun = begun_there v.post.machine w.post.machine v.post.vcpu w.post.vcpu o f i word keep x same (ap (λ (j : Post). j.vcpu) post) b;
      locked = e.locked;
      calls = e.calls;
      unlocked = subst (λ (m : Machine). IsUnlockedTable m f o.tables b.level (told_word w) (told_word e.locked)) (sym same) (unlocked_alike v.post.machine f o.tables b.level (told_word w) (told_word v) (told_word e.locked) on.words e.unlocked);
    }
