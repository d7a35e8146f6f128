-- The exchange of an entry of a locked table, behind the look at its word, comes to the plain exchange.
use Rattle.solo_entries.specs.Exchanges.{ComesSo, HasTwoTypeCounts, LeavesFrames, RefusedSo, now}
use Rattle.std.proofs.Common.{◌≡◌, ◌≤◌, ◌<◌, ℕ, suc, ◌-◌, Bool, true, false, List, Result, Ok, Err, refl, sym, ap, ◌∙◌, subst, arith}
use Rattle.xp_words.specs.Entries.{demand_at}
use Rattle.xp_words.specs.Machine.{IsMachine, Machine}
use Rattle.xp_words.specs.declared.entry.Demand.{Demand}
use Rattle.xp_words.specs.declared.entry.Demand.TheVariants as demands
use Rattle.xp_words.specs.declared.kind.PageType.{PageType}
use Rattle.xp_words.specs.declared.reply.Refusal.{Refusal}
use Rattle.xp_words.specs.declared.reply.Refusal.TheVariants as refusals
use Rattle.xp_words.specs.declared.reply.Stop.{Stop}
use Rattle.xp_words.specs.declared.reply.Stop.TheVariants.{Refused}
use Rattle.xp_board.specs.Told.{Post, PortValue, is_telling, told_word}
use Rattle.step_maker.specs.Moves.{Came}
use Rattle.step_maker.proofs.Coming.{came_post}
use Rattle.step_maker.proofs.Telling.{came_telling}
use Rattle.entry_exchange.specs.Course.{LeftLock, PutsNew, ReleasedDemand, TookNew, new_demand, old_demand}
use Rattle.entry_exchange.specs.Holding.{owner_at}
use Rattle.entry_exchange.specs.Words.{same_demand, word_kept}
use Rattle.entry_exchange.specs.declared.exchanging.EntryUpdate.{EntryUpdate}
use Rattle.exchange_laws.specs.Plain.{exchanged_plain, place_in}
use Rattle.exchange_laws.proofs.Cells.{meet_keeps}
use Rattle.exchange_laws.proofs.Exchanging.{by_other, same_good, took_good}
use Rattle.exchange_laws.proofs.Putting.{entry_put, put_came}
use Rattle.exchange_laws.proofs.Unlocking.{lock_came}
use Rattle.foreign_map.specs.declared.owners.Owners.{Owners}
use Rattle.partial_state.specs.Levels.{level_type}
use Rattle.table_law.specs.Alone.{PlainOutcome, back_or, fine, meet, take_at}
use Rattle.table_law.specs.Exchange.{exchange_by, exchange_for, put_on, unlocked_plain, with_cell}
use Rattle.table_law.specs.Plain.{Describes, Plain}
use Rattle.table_law.specs.Release.{drop_demand, let_go}
use Rattle.table_law.specs.Undone.{CountsSome}
use Rattle.table_law.proofs.Counting.{asks_at}
use Rattle.table_words.specs.OldWords.{old_place}
use Rattle.table_words.specs.declared.old_words.OldWord.TheVariants.{First}
use Rattle.solo_entries.proofs.Demanding.{TookSo}
use Rattle.solo_entries.proofs.Exchanging.{demand_left, held_meet, unlocked_left}
use Rattle.solo_entries.proofs.Known.{Known}
use Rattle.solo_entries.proofs.Olds.{puts_keeps, two_five, two_four}
use Rattle.solo_entries.proofs.Locking.{lock_goes, lock_leaves, unlocked_off}
use Rattle.exchange_laws.proofs.Going.{demand_came}

pub held_cell : (f g i word : ℕ) (p : Plain) → HasTwoTypeCounts f p → HasTwoTypeCounts f (with_cell g i word p)
held_cell f g i word p held = record { live = held.live; several = held.several }

-- ---- at a table that q has locked, of whose entry that word was seen
module _ (k : Known) (n : Machine) (x : EntryUpdate) (o : Owners) (q : Plain) (seen : ℕ) (low : 1 ≤ x.level) (high : x.level ≤ 4) (machine : IsMachine n) (counts : CountsSome n q) (held : HasTwoTypeCounts x.table q) (cell : q.cells x.table x.index ≡ seen) where
  abbrev owner : ℕ
  owner = owner_at x.level o.tables o.frames

  abbrev new : ℕ
  new = word_kept x.keep seen x.word

  abbrev d : Demand
  d = new_demand x seen

  abbrev old : Demand
  old = old_demand x seen

  abbrev whole : PlainOutcome
  whole = exchange_by n (owner_at x.level o.tables o.frames) (place_in x) (word_kept x.keep seen x.word) (old_demand x seen) q (new_demand x seen)

  is_whole : exchanged_plain n x o q ≡ whole
  is_whole = ap (λ c. exchange_by n owner (place_in x) (word_kept x.keep c x.word) (demand_at (level_type x.level) x.index c) q (demand_at (level_type x.level) x.index (word_kept x.keep c x.word))) cell

  whole_by : (b : Bool) → (d ≡ demands.Bad → ⊥) → same_demand d old ≡ b → exchanged_plain n x o q ≡ exchange_for n owner (place_in x) new old q d b
  whole_by b good is = is_whole ∙ (by_other n owner x new old q d good ∙ ap (exchange_for n owner (place_in x) new old q d) is)

  abbrev unlock : Plain → Plain
  unlock = unlocked_plain x.level x.table

  -- ---- a port of that machine, which tells all words
  record IsOn (u : PortValue) : Type 0 where
    pub same : u.post.machine ≡ n
    pub tells : is_telling u ≡ true

  goes_on : (u w : PortValue) → IsOn u → Came u w → IsOn w
  goes_on u w on came = record { same = ap (λ (j : Post). j.machine) (came_post u w came) ∙ on.same; tells = came_telling u w came ∙ on.tells }

  -- the lock goes off from words that are those of a value by which the table is held
  off_left : (z w : PortValue) (p : Plain) → IsOn z → HasTwoTypeCounts x.table p → LeftLock z x.table x.level w → LeavesFrames n z p → LeavesFrames n w (unlock p)
  off_left z w p on h lock left = subst (LeavesFrames n w) (sym (unlocked_off x.level x.table p h)) (unlocked_left k n z w x.table x.level p on.same on.tells low h lock left)

  -- the first old word behind an entry that is put
  first_put : (u y : PortValue) (r : Result ℕ Stop) → is_telling u ≡ true → told_word u (old_place u.post.vcpu First) ≡ 0 → PutsNew u y x seen r → told_word y (old_place y.post.vcpu First) ≡ 0
  first_put u y r tells first puts = let a = puts_keeps u.post.vcpu 2 two_four two_five u y x.table x.index seen new x.keep r puts tells in subst (λ (j : Post). told_word y (old_place j.vcpu First) ≡ 0) (sym (came_post u y a.came)) (a.same ∙ first)

  off_now : (z w : PortValue) (p : Plain) → IsOn z → HasTwoTypeCounts x.table p → LeftLock z x.table x.level w → told_word z (old_place z.post.vcpu First) ≡ 0 → Describes n (told_word z) p → (told_word w (old_place w.post.vcpu First) ≡ 0) × Describes n (told_word w) (unlock p)
  off_now z w p on h lock first at = (
    subst (λ (j : Post). told_word w (old_place j.vcpu First) ≡ 0) (sym (came_post z w (lock_came z w x.table x.level lock))) (lock_leaves n z w x.table x.level p on.same on.tells at h lock (old_place z.post.vcpu First) refl (λ e. cc) ∙ first),
    subst (Describes n (told_word w)) (sym (unlocked_off x.level x.table p h)) (lock_goes n z w x.table x.level p on.same on.tells at h low lock),
  )

  -- ---- it asks what it may not
  pub bad_comes : (u w : PortValue) → u.post.machine ≡ n → is_telling u ≡ true → LeavesFrames n u q → d ≡ demands.Bad → LeftLock u x.table x.level w → ComesSo n w (exchanged_plain n x o q) (Err (Refused (refusals.Reserved x.table x.index new)))
  bad_comes u w same tells left bad lock =
      let is : exchanged_plain n x o q ≡ exchange_by n owner (place_in x) new old q demands.Bad = is_whole ∙ ap (exchange_by n owner (place_in x) new old q) bad in
      subst (λ a. RefusedSo n w (refusals.Reserved x.table x.index new) a) (sym is)
      (record { cause = _; is = refl; same = (refl, refl, refl); left = off_left u w q (record { same = same; tells = tells }) held lock left })

  -- ---- both ask the same
  pub same_comes : (u y w : PortValue) (was : ℕ) → u.post.machine ≡ n → is_telling u ≡ true → told_word u (old_place u.post.vcpu First) ≡ 0 → Describes n (told_word u) q → same_demand d old ≡ true → PutsNew u y x seen (Ok was) → LeftLock y x.table x.level w →
      ComesSo n w (exchanged_plain n x o q) (Ok tt)
  same_comes u y w was same tells first at alike puts lock =
      let put = entry_put n u y x.table x.index seen new x.keep (Ok was) q tells at puts in
      let on = goes_on u y (record { same = same; tells = tells }) (put_came u y x.table x.index seen new x.keep (Ok was) puts) in
      subst (λ a. ComesSo n w a (Ok tt)) (sym (whole_by true (same_good d old alike) alike))
      (refl, off_left y w (with_cell x.table x.index new q) on (held_cell x.table x.table x.index new q held) lock (now (first_put u y (Ok was) tells first puts) put.1))

  -- ---- what the new one asks is taken first
  abbrev taking : PlainOutcome
  taking = meet n (owner_at x.level o.tables o.frames) (take_at (x.level - 1) n (owner_at x.level o.tables o.frames)) x.table x.index q (new_demand x seen)

  held_taking : HasTwoTypeCounts x.table taking.left
  held_taking = held_meet n owner x.table q counts held (x.level - 1) x.table x.index d

  took_on : (u y : PortValue) (answers : List Bool) (r : Result (Unit {0}) Stop) → IsOn u → TookNew u y x o seen answers r → IsOn y
  took_on u y answers r on a = goes_on u y on (demand_came owner x.level u d y answers r a)

  -- what is not to be had
  pub untaken_comes : (u y w : PortValue) (answers : List Bool) (z : Refusal) → u.post.machine ≡ n → is_telling u ≡ true → same_demand d old ≡ false → TookNew u y x o seen answers (Err (Refused z)) → TookSo {A = Unit {0}} n y taking (Err (Refused z)) → LeftLock y x.table x.level w →
      ComesSo n w (exchanged_plain n x o q) (Err (Refused z))
  untaken_comes u y w answers z same tells differ a took lock =
      let on = took_on u y answers (Err (Refused z)) (record { same = same; tells = tells }) a in
      let is = whole_by false (took_good owner x.level u d y answers (Err (Refused z)) a) differ ∙ ap (λ r. back_or r taking.left unlock (λ p. fine (put_on (place_in x) new old p))) took.is in
      subst (λ b. RefusedSo n w z b) (sym is) (record { cause = took.cause; is = refl; same = took.same; left = off_left y w taking.left on held_taking lock took.left })

  asks : (was g : ℕ) (t : PageType) → old_demand x was ≡ demands.Typed g t → t ≡ level_type (x.level - 1)
  asks was g t is =
      let e : x.level ≡ suc (x.level - 1) = omega (arith, low) in
      asks_at (x.level - 1) x.index was g t (omega (arith, high)) (subst (λ j. demand_at (level_type j) x.index was ≡ demands.Typed g t) e is)

  -- the word is put there, the lock goes off, and what the old one asked is released
  pub done_comes : (u y z a w : PortValue) (was : ℕ) (answers more : List Bool) → u.post.machine ≡ n → is_telling u ≡ true → x.table < n.frames → x.index < 512 → same_demand d old ≡ false → TookNew u y x o seen answers (Ok tt) → TookSo {A = Unit {0}} n y taking (Ok tt) → PutsNew y z x seen (Ok was) →
      LeftLock z x.table x.level a → ReleasedDemand a (old_demand x was) w more → ComesSo n w (exchanged_plain n x o q) (Ok tt)
  done_comes u y z a w was answers more same tells frame few differ took so puts lock gone =
      let on_y = took_on u y answers (Ok tt) (record { same = same; tells = tells }) took in
      let put = entry_put n y z x.table x.index seen new x.keep (Ok was) taking.left on_y.tells so.2 puts in
      let is : was ≡ seen = sym put.0 ∙ (sym (so.2.cells x.table x.index frame few) ∙ (meet_keeps n owner (x.level - 1) x.table x.index q d so.0 x.table x.index ∙ cell)) in
      let on_z = goes_on y z on_y (put_came y z x.table x.index seen new x.keep (Ok was) puts) in
      let stored = with_cell x.table x.index new taking.left in
      let free = unlock stored in
      let on_a = goes_on z a on_z (lock_came z a x.table x.level lock) in
      let left = off_now z a stored on_z (held_cell x.table x.table x.index new taking.left held_taking) lock (first_put y z (Ok was) on_y.tells so.1 puts) put.1 in
      let gave = demand_left k n a machine on_a.same on_a.tells (x.level - 1) (omega (arith, high)) free left.0 left.1 (old_demand x was) w more (asks was) gone in
      subst (λ b. ComesSo n w b (Ok tt)) (sym (whole_by false (took_good owner x.level u d y answers (Ok tt) took) differ ∙ ap (λ r. back_or r taking.left unlock (λ p. fine (put_on (place_in x) new old p))) so.0))
      (refl, subst (λ c. LeavesFrames n w (drop_demand (let_go (x.level - 1)) free (old_demand x c))) is gave)
