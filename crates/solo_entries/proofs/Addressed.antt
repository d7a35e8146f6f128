-- An update of the entry of level 1 that maps an address, from a port at which nothing is left to be settled, comes to its plain meaning.
use Rattle.solo_entries.specs.Exchanges.{now}
use Rattle.std.proofs.Common.{◌≡◌, ◌≢◌, ◌<◌, ℕ, zero, suc, ◌&&◌, if◌then◌else◌, Bool, true, false, List, None, Result, Ok, Err, refl, sym, ap, ◌∙◌, subst, arith, inl, inr}
use Rattle.xp_words.specs.KindWords.{kind_fields}
use Rattle.xp_words.specs.Machine.{Machine}
use Rattle.xp_words.specs.declared.kind.PageType.TheVariants as kinds
use Rattle.xp_words.specs.declared.place.Place.TheVariants.{Cell, Kind, Refs}
use Rattle.xp_words.specs.declared.reply.Refusal.{Refusal}
use Rattle.xp_words.specs.declared.reply.Refusal.TheVariants as refusals
use Rattle.xp_words.specs.declared.reply.Stop.{Stop}
use Rattle.xp_words.specs.declared.reply.Stop.TheVariants.{Refused, Paused}
use Rattle.xp_board.specs.Readings.{is_type}
use Rattle.xp_board.specs.Told.{Post, PortValue, is_telling, told_word}
use Rattle.step_maker.specs.Moves.{Came}
use Rattle.step_maker.specs.Plain.{Leaves}
use Rattle.step_maker.proofs.Alikes.{same_alike}
use Rattle.step_maker.proofs.Coming.{came_post, came_trans, met_after, moves_came}
use Rattle.step_maker.proofs.Telling.{came_telling}
use Rattle.step_maker.proofs.Visiting.{does_came}
use Rattle.answer_laws.proofs.Shared.{alone_telling}
use Rattle.entry_exchange.specs.Course as course
use Rattle.entry_exchange.specs.Course.{Exchanged, LeftLock, old_demand}
use Rattle.entry_exchange.specs.Holding.{owner_at}
use Rattle.entry_exchange.specs.Words.{word_kept}
use Rattle.entry_exchange.specs.declared.exchanging.EntryUpdate.{EntryUpdate}
use Rattle.entry_locks.specs.Locks.{is_lockable}
use Rattle.entry_locks.specs.declared.locking.Locked.{Locked}
use Rattle.entry_locks.specs.declared.locking.Locked.TheVariants.{Table, Other}
use Rattle.exchange_laws.proofs.Going.{demand_came}
use Rattle.exchange_laws.proofs.Putting.{put_came}
use Rattle.exchange_laws.proofs.Unlocking.{lock_came}
use Rattle.foreign_map.specs.declared.owners.Owners.{Owners}
use Rattle.frame_words.specs.Plain.{got, put, refer}
use Rattle.mmu_update.specs.Addresses as ways
use Rattle.mmu_update.specs.Addresses.{EnteredAt, UpdatedAt, of_at}
use Rattle.mmu_update.specs.Course.{TriedLock, entry_update}
use Rattle.mmu_update.specs.UpdatesAt.{UpdatesAt}
use Rattle.mmu_update.proofs.Leading.{leads_came}
use Rattle.partial_state.specs.Levels.{level_type}
use Rattle.table_entries.specs.Acquiring.{GaveRef, GotRef}
use Rattle.table_entries.proofs.Shared.{gave_came, ref_came}
use Rattle.table_law.specs.Alone.{OtherType}
use Rattle.table_law.specs.Plain.{Describes, sober}
use Rattle.table_twins.proofs.Kinding.{described_alike}
use Rattle.table_words.specs.OldWords.{old_place}
use Rattle.table_words.specs.declared.old_words.OldWord.TheVariants.{First, Second}
use Rattle.tlb_walks.specs.Addresses.{index_of, walk_refusal}
use Rattle.course_laws.specs.Courses.{ClockGoesOn}
use Rattle.script_law.specs.Frames.{write_entry}
use Rattle.script_law.specs.Values.{Frames, Numbers, Outcome, Solo, allowed, looked_by, stopped}
use Rattle.script_law.specs.Walks.{table_at, update_entry}
use Rattle.solo_ports.specs.Coming.{ComesUnpaused, IsRefusedSo}
use Rattle.solo_ports.specs.Standing.{Clean, Owes, ShowsOthers, nothing}
use Rattle.solo_ports.proofs.Resting.{clean_rests}
use Rattle.solo_accesses.specs.Walking.{LoadsCome}
use Rattle.solo_accesses.proofs.Loading.{loads_come}
use Rattle.solo_entries.proofs.Exchanging.{given_came}
use Rattle.solo_entries.proofs.Known.{Known}
use Rattle.solo_entries.proofs.Locking.{lends}
use Rattle.solo_entries.proofs.Mapping.{fine_by, looked_at, unlooked}
use Rattle.solo_entries.proofs.Memory as memory
use Rattle.solo_entries.proofs.Olds.{gave_keeps, keeps_then, locked_keeps, ref_keeps, three_five, three_four, two_five, two_four}
use Rattle.solo_entries.proofs.Serving.{at_quiet}
use Rattle.solo_entries.proofs.Standing.{KeepsOthers, keeps_others, owes_same}
use Rattle.solo_entries.proofs.Stopping.{IsNotLost, never_lost_alone}
use Rattle.solo_entries.proofs.Writes as writes
use Rattle.solo_entries.proofs.Writing.{owes_left, put_lost}

-- ---- levels
other_level : (l : ℕ) → l ≢ 1 → is_type (level_type l) kinds.L1 ≡ false
other_level zero off = refl
other_level (suc zero) off = absurd (off refl)
other_level (suc (suc zero)) off = refl
other_level (suc (suc (suc zero))) off = refl
other_level (suc (suc (suc (suc l)))) off = refl

-- ---- steps of one port
-- an exchange that was not lost
exchange_came : (y w : PortValue) (t : EntryUpdate) (o : Owners) (answers : List Bool) (answer : Result (Unit {0}) Stop) → is_telling y ≡ true → IsNotLost answer → Exchanged y t o w answers answer → Came y w
exchange_came y _ t o _ _ tells unlost (course.bad u w seen saw bad lock) = came_trans y u w (moves_came y u _ _ _ _ _ saw) (lock_came u w t.table t.level lock)
exchange_came y _ t o _ _ tells unlost (course.same u z w seen was saw alike puts lock) =
    came_trans y u w (moves_came y u _ _ _ _ _ saw) (came_trans u z w (put_came u z t.table t.index seen (word_kept t.keep seen t.word) t.keep (Ok was) puts) (lock_came z w t.table t.level lock))
exchange_came y _ t o _ _ tells unlost (course.unput u z w seen stop saw alike puts lock) = absurd (put_lost u z t.table t.index seen (word_kept t.keep seen t.word) t.keep (Err stop) puts stop refl unlost)
exchange_came y _ t o _ _ tells unlost (course.untaken u z w seen answers stop saw differ took lock) =
    came_trans y u w (moves_came y u _ _ _ _ _ saw) (came_trans u z w (demand_came (owner_at t.level o.tables o.frames) t.level u _ z answers (Err stop) took) (lock_came z w t.table t.level lock))
exchange_came y _ t o _ _ tells unlost (course.lost u z a b w seen answers stop saw differ took puts gave lock) = absurd (put_lost z a t.table t.index seen (word_kept t.keep seen t.word) t.keep (Err stop) puts stop refl unlost)
exchange_came y _ t o _ _ tells unlost (course.done u z a b w seen was answers more saw differ took puts lock gone) =
    let to_z = came_trans y u z (moves_came y u _ _ _ _ _ saw) (demand_came (owner_at t.level o.tables o.frames) t.level u _ z answers (Ok tt) took) in
    let to_b = came_trans y a b (came_trans y z a to_z (put_came z a t.table t.index seen (word_kept t.keep seen t.word) t.keep (Ok was) puts)) (lock_came a b t.table t.level lock) in
    came_trans y b w to_b (given_came b (old_demand t was) w more (came_telling y b to_b ∙ tells) gone)

tried_came : (v u y : PortValue) (f owner : ℕ) (r : Result Locked Stop) → GotRef v u f owner (Ok f) → TriedLock u y f owner r → Came v y
tried_came v u y f owner r ref lock = came_trans v u y (ref_came v u f owner (Ok f) ref) (does_came u y _ lock.found)

entered_came : (v w : PortValue) (o : Owners) (f i word : ℕ) (answers : List Bool) (answer : Result (Unit {0}) Stop) → is_telling v ≡ true → IsNotLost answer → EnteredAt v o f i word w answers answer → Came v w
entered_came v _ o f i word _ _ tells unlost (ways.unreferred w stop ref) = ref_came v w f o.tables (Err stop) ref
entered_came v _ o f i word _ _ tells unlost (ways.unlocked u y w stop ref lock gave) = came_trans v y w (tried_came v u y f o.tables (Err stop) ref lock) (gave_came y w f gave)
entered_came v _ o f i word _ _ tells unlost (ways.other u y w found ref lock gave) = came_trans v y w (tried_came v u y f o.tables (Ok (Other found)) ref lock) (gave_came y w f gave)
entered_came v _ o f i word _ _ tells unlost (ways.level u y w level found ref lock off left) = came_trans v y w (tried_came v u y f o.tables (Ok (Table level found)) ref lock) (lock_came y w f level left)
entered_came v _ o f i word _ _ tells unlost (ways.exchanged u y w found answers answer ref lock went) =
    let to_y = tried_came v u y f o.tables (Ok (Table 1 found)) ref lock in
    came_trans v y w to_y (exchange_came y w (entry_update f 1 i word false) o answers answer (came_telling v y to_y ∙ tells) unlost went)

-- ---- the table is entered
module _ (k : Known) (v w : PortValue) (x : Solo) (o : Owners) (f va word : ℕ) (clean : Clean v x) (goes : ClockGoesOn v w) (others : KeepsOthers v w x) where
  abbrev n : Machine
  n = v.post.machine

  telling : is_telling v ≡ true
  telling = alone_telling v clean.stands.alone

  -- what the update is then, by whether the frame is a live table of level 1
  abbrev here : Bool → Outcome
  here b = if b then write_entry v.post.machine o f (index_of va 1) word false x else stopped (Frames (OtherType f kinds.L1 (x.frames.kinds f))) x

  abbrev looked_so : Solo → Outcome
  looked_so s =
      if is_lockable (s.frames.kinds f) && is_type (s.frames.kinds f).kind kinds.L1 then write_entry v.post.machine o f (index_of va 1) word false s
      else stopped (Frames (OtherType f kinds.L1 (s.frames.kinds f))) s

  is_here : refer n o.tables f (told_word v (Refs f)) ≡ None → update_entry n o va word x (Ok f) ≡ here (is_lockable (x.frames.kinds f) && is_type (x.frames.kinds f).kind kinds.L1)
  is_here none = ap (λ t. looked_by t x looked_so) (fine_by k v w x clean o.tables f none)

  -- it is none
  refused_type : (found : ℕ) → refer n o.tables f (told_word v (Refs f)) ≡ None → f < n.frames → found ≡ told_word v (Kind f) → (is_lockable (x.frames.kinds f) && is_type (x.frames.kinds f).kind kinds.L1) ≡ false → Owes w x →
      IsRefusedSo w (refusals.OtherType f kinds.L1 found) (update_entry n o va word x (Ok f))
  refused_type found none inside is off owes =
      let same : sober (kind_fields found) ≡ x.frames.kinds f = ap (λ z. sober (kind_fields z)) is ∙ sym (clean.frames.kinds f inside) in
      subst (IsRefusedSo w (refusals.OtherType f kinds.L1 found)) (sym (is_here none ∙ ap here off))
      (record { why = Frames (OtherType f kinds.L1 (x.frames.kinds f)); is = refl; same = (refl, refl, same); none = refl; owes = owes })

  -- ---- the reference is not to be had
  unreferred : (e : Stop) → GotRef v w f o.tables (Err e) → ComesUnpaused w (update_entry n o va word x (Ok f)) (Err e)
  unreferred (Refused z) ref = unlooked k v w x clean o.tables f z looked_so (ref.plain telling).0 (owes_same k v w x clean others.came (ref.plain telling).1 others.rests)
  unreferred (Paused z) ref = absurd (ref.plain telling)

  -- ---- a frame that is no live table
  module _ (u y : PortValue) (found : ℕ) (ref : GotRef v u f o.tables (Ok f)) (lock : TriedLock u y f o.tables (Ok (Other found))) (gave : GaveRef y w f) where
    found_is : found ≡ told_word v (Kind f)
    found_is = (lock.plain (came_telling v u (ref_came v u f o.tables (Ok f) ref) ∙ telling)).0 ∙ (ref.plain telling).1 (Kind f)

    to_y : Came v y
    to_y = tried_came v u y f o.tables (Ok (Other found)) ref lock

    words : Leaves y (got f (told_word v))
    words = memory.words k v w x o f 0 0 false clean u y found ref lock

    none : refer n o.tables f (told_word v (Refs f)) ≡ None
    none = (ref.plain telling).0

    -- the reference is given back, and all words are as before
    given : Describes n (told_word w) x.frames
    given =
        described_alike n (told_word w) (put f (told_word y)) x.frames (same_alike (told_word w) (put f (told_word y)) (gave.plain (came_telling v y to_y ∙ telling)))
        (looked_at n (told_word v) (told_word y) x.frames o.tables f clean.stands.machine clean.frames none (λ g. words (Refs g)) (λ g. words (Kind g)) (λ g i. words (Cell g i)))

    first : told_word w (old_place v.post.vcpu First) ≡ told_word v (old_place v.post.vcpu First)
    first =
        (keeps_then v.post.vcpu 2 two_four two_five (ref_keeps v.post.vcpu 2 two_four two_five v u f o.tables (Ok f) ref)
        (keeps_then v.post.vcpu 2 two_four two_five (locked_keeps v.post.vcpu 2 two_four two_five u y f o.tables (Ok (Other found)) lock) (gave_keeps v.post.vcpu 2 two_four two_five y w f gave)) telling).same

    second : told_word w (old_place v.post.vcpu Second) ≡ told_word v (old_place v.post.vcpu Second)
    second =
        (keeps_then v.post.vcpu 3 three_four three_five (ref_keeps v.post.vcpu 3 three_four three_five v u f o.tables (Ok f) ref)
        (keeps_then v.post.vcpu 3 three_four three_five (locked_keeps v.post.vcpu 3 three_four three_five u y f o.tables (Ok (Other found)) lock) (gave_keeps v.post.vcpu 3 three_four three_five y w f gave)) telling).same

    other : IsRefusedSo w (refusals.OtherType f kinds.L1 found) (update_entry n o va word x (Ok f))
    other =
        refused_type found none (memory.real k v w x o f 0 0 false clean u y found ref lock) found_is
        (ap (λ b. b && is_type (x.frames.kinds f).kind kinds.L1) (memory.ordinary k v w x o f 0 0 false clean u y found ref lock))
        (owes_left k v w x clean.stands others second x.frames clean.stands.unkept (now (subst (λ (j : Post). told_word w (old_place j.vcpu First) ≡ 0) (sym (came_post v w others.came)) (first ∙ clean.first)) given))

  -- ---- a live table
  module _ (u y : PortValue) (level found : ℕ) (ref : GotRef v u f o.tables (Ok f)) (lock : TriedLock u y f o.tables (Ok (Table level found))) where
    by_type : (b : Bool) → is_type (level_type level) kinds.L1 ≡ b → (is_lockable (x.frames.kinds f) && is_type (x.frames.kinds f).kind kinds.L1) ≡ b
    by_type b is =
        ap (λ c. c && is_type (x.frames.kinds f).kind kinds.L1) (writes.lockable k v w x o f (index_of va 1) word false clean goes others u y level found ref lock)
        ∙ (ap (λ t. is_type t kinds.L1) (writes.typed k v w x o f (index_of va 1) word false clean goes others u y level found ref lock) ∙ is)

    -- of another level
    of_level : level ≢ 1 → LeftLock y f level w → IsRefusedSo w (refusals.OtherType f kinds.L1 found) (update_entry n o va word x (Ok f))
    of_level apart left =
        refused_type found (ref.plain telling).0 (lends k v u y x.frames o.tables f level found clean.stands.machine clean.stands.alone (clean_rests v x clean) clean.frames ref lock).inside
        ((lock.plain (came_telling v u (ref_came v u f o.tables (Ok f) ref) ∙ telling)).0 ∙ (ref.plain telling).1 (Kind f)) (by_type false (other_level level apart))
        (writes.slot_left k v w x o f (index_of va 1) word false clean goes others u y level found ref lock left)

  -- ---- the whole
  pub entered_comes : (answers : List Bool) (answer : Result (Unit {0}) Stop) → IsNotLost answer → EnteredAt v o f (index_of va 1) word w answers answer → ComesUnpaused w (update_entry v.post.machine o va word x (Ok f)) answer
  entered_comes _ _ unlost (ways.unreferred _ stop ref) = unreferred stop ref
  entered_comes _ _ unlost (ways.unlocked u y _ stop ref lock gave) = absurd (writes.unlocked k v w x o f (index_of va 1) word false clean goes others u y stop ref lock)
  entered_comes _ _ unlost (ways.other u y _ found ref lock gave) = other u y found ref lock gave
  entered_comes _ _ unlost (ways.level u y _ level found ref lock apart left) = of_level u y level found ref lock apart left
  entered_comes _ _ unlost (ways.exchanged u y _ found answers answer ref lock went) =
      subst (λ t. ComesUnpaused w t answer) (sym (is_here (ref.plain telling).0 ∙ ap here (by_type u y 1 found ref lock true refl)))
      (elim (writes.entry_comes k v w x o f (index_of va 1) word false clean goes others u y 1 found ref lock (omega arith) answers answer went unlost) [
        | inl p ↦ absurd (let two = p.paused.two in omega (arith, two))
        | inr c ↦ c
      ])

-- ---- from where nothing is left
module _ (k : Known) (v w : PortValue) (x : Solo) (o : Owners) (va word : ℕ) (clean : Clean v x) (goes : ClockGoesOn v w) where
  abbrev update : Result ℕ Refusal → Outcome
  update t = update_entry v.post.machine o va word x t

  abbrev Plainly : Result (Unit {0}) Stop → Type 0
  Plainly answer = ComesUnpaused w (allowed (walk_refusal va) x (update_entry v.post.machine o va word x (table_at v.post.machine va x (x.own 0)))) answer

  -- the loads lead to no table
  unled : (e : Stop) → LoadsCome v.post.machine va x (Err e) → Clean w x → Plainly (Err e)
  unled (Refused z) (inl barred) left = subst (λ t. IsRefusedSo w z (allowed t x (update (table_at v.post.machine va x (x.own 0))))) (sym barred) (record { why = Numbers z; is = refl; same = refl; none = refl; owes = nothing left })
  unled (Refused z) (inr (free, is)) left =
      subst (λ t. IsRefusedSo w z (allowed t x (update (table_at v.post.machine va x (x.own 0))))) (sym free)
      (subst (λ t. IsRefusedSo w z (update t)) (sym is) (record { why = Numbers z; is = refl; same = refl; none = refl; owes = nothing left }))
  unled (Paused z) none left = absurd none

  -- they lead to one
  module _ (u : PortValue) (table : ℕ) (leads : ways.Leads v va u (Ok table)) where
    to_u : Came v u
    to_u = leads_came v u va (Ok table) leads

    loads : LoadsCome v.post.machine va x (Ok table) × Clean u x
    loads = loads_come k.stays v u x va clean (Ok table) leads

    led : (answers : List Bool) (answer : Result (Unit {0}) Stop) → Came u w → KeepsOthers v w x → IsNotLost answer → EnteredAt u o table (index_of va 1) word w answers answer → Plainly answer
    led answers answer came others unlost enters =
        let same = came_post v u to_u in
        let there = entered_comes k u w x o table va word loads.1 (λ m met at. goes m (met_after v u w m to_u met) at)
        (record { came = came; others = subst (λ (j : Post). ShowsOthers j.machine j.vcpu (told_word w) x) (sym same) others.others; rests = others.rests }) answers answer unlost enters in
        let here = subst (λ (j : Post). ComesUnpaused w (update_entry j.machine o va word x (Ok table)) answer) same there in
        subst (λ t. ComesUnpaused w (allowed t x (update (table_at v.post.machine va x (x.own 0)))) answer) (sym loads.0.0) (subst (λ t. ComesUnpaused w (update t) answer) (sym loads.0.1) here)

  updated_comes : (answers : List Bool) (answer : Result (Unit {0}) Stop) → UpdatesAt o va word v w answers answer → Plainly answer
  updated_comes answers answer a =
      by a.table answers answer a.course (keeps_others v w x (of_at o va a.table word answer) a.serves.0 clean.stands a.serves.2 (at_quiet v.post.machine v.post.vcpu o va a.table word answer a.serves.0 a.serves.1) a.rests)
      (never_lost_alone k v w (of_at o va a.table word answer) answer clean.stands.alone refl a.stops)
    where
      telling : is_telling v ≡ true
      telling = alone_telling v clean.stands.alone

      by : (table : ℕ) (answers : List Bool) (answer : Result (Unit {0}) Stop) → UpdatedAt v o va word table w answers answer → KeepsOthers v w x → IsNotLost answer → Plainly answer
      by table _ _ (ways.unled _ stop out leads) others unlost = let l = loads_come k.stays v w x va clean (Err stop) leads in unled stop l.0 l.1
      by table _ _ (ways.led u _ answers answer leads enters) others unlost =
          let tells = came_telling v u (to_u u table leads) ∙ telling in
          led u table leads answers answer (entered_came u w o table (index_of va 1) word answers answer tells unlost enters) others unlost enters

pub at_comes : (k : Known) (v w : PortValue) (x : Solo) (o : Owners) (va word : ℕ) (answers : List Bool) (answer : Result (Unit {0}) Stop) → Clean v x → ClockGoesOn v w → UpdatesAt o va word v w answers answer →
    ComesUnpaused w (allowed (walk_refusal va) x (update_entry v.post.machine o va word x (table_at v.post.machine va x (x.own 0)))) answer
at_comes k v w x o va word answers answer clean goes a = updated_comes k v w x o va word clean goes answers answer a
