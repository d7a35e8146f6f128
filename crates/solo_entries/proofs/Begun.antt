-- A write that began, and that the gate paused under the lock of its table: what does not change while it is kept.
use Rattle.solo_entries.specs.Exchanges.{HasTwoTypeCounts}
use Rattle.solo_entries.specs.Kept.{HasBegun, IsUnlockedTable, KeepsEntry}
use Rattle.std.proofs.Common.{◌≡◌, ◌≢◌, ◌<◌, ◌≤◌, ℕ, ◌-◌, ◌==◌, ◌&&◌, nat_le, nat_lt, not, if◌then◌else◌, Bool, true, false, List, length, None, Some, Result, Ok, refl, sym, ap, ◌∙◌, subst, arith}
use Rattle.std.proofs.lemmas.Bool.{and_parts}
use Rattle.std.proofs.lemmas.Bool.Decides.{nat_tests}
use Rattle.xp_words.specs.Entries.{is_slot}
use Rattle.xp_words.specs.Machine.{IsMachine, Machine}
use Rattle.xp_words.specs.PageTypes.{is_table, type_number}
use Rattle.xp_words.specs.declared.kind.KindWord.{KindWord}
use Rattle.xp_words.specs.declared.kind.PageType.{PageType}
use Rattle.xp_words.specs.declared.place.Place.{Place}
use Rattle.xp_words.specs.declared.place.Place.TheVariants.{Cell, Kind}
use Rattle.xp_words.specs.declared.reply.Refusal.TheVariants as refusals
use Rattle.xp_words.specs.declared.reply.Stop.{Stop}
use Rattle.xp_board.specs.KindSteps.{locked_kind}
use Rattle.xp_board.specs.Told.{Post, PortValue, is_telling, told_word}
use Rattle.step_maker.specs.Answers.{Deed, Serves}
use Rattle.step_maker.specs.Asked.{Request}
use Rattle.step_maker.specs.Holds.{Rests}
use Rattle.step_maker.specs.Moves.{Came}
use Rattle.step_maker.specs.Twins.{Alike}
use Rattle.step_maker.proofs.Alikes.{alike_trans}
use Rattle.step_maker.proofs.Coming.{came_post, came_trans, met_after, met_before, same_machine}
use Rattle.answer_laws.specs.Alone.{IsAlone}
use Rattle.answer_laws.proofs.Shared.{alone_telling}
use Rattle.entry_exchange.specs.Course.{LeftLock, SawEntry}
use Rattle.entry_locks.specs.declared.locking.Locked.{Locked}
use Rattle.exchange_laws.specs.Plain.{exchanged_plain}
use Rattle.exchange_laws.proofs.Unlocking.{lock_came}
use Rattle.foreign_map.specs.declared.owners.Owners.{Owners}
use Rattle.mmu_update.specs.Course.{TriedLock, entry_update}
use Rattle.partial_state.proofs.LevelFacts.{level_type-number}
use Rattle.table_entries.specs.Acquiring.{Acquired, GotRef}
use Rattle.table_words.specs.OldWords.{old_place}
use Rattle.table_words.specs.declared.old_words.OldWord.TheVariants.{First, Second}
use Rattle.table_law.specs.Alone.{CountFull, NoFrame, PlainOutcome, WrongOwner, fine, refused, take_reference, take_reference_of}
use Rattle.table_law.specs.Plain.{Plain, Share, raised_share, with_share}
use Rattle.table_law.specs.Undone.{CountsSome}
use Rattle.table_law.proofs.Counting.{at_here}
use Rattle.table_law.proofs.OnWords.{counts_plain}
use Rattle.course_laws.specs.Courses.{FindsAlive}
use Rattle.course_laws.proofs.Lending.{Lent, lent}
use Rattle.refusal_laws.specs.Repeated as repeated
use Rattle.refusal_laws.specs.Repeated.{IsKeptTable, PausedCalls}
use Rattle.refusal_laws.proofs.Repeating.{all_told}
use Rattle.script_law.specs.Frames.{exchange_at, under_lock, write_by, write_entry, write_memory, write_word}
use Rattle.script_law.specs.Values.{Numbers, Solo, behind, behind_by, did, looked_by, stopped, with_frames}
use Rattle.solo_ports.specs.Standing.{IsQuiet, IsUnkept, Stands}
use Rattle.solo_ports.proofs.Between.{finds_alive}
use Rattle.solo_entries.proofs.Enduring.{endures}
use Rattle.solo_entries.proofs.Relocking.{unlocked_behind, unlocked_words}
use Rattle.solo_entries.proofs.Known.{Known}
use Rattle.solo_entries.proofs.Lasting.{IsLockedIn, IsUnderLock}
use Rattle.solo_entries.proofs.Olds.{acquired_keeps, keeps_then, locked_keeps, moves_keeps, ref_keeps, three_five, three_four, three_two}
use Rattle.solo_entries.proofs.Standing.{is_counting, stands_with}

-- on a machine that is the same
abbrev pub begun_there : (n m : Machine) (s t : ℕ) (o : Owners) (f i word : ℕ) (keep : Bool) (x : Solo) → m ≡ n → t ≡ s → HasBegun n s o f i word keep x → HasBegun m t o f i word keep x
begun_there n m s t o f i word keep x same own b =
    record {
      level = b.level;
      two = b.two;
      high = b.high;
      open_slot = b.open_slot;
      lockable = b.lockable;
      typed = b.typed;
      taken = b.taken;
      takes = subst (λ (j : Machine). take_reference j o.tables f x.frames ≡ fine b.taken) (sym same) b.takes;
      asked = b.asked;
      asks = b.asks;
      differ = b.differ;
      from = b.from;
      machine = b.machine ∙ sym same;
      vcpu = b.vcpu ∙ sym own;
      rest = b.rest;
      orderly = b.orderly;
      clear = b.clear;
      frames = b.frames;
    }

-- ---- a plain reference that is fine is one of a frame of that owner
module _ (n : Machine) (owner f : ℕ) (p : Plain) (s : Share) where
  owned_by : (b c : Bool) → (s.owner == owner) ≡ b → (if not b then refused (WrongOwner f (Some s)) p else if c then refused (CountFull f s) p else fine (with_share f (raised_share s) p)).refusal ≡ None → s.owner ≡ owner
  owned_by true c same none = grind (arith, nat_tests)
  owned_by false c off none = absurd cc

  pub owned : f < n.frames → p.shares f ≡ Some s → (take_reference n owner f p).refusal ≡ None → s.owner ≡ owner
  owned inside was none =
      let here : nat_lt f n.frames ≡ true = grind (arith, nat_tests) in
      let of : (take_reference_of n owner f p (p.shares f)).refusal ≡ None = sym (ap (λ b. (if b then take_reference_of n owner f p (p.shares f) else refused (NoFrame f) p).refusal) here) ∙ none in
      owned_by (s.owner == owner) (nat_le n.limit s.count) refl (subst (λ r. (take_reference_of n owner f p r).refusal ≡ None) was of)

-- ---- the plain values
module _ (n : Machine) (c : ℕ) (o : Owners) (f i word : ℕ) (keep : Bool) (x : Solo) (b : HasBegun n c o f i word keep x) where
  none : (take_reference n o.tables f x.frames).refusal ≡ None
  none = ap (λ (a : PlainOutcome). a.refusal) b.takes

  pub lends : Lent n f x.frames (take_reference n o.tables f x.frames)
  lends = lent n o.tables f x.frames none

  taken_is : b.taken ≡ with_share f (raised_share lends.share) x.frames
  taken_is = ap (λ (a : PlainOutcome). a.left) (sym b.takes ∙ lends.is)

  pub kinds_are : b.taken.kinds ≡ x.frames.kinds
  kinds_are = ap (λ (p : Plain). p.kinds) taken_is

  pub cells_are : b.taken.cells ≡ x.frames.cells
  cells_are = ap (λ (p : Plain). p.cells) taken_is

  kind_here : (under_lock f b.taken).kinds f ≡ locked_kind (x.frames.kinds f)
  kind_here = at_here f (locked_kind (b.taken.kinds f)) b.taken.kinds ∙ ap (λ (j : ℕ → KindWord). locked_kind (j f)) kinds_are

  share_here : (under_lock f b.taken).shares f ≡ Some (raised_share lends.share)
  share_here = ap (λ (p : Plain). p.shares f) taken_is ∙ at_here f (Some (raised_share lends.share)) x.frames.shares

  owns : lends.share.owner ≡ o.tables
  owns = owned n o.tables f x.frames lends.share lends.inside lends.was none

  abbrev word_there : KindWord
  word_there = x.frames.kinds f

  live : (x.frames.kinds f).validated ≡ true
  live = (and_parts (is_table word_there.kind) word_there.validated (and_parts (is_table word_there.kind && word_there.validated) (not word_there.locked && nat_lt 0 word_there.number) b.lockable).0).1

  some : 0 < (x.frames.kinds f).number
  some = let a = (and_parts (not word_there.locked) (nat_lt 0 word_there.number) (and_parts (is_table word_there.kind && word_there.validated) (not word_there.locked && nat_lt 0 word_there.number) b.lockable).1).1 in grind (arith, nat_tests)

  pub under : IsUnderLock b.level ((under_lock f b.taken).kinds f)
  under = subst (IsUnderLock b.level) (sym kind_here) (record { live = live; locked = refl; several = (let a = some in omega (arith, a)); kind = b.typed })

  pub held : HasTwoTypeCounts f (under_lock f b.taken)
  held = record { live = under.live; several = under.several }

  kept_by : (g : ℕ) (d : Bool) → (g == f) ≡ d → (b.taken.kinds g).kept ≡ false → (if d then locked_kind (b.taken.kinds f) else b.taken.kinds g).kept ≡ false
  kept_by g true is off = let e : g ≡ f = grind (arith, nat_tests) in subst (λ h. (b.taken.kinds h).kept ≡ false) e off
  kept_by g false is off = off

  pub unkept_under : IsUnkept n x.frames → IsUnkept n (under_lock f b.taken)
  unkept_under unkept = λ g inside. kept_by g (g == f) refl (ap (λ (j : ℕ → KindWord). (j g).kept) kinds_are ∙ unkept g inside)

  pub counts : CountsSome n (under_lock f b.taken)
  counts = subst (λ (m : Machine). CountsSome m (under_lock f b.taken)) b.machine (counts_plain b.from.post.machine (told_word b.from) (under_lock f b.taken) b.frames b.rest.counted)

  -- ---- what the write plainly is
  number : type_number (b.taken.kinds f).kind ≡ b.level
  number = ap (λ (j : ℕ → KindWord). type_number (j f).kind) kinds_are ∙ (ap type_number b.typed ∙ level_type-number b.level (let a = b.two in omega (arith, a)) b.high)

  pub write_is : write_word n o f i word keep x ≡ behind_by (with_frames b.taken x) (exchanged_plain n (entry_update f b.level i word keep) o (under_lock f b.taken)) (exchanged_plain n (entry_update f b.level i word keep) o (under_lock f b.taken)).refusal did
  write_is =
      let entry = write_entry n o f i word keep x in
      let slot = stopped (Numbers (refusals.Slot i)) x in
      ap (λ r. looked_by r x (λ s. write_by n o f i word keep s (s.frames.kinds f))) none
      ∙ (ap (λ d. if d then (if is_slot (x.frames.kinds f).kind i then slot else entry) else write_memory n o.tables f i word x) b.lockable
      ∙ (ap (λ (t : PageType). if is_slot t i then slot else entry) b.typed
      ∙ (ap (λ d. if d then slot else entry) b.open_slot
      ∙ (ap (λ a. behind x a (λ s. exchange_at n o (type_number (s.frames.kinds f).kind) f i word keep s)) b.takes
      ∙ ap (λ l. exchange_at n o l f i word keep (with_frames b.taken x)) number))))

-- ---- behind paused calls
module _ (k : Known) (n : Machine) (c : ℕ) (o : Owners) (f i word : ℕ) (keep : Bool) (x : Solo) (machine : IsMachine n) (b : HasBegun n c o f i word keep x) where
  pub machine_from : IsMachine b.from.post.machine
  machine_from = subst IsMachine (sym b.machine) machine

  pub kept_table : (u : PortValue) → PausedCalls b.asked o.tables (b.level - 1) b.from u → IsKeptTable b.asked o.tables (b.level - 1) b.from u
  kept_table u calls =
      k.kept b.from u b.asked o.tables (b.level - 1) (under_lock f b.taken) machine_from (all_told b.asked o.tables (b.level - 1) b.from u calls) b.rest b.orderly
      (let a = b.two in omega (arith, a)) (let a = b.high in omega (arith, a)) b.frames calls

  pub first_there : (u : PortValue) → PausedCalls b.asked o.tables (b.level - 1) b.from u → told_word u (old_place u.post.vcpu First) ≡ 0
  first_there u calls = (kept_table u calls).first ∙ b.clear

  pub locked_in : (u : PortValue) → PausedCalls b.asked o.tables (b.level - 1) b.from u → IsLockedIn n f o.tables b.level (told_word u)
  locked_in u calls =
      let l = lends n c o f i word keep x b in
      subst (λ (m : Machine). IsLockedIn m f o.tables b.level (told_word u)) b.machine
      (endures b.from u f o.tables b.level b.asked (under_lock f b.taken) (raised_share l.share) machine_from (all_told b.asked o.tables (b.level - 1) b.from u calls) b.rest b.orderly b.frames (subst (λ (m : Machine). f < m.frames) (sym b.machine) l.inside)
      (under n c o f i word keep x b) (share_here n c o f i word keep x b) (owns n c o f i word keep x b) b.two b.high calls)

-- the port itself is one behind it

-- words that are alike, of the same vCPU
pub calls_alike : (f owner level : ℕ) (u v w : PortValue) → PausedCalls f owner level u v → Alike (told_word w) (told_word v) → w.post.machine ≡ v.post.machine → w.post.vcpu ≡ v.post.vcpu → is_telling w ≡ true → PausedCalls f owner level u w
calls_alike f owner level u _ w (repeated.first x v answers told a finds on) alike machine vcpu telling =
    repeated.first x w answers told a finds (record { stays = record { machine = machine ∙ on.stays.machine; telling = telling; words = alike_trans (told_word w) (told_word v) (told_word x) alike on.stays.words }; vcpu = vcpu ∙ on.vcpu })
calls_alike f owner level u _ w (repeated.again y x v answers before a finds on) alike machine vcpu telling =
    repeated.again y x w answers before a finds (record { stays = record { machine = machine ∙ on.stays.machine; telling = telling; words = alike_trans (told_word w) (told_word v) (told_word x) alike on.stays.words }; vcpu = vcpu ∙ on.vcpu })

-- the owner is alive in steps on the way of a call
pub owner_alive : (v w c z : PortValue) (x : Solo) (d : ℕ) (r : Request) (ds : List Deed) → Stands v x → d < length v.post.machine.page_limit → x.lives d ≡ 0 → Serves v w r ds → r.destroys ≡ None → Came v c → Came z w → FindsAlive c z d
owner_alive v w c z x d r ds stands real alive serves spares before after =
    λ m met at. finds_alive v w r ds (alone_telling v stands.alone) serves d spares (sym (stands.others.lives d real) ∙ alive) m (met_after v c w m before (met_before c z w m met after)) at

-- the second old word stays up to the end of an acquisition under the lock
pub second_stays : (v u y c z : PortValue) (f i owner of : ℕ) (locked : Locked) (seen g l : ℕ) (answers : List Bool) (r : Result ℕ Stop) → is_telling v ≡ true → GotRef v u f owner (Ok f) → TriedLock u y f owner (Ok locked) → SawEntry y c f i seen → Acquired c g of l z answers r →
    told_word z (old_place v.post.vcpu Second) ≡ told_word v (old_place v.post.vcpu Second)
second_stays v u y c z f i owner of locked seen g l answers r telling ref lock saw had =
    (keeps_then v.post.vcpu 3 three_four three_five (ref_keeps v.post.vcpu 3 three_four three_five v u f owner (Ok f) ref)
    (keeps_then v.post.vcpu 3 three_four three_five (locked_keeps v.post.vcpu 3 three_four three_five u y f owner (Ok locked) lock)
    (keeps_then v.post.vcpu 3 three_four three_five (moves_keeps v.post.vcpu 3 three_four three_five y c (Cell f i) _ _ _ _ saw (λ e. cc)) (acquired_keeps v.post.vcpu 3 three_four three_five three_two c g of l z answers r had))) telling).same

-- ---- the last call was paused, and the lock goes off: it is kept
module _ (k : Known) (v z w : PortValue) (x : Solo) (o : Owners) (f i word : ℕ) (keep : Bool) (b : HasBegun v.post.machine v.post.vcpu o f i word keep x) (stands : Stands v x) (before : Came v z)
    (calls : PausedCalls b.asked o.tables (b.level - 1) b.from z) (off_it : LeftLock z f b.level w) (second : told_word z (old_place v.post.vcpu Second) ≡ told_word v (old_place v.post.vcpu Second))
    (r : Request) (ds : List Deed) (serves : Serves v w r ds) (quiet : IsQuiet v.post.vcpu r ds) (rests : Rests w) where
  low : 1 ≤ b.level
  low = let a = b.two in omega (arith, a)

  came : Came v w
  came = came_trans v z w before (lock_came z w f b.level off_it)

  same_z : z.post.machine ≡ v.post.machine
  same_z = same_machine v z before

  same_w : w.post.machine ≡ v.post.machine
  same_w = same_machine v w came

  machine_z : IsMachine z.post.machine
  machine_z = subst IsMachine (sym same_z) stands.machine

  alone_z : IsAlone z
  alone_z = k.stays v z stands.alone before

  in_z : IsLockedIn z.post.machine f o.tables b.level (told_word z)
  in_z = subst (λ (m : Machine). IsLockedIn m f o.tables b.level (told_word z)) (sym same_z) (locked_in k v.post.machine v.post.vcpu o f i word keep x stands.machine b z calls)

  words : (p : Place) → is_counting p ≡ false → p ≢ Kind f → told_word w p ≡ told_word z p
  words = unlocked_words z w f o.tables b.level alone_z in_z off_it

  second_w : told_word w (old_place v.post.vcpu Second) ≡ told_word v (old_place v.post.vcpu Second)
  second_w = words (old_place v.post.vcpu Second) refl (λ e. cc) ∙ second

  first_w : told_word w (old_place w.post.vcpu First) ≡ 0
  first_w =
      subst (λ (j : Post). told_word w (old_place j.vcpu First) ≡ 0) (sym (came_post z w (lock_came z w f b.level off_it)))
      (words (old_place z.post.vcpu First) refl (λ e. cc) ∙ first_there k v.post.machine v.post.vcpu o f i word keep x stands.machine b z calls)

  pub kept_there : KeepsEntry o f i word keep w x
  kept_there =
      record {
        stands = stands_with k v w x x.frames r ds stands serves quiet rests second_w stands.unkept;
        first = first_w;
        begun = begun_there v.post.machine w.post.machine v.post.vcpu w.post.vcpu o f i word keep x same_w (ap (λ (j : Post). j.vcpu) (came_post v w came)) b;
        locked = z;
        calls = calls;
        unlocked = subst (λ (m : Machine). IsUnlockedTable m f o.tables b.level (told_word w) (told_word z)) (same_z ∙ sym same_w) (unlocked_behind z w f o.tables b.level alone_z low in_z off_it);
      }
