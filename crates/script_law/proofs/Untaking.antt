-- Elements that are refused take nothing.
use Rattle.std.proofs.Common.{◌≡◌, ◌≢◌, ◌⊎◌, ℕ, ◌+◌, ◌-◌, ◌<◌, ◌==◌, ◌&&◌, inl, inr, nat_lt, if◌then◌else◌, Bool, true, false, Option, Some, None, refl, sym, ap, subst, ◌∙◌, arith}
use Rattle.std.proofs.lemmas.Bool.{cases_eq}
use Rattle.std.proofs.lemmas.Bool.Decides.{nat_tests}
use Rattle.xp_words.specs.Entries.{demand_at}
use Rattle.xp_words.specs.Machine.{Machine}
use Rattle.xp_words.specs.declared.entry.Demand.{Demand}
use Rattle.xp_words.specs.declared.entry.Demand.TheVariants.{Nothing, Bad, Read, Typed}
use Rattle.xp_words.specs.declared.kind.KindWord.{KindWord}
use Rattle.xp_board.specs.KindSteps.{locked_kind}
use Rattle.xp_board.specs.Readings.{is_dead}
use Rattle.table_law.specs.Alone.{Cause, PlainOutcome, alone, back_or, fine, meet, take_at, take_reference, then_or}
use Rattle.table_law.specs.Exchange.{EntryPlace, exchange_by, exchange_for, exchanged, put_on, unlocked_by, unlocked_plain, with_cell}
use Rattle.table_law.specs.Plain.{Plain, Share, at, raised_share, reference_back, with_kind, with_share}
use Rattle.table_law.specs.Undone.{CountsSome, IsSameButType, IsSameButTypes}
use Rattle.table_law.proofs.Counting.{at_here, at_there}
use Rattle.table_law.proofs.Returning.{Lent, Like, Refusing, refers, share_back, share_on}
use Rattle.table_law.proofs.ReturningTables.{refused_same, released_same, same_types}
use Rattle.table_law.specs.Levels.{entry_of}
use Rattle.table_law.specs.Release.{let_go}
use Rattle.xp_words.specs.Entries.{is_slot}
use Rattle.xp_words.specs.PageTypes.{type_number}
use Rattle.xp_words.specs.declared.reply.Refusal.TheVariants.{Slot}
use Rattle.xp_board.specs.CellSteps.{is_same_demand}
use Rattle.partial_state.specs.Levels.{level_type}
use Rattle.entry_exchange.specs.Holding.{owner_at}
use Rattle.entry_exchange.specs.Words.{word_kept}
use Rattle.entry_locks.specs.Locks.{is_lockable}
use Rattle.entry_locks.proofs.Standings.{when_free}
use Rattle.foreign_map.specs.declared.owners.Owners.{Owners}
use Rattle.xp_words.specs.ContextWords.{ldt_write}
use Rattle.xp_words.specs.declared.reply.Refusal.{Refusal}
use Rattle.desc_pages.specs.Ldt.{ldt_base, ldt_refusal}
use Rattle.mmu_update.specs.declared.element.Element as updating
use Rattle.mmu_update.specs.declared.element.Element.TheVariants as updates
use Rattle.mmuext_ops.specs.declared.element.Element.{Element}
use Rattle.mmuext_ops.specs.declared.element.Element.TheVariants.{Pin, Unpin, NewBase, NewUserBase, FlushLocal, Invalidate, FlushVcpus, SetLdt, ClearPage, CopyPage, Unknown}
use Rattle.table_bases.specs.Asking.{user_frame}
use Rattle.table_words.specs.Pins.{pinned_kind, unpinned_kind}
use Rattle.script_law.specs.Frames.{exchange_at, is_pinned_as, pin, pin_by, rename, set_base, set_map, unpin, unpin_by, write_by, write_entry, write_memory, write_word}
use Rattle.script_law.specs.Elements.{performed, updated}
use Rattle.script_law.specs.Pages.{clear_frame, copy_frame, give_page, set_ldt, with_page}
use Rattle.script_law.specs.Repeats.{each_below}
use Rattle.script_law.specs.Untaken.{IsUntaken, TakesNothingRefused}
use Rattle.script_law.specs.Values.{Solo, IsPinned, IsUnpinned, Numbers, Outcome, Whose, Why, allowed, behind, behind_by, did, looked, looked_by, or_back, put_at, stopped, with_frames, with_own}

-- nothing has changed
pub same : (s : Solo) → IsUntaken s s
same s = record { frames = record { shares = λ g. refl; kinds = λ g. inl refl; cells = λ g i. refl }; maps = refl; own = refl; privileges = refl; lives = refl }

pub types_alone : (s : Solo) (p : Plain) → IsSameButTypes s.frames p → IsUntaken s (with_frames p s)
types_alone s p types = record { frames = types; maps = refl; own = refl; privileges = refl; lives = refl }

-- what is not refused is no case
pub fine_untaken : (s : Solo) (o : Outcome) (y : Why) → o.refusal ≡ None → o.refusal ≡ Some y → IsUntaken s o.left
fine_untaken s o y fine refused = absurd (let e = sym fine ∙ refused in cc)

-- either of two
pub either_untaken : (b : Bool) (s : Solo) (x z : Outcome) (y : Why) → (b ≡ true → x.refusal ≡ Some y → IsUntaken s x.left) → (b ≡ false → z.refusal ≡ Some y → IsUntaken s z.left) →
    (if b then x else z).refusal ≡ Some y → IsUntaken s (if b then x else z).left
either_untaken true s x z y one other refused = one refl refused
either_untaken false s x z y one other refused = other refl refused

-- ---- behind what is done with the frames
behind_untaken : (s : Solo) (o : PlainOutcome) (next : Solo → Outcome) (r : Option Cause) (y : Why) → o.refusal ≡ r →
    ((c : Cause) → o.refusal ≡ Some c → IsSameButTypes s.frames o.left) → ((t : Solo) → (next t).refusal ≡ None) →
    (behind_by s o r next).refusal ≡ Some y → IsUntaken s (behind_by s o r next).left
behind_untaken s o next None y is types fine refused = fine_untaken s (next (with_frames o.left s)) y (fine (with_frames o.left s)) refused
behind_untaken s o next (Some c) y is types fine refused = types_alone s o.left (types c is)

-- an acquisition, and then what is not refused
pub acquired : (n : Machine) (d level f : ℕ) (s : Solo) (next : Solo → Outcome) (y : Why) → CountsSome n s.frames → ((t : Solo) → (next t).refusal ≡ None) →
    (behind s (alone n d level f s.frames) next).refusal ≡ Some y → IsUntaken s (behind s (alone n d level f s.frames) next).left
acquired n d level f s next y counts fine refused =
    behind_untaken s (alone n d level f s.frames) next (alone n d level f s.frames).refusal y refl (λ c is. refused_same n d level f s.frames c counts is) fine refused

-- a frame that is looked at
pub looked_untaken : (r : Option Cause) (s : Solo) (next : Solo → Outcome) (y : Why) →
    ((next s).refusal ≡ Some y → IsUntaken s (next s).left) → (looked_by r s next).refusal ≡ Some y → IsUntaken s (looked_by r s next).left
looked_untaken None s next y behind_it refused = behind_it refused
looked_untaken (Some c) s next y behind_it refused = same s

-- ---- an entry under its lock
live_same : (k l : KindWord) → k.validated ≡ true → IsSameButType k l → l ≡ k
live_same k l live (inl is) = is
live_same k l live (inr dead) = absurd (let e = dead.0 in grind (arith, nat_tests))

itself : (p : Plain) → IsSameButTypes p p
itself p = record { shares = λ g. refl; kinds = λ g. inl refl; cells = λ g i. refl }

-- a reference that is refused
reference_types : (n : Machine) (owner g : ℕ) (p : Plain) (c : Cause) → CountsSome n p → (take_reference n owner g p).refusal ≡ Some c → IsSameButTypes p (take_reference n owner g p).left
reference_types n owner g p c counts is = by (refers n owner g p counts)
  where
    by : Lent n p g (take_reference n owner g p) ⊎ Refusing p (take_reference n owner g p) → IsSameButTypes p (take_reference n owner g p).left
    by (inl lent) = absurd (let none = sym (ap (λ (o : PlainOutcome). o.refusal) lent.is) ∙ is in cc)
    by (inr stopped) = subst (λ (o : PlainOutcome). IsSameButTypes p o.left) (sym stopped.is) (same_types p stopped.left stopped.same)

-- what a table under its lock asks
meet_types : (n : Machine) (owner level f i : ℕ) (p : Plain) (d : Demand) (c : Cause) → CountsSome n p → (meet n owner (take_at (level - 1) n owner) f i p d).refusal ≡ Some c →
    IsSameButTypes p (meet n owner (take_at (level - 1) n owner) f i p d).left
meet_types n owner level f i p Nothing c counts is = itself p
meet_types n owner level f i p Bad c counts is = itself p
meet_types n owner level f i p (Read g) c counts is = reference_types n owner g p c counts is
meet_types n owner level f i p (Typed g t) c counts is = refused_same n owner (level - 1) g p c counts is

module _ (n : Machine) (p : Plain) (f : ℕ) (s : Share) (counts : CountsSome n p) (was : p.shares f ≡ Some s) (some : 0 < s.count)
    (live : (p.kinds f).validated ≡ true) (free : (p.kinds f).locked ≡ false) (counted : 0 < (p.kinds f).number) where
  abbrev lent : Plain
  lent = with_share f (raised_share s) p

  abbrev under : Plain
  under = with_kind f (locked_kind (p.kinds f)) lent

  locked_off : record (locked_kind (p.kinds f)) { number = (p.kinds f).number + 1 - 1; locked = false } ≡ p.kinds f
  locked_off =
      let count : (p.kinds f).number + 1 - 1 ≡ (p.kinds f).number = omega arith in
      ap (λ m. record (p.kinds f) { number = m; locked = false }) count ∙ ap (λ b. record (p.kinds f) { locked = b }) (sym free)

  -- the lock goes off, where no more than types has changed
  module _ (r : Plain) (level : ℕ) (types : IsSameButTypes under r) where
    kind_there : r.kinds f ≡ locked_kind (p.kinds f)
    kind_there =
        let here = at_here f (locked_kind (p.kinds f)) p.kinds in
        live_same (under.kinds f) (r.kinds f) (ap (λ (x : KindWord). x.validated) here ∙ live) (types.kinds f) ∙ here

    off_is : unlocked_plain level f r ≡ reference_back f (with_kind f (p.kinds f) r)
    off_is =
        let more : ((p.kinds f).number + 1 == 1) ≡ false = grind (arith, nat_tests) in
        ap (λ j. unlocked_by level f j r) kind_there ∙ rw more (ap (λ j. reference_back f (with_kind f j r)) locked_off)

    kinds_back : (g : ℕ) → (false ≡ true) ⊎ IsSameButType (p.kinds g) (at f (p.kinds f) r.kinds g)
    kinds_back g =
        elim (cases_eq g f) [
          | inl e ↦ inr (subst (λ y. IsSameButType (p.kinds y) (at f (p.kinds f) r.kinds y)) (sym e) (inl (at_here f (p.kinds f) r.kinds)))
          | inr off ↦
              inr (subst (IsSameButType (p.kinds g)) (sym (at_there f g (p.kinds f) r.kinds off))
              (subst (λ w. IsSameButType w (r.kinds g)) (at_there f g (locked_kind (p.kinds f)) p.kinds off) (types.kinds g)))
        ]

    off_types : IsSameButTypes p (unlocked_plain level f r)
    off_types =
        subst (IsSameButTypes p) (sym off_is)
        (same_types p (reference_back f (with_kind f (p.kinds f) r))
        (share_back n p f s was some (λ x. false) (with_kind f (p.kinds f) r) (record { shares = types.shares; kinds = kinds_back; cells = types.cells })))

  -- under the lock the counts are some, too
  counts_under : CountsSome n under
  counts_under = record { types = types; refs = (share_on n p f s was some counts).counts.refs }
    where
      types : (g : ℕ) → g < n.frames → (at f (locked_kind (p.kinds f)) p.kinds g).validated ≡ true → 0 < (at f (locked_kind (p.kinds f)) p.kinds g).number
      types g inside is =
          elim (cases_eq g f) [
            | inl e ↦
                let number : (at f (locked_kind (p.kinds f)) p.kinds g).number ≡ (p.kinds f).number + 1 = ap (λ y. (at f (locked_kind (p.kinds f)) p.kinds y).number) e ∙ ap (λ (x : KindWord). x.number) (at_here f (locked_kind (p.kinds f)) p.kinds) in
                omega arith
            | inr off ↦
                let there = at_there f g (locked_kind (p.kinds f)) p.kinds off in
                subst (λ (x : KindWord). 0 < x.number) (sym there) (counts.types g inside (sym (ap (λ (x : KindWord). x.validated) there) ∙ is))
          ]

  -- ---- the exchange
  module _ (owner level i new : ℕ) (c : Cause) where
    abbrev place : EntryPlace
    place = record { table = f; level = level; index = i }

    met_types : (m : PlainOutcome) (next : Plain → PlainOutcome) (r : Option Cause) → m.refusal ≡ r → ((x : Cause) → m.refusal ≡ Some x → IsSameButTypes under m.left) →
        ((q : Plain) → (next q).refusal ≡ None) → (back_or r m.left (unlocked_plain level f) next).refusal ≡ Some c → IsSameButTypes p (back_or r m.left (unlocked_plain level f) next).left
    met_types m next None is types fine refused = absurd (let e = sym (fine m.left) ∙ refused in cc)
    met_types m next (Some x) is types fine refused = off_types m.left level (types x is)

    for_types : (d old : Demand) (b : Bool) → (exchange_for n owner place new old under d b).refusal ≡ Some c → IsSameButTypes p (exchange_for n owner place new old under d b).left
    for_types d old true refused = absurd cc
    for_types d old false refused =
        let m = meet n owner (take_at (level - 1) n owner) f i under d in
        met_types m (λ q. fine (put_on place new old q)) m.refusal refl (λ x is. meet_types n owner level f i under d x counts_under is) (λ q. refl) refused

    by_types : (d old : Demand) → (exchange_by n owner place new old under d).refusal ≡ Some c → IsSameButTypes p (exchange_by n owner place new old under d).left
    by_types Bad old refused = off_types under level (itself under)
    by_types Nothing old refused = for_types Nothing old (is_same_demand old Nothing) refused
    by_types (Read g) old refused = for_types (Read g) old (is_same_demand old (Read g)) refused
    by_types (Typed g t) old refused = for_types (Typed g t) old (is_same_demand old (Typed g t)) refused

    pub exchange_types : (exchanged n owner place new under).refusal ≡ Some c → IsSameButTypes p (exchanged n owner place new under).left
    exchange_types refused = by_types (demand_at (level_type level) i new) (entry_of under (level_type level) f i) refused

-- ---- an entry of a live table
module _ (n : Machine) (o : Owners) (f i word : ℕ) (keep : Bool) (s : Solo) (y : Why) (counts : CountsSome n s.frames) (is : is_lockable (s.frames.kinds f) ≡ true) where
  abbrev next : Solo → Outcome
  next t = exchange_at n o (type_number (t.frames.kinds f).kind) f i word keep t

  abbrev Goal : PlainOutcome → Type 0
  Goal u = (behind s u next).refusal ≡ Some y → IsUntaken s (behind s u next).left

  abbrev level : ℕ
  level = type_number (s.frames.kinds f).kind

  -- under the reference and the lock
  abbrev result : Share → PlainOutcome
  result share =
      exchanged n (owner_at level o.tables o.frames) (record { table = f; level = level; index = i }) (word_kept keep (s.frames.cells f i) word)
      (with_kind f (locked_kind (s.frames.kinds f)) (with_share f (raised_share share) s.frames))

  ended : (share : Share) → s.frames.shares f ≡ Some share → 0 < share.count → (c : Option Cause) → (result share).refusal ≡ c →
      (behind_by (with_frames (with_share f (raised_share share) s.frames) s) (result share) c did).refusal ≡ Some y →
      IsUntaken s (behind_by (with_frames (with_share f (raised_share share) s.frames) s) (result share) c did).left
  ended share was some None e r = absurd cc
  ended share was some (Some c) e r =
      let free = when_free (s.frames.kinds f) is in
      types_alone s (result share).left
      (exchange_types n s.frames f share counts was some free.live free.unlocked free.some (owner_at level o.tables o.frames) level i (word_kept keep (s.frames.cells f i) word) c e)

  by_reference : (taken : PlainOutcome) → Lent n s.frames f taken ⊎ Refusing s.frames taken → Goal taken
  by_reference taken (inl lent) = subst Goal (sym lent.is) (ended lent.share lent.was lent.some (result lent.share).refusal refl)
  by_reference taken (inr stopped) = subst Goal (sym stopped.is) (λ r. types_alone s stopped.left (same_types s.frames stopped.left stopped.same))

  pub entry_untaken : (write_entry n o f i word keep s).refusal ≡ Some y → IsUntaken s (write_entry n o f i word keep s).left
  entry_untaken refused = by_reference (take_reference n o.tables f s.frames) (refers n o.tables f s.frames counts) refused

-- ---- the elements
pub map_untaken : (n : Machine) (owner f x : ℕ) → TakesNothingRefused n (set_map n owner f x)
map_untaken n owner f x s y counts refused =
    looked_untaken (take_reference n owner f s.frames).refusal s (λ t. did (record t { maps = put_at f x t.maps })) y (λ r. absurd cc) refused

pub write_untaken : (n : Machine) (o : Owners) (f i word : ℕ) (keep : Bool) → TakesNothingRefused n (write_word n o f i word keep)
write_untaken n o f i word keep s y counts refused =
    looked_untaken (take_reference n o.tables f s.frames).refusal s (λ t. write_by n o f i word keep t (t.frames.kinds f)) y written refused
  where
    written : (write_by n o f i word keep s (s.frames.kinds f)).refusal ≡ Some y → IsUntaken s (write_by n o f i word keep s (s.frames.kinds f)).left
    written =
        either_untaken (is_lockable (s.frames.kinds f)) s (if is_slot (s.frames.kinds f).kind i then stopped (Numbers (Slot i)) s else write_entry n o f i word keep s) (write_memory n o.tables f i word s) y
        (λ is. either_untaken (is_slot (s.frames.kinds f).kind i) s (stopped (Numbers (Slot i)) s) (write_entry n o f i word keep s) y (λ e r. same s) (λ e. entry_untaken n o f i word keep s y counts is))
        (λ is. acquired n o.tables 0 f s (λ t. did (with_frames (let_go 0 f (with_cell f i word t.frames)) t)) y counts (λ t. refl))

pub pin_untaken : (n : Machine) (d f level : ℕ) → TakesNothingRefused n (pin n d f level)
pin_untaken n d f level s y counts refused =
    looked_untaken (take_reference n d f s.frames).refusal s (λ t. pin_by n d f level t (t.frames.kinds f)) y pinned refused
  where
    pinned : (pin_by n d f level s (s.frames.kinds f)).refusal ≡ Some y → IsUntaken s (pin_by n d f level s (s.frames.kinds f)).left
    pinned =
        either_untaken (is_pinned_as level (s.frames.kinds f)) s (stopped (IsPinned (s.frames.kinds f)) s)
        (behind s (alone n d level f s.frames) (λ t. did (with_frames (with_kind f (pinned_kind (t.frames.kinds f)) t.frames) t))) y (λ e r. same s)
        (λ e. acquired n d level f s (λ t. did (with_frames (with_kind f (pinned_kind (t.frames.kinds f)) t.frames) t)) y counts (λ t. refl))

pub unpin_untaken : (n : Machine) (d f : ℕ) → TakesNothingRefused n (unpin n d f)
unpin_untaken n d f s y counts refused =
    looked_untaken (take_reference n d f s.frames).refusal s (λ t. unpin_by f t (t.frames.kinds f)) y
    (either_untaken (s.frames.kinds f).pinned s (did (with_frames (let_go (type_number (s.frames.kinds f).kind) f (with_kind f (unpinned_kind (s.frames.kinds f)) s.frames)) s))
    (stopped (IsUnpinned (s.frames.kinds f)) s) y (λ e r. absurd cc) (λ e r. same s))
    refused

pub base_untaken : (n : Machine) (d k : ℕ) (table : Option ℕ) → TakesNothingRefused n (set_base n d k table)
base_untaken n d k (Some f) s y counts refused = acquired n d 4 f s (λ t. did (rename (let_go 4) k (f + 1) t)) y counts (λ t. refl) refused
base_untaken n d k None s y counts refused = absurd cc

clear_untaken : (n : Machine) (d f : ℕ) → TakesNothingRefused n (clear_frame n d f)
clear_untaken n d f s y counts refused = acquired n d 0 f s (λ t. did (with_frames (let_go 0 f (with_page f (λ i. 0) t.frames)) t)) y counts (λ t. refl) refused

-- the target is given back where the source is refused
module _ (n : Machine) (d to from : ℕ) (s : Solo) (y : Why) (counts : CountsSome n s.frames) where
  abbrev taken : PlainOutcome
  taken = alone n d 0 to s.frames

  abbrev put : Solo → Outcome
  put t = did (with_frames (let_go 0 to (with_page to (t.frames.cells from) t.frames)) t)

  source : (q : Option Cause) → IsSameButTypes s.frames (let_go 0 to taken.left) → (or_back (looked_by q (with_frames taken.left s) put) (let_go 0 to)).refusal ≡ Some y →
      IsUntaken s (or_back (looked_by q (with_frames taken.left s) put) (let_go 0 to)).left
  source None types r = absurd cc
  source (Some c) types r = types_alone s (let_go 0 to taken.left) types

  copied : (r : Option Cause) → taken.refusal ≡ r → (behind_by s taken r (λ t. or_back (looked n d from t put) (let_go 0 to))).refusal ≡ Some y →
      IsUntaken s (behind_by s taken r (λ t. or_back (looked n d from t put) (let_go 0 to))).left
  copied None is r = source (take_reference n d from taken.left).refusal (released_same n d 0 to s.frames counts is) r
  copied (Some c) is r = types_alone s taken.left (refused_same n d 0 to s.frames c counts is)

copy_untaken : (n : Machine) (d to from : ℕ) → TakesNothingRefused n (copy_frame n d to from)
copy_untaken n d to from s y counts refused = copied n d to from s y counts (alone n d 0 to s.frames).refusal refl refused

-- refused by its numbers alone
numbers_untaken : (r : Option Refusal) (s : Solo) (o : Outcome) (y : Why) → o.refusal ≡ None → (allowed r s o).refusal ≡ Some y → IsUntaken s (allowed r s o).left
numbers_untaken None s o y fine refused = fine_untaken s o y fine refused
numbers_untaken (Some x) s o y fine refused = same s

ldt_untaken : (n : Machine) (address entries : ℕ) → TakesNothingRefused n (set_ldt address entries)
ldt_untaken n address entries s y counts refused =
    numbers_untaken (ldt_refusal address entries) s (did (with_own 7 (ldt_write (ldt_base address entries)) (each_below 16 (λ k. rename give_page (22 + k) 0) s))) y refl refused

-- ---- lists
pub pair_untaken : (w : Whose) (o : Owners) (e : updating.Element) → TakesNothingRefused w.machine (updated w o e)
pair_untaken w o (updates.SetM2p f x) s y counts refused = map_untaken w.machine o.frames f x s y counts refused
pair_untaken w o (updates.Write f i word keep) s y counts refused = write_untaken w.machine o f i word keep s y counts refused
pair_untaken w o updates.Misaligned s y counts refused = same s
pair_untaken w o updates.Unknown s y counts refused = same s

pub ext_untaken : (w : Whose) (e : Element) → TakesNothingRefused w.machine (performed w e)
ext_untaken w (Pin f level) s y counts refused = pin_untaken w.machine w.domain f level s y counts refused
ext_untaken w (Unpin f) s y counts refused = unpin_untaken w.machine w.domain f s y counts refused
ext_untaken w (NewBase f) s y counts refused = base_untaken w.machine w.domain 0 (Some f) s y counts refused
ext_untaken w (NewUserBase f) s y counts refused = base_untaken w.machine w.domain 1 (user_frame f) s y counts refused
ext_untaken w FlushLocal s y counts refused = absurd cc
ext_untaken w (Invalidate va) s y counts refused = absurd cc
ext_untaken w (FlushVcpus mask) s y counts refused = absurd cc
ext_untaken w (SetLdt address entries) s y counts refused = ldt_untaken w.machine address entries s y counts refused
ext_untaken w (ClearPage f) s y counts refused = clear_untaken w.machine w.domain f s y counts refused
ext_untaken w (CopyPage to from) s y counts refused = copy_untaken w.machine w.domain to from s y counts refused
ext_untaken w Unknown s y counts refused = same s
