-- What an element leaves of the words of domains: their privileges, and their lives.
use Rattle.std.proofs.Common.{◌≡◌, ℕ, zero, suc, ◌+◌, ◌&&◌, Bool, true, false, is_none, not, nat_lt, slice_index, List, [], ◌∷◌, Option, Some, None, Result, Ok, Err, refl, ◌∙◌, if◌then◌else◌}
use Rattle.xp_words.specs.Machine.{Machine}
use Rattle.xp_words.specs.Entries.{fixed, is_slot}
use Rattle.xp_words.specs.declared.context.LdtBase.{LdtBase}
use Rattle.xp_words.specs.declared.kind.KindWord.{KindWord}
use Rattle.xp_words.specs.declared.reply.Refusal.{Refusal}
use Rattle.foreign_map.specs.declared.owners.Owners.{Owners}
use Rattle.mmu_update.specs.declared.element.Element as of_pairs
use Rattle.mmu_update.specs.declared.element.Element.TheVariants as updates
use Rattle.mmuext_ops.specs.declared.element.Element.{Element}
use Rattle.mmuext_ops.specs.declared.element.Element.TheVariants.{Pin, Unpin, NewBase, NewUserBase, FlushLocal, Invalidate, FlushVcpus, SetLdt, ClearPage, CopyPage, Unknown}
use Rattle.xp_words.specs.ContextWords.{ldt_read, ldt_write}
use Rattle.xp_words.specs.PageTypes.{type_number}
use Rattle.xp_words.specs.declared.kind.PageType.TheVariants as kinds
use Rattle.xp_words.specs.declared.reply.Refusal.TheVariants.{BadRange, DomainFull, Slot}
use Rattle.xp_board.specs.Readings.{is_dead, is_type}
use Rattle.kind_words.specs.Kinds.{live_kind}
use Rattle.context_words.specs.Names.{naming}
use Rattle.table_words.specs.Pins.{pinned_kind, unpinned_kind}
use Rattle.entry_locks.specs.Locks.{is_lockable}
use Rattle.entry_exchange.specs.Holding.{owner_at}
use Rattle.entry_exchange.specs.Words.{word_kept}
use Rattle.foreign_map.specs.Owning.{frames_of, tables_of}
use Rattle.tlb_walks.specs.Addresses.{access_refusal, cell_index, index_of}
use Rattle.tlb_walks.specs.Walks.{top_word}
use Rattle.desc_pages.specs.Descriptors.{descriptor_refusal, frame_at, index_at}
use Rattle.desc_pages.specs.Gdt.{gdt_refusal, page_at}
use Rattle.desc_pages.specs.Ldt.{ldt_base, ldt_refusal}
use Rattle.ldt_pages.specs.Touching.{is_beyond, refusal_at, touch_address}
use Rattle.table_law.specs.Alone.{Cause, NoFrame, OtherType, PlainOutcome, WrongOwner, alone, fine, take_kind, take_reference}
use Rattle.table_law.specs.Exchange.{exchanged, with_cell}
use Rattle.table_law.specs.Levels.{closed}
use Rattle.table_law.specs.Plain.{Plain, with_kind}
use Rattle.table_law.specs.Release.{let_go}
use Rattle.table_bases.specs.Asking.{user_frame}
use Rattle.script_law.specs.Elements.{performed, updated}
use Rattle.script_law.specs.Frames.{exchange_at, is_pinned_as, pin, pin_by, rename, under_lock, set_base, set_map, unpin, unpin_by, write_by, write_entry, write_memory, write_word}
use Rattle.reservations.specs.Extents.{too_high}
use Rattle.reservations.specs.Returning.{number_at}
use Rattle.reservations.specs.declared.extents.Extent.{Extent}
use Rattle.reservations.specs.declared.extents.Extent.TheVariants.{Increase, Decrease, Populate}
use Rattle.script_law.specs.Memory.{claim, claim_at, first_free, is_allocated_to, pages_of, reserve, return_frame, return_frames, unmarked}
use Rattle.script_law.specs.Pages.{clear_frame, copy_frame, filled_page, fix_descriptor, get_page, get_pages, give_page, with_fixed, with_page, put_descriptor, set_descriptor, set_gdt, set_ldt, take_page}
use Rattle.script_law.specs.Repeats.{each_below, first_of}
use Rattle.script_law.specs.Values.{Frames, IsPinned, IsUnpinned, Numbers, Outcome, Solo, Whose, Why, allowed, back_behind, behind, behind_by, did, looked, put_at, stopped, with_own, looked_by, next_behind, or_back, then_do, with_frames}
use Rattle.script_law.specs.Walks.{Way, from_base, map_refusal, map_word, table_at, read_at, read_by, take_touched, touch_by, touch_ldt, touch_unnamed, update_entry, write_at, write_way}
use Rattle.script_law.specs.Walks as walks

pub record SameDomains (s t : Solo) : Type 0 where
  pub privileges : t.privileges ≡ s.privileges
  pub lives : t.lives ≡ s.lives

pub itself : (s : Solo) → SameDomains s s
itself s = record { privileges = refl; lives = refl }

pub same_then : (s t u : Solo) → SameDomains s t → SameDomains t u → SameDomains s u
same_then s t u a b = record { privileges = b.privileges ∙ a.privileges; lives = b.lives ∙ a.lives }

framed : (s t : Solo) (p : Plain) → SameDomains s t → SameDomains s (with_frames p t)
framed s t p a = record { privileges = a.privileges; lives = a.lives }

-- ---- how outcomes are put together
module _ (s : Solo) where
  abbrev pub Keeps : Outcome → Type 0
  Keeps o = SameDomains s o.left

  abbrev Next : (Solo → Outcome) → Type 0
  Next next = (t : Solo) → SameDomains s t → Keeps (next t)

  by_behind : (t : Solo) (o : PlainOutcome) (r : Option Cause) (next : Solo → Outcome) → SameDomains s t → Next next → Keeps (behind_by t o r next)
  by_behind t o None next a goes = goes (with_frames o.left t) (framed s t o.left a)
  by_behind t o (Some c) next a goes = framed s t o.left a

  by_looked : (r : Option Cause) (t : Solo) (next : Solo → Outcome) → SameDomains s t → Next next → Keeps (looked_by r t next)
  by_looked None t next a goes = goes t a
  by_looked (Some c) t next a goes = a

  by_allowed : (r : Option Refusal) (t : Solo) (o : Outcome) → SameDomains s t → Keeps o → Keeps (allowed r t o)
  by_allowed None t o a b = b
  by_allowed (Some x) t o a b = a

  by_next : (o : Outcome) (r : Option Why) (next : Solo → Outcome) → Keeps o → Next next → Keeps (next_behind o r next)
  by_next o None next a goes = goes o.left a
  by_next o (Some y) next a goes = a

  by_back : (o : Outcome) (r : Option Why) (back : Plain → Plain) → Keeps o → Keeps (back_behind o r back)
  by_back o None back a = a
  by_back o (Some y) back a = framed s o.left (back o.left.frames) a

  by_if : (b : Bool) (x y : Outcome) → Keeps x → Keeps y → Keeps (if b then x else y)
  by_if true x y a e = a
  by_if false x y a e = e

  by_each : (k : ℕ) (one : ℕ → Solo → Solo) (t : Solo) → ((j : ℕ) (u : Solo) → SameDomains s u → SameDomains s (one j u)) → SameDomains s t → SameDomains s (each_below k one t)
  unfolding each_below
  by_each zero one t goes a = a
  by_each (suc k) one t goes a = goes k (each_below k one t) (by_each k one t goes a)

  renamed : (back : ℕ → Plain → Plain) (k word : ℕ) (t : Solo) → SameDomains s t → SameDomains s (rename back k word t)
  renamed back k word t a = record { privileges = a.privileges; lives = a.lives }

  -- ---- elements on frames
  mapped : (n : Machine) (owner f x : ℕ) (t : Solo) → SameDomains s t → Keeps (set_map n owner f x t)
  mapped n owner f x t a = by_looked (take_reference n owner f t.frames).refusal t (λ u. did (record u { maps = put_at f x u.maps })) a (λ u b. record { privileges = b.privileges; lives = b.lives })

  wrote_memory : (n : Machine) (owner f i word : ℕ) → Next (write_memory n owner f i word)
  wrote_memory n owner f i word t a =
      let o = alone n owner 0 f t.frames in
      by_behind t o o.refusal (λ u. did (with_frames (let_go 0 f (with_cell f i word u.frames)) u)) a (λ u b. framed s u (let_go 0 f (with_cell f i word u.frames)) b)

  exchanges : (n : Machine) (o : Owners) (level f i word : ℕ) (keep : Bool) → Next (exchange_at n o level f i word keep)
  exchanges n o level f i word keep t a =
      let e = exchanged n (owner_at level o.tables o.frames) (record { table = f; level = level; index = i }) (word_kept keep (t.frames.cells f i) word) (under_lock f t.frames) in
      by_behind t e e.refusal did a (λ u b. b)

  wrote_entry : (n : Machine) (o : Owners) (f i word : ℕ) (keep : Bool) → Next (write_entry n o f i word keep)
  wrote_entry n o f i word keep t a =
      let r = take_reference n o.tables f t.frames in
      by_behind t r r.refusal (λ u. exchange_at n o (type_number (u.frames.kinds f).kind) f i word keep u) a (λ u b. exchanges n o (type_number (u.frames.kinds f).kind) f i word keep u b)

  wrote : (n : Machine) (o : Owners) (f i word : ℕ) (keep : Bool) → Next (write_word n o f i word keep)
  wrote n o f i word keep t a =
      by_looked (take_reference n o.tables f t.frames).refusal t (λ u. write_by n o f i word keep u (u.frames.kinds f)) a
      (λ u b. by_if (is_lockable (u.frames.kinds f)) (if is_slot (u.frames.kinds f).kind i then stopped (Numbers (Slot i)) u else write_entry n o f i word keep u) (write_memory n o.tables f i word u)
      (by_if (is_slot (u.frames.kinds f).kind i) (stopped (Numbers (Slot i)) u) (write_entry n o f i word keep u) b (wrote_entry n o f i word keep u b)) (wrote_memory n o.tables f i word u b))

  pub updates_keep : (w : Whose) (o : Owners) (e : of_pairs.Element) → Next (updated w o e)
  updates_keep w o (updates.SetM2p f x) t a = mapped w.machine o.frames f x t a
  updates_keep w o (updates.Write f i word keep) t a = wrote w.machine o f i word keep t a
  updates_keep w o updates.Misaligned t a = a
  updates_keep w o updates.Unknown t a = a

  pins_by : (n : Machine) (d f level : ℕ) (k : KindWord) → Next (λ u. pin_by n d f level u k)
  pins_by n d f level k u b =
      let o = alone n d level f u.frames in
      let next = λ (q : Solo). did (with_frames (with_kind f (pinned_kind (q.frames.kinds f)) q.frames) q) in
      by_if (is_pinned_as level k) (stopped (IsPinned k) u) (behind u o next) b (by_behind u o o.refusal next b (λ q c. framed s q (with_kind f (pinned_kind (q.frames.kinds f)) q.frames) c))

  pins : (n : Machine) (d f level : ℕ) → Next (pin n d f level)
  pins n d f level t a =
      by_looked (take_reference n d f t.frames).refusal t (λ u. pin_by n d f level u (u.frames.kinds f)) a (λ u b. pins_by n d f level (u.frames.kinds f) u b)

  unpins : (n : Machine) (d f : ℕ) → Next (unpin n d f)
  unpins n d f t a =
      by_looked (take_reference n d f t.frames).refusal t (λ u. unpin_by f u (u.frames.kinds f)) a
      (λ u b. let k = u.frames.kinds f in let p = let_go (type_number k.kind) f (with_kind f (unpinned_kind k) u.frames) in by_if k.pinned (did (with_frames p u)) (stopped (IsUnpinned k) u) (framed s u p b) b)

  based : (n : Machine) (d k : ℕ) (o : Option ℕ) → Next (set_base n d k o)
  based n d k (Some f) t a = let o = alone n d 4 f t.frames in by_behind t o o.refusal (λ u. did (rename (let_go 4) k (f + 1) u)) a (λ u b. renamed (let_go 4) k (f + 1) u b)
  based n d k None t a = renamed (let_go 4) k 0 t a

  -- ---- elements on pages
  filled : (f : ℕ) (t : Solo) (o : Option ℕ) → SameDomains s t → Keeps (filled_page f t o)
  filled f t None a = framed s t (with_kind f (live_kind kinds.Desc 1) (with_fixed f 512 t.frames)) a
  filled f t (Some i) a = framed s t (closed f kinds.Desc (with_fixed f i t.frames)) a

  took_page : (f : ℕ) (k : KindWord) → Next (λ t. take_page f t k)
  took_page f k t a =
      let o = first_of 512 0 (λ i. is_none (fixed (t.frames.cells f i))) in
      let e = take_kind fine f kinds.Desc t.frames k in
      by_if (is_dead k) (filled_page f t o) (behind t e did) (filled f t o a) (by_behind t e e.refusal did a (λ u b. b))

  got_page : (n : Machine) (d f : ℕ) → Next (get_page n d f)
  got_page n d f t a = let o = take_reference n d f t.frames in by_behind t o o.refusal (λ u. take_page f u (u.frames.kinds f)) a (λ u b. took_page f (u.frames.kinds f) u b)

  got_pages : (n : Machine) (d : ℕ) (fs : List ℕ) → Next (get_pages n d fs)
  unfolding get_pages
  got_pages n d [] t a = a
  got_pages n d (f ∷ fs) t a =
      by_next (get_page n d f t) (get_page n d f t).refusal (λ u. or_back (get_pages n d fs u) (give_page f)) (got_page n d f t a)
      (λ u b. by_back (get_pages n d fs u) (get_pages n d fs u).refusal (give_page f) (got_pages n d fs u b))

  cleared : (n : Machine) (d f : ℕ) → Next (clear_frame n d f)
  cleared n d f t a =
      let o = alone n d 0 f t.frames in
      by_behind t o o.refusal (λ u. did (with_frames (let_go 0 f (with_page f (λ i. 0) u.frames)) u)) a (λ u b. framed s u (let_go 0 f (with_page f (λ i. 0) u.frames)) b)

  copied : (n : Machine) (d to from : ℕ) → Next (copy_frame n d to from)
  copied n d to from t a =
      let o = alone n d 0 to t.frames in
      let next = λ (r : Solo). did (with_frames (let_go 0 to (with_page to (r.frames.cells from) r.frames)) r) in
      by_behind t o o.refusal (λ u. or_back (looked n d from u next) (let_go 0 to)) a
      (λ u b. by_back (looked n d from u next) (looked n d from u next).refusal (let_go 0 to) (by_looked (take_reference n d from u.frames).refusal u next b (λ r c. framed s r (let_go 0 to (with_page to (r.frames.cells from) r.frames)) c)))

  based_ldt : (address entries : ℕ) → Next (set_ldt address entries)
  based_ldt address entries t a =
      let e = by_each 16 (λ j. rename give_page (22 + j) 0) t (λ j u b. renamed give_page (22 + j) 0 u b) a in
      by_allowed (ldt_refusal address entries) t (did (with_own 7 (ldt_write (ldt_base address entries)) (each_below 16 (λ j. rename give_page (22 + j) 0) t))) a (record { privileges = e.privileges; lives = e.lives })

  pub performs_keep : (w : Whose) (e : Element) → Next (performed w e)
  performs_keep w (Pin f level) t a = pins w.machine w.domain f level t a
  performs_keep w (Unpin f) t a = unpins w.machine w.domain f t a
  performs_keep w (NewBase f) t a = based w.machine w.domain 0 (Some f) t a
  performs_keep w (NewUserBase f) t a = based w.machine w.domain 1 (user_frame f) t a
  performs_keep w FlushLocal t a = a
  performs_keep w (Invalidate va) t a = a
  performs_keep w (FlushVcpus mask) t a = a
  performs_keep w (SetLdt address entries) t a = based_ldt address entries t a
  performs_keep w (ClearPage f) t a = cleared w.machine w.domain f t a
  performs_keep w (CopyPage to from) t a = copied w.machine w.domain to from t a
  performs_keep w Unknown t a = a

  pub gdt_keeps : (n : Machine) (d entries : ℕ) (fs : List ℕ) → Next (set_gdt n d entries fs)
  gdt_keeps n d entries fs t a =
      let one = λ (j : ℕ). rename give_page (8 + j) (naming (page_at fs j)) in
      let next = λ (u : Solo). did (each_below 14 one u) in
      by_allowed (gdt_refusal entries fs) t (then_do (get_pages n d fs t) next) a
      (by_next (get_pages n d fs t) (get_pages n d fs t).refusal next (got_pages n d fs t a) (λ u b. by_each 14 one u (λ j r c. renamed give_page (8 + j) (naming (page_at fs j)) r c) b))

  put : (n : Machine) (d f i word : ℕ) → Next (put_descriptor n d f i word)
  put n d f i word t a = by_next (get_page n d f t) (get_page n d f t).refusal (λ u. did (with_frames (give_page f (with_cell f i word u.frames)) u)) (got_page n d f t a) (λ u b. framed s u (give_page f (with_cell f i word u.frames)) b)

  fixes : (n : Machine) (d f i word : ℕ) (o : Option ℕ) → Next (λ t. fix_descriptor n d f i word t o)
  fixes n d f i word None t a = a
  fixes n d f i word (Some x) t a = let k = t.frames.kinds f in by_if (k.validated && is_type k.kind kinds.Desc) (put_descriptor n d f i x t) (write_memory n d f i x t) (put n d f i x t a) (wrote_memory n d f i x t a)

  pub descriptor_keeps : (n : Machine) (d address word : ℕ) → Next (set_descriptor n d address word)
  descriptor_keeps n d address word t a =
      let f = frame_at address in
      let i = index_at address in
      let next = λ (u : Solo). fix_descriptor n d f i word u (fixed word) in
      by_allowed (descriptor_refusal address) t (looked n d f t next) a (by_looked (take_reference n d f t.frames).refusal t next a (λ u b. fixes n d f i word (fixed word) u b))

  -- ---- by address
  at_table : (n : Machine) (o : Owners) (va word : ℕ) (r : Result ℕ Refusal) → Next (λ t. update_entry n o va word t r)
  at_table n o va word (Ok f) t a =
      let no = λ (u : Solo). stopped (Frames (OtherType f kinds.L1 (u.frames.kinds f))) u in
      by_looked (take_reference n o.tables f t.frames).refusal t (λ u. if is_lockable (u.frames.kinds f) && is_type (u.frames.kinds f).kind kinds.L1 then write_entry n o f (index_of va 1) word false u else no u) a
      (λ u b. by_if (is_lockable (u.frames.kinds f) && is_type (u.frames.kinds f).kind kinds.L1) (write_entry n o f (index_of va 1) word false u) (no u) (wrote_entry n o f (index_of va 1) word false u b) b)
  at_table n o va word (Err x) t a = a

  pub maps_keep : (w : Whose) (foreign va word flags : ℕ) → Next (map_word w foreign va word flags)
  maps_keep w foreign va word flags t a =
      let o : Owners = record { tables = tables_of w.domain foreign; frames = frames_of w.domain foreign } in
      let r = table_at w.machine va t (t.own 0) in
      by_allowed (map_refusal w foreign va flags t) t (update_entry w.machine o va word t r) a (at_table w.machine o va word r t a)

  read : (va : ℕ) (w : Way) → Next (λ t. read_by va t w)
  read va (walks.Leads f barrier p) t a = framed s t p a
  read va (walks.Stops x p) t a = framed s t p a

  wrote_way : (va val : ℕ) (w : Way) → Next (λ t. write_way va val t w)
  wrote_way va val (walks.Leads f None p) t a = framed s t (with_cell f (cell_index va) val p) a
  wrote_way va val (walks.Leads f (Some e) p) t a = framed s t p a
  wrote_way va val (walks.Stops x p) t a = framed s t p a

  pub read_keeps : (n : Machine) (user : Bool) (va : ℕ) → Next (read_at n user va)
  read_keeps n user va t a = let w = from_base n va false (t.own (top_word user)) t.frames in by_allowed (access_refusal va) t (read_by va t w) a (read va w t a)

  pub write_keeps : (n : Machine) (user : Bool) (va val : ℕ) → Next (write_at n user va val)
  write_keeps n user va val t a = let w = from_base n va true (t.own (top_word user)) t.frames in by_allowed (access_refusal va) t (write_way va val t w) a (wrote_way va val w t a)

  touched_page : (n : Machine) (d page : ℕ) (w : Way) → Next (λ t. take_touched n d page t w)
  touched_page n d page (walks.Leads f barrier p) t a =
      let g = get_page n d f (with_frames p t) in
      by_next g g.refusal (λ u. did (rename give_page (22 + page) (f + 1) u)) (got_page n d f (with_frames p t) (framed s t p a)) (λ u b. renamed give_page (22 + page) (f + 1) u b)
  touched_page n d page (walks.Stops x p) t a = framed s t p a

  touches : (n : Machine) (d page : ℕ) (o : Option LdtBase) (word : ℕ) → Next (λ t. touch_by n d page t o word)
  touches n d page (Some b) zero t a = let w = from_base n (touch_address page b) false (t.own 0) t.frames in by_allowed (refusal_at page (Some b)) t (take_touched n d page t w) a (touched_page n d page w t a)
  touches n d page (Some b) (suc f) t a = by_if (is_beyond page b) (stopped (Numbers BadRange) t) (did t) a a
  touches n d page None word t a = a

  pub touch_keeps : (n : Machine) (d page : ℕ) → Next (touch_ldt n d page)
  touch_keeps n d page t a = touches n d page (ldt_read (t.own 7)) (t.own (22 + page)) t a

  -- ---- extents
  claims : (d size call extent : ℕ) (gpfn : Option ℕ) (b : Option ℕ) → Next (λ t. claim_at d size call extent gpfn t b)
  claims d size call extent gpfn None t a = a
  claims d size call extent gpfn (Some b) t a = record { privileges = a.privileges; lives = a.lives }

  claimed : (w : Whose) (size call extent : ℕ) (gpfn : Option ℕ) → Next (claim w size call extent gpfn)
  claimed w size call extent gpfn t a =
      let pages = pages_of w.machine w.domain t.frames in
      let b = first_free w.machine size t.frames in
      by_if (nat_lt (slice_index w.machine.page_limit w.domain) (pages + size)) (stopped (Numbers (DomainFull pages)) t) (claim_at w.domain size call extent gpfn t b) a (claims w.domain size call extent gpfn b t a)

  returned : (n : Machine) (d g : ℕ) → Next (return_frame n d g)
  returned n d g t a =
      let r = t.frames.shares g in
      let no = stopped (Frames (WrongOwner g r)) t in
      let done = did (with_frames (unmarked g r t.frames) t) in
      by_if (not (nat_lt g n.frames)) (stopped (Frames (NoFrame g)) t) (if is_allocated_to d r then done else no) a (by_if (is_allocated_to d r) done no (framed s t (unmarked g r t.frames) a) a)

  all_returned : (n : Machine) (d first k : ℕ) → Next (return_frames n d first k)
  unfolding return_frames
  all_returned n d first zero t a = a
  all_returned n d first (suc k) t a =
      by_next (return_frames n d first k t) (return_frames n d first k t).refusal (return_frame n d (number_at first k)) (all_returned n d first k t a) (λ u b. returned n d (number_at first k) u b)

  pub reserve_keeps : (w : Whose) (size call k : ℕ) (e : Extent) → Next (reserve w size call k e)
  reserve_keeps w size call k Increase t a = claimed w size call k None t a
  reserve_keeps w size call k (Populate gpfn) t a = by_if (too_high gpfn) (stopped (Numbers BadRange) t) (claim w size call k (Some gpfn) t) a (claimed w size call k (Some gpfn) t a)
  reserve_keeps w size call k (Decrease first) t a = all_returned w.machine w.domain first size t a
