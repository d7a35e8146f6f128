-- While the gate pauses the acquisition of a table again and again, a live table of the level above stays a live table of that level under its lock.
use Rattle.std.proofs.Common.{◌≡◌, ◌≢◌, ◌<◌, ◌≤◌, ◌-◌, ◌==◌, ◌&&◌, not, nat_le, nat_lt, ℕ, zero, suc, Bool, true, false, if◌then◌else◌, List, [], ◌∷◌, Option, Some, None, refl, sym, ap, ◌∙◌, subst, inl, inr, arith}
use Rattle.std.proofs.lemmas.Bool.{cases_eq}
use Rattle.xp_words.specs.Machine.{IsMachine, Machine}
use Rattle.xp_words.specs.declared.entry.Demand.{Demand}
use Rattle.xp_words.specs.declared.entry.Demand.TheVariants.{Nothing, Bad, Read, Typed}
use Rattle.xp_words.specs.declared.kind.KindWord.{KindWord}
use Rattle.xp_words.specs.declared.kind.PageType.{PageType}
use Rattle.xp_words.specs.declared.kind.PageType.TheVariants as kinds
use Rattle.xp_words.proofs.Shared.{and_second_false}
use Rattle.xp_board.specs.KindSteps.{raised_kind}
use Rattle.xp_board.specs.Readings.{is_dead, is_type, kind_at}
use Rattle.xp_board.specs.Told.{PortValue, is_telling, told_word}
use Rattle.step_maker.specs.Plain.{Words}
use Rattle.kind_words.specs.Kinds.{dead_kind, live_kind, partial_kind, work_kind}
use Rattle.kind_words.proofs.KindFacts.{live_undead}
use Rattle.partial_state.specs.Levels.{level_type}
use Rattle.partial_state.specs.declared.stack.TableWork.{TableWork}
use Rattle.partial_state.proofs.LevelFacts.{level_type-above, level_type-below}
use Rattle.table_law.specs.Alone.{Cause, CountFull, NoFrame, OtherType, PlainOutcome, WrongOwner, alone, back_or, fine, go_on, is_counted, meet, meet_last, refused, take_at, take_kind, take_reference, take_reference_of, then_or}
use Rattle.table_law.specs.Lawful.{IsAtRest, IsShareOf}
use Rattle.table_law.specs.Levels.{TableLeft, closed, closed_as, entry_of}
use Rattle.table_law.specs.Plain.{Describes, Plain, Share, at, fewer, raised_share, reference_back, sober, with_kind, with_share}
use Rattle.table_law.specs.Release.{count_back, drop_demand, drop_first, drop_kind, emptying, entries_held, is_counted_on, let_go, undo_below, keeps_mark}
use Rattle.table_law.specs.Stack.{rest}
use Rattle.table_law.specs.Undone.{CountsSome, IsSameButType, IsSameButTypes}
use Rattle.table_law.proofs.Counting.{at_here, at_there}
use Rattle.table_law.proofs.Describing.{sober_live}
use Rattle.table_law.proofs.OnWords.{counts_plain}
use Rattle.table_law.proofs.ReturningTables.{refused_same, released_same}
use Rattle.table_twins.proofs.Typing.{live_sober}
use Rattle.course_laws.specs.Courses.{IsOrderly}
use Rattle.course_laws.proofs.Extras.{extra, more_of}
use Rattle.course_laws.proofs.Halfway.{onto, over, over_off, tables_onto}
use Rattle.course_laws.proofs.Stacking.{lefts}
use Rattle.course_laws.proofs.Under.{IsOff, PlainTables, TableOf}
use Rattle.course_laws.proofs.Unwinding.{Parked}
use Rattle.refusal_laws.specs.Repeated.{PausedCalls}
use Rattle.refusal_laws.proofs.Repeating.{parked_calls}
use Rattle.solo_entries.proofs.Lasting.{IsLockedIn, IsUnderLock}

module _ (f owner level : ℕ) where
  -- in a plain value frame f is such a table, of that owner
  record HasTable (p : Plain) : Type 0 where
    pub table : IsUnderLock level (p.kinds f)
    pub share : IsShareOf owner (p.shares f)

  -- ---- what leaves it so found it so
  abbrev Back : (Plain → Plain) → Type 0
  Back F = (p : Plain) → HasTable (F p) → HasTable p

  abbrev BackBy : (Plain → PlainOutcome) → Type 0
  BackBy take = (p : Plain) → HasTable (take p).left → HasTable p

  fewer_back : (o : Option Share) → IsShareOf owner (fewer o) → IsShareOf owner o
  fewer_back None own = own
  fewer_back (Some s) own = by (s.count == 1) own
    where
      by : (b : Bool) → IsShareOf owner (if b then None else Some (record { owner = s.owner; allocated = s.allocated; count = s.count - 1 })) → s.owner ≡ owner
      by true own = absurd own
      by false own = own

  share_at : (g : ℕ) (o : Option Share) (shares : ℕ → Option Share) → (IsShareOf owner o → IsShareOf owner (shares g)) → IsShareOf owner (at g o shares f) → IsShareOf owner (shares f)
  share_at g o shares back own = elim (cases_eq f g) [
    | inl e ↦ subst (λ h. IsShareOf owner (shares h)) (sym e) (back (subst (IsShareOf owner) (ap (at g o shares) e ∙ at_here g o shares) own))
    | inr apart ↦ subst (IsShareOf owner) (at_there g f o shares apart) own
  ]

  back_reference : (g : ℕ) → Back (reference_back g)
  back_reference g p k = record { table = k.table; share = share_at g (fewer (p.shares g)) p.shares (fewer_back (p.shares g)) k.share }

  back_kind : (g : ℕ) (w : KindWord) (p : Plain) → f ≢ g → HasTable (with_kind g w p) → HasTable p
  back_kind g w p apart k = record { table = subst (IsUnderLock level) (at_there g f w p.kinds apart) k.table; share = k.share }

  -- a frame whose word gets no lock is another one
  unlocked_apart : (g : ℕ) (w : KindWord) (p : Plain) → w.locked ≡ false → HasTable (with_kind g w p) → f ≢ g
  unlocked_apart g w p off k e =
      let here : (with_kind g w p).kinds f ≡ w = ap (at g w p.kinds) e ∙ at_here g w p.kinds in
      let on : false ≡ true = sym off ∙ (sym (ap (λ (j : KindWord). j.locked) here) ∙ k.table.locked) in
      cc

  back_closed_as : (u : Bool) (g : ℕ) (t : PageType) (p : Plain) → HasTable (closed_as u g t p) → (f ≢ g) × HasTable p
  back_closed_as u g t p k =
      let w = dead_kind t u 0 in
      let b = back_reference g (with_kind g w p) k in
      let apart = unlocked_apart g w p refl b in
      (apart, back_kind g w p apart b)

  back_closed : (g : ℕ) (t : PageType) (p : Plain) → HasTable (closed g t p) → (f ≢ g) × HasTable p
  back_closed g t p k = back_closed_as false g t p k

  back_live : (g : ℕ) (t : PageType) (p : Plain) → HasTable (with_kind g (live_kind t 1) p) → (f ≢ g) × HasTable p
  back_live g t p k = let apart = unlocked_apart g (live_kind t 1) p refl k in (apart, back_kind g (live_kind t 1) p apart k)

  -- ---- a release
  back_count : (g : ℕ) (p : Plain) → HasTable (count_back g (p.kinds g) p) → HasTable p
  back_count g p k =
      let w = record (p.kinds g) { number = (p.kinds g).number - 1 } in
      let b = back_reference g (with_kind g w p) k in
      elim (cases_eq f g) [
        | inl e ↦
            let t = subst (IsUnderLock level) (ap (at g w p.kinds) e ∙ at_here g w p.kinds) b.table in
            let s = t.several in
            record { table = subst (λ h. IsUnderLock level (p.kinds h)) (sym e) (record { live = t.live; locked = t.locked; several = omega (arith, s); kind = t.kind }); share = b.share }
        | inr apart ↦ back_kind g w p apart b
      ]

  module _ (empty : ℕ → Plain → Plain) (g : ℕ) (t : PageType) (backs : (k : ℕ) → Back (empty k)) where
    back_drop_by : (b : Bool) (p : Plain) → HasTable (if b then count_back g (p.kinds g) p else closed_as (keeps_mark (p.kinds g)) g t (empty (entries_held (p.kinds g)) (with_kind g (emptying (p.kinds g)) p))) → HasTable p
    back_drop_by true p k = back_count g p k
    back_drop_by false p k =
        let inner = with_kind g (emptying (p.kinds g)) p in
        let b = back_closed_as (keeps_mark (p.kinds g)) g t (empty (entries_held (p.kinds g)) inner) k in
        back_kind g (emptying (p.kinds g)) p b.0 (backs (entries_held (p.kinds g)) inner b.1)

    back_drop : (p : Plain) → HasTable (drop_kind empty g t p (p.kinds g)) → HasTable p
    back_drop p k = back_drop_by (is_counted_on (p.kinds g)) p k

  back_demand : (below : ℕ → Plain → Plain) → ((g : ℕ) → Back (below g)) → (p : Plain) (d : Demand) → HasTable (drop_demand below p d) → HasTable p
  back_demand below backs p Nothing k = k
  back_demand below backs p Bad k = k
  back_demand below backs p (Read g) k = back_reference g p k
  back_demand below backs p (Typed g t) k = backs g p k

  back_first : (below : ℕ → Plain → Plain) → ((g : ℕ) → Back (below g)) → (t : PageType) (h i : ℕ) → Back (drop_first below t h i)
  unfolding drop_first
  back_first below backs t h zero p k = k
  back_first below backs t h (suc i) p k = back_demand below backs p (entry_of p t h i) (back_first below backs t h i (drop_demand below p (entry_of p t h i)) k)

  back_go : (l g : ℕ) → Back (let_go l g)
  unfolding let_go
  back_go zero g p k = back_drop (λ i q. q) g kinds.Writable (λ i q h. h) p k
  back_go (suc l) g p k = back_drop (drop_first (let_go l) (level_type (suc l)) g) g (level_type (suc l)) (λ i q h. back_first (let_go l) (λ j. back_go l j) (level_type (suc l)) g i q h) p k

  back_undo : (xs : List TableLeft) → Back (undo_below xs)
  unfolding undo_below
  back_undo [] p k = k
  back_undo (x ∷ xs) p k =
      let t = level_type (suc x.level) in
      let q = drop_first (let_go x.level) t x.frame (511 - x.ahead) p in
      back_first (let_go x.level) (λ j. back_go x.level j) t x.frame (511 - x.ahead) p (back_closed x.frame t q (back_undo xs (closed x.frame t q) k)).1

  -- ---- an acquisition
  back_share_by : (n : Machine) (g : ℕ) (p : Plain) (s : Share) (a b : Bool) → p.shares g ≡ Some s → HasTable (if a then refused (WrongOwner g (Some s)) p else if b then refused (CountFull g s) p else fine (with_share g (raised_share s) p)).left → HasTable p
  back_share_by n g p s true b is k = k
  back_share_by n g p s false true is k = k
  back_share_by n g p s false false is k = record { table = k.table; share = share_at g (Some (raised_share s)) p.shares (λ own. subst (IsShareOf owner) (sym is) own) k.share }

  back_share : (n : Machine) (g : ℕ) (p : Plain) (o : Option Share) → p.shares g ≡ o → HasTable (take_reference_of n owner g p o).left → HasTable p
  back_share n g p None is k = k
  back_share n g p (Some s) is k = back_share_by n g p s (not (s.owner == owner)) (nat_le n.limit s.count) is k

  back_take_by : (n : Machine) (g : ℕ) (p : Plain) (b : Bool) → HasTable (if b then take_reference_of n owner g p (p.shares g) else refused (NoFrame g) p).left → HasTable p
  back_take_by n g p true k = back_share n g p (p.shares g) refl k
  back_take_by n g p false k = k

  back_take : (n : Machine) (g : ℕ) → BackBy (take_reference n owner g)
  back_take n g p k = back_take_by n g p (nat_lt g n.frames) k

  back_then : (o : Option Cause) (p : Plain) (next : Plain → PlainOutcome) → BackBy next → HasTable (go_on o p next).left → HasTable p
  back_then None p next goes k = goes p k
  back_then (Some c) p next goes k = k

  back_either : (o : Option Cause) (p : Plain) (back : Plain → Plain) (next : Plain → PlainOutcome) → Back back → BackBy next → HasTable (back_or o p back next).left → HasTable p
  back_either None p back next backs goes k = goes p k
  back_either (Some c) p back next backs goes k = backs p k

  -- a frame that was dead is filled
  back_filled : (o : Option Cause) (g : ℕ) (t : PageType) (p : Plain) → HasTable (back_or o p (closed g t) (λ q. fine (with_kind g (live_kind t 1) q))).left → (f ≢ g) × HasTable p
  back_filled None g t p k = back_live g t p k
  back_filled (Some c) g t p k = back_closed g t p k

  module _ (fill : Plain → PlainOutcome) (g : ℕ) (t : PageType) (goes : BackBy fill) (other : is_type (level_type level) t ≡ false) where
    raised_apart : (p : Plain) → (is_counted (p.kinds g) && is_type (p.kinds g).kind t) ≡ true → HasTable (with_kind g (raised_kind (p.kinds g)) p) → f ≢ g
    raised_apart p on k e =
        let here : (with_kind g (raised_kind (p.kinds g)) p).kinds f ≡ raised_kind (p.kinds g) = ap (at g (raised_kind (p.kinds g)) p.kinds) e ∙ at_here g (raised_kind (p.kinds g)) p.kinds in
        let kind : (p.kinds g).kind ≡ level_type level = sym (ap (λ (j : KindWord). j.kind) here) ∙ k.table.kind in
        let off = and_second_false (is_counted (p.kinds g)) (is_type (p.kinds g).kind t) (ap (λ u. is_type u t) kind ∙ other) in
        let a : true ≡ false = sym on ∙ off in
        cc

    back_type_by : (d c : Bool) (p : Plain) → (is_counted (p.kinds g) && is_type (p.kinds g).kind t) ≡ c →
        HasTable (if d then then_or (fill (with_kind g (work_kind t false 0) p)) (closed g t) (λ q. fine (with_kind g (live_kind t 1) q)) else if c then fine (with_kind g (raised_kind (p.kinds g)) p) else refused (OtherType g t (p.kinds g)) (reference_back g p)).left → HasTable p
    back_type_by true c p is k =
        let begun = with_kind g (work_kind t false 0) p in
        let b = back_filled (fill begun).refusal g t (fill begun).left k in
        back_kind g (work_kind t false 0) p b.0 (goes begun b.1)
    back_type_by false true p is k = back_kind g (raised_kind (p.kinds g)) p (raised_apart p is k) k
    back_type_by false false p is k = back_reference g p k

    back_type : (p : Plain) → HasTable (take_kind fill g t p (p.kinds g)).left → HasTable p
    back_type p k = back_type_by (is_dead (p.kinds g)) (is_counted (p.kinds g) && is_type (p.kinds g).kind t) p refl k

  back_meet : (n : Machine) (below : ℕ → Plain → PlainOutcome) → ((g : ℕ) → BackBy (below g)) → (h i : ℕ) (p : Plain) (d : Demand) → HasTable (meet n owner below h i p d).left → HasTable p
  back_meet n below goes h i p Nothing k = k
  back_meet n below goes h i p Bad k = k
  back_meet n below goes h i p (Read g) k = back_take n g p k
  back_meet n below goes h i p (Typed g t) k = back_take n g p (back_then (take_reference n owner g p).refusal (take_reference n owner g p).left (below g) (goes g) k)

  back_last : (n : Machine) (below : ℕ → Plain → PlainOutcome) (drop : ℕ → Plain → Plain) → ((g : ℕ) → BackBy (below g)) → ((g : ℕ) → Back (drop g)) → (t : PageType) (h i : ℕ) → BackBy (meet_last n owner below drop t h i)
  unfolding meet_last
  back_last n below drop goes drops t h zero p k = k
  back_last n below drop goes drops t h (suc i) p k =
      let j = 512 - suc i in
      let o = meet n owner below h j p (entry_of p t h j) in
      back_meet n below goes h j p (entry_of p t h j)
      (back_either o.refusal o.left (drop_first drop t h j) (meet_last n owner below drop t h i) (λ q a. back_first drop drops t h j q a) (λ q a. back_last n below drop goes drops t h i q a) k)

  -- tables in work, all below that level
  abbrev AllBelow : List TableLeft → Type 0
  AllBelow [] = Unit {0}
  AllBelow (x ∷ xs) = (x.level < level) × AllBelow xs

  module _ (n : Machine) (high : level ≤ 4) where
    other_type : (l : ℕ) → l < level → is_type (level_type level) (level_type l) ≡ false
    other_type l low = subst (λ t. is_type (level_type level) t ≡ false) (level_type-below l (omega arith)) (level_type-above (suc l) level (omega arith) (omega arith) high)

    back_at : (l g : ℕ) → l < level → BackBy (take_at l n owner g)
    unfolding take_at
    back_at zero g low p k = back_type fine g kinds.Writable (λ q a. a) (other_type 0 low) p k
    back_at (suc l) g low p k =
        let t = level_type (suc l) in
        back_type (meet_last n owner (take_at l n owner) (let_go l) t g 512) g t
        (λ q a. back_last n (take_at l n owner) (let_go l) (λ h. back_at l h (omega arith)) (λ h. back_go l h) t g 512 q a) (other_type (suc l) low) p k

    back_rest : (xs : List TableLeft) → AllBelow xs → BackBy (rest n owner xs)
    unfolding rest
    back_rest [] low p k = k
    back_rest (x ∷ xs) low p k =
        let t = level_type (suc x.level) in
        let o = meet_last n owner (take_at x.level n owner) (let_go x.level) t x.frame x.ahead p in
        back_last n (take_at x.level n owner) (let_go x.level) (λ h. back_at x.level h low.0) (λ h. back_go x.level h) t x.frame x.ahead p
        (back_either o.refusal o.left (λ q. undo_below xs (closed x.frame t q)) (λ q. rest n owner xs (with_kind x.frame (live_kind t 1) q))
        (λ q a. (back_closed x.frame t q (back_undo xs (closed x.frame t q) a)).1) (λ q a. (back_live x.frame t q (back_rest xs low.1 (with_kind x.frame (live_kind t 1) q) a)).1) k)

  -- ---- what an acquisition leaves
  module _ (n : Machine) (q : Plain) (counts : CountsSome n q) (kept : HasTable q) where
    same_kept : (r : Plain) → IsSameButTypes q r → HasTable r
    same_kept r same = record { table = by (same.kinds f); share = subst (IsShareOf owner) (sym (same.shares f)) kept.share }
      where
        by : IsSameButType (q.kinds f) (r.kinds f) → IsUnderLock level (r.kinds f)
        by (inl is) = subst (IsUnderLock level) (sym is) kept.table
        by (inr dead) = absurd (let a : false ≡ true = sym (live_undead (q.kinds f) kept.table.live) ∙ dead.0 in cc)

    alone_kept : (l g : ℕ) → HasTable (alone n owner l g q).left
    alone_kept l g = by (alone n owner l g q).refusal refl
      where
        by : (r : Option Cause) → (alone n owner l g q).refusal ≡ r → HasTable (alone n owner l g q).left
        by None none = back_go l g (alone n owner l g q).left (same_kept (let_go l g (alone n owner l g q).left) (released_same n owner l g q counts none))
        by (Some c) is = same_kept (alone n owner l g q).left (refused_same n owner l g q c counts is)

  -- ---- the tables of a pause
  module _ (n : Machine) (p : Plain) where
    -- one in work is another frame
    work_apart : (t : TableWork) → (p.kinds f).validated ≡ true → TableOf n owner p t → t.frame ≢ f
    work_apart t live table e =
        let off : (p.kinds f).validated ≡ false = ap (λ h. (p.kinds h).validated) (sym e) ∙ ap (λ (j : KindWord). j.validated) table.work in
        let a : false ≡ true = sym off ∙ live in
        cc

    off_live : (rs us : List TableWork) → (p.kinds f).validated ≡ true → PlainTables n owner p (onto rs us) → IsOff rs f
    off_live [] us live all = tt
    off_live (r ∷ rs) us live all = (work_apart r live (tables_onto n owner p rs (r ∷ us) all).0, off_live rs (r ∷ us) live all)

    all_below : (rs : List TableWork) (u : TableWork) (us : List TableWork) → u.level < level → AllBelow (lefts us) → PlainTables n owner p (onto rs (u ∷ us)) → AllBelow (lefts (onto rs (u ∷ us)))
    all_below [] u us low outer all = (omega arith, outer)
    all_below (r ∷ rs) u us low outer all =
        let above = (tables_onto n owner p rs (r ∷ u ∷ us) all).1.0 in
        all_below rs r (u ∷ us) (omega arith) (omega arith, outer) all

  -- ---- the words of a pause
  more_share : (e : ℕ) (o : Option Share) → IsShareOf owner o → IsShareOf owner (more_of e o)
  more_share e None own = own
  more_share e (Some s) own = own

  share_is : (o : Option Share) → IsShareOf owner o → (s : Share) × (o ≡ Some s) × (s.owner ≡ owner)
  share_is None own = absurd own
  share_is (Some s) own = (s, refl, own)

  module _ (n : Machine) (m : Words) (g l : ℕ) (a : PlainOutcome) (high : level ≤ 4) (low : l < level) (inside : f < n.frames) (kept : HasTable a.left) (h : Parked n owner m g l a) where
    of_table : TableOf n owner h.plain h.table
    of_table = (tables_onto n owner h.plain h.inner (h.table ∷ []) h.under.tables).0

    plain_kept : HasTable h.plain
    plain_kept =
        let same = h.level_is in
        let below = all_below n h.plain h.inner h.table [] (omega arith) tt h.under.tables in
        back_rest n high (lefts (onto h.inner (h.table ∷ []))) below h.plain (subst (λ (o : PlainOutcome). HasTable o.left) (sym h.under.ahead) kept)

    word_is : sober (kind_at m f) ≡ h.plain.kinds f
    word_is =
        let live = plain_kept.table.live in
        sym (h.describes.kinds f inside)
        ∙ at_there h.table.frame f (partial_kind (level_type h.table.level) true false h.table.done 0) (over h.inner h.plain.kinds) (λ e. work_apart n h.plain h.table live of_table (sym e))
        ∙ over_off h.inner h.plain.kinds f (off_live n h.plain h.inner (h.table ∷ []) live h.under.tables)

    kind_is : kind_at m f ≡ h.plain.kinds f
    kind_is =
        let live = sym (sober_live (kind_at m f)) ∙ (ap (λ (k : KindWord). k.validated) word_is ∙ plain_kept.table.live) in
        sym (live_sober (kind_at m f) live) ∙ word_is

    parked_locked : IsLockedIn n f owner level m
    parked_locked =
        let e = extra (h.table ∷ []) f in
        let s = share_is (more_of e (h.plain.shares f)) (more_share e (h.plain.shares f) plain_kept.share) in
        record { inside = inside; table = subst (IsUnderLock level) (sym kind_is) plain_kept.table; share = s.0; held = sym (h.describes.shares f inside) ∙ s.1; owns = s.2 }

pub endures : (v u : PortValue) (f owner level g : ℕ) (q : Plain) (s : Share) → IsMachine v.post.machine → is_telling v ≡ true → IsAtRest v.post.machine (told_word v) → IsOrderly v.post.machine (told_word v) → Describes v.post.machine (told_word v) q →
    f < v.post.machine.frames → IsUnderLock level (q.kinds f) → q.shares f ≡ Some s → s.owner ≡ owner → 2 ≤ level → level ≤ 4 → PausedCalls g owner (level - 1) v u → IsLockedIn v.post.machine f owner level (told_word u)
endures v u f owner level g q s machine telling calm orderly d inside table held owns two high calls =
    let n = v.post.machine in
    let at_u = parked_calls v g owner (level - 1) machine telling calm orderly (omega arith) (omega arith) q d u calls in
    let kept : HasTable f owner level q = record { table = table; share = subst (IsShareOf owner) (sym held) owns } in
    parked_locked f owner level n (told_word u) g (level - 1) (alone n owner (level - 1) g q) high (omega arith) inside
    (alone_kept f owner level n q (counts_plain n (told_word v) q d calm.counted) kept (level - 1) g) at_u.parked
