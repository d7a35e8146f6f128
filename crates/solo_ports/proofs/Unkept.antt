-- The plain functions leave no frame with the kept mark that had none.
use Rattle.std.proofs.Common.{◌≡◌, ℕ, zero, suc, ◌-◌, ◌==◌, ◌&&◌, Bool, true, false, if◌then◌else◌, nat_le, nat_lt, Option, Some, None, refl, subst, inl, inr}
use Rattle.std.proofs.lemmas.Bool.{cases_Bool}
use Rattle.xp_words.specs.Machine.{Machine}
use Rattle.xp_board.proofs.PlaceTests.{equal_by as same_is}
use Rattle.xp_words.specs.declared.entry.Demand.{Demand}
use Rattle.xp_words.specs.declared.entry.Demand.TheVariants.{Nothing, Bad, Read, Typed}
use Rattle.xp_words.specs.declared.kind.KindWord.{KindWord}
use Rattle.xp_words.specs.declared.kind.PageType.{PageType}
use Rattle.xp_words.specs.declared.kind.PageType.TheVariants as kinds
use Rattle.xp_board.specs.Readings.{is_dead, is_partial, is_type}
use Rattle.xp_board.specs.KindSteps.{raised_kind}
use Rattle.kind_words.specs.Kinds.{live_kind, work_kind}
use Rattle.partial_state.specs.Levels.{level_type}
use Rattle.table_law.specs.Alone.{Cause, PlainOutcome, alone, back_or, fine, go_on, is_counted, meet, meet_last, take_at, take_kind, take_reference, take_reference_of}
use Rattle.table_law.specs.Levels.{closed, closed_as, entry_of}
use Rattle.table_law.specs.Plain.{Plain, Share, with_kind}
use Rattle.table_law.specs.Release.{count_back, drop_demand, drop_first, drop_kind, emptying, entries_held, is_counted_on, keeps_mark, let_go}
use Rattle.solo_ports.specs.Standing.{IsUnkept}

module _ (g : ℕ) where
  abbrev pub Un : Plain → Type 0
  Un p = (p.kinds g).kept ≡ false

  -- one frame's kind word is another one
  here_or : (b : Bool) (k l : KindWord) → (b ≡ true → k.kept ≡ false) → l.kept ≡ false → (if b then k else l).kept ≡ false
  here_or true k l a e = a refl
  here_or false k l a e = e

  pub by_kind : (f : ℕ) (k : KindWord) (p : Plain) → k.kept ≡ false → Un p → Un (with_kind f k p)
  by_kind f k p a e = here_or (g == f) k (p.kinds g) (λ b. a) e

  -- ---- a release
  by_closed_as : (u : Bool) (f : ℕ) (t : PageType) (p : Plain) → Un p → Un (closed_as u f t p)
  by_closed_as u f t p e = by_kind f _ p refl e

  pub by_closed : (f : ℕ) (t : PageType) (p : Plain) → Un p → Un (closed f t p)
  by_closed f t p e = by_closed_as false f t p e

  by_count : (f : ℕ) (k : KindWord) (p : Plain) → (g ≡ f → k.kept ≡ false) → Un p → Un (count_back f k p)
  by_count f k p a e = here_or (g == f) (record k { number = k.number - 1 }) (p.kinds g) (λ b. a (same_is g f b)) e

  own_kind : (f : ℕ) (p : Plain) → Un p → g ≡ f → (p.kinds f).kept ≡ false
  own_kind f p e is = subst (λ h. (p.kinds h).kept ≡ false) is e

  emptied : (k : KindWord) → k.kept ≡ false → (emptying k).kept ≡ false
  emptied k e = elim (cases_Bool (is_partial k)) [
    | inl part ↦ rw part refl
    | inr off ↦ rw off e
  ]

  abbrev Empties : (ℕ → Plain → Plain) → Type 0
  Empties empty = (k : ℕ) (p : Plain) → Un p → Un (empty k p)

  by_drop_at : (empty : ℕ → Plain → Plain) (f : ℕ) (t : PageType) (p : Plain) → Empties empty → Un p → Un (drop_kind empty f t p (p.kinds f))
  by_drop_at empty f t p goes e = elim (cases_Bool (is_counted_on (p.kinds f))) [
    | inl on ↦ rw on (by_count f (p.kinds f) p (own_kind f p e) e)
    | inr off ↦ rw off (by_closed_as (keeps_mark (p.kinds f)) f t (empty (entries_held (p.kinds f)) (with_kind f (emptying (p.kinds f)) p)) (goes (entries_held (p.kinds f)) (with_kind f (emptying (p.kinds f)) p)
        (here_or (g == f) (emptying (p.kinds f)) (p.kinds g) (λ b. emptied (p.kinds f) (own_kind f p e (same_is g f b))) e)))
  ]

  by_demand : (below : ℕ → Plain → Plain) (p : Plain) (d : Demand) → ((h : ℕ) (q : Plain) → Un q → Un (below h q)) → Un p → Un (drop_demand below p d)
  by_demand below p Nothing goes e = e
  by_demand below p Bad goes e = e
  by_demand below p (Read h) goes e = e
  by_demand below p (Typed h t) goes e = goes h p e

  by_first : (below : ℕ → Plain → Plain) (t : PageType) (f k : ℕ) (p : Plain) → ((h : ℕ) (q : Plain) → Un q → Un (below h q)) → Un p → Un (drop_first below t f k p)
  unfolding drop_first
  by_first below t f zero p goes e = e
  by_first below t f (suc k) p goes e = by_first below t f k (drop_demand below p (entry_of p t f k)) goes (by_demand below p (entry_of p t f k) goes e)

  pub by_let_go : (l f : ℕ) (p : Plain) → Un p → Un (let_go l f p)
  unfolding let_go
  by_let_go zero f p e = by_drop_at (λ k q. q) f kinds.Writable p (λ k q a. a) e
  by_let_go (suc l) f p e = by_drop_at (drop_first (let_go l) (level_type (suc l)) f) f (level_type (suc l)) p (λ k q a. by_first (let_go l) (level_type (suc l)) f k q (λ h r b. by_let_go l h r b) a) e

  -- ---- an acquisition
  abbrev UnBy : (Plain → PlainOutcome) → Type 0
  UnBy take = (p : Plain) → Un p → Un (take p).left

  by_share : (n : Machine) (owner f : ℕ) (p : Plain) (s : Option Share) → Un p → Un (take_reference_of n owner f p s).left
  by_share n owner f p None e = e
  by_share n owner f p (Some s) e = elim (cases_Bool (s.owner == owner)) [
    | inr off ↦ rw off e
    | inl own ↦ rw own (elim (cases_Bool (nat_le n.limit s.count)) [ inl full ↦ rw full e | inr room ↦ rw room e ])
  ]

  pub by_reference : (n : Machine) (owner f : ℕ) (p : Plain) → Un p → Un (take_reference n owner f p).left
  by_reference n owner f p e = elim (cases_Bool (nat_lt f n.frames)) [
    | inl inside ↦ rw inside (by_share n owner f p (p.shares f) e)
    | inr off ↦ rw off e
  ]

  by_then : (o : Option Cause) (p : Plain) (next : Plain → PlainOutcome) → Un p → UnBy next → Un (go_on o p next).left
  by_then None p next e goes = goes p e
  by_then (Some c) p next e goes = e

  by_back : (o : Option Cause) (p : Plain) (back : Plain → Plain) (next : Plain → PlainOutcome) → Un p → ((q : Plain) → Un q → Un (back q)) → UnBy next → Un (back_or o p back next).left
  by_back None p back next e backs goes = goes p e
  by_back (Some c) p back next e backs goes = backs p e

  by_type : (fill : Plain → PlainOutcome) (f : ℕ) (t : PageType) (p : Plain) → UnBy fill → Un p → Un (take_kind fill f t p (p.kinds f)).left
  by_type fill f t p goes e = elim (cases_Bool (is_dead (p.kinds f))) [
    | inl dead ↦ rw dead (by_back (fill (with_kind f (work_kind t false 0) p)).refusal (fill (with_kind f (work_kind t false 0) p)).left (closed f t) (λ q. fine (with_kind f (live_kind t 1) q))
        (goes (with_kind f (work_kind t false 0) p) (by_kind f (work_kind t false 0) p refl e)) (λ q a. by_closed f t q a) (λ q a. by_kind f (live_kind t 1) q refl a))
    | inr live ↦ rw live (elim (cases_Bool (is_counted (p.kinds f) && is_type (p.kinds f).kind t)) [
      | inl on ↦ rw on (here_or (g == f) (raised_kind (p.kinds f)) (p.kinds g) (λ b. own_kind f p e (same_is g f b)) e)
      | inr off ↦ rw off e
    ])
  ]

  by_meet : (n : Machine) (owner : ℕ) (below : ℕ → Plain → PlainOutcome) (f i : ℕ) (p : Plain) (d : Demand) → ((h : ℕ) → UnBy (below h)) → Un p → Un (meet n owner below f i p d).left
  by_meet n owner below f i p Nothing goes e = e
  by_meet n owner below f i p Bad goes e = e
  by_meet n owner below f i p (Read h) goes e = by_reference n owner h p e
  by_meet n owner below f i p (Typed h t) goes e = by_then (take_reference n owner h p).refusal (take_reference n owner h p).left (below h) (by_reference n owner h p e) (goes h)

  by_last : (n : Machine) (owner : ℕ) (below : ℕ → Plain → PlainOutcome) (drop : ℕ → Plain → Plain) (t : PageType) (f k : ℕ) (p : Plain) → ((h : ℕ) → UnBy (below h)) → ((h : ℕ) (q : Plain) → Un q → Un (drop h q)) → Un p → Un (meet_last n owner below drop t f k p).left
  unfolding meet_last
  by_last n owner below drop t f zero p goes drops e = e
  by_last n owner below drop t f (suc k) p goes drops e =
      let i = 512 - suc k in
      let o = meet n owner below f i p (entry_of p t f i) in
      by_back o.refusal o.left (drop_first drop t f i) (meet_last n owner below drop t f k) (by_meet n owner below f i p (entry_of p t f i) goes e) (λ q a. by_first drop t f i q drops a) (λ q a. by_last n owner below drop t f k q goes drops a)

  pub by_take : (l : ℕ) (n : Machine) (owner f : ℕ) → UnBy (take_at l n owner f)
  unfolding take_at
  by_take zero n owner f p e = by_type fine f kinds.Writable p (λ q a. a) e
  by_take (suc l) n owner f p e =
      by_type (meet_last n owner (take_at l n owner) (let_go l) (level_type (suc l)) f 512) f (level_type (suc l)) p
      (λ q a. by_last n owner (take_at l n owner) (let_go l) (level_type (suc l)) f 512 q (λ h. by_take l n owner h) (λ h r b. by_let_go l h r b) a) e

  pub by_alone : (n : Machine) (owner l f : ℕ) (p : Plain) → Un p → Un (alone n owner l f p).left
  by_alone n owner l f p e = by_then (take_reference n owner f p).refusal (take_reference n owner f p).left (take_at l n owner f) (by_reference n owner f p e) (by_take l n owner f)

-- ---- of all frames of a machine
pub unkept_let_go : (n : Machine) (l f : ℕ) (p : Plain) → IsUnkept n p → IsUnkept n (let_go l f p)
unkept_let_go n l f p e = λ g inside. by_let_go g l f p (e g inside)

pub unkept_alone : (n : Machine) (owner l f : ℕ) (p : Plain) → IsUnkept n p → IsUnkept n (alone n owner l f p).left
unkept_alone n owner l f p e = λ g inside. by_alone g n owner l f p (e g inside)

pub unkept_kind : (n : Machine) (f : ℕ) (k : KindWord) (p : Plain) → k.kept ≡ false → IsUnkept n p → IsUnkept n (with_kind f k p)
unkept_kind n f k p a e = λ g inside. by_kind g f k p a (e g inside)
