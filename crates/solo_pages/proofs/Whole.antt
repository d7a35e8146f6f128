-- Plain values of which nothing is unfinished, and what words that they describe say of a type that is asked.
use Rattle.std.proofs.Common.{◌≡◌, ◌⊎◌, ℕ, ◌<◌, ◌==◌, ◌&&◌, not, nat_le, nat_lt, if◌then◌else◌, Bool, true, false, Option, Some, None, refl, sym, ap, ◌∙◌, subst, inl, inr, arith}
use Rattle.xp_words.specs.KindWords.{kind_fields}
use Rattle.xp_words.specs.Machine.{Machine}
use Rattle.xp_words.specs.declared.kind.KindWord.{KindWord}
use Rattle.xp_words.specs.declared.kind.PageType.{PageType}
use Rattle.xp_words.specs.declared.kind.PageType.TheVariants.{Writable}
use Rattle.xp_words.specs.declared.place.Place.TheVariants.{Kind, Refs}
use Rattle.xp_board.specs.KindSteps.{raised_kind}
use Rattle.xp_board.specs.Readings.{is_dead, is_type, kind_at}
use Rattle.xp_board.specs.Told.{PortValue, told_word}
use Rattle.step_maker.specs.Plain.{Words}
use Rattle.kind_words.specs.Kinds.{dead_kind, live_kind, work_kind}
use Rattle.frame_types.specs.Plain.{stop_by, type_stop}
use Rattle.frame_types.specs.Standing.{standing_of}
use Rattle.partial_state.specs.Levels.{level_type}
use Rattle.table_law.specs.Alone.{Cause, CountFull, NoFrame, OtherType, WrongOwner, alone, fine, go_on, is_counted, refused, take_at, take_kind, take_reference, take_reference_of}
use Rattle.table_law.specs.Lawful.{IsAtRest}
use Rattle.table_law.specs.Plain.{Describes, Plain, Share, raised_share, reference_back, with_kind, with_share}
use Rattle.table_law.proofs.Describing.{sober_dead, sober_live}
use Rattle.table_law.proofs.OnWords.{rested_plain}
use Rattle.table_twins.specs.Types.{IsReady, IsReadyBy}
use Rattle.course_laws.specs.Courses.{IsOrderly}
use Rattle.course_laws.proofs.Lending.{lent}
use Rattle.course_laws.proofs.Frames.{IsAside, IsLiveWithin, count_at, dead_stands, live_stands}
use Rattle.course_laws.proofs.Starting.{count_is}
use Rattle.table_twins.proofs.Typing.{live_sober}
use Rattle.solo_ports.specs.Standing.{IsUnkept}
use Rattle.solo_pages.specs.Shown.{AreWhole, IsWholeKind}
use Rattle.solo_pages.proofs.Referring.{RefTaken}

-- ---- words at rest
pub whole_at_rest : (n : Machine) (m : Words) (p : Plain) → Describes n m p → IsAtRest n m → IsUnkept n p → AreWhole n p
whole_at_rest n m p d rest unkept g inside =
    let r = rested_plain n m p d rest in
    record { unkept = unkept g inside; formed = r.formed g inside; counted = r.counted g inside }

-- ---- a type that is asked
abbrev pub IsReadyFor : Machine → ℕ → PageType → ℕ → Type 0
IsReadyFor n f t w = type_stop f t w ≡ None → IsReady n t w

module _ (n : Machine) (m : Words) (p : Plain) (d : Describes n m p) (whole : AreWhole n p) (orderly : IsOrderly n m) (g : ℕ) (inside : g < n.frames) where
  aside_by : (b : Bool) → is_dead (kind_at m g) ≡ b → IsAside (kind_at m g) (count_at m g)
  aside_by true dead = record { spelled = orderly.spelled g inside; stands = inl dead }
  aside_by false off =
      let k = d.kinds g inside in
      let formed = (whole g inside).formed (ap is_dead k ∙ sober_dead (kind_at m g) ∙ off) in
      let live : (kind_at m g).validated ≡ true = sym (sober_live (kind_at m g)) ∙ sym (ap (λ (w : KindWord). w.validated) k) ∙ formed in
      let number : (p.kinds g).number ≡ (kind_at m g).number = ap (λ (w : KindWord). w.number) (k ∙ live_sober (kind_at m g) live) in
      let some = (whole g inside).counted formed in
      let most = orderly.counted g inside live in
      let same = count_is (m (Refs g)) in
      record { spelled = orderly.spelled g inside; stands = inr (record { live = live; some = omega (arith, number, some); within = omega (arith, most, same) }) }

  pub is_aside : IsAside (kind_at m g) (count_at m g)
  is_aside = aside_by (is_dead (kind_at m g)) refl

module _ (n : Machine) (g w count : ℕ) (t : PageType) (free : type_stop g t w ≡ None) (room : count < n.limit) where
  stands_ready : (is_dead (kind_fields w) ≡ true) ⊎ IsLiveWithin (kind_fields w) count → IsReadyBy n (kind_fields w) (standing_of (kind_fields w) t)
  stands_ready (inl dead) = subst (IsReadyBy n (kind_fields w)) (sym (dead_stands (kind_fields w) t dead)) tt
  stands_ready (inr live) =
      elim (live_stands (kind_fields w) t live.live live.some) [
        | inl counted ↦ subst (IsReadyBy n (kind_fields w)) (sym counted) (let low = live.within in omega (arith, low, room))
        | inr other ↦ absurd (let e = sym (ap (stop_by g t w) other) ∙ free in cc)
      ]

  pub aside_ready : IsAside (kind_fields w) count → IsReady n t w
  aside_ready aside = (aside.spelled, stands_ready aside.stands)

-- behind a reference
pub ready_for : (n : Machine) (v u : PortValue) (owner g : ℕ) (t : PageType) (p : Plain) → Describes n (told_word v) p → AreWhole n p → IsOrderly n (told_word v) → RefTaken n v u owner g p → IsReadyFor n g t (told_word u (Kind g))
ready_for n v u owner g t p d whole orderly lent free =
    let same = lent.kind in
    let stop : type_stop g t (told_word v (Kind g)) ≡ None = sym (ap (type_stop g t) same) ∙ free in
    subst (IsReady n t) (sym same) (aside_ready n g (told_word v (Kind g)) (count_at (told_word v) g) t stop lent.room (is_aside n (told_word v) p d whole orderly g lent.lent.inside))

pub ready_lent : (n : Machine) (v u : PortValue) (owner g l : ℕ) (p : Plain) → Describes n (told_word v) p → AreWhole n p → IsOrderly n (told_word v) → RefTaken n v u owner g p → IsReadyFor n g (level_type l) (told_word u (Kind g))
ready_lent n v u owner g l p d whole orderly lent = ready_for n v u owner g (level_type l) p d whole orderly lent

-- ---- what the plain functions keep
pub live_whole : (t : PageType) → IsWholeKind (live_kind t 1)
live_whole t = record { unkept = refl; formed = λ off. refl; counted = λ live. omega arith }

pub dead_whole : (t : PageType) (u : Bool) → IsWholeKind (dead_kind t u 0)
dead_whole t u = record { unkept = refl; formed = λ off. absurd cc; counted = λ live. absurd cc }

pub raised_whole : (k : KindWord) → IsWholeKind k → is_dead k ≡ false → IsWholeKind (raised_kind k)
raised_whole k w off = record { unkept = w.unkept; formed = λ o. w.formed off; counted = λ live. omega arith }

kind_by : (b : Bool) (k l : KindWord) → IsWholeKind k → IsWholeKind l → IsWholeKind (if b then k else l)
kind_by true k l a b = a
kind_by false k l a b = b

pub kinded_whole : (n : Machine) (f : ℕ) (k : KindWord) (p : Plain) → IsWholeKind k → AreWhole n p → AreWhole n (with_kind f k p)
kinded_whole n f k p is whole g inside = kind_by (g == f) k (p.kinds g) is (whole g inside)

-- ---- what is taken leaves a whole value
module _ (n : Machine) (g : ℕ) (t : PageType) (p : Plain) (inside : g < n.frames) (whole : AreWhole n p) where
  lived : (b : Bool) (h : ℕ) → h < n.frames → IsWholeKind (if b then live_kind t 1 else (if b then work_kind t false 0 else p.kinds h))
  lived true h low = live_whole t
  lived false h low = whole h low

  take_by : (a b : Bool) → is_dead (p.kinds g) ≡ a → AreWhole n (take_kind fine g t p (p.kinds g)).left
  take_by true b dead = subst (λ c. AreWhole n (if c then fine (with_kind g (live_kind t 1) (with_kind g (work_kind t false 0) p)) else if is_counted (p.kinds g) && is_type (p.kinds g).kind t then fine (with_kind g (raised_kind (p.kinds g)) p) else refused (OtherType g t (p.kinds g)) (reference_back g p)).left) (sym dead) (λ h low. lived (h == g) h low)
  take_by false b off = subst (λ c. AreWhole n (if c then fine (with_kind g (live_kind t 1) (with_kind g (work_kind t false 0) p)) else if is_counted (p.kinds g) && is_type (p.kinds g).kind t then fine (with_kind g (raised_kind (p.kinds g)) p) else refused (OtherType g t (p.kinds g)) (reference_back g p)).left) (sym off) (by (is_counted (p.kinds g) && is_type (p.kinds g).kind t))
    where
      by : (c : Bool) → AreWhole n (if c then fine (with_kind g (raised_kind (p.kinds g)) p) else refused (OtherType g t (p.kinds g)) (reference_back g p)).left
      by true = kinded_whole n g (raised_kind (p.kinds g)) p (raised_whole (p.kinds g) (whole g inside) off) whole
      by false = whole

  pub taken_whole : AreWhole n (take_kind fine g t p (p.kinds g)).left
  taken_whole = take_by (is_dead (p.kinds g)) false refl

-- a reference changes no kind word
pub referred_whole : (n : Machine) (owner g : ℕ) (p : Plain) → AreWhole n p → AreWhole n (take_reference n owner g p).left
referred_whole n owner g p whole = by (nat_lt g n.frames)
  where
    by_share : (o : Option Share) → AreWhole n (take_reference_of n owner g p o).left
    by_share None = whole
    by_share (Some s) = by_owner (s.owner == owner) (nat_le n.limit s.count)
      where
        by_owner : (b k : Bool) → AreWhole n (if not b then refused (WrongOwner g (Some s)) p else if k then refused (CountFull g s) p else fine (with_share g (raised_share s) p)).left
        by_owner false k = whole
        by_owner true true = whole
        by_owner true false = whole

    by : (b : Bool) → AreWhole n (if b then take_reference_of n owner g p (p.shares g) else refused (NoFrame g) p).left
    by true = by_share (p.shares g)
    by false = whole

module _ (n : Machine) (owner f : ℕ) (p : Plain) (whole : AreWhole n p) where
  abbrev q : Plain
  q = (take_reference n owner f p).left

  alone_by : (r : Option Cause) → (take_reference n owner f p).refusal ≡ r → AreWhole n (go_on (take_reference n owner f p).refusal q (take_at 0 n owner f)).left
  unfolding take_at
  alone_by None none = subst (λ r. AreWhole n (go_on r q (take_at 0 n owner f)).left) (sym none) (taken_whole n f Writable q (lent n owner f p none).inside (referred_whole n owner f p whole))
  alone_by (Some c) is = subst (λ r. AreWhole n (go_on r q (take_at 0 n owner f)).left) (sym is) (referred_whole n owner f p whole)

  pub alone_whole : AreWhole n (alone n owner 0 f p).left
  alone_whole = alone_by (take_reference n owner f p).refusal refl
