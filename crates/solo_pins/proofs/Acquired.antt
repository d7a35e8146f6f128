-- What a plain acquisition makes of its frame: a live table with type counts, which is not pinned unless it was pinned with that type before.
use Rattle.std.proofs.Common.{◌≡◌, ℕ, suc, ◌-◌, ◌<◌, ◌≤◌, ◌&&◌, if◌then◌else◌, true, false, Option, Some, None, refl, sym, ap, subst, ◌∙◌, arith}
use Rattle.std.proofs.lemmas.Bool.{and_parts}
use Rattle.std.proofs.lemmas.Bool.Decides.{nat_tests}
use Rattle.xp_words.specs.Machine.{Machine}
use Rattle.xp_words.specs.PageTypes.{type_number}
use Rattle.xp_words.specs.declared.kind.KindWord.{KindWord}
use Rattle.xp_words.specs.declared.kind.PageType.{PageType}
use Rattle.xp_board.specs.KindSteps.{raised_kind}
use Rattle.xp_board.specs.Readings.{is_dead, is_type}
use Rattle.xp_board.proofs.EntryWords.{type_same}
use Rattle.kind_words.specs.Kinds.{live_kind, work_kind}
use Rattle.partial_state.specs.Levels.{level_type}
use Rattle.partial_state.proofs.LevelFacts.{level_type-number}
use Rattle.table_law.specs.Alone.{Cause, OtherType, PlainOutcome, alone, back_or, fine, go_on, is_counted, meet_last, refused, take_at, take_kind, take_reference, then_or}
use Rattle.table_law.specs.Levels.{closed}
use Rattle.table_law.specs.Plain.{Plain, raised_share, reference_back, with_kind, with_share}
use Rattle.table_law.specs.Release.{let_go}
use Rattle.table_law.proofs.Counting.{at_here}
use Rattle.course_laws.proofs.Lending.{Lent, lent}
use Rattle.script_law.specs.Frames.{is_pinned_as}
use Rattle.script_law.proofs.Unpinning.{of_two}

-- a table of that type, live and not pinned
pub record IsHeld (t : PageType) (k : KindWord) : Type 0 where
  pub live : k.validated ≡ true
  pub kind : k.kind ≡ t
  pub some : 0 < k.number
  pub unpinned : k.pinned ≡ false

-- the first of two is fine, where both are
first_fine : (r : Option Cause) (p : Plain) (next : Plain → PlainOutcome) → (go_on r p next).refusal ≡ None → r ≡ None
first_fine None p next good = refl
first_fine (Some c) p next good = absurd cc

module _ (n : Machine) (d f l : ℕ) (p : Plain) (low : l < 4) (free : is_pinned_as (suc l) (p.kinds f) ≡ false) where
  abbrev t : PageType
  t = level_type (suc l)

  abbrev Holds : PlainOutcome → Type 0
  Holds o = IsHeld t (o.left.kinds f)

  number : type_number t ≡ suc l
  number = level_type-number (suc l) (omega arith) (omega arith)

  made_live : (o : PlainOutcome) (r : Option Cause) → (back_or r o.left (closed f t) (λ q. fine (with_kind f (live_kind t 1) q))).refusal ≡ None → Holds (back_or r o.left (closed f t) (λ q. fine (with_kind f (live_kind t 1) q)))
  made_live o None good = subst (IsHeld t) (sym (at_here f (live_kind t 1) o.left.kinds)) (record { live = refl; kind = refl; some = omega arith; unpinned = refl })
  made_live o (Some c) good = absurd cc

  counted_more : (q : Plain) → (is_counted (p.kinds f) && is_type (p.kinds f).kind t) ≡ true → Holds (fine (with_kind f (raised_kind (p.kinds f)) q))
  counted_more q is =
      let k = p.kinds f in
      let both = and_parts (is_counted k) (is_type k.kind t) is in
      let kind : k.kind ≡ t = type_same k.kind t both.1 in
      let level : type_number k.kind ≡ suc l = ap type_number kind ∙ number in
      subst (IsHeld t) (sym (at_here f (raised_kind k) q.kinds))
      (record { live = (let e = both.0 in grind (arith, nat_tests)); kind = kind; some = omega arith; unpinned = (let e = level in let g = free in grind (arith, nat_tests)) })

  module _ (q : Plain) (fill : Plain → PlainOutcome) where
    abbrev filled : PlainOutcome
    filled = fill (with_kind f (work_kind t false 0) q)

    abbrev counted_or : PlainOutcome
    counted_or = if is_counted (p.kinds f) && is_type (p.kinds f).kind t then fine (with_kind f (raised_kind (p.kinds f)) q) else refused (OtherType f t (p.kinds f)) (reference_back f q)

    taken : (take_kind fill f t q (p.kinds f)).refusal ≡ None → Holds (take_kind fill f t q (p.kinds f))
    taken good =
        of_two (is_dead (p.kinds f)) (then_or filled (closed f t) (λ r. fine (with_kind f (live_kind t 1) r))) counted_or Holds (λ is. made_live filled filled.refusal)
        (λ is. of_two (is_counted (p.kinds f) && is_type (p.kinds f).kind t) (fine (with_kind f (raised_kind (p.kinds f)) q)) (refused (OtherType f t (p.kinds f)) (reference_back f q)) Holds (λ e g. counted_more q e) (λ e g. absurd cc))
        good

  by_reference : (o : PlainOutcome) → Lent n f p o → (go_on o.refusal o.left (take_at (suc l) n d f)).refusal ≡ None → Holds (go_on o.refusal o.left (take_at (suc l) n d f))
  unfolding take_at
  by_reference o has =
      subst (λ (u : PlainOutcome). (go_on u.refusal u.left (take_at (suc l) n d f)).refusal ≡ None → Holds (go_on u.refusal u.left (take_at (suc l) n d f))) (sym has.is)
      (taken (with_share f (raised_share has.share) p) (meet_last n d (take_at l n d) (let_go l) t f 512))

  held_above : (alone n d (suc l) f p).refusal ≡ None → Holds (alone n d (suc l) f p)
  held_above good =
      let o = take_reference n d f p in
      by_reference o (lent n d f p (first_fine o.refusal o.left (take_at (suc l) n d f) good)) good

pub held : (n : Machine) (d f level : ℕ) (p : Plain) → 1 ≤ level → level ≤ 4 → is_pinned_as level (p.kinds f) ≡ false → (alone n d level f p).refusal ≡ None → IsHeld (level_type level) ((alone n d level f p).left.kinds f)
held n d f level p low high free good =
    let is : suc (level - 1) ≡ level = omega (arith, low) in
    subst (λ l. IsHeld (level_type l) ((alone n d l f p).left.kinds f)) is
    (held_above n d f (level - 1) p (omega (arith, low, high)) (subst (λ l. is_pinned_as l (p.kinds f) ≡ false) (sym is) free) (subst (λ l. (alone n d l f p).refusal ≡ None) (sym is) good))
