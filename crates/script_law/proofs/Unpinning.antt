-- An unpin undoes a pin.
use Rattle.std.proofs.Common.{◌≡◌, ◌⊎◌, ℕ, zero, suc, ◌+◌, ◌<◌, ◌==◌, ◌&&◌, inl, inr, if◌then◌else◌, Bool, true, false, Option, Some, None, refl, sym, ap, subst, ◌∙◌, arith}
use Rattle.std.proofs.lemmas.Bool.{and_cases, and_parts, cases_eq}
use Rattle.std.proofs.lemmas.Bool.Decides.{nat_tests}
use Rattle.xp_words.specs.Machine.{Machine}
use Rattle.xp_words.specs.PageTypes.{type_number}
use Rattle.xp_words.specs.declared.kind.KindWord.{KindWord}
use Rattle.xp_board.specs.KindSteps.{raised_kind}
use Rattle.xp_board.specs.Readings.{is_dead, is_type}
use Rattle.kind_words.specs.Kinds.{live_kind, work_kind}
use Rattle.partial_state.specs.Levels.{level_type}
use Rattle.table_words.specs.Pins.{pinned_kind, unpinned_kind}
use Rattle.table_law.specs.Alone.{Cause, OtherType, PlainOutcome, alone, back_or, fine, go_on, is_counted, meet_last, refused, take_at, take_kind, take_reference, then_or}
use Rattle.table_law.specs.Levels.{closed}
use Rattle.table_law.specs.Plain.{Plain, at, raised_share, reference_back, with_kind, with_share}
use Rattle.table_law.specs.Release.{let_go}
use Rattle.table_law.specs.Undone.{CountsSome, IsSameButTypes}
use Rattle.table_law.proofs.Counting.{at_here, at_there}
use Rattle.table_law.proofs.Returning.{Either, Lent, Like, Refusing, refers}
use Rattle.table_law.proofs.ReturningTables.{all_return, same_types}
use Rattle.script_law.specs.Frames.{is_pinned_as, pin, pin_by, unpin, unpin_by}
use Rattle.script_law.specs.Untaken.{IsUntaken}
use Rattle.script_law.specs.Values.{Solo, IsPinned, IsUnpinned, Outcome, behind, behind_by, did, looked_by, stopped, with_frames}
use Rattle.script_law.proofs.Untaking.{types_alone}

level_number : (l : ℕ) → l < 4 → type_number (level_type (suc l)) ≡ suc l
level_number zero low = refl
level_number (suc zero) low = refl
level_number (suc (suc zero)) low = refl
level_number (suc (suc (suc zero))) low = refl
level_number (suc (suc (suc (suc l)))) low = absurd (omega arith)

-- either of two
pub of_two : (b : Bool) (x z : PlainOutcome) (Q : PlainOutcome → Type 0) → (b ≡ true → x.refusal ≡ None → Q x) → (b ≡ false → z.refusal ≡ None → Q z) → (if b then x else z).refusal ≡ None → Q (if b then x else z)
of_two true x z Q one other good = one refl good
of_two false x z Q one other good = other refl good

-- a table of that level, not pinned
record IsTable (l : ℕ) (k : KindWord) : Type 0 where
  level : type_number k.kind ≡ suc l
  unpinned : k.pinned ≡ false

module _ (n : Machine) (d f l : ℕ) (p : Plain) (low : l < 4) (counts : CountsSome n p) (free : is_pinned_as (suc l) (p.kinds f) ≡ false) where
  -- what an acquisition makes of the frame
  abbrev HasTable : PlainOutcome → Type 0
  HasTable o = IsTable l (o.left.kinds f)

  made_live : (o : PlainOutcome) (r : Option Cause) → (back_or r o.left (closed f (level_type (suc l))) (λ q. fine (with_kind f (live_kind (level_type (suc l)) 1) q))).refusal ≡ None →
      HasTable (back_or r o.left (closed f (level_type (suc l))) (λ q. fine (with_kind f (live_kind (level_type (suc l)) 1) q)))
  made_live o None good = subst (IsTable l) (sym (at_here f (live_kind (level_type (suc l)) 1) o.left.kinds)) (record { level = level_number l low; unpinned = refl })
  made_live o (Some c) good = absurd cc

  counted_more : (q : Plain) → (is_counted (p.kinds f) && is_type (p.kinds f).kind (level_type (suc l))) ≡ true → HasTable (fine (with_kind f (raised_kind (p.kinds f)) q))
  counted_more q is = subst (IsTable l) (sym (at_here f (raised_kind (p.kinds f)) q.kinds)) (record { level = level; unpinned = unpinned })
    where
      level : type_number (p.kinds f).kind ≡ suc l
      level = let same = (and_parts (is_counted (p.kinds f)) (is_type (p.kinds f).kind (level_type (suc l))) is).1 in let number = level_number l low in grind (arith, nat_tests)

      unpinned : (p.kinds f).pinned ≡ false
      unpinned = let e = level in grind (arith, nat_tests)

  module _ (q : Plain) (fill : Plain → PlainOutcome) where
    abbrev filled : PlainOutcome
    filled = fill (with_kind f (work_kind (level_type (suc l)) false 0) q)

    abbrev counted_or : PlainOutcome
    counted_or = if is_counted (p.kinds f) && is_type (p.kinds f).kind (level_type (suc l)) then fine (with_kind f (raised_kind (p.kinds f)) q) else refused (OtherType f (level_type (suc l)) (p.kinds f)) (reference_back f q)

    taken : (take_kind fill f (level_type (suc l)) q (p.kinds f)).refusal ≡ None → HasTable (take_kind fill f (level_type (suc l)) q (p.kinds f))
    taken good =
        of_two (is_dead (p.kinds f)) (then_or filled (closed f (level_type (suc l))) (λ r. fine (with_kind f (live_kind (level_type (suc l)) 1) r))) counted_or HasTable
        (λ is. made_live filled filled.refusal)
        (λ is. of_two (is_counted (p.kinds f) && is_type (p.kinds f).kind (level_type (suc l))) (fine (with_kind f (raised_kind (p.kinds f)) q)) (refused (OtherType f (level_type (suc l)) (p.kinds f)) (reference_back f q)) HasTable
        (λ e g. counted_more q e) (λ e g. absurd cc))
        good

  by_reference : (o : PlainOutcome) → Lent n p f o ⊎ Refusing p o → (go_on o.refusal o.left (take_at (suc l) n d f)).refusal ≡ None → HasTable (go_on o.refusal o.left (take_at (suc l) n d f))
  unfolding take_at
  by_reference o (inl lent) =
      subst (λ (u : PlainOutcome). (go_on u.refusal u.left (take_at (suc l) n d f)).refusal ≡ None → HasTable (go_on u.refusal u.left (take_at (suc l) n d f))) (sym lent.is)
      (taken (with_share f (raised_share lent.share) p) (meet_last n d (take_at l n d) (let_go l) (level_type (suc l)) f 512))
  by_reference o (inr stopped) =
      subst (λ (u : PlainOutcome). (go_on u.refusal u.left (take_at (suc l) n d f)).refusal ≡ None → HasTable (go_on u.refusal u.left (take_at (suc l) n d f))) (sym stopped.is) (λ good. absurd cc)

  acquired_table : (alone n d (suc l) f p).refusal ≡ None → IsTable l ((alone n d (suc l) f p).left.kinds f)
  acquired_table good = by_reference (take_reference n d f p) (refers n d f p counts) good

-- ---- the pin, and the unpin behind it
module _ (n : Machine) (d f l : ℕ) (s : Solo) (low : l < 4) (counts : CountsSome n s.frames) (free : is_pinned_as (suc l) (s.frames.kinds f) ≡ false)
    (good : (alone n d (suc l) f s.frames).refusal ≡ None) where
  abbrev made : Plain
  made = (alone n d (suc l) f s.frames).left

  table : IsTable l (made.kinds f)
  table = acquired_table n d f l s.frames low counts free good

  abbrev marked : Plain
  marked = with_kind f (pinned_kind (made.kinds f)) made

  marked_there : marked.kinds f ≡ pinned_kind (made.kinds f)
  marked_there = at_here f (pinned_kind (made.kinds f)) made.kinds

  abbrev off : Plain
  off = with_kind f (unpinned_kind (marked.kinds f)) marked

  off_kind : (g : ℕ) → off.kinds g ≡ made.kinds g
  off_kind g =
      elim (cases_eq g f) [
        | inl e ↦
            ap off.kinds e ∙ at_here f (unpinned_kind (marked.kinds f)) marked.kinds ∙ ap unpinned_kind marked_there
            ∙ ap (λ b. record (made.kinds f) { pinned = b }) (sym table.unpinned) ∙ ap made.kinds (sym e)
        | inr other ↦ at_there f g (unpinned_kind (marked.kinds f)) marked.kinds other ∙ at_there f g (pinned_kind (made.kinds f)) made.kinds other
      ]

  undone : Either n s.frames (alone n d (suc l) f s.frames) (let_go (suc l) f) → Like (λ x. false) s.frames (let_go (suc l) f off)
  undone (inl done) =
      let is = ap (λ (o : PlainOutcome). o.left) done.is in
      done.undone (λ x. false) off (λ x e. absurd cc)
      (subst (λ q. Like (λ x. false) q off) is (record { shares = λ g. refl; kinds = λ g. inr (inl (off_kind g)); cells = λ g i. refl }))
  undone (inr stopped) = absurd (let e = sym (ap (λ (o : PlainOutcome). o.refusal) stopped.is) ∙ good in cc)

  abbrev pinned_now : Solo
  pinned_now = with_frames marked s

  abbrev Goal : Outcome → Type 0
  Goal o = o.refusal ≡ None → IsUntaken s o.left

  let_go_off : IsUntaken s (with_frames (let_go (type_number (marked.kinds f).kind) f off) pinned_now)
  let_go_off =
      let level : type_number (marked.kinds f).kind ≡ suc l = ap (λ (k : KindWord). type_number k.kind) marked_there ∙ table.level in
      types_alone s (let_go (type_number (marked.kinds f).kind) f off)
      (subst (λ m. IsSameButTypes s.frames (let_go m f off)) (sym level) (same_types s.frames (let_go (suc l) f off) (undone (all_return n d (suc l) f s.frames counts))))

  unpinned_by : (b : Bool) → Goal (if b then did (with_frames (let_go (type_number (marked.kinds f).kind) f off) pinned_now) else stopped (IsUnpinned (marked.kinds f)) pinned_now)
  unpinned_by true did_it = let_go_off
  unpinned_by false did_it = absurd cc

  unpinned : (r : Option Cause) → Goal (looked_by r pinned_now (λ t. unpin_by f t (t.frames.kinds f)))
  unpinned None did_it = unpinned_by (marked.kinds f).pinned did_it
  unpinned (Some c) did_it = absurd cc

module _ (n : Machine) (d f l : ℕ) (s : Solo) (low : l < 4) (counts : CountsSome n s.frames) where
  abbrev Undone : Outcome → Type 0
  Undone o = o.refusal ≡ None → (unpin n d f o.left).refusal ≡ None → IsUntaken s (unpin n d f o.left).left

  behind_pin : (r : Option Cause) → is_pinned_as (suc l) (s.frames.kinds f) ≡ false → (alone n d (suc l) f s.frames).refusal ≡ r →
      Undone (behind_by s (alone n d (suc l) f s.frames) r (λ t. did (with_frames (with_kind f (pinned_kind (t.frames.kinds f)) t.frames) t)))
  behind_pin None free good did_it back = unpinned n d f l s low counts free good (take_reference n d f (marked n d f l s low counts free good)).refusal back
  behind_pin (Some c) free bad did_it back = absurd cc

  by_mark : (b : Bool) → is_pinned_as (suc l) (s.frames.kinds f) ≡ b →
      Undone (if b then stopped (IsPinned (s.frames.kinds f)) s else behind s (alone n d (suc l) f s.frames) (λ t. did (with_frames (with_kind f (pinned_kind (t.frames.kinds f)) t.frames) t)))
  by_mark true is did_it back = absurd cc
  by_mark false is did_it back = behind_pin (alone n d (suc l) f s.frames).refusal is refl did_it back

  by_look : (r : Option Cause) → Undone (looked_by r s (λ t. pin_by n d f (suc l) t (t.frames.kinds f)))
  by_look None did_it back = by_mark (is_pinned_as (suc l) (s.frames.kinds f)) refl did_it back
  by_look (Some c) did_it back = absurd cc

  pub pin_undone : Undone (pin n d f (suc l) s)
  pin_undone did_it back = by_look (take_reference n d f s.frames).refusal did_it back
