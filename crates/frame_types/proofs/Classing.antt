-- What the standing of a frame says of its kind word.
use Rattle.std.proofs.Common.{◌≡◌, ℕ, ◌<◌, ◌||◌, not, Bool, true, false, Some, IsTrue, refl, sym, ap, ◌∙◌, arith}
use Rattle.std.proofs.lemmas.Bool.Decides.{nat_tests}
use Rattle.xp_words.specs.declared.kind.KindWord.{KindWord}
use Rattle.xp_words.specs.declared.kind.PageType.{PageType}
use Rattle.xp_words.specs.KindWords.{kind_read}
use Rattle.xp_words.specs.PageTypes.{type_number, type_of}
use Rattle.xp_words.proofs.KindLaws.{type_back}
use Rattle.xp_board.specs.Readings.{is_dead, is_live, is_partial, is_type, is_work, is_closing, is_locked}
use Rattle.xp_board.proofs.KindForms.{live_form, dead_form}
use Rattle.xp_board.proofs.PlaceTests.{equal_by as same_number}
use Rattle.frame_types.specs.Standing.{is_same_type, standing_of}
use Rattle.frame_types.specs.declared.standing.Standing.TheVariants.{Counted, Dead, Partial, Busy, Other}

same_kind : (t u : PageType) → is_same_type t u ≡ true → t ≡ u
same_kind t u is = sym (type_back t) ∙ ap type_of (same_number (type_number t) (type_number u) is) ∙ type_back u

-- live of the type, with type counts
pub record IsCounted (k : KindWord) (want : PageType) : Type 0 where
  pub live : IsTrue (is_live k)
  pub some : 0 < k.number
  pub kind : k.kind ≡ want

pub when_counted : (k : KindWord) (want : PageType) → standing_of k want ≡ Counted → IsCounted k want
when_counted k want is =
    record { live = grind (arith, nat_tests); some = grind (arith, nat_tests); kind = same_kind k.kind want (grind (arith, nat_tests)) }

pub when_dead : (k : KindWord) (want : PageType) → standing_of k want ≡ Dead → IsTrue (is_dead k)
when_dead k want is = grind (arith, nat_tests)

pub record IsParted (k : KindWord) (want : PageType) : Type 0 where
  pub partial : IsTrue (is_partial k)
  pub kind : k.kind ≡ want

pub when_partial : (k : KindWord) (want : PageType) → standing_of k want ≡ Partial → IsParted k want
when_partial k want is = record { partial = grind (arith, nat_tests); kind = same_kind k.kind want (grind (arith, nat_tests)) }

-- in work or closing, of the type
pub record IsInHand (k : KindWord) (want : PageType) : Type 0 where
  pub kind : IsTrue (is_type k.kind want)
  pub busy : IsTrue (is_work k || (is_locked k || is_closing k))
  pub forms : (is_work k || is_closing k) ≡ true

pub when_busy : (k : KindWord) (want : PageType) → standing_of k want ≡ Busy → IsInHand k want
when_busy k want is = record { kind = grind (arith, nat_tests); busy = grind (arith, nat_tests); forms = grind (arith, nat_tests) }

pub record IsOther (k : KindWord) (want : PageType) : Type 0 where
  pub alive : IsTrue (not (is_dead k))
  pub kind : is_type k.kind want ≡ false

pub when_other : (k : KindWord) (want : PageType) → standing_of k want ≡ Other → IsOther k want
when_other k want is = record { alive = grind (arith, nat_tests); kind = grind (arith, nat_tests) }

-- ---- forms
-- a frame that is in work or closing is not locked
pub busy_unlocked : (w : ℕ) (k : KindWord) → kind_read w ≡ Some k → (is_work k || is_closing k) ≡ true → is_locked k ≡ false
busy_unlocked w k read forms = by_mark k.validated k.locked refl refl
  where
    by_mark : (a b : Bool) → k.validated ≡ a → k.locked ≡ b → is_locked k ≡ false
    by_mark false b live locked = rw live refl
    by_mark true false live locked = rw (live, locked) refl
    by_mark true true live locked = absurd (let some = ((live_form w k read live).locked locked).1 in no_number some)
      where
        no_number : 0 < k.number → ⊥
        no_number some = grind (arith, nat_tests)

pub dead_unpinned : (w : ℕ) (k : KindWord) → kind_read w ≡ Some k → IsTrue (is_dead k) → k.pinned ≡ false
dead_unpinned w k read dead = (dead_form w k read (grind (arith, nat_tests)) (grind (arith, nat_tests)) (grind (arith, nat_tests))).unpinned

pub dead_unparted : (k : KindWord) → IsTrue (is_dead k) → k.partial ≡ false
dead_unparted k dead = grind (arith, nat_tests)
