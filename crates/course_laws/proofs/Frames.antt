-- What each frame is while an acquisition goes on that began with words at rest: dead, live, or one of the tables in work.
use Rattle.std.proofs.Common.{◌≡◌, ◌⊎◌, ℕ, zero, suc, ◌<◌, ◌≤◌, ◌^◌, ◌==◌, ◌&&◌, not, if◌then◌else◌, Bool, true, false, List, [], ◌∷◌, None, IsTrue, refl, sym, ap, ◌∙◌, subst, inl, inr, arith}
use Rattle.std.proofs.lemmas.Bool.Decides.{nat_tests}
use Rattle.xp_words.specs.KindWords.{has_form, is_kind, kind_fields}
use Rattle.xp_words.specs.Machine.{Machine}
use Rattle.xp_words.specs.PageTypes.{type_number}
use Rattle.xp_words.specs.declared.kind.KindWord.{KindWord}
use Rattle.xp_words.specs.declared.kind.PageType.{PageType}
use Rattle.xp_words.specs.declared.place.Place.TheVariants.{Refs}
use Rattle.xp_board.specs.Readings.{is_dead, kind_at}
use Rattle.step_maker.specs.Plain.{Words}
use Rattle.kind_words.specs.Kinds.{work_kind}
use Rattle.frame_types.specs.Plain.{stop_by, type_stop}
use Rattle.frame_types.specs.Standing.{is_same_type, standing_of}
use Rattle.frame_types.specs.declared.standing.Standing.TheVariants as stands
use Rattle.partial_state.specs.Levels.{level_type}
use Rattle.partial_state.proofs.LevelFacts.{level_type-number}
use Rattle.partial_state.specs.declared.stack.TableWork.{TableWork}
use Rattle.table_law.specs.Lawful.{share_count}
use Rattle.table_law.specs.Plain.{share_of, sober}
use Rattle.table_law.proofs.Describing.{sober_dead, sober_kind}
use Rattle.table_twins.specs.Types.{IsReady, IsReadyBy}

-- how often the words say that the frame is referred to
abbrev pub count_at : Words → ℕ → ℕ
count_at m g = share_count (share_of (m (Refs g)))

-- live, with type counts, of which each is a reference
pub record IsLiveWithin (k : KindWord) (count : ℕ) : Type 0 where
  pub live : k.validated ≡ true
  pub some : 0 < k.number
  pub within : k.number ≤ count

-- nobody works on it, and nothing of it is unfinished
pub record IsAside (k : KindWord) (count : ℕ) : Type 0 where
  pub spelled : IsTrue (is_kind k)
  pub stands : (is_dead k ≡ true) ⊎ IsLiveWithin k count

-- it is one of these tables, and its word says so
abbrev pub IsWork : KindWord → List TableWork → ℕ → Type 0
IsWork k [] g = ⊥
IsWork k (t ∷ ts) g = ((t.frame ≡ g) × (sober k ≡ work_kind (level_type t.level) false 0)) ⊎ IsWork k ts g

abbrev pub IsFrame : KindWord → ℕ → List TableWork → ℕ → Type 0
IsFrame k count ts g = IsAside k count ⊎ IsWork k ts g

abbrev pub AllFrames : Machine → Words → List TableWork → Type 0
AllFrames n m ts = (g : ℕ) → g < n.frames → IsFrame (kind_at m g) (count_at m g) ts g

-- all of them are above that level
abbrev pub IsAbove : ℕ → List TableWork → Type 0
IsAbove l [] = Unit {0}
IsAbove l (t ∷ ts) = (l < t.level) × (t.level ≤ 4) × IsAbove l ts

-- ---- a frame of which a type is asked
number_apart : (l h : ℕ) → l < h → h ≤ 4 → (type_number (level_type h) == type_number (level_type l)) ≡ false
number_apart zero h low high = let e = level_type-number h (omega arith) high in grind (arith, nat_tests)
number_apart (suc l) h low high = let e = level_type-number h (omega arith) high in let i = level_type-number (suc l) (omega arith) (omega arith) in grind (arith, nat_tests)

-- a table in work has another type
work_table : (k : KindWord) (l h : ℕ) → l < h → h ≤ 4 → sober k ≡ work_kind (level_type h) false 0 → standing_of k (level_type l) ≡ stands.Other
work_table k l h low high is = standing_by (is_dead k) (is_same_type k.kind (level_type l)) (sym (sober_dead k) ∙ ap is_dead is) (ap (λ t. is_same_type t (level_type l)) (sym (sober_kind k) ∙ ap (λ (j : KindWord). j.kind) is) ∙ number_apart l h low high)
  where
    standing_by : (d s : Bool) → d ≡ false → s ≡ false →
        (if d then stands.Dead else if not s then stands.Other else if k.validated then (if k.number == 0 then stands.Busy else stands.Counted) else if k.partial then stands.Partial else stands.Busy) ≡ stands.Other
    standing_by false false off apart = refl
    standing_by true s off apart = absurd cc
    standing_by false true off apart = absurd cc

pub work_other : (k : KindWord) (ts : List TableWork) (g l : ℕ) → IsAbove l ts → IsWork k ts g → standing_of k (level_type l) ≡ stands.Other
work_other k [] g l above work = absurd work
work_other k (t ∷ ts) g l above (inl is) = work_table k l t.level above.0 above.1 is.1
work_other k (t ∷ ts) g l above (inr work) = work_other k ts g l above.2 work

pub dead_stands : (k : KindWord) (t : PageType) → is_dead k ≡ true → standing_of k t ≡ stands.Dead
dead_stands k t dead = ap (λ b. if b then stands.Dead else if not (is_same_type k.kind t) then stands.Other else if k.validated then (if k.number == 0 then stands.Busy else stands.Counted) else if k.partial then stands.Partial else stands.Busy) dead

pub live_stands : (k : KindWord) (t : PageType) → k.validated ≡ true → 0 < k.number → (standing_of k t ≡ stands.Counted) ⊎ (standing_of k t ≡ stands.Other)
live_stands k t live some = standing_by k.validated k.partial k.locked (is_same_type k.kind t) (k.number == 0) live (let n = some in grind (arith, nat_tests))
  where
    standing_by : (v p b s z : Bool) → v ≡ true → z ≡ false →
        ((if not v && (not p && not b) then stands.Dead else if not s then stands.Other else if v then (if z then stands.Busy else stands.Counted) else if p then stands.Partial else stands.Busy) ≡ stands.Counted)
        ⊎ ((if not v && (not p && not b) then stands.Dead else if not s then stands.Other else if v then (if z then stands.Busy else stands.Counted) else if p then stands.Partial else stands.Busy) ≡ stands.Other)
    standing_by true p b true false on off = inl refl
    standing_by true p b false false on off = inr refl
    standing_by true p b s true on off = absurd cc
    standing_by false p b s z on off = absurd cc

module _ (g l w count : ℕ) (ts : List TableWork) (above : IsAbove l ts) (free : type_stop g (level_type l) w ≡ None) where
  pub no_other : standing_of (kind_fields w) (level_type l) ≡ stands.Other → ⊥
  no_other other = let e = sym (ap (stop_by g (level_type l) w) other) ∙ free in cc

  -- it is not in work
  pub asked_aside : IsFrame (kind_fields w) count ts g → IsAside (kind_fields w) count
  asked_aside (inl aside) = aside
  asked_aside (inr work) = absurd (no_other (work_other (kind_fields w) ts g l above work))

  stands_ready : (n : Machine) → count < n.limit → (is_dead (kind_fields w) ≡ true) ⊎ IsLiveWithin (kind_fields w) count → IsReadyBy n (kind_fields w) (standing_of (kind_fields w) (level_type l))
  stands_ready n room (inl dead) = subst (IsReadyBy n (kind_fields w)) (sym (dead_stands (kind_fields w) (level_type l) dead)) tt
  stands_ready n room (inr live) =
      elim (live_stands (kind_fields w) (level_type l) live.live live.some) [
        | inl counted ↦ subst (IsReadyBy n (kind_fields w)) (sym counted) (let low = live.within in omega arith)
        | inr other ↦ absurd (no_other other)
      ]

  pub frame_ready : (n : Machine) → count < n.limit → IsFrame (kind_fields w) count ts g → IsReady n (level_type l) w
  frame_ready n room frame = let aside = asked_aside frame in (aside.spelled, stands_ready n room aside.stands)

-- ---- words that are alike

pub renumbered : (k : KindWord) (j : ℕ) → k.number < 2 ^ 36 → is_dead k ≡ true → IsTrue (is_kind (record k { number = j })) → IsTrue (is_kind k)
unfolding has_form
renumbered k j small dead is = grind (arith, nat_tests)
