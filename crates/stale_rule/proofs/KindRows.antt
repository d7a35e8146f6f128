-- Fresh after an exchange of kind words, and after a type count is given back.
use Rattle.std.proofs.Common.{◌≡◌, ℕ, ◌<◌, inl, inr, true, false, refl, sym, subst, arith, ap}
use Rattle.std.proofs.lemmas.Bool.{cases_eq}
use Rattle.xp_words.specs.declared.kind.KindWord.{KindWord}
use Rattle.xp_words.specs.Machine.{Machine}
use Rattle.xp_words.specs.declared.place.Place.{Place}
use Rattle.xp_words.specs.declared.place.Place.TheVariants.{Refs, Kind, Cell, Priv}
use Rattle.xp_words.specs.Places.{sizes_of, flushed_of}
use Rattle.xp_board.specs.declared.step.Step.{Step}
use Rattle.xp_board.specs.declared.step.StepKind.TheVariants as steps
use Rattle.xp_board.specs.declared.holdings.Holdings.{Holdings}
use Rattle.xp_board.specs.Readings.{kind_at, is_dead}
use Rattle.xp_board.specs.KindSteps.{KindRow, Count, Locks, Pin, Unpin, Resume, TakeBack, Begin, AllowsKindRow}
use Rattle.xp_board.specs.After.{noted}
use Rattle.xp_board.specs.Reach.{Use, Reach}
use Rattle.xp_board.specs.Fresh.{Bears, Fresh}
use Rattle.xp_board.specs.Keeping.{Acted}
use Rattle.xp_board.specs.Sound.{Sound}
use Rattle.step_effects.proofs.ActEffects.{Wrote, Turned, Dropped, Unlocked}
use Rattle.stale_rule.proofs.Bearing.{bears_same, bears_begun, OneLess}
use Rattle.xp_board.proofs.KindForms.{marked_unlive}
use Rattle.stale_rule.proofs.KindHands.{row_stays, dropped_stays, unlocked_stays}
use Rattle.stale_rule.proofs.Like.{HandStays, parts_stay, then_stays}
use Rattle.stale_rule.proofs.Moves.{act_law, not_clock}
use Rattle.stale_rule.proofs.Stays.{ref_same, ever_same}
use Rattle.xp_board.proofs.ReachAll.{IsLevel, Reach-level}
use Rattle.xp_board.proofs.CountsDown.{drop_live, drop_word, lock_live, unlock_word}

-- the marks of an exchange that leaves type, mark and stamp
row_bears : (row : KindRow) (n : Machine) (s f flushed : ℕ) (k l : KindWord) (a : Holdings) (u : Use) → IsLevel u → (k.unflushed ≡ true → k.validated ≡ false) →
    AllowsKindRow row n s f k l a → Bears flushed k u → Bears flushed l u
row_bears Count n s f flushed k l a u level unlive may old =
    let live = may.live in
    subst (λ w. Bears flushed w u) (sym may.left) (bears_same flushed k _ u refl refl (λ e. absurd (let d = unlive e in cc)) (rw live refl) old)
row_bears Locks n s f flushed k l a u level unlive may old =
    let live = may.live in
    subst (λ w. Bears flushed w u) (sym may.left) (bears_same flushed k _ u refl refl (λ e. absurd (let d = unlive e in cc)) (rw live refl) old)
row_bears Pin n s f flushed k l a u level unlive may old =
    let live = may.live in
    subst (λ w. Bears flushed w u) (sym may.left) (bears_same flushed k _ u refl refl (λ e. refl) (rw live refl) old)
row_bears Unpin n s f flushed k l a u level unlive may old =
    let live = may.live in
    subst (λ w. Bears flushed w u) (sym may.left) (bears_same flushed k _ u refl refl (λ e. refl) (rw live refl) old)
row_bears TakeBack n s f flushed k l a u level unlive may old =
    let partial : is_dead k ≡ false = (let p = may.partial in grind arith) in
    subst (λ w. Bears flushed w u) (sym may.left) (bears_same flushed k _ u refl refl (λ e. refl) partial old)
row_bears Resume n s f flushed k l a u level unlive may old =
    subst (λ w. Bears flushed w u) (sym may.left) (bears_same flushed k _ u refl refl (λ e. refl) (let p = may.partial in grind arith) old)
row_bears Begin n s f flushed k l a u level unlive may old = subst (λ w. Bears flushed w u) (sym may.left) (bears_begun flushed k l.kind u level may.dead old)

module _ (n : Machine) (s : ℕ) (x : Step) (m m2 : Place → ℕ) (b c : ℕ → Holdings) (acted : Acted n s x m m2 b c) (sound : Sound n m b) where
  pub came_level : (v g : ℕ) (u : Use) → v < (sizes_of n).vcpus → Reach (sizes_of n) m (b v) g u → IsLevel u
  came_level v g u live r = Reach-level (sound.formed v live).cache.walk r

  -- a step on the kind word of f that bears what f is reached for
  pub kind_law : (f : ℕ) (y : Holdings) → Wrote n x (Kind f) steps.Kind m m2 (b s) → c s ≡ noted x (m (Kind f)) y → HandStays (b s) y →
      ((v : ℕ) (u : Use) → v < (sizes_of n).vcpus → Reach (sizes_of n) m (b v) f u → Bears (m (flushed_of v)) (kind_at m f) u → Bears (m (flushed_of v)) (kind_at m2 f) u) →
      Fresh n m2 c
  kind_law f y wrote hand stays here =
      act_law n s x (m (Kind f)) m m2 b c y sound acted.others hand stays.like (not_clock n x (Kind f) _ _ wrote.place (λ e. cc))
      (λ e i. wrote.others (Cell e i) (λ k. cc)) (ever_same m m2 (λ d. wrote.others (Priv d) (λ k. cc))) (λ v. wrote.others (flushed_of v) (λ k. cc))
      stays.cache stays.walk (λ v g u live r. stays.claims g) (λ v g u live r. inl (ref_same _ _ (wrote.others (Refs g) (λ k. cc))))
      (λ v g u live r.
      elim (cases_eq g f) [
        | inl at ↦
            subst (λ e. Bears (m (flushed_of v)) (kind_at m e) u → Bears (m (flushed_of v)) (kind_at m2 e) u) (sym at)
            (here v u live (subst (λ e. Reach (sizes_of n) m (b v) e u) at r))
        | inr off ↦ (λ old. rw (wrote.others (Kind g) (λ k. off (cc))) old)
      ])

  pub turn_row : (f : ℕ) (row : KindRow) → Turned n s x f row m m2 (b s) (c s) → Fresh n m2 c
  turn_row f row d =
      kind_law f _ d.wrote d.hand (then_stays _ _ _ (parts_stay (b s) _ refl refl refl refl refl refl) (row_stays row f d.k d.l (m2 (Kind f)) _))
      (λ v u live r old.
      let unlive : d.k.unflushed ≡ true → d.k.validated ≡ false =
      subst (λ k. k.unflushed ≡ true → k.validated ≡ false) d.fields_was (marked_unlive n m f sound.spelled) in
      subst (λ l. Bears (m (flushed_of v)) l u) (sym d.fields_is)
      (row_bears row n s f (m (flushed_of v)) d.k d.l (b s) u (came_level v f u live r) unlive d.may (subst (λ k. Bears (m (flushed_of v)) k u) d.fields_was old)))

  -- ---- a count less of a live frame
  less_bears : (f flushed : ℕ) (u : Use) (l : KindWord) → (kind_at m f).validated ≡ true → OneLess (kind_at m f) l → Bears flushed (kind_at m f) u → Bears flushed l u
  less_bears f flushed u l live less old =
      bears_same flushed (kind_at m f) l u less.kind less.unflushed
      (λ e. absurd (let d = marked_unlive n m f sound.spelled e in cc))
      (let v = less.validated in rw (v, live) refl) old

module _ (n : Machine) (s : ℕ) (x : Step) (m m2 : Place → ℕ) (b c : ℕ → Holdings) (real : s < (sizes_of n).vcpus) (acted : Acted n s x m m2 b c) (sound : Sound n m b) where
  pub drop_row : (f : ℕ) → Dropped n x f m m2 (b s) (c s) → Fresh n m2 c
  drop_row f d =
      kind_law n s x m m2 b c acted sound f _ d.wrote d.hand (dropped_stays f (m (Kind f)) (m2 (Kind f)) (b s))
      (λ v u live r old.
      let now = drop_word n m b sound s real f d.may (m2 (Kind f)) d.is in
      less_bears n s x m m2 b c acted sound f (m (flushed_of v)) u (kind_at m2 f) (drop_live n m b sound s real f d.may)
      (record { kind = ap (λ (k : KindWord). k.kind) now; unflushed = ap (λ (k : KindWord). k.unflushed) now; validated = ap (λ (k : KindWord). k.validated) now }) old)

  pub unlock_row : (f : ℕ) → Unlocked n x f m m2 (b s) (c s) → Fresh n m2 c
  unlock_row f d =
      kind_law n s x m m2 b c acted sound f _ d.wrote d.hand (unlocked_stays f (m (Kind f)) (m2 (Kind f)) (b s))
      (λ v u live r old.
      let now = unlock_word n m b sound s real f d.may (m2 (Kind f)) d.is in
      less_bears n s x m m2 b c acted sound f (m (flushed_of v)) u (kind_at m2 f) (lock_live n m b sound s real f d.may)
      (record { kind = ap (λ (k : KindWord). k.kind) now; unflushed = ap (λ (k : KindWord). k.unflushed) now; validated = ap (λ (k : KindWord). k.validated) now }) old)
