-- A type count is given back, and an entry lock: the last one leaves the frame closing.
use Rattle.std.proofs.Common.{◌≡◌, ◌≢◌, ℕ, ◌<◌, ◌≤◌, ◌==◌, if◌then◌else◌, Bool, true, false, None, refl, sym, ap, subst, ◌∙◌, arith}
use Rattle.xp_words.specs.PageTypes.{is_table}
use Rattle.xp_words.specs.Machine.{Machine}
use Rattle.xp_words.specs.declared.place.Place.{Place}
use Rattle.xp_words.specs.declared.place.Place.TheVariants.{Kind}
use Rattle.xp_words.specs.Places.{sizes_of}
use Rattle.xp_board.specs.declared.step.Step.{Step}
use Rattle.xp_board.specs.declared.holdings.Reference.{Reference}
use Rattle.xp_board.specs.declared.holdings.Holdings.{Holdings}
use Rattle.xp_board.specs.Lists.{EachOf}
use Rattle.xp_board.specs.Readings.{kind_at}
use Rattle.xp_board.specs.Hands.{works_on, typed_owner, lock_owner}
use Rattle.xp_board.specs.KindSteps.{dropped, unlocked, closing_works, new_work}
use Rattle.xp_board.specs.Found.{WorkFound, LockFound}
use Rattle.xp_board.specs.WellFormed.{IsWorkFormed, IsLockFormed}
use Rattle.xp_board.specs.Sound.{Sound, is_busy}
use Rattle.step_effects.proofs.ActEffects.{Dropped, Unlocked}
use Rattle.found_rule.proofs.Learning.{Act, act}
use Rattle.found_rule.proofs.Words.{Words}
use Rattle.found_rule.proofs.KnownFacts.{RefRight, TypedRight, LockRight}
use Rattle.found_rule.proofs.HandFacts.{ReachKept}
use Rattle.found_rule.proofs.MyHand.{refs_old, typed_old, lock_right_old, locks_old}
use Rattle.found_rule.proofs.KindLaw.{KindRest, kind_done, kind_grown, kind_works_stay, kind_works_formed, kind_locks_formed, new_found, new_formed, typed_owner_right, lock_owner_right}
use Rattle.found_rule.proofs.KindRows.{live_words}
use Rattle.found_rule.proofs.Quiet.{Done}
use Rattle.xp_board.proofs.HeldByForm.{live_idle}
use Rattle.xp_board.proofs.HandLists.{EachOf-more, EachOf-without, EachOf-maybe}
use Rattle.xp_board.proofs.Works.{nobody_works}
use Rattle.xp_board.proofs.CountsDown.{drop_live, drop_some, drop_word, lock_live, lock_some, unlock_word}

table_512 : (t : Bool) → (if t then 512 else 0) ≤ 512
table_512 true = omega arith
table_512 false = omega arith

table_none : (t : Bool) → t ≡ false → ◌≡◌ {A = ℕ} (if t then 512 else 0) 0
table_none false e = refl
table_none true e = absurd cc

module _ (n : Machine) (s : ℕ) (x : Step) (m m2 : Place → ℕ) (b c : ℕ → Holdings) (l : s < (sizes_of n).vcpus) (sound : Sound n m b) (others : (t : ℕ) → t ≢ s → c t ≡ b t) (f : ℕ) where
  module _ (live : (kind_at m f).validated ≡ true) (some : 0 < (kind_at m f).number) (now : (kind_at m2 f).validated ≡ true) (kind : (kind_at m2 f).kind ≡ (kind_at m f).kind) (u : Holdings)
      (acted : Act n s (Kind f) m m2 (b s) u (c s)) where
    free : is_busy (kind_at m f) ≡ false
    free = live_idle (kind_at m f) live some

    words : Words n s m m2 b
    words = live_words n s x m m2 b c l sound others f acted.others (kind_at m f) (kind_at m2 f) refl refl live some now kind

    recorded : ℕ
    recorded = if is_table (kind_at m f).kind then 512 else 0

    down_done : KindRest (b s) u → u.works ≡ closing_works f (m (Kind f)) (m2 (Kind f)) (b s) → u.looking ≡ (b s).looking →
        (ReachKept n m m2 b c → EachOf (RefRight (sizes_of n) m2 (c s).steps) u.refs) → (ReachKept n m m2 b c → EachOf (TypedRight (sizes_of n) m2 (c s).steps) u.typed) →
        (ReachKept n m m2 b c → EachOf (LockRight (sizes_of n) m2 (c s).steps) u.locks) → (ReachKept n m m2 b c → EachOf (LockFound (sizes_of n) m2 (c s)) u.locks) →
        EachOf (IsLockFormed n (c s)) u.locks → Done n s m m2 b c
    unfolding words free recorded
    down_done rest works looking refs typed lock_right locks locks_formed =
        let none : works_on f (b s).works ≡ 0 = nobody_works n m b sound.alone f free s l in
        let new = new_work f (m2 (Kind f)) recorded None (b s) in
        kind_done n s m m2 b c l sound others f u acted words rest
        (λ reach. record {
          refs = refs reach;
          typed = typed reach;
          lock_right = lock_right reach;
          works = subst (λ xs. EachOf (WorkFound n m2 c (c s)) xs) (sym works)
              (EachOf-maybe (WorkFound n m2 c (c s)) ((kind_at m f).number == 1) new (b s).works (λ one. new_found n s m m2 b c l sound others f u acted words recorded None (b s) refl)
              (kind_works_stay n s m m2 b c l sound others f u acted words none reach));
          locks = locks reach;
        })
        (subst (λ xs. EachOf (IsWorkFormed n (c s)) xs) (sym works)
        (EachOf-maybe (IsWorkFormed n (c s)) ((kind_at m f).number == 1) new (b s).works
        (λ one. new_formed n s m m2 b c l sound others f u acted words recorded None (b s) refl (table_512 (is_table (kind_at m f).kind))
        (λ t. table_none (is_table (kind_at m f).kind) (ap is_table (sym kind) ∙ t)) tt (λ q r. absurd cc)) (kind_works_formed n s m m2 b c l sound others f u acted words)))
        locks_formed (rw looking (sound.formed s l).looking)

  pub dropped_done : Dropped n x f m m2 (b s) (c s) → Done n s m m2 b c
  unfolding words
  dropped_done d =
      let w = d.wrote in
      let z = sizes_of n in
      let p = Kind f in
      let u = dropped f (m p) (m2 p) (b s) in
      let acted = act n s x p m m2 (b s) u (c s) w.place w.real w.left w.others refl refl refl refl d.hand in
      let live = drop_live n m b sound s l f d.may in
      let some = drop_some n m b sound s l f d.may in
      let left = drop_word n m b sound s l f d.may (m2 p) d.is in
      let now : (kind_at m2 f).validated ≡ true = ap (λ q. q.validated) left ∙ live in
      let kind : (kind_at m2 f).kind ≡ (kind_at m f).kind = ap (λ q. q.kind) left in
      let ws = words live some now kind u acted in
      let new : Reference = record { frame = f; owner = typed_owner f (b s) } in
      down_done live some now kind u acted (record { ending = refl; claimed = refl; raised = refl; cache = refl; walk = refl; cold = refl; turn = refl; acked = refl; ran = refl }) refl refl
      (λ reach.
      EachOf-more (RefRight z m2 (c s).steps) new (b s).refs
      (typed_owner_right z m m2 (b s).steps (c s).steps (kind_grown n s m m2 b c l sound others f u acted ws) f (b s) (omega arith) (typed_old n s p m m2 b c u acted l sound ws reach))
      (refs_old n s p m m2 b c u acted l sound ws reach))
      (λ reach. EachOf-without (TypedRight z m2 (c s).steps) (λ e. e.frame) f (b s).typed (typed_old n s p m m2 b c u acted l sound ws reach))
      (λ reach. lock_right_old n s p m m2 b c u acted l sound ws reach) (λ reach. locks_old n s p m m2 b c u acted l sound ws reach) (kind_locks_formed n s m m2 b c l sound others f u acted ws)

  pub unlocked_done : Unlocked n x f m m2 (b s) (c s) → Done n s m m2 b c
  unfolding words
  unlocked_done d =
      let w = d.wrote in
      let z = sizes_of n in
      let p = Kind f in
      let u = unlocked f (m p) (m2 p) (b s) in
      let acted = act n s x p m m2 (b s) u (c s) w.place w.real w.left w.others refl refl refl refl d.hand in
      let live = lock_live n m b sound s l f d.may in
      let some = lock_some n m b sound s l f d.may in
      let left = unlock_word n m b sound s l f d.may (m2 p) d.is in
      let now : (kind_at m2 f).validated ≡ true = ap (λ q. q.validated) left ∙ live in
      let kind : (kind_at m2 f).kind ≡ (kind_at m f).kind = ap (λ q. q.kind) left in
      let ws = words live some now kind u acted in
      let new : Reference = record { frame = f; owner = lock_owner f (b s) } in
      down_done live some now kind u acted (record { ending = refl; claimed = refl; raised = refl; cache = refl; walk = refl; cold = refl; turn = refl; acked = refl; ran = refl }) refl refl
      (λ reach.
      EachOf-more (RefRight z m2 (c s).steps) new (b s).refs
      (lock_owner_right z m m2 (b s).steps (c s).steps (kind_grown n s m m2 b c l sound others f u acted ws) f (b s) (omega arith) (lock_right_old n s p m m2 b c u acted l sound ws reach))
      (refs_old n s p m m2 b c u acted l sound ws reach))
      (λ reach. typed_old n s p m m2 b c u acted l sound ws reach)
      (λ reach. EachOf-without (LockRight z m2 (c s).steps) (λ e. e.frame) f (b s).locks (lock_right_old n s p m m2 b c u acted l sound ws reach))
      (λ reach. EachOf-without (LockFound z m2 (c s)) (λ e. e.frame) f (b s).locks (locks_old n s p m m2 b c u acted l sound ws reach))
      (EachOf-without (IsLockFormed n (c s)) (λ e. e.frame) f (b s).locks (kind_locks_formed n s m m2 b c l sound others f u acted ws))
