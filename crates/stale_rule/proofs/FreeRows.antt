-- Fresh after a free frame is taken, a frame is freed, and a taken one is given.
use Rattle.std.proofs.Common.{◌≡◌, ◌≢◌, ℕ, ◌<◌, ◌≤◌, ◌==◌, inr, true, refl, ◌∙◌, ap, subst, arith, Option, Some, None}
use Rattle.std.proofs.lemmas.Bool.Decides.{nat_tests}
use Rattle.xp_words.specs.Machine.{Machine}
use Rattle.xp_words.specs.declared.place.Place.{Place}
use Rattle.xp_words.specs.declared.place.Place.TheVariants.{Clock, Refs}
use Rattle.xp_words.specs.Places.{sizes_of, flushed_of}
use Rattle.xp_board.specs.declared.step.Step.{Step}
use Rattle.xp_board.specs.declared.holdings.Ending.{Ending}
use Rattle.xp_board.specs.declared.holdings.Claimed.{Claimed}
use Rattle.xp_board.specs.declared.holdings.Holdings.{Holdings}
use Rattle.xp_board.specs.Lists.{times_by}
use Rattle.xp_board.specs.Hands.{ending_of, claim_of, claims_of}
use Rattle.xp_board.specs.RefSteps.{IsFreeStamp, claimed_frame, freed, given}
use Rattle.xp_board.specs.Readings.{free_stamp, clock_value}
use Rattle.xp_board.specs.Reach.{Use, Reach}
use Rattle.xp_board.specs.Fresh.{FreshAt, Fresh}
use Rattle.xp_board.specs.Keeping.{Acted}
use Rattle.xp_board.specs.Sound.{Sound}
use Rattle.step_effects.proofs.ActEffects.{Took, Freed, Gave}
use Rattle.xp_board.proofs.HandLists.{EachOf-without, EachOf-first, first-key, first-some, times-without}
use Rattle.stale_rule.proofs.Like.{HandLike, parts_like}
use Rattle.stale_rule.proofs.Past.{past_gone, gone_unreached}
use Rattle.stale_rule.proofs.RefRows.{ref_law}
use Rattle.xp_board.proofs.Sums.{one_at-other}
use Rattle.xp_board.proofs.RefWords.{free_says}
use Rattle.xp_board.proofs.MoreSteps.{since_each}
use Rattle.xp_board.proofs.RefForms.{free_number}

-- ---- free words

stamp_tells : (f w x stamp : ℕ) → (w == stamp) ≡ true → x ≡ stamp → free_stamp x ≡ stamp → clock_value (Refs f) w ≡ stamp
unfolding clock_value
stamp_tells f w x stamp t e tells = let k : w ≡ x = grind (arith, nat_tests) in ap free_stamp k ∙ tells

-- ---- hands
freed_like : (n : Machine) (s f : ℕ) (a : Holdings) → HandLike a (freed n s f a)
freed_like n s f a =
    record { steps = refl; works = λ P new e. e; ending = λ P new e. EachOf-without (λ x. P x.frame x.since) (λ x. x.frame) f a.ending e }

claimed_other : (n : Machine) (s f w g : ℕ) (a : Holdings) → g ≢ f → claims_of g a.claimed ≡ 0 → claims_of g (claimed_frame n s f w a).claimed ≡ 0
unfolding times_by
claimed_other n s f w g a off none = let o = one_at-other g f off in omega arith

unclaimed_more : (g f : ℕ) (a : Holdings) → claims_of g a.claimed ≡ 0 → claims_of g (given f a).claimed ≡ 0
unclaimed_more g f a none = let less = times-without (λ x. x.frame) g f a.claimed in omega arith

pub not_claimed : (f : ℕ) (e : Claimed) (a : Holdings) → claims_of f a.claimed ≡ 0 → claim_of f a.claimed ≡ Some e → ⊥
not_claimed f e a none here = absurd (let some = first-some (λ x. x.frame) f e a.claimed here in omega arith)

module _ (n : Machine) (s : ℕ) (x : Step) (m m2 : Place → ℕ) (b c : ℕ → Holdings) (real : s < (sizes_of n).vcpus) (acted : Acted n s x m m2 b c) (sound : Sound n m b) where
  -- ---- taken
  taken_unreached : (f : ℕ) → Took n s x f m m2 (b s) (c s) → (v : ℕ) (u : Use) → v < (sizes_of n).vcpus → Reach (sizes_of n) m (b v) f u → ⊥
  taken_unreached f d v u live r =
      let at = free_number (m (Refs f)) d.stamp d.was in
      let word = free_says (m (Refs f)) d.stamp d.was in
      let gone = past_gone n m b sound s v d.may.past.since d.stamp (Refs f) (λ w. w == d.stamp) real live
      (λ w t. stamp_tells f w (m (Refs f)) d.stamp t at word.stamp) d.may.past.found (d.may.past.past v live) in
      let below = (sound.fresh.each v live f u r).free word.free in
      gone_unreached n m b sound v d.stamp f u live gone (let e = word.stamp in omega arith) r

  pub take_row : (f : ℕ) → Took n s x f m m2 (b s) (c s) → Fresh n m2 c
  take_row f d =
      ref_law n s x m m2 b c acted sound f (claimed_frame n s f (m (Refs f)) (b s)) d.wrote d.hand (parts_like _ _ refl refl refl) refl refl
      (λ v g u live r.
      claimed_other n s f (m (Refs f)) g (b s)
      (λ at. taken_unreached f d v u live (subst (λ k. Reach (sizes_of n) m (b v) k u) at r)))
      (λ v u live r. absurd (taken_unreached f d v u live r))

  -- ---- freed
  stamp_bound : (f stamp flushed : ℕ) (u : Use) (o : Option Ending) (q : Option Claimed) → ending_of f (b s).ending ≡ o → claim_of f (b s).claimed ≡ q →
      IsFreeStamp n stamp (b s) o q → (v : ℕ) → m (flushed_of v) ≡ flushed → FreshAt n m b v f u → flushed ≤ stamp
  stamp_bound f stamp flushed u (Some e) q at at2 was_found v is fresh =
      since_each (sizes_of n) e.since Clock (λ w. w == stamp) (λ w. m (flushed_of v) ≤ w) (flushed ≤ stamp) (b s).steps
      (EachOf-first _ (λ y. y.frame) f e (b s).ending (fresh.awaited s real).ending at (first-key (λ y. y.frame) f e (b s).ending at)) was_found
      (λ w t below. let k : w ≡ stamp = grind (arith, nat_tests) in omega arith)
  stamp_bound f stamp flushed u None (Some e) at at2 was_found v is fresh = absurd (not_claimed f e (b s) (fresh.unclaimed s real) at2)
  stamp_bound f stamp flushed u None None at at2 was_found v is fresh = absurd was_found

  pub free_row : (f : ℕ) → Freed n s x f m m2 (b s) (c s) → Fresh n m2 c
  free_row f d =
      let word = free_says (m2 (Refs f)) d.stamp d.is in
      ref_law n s x m m2 b c acted sound f (freed n s f (b s)) d.wrote d.hand (freed_like n s f (b s)) refl refl
      (λ v g u live r. unclaimed_more g f (b s))
      (λ v u live r.
      inr (record {
        owner = word.owned;
        free = word.free;
        stamp = let e = word.stamp in let k = stamp_bound f d.stamp (m (flushed_of v)) u _ _ refl refl d.may.was_found v refl (sound.fresh.each v live f u r) in omega arith;
      }))

  -- ---- given
  pub give_row : (f : ℕ) → Gave n s x f m m2 (b s) (c s) → Fresh n m2 c
  give_row f d =
      ref_law n s x m m2 b c acted sound f (given f (b s)) d.wrote d.hand (parts_like _ _ refl refl refl) refl refl
      (λ v g u live r. unclaimed_more g f (b s))
      (λ v u live r. absurd (not_claimed f d.may.claimed (b s) ((sound.fresh.each v live f u r).unclaimed s real) d.may.here))
