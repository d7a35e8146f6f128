-- References raised, cleared and lowered: the frame is neither ending nor claimed.
use Rattle.std.proofs.Common.{◌≡◌, ◌≢◌, ℕ, suc, ◌+◌, ◌<◌, ◌≤◌, ◌==◌, if◌then◌else◌, Bool, true, false, List, ◌∷◌, length, Option, Some, None, refl, sym, subst, ◌∙◌, inl, inr, arith, ◌%◌, ◌^◌, ap}
use Rattle.std.proofs.lemmas.Bool.{cases_eq, eqb-true}
use Rattle.xp_words.specs.RefWords.{ref_read, ref_write}
use Rattle.xp_words.specs.Machine.{Machine}
use Rattle.xp_words.specs.declared.place.Place.{Place}
use Rattle.xp_words.specs.declared.place.Place.TheVariants.{Refs, Kind, Cell}
use Rattle.xp_words.specs.Places.{sizes_of, flushed_of, run_of}
use Rattle.xp_board.specs.declared.step.Step.{Step}
use Rattle.xp_board.specs.declared.holdings.Reference.{Reference}
use Rattle.xp_board.specs.declared.holdings.Ending.{Ending}
use Rattle.xp_board.specs.declared.holdings.Holdings.{Holdings}
use Rattle.xp_board.specs.declared.holdings.OwnerFound.TheVariants as owners
use Rattle.xp_board.specs.Readings.{is_dying, owner_of, ref_count, free_stamp}
use Rattle.xp_board.specs.Hands.{endings_of, claims_of}
use Rattle.xp_board.specs.RefSteps.{took_ref, gave_ref, owner_number, one_down}
use Rattle.xp_board.specs.Found.{EndingFound}
use Rattle.xp_board.specs.Sound.{Sound}
use Rattle.step_effects.proofs.ActEffects.{Raised, Cleared, Lowered}
use Rattle.found_rule.proofs.Growth.{added}
use Rattle.found_rule.proofs.Learning.{Act, act}
use Rattle.found_rule.proofs.Words.{Words}
use Rattle.found_rule.proofs.WordsAt.{words_refs}
use Rattle.found_rule.proofs.KnownFacts.{RefRight}
use Rattle.found_rule.proofs.KnownStays.{owner_found}
use Rattle.found_rule.proofs.HandFacts.{ReachKept}
use Rattle.found_rule.proofs.MyHand.{HandRight, hand_old}
use Rattle.found_rule.proofs.Outcome.{Outcome, outcome_by}
use Rattle.found_rule.proofs.FormedLaw.{ending_formed_old, claimed_formed_old}
use Rattle.found_rule.proofs.Quiet.{Done, fix_kept, zero_kept, works_form, locks_form, formed_with}
use Rattle.xp_board.proofs.HandLists.{EachOf-more, EachOf-without, EachOf-maybe}
use Rattle.xp_board.proofs.ListCounts.{times_by-cons}
use Rattle.xp_board.proofs.Works.{nobody_ends}
use Rattle.xp_board.proofs.Counted.{in_hand_counted}
use Rattle.xp_board.proofs.RefWords.{OneLess, more, last, one_down_leaves, owned_says, dying_says}
use Rattle.xp_board.proofs.RefForms.{dying_number}
use Rattle.xp_words.specs.declared.refs.RefWord.TheVariants.{Dying}

owner_numbered : (o : Option ℕ) (d : ℕ) → o ≡ Some d → o ≡ Some (owner_number o)
owner_numbered (Some e) d h = refl
owner_numbered None d h = absurd cc

-- what one reference less leaves: the owner, no stamp, and an ending frame at the last one
record LoweredWord (w v : ℕ) : Type 0 where
  pub owner : owner_of v ≡ owner_of w
  pub stamp : free_stamp v ≡ 0
  pub alive : is_dying w ≡ false
  pub last : ref_count w ≡ 1 → v ≡ ref_write (Dying (owner_number (owner_of w)))

lowered_word : (w v : ℕ) → OneLess w v → LoweredWord w v
lowered_word w v (more o c a e k) =
    let was = owned_says w o a (suc (suc c)) e in
    let now = owned_says v o a (suc c) k in
    record { owner = now.owned ∙ sym was.owned; stamp = now.stamp; alive = was.dying; last = λ one. absurd (let q = was.counts in omega arith) }
lowered_word w v (last o e k) =
    let was = owned_says w o false 1 e in
    let now = dying_says v o k in
    record {
      owner = now.owned ∙ sym was.owned;
      stamp = now.stamp;
      alive = was.dying;
      last = λ one. dying_number v o k ∙ ap (λ y. ref_write (Dying (owner_number y))) (sym was.owned);
    }

module _ (n : Machine) (s : ℕ) (m m2 : Place → ℕ) (b c : ℕ → Holdings) (l : s < (sizes_of n).vcpus) (sound : Sound n m b) (others : (t : ℕ) → t ≢ s → c t ≡ b t) (f : ℕ)
    (alive : is_dying (m (Refs f)) ≡ false) (u : Holdings) (acted : Act n s (Refs f) m m2 (b s) u (c s)) where
  nobody : (t : ℕ) → t < (sizes_of n).vcpus → 0 < endings_of f (b t).ending + claims_of f (b t).claimed → ⊥
  nobody t k some = let q = nobody_ends n m b sound.alone f alive t k in omega arith

  kept : (g : ℕ) → 0 < endings_of g (b s).ending + claims_of g (b s).claimed → m2 (Refs g) ≡ m (Refs g)
  kept g some = elim (cases_eq g f) [ inl at ↦ absurd (nobody s l (rw at at some)) | inr off ↦ acted.others (Refs g) (λ e. off (cc)) ]

  pub alive_words : (0 < ref_count (m (Refs f)) → owner_of (m2 (Refs f)) ≡ owner_of (m (Refs f))) → free_stamp (m2 (Refs f)) ≡ 0 → Words n s m m2 b
  alive_words owner stamp = words_refs n s m m2 b sound f acted.others owner (omega arith) (λ t k d some. nobody t k some)

  pub alive_hand : Words n s m m2 b → ReachKept n m m2 b c → HandRight n s m m2 b c (b s)
  alive_hand words reach =
      hand_old n s (Refs f) m m2 b c u acted l sound words reach (λ g h. acted.others (Kind g) (λ e. cc)) kept
      (fix_kept n s (Refs f) m m2 b c u acted l sound (λ g i. acted.others (Cell g i) (λ e. cc)))
      (zero_kept n s (Refs f) m m2 b c u acted l sound (λ g i. acted.others (Cell g i) (λ e. cc))) (acted.others (flushed_of s) (λ e. cc))

  pub alive_outcome : u.cache ≡ (b s).cache → u.walk ≡ (b s).walk → u.cold ≡ (b s).cold → u.ran ≡ (b s).ran → Words n s m m2 b →
      (ReachKept n m m2 b c → HandRight n s m m2 b c u) → Outcome n s m m2 b c
  alive_outcome cache walk cold ran words hand =
      outcome_by n s (Refs f) m m2 b c u acted others cache walk cold ran (λ g i. acted.others (Cell g i) (λ e. cc)) (λ v. acted.others (flushed_of v) (λ e. cc))
      (λ v. acted.others (run_of v) (λ e. cc)) words hand

-- ---- a reference of which the step finds the owner comes into the hand
module _ (n : Machine) (s : ℕ) (x : Step) (m m2 : Place → ℕ) (b c : ℕ → Holdings) (l : s < (sizes_of n).vcpus) (sound : Sound n m b) (others : (t : ℕ) → t ≢ s → c t ≡ b t) (f : ℕ) where
  module _ (alive : is_dying (m (Refs f)) ≡ false) (owner : ℕ) (was : owner_of (m (Refs f)) ≡ Some owner) (is : owner_of (m2 (Refs f)) ≡ Some owner) (stamp : free_stamp (m2 (Refs f)) ≡ 0)
      (acted : Act n s (Refs f) m m2 (b s) (took_ref f (m (Refs f)) (b s)) (c s)) where
    took_done : Done n s m m2 b c
    took_done =
        let u = took_ref f (m (Refs f)) (b s) in
        let words = alive_words n s m m2 b c l sound others f alive u acted (λ some. is ∙ sym was) stamp in
        let new : Reference = record { frame = f; owner = owners.Of (owner_number (owner_of (m (Refs f)))) } in
        record {
          found = alive_outcome n s m m2 b c l sound others f alive u acted refl refl refl refl words
              (λ reach.
              let h = alive_hand n s m m2 b c l sound others f alive u acted words reach in
              record {
                refs = EachOf-more (RefRight (sizes_of n) m2 (c s).steps) new (b s).refs
                    (owner_found (sizes_of n) m m2 (b s).steps (c s).steps (added acted.made (Refs f) acted.added acted.steps) f (owner_number (owner_of (m (Refs f))))
                    (is ∙ sym was ∙ owner_numbered (owner_of (m (Refs f))) owner was)) h.refs;
                typed = h.typed;
                lock_right = h.lock_right;
                works = h.works;
                locks = h.locks;
                endings = h.endings;
                claims = h.claims;
                acked = h.acked;
              });
          formed = formed_with n s (Refs f) m m2 b c u acted l sound refl refl refl refl refl
              (ending_formed_old n s (Refs f) m m2 (b s) u (c s) acted (sound.formed s l)) (claimed_formed_old n s (Refs f) m m2 (b s) u (c s) acted (sound.formed s l))
              (record { held = (sound.formed s l).raised.held }) (sound.formed s l).looking
              (works_form n s (Refs f) m m2 b c u acted l sound refl) (locks_form n s (Refs f) m m2 b c u acted l sound refl);
        }

  pub raised_done : Raised n x f m m2 (b s) (c s) → Done n s m m2 b c
  raised_done d =
      let w = d.wrote in
      let was = owned_says (m (Refs f)) d.owner d.allocated d.count d.was in
      let is = owned_says (m2 (Refs f)) d.owner d.allocated (d.count + 1) d.is in
      took_done was.dying d.owner was.owned is.owned is.stamp
      (act n s x (Refs f) m m2 (b s) (took_ref f (m (Refs f)) (b s)) (c s) w.place w.real w.left w.others refl refl refl refl d.hand)

  pub cleared_done : Cleared n x f m m2 (b s) (c s) → Done n s m m2 b c
  cleared_done d =
      let w = d.wrote in
      let was = owned_says (m (Refs f)) d.owner true d.count d.was in
      let is = owned_says (m2 (Refs f)) d.owner false d.count d.is in
      took_done was.dying d.owner was.owned is.owned is.stamp
      (act n s x (Refs f) m m2 (b s) (took_ref f (m (Refs f)) (b s)) (c s) w.place w.real w.left w.others refl refl refl refl d.hand)

  -- ---- a reference goes out, and the last one leaves the frame ending

  more_if : (g : ℕ) (t : Bool) (e : Ending) (es : List Ending) → endings_of g es ≤ endings_of g (if t then (e ∷ es) else es)
  more_if g true e es = let k = times_by-cons (λ y. y.frame) g e es in omega arith
  more_if g false e es = omega arith

  pub lowered_done : Lowered n x f m m2 (b s) (c s) → Done n s m m2 b c
  lowered_done d =
      let w = d.wrote in
      let y = m (Refs f) in
      let u = gave_ref f y (b s) in
      let acted = act n s x (Refs f) m m2 (b s) u (c s) w.place w.real w.left w.others refl refl refl refl d.hand in
      let low = subst (λ v. LoweredWord y v) (sym d.is) (lowered_word y ((y + one_down) % 2 ^ 64) (one_down_leaves y (ref_read y) (sound.spelled.small (Refs f)) refl (let k = in_hand_counted (sizes_of n) m b s f l sound.counts d.may.in_hand in omega arith))) in
      let alive : is_dying y ≡ false = low.alive in
      let words = alive_words n s m m2 b c l sound others f alive u acted (λ some. low.owner) low.stamp in
      let end : Ending = record { frame = f; owner = owner_number (owner_of y); since = length (b s).steps + 1 } in
      record {
        found = alive_outcome n s m m2 b c l sound others f alive u acted refl refl refl refl words
            (λ reach.
            let h = alive_hand n s m m2 b c l sound others f alive u acted words reach in
            record {
              refs = EachOf-without (RefRight (sizes_of n) m2 (c s).steps) (λ e. e.frame) f (b s).refs h.refs;
              typed = h.typed;
              lock_right = h.lock_right;
              works = h.works;
              locks = h.locks;
              endings = EachOf-maybe (EndingFound m2) (ref_count y == 1) end (b s).ending (λ t. low.last (eqb-true (ref_count y) 1 t)) h.endings;
              claims = h.claims;
              acked = h.acked;
            });
        formed = formed_with n s (Refs f) m m2 b c u acted l sound refl refl refl refl refl
            (EachOf-maybe (λ e. e.since ≤ suc (length (b s).steps)) (ref_count y == 1) end (b s).ending (λ t. omega arith) (ending_formed_old n s (Refs f) m m2 (b s) u (c s) acted (sound.formed s l)))
            (claimed_formed_old n s (Refs f) m m2 (b s) u (c s) acted (sound.formed s l))
            (record { held = λ g. let r = (sound.formed s l).raised.held g in let q = more_if g (ref_count y == 1) end (b s).ending in omega arith }) (sound.formed s l).looking
            (works_form n s (Refs f) m m2 b c u acted l sound refl) (locks_form n s (Refs f) m m2 b c u acted l sound refl);
      }
