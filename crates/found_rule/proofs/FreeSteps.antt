-- A frame is taken from the free ones, freed, or given to the own domain.
use Rattle.std.proofs.Common.{◌≡◌, ◌≢◌, ℕ, suc, ◌+◌, ◌<◌, ◌≤◌, length, Option, Some, None, refl, sym, ap, subst, ◌∙◌, inl, inr, arith}
use Rattle.std.proofs.lemmas.Bool.{cases_eq}
use Rattle.std.proofs.lemmas.Bool.Decides.{nat_tests}
use Rattle.xp_words.specs.declared.refs.RefWord.TheVariants.{Dying}
use Rattle.xp_words.specs.RefWords.{ref_read}
use Rattle.xp_words.specs.Machine.{Machine}
use Rattle.xp_words.specs.declared.place.Place.{Place}
use Rattle.xp_words.specs.declared.place.Place.TheVariants.{Clock, Refs, Kind, Cell}
use Rattle.xp_words.specs.Places.{sizes_of, flushed_of, run_of}
use Rattle.xp_board.specs.declared.step.Step.{Step}
use Rattle.xp_board.specs.declared.holdings.Ending.{Ending}
use Rattle.xp_board.specs.declared.holdings.Claimed.{Claimed}
use Rattle.xp_board.specs.declared.holdings.Holdings.{Holdings}
use Rattle.xp_board.specs.Lists.{one_at, times_by, without_by, EachOf}
use Rattle.xp_board.specs.Readings.{domain_of, free_stamp}
use Rattle.xp_board.specs.Hands.{endings_of, claims_of, ending_of, claim_of}
use Rattle.xp_board.specs.RefSteps.{claimed_frame, freed, given, IsFreeStamp}
use Rattle.xp_board.specs.Found.{EndingFound, ClaimFound, LockFound, WorkFound}
use Rattle.xp_board.specs.Sound.{Sound}
use Rattle.step_effects.proofs.ActEffects.{Took, Freed, Gave}
use Rattle.found_rule.proofs.Learning.{Act, act}
use Rattle.found_rule.proofs.Words.{Words}
use Rattle.found_rule.proofs.WordsAt.{words_refs}
use Rattle.found_rule.proofs.WordFacts.{clock_some}
use Rattle.found_rule.proofs.KnownFacts.{RefRight, TypedRight, LockRight}
use Rattle.found_rule.proofs.HandFacts.{ReachKept}
use Rattle.found_rule.proofs.MyHand.{HandRight, refs_old, typed_old, lock_right_old, works_old, locks_old, endings_old, claims_old}
use Rattle.found_rule.proofs.Outcome.{Outcome, outcome_by}
use Rattle.found_rule.proofs.FormedLaw.{ending_formed_old, claimed_formed_old}
use Rattle.found_rule.proofs.RefSteps.{alive_words, alive_hand, alive_outcome}
use Rattle.found_rule.proofs.Quiet.{Done, fix_kept, zero_kept, works_form, locks_form, formed_with}
use Rattle.xp_board.proofs.HandLists.{EachOf-map, EachOf-more, EachOf-without, EachOf-first, first-some}
use Rattle.xp_board.proofs.ListCounts.{EachOf-there, EachOf-others, times_by-without, times_by-without_other}
use Rattle.xp_board.proofs.Works.{is_dying-mine, one_ending, only_my_ending}
use Rattle.xp_board.proofs.MoreSteps.{none_last}
use Rattle.xp_board.proofs.RefForms.{dying_uncounted, free_number, dying_number}
use Rattle.xp_board.proofs.RefWords.{free_says, dying_says, owned_says}

-- ---- taken
module _ (n : Machine) (s : ℕ) (x : Step) (m m2 : Place → ℕ) (b c : ℕ → Holdings) (l : s < (sizes_of n).vcpus) (sound : Sound n m b) (others : (t : ℕ) → t ≢ s → c t ≡ b t) (f : ℕ) where
  pub took_done : Took n s x f m m2 (b s) (c s) → Done n s m m2 b c
  unfolding times_by
  took_done d =
      let w = d.wrote in
      let y = m (Refs f) in
      let z = sizes_of n in
      let u = claimed_frame n s f y (b s) in
      let acted = act n s x (Refs f) m m2 (b s) u (c s) w.place w.real w.left w.others refl refl refl refl d.hand in
      let was = free_says y d.stamp d.was in
      let left : ref_read (m2 (Refs f)) ≡ Some (Dying (domain_of n s)) = d.is ∙ ap Some d.may.left in
      let is = dying_says (m2 (Refs f)) (domain_of n s) left in
      let words = alive_words n s m m2 b c l sound others f was.dying u acted (λ some. absurd (let q = was.counts in omega arith)) is.stamp in
      let new : Claimed = record { frame = f; stamp = y; scrubbed = 0; since = length (b s).steps + 1 } in
      let long : length (c s).steps ≡ suc (length (b s).steps) = ap length acted.steps in
      record {
        found = alive_outcome n s m m2 b c l sound others f was.dying u acted refl refl refl refl words
            (λ reach.
            let h = alive_hand n s m m2 b c l sound others f was.dying u acted words reach in
            record {
              refs = h.refs;
              typed = h.typed;
              lock_right = h.lock_right;
              works = h.works;
              locks = h.locks;
              endings = h.endings;
              claims = EachOf-more (ClaimFound z m2 (domain_of n s) (c s)) new (b s).claimed
                  (record {
                    word = dying_number (m2 (Refs f)) (domain_of n s) left;
                    stamp = let a = sound.stamped.free f in let e = was.stamp in let g = free_number y d.stamp d.was in let k = words.moves.clock in omega arith;
                    cells = λ i v k. absurd (none_last z (length (b s).steps + 1) (Cell f i) v (c s).steps (omega arith) k);
                    scrubbed = λ i k. absurd (omega arith);
                  }) h.claims;
              acked = h.acked;
            });
        formed = formed_with n s (Refs f) m m2 b c u acted l sound refl refl refl refl refl
            (ending_formed_old n s (Refs f) m m2 (b s) u (c s) acted (sound.formed s l))
            (EachOf-more (λ e. e.since ≤ suc (length (b s).steps)) new (b s).claimed (omega arith) (claimed_formed_old n s (Refs f) m m2 (b s) u (c s) acted (sound.formed s l)))
            (record { held = λ g. let r = (sound.formed s l).raised.held g in omega arith }) (sound.formed s l).looking
            (works_form n s (Refs f) m m2 b c u acted l sound refl) (locks_form n s (Refs f) m m2 b c u acted l sound refl);
      }

  -- ---- a frame that is ending or claimed here alone leaves the hand
  module _ (held : 0 < endings_of f (b s).ending + claims_of f (b s).claimed) (stamp : free_stamp (m2 (Refs f)) ≤ m Clock) (u : Holdings) (acted : Act n s (Refs f) m m2 (b s) u (c s)) where
    left_words : Words n s m m2 b
    left_words =
        words_refs n s m m2 b sound f acted.others (λ some. absurd (let q = dying_uncounted (m (Refs f)) (is_dying-mine n m b sound.alone f s l held) in omega arith)) stamp
        (λ t k d some. let q = only_my_ending n m b sound.alone f s t l k d held in omega arith)

    left_others : (g : ℕ) → g ≢ f → m2 (Refs g) ≡ m (Refs g)
    left_others g off = acted.others (Refs g) (λ k. off (cc))

    left_hand : u.refs ≡ (b s).refs → u.typed ≡ (b s).typed → u.works ≡ (b s).works → u.locks ≡ (b s).locks → u.acked ≡ (b s).acked → ReachKept n m m2 b c →
        EachOf (EndingFound m2) u.ending → EachOf (ClaimFound (sizes_of n) m2 (domain_of n s) (c s)) u.claimed → HandRight n s m m2 b c u
    unfolding left_words
    left_hand refs typed works locks acks reach endings claims =
        let z = sizes_of n in
        record {
          refs = subst (λ xs. EachOf (RefRight z m2 (c s).steps) xs) (sym refs) (refs_old n s (Refs f) m m2 b c u acted l sound left_words reach);
          typed = subst (λ xs. EachOf (TypedRight z m2 (c s).steps) xs) (sym typed) (typed_old n s (Refs f) m m2 b c u acted l sound left_words reach);
          lock_right = subst (λ xs. EachOf (LockRight z m2 (c s).steps) xs) (sym locks) (lock_right_old n s (Refs f) m m2 b c u acted l sound left_words reach);
          works = subst (λ xs. EachOf (WorkFound n m2 c (c s)) xs) (sym works)
              (EachOf-map (λ e. m2 (Kind e.frame) ≡ m (Kind e.frame) → WorkFound n m2 c (c s) e) (WorkFound n m2 c (c s)) (b s).works (λ e h. h (acted.others (Kind e.frame) (λ k. cc)))
              (works_old n s (Refs f) m m2 b c u acted l sound left_words reach (fix_kept n s (Refs f) m m2 b c u acted l sound (λ g i. acted.others (Cell g i) (λ e. cc)))));
          locks = subst (λ xs. EachOf (LockFound z m2 (c s)) xs) (sym locks) (locks_old n s (Refs f) m m2 b c u acted l sound left_words reach);
          endings = endings;
          claims = claims;
          acked = inl (acted.others (flushed_of s) (λ e. cc), acks);
        }

    left_endings : ReachKept n m m2 b c → EachOf (EndingFound m2) (without_by (λ e. e.frame) f (b s).ending)
    unfolding left_words
    left_endings reach =
        EachOf-others (λ e. m2 (Refs e.frame) ≡ m (Refs e.frame) → EndingFound m2 e) (EndingFound m2) (λ e. e.frame) f (b s).ending
        (let q = one_ending n m b sound.alone f s l in omega arith) (λ e off h. h (left_others e.frame off)) (endings_old n s (Refs f) m m2 b c u acted l sound left_words reach)

    left_claims : ReachKept n m m2 b c → EachOf (ClaimFound (sizes_of n) m2 (domain_of n s) (c s)) (without_by (λ e. e.frame) f (b s).claimed)
    unfolding left_words
    left_claims reach =
        EachOf-others (λ e. m2 (Refs e.frame) ≡ m (Refs e.frame) → ClaimFound (sizes_of n) m2 (domain_of n s) (c s) e) (ClaimFound (sizes_of n) m2 (domain_of n s) (c s)) (λ e. e.frame) f (b s).claimed
        (let q = one_ending n m b sound.alone f s l in omega arith) (λ e off h. h (left_others e.frame off))
        (claims_old n s (Refs f) m m2 b c u acted l sound left_words reach (zero_kept n s (Refs f) m m2 b c u acted l sound (λ g i. acted.others (Cell g i) (λ e. cc))))

    left_outcome : u.cache ≡ (b s).cache → u.walk ≡ (b s).walk → u.cold ≡ (b s).cold → u.ran ≡ (b s).ran → (ReachKept n m m2 b c → HandRight n s m m2 b c u) → Outcome n s m m2 b c
    unfolding left_words
    left_outcome cache walk cold ran hand =
        outcome_by n s (Refs f) m m2 b c u acted others cache walk cold ran (λ g i. acted.others (Cell g i) (λ e. cc)) (λ v. acted.others (flushed_of v) (λ e. cc))
        (λ v. acted.others (run_of v) (λ e. cc)) left_words hand

    -- of endings and claims that went without a raised frame
    left_ending_formed : EachOf (λ e. e.since ≤ suc (length (b s).steps)) (without_by (λ e. e.frame) f (b s).ending)
    left_ending_formed =
        EachOf-without (λ e. e.since ≤ suc (length (b s).steps)) (λ e. e.frame) f (b s).ending (ending_formed_old n s (Refs f) m m2 (b s) u (c s) acted (sound.formed s l))

    left_claimed_formed : EachOf (λ e. e.since ≤ suc (length (b s).steps)) (without_by (λ e. e.frame) f (b s).claimed)
    left_claimed_formed =
        EachOf-without (λ e. e.since ≤ suc (length (b s).steps)) (λ e. e.frame) f (b s).claimed (claimed_formed_old n s (Refs f) m m2 (b s) u (c s) acted (sound.formed s l))

  free_stamp_found : (stamp : ℕ) (e : Option Ending) (k : Option Claimed) → IsFreeStamp n stamp (b s) e k → claim_of f (b s).claimed ≡ k → stamp ≤ m Clock
  free_stamp_found stamp (Some e) k was_found is = clock_some (sizes_of n) e.since stamp (m Clock) (b s).steps (sound.found s l).clock was_found
  free_stamp_found stamp None (Some e) was_found is =
      let h = EachOf-first (ClaimFound (sizes_of n) m (domain_of n s) (b s)) (λ y. y.frame) f e (b s).claimed (sound.found s l).claims is in
      let k = h.stamp in
      omega arith
  free_stamp_found stamp None None was_found is = absurd was_found

  pub freed_done : Freed n s x f m m2 (b s) (c s) → Done n s m m2 b c
  unfolding times_by
  freed_done d =
      let w = d.wrote in
      let u = freed n s f (b s) in
      let acted = act n s x (Refs f) m m2 (b s) u (c s) w.place w.real w.left w.others refl refl refl refl d.hand in
      let some = d.may.raised in
      let formed = sound.formed s l in
      let held : 0 < endings_of f (b s).ending + claims_of f (b s).claimed = (let q = formed.raised.held f in omega arith) in
      let was_found = free_stamp_found d.stamp (ending_of f (b s).ending) (claim_of f (b s).claimed) d.may.was_found refl in
      let stamp : free_stamp (m2 (Refs f)) ≤ m Clock = (let q = (free_says (m2 (Refs f)) d.stamp d.is).stamp in omega arith) in
      record {
        found = left_outcome held stamp u acted refl refl refl refl
            (λ reach. left_hand held stamp u acted refl refl refl refl refl reach (left_endings held stamp u acted reach) (left_claims held stamp u acted reach));
        formed = formed_with n s (Refs f) m m2 b c u acted l sound refl refl refl refl refl
            (left_ending_formed held stamp u acted) (left_claimed_formed held stamp u acted)
            (record {
              held = λ g.
                  let r = formed.raised.held g in
                  elim (cases_eq g f) [
                    | inl at ↦
                        (let o = one_ending n m b sound.alone f s l in
                        let q = formed.raised.held f in
                        let k = times_by-without (λ y. y) f f (b s).raised some in
                        let i : one_at f f ≡ 1 = grind (arith, nat_tests) in
                        rw at (omega arith))
                    | inr off ↦
                        (let p = times_by-without_other (λ y. y) g f (b s).raised off in
                        let q = times_by-without_other (λ y. y.frame) g f (b s).ending off in
                        let o = times_by-without_other (λ y. y.frame) g f (b s).claimed off in
                        omega arith)
                  ];
            }) formed.looking
            (works_form n s (Refs f) m m2 b c u acted l sound refl) (locks_form n s (Refs f) m m2 b c u acted l sound refl);
      }

  pub gave_done : Gave n s x f m m2 (b s) (c s) → Done n s m m2 b c
  unfolding times_by
  gave_done d =
      let w = d.wrote in
      let u = given f (b s) in
      let acted = act n s x (Refs f) m m2 (b s) u (c s) w.place w.real w.left w.others refl refl refl refl d.hand in
      let formed = sound.formed s l in
      let held : 0 < endings_of f (b s).ending + claims_of f (b s).claimed =
      (let q = first-some (λ e. e.frame) f d.may.claimed (b s).claimed d.may.here in omega arith) in
      let stamp : free_stamp (m2 (Refs f)) ≤ m Clock = (let q = (owned_says (m2 (Refs f)) d.owner d.allocated d.count d.is).stamp in omega arith) in
      record {
        found = left_outcome held stamp u acted refl refl refl refl
            (λ reach.
            left_hand held stamp u acted refl refl refl refl refl reach
            (EachOf-there (λ e. m2 (Refs e.frame) ≡ m (Refs e.frame) → EndingFound m2 e) (EndingFound m2) (λ e. e.frame) (b s).ending
            (λ e there h. h (left_others held stamp u acted e.frame (λ at. let q = one_ending n m b sound.alone f s l in let y = rw at at there in let v = first-some (λ k. k.frame) f d.may.claimed (b s).claimed d.may.here in omega arith)))
            (endings_old n s (Refs f) m m2 b c u acted l sound (left_words held stamp u acted) reach))
            (left_claims held stamp u acted reach));
        formed = formed_with n s (Refs f) m m2 b c u acted l sound refl refl refl refl refl
            (ending_formed_old n s (Refs f) m m2 (b s) u (c s) acted formed) (left_claimed_formed held stamp u acted)
            (record {
              held = λ g.
                  let r = formed.raised.held g in
                  elim (cases_eq g f) [
                    | inl at ↦ (let o = d.may.lowered in rw at (omega arith))
                    | inr off ↦ (let o = times_by-without_other (λ y. y.frame) g f (b s).claimed off in omega arith)
                  ];
            }) formed.looking
            (works_form n s (Refs f) m m2 b c u acted l sound refl) (locks_form n s (Refs f) m m2 b c u acted l sound refl);
      }
