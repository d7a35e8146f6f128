-- Dying and dead domains: acts on the reference word of a frame.
use Rattle.std.proofs.Common.{◌≡◌, ◌≢◌, ℕ, ◌<◌, false, length, Some, IsTrue, refl, sym, ◌∙◌, ap, inl, inr, arith}
use Rattle.std.proofs.lemmas.Bool.{cases_eq}
use Rattle.xp_words.specs.declared.refs.RefWord.TheVariants.{Free, Owned, Dying}
use Rattle.xp_words.specs.RefWords.{ref_read, ref_write, IsRef}
use Rattle.xp_words.specs.Machine.{Machine, IsMachine}
use Rattle.xp_words.specs.declared.place.Place.{Place}
use Rattle.xp_words.specs.declared.place.Place.TheVariants.{Vcpu, Refs, Kind}
use Rattle.xp_words.specs.Places.{sizes_of, run_of}
use Rattle.xp_board.specs.declared.step.Step.{Step}
use Rattle.xp_board.specs.declared.holdings.Holdings.{Holdings}
use Rattle.xp_board.specs.Readings.{owner_of, domain_of, allocated_mark}
use Rattle.xp_board.specs.LifeSteps.{is_unallocated}
use Rattle.xp_board.specs.Sound.{Sound}
use Rattle.xp_board.specs.Found.{ClaimFound}
use Rattle.xp_board.proofs.ListCounts.{EachOf-found}
use Rattle.xp_words.proofs.RefLaws.{ref_read-write}
use Rattle.std.proofs.lemmas.List.Elements.{All-get_or}
use Rattle.step_effects.proofs.ActEffects.{Raised, Cleared, Took, Lowered, Freed, Gave}
use Rattle.type_rule.proofs.RefWordLaws.{SameOwner, one_more_keeps, one_less_keeps}
use Rattle.xp_board.proofs.Counted.{in_hand_counted}
use Rattle.type_rule.proofs.DomainLaw.{AllStopped, DomainWords, DomainChange}
use Rattle.type_rule.proofs.DomainWords.{kept_after, change_by, not_stopped}
use Rattle.xp_board.proofs.RefWords.{owned_says, dying_says, free_says}

unallocated_read : (w o c : ℕ) → ref_read w ≡ Some (Owned o false c) → IsTrue (is_unallocated w)
unfolding allocated_mark
unallocated_read w o c e = rw e refl

free_unallocated : (w t : ℕ) → ref_read w ≡ Some (Free t) → IsTrue (is_unallocated w)
unfolding allocated_mark
free_unallocated w t e = rw e refl

-- ---- a frame that a vCPU has claimed is its domain's
pub domain_below : (n : Machine) (s : ℕ) → IsMachine n → s < (sizes_of n).vcpus → domain_of n s < 16
domain_below n s k real =
    let few = k.few_domains in
    let b = All-get_or (λ d. d < length n.page_limit) n.vcpu_domain s 0 real k.of_domains in
    omega arith

dying_owner : (o : ℕ) → o < 16 → owner_of (ref_write (Dying o)) ≡ Some o
unfolding IsRef
dying_owner o b = (dying_says (ref_write (Dying o)) o (ref_read-write (Dying o) (omega arith))).owned

module _ (n : Machine) (s : ℕ) (x : Step) (m m2 : Place → ℕ) (b c : ℕ → Holdings) (real : s < (sizes_of n).vcpus) (sound : Sound n m b)
    (others : (t : ℕ) → t ≢ s → c t ≡ b t) where
  -- what has to be shown of the word of frame f
  record RefKept (f : ℕ) : Type 0 where
    owner : (d : ℕ) → AllStopped n m d → owner_of (m2 (Refs f)) ≡ Some d → owner_of (m (Refs f)) ≡ Some d
    unallocated : (d : ℕ) → AllStopped n m d → owner_of (m (Refs f)) ≡ Some d → IsTrue (is_unallocated (m (Refs f))) → IsTrue (is_unallocated (m2 (Refs f)))

  same_owner : (f : ℕ) → SameOwner (m (Refs f)) (m2 (Refs f)) → RefKept f
  same_owner f k = record { owner = λ d all e. sym k.owner ∙ e; unallocated = λ d all o u. rw k.allocated u }

  ref_words : (f : ℕ) → ((q : Place) → q ≢ Refs f → m2 q ≡ m q) → (c s).looking ≡ (b s).looking → RefKept f → DomainWords n m m2 b c
  ref_words f same looking k =
      record {
        stopped = λ v e. same (run_of v) (λ q. cc) ∙ e;
        empty = λ v j u e z. same (Vcpu v j) (λ q. cc) ∙ z;
        owners = λ d g all e. elim (cases_eq g f) [
          | inl at ↦ rw at (k.owner d all (rw at at e))
          | inr off ↦ sym (ap owner_of (same (Refs g) (λ q. off (cc)))) ∙ e
        ];
        unallocated = λ d g all o u. elim (cases_eq g f) [
          | inl at ↦ rw at (k.unallocated d all (rw at at o) (rw at at u))
          | inr off ↦ rw (same (Refs g) (λ q. off (cc))) u
        ];
        unpinned = λ d g all o u. rw (same (Kind g) (λ q. cc)) u;
        unkept = λ d g gone all o y. kept_after n s x m m2 b c others d g gone (same (Kind g) (λ q. cc)) (λ e there at w alive. rw looking there) y;
      }

  running : (b s).run ≡ Some 0 → (d : ℕ) → domain_of n s ≡ d → AllStopped n m d → ⊥
  running e d own all = not_stopped n s x m m2 b c others sound real e d own all

  pub raised_change : (f : ℕ) → Raised n x f m m2 (b s) (c s) → DomainChange n s x m m2 b c
  raised_change f d =
      change_by n s x m m2 b c others (Refs f) _ d.wrote.place d.wrote.left d.hand refl
      (ref_words f d.wrote.others (ap (λ u. u.looking) d.hand) (same_owner f (one_more_keeps _ _ _ _ _ _ d.was d.is)))

  pub cleared_change : (f : ℕ) → Cleared n x f m m2 (b s) (c s) → DomainChange n s x m m2 b c
  cleared_change f d =
      change_by n s x m m2 b c others (Refs f) _ d.wrote.place d.wrote.left d.hand refl
      (ref_words f d.wrote.others (ap (λ u. u.looking) d.hand)
      (record {
        owner = λ q all e. (owned_says _ _ _ _ d.was).owned ∙ sym ((owned_says _ _ _ _ d.is).owned) ∙ e;
        unallocated = λ q all o u. unallocated_read _ _ _ d.is;
      }))

  pub took_change : (f : ℕ) → Took n s x f m m2 (b s) (c s) → DomainChange n s x m m2 b c
  took_change f d =
      change_by n s x m m2 b c others (Refs f) _ d.wrote.place d.wrote.left d.hand refl
      (ref_words f d.wrote.others (ap (λ u. u.looking) d.hand)
      (record {
        owner = λ q all e.
            let now : owner_of (m2 (Refs f)) ≡ Some (domain_of n s) = (dying_says _ _ (d.is ∙ ap Some d.may.left)).owned in
            absurd (running (d.wrote.running refl) q (let k : Some (domain_of n s) ≡ Some q = sym now ∙ e in cc) all);
        unallocated = λ q all o u. let was = (free_says _ _ d.was).owned in absurd (cc);
      }))

  pub lowered_change : (f : ℕ) → Lowered n x f m m2 (b s) (c s) → DomainChange n s x m m2 b c
  lowered_change f d =
      let counted = in_hand_counted (sizes_of n) m b s f real sound.counts d.may.in_hand in
      let kept = one_less_keeps (m (Refs f)) (sound.spelled.small (Refs f)) counted in
      change_by n s x m m2 b c others (Refs f) _ d.wrote.place d.wrote.left d.hand refl
      (ref_words f d.wrote.others (ap (λ u. u.looking) d.hand) (same_owner f (rw d.is kept)))

  pub freed_change : (f : ℕ) → Freed n s x f m m2 (b s) (c s) → DomainChange n s x m m2 b c
  freed_change f d =
      change_by n s x m m2 b c others (Refs f) _ d.wrote.place d.wrote.left d.hand refl
      (ref_words f d.wrote.others (ap (λ u. u.looking) d.hand)
      (record {
        owner = λ q all e. let now = (free_says _ _ d.is).owned in absurd (cc);
        unallocated = λ q all o u. free_unallocated _ _ d.is;
      }))

  claimed_own : (f : ℕ) → Gave n s x f m m2 (b s) (c s) → (d : ℕ) → owner_of (m (Refs f)) ≡ Some d → domain_of n s ≡ d
  claimed_own f g d o =
      let k = EachOf-found (ClaimFound (sizes_of n) m (domain_of n s) (b s)) (λ e. e.frame) f (b s).claimed g.may.claimed g.may.here ((sound.found s real).claims) in
      let w : m (Refs f) ≡ ref_write (Dying (domain_of n s)) = rw (← k.0) k.1.word in
      let q : Some d ≡ Some (domain_of n s) = sym o ∙ ap owner_of w ∙ dying_owner (domain_of n s) (domain_below n s sound.machine real) in
      cc

  pub gave_change : (f : ℕ) → Gave n s x f m m2 (b s) (c s) → DomainChange n s x m m2 b c
  gave_change f d =
      let now : owner_of (m2 (Refs f)) ≡ Some (domain_of n s) = (owned_says _ _ _ _ d.is).owned ∙ ap Some d.may.own in
      change_by n s x m m2 b c others (Refs f) _ d.wrote.place d.wrote.left d.hand refl
      (ref_words f d.wrote.others (ap (λ u. u.looking) d.hand)
      (record {
        owner = λ q all e. absurd (running (d.wrote.running refl) q (let k : Some (domain_of n s) ≡ Some q = sym now ∙ e in cc) all);
        unallocated = λ q all o u. absurd (running (d.wrote.running refl) q (claimed_own f d q o) all);
      }))
