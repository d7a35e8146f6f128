-- The other parts of a sound machine after an act, each by what it reads.
use Rattle.std.proofs.Common.{◌≡◌, ◌≢◌, ℕ, ◌+◌, ◌<◌, ◌≤◌, ◌^◌, true, false, [], None, sym, ◌∙◌, ap, subst, arith, IsTrue, inl, inr}
use Rattle.std.proofs.lemmas.Bool.{cases_eq}
use Rattle.xp_words.specs.RefWords.{bit}
use Rattle.xp_words.specs.Machine.{Machine}
use Rattle.xp_words.specs.declared.place.Place.{Place}
use Rattle.xp_words.specs.declared.place.Place.TheVariants.{Clock, Refs, Kind}
use Rattle.xp_words.specs.Places.{sizes_of, is_place, flushed_of, run_of}
use Rattle.xp_board.specs.declared.holdings.Holdings.{Holdings}
use Rattle.xp_board.specs.Lists.{times, EachOf}
use Rattle.xp_board.specs.Readings.{kind_at, is_locked, is_dying, is_free, free_stamp, kind_stamp}
use Rattle.xp_board.specs.Hands.{works_on, locks_on, endings_of, claims_of, IsEmptyHand}
use Rattle.xp_board.specs.Spelling.{IsSpelling}
use Rattle.xp_board.specs.Sound.{is_busy, is_hinted, Spelled, HeldAlone, WorkAgrees, Stamped, Idle, FreeMap}
use Rattle.xp_board.proofs.PlaceTests.{same_or_other}
use Rattle.xp_board.proofs.Sums.{hands-one}
use Rattle.count_rule.proofs.CountLaw.{each_vcpu}

-- ---- words
pub spelled_by : (n : Machine) (m m2 : Place → ℕ) (p : Place) → IsTrue (is_place (sizes_of n) p) → ((q : Place) → q ≢ p → m2 q ≡ m q) → m2 p < 2 ^ 64 →
    IsSpelling n p (m2 p) → Spelled n m → Spelled n m2
spelled_by n m m2 p real others small spelled old =
    record {
      small = λ q. elim (same_or_other q p) [ inl at ↦ rw at small | inr off ↦ rw (others q off) (old.small q) ];
      outside = λ q k. elim (same_or_other q p) [
        | inl at ↦ let there : is_place (sizes_of n) p ≡ false = rw at at k in absurd cc
        | inr off ↦ rw (others q off) (old.outside q k)
      ];
      spelled = λ q b. elim (same_or_other q p) [ inl at ↦ rw at spelled | inr off ↦ rw (others q off) (old.spelled q b) ];
    }

pub spelled_same : (n : Machine) (m m2 : Place → ℕ) → ((q : Place) → m2 q ≡ m q) → Spelled n m → Spelled n m2
spelled_same n m m2 words old =
    record {
      small = λ q. rw (words q) (old.small q);
      outside = λ q k. rw (words q) (old.outside q k);
      spelled = λ q r. rw (words q) (old.spelled q r);
    }

pub stamped_by : (n : Machine) (m m2 : Place → ℕ) (p : Place) → ((q : Place) → q ≢ p → m2 q ≡ m q) → m Clock ≤ m2 Clock →
    ((v : ℕ) → p ≡ flushed_of v → m2 p ≤ m2 Clock) → ((f : ℕ) → p ≡ Refs f → free_stamp (m2 p) ≤ m2 Clock) → ((f : ℕ) → p ≡ Kind f → kind_stamp (m2 p) ≤ m2 Clock) →
    Stamped n m → Stamped n m2
stamped_by n m m2 p others clock vcpu ref kind old =
    record {
      flushed = λ v. elim (same_or_other (flushed_of v) p) [
        | inl at ↦ rw at (vcpu v (sym at))
        | inr off ↦ let e = others (flushed_of v) off in let k = old.flushed v in omega arith
      ];
      free = λ f. elim (same_or_other (Refs f) p) [
        | inl at ↦ rw at (ref f (sym at))
        | inr off ↦ let e = ap free_stamp (others (Refs f) off) in let k = old.free f in omega arith
      ];
      kinds = λ f. elim (same_or_other (Kind f) p) [
        | inl at ↦ rw at (kind f (sym at))
        | inr off ↦ let e = ap kind_stamp (others (Kind f) off) in let k = old.kinds f in omega arith
      ];
    }

pub stamped_same : (n : Machine) (m m2 : Place → ℕ) → ((q : Place) → m2 q ≡ m q) → Stamped n m → Stamped n m2
stamped_same n m m2 words old =
    record {
      flushed = λ v. rw (words (flushed_of v), words Clock) (old.flushed v);
      free = λ f. rw (words (Refs f), words Clock) (old.free f);
      kinds = λ f. rw (words (Kind f), words Clock) (old.kinds f);
    }

-- ---- hands
module _ (n : Machine) (s : ℕ) (m m2 : Place → ℕ) (b c : ℕ → Holdings) (vcpu : s < (sizes_of n).vcpus) (others : (t : ℕ) → t ≢ s → c t ≡ b t) where
  pub alone_law : ((g : ℕ) → works_on g (c s).works + bit (is_busy (kind_at m g)) ≡ works_on g (b s).works + bit (is_busy (kind_at m2 g))) →
      ((g : ℕ) → locks_on g (c s).locks + bit (is_locked (kind_at m g)) ≡ locks_on g (b s).locks + bit (is_locked (kind_at m2 g))) →
      ((g : ℕ) → endings_of g (c s).ending + claims_of g (c s).claimed + bit (is_dying (m (Refs g)))
      ≡ endings_of g (b s).ending + claims_of g (b s).claimed + bit (is_dying (m2 (Refs g)))) →
      HeldAlone n m b → HeldAlone n m2 c
  alone_law works locks dying old =
      record {
        works = λ g. let was = old.works g in let o = hands-one (λ u. works_on g u.works) (sizes_of n) b c s vcpu others in let k = works g in omega arith;
        locks = λ g. let was = old.locks g in let o = hands-one (λ u. locks_on g u.locks) (sizes_of n) b c s vcpu others in let k = locks g in omega arith;
        dying = λ g.
            let was = old.dying g in
            let o = hands-one (λ u. endings_of g u.ending + claims_of g u.claimed) (sizes_of n) b c s vcpu others in
            let k = dying g in
            omega arith;
      }

  pub map_law : ((g : ℕ) → g < (sizes_of n).frames → bit (is_hinted m2 g) + (bit (is_free (m (Refs g))) + times g (b s).raised) ≡ bit (is_hinted m g) + (bit (is_free (m2 (Refs g))) + times g (c s).raised)) →
      FreeMap n m b → FreeMap n m2 c
  map_law moved old =
      record {
        bits = λ g l.
            let was = old.bits g l in
            let o = hands-one (λ u. times g u.raised) (sizes_of n) b c s vcpu others in
            let k = moved g l in
            omega arith;
      }

  pub works_law : EachOf (WorkAgrees (c s)) (c s).works → ((t : ℕ) → t < (sizes_of n).vcpus → EachOf (WorkAgrees (b t)) (b t).works) →
      (t : ℕ) → t < (sizes_of n).vcpus → EachOf (WorkAgrees (c t)) (c t).works
  works_law mine old = each_vcpu n s m m2 b c vcpu others (λ t u. EachOf (WorkAgrees u) u.works) mine (λ t l off. old t l)

  -- ---- vCPUs that do not run
  pub idle_other : (v : ℕ) → m2 (run_of v) ≡ m (run_of v) → v ≢ s → Idle n m b v → Idle n m2 c v
  idle_other v word off old =
      let same = others v off in
      record {
        hand = λ k. rw same (old.hand (λ e. k (word ∙ e)));
        cache = λ k. rw same (old.cache (λ e. k (word ∙ e)));
        walk = λ k. rw same (old.walk (λ e. k (word ∙ e)));
        cold_cache = λ k. rw same (old.cold_cache (rw same at k));
        cold_walk = λ k. rw same (old.cold_walk (rw same at k));
      }

  -- the own vCPU runs
  pub idle_running : m2 (run_of s) ≡ 0 → ((v : ℕ) → v ≢ s → m2 (run_of v) ≡ m (run_of v)) →
      ((c s).cold ≡ true → (b s).cold ≡ true) → ((b s).cold ≡ true → (b s).cache ≡ [] → (c s).cache ≡ []) → ((b s).cold ≡ true → (b s).walk ≡ None → (c s).walk ≡ None) →
      ((v : ℕ) → v < (sizes_of n).vcpus → Idle n m b v) → (v : ℕ) → v < (sizes_of n).vcpus → Idle n m2 c v
  idle_running runs words cold cache walk old v l =
      elim (cases_eq v s) [
        | inl at ↦
            subst (Idle n m2 c) (sym at)
            (record {
              hand = λ k. absurd (k runs);
              cache = λ k. absurd (k runs);
              walk = λ k. absurd (k runs);
              cold_cache = λ k. cache (cold k) ((old s vcpu).cold_cache (cold k));
              cold_walk = λ k. walk (cold k) ((old s vcpu).cold_walk (cold k));
            })
        | inr off ↦ idle_other v (words v off) off (old v l)
      ]

  -- or its hand and its translations are no more than they were
  pub idle_fewer : ((v : ℕ) → m2 (run_of v) ≡ m (run_of v)) → (IsEmptyHand (b s) → IsEmptyHand (c s)) → (c s).cold ≡ (b s).cold → ((b s).cache ≡ [] → (c s).cache ≡ []) →
      ((b s).walk ≡ None → (c s).walk ≡ None) → ((v : ℕ) → v < (sizes_of n).vcpus → Idle n m b v) → (v : ℕ) → v < (sizes_of n).vcpus → Idle n m2 c v
  idle_fewer words empty cold cache walk old v l =
      elim (cases_eq v s) [
        | inl at ↦
            subst (Idle n m2 c) (sym at)
            (record {
              hand = λ k. empty ((old s vcpu).hand (λ e. k (words s ∙ e)));
              cache = λ k. cache ((old s vcpu).cache (λ e. k (words s ∙ e)));
              walk = λ k. walk ((old s vcpu).walk (λ e. k (words s ∙ e)));
              cold_cache = λ k. cache ((old s vcpu).cold_cache (sym cold ∙ k));
              cold_walk = λ k. walk ((old s vcpu).cold_walk (sym cold ∙ k));
            })
        | inr off ↦ idle_other v (words v) off (old v l)
      ]

  pub idle_still : ((v : ℕ) → m2 (run_of v) ≡ m (run_of v)) → (IsEmptyHand (b s) → IsEmptyHand (c s)) → (c s).cold ≡ (b s).cold → (c s).cache ≡ (b s).cache → (c s).walk ≡ (b s).walk →
      ((v : ℕ) → v < (sizes_of n).vcpus → Idle n m b v) → (v : ℕ) → v < (sizes_of n).vcpus → Idle n m2 c v
  idle_still words empty cold cache walk old v l = idle_fewer words empty cold (λ e. cache ∙ e) (λ e. walk ∙ e) old v l
