-- An act that moves nothing that is counted.
use Rattle.xp_words.specs.RefWords.{bit}
use Rattle.std.proofs.Common.{◌≡◌, ◌≢◌, ℕ, ◌+◌, ◌<◌, Bool, true, List, Some, sym, ◌∙◌, ap, arith, IsTrue, inl, inr}
use Rattle.std.proofs.lemmas.Bool.{cases_eq}
use Rattle.xp_words.specs.Machine.{Machine}
use Rattle.xp_words.specs.declared.place.Place.{Place}
use Rattle.xp_words.specs.declared.place.Place.TheVariants.{Pages, Vcpu, Refs, Kind}
use Rattle.xp_words.specs.Places.{sizes_of}
use Rattle.xp_words.specs.KindWords.{kind_fields}
use Rattle.xp_board.specs.declared.holdings.Holdings.{Holdings}
use Rattle.xp_board.specs.declared.holdings.Work.{Work}
use Rattle.xp_board.specs.Lists.{times, EachOf}
use Rattle.xp_board.specs.Readings.{kind_at, is_context, is_closing}
use Rattle.xp_board.specs.Hands.{refs_to, typed_to, locks_on, works_on, endings_of, claims_of, work_on, hand, typed_hand}
use Rattle.xp_board.specs.RefSteps.{is_closing_on}
use Rattle.xp_board.specs.Recorded.{recorded_in, held, held_of, entry_demand, HasType, is_page_of, CountsAgree}
use Rattle.xp_board.specs.Sound.{is_hinted, HeldAlone, WorkAgrees, FreeMap, Sound}
use Rattle.xp_board.proofs.ListCounts.{EachOf-both, EachOf-once}
use Rattle.count_rule.proofs.Twins.{EachTwo, EachTwo-times, EachTwo-each, EachTwo-map, SameWork, LikeWork, SameLock, SameClaim, recorded_in-same}
use Rattle.xp_board.proofs.Works.{one_works, work_of-same}
use Rattle.count_rule.proofs.CountLaw.{pages_of, Steady, types_steady, counted_steady, counts_law}
use Rattle.count_rule.proofs.PartLaws.{alone_law, map_law, works_law}
use Rattle.count_rule.proofs.Learning.{Stays}
use Rattle.xp_board.proofs.Sums.{sum_below-same}
use Rattle.xp_board.proofs.Counted.{held_inside, hand_is, typed_hand-same}

-- ---- a hand that keeps its lists
pub works_times : (b c : Holdings) → EachTwo SameWork b.works c.works → (g : ℕ) → works_on g c.works ≡ works_on g b.works
works_times b c k g = EachTwo-times SameWork (λ e. e.frame) g _ _ (λ x y r. r.frame) k

pub locks_times : (b c : Holdings) → EachTwo SameLock b.locks c.locks → (g : ℕ) → locks_on g c.locks ≡ locks_on g b.locks
locks_times b c k g = EachTwo-times SameLock (λ e. e.frame) g _ _ (λ x y r. r.frame) k

pub claims_times : (b c : Holdings) → EachTwo SameClaim b.claimed c.claimed → (g : ℕ) → claims_of g c.claimed ≡ claims_of g b.claimed
claims_times b c k g = EachTwo-times SameClaim (λ e. e.frame) g _ _ (λ x y r. r.frame) k

-- whether the vCPU has the frame closing in its works
abbrev pub is_closing_at : ℕ → Holdings → Bool
is_closing_at g u = is_closing_on (work_on g u.works)

pub like_works : (xs ys : List Work) → EachTwo SameWork xs ys → EachTwo LikeWork xs ys
like_works xs ys e = EachTwo-map SameWork LikeWork xs ys (λ x y r. record { frame = r.frame; word = r.word; recorded = λ u. r.recorded }) e

module _ (n : Machine) (s : ℕ) (m m2 : Place → ℕ) (b c : ℕ → Holdings) (vcpu : s < (sizes_of n).vcpus) (others : (t : ℕ) → t ≢ s → c t ≡ b t) where
  -- nobody's recorded entries but those of the own works change
  pub recorded_same : (f : ℕ) → recorded_in (c s).works f ≡ recorded_in (b s).works f → (t : ℕ) → recorded_in (c t).works f ≡ recorded_in (b t).works f
  recorded_same f e t =
      elim (cases_eq t s) [
        | inl at ↦ rw at e
        | inr off ↦ rw (others t off)
      ]

  pub held_still : (f : ℕ) → m2 (Kind f) ≡ m (Kind f) → recorded_in (c s).works f ≡ recorded_in (b s).works f → held (sizes_of n) m2 c f ≡ held (sizes_of n) m b f
  held_still f k e = rw k (ap (held_of (kind_at m f)) (work_of-same (sizes_of n).vcpus b c f (λ t l. recorded_same f e t)))

  -- ---- works whose hand keeps its references
  pub works_spared : EachTwo LikeWork (b s).works (c s).works → ((g : ℕ) → IsTrue (is_closing_at g (b s)) → 0 < refs_to g (b s).refs → 0 < refs_to g (c s).refs) →
      HeldAlone n m b → EachOf (WorkAgrees (b s)) (b s).works → EachOf (WorkAgrees (c s)) (c s).works
  works_spared same spares alone old =
      EachTwo-each LikeWork (λ e. WorkAgrees (b s) e × (work_on e.frame (b s).works ≡ Some e)) (WorkAgrees (c s)) _ _
      (λ x y r k.
      record {
        marked = λ u. let was : (kind_fields x.word).unflushed ≡ true = rw r.word at u in r.recorded was ∙ k.0.marked was;
        closing = λ t.
            let closing : IsTrue (is_closing (kind_fields x.word)) = rw r.word at t in
            rw r.frame (spares x.frame (rw k.1 closing) (k.0.closing closing));
      })
      same
      (EachOf-both (WorkAgrees (b s)) _ _ old (EachOf-once (λ e. e.frame) (b s).works (λ g. one_works n m b alone g s vcpu)))

  -- ---- no frame's words move, nor what is in hand of frames
  pub record Calm : Type 0 where
    pub refs : (g : ℕ) → m2 (Refs g) ≡ m (Refs g)
    pub kinds : (g : ℕ) → m2 (Kind g) ≡ m (Kind g)
    pub contexts : (v k : ℕ) → IsTrue (is_context k) → m2 (Vcpu v k) ≡ m (Vcpu v k)
    pub demands : (f i : ℕ) → i < held (sizes_of n) m b f → entry_demand m2 f i ≡ entry_demand m f i

  module _ (sound : Sound n m b) (calm : Calm) (kept : Stays (b s) (c s)) where
    recorded_kept : (f : ℕ) → recorded_in (c s).works f ≡ recorded_in (b s).works f
    recorded_kept f = recorded_in-same f _ _ kept.works

    steady : Steady n s m m2 b c vcpu others
    steady =
        record {
          held_same = λ f. held_still f (calm.kinds f) (recorded_kept f);
          demand_same = calm.demands;
          inside = λ f i l. held_inside n m b f i sound.spelled l;
          context_same = calm.contexts;
          type_same = λ g l. rw (calm.kinds g);
        }

    typed_hand_same : (g : ℕ) → typed_hand g (c s) ≡ typed_hand g (b s)
    typed_hand_same g = typed_hand-same g (b s) (c s) (ap (typed_to g) kept.typed) (locks_times (b s) (c s) kept.locks g)

    hand_same : (g : ℕ) → hand g (c s) ≡ hand g (b s)
    hand_same g =
        let p = hand_is g (c s) in
        let q = hand_is g (b s) in
        let t = ap (refs_to g) kept.refs in
        let l = typed_hand_same g in
        omega arith

    -- pages are counted with the credits of the vCPU
    pub quiet_counts : ((d : ℕ) → d < (sizes_of n).domains → m2 (Pages d) + times d (b s).credits ≡ m (Pages d) + times d (c s).credits) → CountsAgree (sizes_of n) m2 c
    quiet_counts pages =
        counts_law n s m m2 b c vcpu others
        (counted_steady n s m m2 b c vcpu others steady sound.counts
        (λ g. let e = hand_same g in rw (calm.refs g, calm.kinds g) (omega arith))
        (λ g. let e = typed_hand_same g in rw (calm.kinds g) (omega arith))
        (types_steady n s m m2 b c vcpu others steady sound.counts (λ e. rw kept.typed e)
        (λ e. EachTwo-each SameLock (λ e. HasType m2 e.frame (Some e.kind)) _ _ _ (λ x y r k. ap (λ f. (kind_at m2 f).kind) r.frame ∙ k ∙ sym r.kind) kept.locks e))
        (λ d l.
        let e = pages d l in
        let f : pages_of n m2 d ≡ pages_of n m d = sum_below-same _ _ _ (λ f k. ap (is_page_of d) (calm.refs f)) in
        omega arith))
        sound.counts

    pub quiet_alone : HeldAlone n m2 c
    quiet_alone =
        alone_law n s m m2 b c vcpu others
        (λ g. let e = works_times (b s) (c s) kept.works g in rw (calm.kinds g) (omega arith))
        (λ g. let e = locks_times (b s) (c s) kept.locks g in rw (calm.kinds g) (omega arith))
        (λ g. let e = claims_times (b s) (c s) kept.claimed g in let k = ap (endings_of g) kept.ending in rw (calm.refs g) (omega arith))
        sound.alone

    -- bits are set with the raised frames of the vCPU
    pub quiet_map : ((g : ℕ) → g < (sizes_of n).frames → bit (is_hinted m2 g) + times g (b s).raised ≡ bit (is_hinted m g) + times g (c s).raised) → FreeMap n m2 c
    quiet_map bits =
        map_law n s m m2 b c vcpu others
        (λ g l. let e = bits g l in rw (calm.refs g) (omega arith))
        sound.map

    pub quiet_works : (t : ℕ) → t < (sizes_of n).vcpus → EachOf (WorkAgrees (c t)) (c t).works
    quiet_works =
        works_law n s m m2 b c vcpu others
        (works_spared (like_works (b s).works (c s).works kept.works) (λ g k l. rw kept.refs l) sound.alone (sound.works s vcpu))
        sound.works
