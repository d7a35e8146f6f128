-- Acts that move nothing of which facts speak, but for the steps.
use Rattle.std.proofs.Common.{◌≡◌, ◌≢◌, ℕ, suc, ◌<◌, ◌≤◌, true, length, IsTrue, refl, sym, ap, subst, ◌∙◌, inl, arith}
use Rattle.xp_words.specs.KindWords.{kind_fields}
use Rattle.xp_words.specs.Machine.{Machine}
use Rattle.xp_words.specs.declared.place.Place.{Place}
use Rattle.xp_words.specs.declared.place.Place.TheVariants.{Refs, Kind, Cell}
use Rattle.xp_words.specs.Places.{sizes_of, flushed_of, run_of}
use Rattle.xp_board.specs.declared.holdings.Holdings.{Holdings}
use Rattle.xp_board.specs.Lists.{times, EachOf}
use Rattle.xp_board.specs.Readings.{domain_of}
use Rattle.xp_board.specs.Hands.{endings_of, claims_of}
use Rattle.xp_board.specs.After.{is_fixed}
use Rattle.xp_board.specs.Found.{WorkFound, LockFound, EndingFound, ClaimFound}
use Rattle.xp_board.specs.WellFormed.{IsWorkFormed, IsLockFormed, IsRaisedFormed, IsLookingFormed, WellFormed}
use Rattle.xp_board.specs.Sound.{Sound, WorkAgrees}
use Rattle.found_rule.proofs.Learning.{Act}
use Rattle.found_rule.proofs.Words.{Words}
use Rattle.found_rule.proofs.KnownFacts.{RefRight, TypedRight, LockRight}
use Rattle.found_rule.proofs.HandFacts.{ReachKept}
use Rattle.found_rule.proofs.MyHand.{HandRight, hand_old}
use Rattle.found_rule.proofs.Outcome.{Outcome, outcome_by}
use Rattle.found_rule.proofs.FormedLaw.{formed_by, works_formed, locks_formed, ending_formed_old, claimed_formed_old}
use Rattle.xp_board.proofs.HandLists.{EachOf-map}
use Rattle.xp_board.proofs.Works.{one_works, one_lock}

-- what an act of vCPU s did, as facts and the forms of holdings ask it
pub record Done (n : Machine) (s : ℕ) (m m2 : Place → ℕ) (b c : ℕ → Holdings) : Type 0 where
  pub found : Outcome n s m m2 b c
  pub formed : WellFormed n s (c s)

-- the parts of a hand of which facts speak
pub record SameHand (a u : Holdings) : Type 0 where
  pub refs : u.refs ≡ a.refs
  pub typed : u.typed ≡ a.typed
  pub works : u.works ≡ a.works
  pub locks : u.locks ≡ a.locks
  pub ending : u.ending ≡ a.ending
  pub claimed : u.claimed ≡ a.claimed
  pub cache : u.cache ≡ a.cache
  pub walk : u.walk ≡ a.walk
  pub cold : u.cold ≡ a.cold
  pub turn : u.turn ≡ a.turn
  pub acked : u.acked ≡ a.acked
  pub ran : u.ran ≡ a.ran

pub same_hand : (a : Holdings) → SameHand a a
same_hand a =
    record {
      refs = refl;
      typed = refl;
      works = refl;
      locks = refl;
      ending = refl;
      claimed = refl;
      cache = refl;
      walk = refl;
      cold = refl;
      turn = refl;
      acked = refl;
      ran = refl;
    }

module _ (n : Machine) (s : ℕ) (p : Place) (m m2 : Place → ℕ) (b c : ℕ → Holdings) (u : Holdings) (acted : Act n s p m m2 (b s) u (c s)) (l : s < (sizes_of n).vcpus) (sound : Sound n m b) where
  -- works and claims keep what is known of their first cells
  pub fix_kept : ((f i : ℕ) → m2 (Cell f i) ≡ m (Cell f i)) → EachOf (λ e. (i : ℕ) → p ≡ Cell e.frame i → i < e.fixed → IsTrue (is_fixed (m2 p))) (b s).works
  fix_kept cells =
      EachOf-map (WorkFound n m b (b s)) (λ e. (i : ℕ) → p ≡ Cell e.frame i → i < e.fixed → IsTrue (is_fixed (m2 p))) (b s).works
      (λ e old i at below. rw at (rw (cells e.frame i) (old.fixed i below))) (sound.found s l).works

  pub zero_kept : ((f i : ℕ) → m2 (Cell f i) ≡ m (Cell f i)) → EachOf (λ e. (i : ℕ) → p ≡ Cell e.frame i → i < e.scrubbed → m2 p ≡ 0) (b s).claimed
  zero_kept cells =
      EachOf-map (ClaimFound (sizes_of n) m (domain_of n s) (b s)) (λ e. (i : ℕ) → p ≡ Cell e.frame i → i < e.scrubbed → m2 p ≡ 0) (b s).claimed
      (λ e old i at below. rw at (cells e.frame i ∙ old.scrubbed i below)) (sound.found s l).claims

  pub marked : EachOf (λ e. (kind_fields e.word).unflushed ≡ true → e.recorded ≡ 0) (b s).works
  marked = EachOf-map (WorkAgrees (b s)) (λ e. (kind_fields e.word).unflushed ≡ true → e.recorded ≡ 0) (b s).works (λ e t. t.marked) (sound.works s l)

  -- ---- the forms of a hand that the act does not move
  pub works_form : u.works ≡ (b s).works → EachOf (IsWorkFormed n (c s)) (c s).works
  works_form e = works_formed n s p m m2 (b s) u (c s) acted e (λ f. one_works n m b sound.alone f s l) marked (sound.formed s l)

  pub locks_form : u.locks ≡ (b s).locks → EachOf (IsLockFormed n (c s)) (c s).locks
  locks_form e = locks_formed n s p m m2 (b s) u (c s) acted e (λ f. one_lock n m b sound.alone f s l) (sound.formed s l)

  -- all but what is given
  module _ (same : SameHand (b s) u) where
    pub formed_same : IsRaisedFormed u → EachOf (IsLookingFormed n s) u.looking → WellFormed n s (c s)
    formed_same raised looking =
        let f = sound.formed s l in
        formed_by n s p m m2 (b s) u (c s) acted
        (record {
          works = works_form same.works;
          locks = locks_form same.locks;
          ending = rw (same.ending) (ending_formed_old n s p m m2 (b s) u (c s) acted f);
          claimed = rw (same.claimed) (claimed_formed_old n s p m m2 (b s) u (c s) acted f);
          raised = raised;
          looking = looking;
          cache = record { few = rw (same.cache) f.cache.few; walk = λ y t. f.cache.walk y (sym same.walk ∙ t) };
          turn = let r = f.turn in let e = same.turn in omega arith;
          acked = let r = f.acked in let e = same.acked in omega arith;
          ran = let r = f.ran in let e = same.ran in omega arith;
        }) f

    module _ (words : Words n s m m2 b) (others : (t : ℕ) → t ≢ s → c t ≡ b t) (cells : (f i : ℕ) → m2 (Cell f i) ≡ m (Cell f i))
        (kinds : (f : ℕ) → m2 (Kind f) ≡ m (Kind f)) (refs : (f : ℕ) → m2 (Refs f) ≡ m (Refs f))
        (flushed : (v : ℕ) → m2 (flushed_of v) ≡ m (flushed_of v)) (run : (v : ℕ) → m2 (run_of v) ≡ m (run_of v)) where
      hand_same : ReachKept n m m2 b c → HandRight n s m m2 b c u
      hand_same reach =
          let h = hand_old n s p m m2 b c u acted l sound words reach (λ f k. kinds f) (λ f k. refs f) (fix_kept cells) (zero_kept cells) (flushed s) in
          record {
            refs = subst (λ xs. EachOf (RefRight (sizes_of n) m2 (c s).steps) xs) (sym same.refs) h.refs;
            typed = subst (λ xs. EachOf (TypedRight (sizes_of n) m2 (c s).steps) xs) (sym same.typed) h.typed;
            lock_right = subst (λ xs. EachOf (LockRight (sizes_of n) m2 (c s).steps) xs) (sym same.locks) h.lock_right;
            works = subst (λ xs. EachOf (WorkFound n m2 c (c s)) xs) (sym same.works) h.works;
            locks = subst (λ xs. EachOf (LockFound (sizes_of n) m2 (c s)) xs) (sym same.locks) h.locks;
            endings = subst (λ xs. EachOf (EndingFound m2) xs) (sym same.ending) h.endings;
            claims = subst (λ xs. EachOf (ClaimFound (sizes_of n) m2 (domain_of n s) (c s)) xs) (sym same.claimed) h.claims;
            acked = inl (flushed s, same.acked);
          }

      pub found_same : Outcome n s m m2 b c
      found_same = outcome_by n s p m m2 b c u acted others same.cache same.walk same.cold same.ran cells flushed run words hand_same

      pub done_same : u.raised ≡ (b s).raised → u.looking ≡ (b s).looking → Done n s m m2 b c
      done_same raised looking =
          let f = sound.formed s l in
          record {
            found = found_same;
            formed = formed_same
                (record { held = λ g. let r = f.raised.held g in let x = ap (λ y. times g y) raised in let y = ap (λ z. endings_of g z) same.ending in let q = ap (λ z. claims_of g z) same.claimed in omega arith })
                (rw looking f.looking);
          }

  -- ---- forms of a hand, where the act writes no cell
  module _ (turn : u.turn ≡ (b s).turn) (acked_same : u.acked ≡ (b s).acked) (ran : u.ran ≡ (b s).ran) (cache : u.cache ≡ (b s).cache) (walk : u.walk ≡ (b s).walk)
      (ending : EachOf (λ e. e.since ≤ suc (length (b s).steps)) u.ending) (claimed : EachOf (λ e. e.since ≤ suc (length (b s).steps)) u.claimed)
      (raised : IsRaisedFormed u) (looking : EachOf (IsLookingFormed n s) u.looking) where
    pub formed_with : EachOf (IsWorkFormed n (c s)) (c s).works → EachOf (IsLockFormed n (c s)) (c s).locks → WellFormed n s (c s)
    formed_with works locks =
        let f = sound.formed s l in
        formed_by n s p m m2 (b s) u (c s) acted
        (record {
          works = works;
          locks = locks;
          ending = ending;
          claimed = claimed;
          raised = raised;
          looking = looking;
          cache = record { few = rw cache f.cache.few; walk = λ y t. f.cache.walk y (sym walk ∙ t) };
          turn = let r = f.turn in let e = turn in omega arith;
          acked = let r = f.acked in let e = acked_same in omega arith;
          ran = let r = f.ran in let e = ran in omega arith;
        }) f
