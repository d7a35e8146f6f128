-- All that vCPUs have found stays true at an act of vCPU s that leaves words so, and of whose own hand what it has is known.
use Rattle.std.proofs.Common.{◌≡◌, ◌≢◌, ℕ, ◌<◌, ◌≤◌, length, Option, Some, sym, ap, subst, ◌∙◌, ◌⊎◌, inl, inr, arith}
use Rattle.std.proofs.lemmas.Bool.{cases_eq}
use Rattle.xp_words.specs.Machine.{Machine}
use Rattle.xp_words.specs.declared.place.Place.{Place}
use Rattle.xp_words.specs.declared.place.Place.TheVariants.{Clock, Vcpu, Cell}
use Rattle.xp_words.specs.Places.{sizes_of, flushed_of, run_of}
use Rattle.xp_board.specs.declared.holdings.TypedReference.{TypedReference}
use Rattle.xp_board.specs.declared.holdings.Lock.{Lock}
use Rattle.xp_board.specs.declared.holdings.Holdings.{Holdings}
use Rattle.xp_board.specs.Lists.{EachOf}
use Rattle.xp_board.specs.Readings.{kind_at, domain_of, clock_value, type_count}
use Rattle.xp_board.specs.Found.{ClockFound, ClockSinceAck, FlushedSinceOff, ColdSinceOff, WorkFound, LockFound, EndingFound, ClaimFound, OwnFound, Found}
use Rattle.xp_board.specs.Sound.{Sound, WorkAgrees}
use Rattle.found_rule.proofs.Growth.{Grown, stayed, added}
use Rattle.found_rule.proofs.Learning.{WordLearned, word_off, word_at, Act, acted_here, acted_off}
use Rattle.found_rule.proofs.Words.{Moves, Spares, Words}
use Rattle.found_rule.proofs.WordFacts.{clock_law, flushed_law, stopped_law, life_law, privileges_law, since_ack_law, since_off_law, cold_off_law}
use Rattle.found_rule.proofs.KnownFacts.{RefRight, TypedRight, LockRight, KnownRight, known_each, owners_by, lives_by, partials_by}
use Rattle.found_rule.proofs.KnownStays.{owner_right, live_right, live_kept, partial_right}
use Rattle.found_rule.proofs.HandFacts.{ReachKept, their_work, their_lock, their_claim}
use Rattle.found_rule.proofs.SoundWords.{clock_within, had, work_counted, typed_ref_counted, lock_counted, ref_counted}
use Rattle.xp_board.specs.Steps.{last_since}
use Rattle.xp_board.proofs.PlaceTests.{same_or_other}
use Rattle.xp_board.proofs.ListCounts.{EachOf-both, EachOf-there}
use Rattle.xp_board.proofs.Counted.{type_below}
use Rattle.xp_board.proofs.Works.{is_busy-mine}
use Rattle.xp_board.proofs.MoreSteps.{EachSince-none}

-- of vCPUs that were found off
pub record Offs (n : Machine) (m m2 : Place → ℕ) (b c : ℕ → Holdings) : Type 0 where
  pub off : (v : ℕ) → v < (sizes_of n).vcpus → (u : Holdings) → ClockFound (sizes_of n) m u → FlushedSinceOff (sizes_of n) m b v u → ColdSinceOff (sizes_of n) m b v u →
      FlushedSinceOff (sizes_of n) m2 c v u
  pub cold : (v : ℕ) → v < (sizes_of n).vcpus → (u : Holdings) → ClockFound (sizes_of n) m u → ColdSinceOff (sizes_of n) m b v u → ColdSinceOff (sizes_of n) m2 c v u

-- of the hand of the vCPU that acts
pub record Mine (n : Machine) (s : ℕ) (p : Place) (m m2 : Place → ℕ) (b c : ℕ → Holdings) (u : Holdings) : Type 0 where
  pub act : Act n s p m m2 (b s) u (c s)
  pub known : KnownRight (sizes_of n) m2 (c s)
  pub works : EachOf (WorkFound n m2 c (c s)) (c s).works
  pub locks : EachOf (LockFound (sizes_of n) m2 (c s)) (c s).locks
  pub endings : EachOf (EndingFound m2) (c s).ending
  pub claims : EachOf (ClaimFound (sizes_of n) m2 (domain_of n s) (c s)) (c s).claimed
  pub acked : ((m2 (flushed_of s) ≡ m (flushed_of s)) × ((c s).acked ≡ (b s).acked)) ⊎ (length (c s).steps ≤ (c s).acked)

-- ---- references
module _ (n : Machine) (m m2 : Place → ℕ) (b : ℕ → Holdings) (sound : Sound n m b) (k : Moves n m m2) (t : ℕ) (l : t < (sizes_of n).vcpus) (w : Holdings)
    (g : Grown (sizes_of n) m m2 (b t).steps w.steps) where
  right : KnownRight (sizes_of n) m (b t)
  right = let f = sound.found t l in known_each (sizes_of n) m (b t) f.owners f.lives f.partials

  pub refs_kept : EachOf (RefRight (sizes_of n) m2 w.steps) (b t).refs
  refs_kept =
      EachOf-there (RefRight (sizes_of n) m (b t).steps) (RefRight (sizes_of n) m2 w.steps) (λ e. e.frame) (b t).refs
      (λ e there c. owner_right (sizes_of n) m m2 (b t).steps w.steps g e.frame (k.owner e.frame (ref_counted n m b sound t e.frame l there)) e.owner c) right.refs

  typed_kept_one : (e : TypedReference) → 0 < type_count (kind_at m e.frame) → TypedRight (sizes_of n) m (b t).steps e → TypedRight (sizes_of n) m2 w.steps e
  typed_kept_one e some c =
      let z = sizes_of n in
      let kind = k.kind e.frame some in
      let owner = k.owner e.frame (let q = type_below (sizes_of n) m b e.frame sound.counts in omega arith) in
      record {
        owner = owner_right z m m2 (b t).steps w.steps g e.frame owner e.owner c.owner;
        live = live_right z m m2 (b t).steps w.steps g e.frame (k.live e.frame some) kind e.kind e.live c.live;
        partial = partial_right z m m2 (b t).steps w.steps g e.frame kind e.live c.partial;
      }

  pub typed_kept : EachOf (TypedRight (sizes_of n) m2 w.steps) (b t).typed
  typed_kept =
      EachOf-there (TypedRight (sizes_of n) m (b t).steps) (TypedRight (sizes_of n) m2 w.steps) (λ e. e.frame) (b t).typed
      (λ e there c. typed_kept_one e (typed_ref_counted n m b sound t e.frame l there) c) right.typed

  lock_kept_one : (e : Lock) → 0 < type_count (kind_at m e.frame) → LockRight (sizes_of n) m (b t).steps e → LockRight (sizes_of n) m2 w.steps e
  lock_kept_one e some c =
      let z = sizes_of n in
      let owner = k.owner e.frame (let q = type_below (sizes_of n) m b e.frame sound.counts in omega arith) in
      record {
        owner = owner_right z m m2 (b t).steps w.steps g e.frame owner e.owner c.owner;
        live = λ y h. live_kept z m m2 (b t).steps w.steps g e.frame (k.live e.frame some) (k.kind e.frame some) y (c.live y h);
      }

  pub locks_kept : EachOf (LockRight (sizes_of n) m2 w.steps) (b t).locks
  locks_kept =
      EachOf-there (LockRight (sizes_of n) m (b t).steps) (LockRight (sizes_of n) m2 w.steps) (λ e. e.frame) (b t).locks
      (λ e there c. lock_kept_one e (lock_counted n m b sound t e.frame l there) c) right.locks

-- ---- all facts
module _ (n : Machine) (s : ℕ) (p : Place) (m m2 : Place → ℕ) (b c : ℕ → Holdings) (u : Holdings) (l : s < (sizes_of n).vcpus) (sound : Sound n m b)
    (words : Words n s m m2 b) (reach : ReachKept n m m2 b c) (offs : Offs n m m2 b c) (others : (t : ℕ) → t ≢ s → c t ≡ b t) where
  clock_was : (q : Place) → clock_value q (m q) ≤ m Clock
  clock_was q = clock_within n m sound.stamped q

  -- of another vCPU
  module _ (t : ℕ) (k : t < (sizes_of n).vcpus) (d : t ≢ s) (same : c t ≡ b t) where
    steps : (c t).steps ≡ (b t).steps
    steps = ap (λ y. y.steps) same

    grown : Grown (sizes_of n) m m2 (b t).steps (c t).steps
    unfolding steps
    grown = stayed steps

    spared : Spares m m2 t (b t)
    spared = words.spares t k d

    known : KnownRight (sizes_of n) m2 (c t)
    unfolding grown steps
    known =
        record {
          refs = subst (λ xs. EachOf (RefRight (sizes_of n) m2 (c t).steps) xs) (sym (ap (λ y. y.refs) same)) (refs_kept n m m2 b sound words.moves t k (c t) grown);
          typed = subst (λ xs. EachOf (TypedRight (sizes_of n) m2 (c t).steps) xs) (sym (ap (λ y. y.typed) same)) (typed_kept n m m2 b sound words.moves t k (c t) grown);
          locks = subst (λ xs. EachOf (LockRight (sizes_of n) m2 (c t).steps) xs) (sym (ap (λ y. y.locks) same)) (locks_kept n m m2 b sound words.moves t k (c t) grown);
        }

    works : EachOf (WorkFound n m2 c (c t)) (b t).works
    unfolding grown steps spared
    works =
        EachOf-there (λ e. WorkFound n m b (b t) e × (WorkAgrees (b t) e × ((i : ℕ) → i < e.fixed → m2 (Cell e.frame i) ≡ m (Cell e.frame i)))) (WorkFound n m2 c (c t)) (λ e. e.frame) (b t).works
        (λ e there old.
        their_work n m m2 b c sound.fresh.each reach words.moves.ever (b t) (c t) grown steps e (is_busy-mine n m b sound.alone e.frame t k there)
        (words.moves.owner e.frame (work_counted n m b sound t k e there old.0 (old.1).0)) (spared.works e.frame there)
        (λ inside i. spared.work_cells e.frame i there inside) (old.1).1 old.0)
        (EachOf-both (WorkFound n m b (b t)) (λ e. WorkAgrees (b t) e × ((i : ℕ) → i < e.fixed → m2 (Cell e.frame i) ≡ m (Cell e.frame i))) (b t).works (sound.found t k).works
        (EachOf-both (WorkAgrees (b t)) (λ e. (i : ℕ) → i < e.fixed → m2 (Cell e.frame i) ≡ m (Cell e.frame i)) (b t).works (sound.works t k) spared.fixed_cells))

    locks : EachOf (LockFound (sizes_of n) m2 (c t)) (b t).locks
    unfolding steps spared
    locks =
        EachOf-there (LockFound (sizes_of n) m (b t)) (LockFound (sizes_of n) m2 (c t)) (λ e. e.frame) (b t).locks
        (λ e there old. their_lock (sizes_of n) m m2 (b t) (c t) steps e (λ i. spared.lock_cells e.frame i there) old) (sound.found t k).locks

    endings : EachOf (EndingFound m2) (b t).ending
    unfolding spared
    endings =
        EachOf-there (EndingFound m) (EndingFound m2) (λ e. e.frame) (b t).ending (λ e there old. spared.ending e.frame there ∙ old) (sound.found t k).endings

    claims : EachOf (ClaimFound (sizes_of n) m2 (domain_of n t) (c t)) (b t).claimed
    unfolding steps spared
    claims =
        EachOf-there (ClaimFound (sizes_of n) m (domain_of n t) (b t)) (ClaimFound (sizes_of n) m2 (domain_of n t) (c t)) (λ e. e.frame) (b t).claimed
        (λ e there old. their_claim (sizes_of n) m m2 (b t) (c t) steps (domain_of n t) words.moves.clock e (spared.claimed e.frame there) (λ i. spared.claim_cells e.frame i there) old)
        (sound.found t k).claims

    own : OwnFound (sizes_of n) m2 t (c t)
    unfolding spared
    own =
        let f = (sound.found t k).own in
        let r = spared.run in
        record {
          run = λ y q. r ∙ f.run y (sym (ap (λ v. v.run) same) ∙ q);
          words = λ k y a e o q. spared.own k a e o ∙ f.words k y a e (λ z. o (r ∙ z)) (ap (last_since (sizes_of n) 0 (Vcpu t k)) (sym steps) ∙ q);
        }

    pub their_found : Found n m2 c t
    unfolding grown steps known works locks endings claims own spared
    their_found =
        let f = sound.found t k in
        let j = words.moves in
        let a = b t in
        record {
          clock = (clock_law n m m2 j clock_was a (c t) grown f.clock);
          flushed = (flushed_law n m m2 j clock_was a (c t) grown f.flushed);
          stopped = (stopped_law n m m2 j clock_was a (c t) grown f.stopped);
          life = (life_law n m m2 j clock_was a (c t) grown f.life);
          since_ack = (since_ack_law n m m2 j clock_was a (c t) grown t (sound.stamped.flushed t) spared.flushed (ap (λ y. y.acked) same) f.since_ack);
          since_off = λ v r. (since_off_law n m m2 j clock_was a (c t) grown b c v (λ o. offs.off v r a f.clock o (f.cold_off v r)) (f.since_off v r));
          cold_off = λ v r. (cold_off_law n m m2 j clock_was a (c t) grown b c v (λ o. offs.cold v r a f.clock o) (f.cold_off v r));
          owners = (owners_by (sizes_of n) m2 (c t) known);
          lives = (lives_by (sizes_of n) m2 (c t) known);
          partials = (partials_by (sizes_of n) m2 (c t) known);
          works = (subst (λ xs. EachOf (WorkFound n m2 c (c t)) xs) (sym (ap (λ y. y.works) same)) works);
          locks = (subst (λ xs. EachOf (LockFound (sizes_of n) m2 (c t)) xs) (sym (ap (λ y. y.locks) same)) locks);
          endings = (subst (λ xs. EachOf (EndingFound m2) xs) (sym (ap (λ y. y.ending) same)) endings);
          claims = (subst (λ xs. EachOf (ClaimFound (sizes_of n) m2 (domain_of n t) (c t)) xs) (sym (ap (λ y. y.claimed) same)) claims);
          privileges = (privileges_law n m m2 j clock_was a (c t) grown (had n m b sound) f.privileges);
          own = own;
        }

  -- of the vCPU that acts
  module _ (mine : Mine n s p m m2 b c u) where
    acted : Act n s p m m2 (b s) u (c s)
    acted = mine.act

    more : Grown (sizes_of n) m m2 (b s).steps (c s).steps
    unfolding acted
    more = added acted.made p acted.added acted.steps

    own_word : (q : Place) (x y z : Option ℕ) (w : ℕ) → y ≡ x → WordLearned p q (m2 p) y z → (x ≡ Some w → m q ≡ w) → z ≡ Some w → m2 q ≡ w
    unfolding acted
    own_word q x y z w e (word_off off o) f r = acted.others q (λ k. off (sym k)) ∙ f (sym e ∙ sym o ∙ r)
    own_word q x y z w e (word_at at o) f r = (let k : Some (m2 p) ≡ Some w = sym o ∙ r in let v : m2 p ≡ w = cc in rw (← at) v)

    -- a word that is what was last found or left there, before the act
    left_there : (q : Place) (w : ℕ) → (last_since (sizes_of n) 0 q (b s).steps ≡ Some w → m q ≡ w) → last_since (sizes_of n) 0 q (c s).steps ≡ Some w → (q ≡ p) ⊎ (q ≢ p) → m2 q ≡ w
    unfolding acted
    left_there q w f r (inl at) =
        let here = acted_here n s p m m2 (b s) u (c s) acted 0 (omega arith) in
        let k : Some (m2 p) ≡ Some w = sym here ∙ ap (λ v. last_since (sizes_of n) 0 v (c s).steps) (sym at) ∙ r in
        let v : m2 p ≡ w = cc in
        ap m2 at ∙ v
    left_there q w f r (inr off) = acted.others q off ∙ f (sym (acted_off n s p m m2 (b s) u (c s) acted 0 q (omega arith) (λ e. off (sym e))) ∙ r)

    my_acks : ((m2 (flushed_of s) ≡ m (flushed_of s)) × ((c s).acked ≡ (b s).acked)) ⊎ (length (c s).steps ≤ (c s).acked) → ClockSinceAck (sizes_of n) m2 s (c s)
    unfolding more acted
    my_acks (inl same) = since_ack_law n m m2 words.moves clock_was (b s) (c s) more s (sound.stamped.flushed s) same.0 same.1 (sound.found s l).since_ack
    my_acks (inr now) = EachSince-none (sizes_of n) (c s).acked Clock (λ w. m2 (flushed_of s) ≤ w) (c s).steps now

    pub my_found : Found n m2 c s
    unfolding more acted
    my_found =
        let f = sound.found s l in
        let j = words.moves in
        let a = b s in
        record {
          clock = clock_law n m m2 j clock_was a (c s) more f.clock;
          flushed = flushed_law n m m2 j clock_was a (c s) more f.flushed;
          stopped = stopped_law n m m2 j clock_was a (c s) more f.stopped;
          life = life_law n m m2 j clock_was a (c s) more f.life;
          since_ack = my_acks mine.acked;
          since_off = λ v r. since_off_law n m m2 j clock_was a (c s) more b c v (λ o. offs.off v r a f.clock o (f.cold_off v r)) (f.since_off v r);
          cold_off = λ v r. cold_off_law n m m2 j clock_was a (c s) more b c v (λ o. offs.cold v r a f.clock o) (f.cold_off v r);
          owners = owners_by (sizes_of n) m2 (c s) mine.known;
          lives = lives_by (sizes_of n) m2 (c s) mine.known;
          partials = partials_by (sizes_of n) m2 (c s) mine.known;
          works = mine.works;
          locks = mine.locks;
          endings = mine.endings;
          claims = mine.claims;
          privileges = privileges_law n m m2 j clock_was a (c s) more (had n m b sound) f.privileges;
          own = record {
            run = λ y q. own_word (run_of s) a.run u.run (c s).run y acted.run acted.learned.run (λ o. f.own.run y o) q;
            words = λ k y o e r q. left_there (Vcpu s k) y (λ t. f.own.words k y o e (λ h. r (words.moves.stopped s h)) t) q (same_or_other (Vcpu s k) p);
          };
        }

    pub all_found : (t : ℕ) → t < (sizes_of n).vcpus → Found n m2 c t
    all_found t k = elim (cases_eq t s) [ inl at ↦ rw at my_found | inr off ↦ their_found t k off (others t off) ]
