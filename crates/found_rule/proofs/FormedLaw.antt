-- The holdings of the vCPU that acts stay well formed: from those that the act leaves, before it learns of the word.
use Rattle.std.proofs.Common.{◌≡◌, ◌≢◌, ℕ, suc, ◌≤◌, true, length, Option, Some, refl, sym, ap, subst, ◌∙◌, arith}
use Rattle.xp_words.specs.KindWords.{kind_fields}
use Rattle.xp_words.specs.Machine.{Machine}
use Rattle.xp_words.specs.declared.place.Place.{Place}
use Rattle.xp_words.specs.declared.place.Place.TheVariants.{Cell}
use Rattle.xp_words.specs.Places.{sizes_of, run_of, old0_of, old1_of}
use Rattle.xp_board.specs.declared.holdings.Holdings.{Holdings}
use Rattle.xp_board.specs.Lists.{times, EachOf}
use Rattle.xp_board.specs.Steps.{last_since}
use Rattle.xp_board.specs.Hands.{works_on, locks_on, endings_of, claims_of, changed_work, changed_lock}
use Rattle.xp_board.specs.After.{learned_work, learned_lock, learned_claim}
use Rattle.xp_board.specs.WellFormed.{IsWorkFormed, IsLockFormed, IsRaisedFormed, IsLookingFormed, IsCacheFormed, WellFormed}
use Rattle.found_rule.proofs.Growth.{Grown, added, grown_longer, grown_once, grown_places}
use Rattle.found_rule.proofs.Learning.{CellsLearned, cells_off, cells_at, WordLearned, word_off, word_at, looking_each, Act, acted_here, acted_off}
use Rattle.found_rule.proofs.FormedWorks.{FormedWork, work_stays, work_learned, lock_stays, lock_learned}
use Rattle.xp_board.proofs.HandLists.{EachOf-map, times-changed}
use Rattle.xp_board.proofs.ListCounts.{EachOf-both}
use Rattle.xp_board.proofs.ListChanges.{EachOf-changes, EachOf-changed_one}

-- the hand that the act leaves
pub record FormedHand (n : Machine) (s : ℕ) (b u w : Holdings) : Type 0 where
  pub works : EachOf (IsWorkFormed n w) w.works
  pub locks : EachOf (IsLockFormed n w) w.locks
  pub ending : EachOf (λ e. e.since ≤ suc (length b.steps)) u.ending
  pub claimed : EachOf (λ e. e.since ≤ suc (length b.steps)) u.claimed
  pub raised : IsRaisedFormed u
  pub looking : EachOf (IsLookingFormed n s) u.looking
  pub cache : IsCacheFormed u
  pub turn : u.turn ≤ suc (length b.steps)
  pub acked : u.acked ≤ suc (length b.steps)
  pub ran : u.ran ≤ suc (length b.steps)

module _ (n : Machine) (s : ℕ) (p : Place) (m m2 : Place → ℕ) (b u w : Holdings) (acted : Act n s p m m2 b u w) where
  more : Grown (sizes_of n) m m2 b.steps w.steps
  more = added acted.made p acted.added acted.steps

  longer : length b.steps ≤ length w.steps
  unfolding more
  longer = grown_longer (sizes_of n) m m2 b.steps w.steps more

  long : length w.steps ≡ suc (length b.steps)
  long = ap length acted.steps

  -- ---- works and locks
  work_off : ((f i : ℕ) → p ≢ Cell f i) → EachOf (IsWorkFormed n b) b.works → EachOf (IsWorkFormed n w) b.works
  unfolding longer more
  work_off o h =
      EachOf-map (IsWorkFormed n b) (IsWorkFormed n w) b.works
      (λ e t. work_stays n b w longer (grown_once (sizes_of n) m m2 b.steps w.steps more) e (λ i. acted_off n s p m m2 b u w acted e.unmarked (Cell e.frame i) t.past (o e.frame i)) t) h

  -- where the act wrote no cell
  pub works_formed_old : ((f i : ℕ) → p ≢ Cell f i) → WellFormed n s b → EachOf (IsWorkFormed n w) b.works
  works_formed_old o c = work_off o c.works

  pub locks_formed_old : ((f i : ℕ) → p ≢ Cell f i) → WellFormed n s b → EachOf (IsLockFormed n w) b.locks
  unfolding longer more
  locks_formed_old o c =
      EachOf-map (IsLockFormed n b) (IsLockFormed n w) b.locks
      (λ e t. lock_stays n b w longer (grown_once (sizes_of n) m m2 b.steps w.steps more) e (λ i. acted_off n s p m m2 b u w acted e.since (Cell e.frame i) t.past (o e.frame i)) t) c.locks

  works_by : CellsLearned p (m2 p) u w → u.works ≡ b.works → ((f : ℕ) → works_on f b.works ≤ 1) → EachOf (FormedWork n b) b.works → EachOf (IsWorkFormed n w) w.works
  unfolding longer more
  works_by (cells_off o k l d) same one h =
      subst (λ x. EachOf (IsWorkFormed n w) x) (sym (k ∙ same)) (work_off o (EachOf-map (FormedWork n b) (IsWorkFormed n b) b.works (λ e t. t.formed) h))
  works_by (cells_at f i at k l d) same one h =
      subst (λ x. EachOf (IsWorkFormed n w) x) (sym (k ∙ ap (λ xs. changed_work f (learned_work i (m2 p)) xs) same))
      (EachOf-changed_one (FormedWork n b) (IsWorkFormed n w) (λ e. e.frame) f (learned_work i (m2 p)) b.works (one f)
      (λ e is t.
      work_learned n b w longer (grown_once (sizes_of n) m m2 b.steps w.steps more) i (m2 p) e
      (subst (λ q. last_since (sizes_of n) e.unmarked q w.steps ≡ Some (m2 p)) (at ∙ ap (λ g. Cell g i) (sym is)) (acted_here n s p m m2 b u w acted e.unmarked t.formed.past))
      (λ j r. acted_off n s p m m2 b u w acted e.unmarked (Cell e.frame j) t.formed.past (λ q. let y : Cell f i ≡ Cell e.frame j = sym at ∙ q in r (cc))) t)
      (λ e r t.
      work_stays n b w longer (grown_once (sizes_of n) m m2 b.steps w.steps more) e
      (λ j. acted_off n s p m m2 b u w acted e.unmarked (Cell e.frame j) t.formed.past (λ q. let y : Cell f i ≡ Cell e.frame j = sym at ∙ q in r (cc))) t.formed)
      h)

  locks_by : CellsLearned p (m2 p) u w → u.locks ≡ b.locks → ((f : ℕ) → locks_on f b.locks ≤ 1) → EachOf (IsLockFormed n b) b.locks → EachOf (IsLockFormed n w) w.locks
  unfolding longer more
  locks_by (cells_off o k l d) same one h =
      subst (λ x. EachOf (IsLockFormed n w) x) (sym (l ∙ same))
      (EachOf-map (IsLockFormed n b) (IsLockFormed n w) b.locks
      (λ e t. lock_stays n b w longer (grown_once (sizes_of n) m m2 b.steps w.steps more) e (λ i. acted_off n s p m m2 b u w acted e.since (Cell e.frame i) t.past (o e.frame i)) t) h)
  locks_by (cells_at f i at k l d) same one h =
      subst (λ x. EachOf (IsLockFormed n w) x) (sym (l ∙ ap (λ xs. changed_lock f (learned_lock i (m2 p)) xs) same))
      (EachOf-changed_one (IsLockFormed n b) (IsLockFormed n w) (λ e. e.frame) f (learned_lock i (m2 p)) b.locks (one f)
      (λ e is t.
      lock_learned n b w longer (grown_once (sizes_of n) m m2 b.steps w.steps more) i (m2 p) e
      (subst (λ q. last_since (sizes_of n) e.since q w.steps ≡ Some (m2 p)) (at ∙ ap (λ g. Cell g i) (sym is)) (acted_here n s p m m2 b u w acted e.since t.past)) t)
      (λ e r t.
      lock_stays n b w longer (grown_once (sizes_of n) m m2 b.steps w.steps more) e
      (λ j. acted_off n s p m m2 b u w acted e.since (Cell e.frame j) t.past (λ q. let y : Cell f i ≡ Cell e.frame j = sym at ∙ q in r (cc))) t)
      h)

  -- where the act moved none
  pub works_formed : u.works ≡ b.works → ((f : ℕ) → works_on f b.works ≤ 1) → EachOf (λ e. (kind_fields e.word).unflushed ≡ true → e.recorded ≡ 0) b.works → WellFormed n s b →
      EachOf (IsWorkFormed n w) w.works
  works_formed same one marked c =
      works_by acted.learned.cells same one
      (EachOf-map (λ e. IsWorkFormed n b e × ((kind_fields e.word).unflushed ≡ true → e.recorded ≡ 0)) (FormedWork n b) b.works (λ e t. record { formed = t.0; marked = t.1 })
      (EachOf-both (IsWorkFormed n b) (λ e. (kind_fields e.word).unflushed ≡ true → e.recorded ≡ 0) b.works c.works marked))

  pub locks_formed : u.locks ≡ b.locks → ((f : ℕ) → locks_on f b.locks ≤ 1) → WellFormed n s b → EachOf (IsLockFormed n w) w.locks
  locks_formed same one c = locks_by acted.learned.cells same one c.locks

  -- ---- the others
  pub ending_formed_old : WellFormed n s b → EachOf (λ e. e.since ≤ suc (length b.steps)) b.ending
  ending_formed_old c = EachOf-map (λ e. e.since ≤ length b.steps) (λ e. e.since ≤ suc (length b.steps)) b.ending (λ e t. omega arith) c.ending

  pub claimed_formed_old : WellFormed n s b → EachOf (λ e. e.since ≤ suc (length b.steps)) b.claimed
  claimed_formed_old c = EachOf-map (λ e. e.since ≤ length b.steps) (λ e. e.since ≤ suc (length b.steps)) b.claimed (λ e t. omega arith) c.claimed

  claims_by : CellsLearned p (m2 p) u w → EachOf (λ e. e.since ≤ suc (length b.steps)) u.claimed → EachOf (λ e. e.since ≤ length w.steps) w.claimed
  claims_by (cells_off o k l d) h = rw (d, long) h
  claims_by (cells_at f i at k l d) h =
      rw (d, long)
      (EachOf-changes (λ e. e.since ≤ suc (length b.steps)) (λ e. e.since ≤ suc (length b.steps)) (λ e. e.frame) f (learned_claim i (m2 p)) u.claimed (λ e is t. t) (λ e t. t) h)

  claims_same : CellsLearned p (m2 p) u w → (g : ℕ) → claims_of g w.claimed ≡ claims_of g u.claimed
  claims_same (cells_off o k l d) g = ap (λ x. claims_of g x) d
  claims_same (cells_at f i at k l d) g = ap (λ x. claims_of g x) d ∙ times-changed (λ e. e.frame) g f (learned_claim i (m2 p)) u.claimed (λ e. refl)

  own_by : (q : Place) (x y z : Option ℕ) → y ≡ x → WordLearned p q (m2 p) y z → x ≡ last_since (sizes_of n) 0 q b.steps → z ≡ last_since (sizes_of n) 0 q w.steps
  own_by q x y z e (word_off o k) h = k ∙ e ∙ h ∙ sym (acted_off n s p m m2 b u w acted 0 q (omega arith) o)
  own_by q x y z e (word_at o k) h = k ∙ sym (acted_here n s p m m2 b u w acted 0 (omega arith)) ∙ ap (λ v. last_since (sizes_of n) 0 v w.steps) o

  pub formed_by : FormedHand n s b u w → WellFormed n s b → WellFormed n s w
  unfolding more
  formed_by h c =
      let k = acted.learned in
      record {
        works = h.works;
        locks = h.locks;
        ending = rw (k.ending, long) h.ending;
        claimed = claims_by k.cells h.claimed;
        raised = record {
          held = λ g.
              let r = h.raised.held g in
              let x = ap (λ l. times g l) k.raised in
              let y = ap (λ l. endings_of g l) k.ending in
              let z = claims_same k.cells g in
              omega arith;
        };
        looking = looking_each u.looking w.looking (IsLookingFormed n s) k.looking h.looking;
        cache = record { few = rw (k.cache) h.cache.few; walk = λ y t. h.cache.walk y (sym k.walk ∙ t) };
        own = record {
          run = own_by (run_of s) b.run u.run w.run acted.run k.run c.own.run;
          old0 = own_by (old0_of s) b.old0 u.old0 w.old0 acted.old0 k.old0 c.own.old0;
          old1 = own_by (old1_of s) b.old1 u.old1 w.old1 acted.old1 k.old1 c.own.old1;
        };
        places = grown_places (sizes_of n) m m2 b.steps w.steps more c.places;
        turn = let r = h.turn in let e = k.turn in let o = long in omega arith;
        acked = let r = h.acked in let e = k.acked in let o = long in omega arith;
        ran = let r = h.ran in let e = k.ran in let o = long in omega arith;
      }
