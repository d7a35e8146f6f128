-- What a hand keeps as it learns a word.
use Rattle.std.proofs.Common.{◌≡◌, ℕ, ◌==◌, Bool, List, [], refl, sym, ◌∙◌}
use Rattle.xp_words.specs.KindWords.{kind_fields}
use Rattle.xp_words.specs.declared.place.Place.{Place}
use Rattle.xp_board.specs.declared.holdings.Holdings.{Holdings}
use Rattle.xp_board.specs.declared.holdings.Work.{Work}
use Rattle.xp_board.specs.declared.holdings.Lock.{Lock}
use Rattle.xp_board.specs.declared.holdings.Claimed.{Claimed}
use Rattle.xp_board.specs.declared.step.Step.{Step}
use Rattle.xp_board.specs.Lists.{kept_of}
use Rattle.xp_board.specs.Hands.{IsEmptyHand}
use Rattle.xp_board.specs.After.{noted, learned, learned_cell, learned_work, learned_lock, learned_claim, learned_life, learned_own}
use Rattle.count_rule.proofs.Twins.{EachTwo, EachTwo-same, EachTwo-changed, EachTwo-none, SameWork, SameLock, SameClaim}
use Rattle.xp_board.proofs.HandParts.{References, Beside, references_own, beside_own, translations_own, learned_by}
use Rattle.xp_board.proofs.Sums.{either}

same_work : (e : Work) → SameWork e e
same_work e = record { frame = refl; word = refl; recorded = refl }

same_lock : (e : Lock) → SameLock e e
same_lock e = record { frame = refl; kind = refl }

same_claim : (e : Claimed) → SameClaim e e
same_claim e = record { frame = refl }

learned_work_same : (i w : ℕ) (e : Work) → SameWork e (learned_work i w e)
learned_work_same i w e = either (SameWork e) (kind_fields e.word).unflushed _ _ (same_work e) (record { frame = refl; word = refl; recorded = refl })

-- the lists of the hand stay
pub record Same (b c : Holdings) : Type 0 where
  pub refs : c.refs ≡ b.refs
  pub typed : c.typed ≡ b.typed
  pub works : c.works ≡ b.works
  pub locks : c.locks ≡ b.locks
  pub ending : c.ending ≡ b.ending
  pub claimed : c.claimed ≡ b.claimed
  pub raised : c.raised ≡ b.raised
  pub credits : c.credits ≡ b.credits

-- the lists of frames stay, but for what is noted in works, locks and claims
pub record Stays (b c : Holdings) : Type 0 where
  pub refs : c.refs ≡ b.refs
  pub typed : c.typed ≡ b.typed
  pub works : EachTwo SameWork b.works c.works
  pub locks : EachTwo SameLock b.locks c.locks
  pub ending : c.ending ≡ b.ending
  pub claimed : EachTwo SameClaim b.claimed c.claimed

-- the same, but for what is noted in works, locks and claims
pub record Kept (b c : Holdings) : Type 0 where
  pub refs : c.refs ≡ b.refs
  pub typed : c.typed ≡ b.typed
  pub works : EachTwo SameWork b.works c.works
  pub locks : EachTwo SameLock b.locks c.locks
  pub ending : c.ending ≡ b.ending
  pub claimed : EachTwo SameClaim b.claimed c.claimed
  pub raised : c.raised ≡ b.raised
  pub credits : c.credits ≡ b.credits

pub stays : (b c : Holdings) → Kept b c → Stays b c
stays b c k = record { refs = k.refs; typed = k.typed; works = k.works; locks = k.locks; ending = k.ending; claimed = k.claimed }

pub works_kept : (xs : List Work) → EachTwo SameWork xs xs
works_kept xs = EachTwo-same SameWork xs same_work

pub locks_kept : (xs : List Lock) → EachTwo SameLock xs xs
locks_kept xs = EachTwo-same SameLock xs same_lock

pub claims_kept : (xs : List Claimed) → EachTwo SameClaim xs xs
claims_kept xs = EachTwo-same SameClaim xs same_claim

pub kept_same : (b c : Holdings) → Same b c → Kept b c
kept_same b c k =
    record {
      refs = k.refs;
      typed = k.typed;
      works = rw k.works (works_kept b.works);
      locks = rw k.locks (locks_kept b.locks);
      ending = k.ending;
      claimed = rw k.claimed (claims_kept b.claimed);
      raised = k.raised;
      credits = k.credits;
    }

-- the hand that learns of a cell
pub works_learnt : (f i w : ℕ) (b : Holdings) → EachTwo SameWork b.works (learned_cell f i w b).works
works_learnt f i w b = EachTwo-changed SameWork (λ e. e.frame) f (learned_work i w) b.works same_work (learned_work_same i w)

pub locks_learnt : (f i w : ℕ) (b : Holdings) → EachTwo SameLock b.locks (learned_cell f i w b).locks
locks_learnt f i w b = EachTwo-changed SameLock (λ e. e.frame) f (learned_lock i w) b.locks same_lock (λ e. record { frame = refl; kind = refl })

pub claims_learnt : (f i w : ℕ) (b : Holdings) → EachTwo SameClaim b.claimed (learned_cell f i w b).claimed
claims_learnt f i w b = EachTwo-changed SameClaim (λ e. e.frame) f (learned_claim i w) b.claimed same_claim (λ e. record { frame = refl })

pub kept_cell : (f i w : ℕ) (b u : Holdings) → Same b u → Kept b (learned_cell f i w u)
kept_cell f i w b u k =
    record {
      refs = k.refs;
      typed = k.typed;
      works = rw (sym k.works) (works_learnt f i w u);
      locks = rw (sym k.locks) (locks_learnt f i w u);
      ending = k.ending;
      claimed = rw (sym k.claimed) (claims_learnt f i w u);
      raised = k.raised;
      credits = k.credits;
    }

pub kept_noted : (x : Step) (w : ℕ) (b u c : Holdings) → c ≡ noted x w u → Kept b u → Kept b c
kept_noted x w b u c hand k =
    rw hand
    (record {
      refs = k.refs;
      typed = k.typed;
      works = k.works;
      locks = k.locks;
      ending = k.ending;
      claimed = k.claimed;
      raised = k.raised;
      credits = k.credits;
    })

pub same_hand : (b : Holdings) → Same b b
same_hand b =
    record {
      refs = refl;
      typed = refl;
      works = refl;
      locks = refl;
      ending = refl;
      claimed = refl;
      raised = refl;
      credits = refl;
    }

pub same_refl : (b c : Holdings) → c.refs ≡ b.refs → c.typed ≡ b.typed → c.works ≡ b.works → c.locks ≡ b.locks → c.ending ≡ b.ending → c.claimed ≡ b.claimed → c.raised ≡ b.raised →
    c.credits ≡ b.credits → Same b c
same_refl b c r t w l e k a d = record { refs = r; typed = t; works = w; locks = l; ending = e; claimed = k; raised = a; credits = d }

pub kept_of-none : {A : Type 0} (test : A → Bool) (xs : List A) → xs ≡ [] → kept_of test xs ≡ []
unfolding kept_of
kept_of-none test xs e = rw e refl

pub record Still (b c : Holdings) : Type 0 where
  pub cache : c.cache ≡ b.cache
  pub walk : c.walk ≡ b.walk
  pub cold : c.cold ≡ b.cold
  pub looking : b.looking ≡ [] → c.looking ≡ []

-- all of it
pub record Learnt (b c : Holdings) : Type 0 where
  pub kept : Kept b c
  pub still : Still b c

learnt_same : (b c : Holdings) → Same b c → Still b c → Learnt b c
learnt_same b c k l = record { kept = kept_same b c k; still = l }

nothing : (b : Holdings) → Learnt b b
nothing b = learnt_same b b (same_hand b) (record { cache = refl; walk = refl; cold = refl; looking = λ e. e })

pub same_life : (d found : ℕ) (b : Holdings) → Same b (learned_life d found b)
same_life d found b = either (Same b) (found == 0) _ _ (same_refl b _ refl refl refl refl refl refl refl refl) (same_hand b)

pub still_life : (d found : ℕ) (b : Holdings) → Still b (learned_life d found b)
still_life d found b =
    either (Still b) (found == 0) _ _
    (record { cache = refl; walk = refl; cold = refl; looking = λ e. kept_of-none _ _ e })
    (record { cache = refl; walk = refl; cold = refl; looking = λ e. e })

-- and all that stands beside the references
pub same_of : (b c : Holdings) → References b c → Beside b c → Same b c
same_of b c k l = same_refl b c k.refs k.typed l.works l.locks l.ending l.claimed l.raised l.credits

pub same_own : (k w : ℕ) (b : Holdings) → Same b (learned_own k w b)
same_own k w b = same_of b (learned_own k w b) (references_own k w b) (beside_own k w b)

pub still_own : (k w : ℕ) (b : Holdings) → Still b (learned_own k w b)
still_own k w b =
    let far = translations_own k w b in
    record { cache = far.cache; walk = far.walk; cold = far.cold; looking = λ e. (beside_own k w b).looking ∙ e }

pub learnt : (s : ℕ) (p : Place) (found left : ℕ) (b : Holdings) → Learnt b (learned s p found left b)
learnt s p found left b =
    learned_by (Learnt b) s p found left b (nothing b) (λ d. learnt_same b _ (same_life d found b) (still_life d found b)) (λ k. learnt_same b _ (same_own k left b) (still_own k left b))
    (λ f i. record { kept = kept_cell f i left b b (same_hand b); still = record { cache = refl; walk = refl; cold = refl; looking = λ e. e } })

pub empty_kept : (b c : Holdings) → Kept b c → (b.looking ≡ [] → c.looking ≡ []) → IsEmptyHand b → IsEmptyHand c
empty_kept b c k looking old =
    record {
      refs = k.refs ∙ old.refs;
      typed = k.typed ∙ old.typed;
      works = EachTwo-none SameWork _ (rw old.works at k.works);
      locks = EachTwo-none SameLock _ (rw old.locks at k.locks);
      ending = k.ending ∙ old.ending;
      claimed = EachTwo-none SameClaim _ (rw old.claimed at k.claimed);
      raised = k.raised ∙ old.raised;
      credits = k.credits ∙ old.credits;
      looking = looking old.looking;
    }
