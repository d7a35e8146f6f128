-- What each exchange of a kind word leaves.
use Rattle.std.proofs.Common.{◌≡◌, ◌≢◌, ℕ, ◌+◌, ◌<◌, ◌≤◌, ◌⊎◌, false, Some, None, refl, sym, ◌∙◌, ap, subst, arith, inl}
use Rattle.xp_words.specs.declared.kind.KindWord.{KindWord}
use Rattle.xp_words.specs.Machine.{Machine}
use Rattle.xp_words.specs.declared.place.Place.{Place}
use Rattle.xp_words.specs.declared.place.Place.TheVariants.{Clock, Kind}
use Rattle.xp_words.specs.Places.{sizes_of}
use Rattle.xp_board.specs.declared.holdings.Holdings.{Holdings}
use Rattle.xp_board.specs.declared.step.Step.{Step}
use Rattle.xp_board.specs.declared.step.StepKind.TheVariants as steps
use Rattle.xp_board.specs.Lists.{EachOf}
use Rattle.xp_board.specs.Readings.{kind_at, type_count, kind_stamp}
use Rattle.xp_board.specs.Hands.{refs_to, typed_to, locks_on, works_on}
use Rattle.xp_board.specs.Recorded.{held, held_of, HasType, recorded_in}
use Rattle.xp_board.specs.Keeping.{MayAct}
use Rattle.xp_board.specs.Sound.{is_busy, HeldAlone, WorkAgrees, Sound}
use Rattle.step_effects.proofs.ActEffects.{Wrote}
use Rattle.xp_board.proofs.Works.{nobody_works, held_free}
use Rattle.count_rule.proofs.ListMoves.{kept_other, recorded_kept}
use Rattle.count_rule.proofs.KindForms.{Says}
use Rattle.count_rule.proofs.KindSpelled.{kind_spelled}
use Rattle.count_rule.proofs.KindLaw.{Rest, kind_outcome}
use Rattle.count_rule.proofs.KindWorks.{works_apart}
use Rattle.count_rule.proofs.Outcome.{Outcome}
use Rattle.xp_board.proofs.Sums.{no_bit}

module _ (n : Machine) (s : ℕ) (x : Step) (m m2 : Place → ℕ) (b c : ℕ → Holdings) (vcpu : s < (sizes_of n).vcpus) (others : (t : ℕ) → t ≢ s → c t ≡ b t) (may : MayAct n s x (b s)) (sound : Sound n m b) (f : ℕ) where
  -- a frame that nobody has in hand alone, before and after
  module _ (k l : KindWord) (was : kind_at m f ≡ k) (is : kind_at m2 f ≡ l) (free : is_busy k ≡ false) (still : is_busy l ≡ false) where
    nobody : works_on f (b s).works ≡ 0
    nobody = nobody_works n m b sound.alone f (ap is_busy was ∙ free) s vcpu

    free_held : held_of l None ≡ held_of k None → HeldAlone n m2 c → held (sizes_of n) m2 c f ≡ held (sizes_of n) m b f
    free_held same alone =
        held_free n m2 c alone f (ap is_busy is ∙ still) ∙ ap (λ y. held_of y None) is ∙ same ∙ sym (held_free n m b sound.alone f (ap is_busy was ∙ free) ∙ ap (λ y. held_of y None) was)

  -- the new type of a frame that keeps it
  pub keeps_kind : (k l : KindWord) → kind_at m f ≡ k → kind_at m2 f ≡ l → l.kind ≡ k.kind → (kind_at m2 f).kind ≡ (kind_at m f).kind
  keeps_kind k l was is same = rw (was, is) same

  -- the rest of the hand stays
  pub record Beside (u : Holdings) : Type 0 where
    pub ending : u.ending ≡ (b s).ending
    pub claimed : u.claimed ≡ (b s).claimed
    pub raised : u.raised ≡ (b s).raised
    pub credits : u.credits ≡ (b s).credits
    pub cache : u.cache ≡ (b s).cache
    pub walk : u.walk ≡ (b s).walk
    pub cold : u.cold ≡ (b s).cold

  pub beside : (u : Holdings) → u.ending ≡ (b s).ending → u.claimed ≡ (b s).claimed → u.raised ≡ (b s).raised → u.credits ≡ (b s).credits → u.cache ≡ (b s).cache → u.walk ≡ (b s).walk →
      u.cold ≡ (b s).cold → Beside u
  beside u e k r d a w o = record { ending = e; claimed = k; raised = r; credits = d; cache = a; walk = w; cold = o }

  pub record Elsewhere (u : Holdings) : Type 0 where
    pub refs : (g : ℕ) → g ≢ f → refs_to g u.refs ≡ refs_to g (b s).refs
    pub typed : (g : ℕ) → g ≢ f → typed_to g u.typed ≡ typed_to g (b s).typed
    pub locks : (g : ℕ) → g ≢ f → locks_on g u.locks ≡ locks_on g (b s).locks

  pub rest_by : (u : Holdings) → c s ≡ u → Beside u → Elsewhere u → ((g : ℕ) → g ≢ f → works_on g u.works ≡ works_on g (b s).works) →
      ((g : ℕ) → g ≢ f → recorded_in u.works g ≡ recorded_in (b s).works g) → Rest n s m m2 b c vcpu others f
  rest_by u hand side other works recorded =
      record {
        ending = ap (λ y. y.ending) hand ∙ side.ending;
        claimed = ap (λ y. y.claimed) hand ∙ side.claimed;
        raised = ap (λ y. y.raised) hand ∙ side.raised;
        credits = ap (λ y. y.credits) hand ∙ side.credits;
        cache = ap (λ y. y.cache) hand ∙ side.cache;
        walk = ap (λ y. y.walk) hand ∙ side.walk;
        cold = ap (λ y. y.cold) hand ∙ side.cold;
        refs = λ g off. ap (λ y. refs_to g y.refs) hand ∙ other.refs g off;
        typed = λ g off. ap (λ y. typed_to g y.typed) hand ∙ other.typed g off;
        locks = λ g off. ap (λ y. locks_on g y.locks) hand ∙ other.locks g off;
        works = λ g off. ap (λ y. works_on g y.works) hand ∙ works g off;
        recorded = λ g off. ap (λ y. recorded_in y.works g) hand ∙ recorded g off;
      }

  -- what the words say before and after
  pub record Turn (k l : KindWord) (ck mk bk lk cl ml bl ll : ℕ) : Type 0 where
    pub was : kind_at m f ≡ k
    pub is : kind_at m2 f ≡ l
    pub says : Says k ck mk bk lk
    pub tells : Says l cl ml bl ll

  turn_by : (k l : KindWord) (ck mk bk lk cl ml bl ll : ℕ) → Turn k l ck mk bk lk cl ml bl ll → (Says (kind_at m f) ck mk bk lk) × (Says (kind_at m2 f) cl ml bl ll)
  turn_by k l ck mk bk lk cl ml bl ll t = (subst (λ y. Says y ck mk bk lk) (sym t.was) t.says, subst (λ y. Says y cl ml bl ll) (sym t.is) t.tells)

  -- any act on the word, by what the hand becomes
  pub turn_outcome : Wrote n x (Kind f) steps.Kind m m2 (b s) → (u : Holdings) → c s ≡ u → Rest n s m m2 b c vcpu others f → (k l : KindWord) (ck mk bk lk cl ml bl ll : ℕ) →
      Turn k l ck mk bk lk cl ml bl ll → kind_stamp (m2 (Kind f)) ≤ m Clock →
      mk + (refs_to f (b s).refs + (typed_to f (b s).typed + locks_on f (b s).locks)) ≡ ml + (refs_to f u.refs + (typed_to f u.typed + locks_on f u.locks)) →
      cl + (mk + (typed_to f (b s).typed + locks_on f (b s).locks)) ≡ ck + (ml + (typed_to f u.typed + locks_on f u.locks)) →
      works_on f u.works + bk ≡ works_on f (b s).works + bl → locks_on f u.locks + lk ≡ locks_on f (b s).locks + ll →
      (HeldAlone n m2 c → held (sizes_of n) m2 c f ≡ held (sizes_of n) m b f) →
      ((kind_at m2 f).kind ≡ (kind_at m f).kind) ⊎ ((type_count (kind_at m f) ≡ 0) × (held (sizes_of n) m b f ≡ 0)) →
      (EachOf (λ e. HasType m2 e.frame e.kind) (b s).typed → EachOf (λ e. HasType m2 e.frame e.kind) u.typed) →
      (EachOf (λ e. HasType m2 e.frame (Some e.kind)) (b s).locks → EachOf (λ e. HasType m2 e.frame (Some e.kind)) u.locks) → EachOf (WorkAgrees (c s)) (c s).works → Outcome n m2 c
  turn_outcome wrote u hand rest k l ck mk bk lk cl ml bl ll turn stamp refs types works locks held_same kind typed_kept locks_kept agrees =
      let pair = turn_by k l ck mk bk lk cl ml bl ll turn in
      let p = pair.0 in
      let q = pair.1 in
      let hr = ap (λ y. refs_to f y.refs) hand in
      let ht = ap (λ y. typed_to f y.typed) hand in
      let hl = ap (λ y. locks_on f y.locks) hand in
      let hw = ap (λ y. works_on f y.works) hand in
      kind_outcome n s m m2 b c vcpu others f sound
      (record {
        words = wrote.others;
        rest = rest;
        running = wrote.running refl;
        stamp = stamp;
        refs_here = let i = p.mark_is in let j = q.mark_is in omega arith;
        types_here = let i = p.mark_is in let j = q.mark_is in let a = p.counts in let d = q.counts in omega arith;
        works_here = let i = p.busy_is in let j = q.busy_is in omega arith;
        locks_here = let i = p.lock_is in let j = q.lock_is in omega arith;
        held_here = held_same;
        kind_here = kind;
        typed = λ e. subst (λ y. EachOf (λ e. HasType m2 e.frame e.kind) y) (sym (ap (λ y. y.typed) hand)) (typed_kept e);
        locks = λ e. subst (λ y. EachOf (λ e. HasType m2 e.frame (Some e.kind)) y) (sym (ap (λ y. y.locks) hand)) (locks_kept e);
        works = agrees;
      })
      (kind_spelled n s x m m2 b vcpu may sound f wrote)

  -- nobody has the frame in hand alone, before and after, and it keeps its type
  pub free_outcome : Wrote n x (Kind f) steps.Kind m m2 (b s) → (u : Holdings) → c s ≡ u → Beside u → u.works ≡ (b s).works → Elsewhere u → (k l : KindWord) (ck mk lk cl ml ll : ℕ) →
      Turn k l ck mk 0 lk cl ml 0 ll → held_of l None ≡ held_of k None → l.kind ≡ k.kind → kind_stamp (m2 (Kind f)) ≤ m Clock →
      mk + (refs_to f (b s).refs + (typed_to f (b s).typed + locks_on f (b s).locks)) ≡ ml + (refs_to f u.refs + (typed_to f u.typed + locks_on f u.locks)) →
      cl + (mk + (typed_to f (b s).typed + locks_on f (b s).locks)) ≡ ck + (ml + (typed_to f u.typed + locks_on f u.locks)) →
      locks_on f u.locks + lk ≡ locks_on f (b s).locks + ll →
      (EachOf (λ e. HasType m2 e.frame e.kind) (b s).typed → EachOf (λ e. HasType m2 e.frame e.kind) u.typed) →
      (EachOf (λ e. HasType m2 e.frame (Some e.kind)) (b s).locks → EachOf (λ e. HasType m2 e.frame (Some e.kind)) u.locks) → Outcome n m2 c
  free_outcome wrote u hand side works other k l ck mk lk cl ml ll turn same kind stamp refs types locks typed_kept locks_kept =
      let free = no_bit (is_busy k) turn.says.busy_is in
      let still = no_bit (is_busy l) turn.tells.busy_is in
      let none = nobody k l turn.was turn.is free still in
      let rest = rest_by u hand side other (kept_other (λ y. y.frame) f (b s).works u.works works) (recorded_kept f (b s).works u.works works) in
      turn_outcome wrote u hand rest k l ck mk 0 lk cl ml 0 ll turn stamp refs types (let w = ap (works_on f) works in omega arith) locks
      (free_held k l turn.was turn.is free still same) (inl (keeps_kind k l turn.was turn.is kind)) typed_kept locks_kept
      (works_apart f (b s) (c s) rest.refs (ap (λ y. y.works) hand ∙ works) none (sound.works s vcpu))
