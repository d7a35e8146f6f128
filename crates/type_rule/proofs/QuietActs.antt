-- The acts that change no kind word, no cell and no word of a vCPU that names a frame, each by its effect.
use Rattle.std.proofs.Common.{◌≡◌, ◌≢◌, ℕ, ◌+◌, ◌<◌, ◌==◌, not, if◌then◌else◌, Bool, true, false, ◌∷◌, Option, Some, None, IsTrue, refl, sym, ◌∙◌, ap, subst, inl, inr, arith}
use Rattle.std.proofs.lemmas.Bool.{cases_eq}
use Rattle.xp_words.specs.Machine.{Machine}
use Rattle.xp_words.specs.declared.place.Place.{Place}
use Rattle.xp_words.specs.declared.place.Place.TheVariants.{Clock, Pages, Life, Vcpu, Refs, Kind, M2p, Cell, Map, Priv}
use Rattle.xp_words.specs.Places.{sizes_of, asked_of, flushed_of, ldt_base_of, run_of}
use Rattle.xp_board.specs.declared.step.Step.{Step}
use Rattle.xp_board.specs.declared.holdings.Ending.{Ending}
use Rattle.xp_board.specs.declared.holdings.Claimed.{Claimed}
use Rattle.xp_board.specs.declared.holdings.Holdings.{Holdings}
use Rattle.xp_board.specs.Acts.{left_by}
use Rattle.xp_board.specs.Hands.{work_on, changed_work, ending_of, claim_of, endings_of, claims_of}
use Rattle.xp_board.specs.Lists.{kept_of}
use Rattle.xp_board.specs.Readings.{is_context, ref_count, owner_of, has_ever}
use Rattle.xp_board.specs.RefSteps.{IsFreeStamp}
use Rattle.xp_board.specs.FillSteps.{started, loaded, walked_by, is_for_write}
use Rattle.xp_board.specs.RunSteps.{ran_now}
use Rattle.xp_board.specs.After.{noted, learned_own, learned_work}
use Rattle.xp_board.specs.Runs.{place_of}
use Rattle.xp_board.specs.Sound.{Sound}
use Rattle.xp_board.proofs.Bits.{granted-ever, revoked-ever}
use Rattle.step_effects.proofs.ActEffects.{Looked, Raised, Cleared, Took, Lowered, Freed, Gave, Missed, Started, WentOn, Stumbled, Mapped, Charged, Refunded, Based, Asked, Flushed, Ran, Ticked, Doomed, Buried, Hinted, Privileged}
use Rattle.xp_board.proofs.HandLists.{first-some}
use Rattle.type_rule.proofs.HandParts.{SameThree, three_own, three_ran, three_started, three_loaded}
use Rattle.type_rule.proofs.RefWordLaws.{one_less_keeps}
use Rattle.xp_board.proofs.Counted.{in_hand_counted, not_context}
use Rattle.xp_board.proofs.Sums.{if_itself}
use Rattle.type_rule.proofs.Works.{WorkKeptIn, works_kept, cell_kept}
use Rattle.type_rule.proofs.EntryChange.{OneStep}
use Rattle.type_rule.proofs.ValidLaw.{OwnersStay}
use Rattle.type_rule.proofs.QuietLaw.{QuietAct, same_owners, one_owner}
use Rattle.xp_board.proofs.Works.{dying_in_hand}
use Rattle.xp_board.proofs.RefWords.{owned_says, free_says}

clock_held : (n : Machine) (stamp f : ℕ) (h : Holdings) (e : Option Ending) (c : Option Claimed) → ending_of f h.ending ≡ e → claim_of f h.claimed ≡ c → IsFreeStamp n stamp h e c →
    0 < endings_of f h.ending + claims_of f h.claimed
clock_held n stamp f h (Some e) c at there k = let some = first-some (λ y. y.frame) f e h.ending at in omega arith
clock_held n stamp f h None (Some c) at there k = let some = first-some (λ y. y.frame) f c h.claimed there in omega arith
clock_held n stamp f h None None at there k = absurd k

module _ (n : Machine) (s : ℕ) (x : Step) (m m2 : Place → ℕ) (b c : ℕ → Holdings) (real : s < (sizes_of n).vcpus) (sound : Sound n m b)
    (others : (t : ℕ) → t ≢ s → c t ≡ b t) where
  -- one more step, by which the hand y was left
  pub one_by : (p : Place) (y : Holdings) → place_of n x ≡ p → left_by x.act (m p) ≡ m2 p → c s ≡ noted x (m p) y → y.steps ≡ (b s).steps → OneStep n s x m m2 b c
  one_by p y place left hand same =
      record { others = others; found = m p; left = left ∙ ap m2 (sym place); steps = ap (λ u. u.steps) hand ∙ ap (λ l. record { step = x; found = m p } ∷ l) same }

  pub same_works : (x0 : ℕ) (p : Place) (y : Holdings) → c s ≡ noted x x0 y → y.works ≡ (b s).works → (g : ℕ) → WorkKeptIn (work_on g (b s).works) (work_on g (c s).works)
  same_works x0 p y hand same g = rw (ap (λ u. u.works) hand ∙ same) (works_kept (work_on g (b s).works))

  -- ---- a word that these laws do not read
  quiet : (p : Place) (y : Holdings) → place_of n x ≡ p → left_by x.act (m p) ≡ m2 p → ((q : Place) → q ≢ p → m2 q ≡ m q) → c s ≡ noted x (m p) y → y.steps ≡ (b s).steps →
      y.works ≡ (b s).works → ((g : ℕ) → Kind g ≢ p) → ((f i : ℕ) → Cell f i ≢ p) → ((v k : ℕ) → IsTrue (is_context k) → Vcpu v k ≢ p) → OwnersStay m m2 → QuietAct n s x m m2 b c
  quiet p y place left same hand steps works kinds cells contexts owners =
      record {
        one = one_by p y place left hand steps;
        kinds = λ g. same (Kind g) (kinds g);
        cells = λ f i. same (Cell f i) (cells f i);
        contexts = λ v k u. same (Vcpu v k) (contexts v k u);
        works = same_works (m p) p y hand works;
        owners = owners;
      }

  -- ---- loads
  load : (p : Place) (y : Holdings) → place_of n x ≡ p → left_by x.act (m p) ≡ m p → ((q : Place) → m2 q ≡ m q) → c s ≡ noted x (m p) y → y.steps ≡ (b s).steps →
      ((g : ℕ) → WorkKeptIn (work_on g (b s).works) (work_on g y.works)) → QuietAct n s x m m2 b c
  load p y place left words hand steps works =
      record {
        one = one_by p y place (left ∙ sym (words p)) hand steps;
        kinds = λ g. words (Kind g);
        cells = λ f i. words (Cell f i);
        contexts = λ v k u. words (Vcpu v k);
        works = λ g. rw (ap (λ u. u.works) hand) (works g);
        owners = same_owners m m2 (λ f. words (Refs f)) (λ d. words (Priv d));
      }

  plain_load : (p : Place) (y : Holdings) → place_of n x ≡ p → left_by x.act (m p) ≡ m p → ((q : Place) → m2 q ≡ m q) → c s ≡ noted x (m p) y → y.steps ≡ (b s).steps →
      y.works ≡ (b s).works → QuietAct n s x m m2 b c
  plain_load p y place left words hand steps works = load p y place left words hand steps (λ g. rw works (works_kept (work_on g (b s).works)))

  life_parts : (t : Bool) (d : ℕ) (h : Holdings) →
      ((if t then record h { looking = kept_of (λ e. not (e.owner == d)) h.looking } else h).steps ≡ h.steps)
      × ((if t then record h { looking = kept_of (λ e. not (e.owner == d)) h.looking } else h).works ≡ h.works)
  life_parts true d h = (refl, refl)
  life_parts false d h = (refl, refl)

  pub looked_quiet : (p : Place) → Looked n s x p m m2 (b s) (c s) → QuietAct n s x m m2 b c
  looked_quiet (Life q) d = let k = life_parts (m (Life q) == 0) q (b s) in plain_load (Life q) _ d.place d.left d.words d.hand k.0 k.1
  looked_quiet (Vcpu v k) d = let o = three_own s v k (m (Vcpu v k)) (m (Vcpu v k)) (b s) in plain_load (Vcpu v k) _ d.place d.left d.words d.hand o.steps o.works
  looked_quiet (Cell f i) d = load (Cell f i) _ d.place d.left d.words d.hand refl (λ g. cell_kept f g i (m (Cell f i)) (b s).works)
  looked_quiet Clock d = plain_load Clock _ d.place d.left d.words d.hand refl refl
  looked_quiet (Pages q) d = plain_load (Pages q) _ d.place d.left d.words d.hand refl refl
  looked_quiet (Refs f) d = plain_load (Refs f) _ d.place d.left d.words d.hand refl refl
  looked_quiet (Kind f) d = plain_load (Kind f) _ d.place d.left d.words d.hand refl refl
  looked_quiet (M2p f) d = plain_load (M2p f) _ d.place d.left d.words d.hand refl refl
  looked_quiet (Map k) d = plain_load (Map k) _ d.place d.left d.words d.hand refl refl
  looked_quiet (Priv q) d = plain_load (Priv q) _ d.place d.left d.words d.hand refl refl

  pub missed_quiet : (f : ℕ) → Missed n x f m m2 (b s) (c s) → QuietAct n s x m m2 b c
  missed_quiet f d = plain_load (Kind f) _ d.place d.left d.words d.hand refl refl

  own_three : (k w : ℕ) (h : Holdings) → SameThree h (learned_own k w h)
  own_three k w h = subst (λ y. SameThree h y) (if_itself s (learned_own k w h) h) (three_own s s k w w h)

  pub started_quiet : (k : ℕ) → Started n s x k m m2 (b s) (c s) → QuietAct n s x m m2 b c
  started_quiet k d =
      let y = started k (m (Vcpu s k)) (is_for_write x.mark) (b s) in
      let first = three_started k (m (Vcpu s k)) (is_for_write x.mark) (b s) in
      let own = own_three k (m (Vcpu s k)) y in
      plain_load (Vcpu s k) _ d.place d.left d.words d.hand (own.steps ∙ first.steps) (own.works ∙ first.works)

  pub went_quiet : (f i : ℕ) → WentOn n x f i m m2 (b s) (c s) → QuietAct n s x m m2 b c
  went_quiet f i d =
      let y = loaded n f i (m (Cell f i)) (walked_by i (m (Cell f i)) d.walk) (b s) in
      let k = three_loaded n f i (m (Cell f i)) (walked_by i (m (Cell f i)) d.walk) (b s) in
      load (Cell f i) _ d.place d.left d.words d.hand k.steps (λ g. subst (λ ws. WorkKeptIn (work_on g ws) (work_on g (changed_work f (learned_work i (m (Cell f i))) y.works))) k.works (cell_kept f g i (m (Cell f i)) y.works))

  pub stumbled_quiet : (f i : ℕ) → Stumbled n x f i m m2 (b s) (c s) → QuietAct n s x m m2 b c
  stumbled_quiet f i d = load (Cell f i) _ d.place d.left d.words d.hand refl (λ g. cell_kept f g i (m (Cell f i)) (b s).works)

  -- ---- words that are not read here
  pub ticked_quiet : Ticked n x m m2 (b s) (c s) → QuietAct n s x m m2 b c
  ticked_quiet d =
      quiet Clock (b s) d.wrote.place d.wrote.left d.wrote.others d.hand refl refl (λ g q. cc) (λ f i q. cc) (λ v k u q. cc)
      (same_owners m m2 (λ f. d.wrote.others (Refs f) (λ q. cc)) (λ o. d.wrote.others (Priv o) (λ q. cc)))

  pub mapped_quiet : (f : ℕ) → Mapped n x f m m2 (b s) (c s) → QuietAct n s x m m2 b c
  mapped_quiet f d =
      quiet (M2p f) (b s) d.wrote.place d.wrote.left d.wrote.others d.hand refl refl (λ g q. cc) (λ g i q. cc) (λ v k u q. cc)
      (same_owners m m2 (λ g. d.wrote.others (Refs g) (λ q. cc)) (λ o. d.wrote.others (Priv o) (λ q. cc)))

  pub charged_quiet : (p : ℕ) → Charged n x p m m2 (b s) (c s) → QuietAct n s x m m2 b c
  charged_quiet p d =
      quiet (Pages p) _ d.wrote.place d.wrote.left d.wrote.others d.hand refl refl (λ g q. cc) (λ f i q. cc) (λ v k u q. cc)
      (same_owners m m2 (λ g. d.wrote.others (Refs g) (λ q. cc)) (λ o. d.wrote.others (Priv o) (λ q. cc)))

  pub refunded_quiet : (p by : ℕ) → Refunded n x p by m m2 (b s) (c s) → QuietAct n s x m m2 b c
  refunded_quiet p by d =
      quiet (Pages p) _ d.wrote.place d.wrote.left d.wrote.others d.hand refl refl (λ g q. cc) (λ f i q. cc) (λ v k u q. cc)
      (same_owners m m2 (λ g. d.wrote.others (Refs g) (λ q. cc)) (λ o. d.wrote.others (Priv o) (λ q. cc)))

  pub hinted_quiet : (k by : ℕ) → Hinted n x k by m m2 (b s) (c s) → QuietAct n s x m m2 b c
  hinted_quiet k by d =
      quiet (Map k) _ d.wrote.place d.wrote.left d.wrote.others d.hand refl refl (λ g q. cc) (λ f i q. cc) (λ v j u q. cc)
      (same_owners m m2 (λ g. d.wrote.others (Refs g) (λ q. cc)) (λ o. d.wrote.others (Priv o) (λ q. cc)))

  pub asked_quiet : (v : ℕ) → Asked n x v m m2 (b s) (c s) → QuietAct n s x m m2 b c
  asked_quiet v d =
      quiet (asked_of v) (b s) d.wrote.place d.wrote.left d.wrote.others d.hand refl refl (λ g q. cc) (λ f i q. cc)
      (λ w k u q. not_context 4 k refl u (let e : k ≡ 4 = cc in e))
      (same_owners m m2 (λ g. d.wrote.others (Refs g) (λ q. cc)) (λ o. d.wrote.others (Priv o) (λ q. cc)))

  pub flushed_quiet : Flushed n s x m m2 (b s) (c s) → QuietAct n s x m m2 b c
  flushed_quiet d =
      quiet (flushed_of s) _ d.wrote.place d.wrote.left d.wrote.others d.hand refl refl (λ g q. cc) (λ f i q. cc)
      (λ w k u q. not_context 5 k refl u (let e : k ≡ 5 = cc in e))
      (same_owners m m2 (λ g. d.wrote.others (Refs g) (λ q. cc)) (λ o. d.wrote.others (Priv o) (λ q. cc)))

  pub based_quiet : (v : ℕ) → Based n s x v m m2 (b s) (c s) → QuietAct n s x m m2 b c
  based_quiet v d =
      quiet (ldt_base_of v) _ d.wrote.place d.wrote.left d.wrote.others d.hand refl refl (λ g q. cc) (λ f i q. cc)
      (λ w k u q. not_context 7 k refl u (let e : k ≡ 7 = cc in e))
      (same_owners m m2 (λ g. d.wrote.others (Refs g) (λ q. cc)) (λ o. d.wrote.others (Priv o) (λ q. cc)))

  pub ran_quiet : Ran n s x m m2 (b s) (c s) → QuietAct n s x m m2 b c
  ran_quiet d =
      let first = three_ran (m2 (run_of s)) (b s) in
      let own = own_three 6 (m2 (run_of s)) (ran_now (m2 (run_of s)) (b s)) in
      quiet (run_of s) _ d.wrote.place d.wrote.left d.wrote.others d.hand (own.steps ∙ first.steps) (own.works ∙ first.works) (λ g q. cc) (λ f i q. cc)
      (λ w k u q. not_context 6 k refl u (let e : k ≡ 6 = cc in e))
      (same_owners m m2 (λ g. d.wrote.others (Refs g) (λ q. cc)) (λ o. d.wrote.others (Priv o) (λ q. cc)))

  pub doomed_quiet : (q : ℕ) → Doomed n s x q m m2 (b s) (c s) → QuietAct n s x m m2 b c
  doomed_quiet q d =
      let k = life_parts (m (Life q) == 0) q (b s) in
      quiet (Life q) _ d.wrote.place d.wrote.left d.wrote.others d.hand k.0 k.1 (λ g e. cc) (λ f i e. cc) (λ v j u e. cc)
      (same_owners m m2 (λ g. d.wrote.others (Refs g) (λ e. cc)) (λ o. d.wrote.others (Priv o) (λ e. cc)))

  pub buried_quiet : (q : ℕ) → Buried n s x q m m2 (b s) (c s) → QuietAct n s x m m2 b c
  buried_quiet q d =
      let k = life_parts (m (Life q) == 0) q (b s) in
      quiet (Life q) _ d.wrote.place d.wrote.left d.wrote.others d.hand k.0 k.1 (λ g e. cc) (λ f i e. cc) (λ v j u e. cc)
      (same_owners m m2 (λ g. d.wrote.others (Refs g) (λ e. cc)) (λ o. d.wrote.others (Priv o) (λ e. cc)))

  -- ---- privileges
  had_still : (q o : ℕ) → Privileged n s x q m m2 (b s) (c s) → IsTrue (has_ever o (m (Priv q))) → IsTrue (has_ever o (m2 (Priv q)))
  had_still q o d t =
      elim d.may.left [
        | inl given ↦ rw given (granted-ever (m (Priv q)) d.may.over o t)
        | inr taken ↦ rw taken (revoked-ever (m (Priv q)) d.may.over o (let i = d.may.domain in let f = sound.machine.few_domains in omega arith) t)
      ]

  pub privileged_quiet : (q : ℕ) → Privileged n s x q m m2 (b s) (c s) → QuietAct n s x m m2 b c
  privileged_quiet q d =
      quiet (Priv q) (b s) d.wrote.place d.wrote.left d.wrote.others d.hand refl refl (λ g e. cc) (λ f i e. cc) (λ v j u e. cc)
      (record {
        owner = λ g some. rw (d.wrote.others (Refs g) (λ e. cc)) refl;
        ever = λ p o t. elim (cases_eq p q) [
          | inl at ↦ rw at (had_still q o d (rw at at t))
          | inr off ↦ rw (d.wrote.others (Priv p) (λ e. off (cc))) t
        ];
      })

  -- ---- the reference word of a frame
  at_refs : (f : ℕ) (y : Holdings) → place_of n x ≡ Refs f → left_by x.act (m (Refs f)) ≡ m2 (Refs f) → ((q : Place) → q ≢ Refs f → m2 q ≡ m q) → c s ≡ noted x (m (Refs f)) y →
      y.steps ≡ (b s).steps → y.works ≡ (b s).works → (0 < ref_count (m (Refs f)) → owner_of (m2 (Refs f)) ≡ owner_of (m (Refs f))) → QuietAct n s x m m2 b c
  at_refs f y place left same hand steps works owner =
      quiet (Refs f) y place left same hand steps works (λ g e. cc) (λ g i e. cc) (λ v j u e. cc) (one_owner m m2 f same owner)

  pub raised_quiet : (f : ℕ) → Raised n x f m m2 (b s) (c s) → QuietAct n s x m m2 b c
  raised_quiet f d =
      at_refs f _ d.wrote.place d.wrote.left d.wrote.others d.hand refl refl (λ some. (owned_says _ _ _ _ d.is).owned ∙ sym ((owned_says _ _ _ _ d.was).owned))

  pub cleared_quiet : (f : ℕ) → Cleared n x f m m2 (b s) (c s) → QuietAct n s x m m2 b c
  cleared_quiet f d =
      at_refs f _ d.wrote.place d.wrote.left d.wrote.others d.hand refl refl (λ some. (owned_says _ _ _ _ d.is).owned ∙ sym ((owned_says _ _ _ _ d.was).owned))

  pub took_quiet : (f : ℕ) → Took n s x f m m2 (b s) (c s) → QuietAct n s x m m2 b c
  took_quiet f d =
      at_refs f _ d.wrote.place d.wrote.left d.wrote.others d.hand refl refl (λ some. absurd (let k = (free_says (m (Refs f)) d.stamp d.was).counts in omega arith))

  pub lowered_quiet : (f : ℕ) → Lowered n x f m m2 (b s) (c s) → QuietAct n s x m m2 b c
  lowered_quiet f d =
      let counted = in_hand_counted (sizes_of n) m b s f real sound.counts d.may.in_hand in
      let kept = one_less_keeps (m (Refs f)) (sound.spelled.small (Refs f)) counted in
      at_refs f _ d.wrote.place d.wrote.left d.wrote.others d.hand refl refl (λ some. rw d.is kept.owner)

  pub freed_quiet : (f : ℕ) → Freed n s x f m m2 (b s) (c s) → QuietAct n s x m m2 b c
  freed_quiet f d =
      let held = clock_held n d.stamp f (b s) (ending_of f (b s).ending) (claim_of f (b s).claimed) refl refl d.may.was_found in
      at_refs f _ d.wrote.place d.wrote.left d.wrote.others d.hand refl refl (λ some. absurd (let k = dying_in_hand n m b sound.alone f s real held in omega arith))

  pub gave_quiet : (f : ℕ) → Gave n s x f m m2 (b s) (c s) → QuietAct n s x m m2 b c
  gave_quiet f d =
      let held = first-some (λ y. y.frame) f d.may.claimed (b s).claimed d.may.here in
      at_refs f _ d.wrote.place d.wrote.left d.wrote.others d.hand refl refl (λ some. absurd (let k = dying_in_hand n m b sound.alone f s real (omega arith) in omega arith))
