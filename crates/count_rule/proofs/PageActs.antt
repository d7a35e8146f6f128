-- Pages counted for a domain and given back, and the free map.
use Rattle.std.proofs.Common.{◌≡◌, ◌≢◌, ℕ, ◌+◌, ◌-◌, ◌%◌, ◌^◌, ◌/◌, ◌<◌, List, refl, sym, ◌∙◌, ap, subst, arith, IsTrue, inl, inr}
use Rattle.std.proofs.lemmas.Bool.{cases_eq}
use Rattle.std.proofs.lemmas.Bool.Decides.{nat_tests}
use Rattle.xp_words.specs.Machine.{Machine}
use Rattle.xp_words.specs.declared.place.Place.{Place}
use Rattle.xp_words.specs.declared.place.Place.TheVariants.{Clock, Pages, Vcpu, Refs, Kind, Cell, Map}
use Rattle.xp_words.specs.Places.{sizes_of, is_place, run_of}
use Rattle.xp_board.specs.declared.holdings.Holdings.{Holdings}
use Rattle.xp_board.specs.declared.step.Step.{Step}
use Rattle.xp_board.specs.declared.step.StepKind.TheVariants as steps
use Rattle.xp_board.specs.Lists.{times, with_more, with_fewer}
use Rattle.xp_board.specs.Spelling.{IsSpelling}
use Rattle.xp_board.specs.After.{noted}
use Rattle.xp_board.specs.PagesSteps.{MayRefund}
use Rattle.xp_board.specs.Keeping.{MayAct}
use Rattle.xp_board.specs.Sound.{Spelled, Sound}
use Rattle.step_effects.proofs.ActEffects.{Wrote, Charged, Refunded}
use Rattle.xp_board.proofs.ListChanges.{times-with_more_here, times-with_more_other, times-with_fewer_here, times-with_fewer_other}
use Rattle.count_rule.proofs.Learning.{Stays, works_kept, locks_kept, claims_kept}
use Rattle.count_rule.proofs.PartLaws.{stamped_by, idle_running}
use Rattle.count_rule.proofs.SpelledLaw.{wrote_spelled}
use Rattle.count_rule.proofs.Quiet.{Calm}
use Rattle.count_rule.proofs.Outcome.{Outcome, cells_same, calm_outcome, runs}
use Rattle.xp_board.proofs.Sums.{hands-part}

module _ (n : Machine) (s : ℕ) (x : Step) (m m2 : Place → ℕ) (b c : ℕ → Holdings) (vcpu : s < (sizes_of n).vcpus) (others : (t : ℕ) → t ≢ s → c t ≡ b t) (may : MayAct n s x (b s)) (sound : Sound n m b) where
  pub calm : (p : Place) → ((q : Place) → q ≢ p → m2 q ≡ m q) → ((f : ℕ) → Refs f ≢ p) → ((f : ℕ) → Kind f ≢ p) → ((v k : ℕ) → Vcpu v k ≢ p) → ((f i : ℕ) → Cell f i ≢ p) → Calm n s m m2 b c vcpu others
  calm p words refs kinds vcpus cells =
      record {
        refs = λ g. words (Refs g) (refs g);
        kinds = λ g. words (Kind g) (kinds g);
        contexts = λ v k t. words (Vcpu v k) (vcpus v k);
        demands = λ f i l. cells_same n s m m2 b c vcpu others (λ g. words (Kind g) (kinds g)) (λ g j. words (Cell g j) (cells g j)) f i;
      }

  -- ---- pages
  module _ (d w : ℕ) (wrote : Wrote n x (Pages d) steps.Pages m m2 (b s)) (credits : List ℕ) (hand : c s ≡ noted x w (record (b s) { credits = credits })) where
    credits_stay : Stays (b s) (c s)
    credits_stay =
        rw hand
        (record { refs = refl; typed = refl; works = works_kept (b s).works; locks = locks_kept (b s).locks; ending = refl; claimed = claims_kept (b s).claimed })

    pages_outcome : m2 (Pages d) + times d (b s).credits ≡ m (Pages d) + times d credits → ((e : ℕ) → e ≢ d → times e credits ≡ times e (b s).credits) → Spelled n m2 → Outcome n m2 c
    pages_outcome here other spelled =
        let now : (c s).credits ≡ credits = ap (λ y. y.credits) hand in
        let clock = wrote.others Clock (λ e. cc) in
        calm_outcome n s m m2 b c vcpu others sound (calm (Pages d) wrote.others (λ f e. cc) (λ f e. cc) (λ v k e. cc) (λ f i e. cc)) credits_stay
        (λ e l. elim (cases_eq e d) [
          | inl at ↦ rw now (subst (λ y. m2 (Pages y) + times y (b s).credits ≡ m (Pages y) + times y credits) (sym at) here)
          | inr off ↦ rw (now, wrote.others (Pages e) (λ k. off (cc)), other e off) refl
        ])
        (λ g l. rw (wrote.others (Map (g / 64)) (λ e. cc), ap (λ y. y.raised) hand) refl) spelled
        (stamped_by n m m2 (Pages d) wrote.others (omega arith) (λ v e. absurd (cc)) (λ f e. absurd (cc)) (λ f e. absurd (cc)) sound.stamped)
        (idle_running n s m m2 b c vcpu others (wrote.others (run_of s) (λ e. cc) ∙ runs n s m m2 b c vcpu others sound (wrote.running refl)) (λ v off. wrote.others (run_of v) (λ e. cc))
        (λ e. sym (ap (λ y. y.cold) hand) ∙ e) (λ k e. ap (λ y. y.cache) hand ∙ e) (λ k e. ap (λ y. y.walk) hand ∙ e) sound.idle)

  domain_inside : (d : ℕ) → IsTrue (is_place (sizes_of n) (Pages d)) → d < (sizes_of n).domains
  unfolding is_place
  domain_inside d real = grind (arith, nat_tests)

  -- the pages that go out were counted
  refund_less : (d by : ℕ) → IsTrue (is_place (sizes_of n) (Pages d)) → MayRefund d by (b s) → m2 (Pages d) ≡ (m (Pages d) + by) % 2 ^ 64 → m2 (Pages d) + (2 ^ 64 - by) ≡ m (Pages d)
  refund_less d by real r is =
      let all = sound.counts.pages d (domain_inside d real) in
      let part = hands-part (λ u. times d u.credits) (sizes_of n) b s vcpu in
      let k = r.credits in
      let j = r.down in
      let i = r.some in
      let small = sound.spelled.small (Pages d) in
      omega arith

  pages_spelled : (d : ℕ) → Wrote n x (Pages d) steps.Pages m m2 (b s) → Spelled n m2
  unfolding IsSpelling
  pages_spelled d wrote =
      wrote_spelled n s x (Pages d) steps.Pages m m2 (b s) wrote may sound.machine sound.spelled
      (λ by r is. let less = refund_less d by wrote.real r is in let old = sound.spelled.spelled (Pages d) wrote.real in omega arith) (λ v l. absurd l)

  pub charged_outcome : (d : ℕ) → Charged n x d m m2 (b s) (c s) → Outcome n m2 c
  charged_outcome d e =
      pages_outcome d (m (Pages d)) e.wrote (with_more (m2 (Pages d) - m (Pages d)) d (b s).credits) e.hand
      (let k = times-with_more_here (m2 (Pages d) - m (Pages d)) d (b s).credits in let more = e.more in omega arith)
      (λ g off. times-with_more_other (m2 (Pages d) - m (Pages d)) g d (b s).credits (λ k. off (sym k))) (pages_spelled d e.wrote)

  pub refunded_outcome : (d by : ℕ) → Refunded n x d by m m2 (b s) (c s) → Outcome n m2 c
  refunded_outcome d by e =
      pages_outcome d (m (Pages d)) e.wrote (with_fewer (2 ^ 64 - by) d (b s).credits) e.hand
      (let k = times-with_fewer_here (2 ^ 64 - by) d (b s).credits e.may.credits in let less = refund_less d by e.wrote.real e.may e.is in omega arith)
      (λ g off. times-with_fewer_other (2 ^ 64 - by) g d (b s).credits off) (pages_spelled d e.wrote)
