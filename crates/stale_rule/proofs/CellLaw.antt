-- Fresh after an act that changes no word but a cell.
use Rattle.std.proofs.Common.{◌≡◌, ◌≢◌, ℕ, ◌<◌, inl, inr, sym, ◌∙◌, ap, subst}
use Rattle.xp_words.specs.Machine.{Machine}
use Rattle.xp_words.specs.declared.place.Place.{Place}
use Rattle.xp_words.specs.declared.place.Place.TheVariants.{Clock, Refs, Kind, Cell, Priv}
use Rattle.xp_words.specs.Places.{sizes_of, flushed_of}
use Rattle.xp_board.specs.declared.step.Step.{Step}
use Rattle.xp_board.specs.declared.step.StepKind.{StepKind}
use Rattle.xp_board.specs.declared.step.Item.{Item}
use Rattle.xp_board.specs.declared.holdings.Reached.{Reached}
use Rattle.xp_board.specs.declared.holdings.Holdings.{Holdings}
use Rattle.xp_board.specs.Lists.{Member}
use Rattle.xp_board.specs.Hands.{claims_of}
use Rattle.xp_board.specs.After.{noted}
use Rattle.xp_board.specs.Reach.{Use, Table, use_of, reached_by, Reach, cached, walked}
use Rattle.xp_board.specs.Fresh.{Fresh}
use Rattle.xp_board.specs.Sound.{Sound}
use Rattle.step_effects.proofs.ActEffects.{Wrote}
use Rattle.xp_board.proofs.PlaceTests.{same_or_other}
use Rattle.stale_rule.proofs.CameFresh.{Came, PassesOn, alike_passes, came_all, came_fresh, came_one}
use Rattle.stale_rule.proofs.Like.{HandLike}
use Rattle.stale_rule.proofs.Moves.{by_vcpu, TellsClock, not_clock, awaits_on}
use Rattle.stale_rule.proofs.Stays.{ref_same, KeepsEver, ever_same, Bearable, fresh_at}
use Rattle.xp_board.proofs.CellAlike.{alike_same}

-- what all vCPUs come to after the step they came to, or it is fresh before the step
pub came_law : (n : Machine) (m m2 : Place → ℕ) (h h2 : ℕ → Holdings) → Sound n m h → KeepsEver m m2 →
    ((v g : ℕ) (u : Use) → v < (sizes_of n).vcpus → Reach (sizes_of n) m2 (h2 v) g u → Came n m h v g u) →
    ((v g : ℕ) (u : Use) → v < (sizes_of n).vcpus → Bearable n m m2 h h2 v g u) → Fresh n m2 h2
came_law n m m2 h h2 sound ever before bears =
    record {
      each = λ v real g u r. fresh_at n m m2 h h2 v g u ever (bears v g u real) (came_fresh n m h sound v g u real (before v g u real r));
      one_use = λ v w g t u real other r q. came_one n m h sound v w g t u real other (before v g t real r) (before w g u other q);
    }

module _ (n : Machine) (s : ℕ) (x : Step) (found : ℕ) (m m2 : Place → ℕ) (b c : ℕ → Holdings) (y : Holdings) (real : s < (sizes_of n).vcpus) (sound : Sound n m b)
    (others : (t : ℕ) → t ≢ s → c t ≡ b t) (hand : c s ≡ noted x found y) (like : HandLike (b s) y) (was_found : TellsClock n x (m Clock) found)
    (claims : (g : ℕ) → claims_of g (b s).claimed ≡ 0 → claims_of g y.claimed ≡ 0) (privileges : (d : ℕ) → m2 (Priv d) ≡ m (Priv d))
    (flushes : (v : ℕ) → m2 (flushed_of v) ≡ m (flushed_of v)) (refs : (f : ℕ) → m2 (Refs f) ≡ m (Refs f)) (frames : (f : ℕ) → m2 (Kind f) ≡ m (Kind f))
    (items : (i : Item) → Member i y.cache → Came n m b s i.frame (use_of i))
    (tables : (i : Reached) → Member i (reached_by y.walk) → Came n m b s i.table (Table i.level))
    (passes : (v f i : ℕ) → v < (sizes_of n).vcpus → PassesOn n m m2 b v f i) where
  after_came : (v g : ℕ) (u : Use) → v < (sizes_of n).vcpus → Reach (sizes_of n) m2 (c v) g u → Came n m b v g u
  after_came v g u live =
      by_vcpu (λ t k. t < (sizes_of n).vcpus → (g : ℕ) (u : Use) → Reach (sizes_of n) m2 k g u → Came n m b t g u) s v b c others
      (λ at. subst (λ k. (g : ℕ) (u : Use) → Reach (sizes_of n) m2 k g u → Came n m b s g u) (sym hand)
      (came_all n m m2 b sound s (noted x found y) items tables (λ f i. passes s f i real)))
      (λ off at. came_all n m m2 b sound v (b v) (λ i e. inl (cached i e)) (λ i e. inl (walked i e)) (λ f i. passes v f i live)) live g u

  pub cells_law : Fresh n m2 c
  cells_law =
      came_law n m m2 b c sound (ever_same m m2 privileges) after_came
      (λ v g u live.
      record {
        flush = flushes v;
        ref = inl (ref_same _ _ (refs g));
        kind = λ e. rw (frames g) e;
        claims = λ t at. by_vcpu (λ t k. claims_of g (b t).claimed ≡ 0 → claims_of g k.claimed ≡ 0) s t b c others
            (λ e. ap (λ k. claims_of g k.claimed) hand ∙ claims g e) (λ off e. e);
        awaits = λ t at. awaits_on n s x found m m2 b c y sound others hand like was_found v g t u;
      })

-- a store into a cell
pub written_law : (n : Machine) (s : ℕ) (x : Step) (f i : ℕ) (what : StepKind) (m m2 : Place → ℕ) (b c : ℕ → Holdings) (y : Holdings) →
    s < (sizes_of n).vcpus → Sound n m b → ((t : ℕ) → t ≢ s → c t ≡ b t) → Wrote n x (Cell f i) what m m2 (b s) → c s ≡ noted x (m (Cell f i)) y → HandLike (b s) y →
    ((g : ℕ) → claims_of g (b s).claimed ≡ 0 → claims_of g y.claimed ≡ 0) → ((k : Item) → Member k y.cache → Came n m b s k.frame (use_of k)) →
    ((k : Reached) → Member k (reached_by y.walk) → Came n m b s k.table (Table k.level)) → ((v : ℕ) → v < (sizes_of n).vcpus → PassesOn n m m2 b v f i) → Fresh n m2 c
written_law n s x f i what m m2 b c y real sound others wrote hand like claims items tables here =
    cells_law n s x (m (Cell f i)) m m2 b c y real sound others hand like (not_clock n x (Cell f i) _ _ wrote.place (λ e. cc)) claims
    (λ d. wrote.others (Priv d) (λ k. cc)) (λ v. wrote.others (flushed_of v) (λ k. cc)) (λ g. wrote.others (Refs g) (λ k. cc)) (λ g. wrote.others (Kind g) (λ k. cc))
    items tables
    (λ v g j live.
    elim (same_or_other (Cell g j) (Cell f i)) [
      | inl at ↦ let one : g ≡ f = cc in let two : j ≡ i = cc in subst (λ k. PassesOn n m m2 b v k j) (sym one) (subst (λ k. PassesOn n m m2 b v f k) (sym two) (here v live))
      | inr off ↦ alike_passes n m m2 b sound v g j (alike_same _ _ (wrote.others (Cell g j) off))
    ])
