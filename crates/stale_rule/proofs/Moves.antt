-- Fresh after a mark, and after an act that leaves no more to be reached.
use Rattle.std.proofs.Common.{◌≡◌, ◌≢◌, ℕ, ◌<◌, ◌≤◌, inl, inr, refl, sym, ◌∙◌, ap, subst, arith}
use Rattle.std.proofs.lemmas.Bool.{cases_eq}
use Rattle.xp_words.specs.Machine.{Machine}
use Rattle.xp_words.specs.declared.place.Place.{Place}
use Rattle.xp_words.specs.declared.place.Place.TheVariants.{Clock, Refs, Kind, Cell, Priv}
use Rattle.xp_words.specs.Places.{sizes_of, flushed_of}
use Rattle.xp_board.specs.declared.step.Step.{Step}
use Rattle.xp_board.specs.declared.step.StepKind.{StepKind}
use Rattle.xp_board.specs.declared.step.Item.{Item}
use Rattle.xp_board.specs.declared.holdings.Reached.{Reached}
use Rattle.xp_board.specs.declared.holdings.Holdings.{Holdings}
use Rattle.xp_board.specs.Acts.{left_by}
use Rattle.xp_board.specs.Lists.{Member}
use Rattle.xp_board.specs.Readings.{kind_at}
use Rattle.xp_board.specs.Hands.{claims_of}
use Rattle.xp_board.specs.After.{noted}
use Rattle.xp_board.specs.Reach.{Use, reached_by, Reach}
use Rattle.xp_board.specs.Fresh.{Bears, Awaited, Fresh}
use Rattle.xp_board.specs.Runs.{place_of}
use Rattle.xp_board.specs.Sound.{Sound}
use Rattle.step_effects.proofs.ActEffects.{Wrote}
use Rattle.stale_rule.proofs.Awaits.{awaited_same, awaited_more}
use Rattle.stale_rule.proofs.Like.{HandLike, HandStays}
use Rattle.stale_rule.proofs.Stays.{RefStays, ref_same, KeepsEver, ever_same, fresh_law}
use Rattle.xp_board.proofs.ReachAll.{Reach-same}

-- ---- of one vCPU and of the others
pub by_vcpu : (P : ℕ → Holdings → Type 0) (s t : ℕ) (h h2 : ℕ → Holdings) → ((t : ℕ) → t ≢ s → h2 t ≡ h t) → P s (h2 s) → (t ≢ s → P t (h t)) → P t (h2 t)
by_vcpu P s t h h2 others mine rest =
    elim (cases_eq t s) [
      | inl at ↦ subst (λ k. P k (h2 k)) (sym at) mine
      | inr off ↦ subst (λ u. P t u) (sym (others t off)) (rest off)
    ]

-- ---- a mark
pub mark_law : (n : Machine) (s : ℕ) (m : Place → ℕ) (h b : ℕ → Holdings) → ((t : ℕ) → t ≢ s → b t ≡ h t) → HandStays (h s) (b s) → Fresh n m h → Fresh n m b
mark_law n s m h b others stays fresh =
    fresh_law n m m h b (ever_same m m (λ d. refl))
    (λ v g u real r.
    Reach-same (λ f i. refl)
    (λ x. by_vcpu (λ t k. Member x k.cache → Member x (h t).cache) s v h b others (stays.cache x) (λ off e. e))
    (λ x. by_vcpu (λ t k. Member x (reached_by k.walk) → Member x (reached_by (h t).walk)) s v h b others (stays.walk x) (λ off e. e)) r)
    (λ v g u real r old.
    record {
      flush = refl;
      ref = inl (ref_same _ _ refl);
      kind = λ e. e;
      claims = λ t live. by_vcpu (λ t k. claims_of g (h t).claimed ≡ 0 → claims_of g k.claimed ≡ 0) s t h b others (stays.claims g) (λ off e. e);
      awaits = λ t live.
          by_vcpu (λ t k. Awaited (sizes_of n) (m (flushed_of v)) g u (h t) → Awaited (sizes_of n) (m (flushed_of v)) g u k) s t h b others
          (awaited_same (sizes_of n) (m (flushed_of v)) g u (h s) (b s) stays.like) (λ off e. e);
    })
    fresh

-- ---- an act
-- what it found and left of the clock
abbrev pub TellsClock : Machine → Step → ℕ → ℕ → Type 0
TellsClock n x clock found = place_of n x ≡ Clock → (clock ≤ found) × (clock ≤ left_by x.act found)

pub not_clock : (n : Machine) (x : Step) (p : Place) (clock found : ℕ) → place_of n x ≡ p → p ≢ Clock → TellsClock n x clock found
not_clock n x p clock found at off e = absurd (off (sym at ∙ e))

module _ (n : Machine) (s : ℕ) (x : Step) (found : ℕ) (m m2 : Place → ℕ) (b c : ℕ → Holdings) (y : Holdings) (sound : Sound n m b)
    (others : (t : ℕ) → t ≢ s → c t ≡ b t) (hand : c s ≡ noted x found y) (like : HandLike (b s) y) (was_found : TellsClock n x (m Clock) found) where
  -- what was awaited still is
  pub awaits_on : (v g t : ℕ) (u : Use) → Awaited (sizes_of n) (m (flushed_of v)) g u (b t) → Awaited (sizes_of n) (m (flushed_of v)) g u (c t)
  awaits_on v g t u =
      by_vcpu (λ t k. Awaited (sizes_of n) (m (flushed_of v)) g u (b t) → Awaited (sizes_of n) (m (flushed_of v)) g u k) s t b c others
      (λ old.
      subst (λ k. Awaited (sizes_of n) (m (flushed_of v)) g u k) (sym hand)
      (awaited_more (sizes_of n) (m (flushed_of v)) g u x found (b s) y like
      (λ at. let e = was_found at in let below = sound.stamped.flushed v in let f = e.0 in let l = e.1 in (omega arith, omega arith)) old))
      (λ off e. e)

  -- no cell changes and nothing more is held
  pub act_law : ((f i : ℕ) → m2 (Cell f i) ≡ m (Cell f i)) → KeepsEver m m2 → ((v : ℕ) → m2 (flushed_of v) ≡ m (flushed_of v)) →
      ((x : Item) → Member x y.cache → Member x (b s).cache) → ((x : Reached) → Member x (reached_by y.walk) → Member x (reached_by (b s).walk)) →
      ((v g : ℕ) (u : Use) → v < (sizes_of n).vcpus → Reach (sizes_of n) m (b v) g u → claims_of g (b s).claimed ≡ 0 → claims_of g y.claimed ≡ 0) →
      ((v g : ℕ) (u : Use) → v < (sizes_of n).vcpus → Reach (sizes_of n) m (b v) g u → RefStays (m (flushed_of v)) (m (Refs g)) (m2 (Refs g))) →
      ((v g : ℕ) (u : Use) → v < (sizes_of n).vcpus → Reach (sizes_of n) m (b v) g u → Bears (m (flushed_of v)) (kind_at m g) u → Bears (m (flushed_of v)) (kind_at m2 g) u) →
      Fresh n m2 c
  act_law cells ever flush cache walk claims refs kinds =
      fresh_law n m m2 b c ever
      (λ v g u real r.
      Reach-same cells
      (λ x. by_vcpu (λ t k. Member x k.cache → Member x (b t).cache) s v b c others (λ e. cache x (subst (λ k. Member x k.cache) hand e)) (λ off e. e))
      (λ x. by_vcpu (λ t k. Member x (reached_by k.walk) → Member x (reached_by (b t).walk)) s v b c others
      (λ e. walk x (subst (λ k. Member x (reached_by k.walk)) hand e)) (λ off e. e)) r)
      (λ v g u real r old.
      record {
        flush = flush v;
        ref = refs v g u real old;
        kind = kinds v g u real old;
        claims = λ t live.
            by_vcpu (λ t k. claims_of g (b t).claimed ≡ 0 → claims_of g k.claimed ≡ 0) s t b c others
            (λ e. ap (λ k. claims_of g k.claimed) hand ∙ claims v g u real old e) (λ off e. e);
        awaits = λ t live. awaits_on v g t u;
      })
      sound.fresh

-- an act at a word that translations do not read, or that leaves its word as it was
pub quiet_law : (n : Machine) (s : ℕ) (x : Step) (found : ℕ) (m m2 : Place → ℕ) (b c : ℕ → Holdings) (y : Holdings) → Sound n m b →
    ((t : ℕ) → t ≢ s → c t ≡ b t) → c s ≡ noted x found y → HandStays (b s) y → TellsClock n x (m Clock) found → ((f i : ℕ) → m2 (Cell f i) ≡ m (Cell f i)) →
    KeepsEver m m2 → ((v : ℕ) → m2 (flushed_of v) ≡ m (flushed_of v)) → ((f : ℕ) → m2 (Refs f) ≡ m (Refs f)) → ((f : ℕ) → m2 (Kind f) ≡ m (Kind f)) → Fresh n m2 c
quiet_law n s x found m m2 b c y sound others hand stays was_found cells ever flush refs kinds =
    act_law n s x found m m2 b c y sound others hand stays.like was_found cells ever flush stays.cache stays.walk (λ v g u real r. stays.claims g)
    (λ v g u real r. inl (ref_same _ _ (refs g))) (λ v g u real r old. rw (kinds g) old)

-- an act that changes no word
pub still_law : (n : Machine) (s : ℕ) (x : Step) (p : Place) (m m2 : Place → ℕ) (b c : ℕ → Holdings) (y : Holdings) → Sound n m b →
    ((t : ℕ) → t ≢ s → c t ≡ b t) → place_of n x ≡ p → ((q : Place) → m2 q ≡ m q) → left_by x.act (m p) ≡ m p → c s ≡ noted x (m p) y → HandStays (b s) y → Fresh n m2 c
still_law n s x p m m2 b c y sound others at words left hand stays =
    quiet_law n s x (m p) m m2 b c y sound others hand stays
    (λ e. let k : m p ≡ m Clock = ap m (sym at ∙ e) in (omega arith, omega arith))
    (λ f i. words (Cell f i)) (ever_same m m2 (λ d. words (Priv d))) (λ v. words (flushed_of v)) (λ f. words (Refs f)) (λ f. words (Kind f))

-- an act on a word that is none of those which translations read
pub aside_law : (n : Machine) (s : ℕ) (x : Step) (p : Place) (what : StepKind) (m m2 : Place → ℕ) (b c : ℕ → Holdings) (y : Holdings) → Sound n m b →
    ((t : ℕ) → t ≢ s → c t ≡ b t) → Wrote n x p what m m2 (b s) → c s ≡ noted x (m p) y → HandStays (b s) y → TellsClock n x (m Clock) (m p) →
    ((f i : ℕ) → Cell f i ≢ p) → ((d : ℕ) → Priv d ≢ p) → ((v : ℕ) → flushed_of v ≢ p) → ((f : ℕ) → Refs f ≢ p) → ((f : ℕ) → Kind f ≢ p) → Fresh n m2 c
aside_law n s x p what m m2 b c y sound others wrote hand stays was_found cells privileges flush refs kinds =
    quiet_law n s x (m p) m m2 b c y sound others hand stays was_found (λ f i. wrote.others (Cell f i) (cells f i))
    (ever_same m m2 (λ d. wrote.others (Priv d) (privileges d))) (λ v. wrote.others (flushed_of v) (flush v)) (λ f. wrote.others (Refs f) (refs f))
    (λ f. wrote.others (Kind f) (kinds f))
