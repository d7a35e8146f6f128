-- Which parts of a hand a demand, a name, an own word, a walk or a Run step leaves.
use Rattle.std.proofs.Common.{◌≡◌, ℕ, zero, suc, ◌==◌, not, nat_lt, Bool, refl, ◌∙◌}
use Rattle.xp_words.specs.declared.entry.Demand.{Demand}
use Rattle.xp_words.specs.declared.entry.Demand.TheVariants.{Nothing, Bad, Read, Typed}
use Rattle.xp_words.specs.Entries.{frame_of, is_bit}
use Rattle.xp_words.specs.Machine.{Machine}
use Rattle.xp_words.specs.declared.place.Place.{Place}
use Rattle.xp_words.specs.declared.place.Place.TheVariants.{Vcpu, Clock, Pages, Life, Refs, Kind, M2p, Cell, Map, Priv}
use Rattle.xp_board.specs.declared.holdings.Walk.{Walk}
use Rattle.xp_board.specs.declared.holdings.Holdings.{Holdings}
use Rattle.xp_board.specs.Settling.{demand_in, demand_out}
use Rattle.xp_board.specs.ContextSteps.{named_in, named_out}
use Rattle.xp_board.specs.FillSteps.{started, loaded, descended, touched, level_of}
use Rattle.xp_board.specs.RunSteps.{ran_now}
use Rattle.xp_board.specs.After.{learned, learned_own, learned_life, learned_cell}
use Rattle.xp_board.proofs.Sums.{either}

-- all lists but the references, and the steps
pub record Beside (u v : Holdings) : Type 0 where
  pub works : v.works ≡ u.works
  pub locks : v.locks ≡ u.locks
  pub ending : v.ending ≡ u.ending
  pub claimed : v.claimed ≡ u.claimed
  pub raised : v.raised ≡ u.raised
  pub credits : v.credits ≡ u.credits
  pub looking : v.looking ≡ u.looking
  pub steps : v.steps ≡ u.steps

pub record References (u v : Holdings) : Type 0 where
  pub refs : v.refs ≡ u.refs
  pub typed : v.typed ≡ u.typed

pub record Translations (u v : Holdings) : Type 0 where
  pub cache : v.cache ≡ u.cache
  pub walk : v.walk ≡ u.walk
  pub cold : v.cold ≡ u.cold

beside : (u v : Holdings) → v.works ≡ u.works → v.locks ≡ u.locks → v.ending ≡ u.ending → v.claimed ≡ u.claimed → v.raised ≡ u.raised → v.credits ≡ u.credits →
    v.looking ≡ u.looking → v.steps ≡ u.steps → Beside u v
beside u v a b c d e f g h = record { works = a; locks = b; ending = c; claimed = d; raised = e; credits = f; looking = g; steps = h }

references : (u v : Holdings) → v.refs ≡ u.refs → v.typed ≡ u.typed → References u v
references u v a b = record { refs = a; typed = b }

translations : (u v : Holdings) → v.cache ≡ u.cache → v.walk ≡ u.walk → v.cold ≡ u.cold → Translations u v
translations u v a b c = record { cache = a; walk = b; cold = c }

pub beside_then : (u v w : Holdings) → Beside u v → Beside v w → Beside u w
beside_then u v w a b =
    beside u w (b.works ∙ a.works) (b.locks ∙ a.locks) (b.ending ∙ a.ending) (b.claimed ∙ a.claimed) (b.raised ∙ a.raised) (b.credits ∙ a.credits)
    (b.looking ∙ a.looking) (b.steps ∙ a.steps)

pub translations_then : (u v w : Holdings) → Translations u v → Translations v w → Translations u w
translations_then u v w a b = translations u w (b.cache ∙ a.cache) (b.walk ∙ a.walk) (b.cold ∙ a.cold)

-- ---- demands
pub beside_out : (d : Demand) (u : Holdings) → Beside u (demand_out d u)
beside_out Nothing u = beside u _ refl refl refl refl refl refl refl refl
beside_out Bad u = beside u _ refl refl refl refl refl refl refl refl
beside_out (Read f) u = beside u _ refl refl refl refl refl refl refl refl
beside_out (Typed f t) u = beside u _ refl refl refl refl refl refl refl refl

pub beside_in : (sure : Bool) (d : Demand) (u : Holdings) → Beside u (demand_in sure d u)
beside_in sure Nothing u = beside u _ refl refl refl refl refl refl refl refl
beside_in sure Bad u = beside u _ refl refl refl refl refl refl refl refl
beside_in sure (Read f) u = beside u _ refl refl refl refl refl refl refl refl
beside_in sure (Typed f t) u = beside u _ refl refl refl refl refl refl refl refl

pub translations_out : (d : Demand) (u : Holdings) → Translations u (demand_out d u)
translations_out Nothing u = translations u _ refl refl refl
translations_out Bad u = translations u _ refl refl refl
translations_out (Read f) u = translations u _ refl refl refl
translations_out (Typed f t) u = translations u _ refl refl refl

pub translations_in : (sure : Bool) (d : Demand) (u : Holdings) → Translations u (demand_in sure d u)
translations_in sure Nothing u = translations u _ refl refl refl
translations_in sure Bad u = translations u _ refl refl refl
translations_in sure (Read f) u = translations u _ refl refl refl
translations_in sure (Typed f t) u = translations u _ refl refl refl

-- ---- names
pub beside_named_out : (w : ℕ) (u : Holdings) → Beside u (named_out w u)
beside_named_out zero u = beside u _ refl refl refl refl refl refl refl refl
beside_named_out (suc f) u = beside u _ refl refl refl refl refl refl refl refl

pub beside_named_in : (k w : ℕ) (u : Holdings) → Beside u (named_in k w u)
beside_named_in k zero u = beside u _ refl refl refl refl refl refl refl refl
beside_named_in k (suc f) u = beside u _ refl refl refl refl refl refl refl refl

pub translations_named_out : (w : ℕ) (u : Holdings) → Translations u (named_out w u)
translations_named_out zero u = translations u _ refl refl refl
translations_named_out (suc f) u = translations u _ refl refl refl

pub translations_named_in : (k w : ℕ) (u : Holdings) → Translations u (named_in k w u)
translations_named_in k zero u = translations u _ refl refl refl
translations_named_in k (suc f) u = translations u _ refl refl refl

pub refs_named_out : (w : ℕ) (u : Holdings) → (named_out w u).refs ≡ u.refs
refs_named_out zero u = refl
refs_named_out (suc f) u = refl

pub refs_named_in : (k w : ℕ) (u : Holdings) → (named_in k w u).refs ≡ u.refs
refs_named_in k zero u = refl
refs_named_in k (suc f) u = refl

-- ---- own words
pub beside_own : (k w : ℕ) (u : Holdings) → Beside u (learned_own k w u)
beside_own k w u =
    either (Beside u) (k == 2) _ _ (beside u _ refl refl refl refl refl refl refl refl)
    (either (Beside u) (k == 3) _ _ (beside u _ refl refl refl refl refl refl refl refl)
    (either (Beside u) (k == 6) _ _ (beside u _ refl refl refl refl refl refl refl refl) (beside u u refl refl refl refl refl refl refl refl)))

pub references_own : (k w : ℕ) (u : Holdings) → References u (learned_own k w u)
references_own k w u =
    either (References u) (k == 2) _ _ (references u _ refl refl)
    (either (References u) (k == 3) _ _ (references u _ refl refl) (either (References u) (k == 6) _ _ (references u _ refl refl) (references u u refl refl)))

pub translations_own : (k w : ℕ) (u : Holdings) → Translations u (learned_own k w u)
translations_own k w u =
    either (Translations u) (k == 2) _ _ (translations u _ refl refl refl)
    (either (Translations u) (k == 3) _ _ (translations u _ refl refl refl)
    (either (Translations u) (k == 6) _ _ (translations u _ refl refl refl) (translations u u refl refl refl)))

pub beside_learned : (s v k f w : ℕ) (u : Holdings) → Beside u (learned s (Vcpu v k) f w u)
beside_learned s v k f w u = either (Beside u) (v == s) _ _ (beside_own k w u) (beside u u refl refl refl refl refl refl refl refl)

-- what holds of the hand holds after each word, where it does so after those that tell more
pub learned_by {ℓ} : (R : Holdings → Type ℓ) (s : ℕ) (p : Place) (found left : ℕ) (u : Holdings) → R u → ((d : ℕ) → R (learned_life d found u)) → ((k : ℕ) → R (learned_own k left u)) →
    ((f i : ℕ) → R (learned_cell f i left u)) → R (learned s p found left u)
learned_by R s Clock found left u same life own cell = same
learned_by R s (Pages d) found left u same life own cell = same
learned_by R s (Life d) found left u same life own cell = life d
learned_by R s (Vcpu v k) found left u same life own cell = either R (v == s) _ _ (own k) same
learned_by R s (Refs f) found left u same life own cell = same
learned_by R s (Kind f) found left u same life own cell = same
learned_by R s (M2p f) found left u same life own cell = same
learned_by R s (Cell f i) found left u same life own cell = cell f i
learned_by R s (Map k) found left u same life own cell = same
learned_by R s (Priv d) found left u same life own cell = same

pub learned_steps : (s : ℕ) (p : Place) (found left : ℕ) (u : Holdings) → (learned s p found left u).steps ≡ u.steps
learned_steps s p found left u =
    learned_by (λ (v : Holdings). v.steps ≡ u.steps) s p found left u refl (λ d. either (λ (v : Holdings). v.steps ≡ u.steps) (found == 0) _ u refl refl) (λ k. (beside_own k left u).steps) (λ f i. refl)

-- ---- walks and Run steps
pub beside_ran : (w : ℕ) (u : Holdings) → Beside u (ran_now w u)
beside_ran w u = either (Beside u) (w == 0) _ _ (beside u _ refl refl refl refl refl refl refl refl) (beside u _ refl refl refl refl refl refl refl refl)

pub references_ran : (w : ℕ) (u : Holdings) → References u (ran_now w u)
references_ran w u = either (References u) (w == 0) _ _ (references u _ refl refl) (references u _ refl refl)

pub beside_started : (k w : ℕ) (write : Bool) (u : Holdings) → Beside u (started k w write u)
beside_started k w write u = either (Beside u) (w == 0) _ _ (beside u u refl refl refl refl refl refl refl refl) (beside u _ refl refl refl refl refl refl refl refl)

pub references_started : (k w : ℕ) (write : Bool) (u : Holdings) → References u (started k w write u)
references_started k w write u = either (References u) (w == 0) _ _ (references u u refl refl) (references u _ refl refl)

pub beside_descended : (n : Machine) (walk : Walk) (w : ℕ) (u : Holdings) → Beside u (descended n walk w u)
beside_descended n walk w u =
    either (Beside u) (not (nat_lt (frame_of w) n.frames)) _ _ (beside u _ refl refl refl refl refl refl refl refl)
    (either (Beside u) (level_of walk == 1) _ _ (beside u _ refl refl refl refl refl refl refl refl) (beside u _ refl refl refl refl refl refl refl refl))

pub references_descended : (n : Machine) (walk : Walk) (w : ℕ) (u : Holdings) → References u (descended n walk w u)
references_descended n walk w u =
    either (References u) (not (nat_lt (frame_of w) n.frames)) _ _ (references u _ refl refl)
    (either (References u) (level_of walk == 1) _ _ (references u _ refl refl) (references u _ refl refl))

pub beside_loaded : (n : Machine) (f i w : ℕ) (walk : Walk) (u : Holdings) → Beside u (loaded n f i w walk u)
beside_loaded n f i w walk u =
    either (Beside u) (not (is_bit 0 w)) _ _ (beside u _ refl refl refl refl refl refl refl refl)
    (either (Beside u) (touched walk w == w) _ _ (beside_descended n walk w u) (beside u _ refl refl refl refl refl refl refl refl))

pub references_loaded : (n : Machine) (f i w : ℕ) (walk : Walk) (u : Holdings) → References u (loaded n f i w walk u)
references_loaded n f i w walk u =
    either (References u) (not (is_bit 0 w)) _ _ (references u _ refl refl)
    (either (References u) (touched walk w == w) _ _ (references_descended n walk w u) (references u _ refl refl))
