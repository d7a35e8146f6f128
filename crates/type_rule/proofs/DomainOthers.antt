-- Dying and dead domains: acts on words of vCPUs, on cells and on words of domains.
use Rattle.std.proofs.Common.{◌≡◌, ◌≢◌, ℕ, ◌<◌, ◌==◌, ◌⊎◌, not, if◌then◌else◌, Bool, true, false, refl, sym, ◌∙◌, ap, subst, inl, inr}
use Rattle.xp_words.specs.Machine.{Machine}
use Rattle.xp_words.specs.declared.place.Place.{Place}
use Rattle.xp_words.specs.declared.place.Place.TheVariants.{Clock, Pages, Life, Vcpu, Refs, Kind, M2p, Cell, Map, Priv}
use Rattle.xp_words.specs.Places.{sizes_of, asked_of, flushed_of}
use Rattle.xp_words.specs.Entries.{demand_at}
use Rattle.xp_board.specs.declared.step.Step.{Step}
use Rattle.xp_board.specs.declared.holdings.Looking.{Looking}
use Rattle.xp_board.specs.declared.holdings.Holdings.{Holdings}
use Rattle.xp_board.specs.Acts.{left_by}
use Rattle.xp_board.specs.Lists.{Member, kept_of}
use Rattle.xp_board.specs.Settling.{demand_out}
use Rattle.xp_board.specs.FillSteps.{started, walked_by, is_for_write}
use Rattle.xp_board.specs.After.{noted, learned, learned_own}
use Rattle.xp_board.specs.Runs.{place_of}
use Rattle.xp_board.specs.Sound.{Sound}
use Rattle.step_effects.proofs.ActEffects.{Looked, Exchanged, Rewrote, Filled, GuestStored, Started, WentOn, Touched, Stumbled, Mapped, Charged, Refunded, Asked, Flushed, Ticked, Hinted, Privileged}
use Rattle.type_rule.proofs.HandParts.{SameTwo, two_of, three_in, three_out, three_own, three_started, three_loaded, three_descended}
use Rattle.type_rule.proofs.DomainLaw.{DomainChange}
use Rattle.type_rule.proofs.DomainWords.{change_by, same_words, learned_alive}
use Rattle.xp_board.proofs.Sums.{if_itself}

module _ (n : Machine) (s : ℕ) (x : Step) (m m2 : Place → ℕ) (b c : ℕ → Holdings) (real : s < (sizes_of n).vcpus) (sound : Sound n m b)
    (others : (t : ℕ) → t ≢ s → c t ≡ b t) where
  -- ---- acts that read nothing of these laws
  -- the place is none of those that these laws read
  abbrev IsElsewhere : Place → Type 0
  IsElsewhere p = ((v k : ℕ) → k ≢ 4 → k ≢ 5 → Vcpu v k ≢ p) × ((f : ℕ) → Refs f ≢ p) × ((f : ℕ) → Kind f ≢ p)

  quiet : (p : Place) (y : Holdings) → place_of n x ≡ p → left_by x.act (m p) ≡ m2 p → ((q : Place) → q ≢ p → m2 q ≡ m q) → IsElsewhere p →
      c s ≡ noted x (m p) y → SameTwo (b s) y → DomainChange n s x m m2 b c
  quiet p y place left same away hand two =
      change_by n s x m m2 b c others p y place left hand two.steps
      (same_words n s x m m2 b c others (λ v k a e. same (Vcpu v k) (away.0 v k a e)) (λ f. same (Refs f) (away.1 f)) (λ f. same (Kind f) (away.2 f))
      (λ f e there at w alive. rw (ap (λ u. u.looking) hand ∙ two.looking) there))

  same_two : SameTwo (b s) (b s)
  same_two = record { looking = refl; steps = refl }

  at_clock : IsElsewhere Clock
  at_clock = (λ v k a e q. cc, λ f q. cc, λ f q. cc)

  at_cell : (f i : ℕ) → IsElsewhere (Cell f i)
  at_cell f i = (λ v k a e q. cc, λ g q. cc, λ g q. cc)

  at_m2p : (f : ℕ) → IsElsewhere (M2p f)
  at_m2p f = (λ v k a e q. cc, λ g q. cc, λ g q. cc)

  at_pages : (d : ℕ) → IsElsewhere (Pages d)
  at_pages d = (λ v k a e q. cc, λ g q. cc, λ g q. cc)

  at_map : (j : ℕ) → IsElsewhere (Map j)
  at_map j = (λ v k a e q. cc, λ g q. cc, λ g q. cc)

  at_priv : (d : ℕ) → IsElsewhere (Priv d)
  at_priv d = (λ v k a e q. cc, λ g q. cc, λ g q. cc)

  at_vcpu : (v k : ℕ) → (k ≡ 4) ⊎ (k ≡ 5) → IsElsewhere (Vcpu v k)
  at_vcpu v k (inl at) = (λ w j a e q. a (let r : j ≡ k = cc in r ∙ at), λ g q. cc, λ g q. cc)
  at_vcpu v k (inr at) = (λ w j a e q. e (let r : j ≡ k = cc in r ∙ at), λ g q. cc, λ g q. cc)

  pub ticked_change : Ticked n x m m2 (b s) (c s) → DomainChange n s x m m2 b c
  ticked_change d = quiet Clock (b s) d.wrote.place d.wrote.left d.wrote.others at_clock d.hand same_two

  pub mapped_change : (f : ℕ) → Mapped n x f m m2 (b s) (c s) → DomainChange n s x m m2 b c
  mapped_change f d = quiet (M2p f) (b s) d.wrote.place d.wrote.left d.wrote.others (at_m2p f) d.hand same_two

  pub charged_change : (q : ℕ) → Charged n x q m m2 (b s) (c s) → DomainChange n s x m m2 b c
  charged_change q d = quiet (Pages q) _ d.wrote.place d.wrote.left d.wrote.others (at_pages q) d.hand (record { looking = refl; steps = refl })

  pub refunded_change : (q by : ℕ) → Refunded n x q by m m2 (b s) (c s) → DomainChange n s x m m2 b c
  refunded_change q by d = quiet (Pages q) _ d.wrote.place d.wrote.left d.wrote.others (at_pages q) d.hand (record { looking = refl; steps = refl })

  pub hinted_change : (k by : ℕ) → Hinted n x k by m m2 (b s) (c s) → DomainChange n s x m m2 b c
  hinted_change k by d = quiet (Map k) _ d.wrote.place d.wrote.left d.wrote.others (at_map k) d.hand (record { looking = refl; steps = refl })

  pub privileged_change : (q : ℕ) → Privileged n s x q m m2 (b s) (c s) → DomainChange n s x m m2 b c
  privileged_change q d = quiet (Priv q) (b s) d.wrote.place d.wrote.left d.wrote.others (at_priv q) d.hand same_two

  pub asked_change : (v : ℕ) → Asked n x v m m2 (b s) (c s) → DomainChange n s x m m2 b c
  asked_change v d = quiet (asked_of v) (b s) d.wrote.place d.wrote.left d.wrote.others (at_vcpu v 4 (inl refl)) d.hand same_two

  pub flushed_change : Flushed n s x m m2 (b s) (c s) → DomainChange n s x m m2 b c
  flushed_change d = quiet (flushed_of s) _ d.wrote.place d.wrote.left d.wrote.others (at_vcpu s 5 (inr refl)) d.hand (record { looking = refl; steps = refl })

  pub exchanged_change : (f i : ℕ) → Exchanged n x f i m m2 (b s) (c s) → DomainChange n s x m m2 b c
  exchanged_change f i d =
      let out = three_out (demand_at d.e.kind i (m2 (Cell f i))) (b s) in
      let back = three_in true (demand_at d.e.kind i (m (Cell f i))) (demand_out (demand_at d.e.kind i (m2 (Cell f i))) (b s)) in
      quiet (Cell f i) _ d.wrote.place d.wrote.left d.wrote.others (at_cell f i) d.hand (record { looking = back.looking ∙ out.looking; steps = back.steps ∙ out.steps })

  pub rewrote_change : (f i : ℕ) → Rewrote n x f i m m2 (b s) (c s) → DomainChange n s x m m2 b c
  rewrote_change f i d = quiet (Cell f i) _ d.wrote.place d.wrote.left d.wrote.others (at_cell f i) d.hand (record { looking = refl; steps = refl })

  pub filled_change : (f i : ℕ) → Filled n x f i m m2 (b s) (c s) → DomainChange n s x m m2 b c
  filled_change f i d = quiet (Cell f i) _ d.wrote.place d.wrote.left d.wrote.others (at_cell f i) d.hand (record { looking = refl; steps = refl })

  pub guest_change : (f i : ℕ) → GuestStored n x f i m m2 (b s) (c s) → DomainChange n s x m m2 b c
  guest_change f i d = quiet (Cell f i) _ d.wrote.place d.wrote.left d.wrote.others (at_cell f i) d.hand (record { looking = refl; steps = refl })

  pub touched_change : (f i : ℕ) → Touched n x f i m m2 (b s) (c s) → DomainChange n s x m m2 b c
  touched_change f i d =
      let k = three_descended n d.walk (m2 (Cell f i)) (b s) in
      quiet (Cell f i) _ d.wrote.place d.wrote.left d.wrote.others (at_cell f i) d.hand (record { looking = k.looking; steps = k.steps })

  -- ---- loads
  load : (p : Place) (y : Holdings) → place_of n x ≡ p → left_by x.act (m p) ≡ m p → ((q : Place) → m2 q ≡ m q) → c s ≡ noted x (m p) y → y.steps ≡ (b s).steps →
      ((e : Looking) → Member e (b s).looking → m (Life e.owner) ≢ 0 → Member e y.looking) → DomainChange n s x m m2 b c
  load p y place left words hand same looks =
      change_by n s x m m2 b c others p y place (left ∙ sym (words p)) hand same
      (same_words n s x m m2 b c others (λ v k a e. words (Vcpu v k)) (λ f. words (Refs f)) (λ f. words (Kind f))
      (λ f e there at w alive. rw (ap (λ u. u.looking) hand) (looks e there alive)))

  plain_load : (p : Place) (y : Holdings) → place_of n x ≡ p → left_by x.act (m p) ≡ m p → ((q : Place) → m2 q ≡ m q) → c s ≡ noted x (m p) y → SameTwo (b s) y →
      DomainChange n s x m m2 b c
  plain_load p y place left words hand two = load p y place left words hand two.steps (λ e there alive. rw two.looking there)

  life_steps : (t : Bool) (d : ℕ) (h : Holdings) → ((if t then record h { looking = kept_of (λ e. not (e.owner == d)) h.looking } else h).steps ≡ h.steps)
  life_steps true d h = refl
  life_steps false d h = refl

  pub looked_change : (p : Place) → Looked n s x p m m2 (b s) (c s) → DomainChange n s x m m2 b c
  looked_change (Life q) d =
      load (Life q) _ d.place d.left d.words d.hand (life_steps (m (Life q) == 0) q (b s))
      (λ e there alive. learned_alive q (m (Life q)) (b s) e there (λ at z. alive (ap (λ o. m (Life o)) (sym at) ∙ z)))
  looked_change (Vcpu v k) d = plain_load (Vcpu v k) _ d.place d.left d.words d.hand (two_of _ _ (three_own s v k (m (Vcpu v k)) (m (Vcpu v k)) (b s)))
  looked_change (Cell f i) d = plain_load (Cell f i) _ d.place d.left d.words d.hand (record { looking = refl; steps = refl })
  looked_change Clock d = plain_load Clock _ d.place d.left d.words d.hand same_two
  looked_change (Pages q) d = plain_load (Pages q) _ d.place d.left d.words d.hand same_two
  looked_change (Refs f) d = plain_load (Refs f) _ d.place d.left d.words d.hand same_two
  looked_change (Kind f) d = plain_load (Kind f) _ d.place d.left d.words d.hand same_two
  looked_change (M2p f) d = plain_load (M2p f) _ d.place d.left d.words d.hand same_two
  looked_change (Map k) d = plain_load (Map k) _ d.place d.left d.words d.hand same_two
  looked_change (Priv q) d = plain_load (Priv q) _ d.place d.left d.words d.hand same_two

  pub own_two : (k w : ℕ) (h : Holdings) → SameTwo h (learned_own k w h)
  own_two k w h = let t = three_own s s k w w h in let e : learned s (Vcpu s k) w w h ≡ learned_own k w h = if_itself s (learned_own k w h) h in subst (λ y. SameTwo h y) e (two_of _ _ t)

  pub started_change : (k : ℕ) → Started n s x k m m2 (b s) (c s) → DomainChange n s x m m2 b c
  started_change k d =
      let y = started k (m (Vcpu s k)) (is_for_write x.mark) (b s) in
      let first = three_started k (m (Vcpu s k)) (is_for_write x.mark) (b s) in
      let own = own_two k (m (Vcpu s k)) y in
      plain_load (Vcpu s k) _ d.place d.left d.words d.hand (record { looking = own.looking ∙ first.looking; steps = own.steps ∙ first.steps })

  pub went_change : (f i : ℕ) → WentOn n x f i m m2 (b s) (c s) → DomainChange n s x m m2 b c
  went_change f i d =
      let k = three_loaded n f i (m (Cell f i)) (walked_by i (m (Cell f i)) d.walk) (b s) in
      plain_load (Cell f i) _ d.place d.left d.words d.hand (record { looking = k.looking; steps = k.steps })

  pub stumbled_change : (f i : ℕ) → Stumbled n x f i m m2 (b s) (c s) → DomainChange n s x m m2 b c
  stumbled_change f i d = plain_load (Cell f i) _ d.place d.left d.words d.hand (record { looking = refl; steps = refl })
