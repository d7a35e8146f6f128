-- The own translations are flushed.
use Rattle.std.proofs.Common.{◌≡◌, ◌≢◌, ℕ, suc, ◌<◌, ◌≤◌, ◌==◌, nat_lt, true, false, [], length, None, refl, sym, ap, subst, ◌∙◌, ◌⊎◌, inl, inr, arith}
use Rattle.std.proofs.lemmas.Bool.{cases_eq, cases_Bool, eqb-true, ltb-true}
use Rattle.xp_words.specs.Machine.{Machine}
use Rattle.xp_words.specs.declared.place.Place.{Place}
use Rattle.xp_words.specs.declared.place.Place.TheVariants.{Clock, Vcpu, Refs, Kind, Cell}
use Rattle.xp_words.specs.Places.{sizes_of, place_at, flushed_of, run_of}
use Rattle.xp_board.specs.declared.step.Step.{Step}
use Rattle.xp_board.specs.declared.holdings.Holdings.{Holdings}
use Rattle.xp_board.specs.Steps.{left_of, EachSince}
use Rattle.xp_board.specs.Readings.{clock_value}
use Rattle.xp_board.specs.Reach.{Reach}
use Rattle.xp_board.specs.Found.{ClockFound, before_off, FlushedSinceOff, ColdSinceOff}
use Rattle.xp_board.specs.AckSteps.{after_ack}
use Rattle.xp_board.specs.After.{noted}
use Rattle.xp_board.specs.Sound.{Sound}
use Rattle.step_effects.proofs.ActEffects.{Flushed}
use Rattle.found_rule.proofs.Learning.{Act, act}
use Rattle.found_rule.proofs.ReachSame.{reach_same}
use Rattle.found_rule.proofs.Words.{Words}
use Rattle.found_rule.proofs.WordFacts.{clock_some, off_same, cold_same}
use Rattle.found_rule.proofs.WordsOf.{words_lone, lone_vcpu}
use Rattle.found_rule.proofs.HandFacts.{ReachKept}
use Rattle.found_rule.proofs.MyHand.{HandRight, hand_with, mine_by}
use Rattle.found_rule.proofs.Outcome.{all_grown}
use Rattle.found_rule.proofs.FormedLaw.{formed_by, ending_formed_old, claimed_formed_old}
use Rattle.found_rule.proofs.Quiet.{Done, fix_kept, zero_kept, works_form, locks_form}
use Rattle.xp_board.proofs.HandLists.{EachOf-map, EachOf-all}
use Rattle.xp_board.proofs.MoreSteps.{EachSince-some}
use Rattle.xp_board.proofs.ReachAll.{Reach-none}
use Rattle.xp_board.proofs.Sums.{either}

module _ (n : Machine) (s : ℕ) (x : Step) (m m2 : Place → ℕ) (b c : ℕ → Holdings) (l : s < (sizes_of n).vcpus) (sound : Sound n m b) (others : (t : ℕ) → t ≢ s → c t ≡ b t) where
  -- ---- an act on a word of the own vCPU, which may drop its translations
  module _ (k : ℕ) (u : Holdings) (acted : Act n s (Vcpu s k) m m2 (b s) u (c s)) where
    cells : (f i : ℕ) → m2 (Cell f i) ≡ m (Cell f i)
    cells f i = acted.others (Cell f i) (λ e. cc)

    pub less_reach : ((u.cache ≡ []) × (u.walk ≡ None)) ⊎ ((u.cache ≡ (b s).cache) × (u.walk ≡ (b s).walk)) → ReachKept n m m2 b c
    unfolding cells
    less_reach how v f p r busy marked past =
        elim (cases_eq v s) [
          | inr off ↦ inl (reach_same (sizes_of n) m m2 (b v) (c v) cells (ap (λ y. y.cache) (others v off)) (ap (λ y. y.walk) (others v off)) past)
          | inl at ↦
              (let mine = subst (λ y. Reach (sizes_of n) m2 (c y) f p) at past in
              elim how [
                | inl none ↦ absurd (Reach-none (acted.learned.cache ∙ none.0) (acted.learned.walk ∙ none.1) mine)
                | inr same ↦
                    inl
                    (subst (λ y. Reach (sizes_of n) m (b y) f p) (sym at)
                    (reach_same (sizes_of n) m m2 (b s) (c s) cells (acted.learned.cache ∙ same.0) (acted.learned.walk ∙ same.1) mine))
              ])
        ]

    pub vcpu_hand : u.refs ≡ (b s).refs → u.typed ≡ (b s).typed → u.works ≡ (b s).works → u.locks ≡ (b s).locks → u.ending ≡ (b s).ending → u.claimed ≡ (b s).claimed →
        Words n s m m2 b → ReachKept n m m2 b c → ((m2 (flushed_of s) ≡ m (flushed_of s)) × (u.acked ≡ (b s).acked)) ⊎ (suc (length (b s).steps) ≤ u.acked) → HandRight n s m m2 b c u
    unfolding cells
    vcpu_hand refs typed works locks ending claimed words reach acks =
        hand_with n s (Vcpu s k) m m2 b c u acted l sound words reach refs typed works locks ending claimed (λ f. acted.others (Kind f) (λ e. cc)) (λ f. acted.others (Refs f) (λ e. cc))
        (fix_kept n s (Vcpu s k) m m2 b c u acted l sound cells) (zero_kept n s (Vcpu s k) m m2 b c u acted l sound cells) acks

    -- the vCPUs of other vCPUs
    pub other_off : (v : ℕ) → v ≢ s → (w : Holdings) → FlushedSinceOff (sizes_of n) m b v w → FlushedSinceOff (sizes_of n) m2 c v w
    other_off v off w h =
        off_same n m m2 b c v (acted.others (run_of v) (λ e. off (cc))) (ap (λ y. y.cold) (others v off)) w (acted.others (flushed_of v) (λ e. off (cc))) h

    pub other_cold : (v : ℕ) → v ≢ s → (w : Holdings) → ClockFound (sizes_of n) m w → ColdSinceOff (sizes_of n) m b v w → ColdSinceOff (sizes_of n) m2 c v w
    other_cold v off w found h =
        cold_same n m m2 b c v (acted.others (run_of v) (λ e. off (cc))) (ap (λ y. y.cold) (others v off)) w (let e = acted.others Clock (λ e. cc) in omega arith)
        (ap (λ y. y.ran) (others v off)) (all_grown n s (Vcpu s k) m m2 b c u acted others v) found h

  -- ---- flushed
  warm_off : m (flushed_of s) ≤ m2 (flushed_of s) → m (run_of s) ≡ 0 → (b s).cold ≡ false → (y : ℕ) → (m (run_of s) ≢ 0) ⊎ (((b s).cold ≡ true) ⊎ (y < m (flushed_of s))) →
      (m2 (run_of s) ≢ 0) ⊎ (((c s).cold ≡ true) ⊎ (y < m2 (flushed_of s)))
  warm_off later runs warm y (inl idle) = absurd (idle runs)
  warm_off later runs warm y (inr (inl cold)) = absurd cc
  warm_off later runs warm y (inr (inr below)) = inr (inr (omega arith))

  cold_off : Flushed n s x m m2 (b s) (c s) → (b s).cold ≡ true → (y : ℕ) → EachSince (sizes_of n) (b s).ran Clock (λ w. y ≤ w) (b s).steps →
      (m2 (run_of s) ≢ 0) ⊎ (((c s).cold ≡ true) ⊎ (y < m2 (flushed_of s)))
  cold_off d is y h =
      let k = EachSince-some (sizes_of n) (b s).ran Clock (λ w. y ≤ w) (λ w. nat_lt w (m2 (flushed_of s))) (b s).steps h (d.may.warmed is) in
      let e = ltb-true k.0 (m2 (flushed_of s)) k.2 in
      let f = k.1 in
      inr (inr (omega arith))

  -- the value is above each that was found before the vCPU was found off
  flushed_off : Flushed n s x m m2 (b s) (c s) → (h : Holdings) → m Clock ≤ m2 Clock → m2 (run_of s) ≡ m (run_of s) → m (flushed_of s) ≤ m2 (flushed_of s) →
      FlushedSinceOff (sizes_of n) m b s h → ColdSinceOff (sizes_of n) m b s h → FlushedSinceOff (sizes_of n) m2 c s h
  flushed_off d h clock run later off cold =
      let z = sizes_of n in
      let Q : ℕ → Type 0 = λ y. (m2 (run_of s) ≢ 0) ⊎ (((c s).cold ≡ true) ⊎ (y < m2 (flushed_of s))) in
      let P : ℕ → Type 0 = λ y. (m (run_of s) ≢ 0) ⊎ (((b s).cold ≡ true) ⊎ (y < m (flushed_of s))) in
      let C : ℕ → Type 0 = λ y. EachSince z (b s).ran Clock (λ w. y ≤ w) (b s).steps in
      elim (cases_eq (m (run_of s)) 0) [
        | inr idle ↦ (let o : m2 (run_of s) ≢ 0 = (λ e. idle (sym run ∙ e)) in EachOf-all (λ y. Q (clock_value (place_at z y.step.place) y.found) × Q (clock_value (place_at z y.step.place) (left_of y))) (before_off z s h) (λ y. (inl o, inl o)))
        | inl runs ↦
            elim (cases_Bool (b s).cold) [
              | inr warm ↦
                  EachOf-map (λ y. P (clock_value (place_at z y.step.place) y.found) × P (clock_value (place_at z y.step.place) (left_of y)))
                  (λ y. Q (clock_value (place_at z y.step.place) y.found) × Q (clock_value (place_at z y.step.place) (left_of y))) (before_off z s h)
                  (λ y t. (warm_off later runs warm (clock_value (place_at z y.step.place) y.found) t.0, warm_off later runs warm (clock_value (place_at z y.step.place) (left_of y)) t.1)) off
              | inl is ↦
                  EachOf-map (λ y. C (clock_value (place_at z y.step.place) y.found) × C (clock_value (place_at z y.step.place) (left_of y)))
                  (λ y. Q (clock_value (place_at z y.step.place) y.found) × Q (clock_value (place_at z y.step.place) (left_of y))) (before_off z s h)
                  (λ y t. (cold_off d is (clock_value (place_at z y.step.place) y.found) t.0, cold_off d is (clock_value (place_at z y.step.place) (left_of y)) t.1)) (cold is runs)
            ]
      ]

  pub flushed_done : Flushed n s x m m2 (b s) (c s) → Done n s m m2 b c
  unfolding clock_value
  flushed_done d =
      let w = d.wrote in
      let z = sizes_of n in
      let p = flushed_of s in
      let u = after_ack (b s) in
      let new = m2 (flushed_of s) in
      let acted = act n s x p m m2 (b s) u (c s) w.place w.real w.left w.others refl refl refl refl (d.hand ∙ ap (noted x (m p)) (sym (either (λ y. y ≡ u) (s == s) u u refl refl))) in
      let f = sound.found s l in
      let within : new ≤ m Clock = clock_some z (b s).acked new (m Clock) (b s).steps f.clock d.may.was_found in
      let since = EachSince-some z (b s).acked Clock (λ y. m (flushed_of s) ≤ y) (λ y. y == new) (b s).steps f.since_ack d.may.was_found in
      let later : m (flushed_of s) ≤ new = (let e = eqb-true since.0 new since.2 in let k = since.1 in omega arith) in
      let words = words_lone n s m m2 b sound p w.others (λ g e. cc) (λ g e. cc) (λ g i e. cc)
      (lone_vcpu n s m m2 b sound p w.others s 5 refl
      (λ t. elim (cases_eq t s) [ inl at ↦ rw at later | inr off ↦ (let e = w.others (flushed_of t) (λ q. off (cc)) in omega arith) ])
      (λ t o. w.others (run_of t) (λ e. cc) ∙ o) (λ t off. w.others (flushed_of t) (λ q. off (cc))) (λ t off. w.others (run_of t) (λ e. cc)) (λ t off k a b o. w.others (Vcpu t k) (λ e. b (cc))))
      (let e = w.others Clock (λ e. cc) in omega arith) in
      let reach = less_reach 5 u acted (inl (refl, d.may.landed)) in
      let run : m2 (run_of s) ≡ m (run_of s) = w.others (run_of s) (λ e. cc) in
      record {
        found = record {
          place = p;
          moved = u;
          words = words;
          reach = reach;
          offs = record {
            off = λ v r h found off cold. elim (cases_eq v s) [
              | inr away ↦ other_off 5 u acted v away h off
              | inl at ↦
                  subst (λ y. FlushedSinceOff z m2 c y h) (sym at)
                  (flushed_off d h words.moves.clock run later (subst (λ y. FlushedSinceOff z m b y h) at off) (subst (λ y. ColdSinceOff z m b y h) at cold))
            ];
            cold = λ v r h found cold. elim (cases_eq v s) [
              | inr away ↦ other_cold 5 u acted v away h found cold
              | inl at ↦ (λ is. absurd (let e : (c v).cold ≡ false = ap (λ y. (c y).cold) at ∙ acted.learned.cold in cc))
            ];
          };
          mine = mine_by n s p m m2 b c u acted (vcpu_hand 5 u acted refl refl refl refl refl refl words reach (inr (omega arith)));
        };
        formed =
            let g = sound.formed s l in
            formed_by n s p m m2 (b s) u (c s) acted
            (record {
              works = works_form n s p m m2 b c u acted l sound refl;
              locks = locks_form n s p m m2 b c u acted l sound refl;
              ending = ending_formed_old n s p m m2 (b s) u (c s) acted g;
              claimed = claimed_formed_old n s p m m2 (b s) u (c s) acted g;
              raised = record { held = g.raised.held };
              looking = g.looking;
              cache = record { few = omega arith; walk = g.cache.walk };
              turn = let q = g.turn in omega arith;
              acked = omega arith;
              ran = let q = g.ran in omega arith;
            }) g;
      }
