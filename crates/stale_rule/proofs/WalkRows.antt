-- Fresh after a step of the own walk: what it comes to, it came to already, or the base serves.
use Rattle.std.proofs.Common.{◌≡◌, ◌≢◌, ℕ, ◌+◌, ◌-◌, ◌<◌, ◌==◌, inl, inr, not, nat_lt, Bool, true, false, List, [], ◌∷◌, refl, sym, ◌∙◌, ap, subst, arith, IsTrue, if◌then◌else◌, Option, Some, None}
use Rattle.std.proofs.lemmas.Bool.Decides.{nat_tests}
use Rattle.std.proofs.lemmas.Bool.{and_parts}
use Rattle.xp_words.specs.Entries.{is_bit, frame_of}
use Rattle.xp_words.specs.Machine.{Machine}
use Rattle.xp_words.specs.declared.place.Place.{Place}
use Rattle.xp_words.specs.declared.place.Place.TheVariants.{Clock, Vcpu, Refs, Kind, Cell, Priv}
use Rattle.xp_words.specs.Places.{sizes_of, flushed_of}
use Rattle.xp_board.specs.declared.step.Step.{Step}
use Rattle.xp_board.specs.declared.step.Item.{Item}
use Rattle.xp_board.specs.declared.holdings.Reached.{Reached}
use Rattle.xp_board.specs.declared.holdings.Touching.{Touching}
use Rattle.xp_board.specs.declared.holdings.Walk.{Walk}
use Rattle.xp_board.specs.declared.holdings.Holdings.{Holdings}
use Rattle.xp_board.specs.Lists.{Member}
use Rattle.xp_board.specs.Hands.{claims_of}
use Rattle.xp_board.specs.FillSteps.{MayWalkOn, is_walked, started, loaded, descended, walked_by, touched, item_of, cached_with, level_of, is_for_write}
use Rattle.xp_board.specs.TouchSteps.{MayTouch}
use Rattle.xp_board.specs.Acts.{left_by}
use Rattle.xp_board.specs.Runs.{place_of}
use Rattle.xp_board.specs.WellFormed.{TouchesIn}
use Rattle.xp_board.specs.After.{noted}
use Rattle.xp_board.specs.Reach.{Table, use_of, reached_by, cached, walked}
use Rattle.xp_board.specs.Fresh.{Fresh}
use Rattle.xp_board.specs.Keeping.{Acted}
use Rattle.xp_board.specs.Sound.{Sound}
use Rattle.step_effects.proofs.ActEffects.{Started, WentOn, Touched}
use Rattle.stale_rule.proofs.CameFresh.{Came, alike_passes}
use Rattle.stale_rule.proofs.CellLaw.{cells_law, written_law}
use Rattle.stale_rule.proofs.Like.{HandLike, HandStays, same_stays, parts_like, then_like, cell_stays, own_stays}
use Rattle.stale_rule.proofs.Served.{base_served}
use Rattle.xp_board.proofs.CellAlike.{CellAlike, alike_same, touched_alike}
use Rattle.xp_board.proofs.WalkDown.{cached_comes, deeper_comes}

-- ---- hands that may come to more
-- all that is held was held, or is come to
pub record HandComes (n : Machine) (m : Place → ℕ) (b : ℕ → Holdings) (s : ℕ) (y : Holdings) : Type 1 where
  pub like : HandLike (b s) y
  pub claims : (g : ℕ) → claims_of g (b s).claimed ≡ 0 → claims_of g y.claimed ≡ 0
  pub items : (i : Item) → Member i y.cache → Came n m b s i.frame (use_of i)
  pub tables : (i : Reached) → Member i (reached_by y.walk) → Came n m b s i.table (Table i.level)

module _ (n : Machine) (s : ℕ) (m : Place → ℕ) (b : ℕ → Holdings) (real : s < (sizes_of n).vcpus) (sound : Sound n m b) where
  stays_comes : (y : Holdings) → HandStays (b s) y → HandComes n m b s y
  stays_comes y stays =
      record { like = stays.like; claims = stays.claims; items = λ i e. inl (cached i (stays.cache i e)); tables = λ i e. inl (walked i (stays.walk i e)) }

  then_comes : (y z : Holdings) → HandComes n m b s y → HandStays y z → HandComes n m b s z
  then_comes y z comes stays =
      record {
        like = then_like _ _ _ comes.like stays.like;
        claims = λ g e. stays.claims g (comes.claims g e);
        items = λ i e. comes.items i (stays.cache i e);
        tables = λ i e. comes.tables i (stays.walk i e);
      }

  if_comes : (t : Bool) (y z : Holdings) → (t ≡ true → HandComes n m b s y) → (t ≡ false → HandComes n m b s z) → HandComes n m b s (if t then y else z)
  if_comes true y z one two = one refl
  if_comes false y z one two = two refl

  no_walk : HandComes n m b s (record (b s) { walk = None })
  unfolding Member
  no_walk = record { like = parts_like _ _ refl refl refl; claims = λ g k. k; items = λ i e. inl (cached i e); tables = λ i e. absurd e }

  -- ---- a walk begins at the base
  base_came : (k g : ℕ) → k < 2 → m (Vcpu s k) ≡ g + 1 → Came n m b s g (Table 4)
  base_came k g few names = inr (inl (base_served n m b sound s k g real few names))

  start_by : (k w : ℕ) (write t : Bool) → k < 2 → m (Vcpu s k) ≡ w → (w == 0) ≡ t → HandComes n m b s (if t then b s else record (b s) { walk = Some (record { user = k == 1; write = write; writable = true; page = 0; reached = record { table = w - 1; level = 4 } ∷ []; touching = None }) })
  unfolding Member
  start_by k w write true few at e = stays_comes (b s) (same_stays (b s))
  start_by k w write false few at e =
      let some : w ≢ 0 = (λ z. absurd (let t : (w == 0) ≡ true = grind (arith, nat_tests) in cc)) in
      record {
        like = parts_like _ _ refl refl refl;
        claims = λ g k. k;
        items = λ i e. inl (cached i e);
        tables = λ i e. elim e [
          | inl is ↦ subst (λ j. Came n m b s j.table (Table j.level)) is (base_came k (w - 1) few (omega arith))
          | inr rest ↦ absurd rest
        ];
      }

  start_comes : (k : ℕ) (write : Bool) → k < 2 → HandComes n m b s (started k (m (Vcpu s k)) write (b s))
  start_comes k write few = start_by k (m (Vcpu s k)) write _ few refl refl

  -- ---- a walk goes down through an entry
  module _ (walk old : Walk) (f level i w : ℕ) (above : List Reached) (flying : (b s).walk ≡ Some old) (same : walk.reached ≡ old.reached)
      (reached : walk.reached ≡ record { table = f; level = level } ∷ above) (walks : IsTrue (is_walked level i)) (alike : CellAlike (m (Cell f i)) w)
      (present : is_bit 0 w ≡ true) (writable : walk.writable ≡ true → is_bit 1 w ≡ true) where
    cached_hand : frame_of w < (sizes_of n).frames → (level_of walk == 1) ≡ true →
        HandComes n m b s (record (b s) { walk = None; cache = cached_with (item_of walk w) (b s).cache })
    unfolding Member
    cached_hand inside lowest =
        record {
          like = parts_like _ _ refl refl refl;
          claims = λ g k. k;
          items = cached_comes (sizes_of n) m (b s) (Came n m b s) (λ g u r. inl r) (λ g r. inr (inr (refl, r))) walk old f level i w above flying same reached walks alike present inside writable lowest;
          tables = λ k e. absurd e;
        }

    deeper_hand : frame_of w < (sizes_of n).frames → (level_of walk == 1) ≡ false →
        HandComes n m b s (record (b s) { walk = Some (record walk { reached = record { table = frame_of w; level = level_of walk - 1 } ∷ walk.reached; touching = None }) })
    deeper_hand inside higher =
        record {
          like = parts_like _ _ refl refl refl;
          claims = λ g k. k;
          items = λ k e. inl (cached k e);
          tables = deeper_comes (sizes_of n) m (b s) (Came n m b s) (λ g u r. inl r) (λ g r. inr (inr (refl, r))) walk old f level i w above flying same reached walks alike present inside higher;
        }

    pub descends : HandComes n m b s (descended n walk w (b s))
    descends =
        if_comes (not (nat_lt (frame_of w) n.frames)) _ _ (λ out. no_walk)
        (λ inside.
        let within : frame_of w < (sizes_of n).frames = grind (arith, nat_tests) in
        if_comes (level_of walk == 1) _ _ (cached_hand within) (deeper_hand within))

module _ (n : Machine) (s : ℕ) (x : Step) (m m2 : Place → ℕ) (b c : ℕ → Holdings) (real : s < (sizes_of n).vcpus) (acted : Acted n s x m m2 b c) (sound : Sound n m b) where
  -- no word changes
  load_law : (p : Place) (y : Holdings) → place_of n x ≡ p → ((q : Place) → m2 q ≡ m q) → left_by x.act (m p) ≡ m p → c s ≡ noted x (m p) y → HandComes n m b s y → Fresh n m2 c
  load_law p y at words left hand comes =
      cells_law n s x (m p) m m2 b c y real sound acted.others hand comes.like (λ e. let k : m p ≡ m Clock = ap m (sym at ∙ e) in (omega arith, omega arith))
      comes.claims (λ d. words (Priv d)) (λ v. words (flushed_of v)) (λ f. words (Refs f)) (λ f. words (Kind f)) comes.items comes.tables
      (λ v f i live. alike_passes n m m2 b sound v f i (alike_same _ _ (words (Cell f i))))

  pub start_row : (k : ℕ) → Started n s x k m m2 (b s) (c s) → Fresh n m2 c
  start_row k d =
      load_law (Vcpu s k) _ d.place d.words d.left d.hand
      (then_comes n s m b real sound _ _ (start_comes n s m b real sound k (is_for_write x.mark) (let e = d.may.word in grind (arith, nat_tests))) (own_stays k (m (Vcpu s k)) _))

  loaded_comes : (f i : ℕ) (walk : Walk) → MayWalkOn f i walk (b s) → HandComes n m b s (loaded n f i (m (Cell f i)) (walked_by i (m (Cell f i)) walk) (b s))
  loaded_comes f i walk may =
      let w = m (Cell f i) in
      let on = walked_by i w walk in
      if_comes n s m b real sound (not (is_bit 0 w)) _ _ (λ out. no_walk n s m b real sound)
      (λ present.
      let there : is_bit 0 w ≡ true = grind arith in
      if_comes n s m b real sound (touched on w == w) _ _
      (λ done.
      descends n s m b real sound on walk f may.level i w may.above may.flying refl may.reached may.walked (alike_same _ _ refl) there
      (λ e. (and_parts walk.writable (is_bit 1 w) e).1))
      (λ more.
      stays_comes n s m b real sound _
      (record { like = parts_like _ _ refl refl refl; claims = λ g k. k; cache = λ k e. e; walk = λ k e. subst (λ o. Member k (reached_by o)) (sym may.flying) e })))

  pub walk_row : (f i : ℕ) → WentOn n x f i m m2 (b s) (c s) → Fresh n m2 c
  walk_row f i d =
      load_law (Cell f i) _ d.place d.words d.left d.hand
      (then_comes n s m b real sound _ _ (loaded_comes f i d.walk d.may) (cell_stays f i (m (Cell f i)) _))

  -- ---- the bits that the walk sets
  touch_by : (f i : ℕ) (walk : Walk) → MayTouch f i (m (Cell f i)) (m2 (Cell f i)) walk (b s) → (xs : List Reached) (o : Option Touching) → walk.reached ≡ xs → walk.touching ≡ o →
      TouchesIn walk xs o → HandComes n m b s (descended n walk (m2 (Cell f i)) (b s))
  touch_by f i walk may [] (Some t) at at2 formed = absurd formed
  touch_by f i walk may [] None at at2 formed = absurd (let e = may.needed in cc)
  touch_by f i walk may (k ∷ ks) None at at2 formed = absurd (let e = may.needed in cc)
  touch_by f i walk may (k ∷ ks) (Some t) at at2 formed =
      let is : t ≡ record { frame = f; index = i; word = m (Cell f i) } = (let e = sym at2 ∙ may.needed in cc) in
      let frame : f ≡ k.table = sym (ap (λ y. y.frame) is) ∙ formed.frame in
      let alike = subst (λ w. CellAlike (m (Cell f i)) w) (sym may.left) (touched_alike walk (m (Cell f i))) in
      descends n s m b real sound walk walk f k.level i (m2 (Cell f i)) ks may.flying refl
      (at ∙ ap (λ g. record { table = g; level = k.level } ∷ ks) (sym frame))
      (subst (λ j. IsTrue (is_walked k.level j)) (ap (λ y. y.index) is) formed.walked) alike
      (alike.present ∙ subst (λ w. is_bit 0 w ≡ true) (ap (λ y. y.word) is) formed.present)
      (λ e. alike.writable ∙ subst (λ w. is_bit 1 w ≡ true) (ap (λ y. y.word) is) (formed.writable e))

  pub touch_row : (f i : ℕ) → Touched n x f i m m2 (b s) (c s) → Fresh n m2 c
  touch_row f i d =
      let formed = (sound.formed s real).cache.walk d.walk d.may.flying in
      let comes = then_comes n s m b real sound _ _ (touch_by f i d.walk d.may d.walk.reached d.walk.touching refl refl formed.touching) (cell_stays f i (m2 (Cell f i)) _) in
      written_law n s x f i _ m m2 b c _ real sound acted.others d.wrote d.hand comes.like comes.claims comes.items comes.tables
      (λ v live. alike_passes n m m2 b sound v f i (subst (λ w. CellAlike (m (Cell f i)) w) (sym d.may.left) (touched_alike d.walk (m (Cell f i)))))
