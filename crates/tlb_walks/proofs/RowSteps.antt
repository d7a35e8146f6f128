-- When each step of a walk may be made, and what it leaves in hand.
use Rattle.std.proofs.Common.{◌≡◌, ◌≢◌, ℕ, ◌^◌, ◌<◌, ◌==◌, not, nat_lt, if◌then◌else◌, Bool, true, false, [], List, Option, Some, None, Result, Ok, Err, IfErr, MatchResult, IsTrue, length, refl, ap, ◌∙◌, subst, lit<}
use Rattle.xp_words.specs.Entries.{is_bit, frame_of}
use Rattle.xp_words.specs.Machine.{Machine}
use Rattle.xp_words.specs.Places.{sizes_of}
use Rattle.xp_words.specs.declared.place.Place.TheVariants.{Vcpu, Cell}
use Rattle.xp_words.proofs.Shared.{eq_false as when_ne}
use Rattle.xp_board.specs.declared.holdings.Holdings.{Holdings}
use Rattle.xp_board.specs.declared.holdings.Claimed.{Claimed}
use Rattle.xp_board.specs.declared.holdings.Lock.{Lock}
use Rattle.xp_board.specs.declared.holdings.Walk.{Walk}
use Rattle.xp_board.specs.declared.holdings.Work.{Work}
use Rattle.xp_board.specs.declared.step.Act.{Act}
use Rattle.xp_board.specs.declared.step.Act.TheVariants.{Load, Cas, Store}
use Rattle.xp_board.specs.declared.step.Mark.TheVariants as marks
use Rattle.xp_board.specs.declared.step.StepKind.TheVariants as kinds
use Rattle.xp_board.specs.Acts.{left_by}
use Rattle.xp_board.specs.After.{learned_cell, learned_claim, learned_lock, learned_own, learned_work}
use Rattle.xp_board.specs.FillSteps.{MayWalkOn, descended, level_of, loaded, started, touched, walked_by, walked_on}
use Rattle.xp_board.specs.GuestSteps.{MayStore}
use Rattle.xp_board.specs.Lists.{changed_by}
use Rattle.xp_board.specs.Spelling.{IsSpelling}
use Rattle.xp_board.specs.Told.{PortValue}
use Rattle.xp_board.specs.TouchSteps.{MayTouch, touched_by}
use Rattle.xp_board.proofs.Numbers.{cell_there, vcpu_there}
use Rattle.xp_board.proofs.Sums.{when_eq}
use Rattle.own_cache.proofs.Projecting.{on_is, set_is}
use Rattle.own_cache.specs.Translating.{Translating, flown, gone_on, landed, set_bits, translating, walk_begun}
use Rattle.step_maker.specs.Holds.{Same, still}
use Rattle.step_maker.specs.Moves.{May, Moves, found_by}
use Rattle.tlb_walks.specs.Flying.{WalkReady, Turned}
use Rattle.tlb_walks.specs.Walks.{top_word}

-- ---- may be made
pub small_word : (user : Bool) → top_word user < 38
small_word true = lit< tt
small_word false = lit< tt

begins : (user : Bool) → IsTrue (nat_lt (top_word user) 2)
begins true = refl
begins false = refl

pub may_base : (v : PortValue) (s : ℕ) (user write : Bool) → s ≡ v.post.vcpu → s < length v.post.machine.vcpu_domain → WalkReady v → v.holdings.walk ≡ None →
    May v (Vcpu s (top_word user)) Load kinds.Fill (Some (marks.Walk write))
may_base v s user write own real ready landed =
    record {
      place = vcpu_there (sizes_of v.post.machine) s (top_word user) real (small_word user);
      marked = tt;
      running = λ needs. ready.running;
      spelling = tt;
      act = (record { own = own; word = begins user; none = landed; warm = ready.warm }, tt);
    }

pub may_entry : (v : PortValue) (f i : ℕ) → f < v.post.machine.frames → i < 512 → WalkReady v → (walk : Walk) × MayWalkOn f i walk v.holdings → May v (Cell f i) Load kinds.Fill None
may_entry v f i frame index ready flying = record { place = cell_there (sizes_of v.post.machine) f i frame index; marked = tt; running = λ needs. ready.running; spelling = tt; act = (flying, tt) }

pub may_touch : (v : PortValue) (f i e x : ℕ) → f < v.post.machine.frames → i < 512 → WalkReady v → x < 2 ^ 64 → (walk : Walk) × MayTouch f i e x walk v.holdings → May v (Cell f i) (Cas e x) kinds.Touch None
unfolding IsSpelling
may_touch v f i e x frame index ready small touching =
    record { place = cell_there (sizes_of v.post.machine) f i frame index; marked = tt; running = λ needs. ready.running; spelling = small; act = touching }

pub may_store : (v : PortValue) (f i x : ℕ) → f < v.post.machine.frames → i < 512 → WalkReady v → x < 2 ^ 64 → MayStore f v.holdings → May v (Cell f i) (Store x) kinds.Guest None
unfolding IsSpelling
may_store v f i x frame index ready small cached =
    record { place = cell_there (sizes_of v.post.machine) f i frame index; marked = tt; running = λ needs. ready.running; spelling = small; act = cached }

-- ---- only the walk and the translations change
abbrev pub Keeps : Holdings → Holdings → Type 0
Keeps h k = k ≡ record h { walk = k.walk; cache = k.cache }

either_keeps : (h : Holdings) (b : Bool) (x y : Holdings) → Keeps h x → Keeps h y → Keeps h (if b then x else y)
either_keeps h true x y p q = p
either_keeps h false x y p q = q

started_keeps : (k w : ℕ) (write : Bool) (h : Holdings) → Keeps h (started k w write h)
started_keeps k w write h = either_keeps h (w == 0) h _ refl refl

below_keeps : (n : Machine) (walk : Walk) (w : ℕ) (h : Holdings) → Keeps h (descended n walk w h)
below_keeps n walk w h = either_keeps h (not (nat_lt (frame_of w) n.frames)) _ _ refl (either_keeps h (level_of walk == 1) _ _ refl refl)

seen_keeps : (n : Machine) (f i w : ℕ) (walk : Walk) (h : Holdings) → Keeps h (loaded n f i w walk h)
seen_keeps n f i w walk h = either_keeps h (not (is_bit 0 w)) _ _ refl (either_keeps h (touched walk w == w) _ _ (below_keeps n walk w h) refl)

on_keeps : (n : Machine) (f i w : ℕ) (o : Option Walk) (h : Holdings) → Keeps h (walked_on n f i w o h)
on_keeps n f i w (Some walk) h = seen_keeps n f i w (walked_by i w walk) h
on_keeps n f i w None h = refl

set_keeps : (n : Machine) (met : Bool) (x : ℕ) (o : Option Walk) (h : Holdings) → Keeps h (touched_by n met x o h)
set_keeps n true x (Some walk) h = below_keeps n walk x h
set_keeps n false x (Some walk) h = refl
set_keeps n true x None h = refl
set_keeps n false x None h = refl

-- a cell tells nothing where no frame is worked on
changed_empty : {A : Type 0} (key : A → ℕ) (f : ℕ) (change : A → A) (xs : List A) → xs ≡ [] → changed_by key f change xs ≡ xs
unfolding changed_by
changed_empty key f change xs e = rw e refl

untold : (f i w : ℕ) (k : Holdings) → k.works ≡ [] → k.locks ≡ [] → k.claimed ≡ [] → learned_cell f i w k ≡ k
untold f i w k a b c =
    let x = changed_empty (λ (e : Work). e.frame) f (learned_work i w) k.works a in
    let y = changed_empty (λ (e : Lock). e.frame) f (learned_lock i w) k.locks b in
    let z = changed_empty (λ (e : Claimed). e.frame) f (learned_claim i w) k.claimed c in
    λ j. record k { works = x j; locks = y j; claimed = z j }

begun_by : (b : Bool) (h x : Holdings) (t u : Translating) → translating h ≡ t → translating x ≡ u → translating (if b then h else x) ≡ (if b then t else u)
begun_by true h x t u p q = p
begun_by false h x t u p q = q

begun_is : (k w : ℕ) (write : Bool) (h : Holdings) → translating (started k w write h) ≡ walk_begun (k == 1) write w (translating h)
begun_is k w write h = begun_by (w == 0) h _ _ _ refl refl

abbrev pub set_down : PortValue → Holdings → PortValue
set_down v k = record { post = v.post; holdings = record k { steps = [] }; told = None }

turned : (v w : PortValue) (k : Holdings) (t : Translating) → still w ≡ set_down v k → Keeps v.holdings k → translating k ≡ t → Turned v w t
turned v w k t e keeps is =
    record {
      walk = k.walk;
      hand = e ∙ ap (set_down v) keeps ∙ ap (λ (u : Translating). set_down v (record v.holdings { walk = k.walk; cache = u.items })) is;
      flight = ap (λ (u : Translating). u.flight) is;
    }

module _ (v : PortValue) (ready : WalkReady v) where
  told_nothing : (f i w : ℕ) (k : Holdings) → Keeps v.holdings k → learned_cell f i w k ≡ k
  told_nothing f i w k keeps =
      untold f i w k
      (ap (λ (h : Holdings). h.works) keeps ∙ ready.empty.works)
      (ap (λ (h : Holdings). h.locks) keeps ∙ ready.empty.locks)
      (ap (λ (h : Holdings). h.claimed) keeps ∙ ready.empty.claimed)

  pub entry_turned : (w : PortValue) (f i x : ℕ) → Moves v w (Cell f i) Load kinds.Fill None x → Turned v w (gone_on v.post.machine.frames i x (flown v.holdings.walk) (translating v.holdings))
  entry_turned w f i x m =
      let k = walked_on v.post.machine f i x v.holdings.walk v.holdings in
      let keeps = on_keeps v.post.machine f i x v.holdings.walk v.holdings in
      turned v w k _ (ap still m.to ∙ ap (set_down v) (told_nothing f i (left_by Load x) k keeps)) keeps (on_is v.post.machine f i x v.holdings.walk v.holdings)

  touch_turned : (w : PortValue) (f i e y x : ℕ) (met : Bool) → (x == e) ≡ met → Moves v w (Cell f i) (Cas e y) kinds.Touch None x →
      Turned v w (set_bits v.post.machine.frames met y (flown v.holdings.walk) (translating v.holdings))
  touch_turned w f i e y x met is m =
      let k = touched_by v.post.machine (x == e) y v.holdings.walk v.holdings in
      let keeps = set_keeps v.post.machine (x == e) y v.holdings.walk v.holdings in
      turned v w k _ (ap still m.to ∙ ap (set_down v) (told_nothing f i (left_by (Cas e y) x) k keeps)) keeps
      (set_is v.post.machine (x == e) y v.holdings.walk v.holdings ∙ ap (λ b. set_bits v.post.machine.frames b y (flown v.holdings.walk) (translating v.holdings)) is)

  -- an exchange that met the word, or lost it
  pub touch_hand : (w : PortValue) (f i e y : ℕ) (r : Result (Unit {0}) ℕ) → (walk : Walk) × MayTouch f i e y walk v.holdings → Moves v w (Cell f i) (Cas e y) kinds.Touch None (found_by e r) →
      IfErr r (λ found. found ≢ e) →
      MatchResult r (λ done. Turned v w (set_bits v.post.machine.frames true y (flown v.holdings.walk) (translating v.holdings))) (λ found. Turned v w (landed (translating v.holdings)))
  touch_hand w f i e y (Ok done) may m off = touch_turned w f i e y e true (when_eq e e refl) m
  touch_hand w f i e y (Err found) may m off =
      subst (λ (t : Translating). Turned v w t) (ap (λ o. set_bits v.post.machine.frames false y (flown o) (translating v.holdings)) may.1.flying)
      (touch_turned w f i e y found false (when_ne found e off) m)

  -- an access of the guest changes nothing in hand
  pub guest_same : (w : PortValue) (f i x : ℕ) (a : Act) → Moves v w (Cell f i) a kinds.Guest None x → Same v w
  guest_same w f i x a m = ap still m.to ∙ ap (set_down v) (told_nothing f i (left_by a x) v.holdings refl)

  own_left : (user : Bool) (x : ℕ) (k : Holdings) → learned_own (top_word user) x k ≡ k
  own_left true x k = refl
  own_left false x k = refl

  same_own : (s t : ℕ) (x y : Holdings) → s ≡ t → (if s == t then x else y) ≡ x
  same_own s t x y e = ap (λ b. if b then x else y) (when_eq s t e)

  pub base_turned : (w : PortValue) (s x : ℕ) (user write : Bool) → s ≡ v.post.vcpu → Moves v w (Vcpu s (top_word user)) Load kinds.Fill (Some (marks.Walk write)) x →
      Turned v w (walk_begun user write x (translating v.holdings))
  base_turned w s x user write own m =
      let k = started (top_word user) x write v.holdings in
      turned v w k _ (ap still m.to ∙ ap (set_down v) (same_own s v.post.vcpu _ k own ∙ own_left user (left_by Load x) k)) (started_keeps (top_word user) x write v.holdings)
      (begun_is (top_word user) x write v.holdings ∙ ap (λ b. walk_begun b write x (translating v.holdings)) (is_user user))
    where
      is_user : (u : Bool) → (top_word u == 1) ≡ u
      is_user true = refl
      is_user false = refl

pub ruleset rows = (cell_there, vcpu_there, may_base, may_entry, may_touch, entry_turned, touch_hand, base_turned, guest_same, may_store)
