-- An act on a frame's kind word.
use Rattle.std.proofs.Common.{◌≡◌, ◌≢◌, ℕ, ◌+◌, ◌/◌, ◌<◌, ◌≤◌, ◌⊎◌, Some, refl, sym, ◌∙◌, ap, subst, arith, inl, inr}
use Rattle.std.proofs.lemmas.Bool.{cases_eq}
use Rattle.xp_words.specs.RefWords.{bit}
use Rattle.xp_words.specs.Machine.{Machine}
use Rattle.xp_words.specs.declared.place.Place.{Place}
use Rattle.xp_words.specs.declared.place.Place.TheVariants.{Clock, Pages, Vcpu, Refs, Kind, Cell, Map}
use Rattle.xp_words.specs.Places.{sizes_of, run_of}
use Rattle.xp_words.specs.Entries.{demand_at}
use Rattle.xp_board.specs.declared.holdings.Holdings.{Holdings}
use Rattle.xp_board.specs.Lists.{EachOf}
use Rattle.xp_board.specs.Readings.{kind_at, ref_count, allocated_mark, type_count, kind_stamp, is_locked}
use Rattle.xp_board.specs.Hands.{refs_to, typed_to, locks_on, works_on, hand, typed_hand}
use Rattle.xp_board.specs.Recorded.{held, entry_demand, marks, HasType, is_page_of, recorded_in, CountsAgree}
use Rattle.xp_board.specs.Sound.{is_busy, Spelled, HeldAlone, WorkAgrees, Sound}
use Rattle.count_rule.proofs.CountLaw.{pages_of, Steady, types_steady, counted_steady, counts_law}
use Rattle.count_rule.proofs.PartLaws.{alone_law, map_law, works_law, stamped_by, idle_running}
use Rattle.count_rule.proofs.Quiet.{held_still}
use Rattle.xp_board.proofs.Counted.{held_inside, hand_is, typed_hand_is}
use Rattle.count_rule.proofs.Outcome.{Outcome, runs}
use Rattle.xp_board.proofs.Sums.{sum_below-same}

module _ (n : Machine) (s : ℕ) (m m2 : Place → ℕ) (b c : ℕ → Holdings) (vcpu : s < (sizes_of n).vcpus) (others : (t : ℕ) → t ≢ s → c t ≡ b t) (f : ℕ) where
  -- what of the hand stays
  pub record Rest : Type 0 where
    pub ending : (c s).ending ≡ (b s).ending
    pub claimed : (c s).claimed ≡ (b s).claimed
    pub raised : (c s).raised ≡ (b s).raised
    pub credits : (c s).credits ≡ (b s).credits
    pub cache : (c s).cache ≡ (b s).cache
    pub walk : (c s).walk ≡ (b s).walk
    pub cold : (c s).cold ≡ (b s).cold
    pub refs : (g : ℕ) → g ≢ f → refs_to g (c s).refs ≡ refs_to g (b s).refs
    pub typed : (g : ℕ) → g ≢ f → typed_to g (c s).typed ≡ typed_to g (b s).typed
    pub locks : (g : ℕ) → g ≢ f → locks_on g (c s).locks ≡ locks_on g (b s).locks
    pub works : (g : ℕ) → g ≢ f → works_on g (c s).works ≡ works_on g (b s).works
    pub recorded : (g : ℕ) → g ≢ f → recorded_in (c s).works g ≡ recorded_in (b s).works g

  -- how the word of frame f moves, and what the hand has of it
  pub record KindMove : Type 0 where
    pub words : (q : Place) → q ≢ Kind f → m2 q ≡ m q
    pub rest : Rest
    pub running : (b s).run ≡ Some 0
    pub stamp : kind_stamp (m2 (Kind f)) ≤ m Clock
    pub refs_here : marks (kind_at m f) + (refs_to f (b s).refs + (typed_to f (b s).typed + locks_on f (b s).locks)) ≡ marks (kind_at m2 f) + (refs_to f (c s).refs + (typed_to f (c s).typed + locks_on f (c s).locks))
    pub types_here : type_count (kind_at m2 f) + (marks (kind_at m f) + (typed_to f (b s).typed + locks_on f (b s).locks)) ≡ type_count (kind_at m f) + (marks (kind_at m2 f) + (typed_to f (c s).typed + locks_on f (c s).locks))
    pub works_here : works_on f (c s).works + bit (is_busy (kind_at m f)) ≡ works_on f (b s).works + bit (is_busy (kind_at m2 f))
    pub locks_here : locks_on f (c s).locks + bit (is_locked (kind_at m f)) ≡ locks_on f (b s).locks + bit (is_locked (kind_at m2 f))
    pub held_here : HeldAlone n m2 c → held (sizes_of n) m2 c f ≡ held (sizes_of n) m b f
    -- it keeps its type, or nothing names it with a type and no entry of it is recorded
    pub kind_here : ((kind_at m2 f).kind ≡ (kind_at m f).kind) ⊎ ((type_count (kind_at m f) ≡ 0) × (held (sizes_of n) m b f ≡ 0))
    pub typed : EachOf (λ e. HasType m2 e.frame e.kind) (b s).typed → EachOf (λ e. HasType m2 e.frame e.kind) (c s).typed
    pub locks : EachOf (λ e. HasType m2 e.frame (Some e.kind)) (b s).locks → EachOf (λ e. HasType m2 e.frame (Some e.kind)) (c s).locks
    pub works : EachOf (WorkAgrees (c s)) (c s).works

  module _ (sound : Sound n m b) (move : KindMove) where
    kinds_elsewhere : (g : ℕ) → g ≢ f → m2 (Kind g) ≡ m (Kind g)
    kinds_elsewhere g off = move.words (Kind g) (λ e. off (cc))

    refs_same : (g : ℕ) → m2 (Refs g) ≡ m (Refs g)
    refs_same g = move.words (Refs g) (λ e. cc)

    each_frame : (P : ℕ → Type 0) → P f → ((g : ℕ) → g ≢ f → P g) → (g : ℕ) → P g
    each_frame P here there g = elim (cases_eq g f) [ inl at ↦ subst P (sym at) here | inr off ↦ there g off ]

    kind_alone : HeldAlone n m2 c
    kind_alone =
        alone_law n s m m2 b c vcpu others
        (each_frame (λ g. works_on g (c s).works + bit (is_busy (kind_at m g)) ≡ works_on g (b s).works + bit (is_busy (kind_at m2 g))) move.works_here
        (λ g off. let e = move.rest.works g off in rw (kinds_elsewhere g off) (omega arith)))
        (each_frame (λ g. locks_on g (c s).locks + bit (is_locked (kind_at m g)) ≡ locks_on g (b s).locks + bit (is_locked (kind_at m2 g))) move.locks_here
        (λ g off. let e = move.rest.locks g off in rw (kinds_elsewhere g off) (omega arith)))
        (λ g. rw (move.rest.ending, move.rest.claimed, refs_same g) refl)
        sound.alone

    kind_demands : (g i : ℕ) → i < held (sizes_of n) m b g → entry_demand m2 g i ≡ entry_demand m g i
    kind_demands g i l =
        let cell : m2 (Cell g i) ≡ m (Cell g i) = move.words (Cell g i) (λ e. cc) in
        elim (cases_eq g f) [
          | inl at ↦
              elim move.kind_here [
                | inl same ↦ rw cell (ap (λ y. demand_at y i (m (Cell g i))) (ap (λ y. (kind_at m2 y).kind) at ∙ same ∙ ap (λ y. (kind_at m y).kind) (sym at)))
                | inr none ↦ let k = ap (held (sizes_of n) m b) at in let z = none.1 in absurd (omega arith)
              ]
          | inr off ↦ rw (cell, kinds_elsewhere g off) refl
        ]

    steady : Steady n s m m2 b c vcpu others
    steady =
        record {
          held_same = each_frame (λ g. held (sizes_of n) m2 c g ≡ held (sizes_of n) m b g) (move.held_here kind_alone)
              (λ g off. held_still n s m m2 b c vcpu others g (kinds_elsewhere g off) (move.rest.recorded g off));
          demand_same = kind_demands;
          inside = λ g i l. held_inside n m b g i sound.spelled l;
          context_same = λ v k t. move.words (Vcpu v k) (λ e. cc);
          type_same = each_frame (λ g. 0 < type_count (kind_at m g) → (kind_at m2 g).kind ≡ (kind_at m g).kind)
              (λ l. elim move.kind_here [
                | inl same ↦ same
                | inr none ↦ let z = none.0 in absurd (omega arith)
              ])
              (λ g off l. rw (kinds_elsewhere g off) refl);
        }

    counted_refs : (g : ℕ) → ref_count (m2 (Refs g)) + (allocated_mark (m (Refs g)) + marks (kind_at m g) + hand g (b s)) ≡ ref_count (m (Refs g)) + (allocated_mark (m2 (Refs g)) + marks (kind_at m2 g) + hand g (c s))
    counted_refs g =
        rw (refs_same g)
        (each_frame (λ g. ref_count (m (Refs g)) + (allocated_mark (m (Refs g)) + marks (kind_at m g) + hand g (b s)) ≡ ref_count (m (Refs g)) + (allocated_mark (m (Refs g)) + marks (kind_at m2 g) + hand g (c s)))
        (let p = hand_is f (c s) in let q = hand_is f (b s) in let r = typed_hand_is f (c s) in let t = typed_hand_is f (b s) in let k = move.refs_here in omega arith)
        (λ g off.
        let p = hand_is g (c s) in let q = hand_is g (b s) in let r = typed_hand_is g (c s) in let t = typed_hand_is g (b s) in
        let x = move.rest.refs g off in let y = move.rest.typed g off in let z = move.rest.locks g off in
        rw (kinds_elsewhere g off) (omega arith)) g)

    counted_types : (g : ℕ) → type_count (kind_at m2 g) + (marks (kind_at m g) + typed_hand g (b s)) ≡ type_count (kind_at m g) + (marks (kind_at m2 g) + typed_hand g (c s))
    counted_types =
        each_frame (λ g. type_count (kind_at m2 g) + (marks (kind_at m g) + typed_hand g (b s)) ≡ type_count (kind_at m g) + (marks (kind_at m2 g) + typed_hand g (c s)))
        (let r = typed_hand_is f (c s) in let t = typed_hand_is f (b s) in let k = move.types_here in omega arith)
        (λ g off.
        let r = typed_hand_is g (c s) in let t = typed_hand_is g (b s) in
        let y = move.rest.typed g off in let z = move.rest.locks g off in
        rw (kinds_elsewhere g off) (omega arith))

    kind_counts : CountsAgree (sizes_of n) m2 c
    kind_counts =
        counts_law n s m m2 b c vcpu others
        (counted_steady n s m m2 b c vcpu others steady sound.counts counted_refs counted_types
        (types_steady n s m m2 b c vcpu others steady sound.counts move.typed move.locks)
        (λ d l.
        let e = move.words (Pages d) (λ e. cc) in
        let p : pages_of n m2 d ≡ pages_of n m d = sum_below-same _ _ _ (λ f k. ap (is_page_of d) (refs_same f)) in
        rw move.rest.credits (omega arith)))
        sound.counts

    pub kind_outcome : Spelled n m2 → Outcome n m2 c
    kind_outcome spelled =
        let clock = move.words Clock (λ e. cc) in
        record {
          spelled = spelled;
          counts = kind_counts;
          alone = kind_alone;
          works = works_law n s m m2 b c vcpu others move.works sound.works;
          stamped =
              stamped_by n m m2 (Kind f) move.words (omega arith) (λ v e. absurd (cc)) (λ g e. absurd (cc)) (λ g e. let k = move.stamp in omega arith) sound.stamped;
          idle =
              idle_running n s m m2 b c vcpu others (move.words (run_of s) (λ e. cc) ∙ runs n s m m2 b c vcpu others sound move.running) (λ v off. move.words (run_of v) (λ e. cc))
              (λ e. sym move.rest.cold ∙ e) (λ k e. move.rest.cache ∙ e) (λ k e. move.rest.walk ∙ e) sound.idle;
          map = map_law n s m m2 b c vcpu others (λ g l. rw (refs_same g, move.words (Map (g / 64)) (λ e. cc), move.rest.raised) refl) sound.map;
        }
