-- An act on a frame's reference word.
use Rattle.std.proofs.Common.{◌≡◌, ◌≢◌, ℕ, ◌+◌, ◌/◌, ◌<◌, ◌≤◌, Some, refl, sym, ◌∙◌, ap, subst, arith, IsTrue, inl, inr}
use Rattle.std.proofs.lemmas.Bool.{cases_eq}
use Rattle.xp_words.specs.RefWords.{bit}
use Rattle.xp_words.specs.Machine.{Machine}
use Rattle.xp_words.specs.declared.place.Place.{Place}
use Rattle.xp_words.specs.declared.place.Place.TheVariants.{Clock, Pages, Vcpu, Refs, Kind, Cell, Map}
use Rattle.xp_words.specs.Places.{sizes_of, run_of}
use Rattle.xp_board.specs.declared.holdings.Holdings.{Holdings}
use Rattle.xp_board.specs.Lists.{times}
use Rattle.xp_board.specs.Readings.{kind_at, ref_count, allocated_mark, is_dying, is_free, free_stamp}
use Rattle.xp_board.specs.Hands.{refs_to, typed_to, locks_on, works_on, endings_of, claims_of, hand, typed_hand}
use Rattle.xp_board.specs.Recorded.{marks, is_page_of, CountsAgree}
use Rattle.xp_board.specs.Sound.{Spelled, HeldAlone, FreeMap, Sound}
use Rattle.count_rule.proofs.Learning.{works_kept}
use Rattle.count_rule.proofs.CountLaw.{pages_of, Steady, types_steady, counted_steady, counts_law}
use Rattle.count_rule.proofs.PartLaws.{alone_law, map_law, works_law, stamped_by, idle_running}
use Rattle.count_rule.proofs.Quiet.{held_still, is_closing_at, like_works, works_spared}
use Rattle.xp_board.proofs.Counted.{held_inside, hand_is, typed_hand-same}
use Rattle.count_rule.proofs.Outcome.{Outcome, cells_same, runs}
use Rattle.xp_board.proofs.Sums.{sum_below-one}

module _ (n : Machine) (s : ℕ) (m m2 : Place → ℕ) (b c : ℕ → Holdings) (vcpu : s < (sizes_of n).vcpus) (others : (t : ℕ) → t ≢ s → c t ≡ b t) (f : ℕ) where
  -- how the word of frame f moves, and what the hand has of references, endings, claims, raised frames and credits
  pub record RefMove : Type 0 where
    pub real : f < (sizes_of n).frames
    pub words : (q : Place) → q ≢ Refs f → m2 q ≡ m q
    pub typed : (c s).typed ≡ (b s).typed
    pub works : (c s).works ≡ (b s).works
    pub locks : (c s).locks ≡ (b s).locks
    pub cache : (c s).cache ≡ (b s).cache
    pub walk : (c s).walk ≡ (b s).walk
    pub cold : (c s).cold ≡ (b s).cold
    pub running : (b s).run ≡ Some 0
    pub stamp : free_stamp (m2 (Refs f)) ≤ m Clock
    pub refs_other : (g : ℕ) → g ≢ f → refs_to g (c s).refs ≡ refs_to g (b s).refs
    pub refs_here : ref_count (m2 (Refs f)) + (allocated_mark (m (Refs f)) + refs_to f (b s).refs) ≡ ref_count (m (Refs f)) + (allocated_mark (m2 (Refs f)) + refs_to f (c s).refs)
    pub spares : IsTrue (is_closing_at f (b s)) → 0 < refs_to f (b s).refs → 0 < refs_to f (c s).refs
    pub dying_other : (g : ℕ) → g ≢ f → endings_of g (c s).ending + claims_of g (c s).claimed ≡ endings_of g (b s).ending + claims_of g (b s).claimed
    pub dying_here : endings_of f (c s).ending + claims_of f (c s).claimed + bit (is_dying (m (Refs f))) ≡ endings_of f (b s).ending + claims_of f (b s).claimed + bit (is_dying (m2 (Refs f)))
    pub raised_other : (g : ℕ) → g ≢ f → times g (c s).raised ≡ times g (b s).raised
    pub raised_here : bit (is_free (m (Refs f))) + times f (b s).raised ≡ bit (is_free (m2 (Refs f))) + times f (c s).raised
    pub pages : (d : ℕ) → is_page_of d (m2 (Refs f)) + times d (c s).credits ≡ is_page_of d (m (Refs f)) + times d (b s).credits

  module _ (sound : Sound n m b) (move : RefMove) where
    refs_elsewhere : (g : ℕ) → g ≢ f → m2 (Refs g) ≡ m (Refs g)
    refs_elsewhere g off = move.words (Refs g) (λ e. off (cc))

    kinds_same : (g : ℕ) → m2 (Kind g) ≡ m (Kind g)
    kinds_same g = move.words (Kind g) (λ e. cc)

    steady : Steady n s m m2 b c vcpu others
    steady =
        record {
          held_same = λ g. held_still n s m m2 b c vcpu others g (kinds_same g) (rw move.works refl);
          demand_same = λ g i l. cells_same n s m m2 b c vcpu others kinds_same (λ k j. move.words (Cell k j) (λ e. cc)) g i;
          inside = λ g i l. held_inside n m b g i sound.spelled l;
          context_same = λ v k t. move.words (Vcpu v k) (λ e. cc);
          type_same = λ g l. rw (kinds_same g);
        }

    typed_hand_same : (g : ℕ) → typed_hand g (c s) ≡ typed_hand g (b s)
    typed_hand_same g = typed_hand-same g (b s) (c s) (ap (typed_to g) move.typed) (ap (locks_on g) move.locks)

    counted_refs : (g : ℕ) → ref_count (m2 (Refs g)) + (allocated_mark (m (Refs g)) + marks (kind_at m g) + hand g (b s)) ≡ ref_count (m (Refs g)) + (allocated_mark (m2 (Refs g)) + marks (kind_at m2 g) + hand g (c s))
    counted_refs g =
        let p = hand_is g (c s) in
        let q = hand_is g (b s) in
        let t = typed_hand_same g in
        rw (kinds_same g)
        (elim (cases_eq g f) [
          | inl at ↦
              let k = move.refs_here in
              let r = ap (λ x. refs_to x (c s).refs) at in
              let o = ap (λ x. refs_to x (b s).refs) at in
              rw (ap (λ x. m (Refs x)) at, ap (λ x. m2 (Refs x)) at) (omega arith)
          | inr off ↦ let k = move.refs_other g off in rw (refs_elsewhere g off) (omega arith)
        ])

    page_moves : (d : ℕ) → pages_of n m2 d + is_page_of d (m (Refs f)) ≡ pages_of n m d + is_page_of d (m2 (Refs f))
    page_moves d =
        sum_below-one (sizes_of n).frames (λ g. is_page_of d (m2 (Refs g))) (λ g. is_page_of d (m (Refs g))) f move.real
        (λ g off. ap (is_page_of d) (refs_elsewhere g off))

    ref_counts : CountsAgree (sizes_of n) m2 c
    ref_counts =
        counts_law n s m m2 b c vcpu others
        (counted_steady n s m m2 b c vcpu others steady sound.counts counted_refs
        (λ g. let e = typed_hand_same g in rw (kinds_same g) (omega arith))
        (types_steady n s m m2 b c vcpu others steady sound.counts (λ e. rw move.typed e) (λ e. rw move.locks e))
        (λ d l.
        let e = move.words (Pages d) (λ e. cc) in
        let p = page_moves d in
        let k = move.pages d in
        omega arith))
        sound.counts

    dying_moves : (g : ℕ) → endings_of g (c s).ending + claims_of g (c s).claimed + bit (is_dying (m (Refs g))) ≡ endings_of g (b s).ending + claims_of g (b s).claimed + bit (is_dying (m2 (Refs g)))
    dying_moves g =
        elim (cases_eq g f) [
          | inl at ↦ subst (λ x. endings_of x (c s).ending + claims_of x (c s).claimed + bit (is_dying (m (Refs x))) ≡ endings_of x (b s).ending + claims_of x (b s).claimed + bit (is_dying (m2 (Refs x)))) (sym at) move.dying_here
          | inr off ↦ let k = move.dying_other g off in rw (refs_elsewhere g off) (omega arith)
        ]

    ref_alone : HeldAlone n m2 c
    ref_alone =
        alone_law n s m m2 b c vcpu others
        (λ g. let e = ap (works_on g) move.works in rw (kinds_same g) (omega arith))
        (λ g. let e = ap (locks_on g) move.locks in rw (kinds_same g) (omega arith))
        dying_moves sound.alone

    raised_moves : (g : ℕ) → bit (is_free (m (Refs g))) + times g (b s).raised ≡ bit (is_free (m2 (Refs g))) + times g (c s).raised
    raised_moves g =
        elim (cases_eq g f) [
          | inl at ↦ subst (λ x. bit (is_free (m (Refs x))) + times x (b s).raised ≡ bit (is_free (m2 (Refs x))) + times x (c s).raised) (sym at) move.raised_here
          | inr off ↦ let k = move.raised_other g off in rw (refs_elsewhere g off) (omega arith)
        ]

    ref_map : FreeMap n m2 c
    ref_map =
        map_law n s m m2 b c vcpu others
        (λ g l. let k = raised_moves g in rw (move.words (Map (g / 64)) (λ e. cc)) (omega arith))
        sound.map

    spares_each : (g : ℕ) → IsTrue (is_closing_at g (b s)) → 0 < refs_to g (b s).refs → 0 < refs_to g (c s).refs
    spares_each g k l =
        elim (cases_eq g f) [
          | inl at ↦ subst (λ x. 0 < refs_to x (c s).refs) (sym at) (move.spares (subst (λ x. IsTrue (is_closing_at x (b s))) at k) (subst (λ x. 0 < refs_to x (b s).refs) at l))
          | inr off ↦ let e = move.refs_other g off in omega arith
        ]

    pub ref_outcome : Spelled n m2 → Outcome n m2 c
    ref_outcome spelled =
        record {
          spelled = spelled;
          counts = ref_counts;
          alone = ref_alone;
          works = works_law n s m m2 b c vcpu others (works_spared n s m m2 b c vcpu others (rw move.works (like_works (b s).works (b s).works (works_kept (b s).works))) spares_each sound.alone (sound.works s vcpu)) sound.works;
          stamped = let clock = move.words Clock (λ e. cc) in
              stamped_by n m m2 (Refs f) move.words (omega arith) (λ v e. absurd (cc))
              (λ g e. let k = move.stamp in omega arith) (λ g e. absurd (cc)) sound.stamped;
          idle = idle_running n s m m2 b c vcpu others (move.words (run_of s) (λ e. cc) ∙ runs n s m m2 b c vcpu others sound move.running) (λ v off. move.words (run_of v) (λ e. cc))
              (λ e. sym move.cold ∙ e) (λ k e. move.cache ∙ e) (λ k e. move.walk ∙ e) sound.idle;
          map = ref_map;
        }
