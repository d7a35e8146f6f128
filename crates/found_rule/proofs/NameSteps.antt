-- A word of a vCPU that may name a frame.
use Rattle.std.proofs.Common.{◌≡◌, ◌≢◌, ℕ, zero, suc, ◌+◌, ◌<◌, ◌≤◌, ◌==◌, nat_lt, false, List, length, Option, Some, None, IsTrue, refl, sym, ap, subst, ◌∙◌, ◌⊎◌, inl, inr, arith}
use Rattle.std.proofs.lemmas.Bool.{cases_eq, cases_Bool, eqb-true}
use Rattle.std.proofs.lemmas.Bool.Decides.{nat_tests}
use Rattle.xp_words.specs.Machine.{Machine}
use Rattle.xp_words.specs.KindWords.{kind_fields}
use Rattle.xp_words.specs.declared.place.Place.{Place}
use Rattle.xp_words.specs.declared.place.Place.TheVariants.{Vcpu, Refs, Kind, Cell}
use Rattle.xp_words.specs.Places.{sizes_of, is_place, Sizes, run_of, flushed_of, ldt_base_of}
use Rattle.xp_board.specs.declared.step.Step.{Step}
use Rattle.xp_board.specs.declared.holdings.TypedReference.{TypedReference}
use Rattle.xp_board.specs.declared.holdings.Holdings.{Holdings}
use Rattle.xp_board.specs.Lists.{EachOf}
use Rattle.xp_board.specs.Readings.{is_context, is_live, clock_value}
use Rattle.xp_board.specs.Hands.{named_live}
use Rattle.xp_words.specs.declared.kind.PageType.{PageType}
use Rattle.xp_board.specs.declared.holdings.Made.{Made}
use Rattle.xp_board.specs.Valid.{is_live_context}
use Rattle.xp_board.specs.ContextSteps.{MayName, MayEmpty, context_type, named_in, named_out}
use Rattle.xp_board.specs.Sound.{Sound}
use Rattle.step_effects.proofs.ActEffects.{Named, Based}
use Rattle.found_rule.proofs.Growth.{Grown, added}
use Rattle.found_rule.proofs.Learning.{act}
use Rattle.found_rule.proofs.Words.{Words}
use Rattle.found_rule.proofs.WordsOf.{words_lone, lone_vcpu}
use Rattle.found_rule.proofs.KnownFacts.{RefRight, TypedRight, IsLiveAs, LiveRight, PartialRight}
use Rattle.found_rule.proofs.KnownStays.{owner_new, live_new, partial_new, live_found, partial_found}
use Rattle.found_rule.proofs.Demands.{RefsMoved, same_rest, then_moved}
use Rattle.found_rule.proofs.MyHand.{refs_old, typed_old}
use Rattle.found_rule.proofs.Outcome.{reach_kept}
use Rattle.found_rule.proofs.Quiet.{Done, fix_kept, zero_kept, same_hand, done_same}
use Rattle.xp_board.specs.After.{noted}
use Rattle.found_rule.proofs.RestLaw.{rest_done, rest_of}
use Rattle.xp_board.proofs.MoreSteps.{EachSince-some}
use Rattle.xp_board.proofs.LiveTables.{has_type}
use Rattle.xp_board.proofs.Counted.{not_context}
use Rattle.xp_board.proofs.HandTypes.{typed_named_out, typed_named_in}
use Rattle.xp_board.proofs.HandParts.{refs_named_out, refs_named_in}
use Rattle.xp_board.proofs.Sums.{either}

moved_named_out : (w : ℕ) (a : Holdings) → RefsMoved a (named_out w a)
moved_named_out zero a = same_rest a a refl
moved_named_out (suc f) a = same_rest a (named_out (suc f) a) refl

moved_named_in : (k w : ℕ) (a : Holdings) → RefsMoved a (named_in k w a)
moved_named_in k zero a = same_rest a a refl
moved_named_in k (suc f) a = same_rest a (named_in k (suc f) a) refl

-- a word that says a type names a live frame of it
types_live : (k : ℕ) (t : PageType) → IsTrue (is_context k) → context_type k ≡ Some t → IsTrue (is_live_context k)
types_live k t c e =
    elim (cases_Bool (nat_lt k 2)) [
      | inl low ↦ grind (arith, nat_tests)
      | inr high ↦ elim (cases_Bool (nat_lt k 4)) [ inl old ↦ absurd (let q = rw (high, old) at e in cc) | inr later ↦ grind (arith, nat_tests) ]
    ]

module _ (z : Sizes) (m m2 : Place → ℕ) (xs ys : List Made) (g : Grown z m m2 xs ys) (f : ℕ) (u : Holdings) (past : length xs ≤ length u.steps) where
  live_name : (kind : Option PageType) → ((t : PageType) → kind ≡ Some t → IsLiveAs m2 f t) → LiveRight z m2 ys f kind (named_live kind u)
  live_name (Some t) h = live_found z m m2 xs ys g f t (h t refl)
  live_name None h = live_new z m m2 xs ys g f None (length u.steps) past

  partial_name : (kind : Option PageType) → PartialRight z m2 ys f (named_live kind u)
  partial_name (Some t) = partial_found z m m2 xs ys g f
  partial_name None = partial_new z m m2 xs ys g f (length u.steps) past

module _ (n : Machine) (s : ℕ) (x : Step) (m m2 : Place → ℕ) (b c : ℕ → Holdings) (l : s < (sizes_of n).vcpus) (sound : Sound n m b) (others : (t : ℕ) → t ≢ s → c t ≡ b t) (v k : ℕ) where
  -- of another vCPU's vCPU only where it is stopped
  other_kept : (v ≡ s) ⊎ MayEmpty n s v k (m2 (Vcpu v k)) (b s) → k ≢ 6 → ((q : Place) → q ≢ Vcpu v k → m2 q ≡ m q) → (t j : ℕ) → t ≢ s → m2 (run_of t) ≢ 1 → m2 (Vcpu t j) ≡ m (Vcpu t j)
  other_kept may off o t j d run =
      elim (cases_eq t v) [
        | inr away ↦ o (Vcpu t j) (λ e. away (cc))
        | inl at ↦
            elim may [
              | inl own ↦ absurd (d (at ∙ own))
              | inr empty ↦
                  (let one = EachSince-some (sizes_of n) 0 (run_of v) (λ w. w ≡ 1 → m (run_of v) ≡ 1) (λ w. w == 1) (b s).steps ((sound.found s l).stopped v) empty.stopped in
                  let was : m (run_of v) ≡ 1 = one.1 (eqb-true one.0 1 one.2) in
                  absurd (run (ap (λ y. m2 (run_of y)) at ∙ o (run_of v) (λ e. off (cc)) ∙ was)))
            ]
      ]

  whose : MayName n s v k (m2 (Vcpu v k)) (b s) ⊎ MayEmpty n s v k (m2 (Vcpu v k)) (b s) → (v ≡ s) ⊎ MayEmpty n s v k (m2 (Vcpu v k)) (b s)
  whose (inl name) = inl name.own
  whose (inr empty) = inr empty

  -- words where the act wrote no word of flushes or of run
  vcpu_words : (v ≡ s) ⊎ MayEmpty n s v k (m2 (Vcpu v k)) (b s) → k ≢ 5 → k ≢ 6 → ((q : Place) → q ≢ Vcpu v k → m2 q ≡ m q) → Words n s m m2 b
  unfolding clock_value
  vcpu_words may flush run o =
      let flushed : (t : ℕ) → m2 (flushed_of t) ≡ m (flushed_of t) = λ t. o (flushed_of t) (λ e. flush (cc)) in
      let runs : (t : ℕ) → m2 (run_of t) ≡ m (run_of t) = λ t. o (run_of t) (λ e. run (cc)) in
      let test : (k == 5) ≡ false = grind (arith, nat_tests) in
      words_lone n s m m2 b sound (Vcpu v k) o (λ g e. cc) (λ g e. cc) (λ g i e. cc)
      (lone_vcpu n s m m2 b sound (Vcpu v k) o v k refl (λ t. let e = flushed t in omega arith) (λ t h. runs t ∙ h) (λ t q. flushed t) (λ t q. runs t)
      (λ t q j a e r. other_kept may run o t j q r))
      (rw test (omega arith))

  place_named : Named n s x v k m m2 (b s) (c s) → (v < (sizes_of n).vcpus) × (k < 38)
  unfolding is_place
  place_named d = let real = d.wrote.real in (grind (arith, nat_tests), grind (arith, nat_tests))

  -- the frame that the word named is live with the word's type
  named_right : Named n s x v k m m2 (b s) (c s) → (f : ℕ) (t : PageType) → context_type k ≡ Some t → m (Vcpu v k) ≡ suc f → IsLiveAs m2 f t
  named_right d f t is named =
      let real = place_named d in
      let names : m (Vcpu v k) ≡ f + 1 = omega arith in
      let same : m2 (Kind f) ≡ m (Kind f) = d.wrote.others (Kind f) (λ e. cc) in
      let type = has_type m f (context_type k) t is (sound.counts.kinds.contexts v k f real.0 real.1 d.word names) in
      let live = sound.valid.contexts v k f real.0 real.1 (types_live k t d.word is) names in
      (subst (λ w. IsTrue (is_live (kind_fields w))) (sym same) live, ap (λ w. (kind_fields w).kind) same ∙ type)

  pub named_done : Named n s x v k m m2 (b s) (c s) → Done n s m m2 b c
  unfolding clock_value
  named_done d =
      let w = d.wrote in
      let z = sizes_of n in
      let p = Vcpu v k in
      let gone = named_out (m2 p) (b s) in
      let u = named_in k (m p) gone in
      let moved = then_moved (b s) gone u (moved_named_out (m2 p) (b s)) (moved_named_in k (m p) gone) in
      let acted = act n s x p m m2 (b s) u (c s) w.place w.real w.left w.others moved.steps moved.run moved.old0 moved.old1 d.hand in
      let o = w.others in
      let flushed : (t : ℕ) → m2 (flushed_of t) ≡ m (flushed_of t) = λ t. o (flushed_of t) (λ e. not_context 5 k refl d.word (cc)) in
      let run : (t : ℕ) → m2 (run_of t) ≡ m (run_of t) = λ t. o (run_of t) (λ e. not_context 6 k refl d.word (cc)) in
      let cells : (f i : ℕ) → m2 (Cell f i) ≡ m (Cell f i) = λ f i. o (Cell f i) (λ e. cc) in
      let words = vcpu_words (whose d.may) (λ e. not_context 5 k refl d.word e) (λ e. not_context 6 k refl d.word e) o in
      let reach = reach_kept n s p m m2 b c u acted others moved.cache moved.walk cells in
      let grown : Grown z m m2 (b s).steps (c s).steps = added acted.made p acted.added acted.steps in
      let T : TypedReference → Type 0 = TypedRight z m2 (c s).steps in
      rest_done n s p m m2 b c u acted l sound others
      (rest_of (b s) u moved)
      (λ f. o (Kind f) (λ e. cc)) (λ f. o (Refs f) (λ e. cc)) words reach (fix_kept n s p m m2 b c u acted l sound cells) (zero_kept n s p m m2 b c u acted l sound cells) flushed run
      (subst (λ xs. EachOf (RefRight z m2 (c s).steps) xs) (sym (refs_named_in k (m p) gone ∙ refs_named_out (m2 p) (b s))) (refs_old n s p m m2 b c u acted l sound words reach))
      (typed_named_in T k (m p) gone
      (λ f named.
      let e : length gone.steps ≡ length (b s).steps = ap length (moved_named_out (m2 p) (b s)).steps in
      let past : length (b s).steps ≤ length gone.steps = omega arith in
      record {
        owner = owner_new z m m2 (b s).steps (c s).steps grown f (length gone.steps) past;
        live = live_name z m m2 (b s).steps (c s).steps grown f gone past (context_type k) (λ t is. named_right d f t is named);
        partial = partial_name z m m2 (b s).steps (c s).steps grown f gone past (context_type k);
      })
      (typed_named_out T (m2 p) (b s) (typed_old n s p m m2 b c u acted l sound words reach)))
      (let f = (sound.formed s l).cache in record { few = rw (moved.cache) f.few; walk = λ y t. f.walk y (sym moved.walk ∙ t) })

module _ (n : Machine) (s : ℕ) (x : Step) (m m2 : Place → ℕ) (b c : ℕ → Holdings) (l : s < (sizes_of n).vcpus) (sound : Sound n m b) (others : (t : ℕ) → t ≢ s → c t ≡ b t) (v : ℕ) where
  pub based_done : Based n s x v m m2 (b s) (c s) → Done n s m m2 b c
  based_done d =
      let w = d.wrote in
      let p = ldt_base_of v in
      let o = w.others in
      done_same n s p m m2 b c (b s)
      (act n s x p m m2 (b s) (b s) (c s) w.place w.real w.left o refl refl refl refl (d.hand ∙ ap (noted x (m p)) (sym (either (λ y. y ≡ (b s)) (v == s) (b s) (b s) refl refl))))
      l sound (same_hand (b s)) (vcpu_words n s x m m2 b c l sound others v 7 d.may (λ e. omega arith) (λ e. omega arith) o) others
      (λ f i. o (Cell f i) (λ e. cc)) (λ f. o (Kind f) (λ e. cc)) (λ f. o (Refs f) (λ e. cc)) (λ t. o (flushed_of t) (λ e. cc)) (λ t. o (run_of t) (λ e. cc)) refl refl
