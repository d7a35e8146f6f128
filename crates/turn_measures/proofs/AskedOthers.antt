-- What the steps of a vCPU leave of the words of another that are of flushes, or say whether it runs: by the legality of the steps alone.
use Rattle.std.proofs.Common.{◌≡◌, ◌≢◌, ◌⊎◌, ℕ, ◌≤◌, ◌==◌, ◌||◌, true, false, List, [], ◌∷◌, Option, refl, sym, ap, ◌∙◌, subst, inl, inr, arith}
use Rattle.std.proofs.lemmas.Bool.{cases_Bool}
use Rattle.xp_words.specs.Machine.{Machine}
use Rattle.xp_words.specs.declared.place.Place.{Place}
use Rattle.xp_words.specs.declared.place.Place.TheVariants.{Vcpu}
use Rattle.xp_board.specs.declared.holdings.Holdings.{Holdings}
use Rattle.xp_board.specs.declared.step.Act.{Act}
use Rattle.xp_board.specs.declared.step.Act.TheVariants.{Load, Cas, Store, Add, Max}
use Rattle.xp_board.specs.declared.step.Mark.{Mark}
use Rattle.xp_board.specs.declared.step.StepKind.{StepKind}
use Rattle.xp_board.specs.declared.step.StepKind.TheVariants as steps
use Rattle.xp_board.specs.Acts.{left_by}
use Rattle.xp_board.specs.ContextSteps.{LegalContext}
use Rattle.xp_board.specs.Legal.{LegalAs}
use Rattle.xp_board.specs.Marks.{after_mark}
use Rattle.xp_board.specs.Readings.{is_context}
use Rattle.xp_board.specs.Steps.{is_same}
use Rattle.xp_board.specs.Told.{Post, PortValue, is_telling, told_word}
use Rattle.xp_board.proofs.PlaceTests.{same_place, is_same-refl}
use Rattle.step_maker.specs.Moves.{Came, Moment, Moves, Ran}
use Rattle.step_maker.proofs.Coming.{ran_post}
use Rattle.step_maker.proofs.Telling.{ran_telling, told_elsewhere, told_here, told_there}

-- ---- by kind
-- the act is a load, or asks for a flush
abbrev LooksOrAsks : ℕ → Act → Type 0
LooksOrAsks k a = (a ≡ Load) ⊎ ((k ≡ 4) × ((value : ℕ) × (a ≡ Max value)))

-- neither a word that names frames, nor the base of an LDT
module _ (n : Machine) (s t k : ℕ) (h : Holdings) (other : t ≢ s) (plain : (is_context k || (k == 7)) ≡ false) where
  names_none : (new : ℕ) → LegalContext n s h (Vcpu t k) (Store new) → ⊥
  names_none new (inl name) = other name.own
  names_none new (inr (inl base)) = other base.own
  names_none new (inr (inr empty)) = let word = empty.word in cc

  by_kind : (a : Act) (mark : Option Mark) (kind : StepKind) → LegalAs n s h (Vcpu t k) a mark kind → LooksOrAsks k a
  by_kind Load mark how legal = inl refl
  by_kind (Store new) mark steps.Context legal = absurd (names_none new legal)
  by_kind (Store new) mark steps.Ack legal = absurd (other legal.own)
  by_kind (Store new) mark steps.Run legal = absurd (other legal.0)
  by_kind (Max value) mark steps.Ask legal = inr (legal.0, (value, refl))
  by_kind (Cas e new) mark steps.Look legal = absurd legal
  by_kind (Add by) mark steps.Look legal = absurd legal
  by_kind _ _ _ legal = absurd legal

-- ---- one step
same_left : (k x : ℕ) (a : Act) → k ≢ 4 → LooksOrAsks k a → left_by a x ≡ x
unfolding left_by
same_left k x a off (inl load) = ap (λ (b : Act). left_by b x) load
same_left k x a off (inr asks) = absurd (off asks.0)

left_least : (k x : ℕ) (a : Act) → LooksOrAsks k a → x ≤ left_by a x
unfolding left_by
left_least k x a (inl load) = let same : left_by a x ≡ x = ap (λ (b : Act). left_by b x) load in omega (arith, same)
left_least k x a (inr asks) = let most = ap (λ (b : Act). left_by b x) asks.1.1 in omega (arith, most)

pub is_there : (p q : Place) → (q ≡ p) ⊎ (q ≢ p)
is_there p q = elim (cases_Bool (is_same q p)) [
  | inl on ↦ inl (same_place q p on)
  | inr off ↦ inr (λ e. let same : is_same p p ≡ false = subst (λ r. is_same r p ≡ false) e off in let all = is_same-refl p in cc)
]

-- the word that it leaves where it is made
pub word_here : (v w : PortValue) (p : Place) (a : Act) (kind : StepKind) (mark : Option Mark) (found : ℕ) → Moves v w p a kind mark found → is_telling v ≡ true → (q : Place) → q ≡ p → told_word w q ≡ left_by a (told_word v q)
word_here v w p a kind mark found m is q at = ap (told_word w) at ∙ told_here v w p a kind mark found m is ∙ ap (left_by a) (sym (told_there v w p a kind mark found m is) ∙ ap (told_word v) (sym at))

module _ (v w : PortValue) (p : Place) (a : Act) (kind : StepKind) (mark : Option Mark) (found t k : ℕ) (m : Moves v w p a kind mark found) (other : t ≢ v.post.vcpu) (plain : (is_context k || (k == 7)) ≡ false) (is : is_telling v ≡ true) where
  looks : Vcpu t k ≡ p → LooksOrAsks k a
  looks at = by_kind v.post.machine v.post.vcpu t k (after_mark v.post.machine mark v.holdings) other plain a mark kind
      (subst (λ q. LegalAs v.post.machine v.post.vcpu (after_mark v.post.machine mark v.holdings) q a mark kind) (sym at) m.may.act)

  here : Vcpu t k ≡ p → told_word w (Vcpu t k) ≡ left_by a (told_word v (Vcpu t k))
  here at = word_here v w p a kind mark found m is (Vcpu t k) at

  moved_same : k ≢ 4 → told_word w (Vcpu t k) ≡ told_word v (Vcpu t k)
  moved_same off = elim (is_there p (Vcpu t k)) [
    | inl at ↦ here at ∙ same_left k (told_word v (Vcpu t k)) a off (looks at)
    | inr away ↦ told_elsewhere v w p a kind mark found m (Vcpu t k) away
  ]

  moved_least : told_word v (Vcpu t k) ≤ told_word w (Vcpu t k)
  moved_least = elim (is_there p (Vcpu t k)) [
    | inl at ↦ (let same = here at in let least = left_least k (told_word v (Vcpu t k)) a (looks at) in omega (arith, same, least))
    | inr away ↦ (let same = told_elsewhere v w p a kind mark found m (Vcpu t k) away in omega (arith, same))
  ]

-- ---- many
module _ (v : PortValue) (t k : ℕ) (other : t ≢ v.post.vcpu) (plain : (is_context k || (k == 7)) ≡ false) (is : is_telling v ≡ true) where
  still : (u : PortValue) (ms : List Moment) → Ran v ms u → t ≢ u.post.vcpu
  still u ms ran = subst (λ (q : Post). t ≢ q.vcpu) (sym (ran_post v u ms ran)) other

  ran_same : (w : PortValue) (ms : List Moment) → Ran v ms w → k ≢ 4 → told_word w (Vcpu t k) ≡ told_word v (Vcpu t k)
  ran_same w [] ran off = ap (λ (y : PortValue). told_word y (Vcpu t k)) ran
  ran_same w (m ∷ ms) ran off =
      moved_same ran.0 w m.place m.act m.kind m.mark m.found t k ran.2.moves (still ran.0 ms ran.1) plain (ran_telling v ran.0 ms ran.1 ∙ is) off ∙ ran_same ran.0 ms ran.1 off

  ran_least : (w : PortValue) (ms : List Moment) → Ran v ms w → told_word v (Vcpu t k) ≤ told_word w (Vcpu t k)
  ran_least w [] ran = let same = ap (λ (y : PortValue). told_word y (Vcpu t k)) ran in omega (arith, same)
  ran_least w (m ∷ ms) ran =
      let first = ran_least ran.0 ms ran.1 in
      let next = moved_least ran.0 w m.place m.act m.kind m.mark m.found t k ran.2.moves (still ran.0 ms ran.1) plain (ran_telling v ran.0 ms ran.1 ∙ is) in
      omega (arith, first, next)

  pub others_same : (w : PortValue) → Came v w → k ≢ 4 → told_word w (Vcpu t k) ≡ told_word v (Vcpu t k)
  unfolding Came
  others_same w came off = ran_same w came.0 came.1 off

  pub others_least : (w : PortValue) → Came v w → told_word v (Vcpu t k) ≤ told_word w (Vcpu t k)
  unfolding Came
  others_least w came = ran_least w came.0 came.1
