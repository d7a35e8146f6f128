-- What the steps on the old words find, and what they leave in hand.
use Rattle.std.proofs.Common.{◌≡◌, ℕ, ◌+◌, ◌≤◌, if◌then◌else◌, add-one, Some, None, IsTrue, refl, sym, ap, ◌∙◌, subst, arith}
use Rattle.std.proofs.lemmas.Bool.Decides.{nat_tests}
use Rattle.xp_words.specs.Machine.{Machine}
use Rattle.xp_words.specs.declared.place.Place.TheVariants.{Vcpu}
use Rattle.xp_words.specs.Places.{sizes_of}
use Rattle.xp_board.specs.declared.holdings.Holdings.{Holdings}
use Rattle.xp_board.specs.declared.step.Act.{Act}
use Rattle.xp_board.specs.declared.step.Act.TheVariants.{Load, Store}
use Rattle.xp_board.specs.declared.step.StepKind.{StepKind}
use Rattle.xp_board.specs.declared.step.StepKind.TheVariants as kinds
use Rattle.xp_board.specs.Acts.{left_by}
use Rattle.xp_board.specs.After.{learned, learned_own}
use Rattle.xp_board.specs.ContextSteps.{named_in, named_out}
use Rattle.xp_board.specs.Hands.{without_typed}
use Rattle.xp_board.specs.Readings.{is_context}
use Rattle.xp_board.specs.Spelling.{IsSpelling, is_vcpu_word}
use Rattle.xp_board.specs.Told.{Finds, PortValue}
use Rattle.xp_board.proofs.Sums.{when_found}
use Rattle.step_maker.specs.Holds.{Holds, still}
use Rattle.step_maker.specs.Moves.{Moves}
use Rattle.table_words.specs.OldWords.{kept_in_old, known_old, learned_old, old_number, old_place, taken_from_old}
use Rattle.table_words.specs.declared.old_words.OldWord.{OldWord}
use Rattle.table_words.specs.declared.old_words.OldWord.TheVariants.{First, Second}
use Rattle.table_words.proofs.RowSteps.{old_there}

-- ---- the word that is found
-- a running vCPU finds there what it last found or left
pub old_is_known : (n : Machine) (s : ℕ) (h : Holdings) (which : OldWord) (w x : ℕ) → Finds n s h (old_place s which) x → h.run ≡ Some 0 → known_old which h ≡ Some w → x ≡ w
old_is_known n s h First w x finds running known =
    let own = (finds.sound.found s finds.real).own in
    let formed = (finds.sound.formed s finds.real).own in
    let runs = own.run 0 (ap (λ (u : Holdings). u.run) finds.mine ∙ running) in
    sym finds.word
    ∙ own.words 2 w (λ e. omega arith) (λ e. omega arith) (λ e. omega (arith, runs, e)) (sym formed.old0 ∙ ap (λ (u : Holdings). u.old0) finds.mine ∙ known)
old_is_known n s h Second w x finds running known =
    let own = (finds.sound.found s finds.real).own in
    let formed = (finds.sound.formed s finds.real).own in
    let runs = own.run 0 (ap (λ (u : Holdings). u.run) finds.mine ∙ running) in
    sym finds.word
    ∙ own.words 3 w (λ e. omega arith) (λ e. omega arith) (λ e. omega (arith, runs, e)) (sym formed.old1 ∙ ap (λ (u : Holdings). u.old1) finds.mine ∙ known)

within_by : (n : Machine) (which : OldWord) (x : ℕ) → IsTrue (is_vcpu_word n (old_number which) x) → x ≤ n.frames
within_by n First x is = grind (arith, nat_tests)
within_by n Second x is = grind (arith, nat_tests)

-- it names a frame of the machine, or none
pub old_within : (n : Machine) (s : ℕ) (h : Holdings) (which : OldWord) (x : ℕ) → Finds n s h (old_place s which) x → x ≤ n.frames
unfolding IsSpelling
old_within n s h which x finds =
    let spelled = finds.sound.spelled.spelled (old_place s which) (old_there (sizes_of n) s (old_number which) which finds.real refl) in
    subst (λ y. y ≤ n.frames) finds.word (within_by n which _ spelled.1)

-- ---- the step by its own names
pub old_moves : (v w : PortValue) (s k : ℕ) (which : OldWord) (a : Act) (kind : StepKind) (x : ℕ) → s ≡ v.post.vcpu → k ≡ old_number which → Moves v w (Vcpu s k) a kind None x → Moves v w (old_place v.post.vcpu which) a kind None x
old_moves v w s k which a kind x own word m = subst (λ t. Moves v w (Vcpu t (old_number which)) a kind None x) own (subst (λ j. Moves v w (Vcpu s j) a kind None x) word m)

-- ---- the hand
own_old : (which : OldWord) (left : ℕ) (h : Holdings) → learned_own (old_number which) left h ≡ learned_old which left h
own_old First left h = refl
own_old Second left h = refl

put_in : (which : OldWord) (f : ℕ) (h : Holdings) →
    (if is_context (old_number which) then named_in (old_number which) 0 (named_out (f + 1) h) else h) ≡ record h { typed = without_typed f h.typed }
put_in First f h = ap (λ y. named_out y h) (add-one f)
put_in Second f h = ap (λ y. named_out y h) (add-one f)

taken_out : (which : OldWord) (x : ℕ) (h : Holdings) → (if is_context (old_number which) then named_in (old_number which) x (named_out 0 h) else h) ≡ named_in (old_number which) x h
taken_out First x h = refl
taken_out Second x h = refl

module _ (v w : PortValue) (which : OldWord) (x : ℕ) where
  learned_there : (left : ℕ) (h : Holdings) → learned v.post.vcpu (old_place v.post.vcpu which) x left h ≡ learned_old which left h
  learned_there left h = when_found v.post.vcpu v.post.vcpu (learned_own (old_number which) left h) h refl ∙ own_old which left h

  pub look_old_hand : Moves v w (old_place v.post.vcpu which) Load kinds.Look None x → Holds v w (learned_old which x v.holdings)
  unfolding left_by
  look_old_hand m = ap still m.to ∙ ap (λ h. still (record v { holdings = h })) (learned_there x v.holdings)

  pub take_old_hand : Moves v w (old_place v.post.vcpu which) (Store 0) kinds.Context None x → Holds v w (taken_from_old which x v.holdings)
  unfolding left_by
  take_old_hand m =
      ap still m.to ∙ ap (λ h. still (record v { holdings = h }))
      (ap (λ h. learned v.post.vcpu (old_place v.post.vcpu which) x 0 h) (taken_out which x v.holdings) ∙ learned_there 0 (named_in (old_number which) x v.holdings))

pub put_old_hand : (v w : PortValue) (which : OldWord) (f : ℕ) → Moves v w (old_place v.post.vcpu which) (Store (f + 1)) kinds.Context None 0 → Holds v w (kept_in_old which f v.holdings)
unfolding left_by
put_old_hand v w which f m =
    ap still m.to ∙ ap (λ h. still (record v { holdings = h }))
    (ap (λ h. learned v.post.vcpu (old_place v.post.vcpu which) 0 (f + 1) h) (put_in which f v.holdings) ∙ learned_there v w which 0 (f + 1) (record v.holdings { typed = without_typed f v.holdings.typed }))

-- what came out of the word: nothing, or a typed reference
pub taken_none : (which : OldWord) (h : Holdings) → taken_from_old which 0 h ≡ learned_old which 0 h
taken_none which h = refl

-- a word that was known to name none is found so
pub put_moves : (v w : PortValue) (s k : ℕ) (which : OldWord) (f new x : ℕ) → s ≡ v.post.vcpu → k ≡ old_number which → new ≡ f + 1 → v.holdings.run ≡ Some 0 → known_old which v.holdings ≡ Some 0 →
    Moves v w (Vcpu s k) (Store new) kinds.Context None x → Moves v w (old_place v.post.vcpu which) (Store (f + 1)) kinds.Context None 0
put_moves v w s k which f new x own word names running empty m =
    let moved = old_moves v w s k which (Store new) kinds.Context x own word m in
    subst (λ y. Moves v w (old_place v.post.vcpu which) (Store y) kinds.Context None 0) names
    (subst (λ y. Moves v w (old_place v.post.vcpu which) (Store new) kinds.Context None y) (old_is_known v.post.machine v.post.vcpu v.holdings which 0 x moved.finds running empty) moved)
