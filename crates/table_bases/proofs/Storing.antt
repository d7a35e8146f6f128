-- The store of a base: when it may be made, what it finds, and what it leaves in hand.
use Rattle.std.proofs.Common.{◌≡◌, ℕ, zero, suc, ◌+◌, ◌<◌, ◌≤◌, if◌then◌else◌, add-one, List, [], length, Option, Some, None, IsTrue, refl, sym, ap, ◌∙◌, subst, arith, lit<, inl, inr}
use Rattle.std.proofs.lemmas.Bool.Decides.{nat_tests}
use Rattle.xp_words.specs.Machine.{Machine}
use Rattle.xp_words.specs.Places.{Sizes, is_place, sizes_of}
use Rattle.xp_words.specs.declared.kind.PageType.TheVariants.{L4}
use Rattle.xp_words.specs.declared.place.Place.TheVariants.{Vcpu}
use Rattle.xp_board.specs.declared.holdings.Holdings.{Holdings}
use Rattle.xp_board.specs.declared.holdings.OwnerFound.TheVariants as owners
use Rattle.xp_board.specs.declared.holdings.TypedReference.{TypedReference}
use Rattle.xp_board.specs.declared.step.Act.TheVariants.{Store}
use Rattle.xp_board.specs.declared.step.StepKind.TheVariants as kinds
use Rattle.xp_board.specs.Acts.{left_by}
use Rattle.xp_board.specs.After.{learned_own}
use Rattle.xp_board.specs.ContextSteps.{FitsWord, MayName, context_type, named_in, named_out}
use Rattle.xp_board.specs.Hands.{typed_to}
use Rattle.xp_board.specs.KindSteps.{live_typed}
use Rattle.xp_board.specs.Readings.{is_context}
use Rattle.xp_board.specs.Spelling.{IsSpelling, is_vcpu_word}
use Rattle.xp_board.specs.Told.{PortValue}
use Rattle.xp_board.proofs.Numbers.{vcpu_there}
use Rattle.xp_board.proofs.Sums.{when_found}
use Rattle.step_maker.specs.Holds.{Holds, MayWork, still}
use Rattle.step_maker.specs.Moves.{May, Moves}
use Rattle.kind_words.proofs.KindHands.{known_first, typed_held}
use Rattle.kind_words.proofs.Leaving.{without_newest}
use Rattle.table_entries.proofs.HandOwners.{typed_knows_its}
use Rattle.level_validate.specs.Unwinding.{own_domain}
use Rattle.table_bases.specs.declared.words.Base.{Base}
use Rattle.table_bases.specs.declared.words.Base.TheVariants.{Kernel, User}
use Rattle.table_bases.specs.Holding.{HoldsTop, base_number, base_place, came_out, naming, with_typed}

-- ---- the word
pub base_in_context : (base : Base) → IsTrue (is_context (base_number base))
base_in_context Kernel = refl
base_in_context User = refl

base_small : (base : Base) → base_number base < 38
base_small Kernel = lit< tt
base_small User = lit< tt

base_there : (z : Sizes) (s : ℕ) (base : Base) → s < z.vcpus → IsTrue (is_place z (Vcpu s (base_number base)))
base_there z s base real = vcpu_there z s (base_number base) real (base_small base)

names_word : (n : Machine) (base : Base) (w : ℕ) → w ≤ n.frames → IsTrue (is_vcpu_word n (base_number base) w)
names_word n Kernel w few = grind (arith, nat_tests)
names_word n User w few = grind (arith, nat_tests)

within_by : (n : Machine) (base : Base) (x : ℕ) → IsTrue (is_vcpu_word n (base_number base) x) → x ≤ n.frames
within_by n Kernel x is = grind (arith, nat_tests)
within_by n User x is = grind (arith, nat_tests)

-- it names a frame of the machine, or none
pub base_within : (v w : PortValue) (base : Base) (new x : ℕ) → Moves v w (base_place v.post.vcpu base) (Store new) kinds.Context None x → x ≤ v.post.machine.frames
unfolding IsSpelling
base_within v w base new x m =
    let spelled = m.finds.sound.spelled.spelled (base_place v.post.vcpu base) (base_there (sizes_of v.post.machine) v.post.vcpu base m.finds.real) in
    subst (λ y. y ≤ v.post.machine.frames) m.finds.word (within_by v.post.machine base _ spelled.1)

-- ---- when it may be stored
takes_top : (n : Machine) (s f : ℕ) (h : Holdings) (base : Base) → FitsWord n s f h (Some L4) → FitsWord n s f h (context_type (base_number base))
takes_top n s f h Kernel fits = fits
takes_top n s f h User fits = fits

module _ (v : PortValue) (s k : ℕ) (base : Base) (own : s ≡ v.post.vcpu) (real : s < length v.post.machine.vcpu_domain) (word : k ≡ base_number base) (may : MayWork v) where
  may_name : (w : ℕ) → w ≤ v.post.machine.frames → MayName v.post.machine v.post.vcpu s (base_number base) w v.holdings → May v (Vcpu s k) (Store w) kinds.Context None
  unfolding IsSpelling
  may_name w few names =
      let frames = may.machine.few_frames in
      subst (λ j. May v (Vcpu s j) (Store w) kinds.Context None) (sym word)
      (record {
        place = base_there (sizes_of v.post.machine) s base real;
        marked = tt;
        running = λ needs. may.running;
        spelling = (omega (arith, few, frames), names_word v.post.machine base w few);
        act = inl names;
      })

  may_put_as : (new : Option ℕ) → HoldsTop v new → May v (Vcpu s k) (Store (naming new)) kinds.Context None
  may_put_as None holds = may_name 0 (omega arith) (record { own = own; word = base_in_context base; names = inl refl })
  may_put_as (Some f) holds =
      let inside = holds.0 in
      may_name (f + 1) (omega (arith, inside))
      (record {
        own = own;
        word = base_in_context base;
        names = inr (record {
          frame = f;
          names = refl;
          in_hand = subst (λ ts. 0 < typed_to f ts) (sym holds.1) (typed_held f (live_typed f L4 (owners.Of (own_domain v))) [] refl);
          fits = takes_top v.post.machine v.post.vcpu f v.holdings base (
            known_first (sizes_of v.post.machine) f L4 (owners.Of (own_domain v)) [] v.holdings holds.1,
            typed_knows_its (sizes_of v.post.machine) (own_domain v) (with_typed [] v.holdings) v.holdings (live_typed f L4 (owners.Of (own_domain v))) refl refl holds.1,
          );
        });
      })

  pub may_put : (new : Option ℕ) (x : ℕ) → x ≡ naming new → HoldsTop v new → May v (Vcpu s k) (Store x) kinds.Context None
  may_put new x is holds = subst (λ y. May v (Vcpu s k) (Store y) kinds.Context None) (sym is) (may_put_as new holds)

  pub put_moves : (w : PortValue) (new : Option ℕ) (x old : ℕ) → x ≡ naming new → Moves v w (Vcpu s k) (Store x) kinds.Context None old → Moves v w (base_place v.post.vcpu base) (Store (naming new)) kinds.Context None old
  put_moves w new x old is m =
      subst (λ t. Moves v w (Vcpu t (base_number base)) (Store (naming new)) kinds.Context None old) own
      (subst (λ j. Moves v w (Vcpu s j) (Store (naming new)) kinds.Context None old) word (subst (λ y. Moves v w (Vcpu s k) (Store y) kinds.Context None old) is m))

-- ---- the hand
out_is : (v : PortValue) (new : Option ℕ) → HoldsTop v new → named_out (naming new) v.holdings ≡ with_typed [] v.holdings
out_is v None holds = ap (λ (ts : List TypedReference). with_typed ts v.holdings) holds
out_is v (Some f) holds =
    ap (λ y. named_out y v.holdings) (add-one f)
    ∙ ap (λ (ts : List TypedReference). with_typed ts v.holdings) (without_newest (λ (y : TypedReference). y.frame) f (live_typed f L4 (owners.Of (own_domain v))) [] v.holdings.typed refl holds.1)

in_is : (base : Base) (old : ℕ) (h : Holdings) → named_in (base_number base) old (with_typed [] h) ≡ with_typed (came_out old h) h
in_is Kernel zero h = refl
in_is Kernel (suc g) h = refl
in_is User zero h = refl
in_is User (suc g) h = refl

in_context : (base : Base) (h k : Holdings) → (if is_context (base_number base) then h else k) ≡ h
in_context Kernel h k = refl
in_context User h k = refl

unlearned : (base : Base) (left : ℕ) (h : Holdings) → learned_own (base_number base) left h ≡ h
unlearned Kernel left h = refl
unlearned User left h = refl

pub put_hand : (v w : PortValue) (base : Base) (new : Option ℕ) (old : ℕ) → HoldsTop v new → Moves v w (base_place v.post.vcpu base) (Store (naming new)) kinds.Context None old → Holds v w (with_typed (came_out old v.holdings) v.holdings)
unfolding left_by
put_hand v w base new old holds m =
    ap still m.to ∙ ap (λ (h : Holdings). still (record v { holdings = h }))
    (when_found v.post.vcpu v.post.vcpu _ _ refl ∙ unlearned base (naming new) _ ∙ in_context base _ v.holdings ∙ ap (λ (h : Holdings). named_in (base_number base) old h) (out_is v new holds) ∙ in_is base old v.holdings)
