-- A frame becomes free: when its steps are legal, and what they leave in hand.
use Rattle.std.proofs.Common.{◌≡◌, ℕ, ◌-◌, ◌/◌, ◌%◌, ◌^◌, ◌<◌, ◌≤◌, ◌==◌, true, List, [], ◌∷◌, length, Some, None, IsTrue, refl, ap, ◌∙◌, arith, inl, inr, lit<}
use Rattle.std.proofs.Math.Pow.{pow-lt}
use Rattle.std.proofs.lemmas.Bool.{cases_order, cases_Bool, eqb-true, and_parts}
use Rattle.std.proofs.lemmas.Bool.Decides.{nat_tests}
use Rattle.xp_words.specs.RefWords.{ref_read, ref_write, IsRef}
use Rattle.xp_words.specs.declared.refs.RefWord.TheVariants.{Free}
use Rattle.xp_words.specs.declared.place.Place.TheVariants.{Refs, Map, Pages}
use Rattle.xp_words.specs.Places.{Sizes, is_place, sizes_of}
use Rattle.xp_words.proofs.RefLaws.{ref_read-write}
use Rattle.xp_board.specs.declared.step.Act.TheVariants.{Store, Add}
use Rattle.xp_board.specs.declared.step.StepKind.TheVariants as kinds
use Rattle.xp_board.specs.declared.holdings.Ending.{Ending}
use Rattle.xp_board.specs.declared.holdings.Holdings.{Holdings}
use Rattle.xp_board.specs.Hands.{endings_of, ending_of, claim_of}
use Rattle.xp_board.specs.HintSteps.{map_bit, is_raise, is_lower, lowered_frame, raised_frame, raised_by}
use Rattle.xp_board.specs.Lists.{one_at, times, times_by, first_by, without_by, first_of, with_fewer}
use Rattle.xp_board.specs.RefSteps.{one_down, IsFreeStamp, credited, after_ref_store}
use Rattle.xp_board.specs.Spelling.{IsSpelling}
use Rattle.xp_board.specs.Told.{PortValue}
use Rattle.xp_board.proofs.ListCounts.{first_by-cons_here, times_by-cons_here}
use Rattle.xp_board.proofs.Sums.{when_eq}
use Rattle.xp_board.proofs.Numbers.{refs_there}
use Rattle.step_maker.specs.Holds.{Holds, MayWork, still}
use Rattle.step_maker.specs.Moves.{May, Moves}
use Rattle.frame_words.specs.Freeing.{IsEnding, IsEndingSince, raised_bit, made_free, refunded}

-- ---- places and words
pub map_there : (z : Sizes) (f : ℕ) → f < z.frames → IsTrue (is_place z (Map (f / 64)))
unfolding is_place
map_there z f h = grind (arith, nat_tests)

pub pages_there : (z : Sizes) (d : ℕ) → d < z.domains → IsTrue (is_place z (Pages d))
unfolding is_place
pages_there z d h = grind (arith, nat_tests)

pub bit_fits : (f : ℕ) → map_bit f < 2 ^ 64
bit_fits f = pow-lt {j = 64} (low f)
  where
    low : (f : ℕ) → f % 64 < 64
    low f = omega arith

pub free_is : (stamp : ℕ) → stamp < 2 ^ 36 → IsRef (Free stamp)
unfolding IsRef
free_is stamp low = low

pub free_read : (stamp : ℕ) → stamp < 2 ^ 36 → ref_read (ref_write (Free stamp)) ≡ Some (Free stamp)
free_read stamp low = ref_read-write (Free stamp) (free_is stamp low)

-- ---- the bit of a frame
pow_le : (i j : ℕ) → i ≤ j → 2 ^ i ≤ 2 ^ j
pow_le i j l =
    elim (cases_order i j) [
      | inl at ↦ rw at (omega arith)
      | inr (inl below) ↦ (let k : 2 ^ i < 2 ^ j = pow-lt below in omega arith)
      | inr (inr above) ↦ absurd (omega arith)
    ]

half_below : (i j : ℕ) → i < j → j < 64 → 2 ^ 64 - 2 ^ i ≡ 2 ^ j → ⊥
half_below i j below b e =
    let x : 2 ^ i < 2 ^ j = pow-lt below in
    let y : 2 ^ j ≤ 2 ^ 63 = pow_le j 63 (omega arith) in
    omega arith

-- two bits whose sum is 2^64 are one
half_bits : (i j : ℕ) → i < 64 → j < 64 → 2 ^ 64 - 2 ^ i ≡ 2 ^ j → i ≡ j
half_bits i j a b e =
    elim (cases_order i j) [
      | inl at ↦ at
      | inr (inl below) ↦ absurd (half_below i j below b e)
      | inr (inr above) ↦ absurd (half_below j i above a (let x : 2 ^ i < 2 ^ 64 = pow-lt {j = 64} a in let y : 2 ^ j < 2 ^ 64 = pow-lt {j = 64} b in omega arith))
    ]

low_part : (f : ℕ) → f % 64 < 64
low_part f = omega arith

raises_itself : (f : ℕ) → is_raise (f / 64) (map_bit f) f ≡ true
raises_itself f = grind (arith, nat_tests)

lower_is : (f g : ℕ) → is_lower (f / 64) (map_bit f) g ≡ true → g ≡ f
lower_is f g e =
    let p = and_parts (g / 64 == f / 64) (2 ^ 64 - map_bit g == map_bit f) e in
    let word = eqb-true (g / 64) (f / 64) p.0 in
    let bit = half_bits (g % 64) (f % 64) (low_part g) (low_part f) (eqb-true (2 ^ 64 - map_bit g) (map_bit f) p.1) in
    omega arith

none_lower : (f : ℕ) (xs : List ℕ) → times f xs ≡ 0 → first_of (is_lower (f / 64) (map_bit f)) xs ≡ None
unfolding first_of times_by
none_lower f [] none = refl
none_lower f (x ∷ xs) none =
    elim (cases_Bool (is_lower (f / 64) (map_bit f) x)) [
      | inl at ↦ absurd (let one : one_at f x ≡ 1 = rw (when_eq x f (lower_is f x at)) in omega (arith, one))
      | inr off ↦ rw off (none_lower f xs (omega arith))
    ]

first_raise : (f : ℕ) (x : ℕ) (xs : List ℕ) → x ≡ f → first_of (is_raise (f / 64) (map_bit f)) (x ∷ xs) ≡ Some f
unfolding first_of
first_raise f x xs at = rw (at, raises_itself f) refl

ending_held : (f owner : ℕ) (h : Holdings) → IsEnding f owner h → 0 < endings_of f h.ending
ending_held f owner h e = let one = times_by-cons_here (λ (y : Ending). y.frame) f e.ending e.others e.frame in rw e.newest (omega (arith, one))

raised_by_bit : (f owner : ℕ) (h : Holdings) → IsEnding f owner h → times f h.raised ≡ 0 →
    raised_by (lowered_frame (f / 64) (map_bit f) h) (raised_frame (f / 64) (map_bit f) h) h.raised ≡ f ∷ h.raised
raised_by_bit f owner h e none =
    let raise : raised_frame (f / 64) (map_bit f) h ≡ Some f = rw e.newest (first_raise f e.ending.frame _ e.frame) in
    ap (λ o. raised_by o (raised_frame (f / 64) (map_bit f) h) h.raised) (none_lower f h.raised none) ∙ ap (λ o. raised_by None o h.raised) raise

pub may_bit : (v : PortValue) (f owner : ℕ) → f < v.post.machine.frames → MayWork v → IsEnding f owner v.holdings → times f v.holdings.raised ≡ 0 → May v (Map (f / 64)) (Add (map_bit f)) kinds.Hint None
may_bit v f owner frame may ends none =
    let held = ending_held f owner v.holdings ends in
    record {
      place = map_there (sizes_of v.post.machine) f frame;
      marked = tt;
      running = λ needs. may.running;
      spelling = bit_fits f;
      act = inl (record { frame = f; adds = raises_itself f; held = omega arith; lowered = none });
    }

pub bit_hand : (v w : PortValue) (f owner found : ℕ) → IsEnding f owner v.holdings → times f v.holdings.raised ≡ 0 → Moves v w (Map (f / 64)) (Add (map_bit f)) kinds.Hint None found →
    Holds v w (raised_bit f v.holdings)
bit_hand v w f owner found ends none m =
    ap still m.to ∙ ap (λ xs. still (record v { holdings = record v.holdings { raised = xs } })) (raised_by_bit f owner v.holdings ends none)

-- ---- the free word
without_none : {A : Type 0} (key : A → ℕ) (f : ℕ) (xs : List A) → first_by key f xs ≡ None → without_by key f xs ≡ xs
unfolding first_by without_by
without_none key f [] none = refl
without_none key f (x ∷ xs) none =
    elim (cases_Bool (key x == f)) [
      | inl at ↦ absurd (let k : Some x ≡ None = rw at at none in cc)
      | inr off ↦ rw off (ap (λ ys. x ∷ ys) (without_none key f xs (rw off at none)))
    ]

first_ending : (f owner : ℕ) (h : Holdings) (e : IsEnding f owner h) → ending_of f h.ending ≡ Some e.ending
first_ending f owner h e = ap (λ es. ending_of f es) e.newest ∙ first_by-cons_here (λ (y : Ending). y.frame) f e.ending e.others e.frame

free_told : (v : PortValue) (f owner stamp : ℕ) → IsEndingSince v.post.machine f owner stamp v.holdings → IsFreeStamp v.post.machine stamp v.holdings (ending_of f v.holdings.ending) (claim_of f v.holdings.claimed)
free_told v f owner stamp e = rw (first_ending f owner v.holdings e.ends) e.told

pub may_free : (v : PortValue) (f owner stamp n : ℕ) → f < v.post.machine.frames → MayWork v → stamp < 2 ^ 36 → IsEndingSince v.post.machine f owner stamp v.holdings → 0 < times f v.holdings.raised →
    n ≡ ref_write (Free stamp) → May v (Refs f) (Store n) kinds.Ref None
unfolding IsSpelling
may_free v f owner stamp n frame may low ends raised is =
    let read = free_read stamp low in
    rw is
    (record {
      place = refs_there (sizes_of v.post.machine) f frame;
      marked = tt;
      running = λ needs. may.running;
      spelling = rw read refl;
      act = rw read (record { raised = raised; was_found = free_told v f owner stamp ends });
    })

pub free_hand : (v w : PortValue) (f owner stamp found : ℕ) → stamp < 2 ^ 36 → IsEnding f owner v.holdings → Moves v w (Refs f) (Store (ref_write (Free stamp))) kinds.Ref None found →
    Holds v w (made_free f owner v.holdings)
free_hand v w f owner stamp found low ends m =
    ap still m.to
    ∙ ap (λ o. still (record v { holdings = after_ref_store o v.post.machine v.post.vcpu f v.holdings })) (free_read stamp low)
    ∙ ap (λ cs. still (record v { holdings = record (made_free f (credited v.post.machine v.post.vcpu (ending_of f v.holdings.ending)) v.holdings) { claimed = cs } })) (without_none (λ c. c.frame) f v.holdings.claimed ends.unclaimed)
    ∙ ap (λ d. still (record v { holdings = made_free f d v.holdings })) (ap (λ o. credited v.post.machine v.post.vcpu o) (first_ending f owner v.holdings ends) ∙ ends.owner_is)

-- ---- pages
pub may_refund : (v : PortValue) (d : ℕ) → d < length v.post.machine.page_limit → MayWork v → 1 ≤ times d v.holdings.credits → May v (Pages d) (Add one_down) kinds.Pages None
may_refund v d domain may credit =
    record {
      place = pages_there (sizes_of v.post.machine) d domain;
      marked = tt;
      running = λ needs. may.running;
      spelling = lit< tt;
      act = record { down = lit< tt; some = lit< tt; credits = credit };
    }

pub refund_hand : (v w : PortValue) (d found : ℕ) → Moves v w (Pages d) (Add one_down) kinds.Pages None found → Holds v w (refunded d v.holdings)
unfolding with_fewer
refund_hand v w d found m = ap still m.to
