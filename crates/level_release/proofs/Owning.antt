-- The owner that a look at the reference word tells, of a frame to which a reference is in hand.
use Rattle.std.proofs.Common.{◌≡◌, ℕ, ◌+◌, ◌<◌, ◌≤◌, ◌==◌, ◌&&◌, Bool, true, List, ◌∷◌, length, Option, Some, None, IsTrue, refl, ap, subst, arith}
use Rattle.std.proofs.lemmas.Bool.{or_left, or_right}
use Rattle.xp_words.specs.Machine.{Machine}
use Rattle.xp_words.specs.Places.{Sizes, sizes_of}
use Rattle.xp_words.specs.RefWords.{ref_read}
use Rattle.xp_words.specs.declared.place.Place.TheVariants.{Refs}
use Rattle.xp_words.specs.declared.refs.RefWord.{RefWord}
use Rattle.xp_words.specs.declared.refs.RefWord.TheVariants.{Free, Owned, Dying}
use Rattle.xp_board.specs.Acts.{left_by}
use Rattle.xp_board.specs.Hands.{hand, refs_to, typed_to}
use Rattle.xp_board.specs.Knowledge.{knows_owner, tells_owner}
use Rattle.xp_board.specs.Lists.{some_of}
use Rattle.xp_board.specs.Readings.{count_in, is_owned_by, owner_in, owner_of, ref_count}
use Rattle.xp_board.specs.Told.{Finds, PortValue}
use Rattle.xp_board.specs.declared.holdings.Holdings.{Holdings}
use Rattle.xp_board.specs.declared.holdings.OwnerFound.{OwnerFound}
use Rattle.xp_board.specs.declared.holdings.OwnerFound.TheVariants as owners
use Rattle.xp_board.specs.declared.holdings.Reference.{Reference}
use Rattle.xp_board.specs.declared.holdings.TypedReference.{TypedReference}
use Rattle.xp_board.specs.declared.step.Act.TheVariants.{Load}
use Rattle.xp_board.specs.declared.step.StepKind.TheVariants as kinds
use Rattle.xp_board.proofs.Counted.{hand_is, typed_hand_is}
use Rattle.xp_board.proofs.Sums.{hands-part, when_eq}
use Rattle.step_maker.specs.Moves.{Moves}
use Rattle.step_maker.proofs.Noting.{moves_since}
use Rattle.level_release.specs.Holding.{IsMadeSince}

-- ---- a frame with a reference in hand is some domain's
owned_by : (o : Option RefWord) → 0 < count_in o → (owner : ℕ) × (owner_in o ≡ Some owner)
owned_by (Some (Owned owner allocated count)) some = (owner, refl)
owned_by (Some (Free stamp)) some = absurd (omega arith)
owned_by (Some (Dying owner)) some = absurd (omega arith)
owned_by None some = absurd (omega arith)

counted_owned : (w : ℕ) → 0 < ref_count w → (owner : ℕ) × (owner_of w ≡ Some owner)
unfolding ref_count owner_of
counted_owned w some = owned_by (ref_read w) some

pub held_owned : {n : Machine} {s : ℕ} {h : Holdings} {f w : ℕ} → Finds n s h (Refs f) w → 0 < refs_to f h.refs + typed_to f h.typed → (owner : ℕ) × (owner_of w ≡ Some owner)
held_owned {n} {s} {h} {f} {w} finds held =
    let mine : hand f (finds.hands s) ≡ hand f h = ap (λ (u : Holdings). hand f u) finds.mine in let sum = hand_is f h in let typed = typed_hand_is f h in let some : 0 < ref_count
    (finds.words (Refs f)) = omega (arith, (finds.sound.counts.refs f), (hands-part (hand f) (sizes_of n) finds.hands s finds.real), mine, sum, typed, held) in counted_owned w
    (subst (λ y. 0 < ref_count y) finds.word some)

-- ---- it is known by the newest reference
pub first_passes : {A : Type 0} (test : A → Bool) (e : A) (xs ys : List A) → ys ≡ e ∷ xs → IsTrue (test e) → IsTrue (some_of test ys)
unfolding some_of
first_passes test e xs ys is passes = rw is (or_left _ _ passes)

at_frame : {f g : ℕ} (b : Bool) → g ≡ f → IsTrue b → IsTrue ((g == f) && b)
at_frame {f} {g} b same is = rw (when_eq g f same) is

pub known_by_ref : (z : Sizes) {f : ℕ} (o : ℕ) (h : Holdings) {r : Reference} {xs : List Reference} → h.refs ≡ r ∷ xs → r.frame ≡ f → IsTrue (tells_owner z h.steps f o r.owner) → IsTrue (knows_owner z f o h)
unfolding knows_owner
known_by_ref z {f} o h {r} {xs} newest same tells =
    or_left _ _ (first_passes (λ (e : Reference). (e.frame == f) && tells_owner z h.steps f o e.owner) r xs h.refs newest (at_frame (tells_owner z h.steps f o r.owner) same tells))

pub known_by_typed : (z : Sizes) {f : ℕ} (o : ℕ) (h : Holdings) {r : TypedReference} {xs : List TypedReference} → h.typed ≡ r ∷ xs → r.frame ≡ f → IsTrue (tells_owner z h.steps f o r.owner) → IsTrue (knows_owner z f o h)
unfolding knows_owner
known_by_typed z {f} o h {r} {xs} newest same tells =
    or_right _ _ (or_left _ _ (first_passes (λ (e : TypedReference). (e.frame == f) && tells_owner z h.steps f o e.owner) r xs h.typed newest (at_frame (tells_owner z h.steps f o r.owner) same tells)))

-- ---- by a look at the reference word
module _ {v w : PortValue} {f word : ℕ} (look : Moves v w (Refs f) Load kinds.Look None word) (held : 0 < refs_to f v.holdings.refs + typed_to f v.holdings.typed) where
  abbrev whose : ℕ
  whose = (held_owned look.finds held).0

  is_whose : is_owned_by whose (left_by Load word) ≡ true
  unfolding left_by
  is_whose = rw (held_owned look.finds held).1 (when_eq whose whose refl)

  -- what is told of the owner now
  pub look_tells : (k : OwnerFound) → IsMadeSince (length v.holdings.steps) k → (o : ℕ) × IsTrue (tells_owner (sizes_of v.post.machine) w.holdings.steps f o k)
  look_tells (owners.Of d) made = (d, when_eq d d refl)
  look_tells (owners.Since n) made = (whose, moves_since v w (Refs f) Load kinds.Look None word look n (is_owned_by whose) made is_whose)

-- still known since a step that was made already
pub made_later : (m n : ℕ) (k : OwnerFound) → m ≤ n → IsMadeSince m k → IsMadeSince n k
made_later m n (owners.Of d) on made = tt
made_later m n (owners.Since j) on made = omega (arith, on, made)
