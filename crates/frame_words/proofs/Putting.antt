-- A reference is given back: what the last one leaves, and its steps.
use Rattle.std.proofs.Common.{◌≡◌, ℕ, ◌≢◌, ◌+◌, ◌/◌, ◌^◌, ◌<◌, ◌≤◌, ◌==◌, ◌⊎◌, if◌then◌else◌, zero, suc, Bool, true, List, [], ◌∷◌, ◌++◌, length, Some, None, IsTrue, refl, sym, ap, ◌∙◌, subst, arith, inl, inr}
use Rattle.xp_words.specs.RefWords.{ref_read, ref_write}
use Rattle.xp_words.specs.declared.refs.RefWord.TheVariants.{Free, Owned, Dying}
use Rattle.xp_words.specs.declared.place.Place.TheVariants.{Clock, Refs, Map}
use Rattle.xp_words.specs.Places.{sizes_of}
use Rattle.xp_board.specs.declared.step.Act.TheVariants.{Load, Store, Add}
use Rattle.xp_board.specs.declared.step.StepKind.TheVariants as kinds
use Rattle.xp_board.specs.declared.holdings.Claimed.{Claimed}
use Rattle.xp_board.specs.declared.holdings.Ending.{Ending}
use Rattle.xp_board.specs.declared.holdings.Holdings.{Holdings}
use Rattle.xp_board.specs.Acts.{left_by}
use Rattle.xp_board.specs.Hands.{endings_of, claims_of, claim_of, without_ending}
use Rattle.xp_board.specs.HintSteps.{map_bit}
use Rattle.xp_board.specs.Lists.{times, without_by}
use Rattle.xp_board.specs.Readings.{allocated_mark, ref_count, owner_of, is_dying}
use Rattle.xp_board.specs.RefSteps.{one_down, gave_ref}
use Rattle.xp_board.specs.Steps.{some_since}
use Rattle.xp_board.specs.Spelling.{IsSpelling}
use Rattle.xp_board.specs.Told.{PortValue}
use Rattle.xp_board.specs.WellFormed.{WellFormed}
use Rattle.xp_board.proofs.ListCounts.{first_by-none, times_by-cons_here}
use Rattle.xp_board.proofs.RefWords.{is_dying-read}
use Rattle.xp_board.proofs.Sums.{when_eq}
use Rattle.xp_board.proofs.Works.{is_dying-mine}
use Rattle.step_maker.specs.Holds.{Holds, Same, still}
use Rattle.step_maker.specs.Moves.{Moves, Came, Met}
use Rattle.step_maker.proofs.Noting.{moves_since, moves_keeps}
use Rattle.step_maker.proofs.Coming.{moves_came, came_trans}
use Rattle.step_maker.specs.Answers.{Serves, deeds_by}
use Rattle.step_maker.specs.Asked.{of_back, IsAsked}
use Rattle.step_maker.specs.Finding.{Finding, FoundAt}
use Rattle.step_maker.specs.Reasons as reasons
use Rattle.step_maker.specs.Visits.{Visit, visit, Only, Then}
use Rattle.step_maker.proofs.Piecing.{serves_step, moves_serves}
use Rattle.step_maker.proofs.Visiting.{does_as, does_one, does_then, then_none}
use Rattle.step_maker.proofs.Changing.{found_before, moves_found}
use Rattle.frame_words.specs.Freeing.{IsEnding, IsEndingSince, raised_bit, made_free, refunded, left_free, gave, Frees, FreesBy, PutBy, Puts, lowers_refs}
use Rattle.frame_words.proofs.FreeSteps.{free_read}
use Rattle.frame_words.proofs.Taking.{backs_itself}

-- ---- what comes into the hand last goes out first
pub without_newest : {A : Type 0} (key : A → ℕ) (f : ℕ) (x : A) (xs : List A) → key x ≡ f → without_by key f (x ∷ xs) ≡ xs
unfolding without_by
without_newest key f x xs is = ap (λ b. if b then xs else x ∷ without_by key f xs) (when_eq (key x) f is)

pub left : (v a b d w : PortValue) (f owner : ℕ) → Same v a → Holds a b (raised_bit f a.holdings) → Holds b d (made_free f owner b.holdings) → Holds d w (refunded owner d.holdings) → Holds v w (left_free f v.holdings)
left v a b d w f owner look bit free pages =
    let first = bit ∙ ap (λ (q : PortValue). still (record q { holdings = raised_bit f q.holdings })) look in
    let second = free ∙ ap (λ (q : PortValue). still (record q { holdings = made_free f owner q.holdings })) first in
    let third = pages ∙ ap (λ (q : PortValue). still (record q { holdings = refunded owner q.holdings })) second in
    third
    ∙ ap (λ xs. still (record v { holdings = record (left_free f v.holdings) { raised = xs; credits = without_by (λ e. e) owner (owner ∷ v.holdings.credits) } })) (without_newest (λ g. g) f f v.holdings.raised refl)
    ∙ ap (λ xs. still (record v { holdings = record (left_free f v.holdings) { credits = xs } })) (without_newest (λ g. g) owner owner v.holdings.credits refl)

-- ---- what the steps ask
pub clock_low : (v w : PortValue) (c : ℕ) → Moves v w Clock Load kinds.Look None c → c < 2 ^ 36
unfolding IsSpelling
clock_low v w c m =
    let low = (subst (λ y. IsSpelling v.post.machine Clock y) m.finds.word (m.finds.sound.spelled.spelled Clock m.may.place)).1 in
    omega (arith, low)

pub ending_since : (v a b : PortValue) (f owner stamp x : ℕ) → Moves v a Clock Load kinds.Look None stamp → Moves a b (Map (f / 64)) (Add (map_bit f)) kinds.Hint None x → Same v a →
    Holds a b (raised_bit f a.holdings) → IsEnding f owner v.holdings → IsEndingSince b.post.machine f owner stamp b.holdings
unfolding left_by
ending_since v a b f owner stamp x look bit same raised e =
    let z = sizes_of v.post.machine in
    let seen : IsTrue (some_since z e.ending.since Clock (λ y. y == stamp) a.holdings.steps) = moves_since v a Clock Load kinds.Look None stamp look e.ending.since (λ y. y == stamp) e.recent (when_eq stamp stamp refl) in
    let told : IsTrue (some_since z e.ending.since Clock (λ y. y == stamp) b.holdings.steps) = moves_keeps a b (Map (f / 64)) (Add (map_bit f)) kinds.Hint None x bit _ seen in
    let whole = raised ∙ ap (λ (q : PortValue). still (record q { holdings = raised_bit f q.holdings })) same in
    let post = ap (λ (q : PortValue). q.post.machine) whole in
    let more : length v.holdings.steps ≤ length b.holdings.steps = rw (ap (λ (q : PortValue). length q.holdings.steps) bit.to, ap (λ (q : PortValue). length q.holdings.steps) look.to) (omega arith) in
    record {
      ends = record {
        ending = e.ending;
        others = e.others;
        newest = ap (λ (q : PortValue). q.holdings.ending) whole ∙ e.newest;
        frame = e.frame;
        owner_is = e.owner_is;
        recent = let r = e.recent in omega (arith, more, r);
        unclaimed = ap (λ (q : PortValue). claim_of f q.holdings.claimed) whole ∙ e.unclaimed;
      };
      told = subst (λ m. IsTrue (some_since (sizes_of m) e.ending.since Clock (λ y. y == stamp) b.holdings.steps)) (sym post) told;
    }

pub bit_raised : (a b : PortValue) (f : ℕ) → Holds a b (raised_bit f a.holdings) → 0 < times f b.holdings.raised
bit_raised a b f holds = let one = times_by-cons_here (λ (g : ℕ). g) f f a.holdings.raised refl in rw (ap (λ (q : PortValue). q.holdings.raised) holds) (omega (arith, one))

pub page_credited : (b d : PortValue) (f owner : ℕ) → Holds b d (made_free f owner b.holdings) → 1 ≤ times owner d.holdings.credits
page_credited b d f owner holds = let one = times_by-cons_here (λ (g : ℕ). g) owner owner b.holdings.credits refl in rw (ap (λ (q : PortValue). q.holdings.credits) holds) (omega (arith, one))

free_is_no_deed : (f stamp found : ℕ) (h : Holdings) → stamp < 2 ^ 36 → deeds_by (Refs f) (Store (ref_write (Free stamp))) kinds.Ref found h ≡ []
unfolding allocated_mark
free_is_no_deed f stamp found h low = rw (free_read stamp low) refl

-- ---- a frame of which the word counts a reference is not ending or claimed
module _ (v u : PortValue) (f w owner : ℕ) (allocated : Bool) (lower : Moves v u (Refs f) (Add one_down) kinds.Ref None w) (gives : Holds v u (gave_ref f w v.holdings)) (read : ref_read w ≡ Some (Owned owner allocated 1)) where
  not_dying : is_dying (lower.finds.words (Refs f)) ≡ true → ⊥
  not_dying dying =
      let e = is_dying-read (lower.finds.words (Refs f)) dying in
      let o = ap (λ x. ref_read x) lower.finds.word ∙ read in
      let k : Some (Dying e.0) ≡ Some (Owned owner allocated 1) = sym e.1 ∙ o in
      absurd (cc)

  none_held : endings_of f v.holdings.ending + claims_of f v.holdings.claimed ≡ 0
  none_held =
      elim (cases_zero (endings_of f v.holdings.ending + claims_of f v.holdings.claimed)) [
        | inl none ↦ none
        | inr some ↦ absurd (not_dying (is_dying-mine v.post.machine lower.finds.words lower.finds.hands lower.finds.sound.alone f v.post.vcpu lower.finds.real (subst (λ (h : Holdings). 0 < endings_of f h.ending + claims_of f h.claimed) (sym lower.finds.mine) some)))
      ]
    where
      cases_zero : (k : ℕ) → (k ≡ 0) ⊎ (0 < k)
      cases_zero zero = inl refl
      cases_zero (suc k) = inr (omega arith)

  formed : WellFormed v.post.machine v.post.vcpu v.holdings
  formed = subst (λ (h : Holdings). WellFormed v.post.machine v.post.vcpu h) lower.finds.mine (lower.finds.sound.formed v.post.vcpu lower.finds.real)

  pub last_lowered : times f u.holdings.raised ≡ 0
  last_lowered = let most = formed.raised.held f in let none = none_held in ap (λ (q : PortValue). times f q.holdings.raised) gives ∙ omega (arith, most, none)

  one_left : ref_count w ≡ 1
  unfolding ref_count
  one_left = rw read refl

  owner_found : owner_of w ≡ Some owner
  unfolding owner_of
  owner_found = rw read refl

  last_ending : u.holdings.ending ≡ record { frame = f; owner = owner; since = length v.holdings.steps + 1 } ∷ v.holdings.ending
  last_ending = ap (λ (q : PortValue). q.holdings.ending) gives ∙ rw (one_left, owner_found) refl

  pub last_ends : IsEnding f owner u.holdings
  last_ends =
      let more : length u.holdings.steps ≡ length v.holdings.steps + 1 = ap (λ (q : PortValue). length q.holdings.steps) lower.to ∙ omega arith in
      record {
        ending = record { frame = f; owner = owner; since = length v.holdings.steps + 1 };
        others = v.holdings.ending;
        newest = last_ending;
        frame = refl;
        owner_is = refl;
        recent = omega (arith, more);
        unclaimed = ap (λ (q : PortValue). claim_of f q.holdings.claimed) gives ∙ first_by-none (λ (e : Claimed). e.frame) f v.holdings.claimed (let none = none_held in omega (arith, none));
      }

  module _ (x : PortValue) (frees : Frees u x f owner) where
    pub gave_last : Holds v x (gave f v.holdings)
    gave_last =
        frees.hand ∙ ap (λ (q : PortValue). still (record q { holdings = left_free f q.holdings })) gives
        ∙ ap (λ es. still (record v { holdings = record (gave f v.holdings) { ending = without_ending f es } })) (rw (one_left, owner_found) refl)
        ∙ ap (λ es. still (record v { holdings = record (gave f v.holdings) { ending = es } })) (without_newest (λ (e : Ending). e.frame) f (record { frame = f; owner = owner; since = length v.holdings.steps + 1 }) v.holdings.ending refl)

    pub puts_last : Serves v x (of_back f) []
    puts_last =
        let r = of_back f in
        let asks : (F : Finding) → IsAsked v.post.machine v.post.vcpu (of_back f) F f = λ F. backs_itself v.post.machine v.post.vcpu f F in
        let one = moves_serves v u r _ _ _ _ _ lower (asks _, tt) in
        let two = serves_step v u frees.a r [] _ _ _ _ _ one frees.look tt in
        let three = serves_step v frees.a frees.b r [] _ _ _ _ _ two frees.bit (f, refl, asks _) in
        let four = serves_step v frees.b frees.d r [] _ _ _ _ _ three frees.free (asks _, tt) in
        let after : Came u x = came_trans u frees.b x (came_trans u frees.a frees.b (moves_came _ _ _ _ _ _ _ frees.look) (moves_came _ _ _ _ _ _ _ frees.bit))
        (came_trans frees.b frees.d x (moves_came _ _ _ _ _ _ _ frees.free) (moves_came _ _ _ _ _ _ _ frees.pages)) in
        let seen : FoundAt (Met v x) (Refs f) w = found_before v u x (Refs f) w after (moves_found v u _ _ _ _ w lower) in
        serves_step v frees.d x r [] _ _ _ _ _ (subst (λ ds. Serves v frees.d r (ds ++ [])) (free_is_no_deed f frees.stamp frees.y frees.b.holdings (clock_low u frees.a frees.stamp frees.look)) four) frees.pages
        (reasons.found f w (asks _) seen owner_found, tt)

    pub does_last : Puts v x f
    does_last =
        let four = does_then u frees.a x (Only (visit Clock Load frees.stamp)) _ (does_one u frees.a _ _ _ _ _ frees.look)
        (does_then frees.a frees.b x _ _ (does_one frees.a frees.b _ _ _ _ _ frees.bit) (does_then frees.b frees.d x _ _ (does_one frees.b frees.d _ _ _ _ _ frees.free) (does_one frees.d x _ _ _ _ _ frees.pages))) in
        does_as v x _ (PutBy f) (λ vs steps. record { word = w; last = Some owner; of = (allocated, read); steps = steps })
        (does_then v u x (Only (lowers_refs f w)) (FreesBy f (Some owner)) (does_one v u _ _ _ _ _ lower)
        (does_as u x _ (FreesBy f (Some owner)) (λ vs steps. (frees.stamp, frees.x, frees.y, frees.z, four_are _ _ _ _ vs steps)) four))
      where
        four_are : (one two three four : Visit) (vs : List Visit) → Then (Only one) (Then (Only two) (Then (Only three) (Only four))) vs → vs ≡ four ∷ (three ∷ (two ∷ (one ∷ [])))
        four_are one two three four vs t = rw (t.list, t.first, t.next.list, t.next.first, t.next.next.list, t.next.next.first, t.next.next.next) refl

pub does_more : (v u : PortValue) (f w : ℕ) → Moves v u (Refs f) (Add one_down) kinds.Ref None w → ref_count w ≢ 1 → Puts v u f
does_more v u f w lower more =
    does_as v u _ (PutBy f) (λ vs steps. record { word = w; last = None; of = more; steps = then_none (Only (lowers_refs f w)) vs steps }) (does_one v u _ _ _ _ _ lower)

-- ---- not the last one
pub puts_more : (v u : PortValue) (f w : ℕ) → Moves v u (Refs f) (Add one_down) kinds.Ref None w → Serves v u (of_back f) []
puts_more v u f w lower = moves_serves v u (of_back f) _ _ _ _ _ lower (backs_itself v.post.machine v.post.vcpu f _, tt)
