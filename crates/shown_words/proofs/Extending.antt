-- What the refusals of extents show: no word of a frame that is just being given back, and no kind word.
use Rattle.std.proofs.Common.{◌≡◌, ℕ, zero, suc, ◌+◌, ◌-◌, ◌==◌, nat_lt, if◌then◌else◌, Bool, true, false, Option, Some, None, Err, refl, sym, ap, ◌∙◌}
use Rattle.xp_words.specs.Machine.{IsMachine, Machine}
use Rattle.xp_words.specs.RefWords.{IsRef, ref_read}
use Rattle.xp_words.specs.declared.place.Place.TheVariants.{Refs}
use Rattle.xp_words.specs.declared.refs.RefWord.{RefWord}
use Rattle.xp_words.specs.declared.refs.RefWord.TheVariants.{Dying, Free, Owned}
use Rattle.xp_words.specs.declared.reply.Refusal.TheVariants.{NoFrame, WrongOwner}
use Rattle.xp_words.specs.declared.reply.Stop.TheVariants.{Refused}
use Rattle.xp_words.proofs.RefLaws.{ref_write-read}
use Rattle.xp_board.specs.Acts.{left_by}
use Rattle.xp_board.specs.Readings.{is_dying}
use Rattle.xp_board.specs.Told.{PortValue, is_telling, told_word}
use Rattle.xp_board.specs.declared.step.Act.TheVariants.{Store}
use Rattle.xp_board.proofs.RefWords.{read_small}
use Rattle.step_maker.specs.Plain.{Words, change}
use Rattle.reservations.specs.Extents.{Reserves}
use Rattle.reservations.specs.Returning.{all_returned, cleared, cleared_in, is_own_allocated, number_at, return_refusal, returned}
use Rattle.reservations.specs.declared.extents.Extent.{Extent}
use Rattle.reservations.specs.declared.extents.Extent.TheVariants.{Decrease, Increase, Populate}
use Rattle.shown_words.specs.Shown.{IsSettledRef, NoneDies}
use Rattle.shown_words.proofs.Base.{either, owned_settled, put_none, shown}

-- ---- frames given back
-- an owned word without its mark stays owned
cleared_by : (w : ℕ) (r : Option RefWord) → ref_read w ≡ r → IsSettledRef w → IsSettledRef (cleared_in w r)
unfolding IsRef
cleared_by w (Some (Owned o a c)) is s = owned_settled o c false (ref_write-read w (Owned o a c) (read_small w (Owned o a c) is) is).0
cleared_by w (Some (Free stamp)) is s = s
cleared_by w (Some (Dying o)) is s = s
cleared_by w None is s = s

cleared_none : (f : ℕ) (m : Words) → NoneDies m → NoneDies (change (Store (cleared (m (Refs f)))) (Refs f) m)
unfolding left_by
cleared_none f m n g = either (g == f) _ (m (Refs g)) (λ same. cleared_by (m (Refs f)) (ref_read (m (Refs f))) refl (n f)) (n g)

-- a frame that is given back lets none die
pub returned_none : (f : ℕ) (m : Words) → NoneDies m → NoneDies (returned f m)
returned_none f m n = put_none f (change (Store (cleared (m (Refs f)))) (Refs f) m) (cleared_none f m n)

pub all_returned_none : (first from k : ℕ) (m : Words) → NoneDies m → NoneDies (all_returned first from k m)
all_returned_none first from zero m n = n
all_returned_none first from (suc k) m n = returned_none (number_at first (from + k)) (all_returned first from k m) (all_returned_none first from k m n)

-- what a refusal shows is the word that is told there
return_shows : (n : Machine) (owner f w g x : ℕ) → return_refusal n owner f w ≡ Some (WrongOwner g x) → x ≡ w
return_shows n owner f w g x is = by (nat_lt f n.frames) (is_own_allocated owner (ref_read w)) is
  where
    by : (b c : Bool) → (if b then (if c then None else Some (WrongOwner f w)) else Some (NoFrame f)) ≡ Some (WrongOwner g x) → x ≡ w
    by true true e = absurd cc
    by true false e = sym (shown f w g x e)
    by false c e = absurd cc

-- what a refused extent shows of a frame of another owner is a word of no frame that is just being given back
pub extent_shows : (v w : PortValue) (d size : ℕ) (e : Extent) (from to : ℕ) (g x : ℕ) → IsMachine v.post.machine → is_telling v ≡ true → NoneDies (told_word v) → Reserves d size e from v to w (Err (Refused (WrongOwner g x))) → is_dying x ≡ false
extent_shows v w d size Increase from to g x machine telling n a = absurd a.kinds
extent_shows v w d size (Populate gpfn) from to g x machine telling n a = absurd a.kinds
extent_shows v w d size (Decrease first) from to g x machine telling n a =
    let words = all_returned first from (to - from) (told_word v) in
    let f = number_at first (from + (to - from)) in
    ap is_dying (return_shows v.post.machine d f (words (Refs f)) g x (a.plain telling).ends) ∙ (all_returned_none first from (to - from) (told_word v) n f).owned
