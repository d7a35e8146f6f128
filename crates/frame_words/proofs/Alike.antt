-- References given back of words that are alike.
use Rattle.std.proofs.Common.{◌≡◌, ℕ, ◌/◌, ◌%◌, ◌^◌, ◌<◌, ◌==◌, if◌then◌else◌, Bool, true, false, None, refl, sym, ap, ◌∙◌, subst, arith, inl, inr}
use Rattle.xp_words.specs.declared.place.Place.{Place}
use Rattle.xp_words.specs.declared.place.Place.TheVariants.{Clock, Pages, Refs, Map}
use Rattle.xp_words.specs.RefWords.{ref_write}
use Rattle.xp_words.specs.declared.refs.RefWord.TheVariants.{Free}
use Rattle.xp_words.specs.Places.{sizes_of}
use Rattle.xp_board.specs.declared.step.Act.{Act}
use Rattle.xp_board.specs.declared.step.Act.TheVariants.{Store, Add}
use Rattle.xp_board.specs.declared.step.StepKind.TheVariants as kinds
use Rattle.xp_board.specs.declared.holdings.Holdings.{Holdings}
use Rattle.xp_board.specs.Acts.{left_by}
use Rattle.xp_board.specs.Hands.{hand, refs_to}
use Rattle.xp_board.specs.HintSteps.{map_bit}
use Rattle.xp_board.specs.Readings.{is_free, ref_count, owner_of}
use Rattle.xp_board.specs.RefSteps.{one_down, owner_number}
use Rattle.xp_board.specs.Steps.{is_same}
use Rattle.xp_board.specs.Told.{PortValue, is_telling, told_word}
use Rattle.xp_board.proofs.PlaceTests.{same_place}
use Rattle.xp_board.proofs.RefForms.{counted_word}
use Rattle.xp_board.proofs.Sums.{hands-part}
use Rattle.step_maker.specs.Moves.{Moves}
use Rattle.step_maker.specs.Plain.{Words, change}
use Rattle.step_maker.proofs.Telling.{told_there}
use Rattle.step_maker.specs.Twins.{Alike, IsAlike, IsAlikeRef}
use Rattle.step_maker.proofs.Alikes.{alike_same}
use Rattle.frame_words.specs.Plain.{set_free, lowered, put, stamp_now}
use Rattle.frame_words.specs.Refs.{MayPut}
use Rattle.frame_words.proofs.FreeSteps.{free_read}

-- ---- a frame with a reference in hand is not free
pub owned_word : (v u : PortValue) (f w : ℕ) → Moves v u (Refs f) (Add one_down) kinds.Ref None w → MayPut f v.holdings → is_free w ≡ false
unfolding hand
owned_word v u f w lower gives =
    let finds = lower.finds in
    let all = finds.sound.counts.refs f in
    let mine = hands-part (hand f) (sizes_of v.post.machine) finds.hands v.post.vcpu finds.real in
    let held : 0 < refs_to f (finds.hands v.post.vcpu).refs = subst (λ (h : Holdings). 0 < refs_to f h.refs) (sym finds.mine) gives.held in
    subst (λ y. is_free y ≡ false) finds.word (counted_word (finds.words (Refs f)) (omega (arith, all, mine, held))).0

pub told_owned : (v u : PortValue) (f w : ℕ) → Moves v u (Refs f) (Add one_down) kinds.Ref None w → MayPut f v.holdings → is_telling v ≡ true → is_free (told_word v (Refs f)) ≡ false
told_owned v u f w lower gives telling = ap is_free (told_there v u (Refs f) (Add one_down) kinds.Ref None w lower telling) ∙ owned_word v u f w lower gives

-- ---- the same act at a word that is the same
by_act : (b : Bool) (q : Place) (x y z u : ℕ) → IsAlike q x y → (b ≡ true → z ≡ u) → IsAlike q (if b then z else x) (if b then u else y)
by_act true q x y z u a same = alike_same q z u (same refl)
by_act false q x y z u a same = a

pub alike_act : (a : Act) (p : Place) (m n : Words) → m p ≡ n p → Alike m n → Alike (change a p m) (change a p n)
alike_act a p m n same all q = by_act (is_same q p) q (m q) (n q) (left_by a (m p)) (left_by a (n p)) (all q) (λ on. ap (left_by a) same)

-- words of one place that are alike, and stored there
pub alike_stores : (p : Place) (x y : ℕ) (m n : Words) → IsAlike p x y → Alike m n → Alike (change (Store x) p m) (change (Store y) p n)
unfolding left_by
alike_stores p x y m n at all q = by_place (is_same q p) refl
  where
    by_place : (b : Bool) → is_same q p ≡ b → IsAlike q (if b then x else m q) (if b then y else n q)
    by_place true on = subst (λ r. IsAlike r x y) (sym (same_place q p on)) at
    by_place false off = all q

-- ---- a reference is given back
same_ref : (x y : ℕ) → is_free x ≡ false → IsAlikeRef x y → x ≡ y
same_ref x y off (inl e) = e
same_ref x y off (inr e) = absurd (let k = sym e.0 ∙ off in cc)

pub stamp_low : (y : ℕ) → y % 2 ^ 36 < 2 ^ 36
stamp_low y = omega arith

is_free_stamp : (stamp : ℕ) → stamp < 2 ^ 36 → is_free (ref_write (Free stamp)) ≡ true
unfolding is_free
is_free_stamp stamp low = rw (free_read stamp low) refl

freed_alike : (f owner : ℕ) (m n : Words) → Alike m n → Alike (set_free f owner m) (set_free f owner n)
freed_alike f owner m n all =
    let one = alike_act (Add (map_bit f)) (Map (f / 64)) m n (all (Map (f / 64))) all in
    let two = alike_stores (Refs f) (ref_write (Free (stamp_now m))) (ref_write (Free (stamp_now n))) _ _
    (inr (is_free_stamp (stamp_now m) (stamp_low (m Clock)), is_free_stamp (stamp_now n) (stamp_low (n Clock)))) one in
    alike_act (Add one_down) (Pages owner) _ _ (two (Pages owner)) two

put_by : (b : Bool) (f owner : ℕ) (m n : Words) → Alike m n → Alike (if b then set_free f owner m else m) (if b then set_free f owner n else n)
put_by true f owner m n all = freed_alike f owner m n all
put_by false f owner m n all = all

-- of a frame that is not free, words that are alike are alike after that
pub put_alike : (f : ℕ) (m n : Words) → is_free (m (Refs f)) ≡ false → Alike m n → Alike (put f m) (put f n)
put_alike f m n owned all =
    let same = same_ref (m (Refs f)) (n (Refs f)) owned (all (Refs f)) in
    let less = alike_act (Add one_down) (Refs f) m n same all in
    subst (λ y. Alike (put f m) (if ref_count y == 1 then set_free f (owner_number (owner_of y)) (lowered f n) else lowered f n)) same
    (put_by (ref_count (m (Refs f)) == 1) f (owner_number (owner_of (m (Refs f)))) (lowered f m) (lowered f n) less)
