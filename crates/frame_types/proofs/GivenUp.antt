-- What is left of ordinary memory whose flush was not to be had, in plain words.
use Rattle.std.proofs.Common.{◌≡◌, ℕ, ◌<◌, ◌^◌, ◌||◌, not, if◌then◌else◌, Bool, true, false, IsTrue, Some, Ok, Err, refl, sym, ap, ◌∙◌, subst, arith, inr}
use Rattle.xp_words.specs.KindWords.{kind_fields, kind_write}
use Rattle.xp_words.specs.declared.kind.KindWord.{KindWord}
use Rattle.xp_words.specs.declared.kind.PageType.TheVariants.{Writable}
use Rattle.xp_words.specs.declared.place.Place.{Place}
use Rattle.xp_words.specs.declared.place.Place.TheVariants.{Kind, Refs}
use Rattle.xp_words.specs.declared.reply.Pause.TheVariants as pauses
use Rattle.xp_words.specs.declared.reply.Refusal.TheVariants as refusals
use Rattle.xp_words.specs.declared.reply.Stop.{Stop}
use Rattle.xp_words.specs.declared.reply.Stop.TheVariants.{Refused, Paused}
use Rattle.xp_board.specs.Acts.{left_by}
use Rattle.xp_board.specs.Readings.{is_free}
use Rattle.xp_board.specs.Steps.{is_same}
use Rattle.xp_board.specs.Told.{PortValue, told_word}
use Rattle.step_maker.specs.Plain.{Leaves, Words}
use Rattle.step_maker.specs.Twins.{Alike, IsAlikeKind}
use Rattle.step_maker.proofs.Alikes.{alike_trans, same_alike}
use Rattle.frame_words.specs.Plain.{put, stamp_now}
use Rattle.frame_words.proofs.Alike.{alike_stores, put_alike, stamp_low}
use Rattle.kind_words.specs.Kinds.{dead_kind, partial_kind}
use Rattle.kind_words.proofs.KindWriting.{dead_is, fields_write, marked_is}
use Rattle.flush_waits.specs.Waiting.{IsWait}
use Rattle.frame_types.specs.Plain.{IsTakenBy, TakesMemory, TakesPlainly, given_up, given_up_by, is_refused, left_waiting, set_kind, stop_by, taken_by, waits_by}
use Rattle.frame_types.specs.Standing.{standing_of}
use Rattle.frame_types.specs.declared.standing.Standing.{Standing}
use Rattle.frame_types.specs.declared.standing.Standing.TheVariants as stands
use Rattle.frame_types.specs.declared.taking.Taken.TheVariants.{Waiting}

-- ---- a store over a store
pub over : (f : ℕ) (k l : KindWord) (x : Words) (q : Place) → set_kind f l (set_kind f k x) q ≡ set_kind f l x q
unfolding left_by
over f k l x q = by (is_same q (Kind f))
  where
    by : (b : Bool) → (if b then kind_write l else (if b then kind_write k else x q)) ≡ (if b then kind_write l else x q)
    by true = refl
    by false = refl

-- ---- words alike but for the stamp
dead_marked : (x y : ℕ) → x < 2 ^ 36 → y < 2 ^ 36 → IsAlikeKind (kind_fields (kind_write (dead_kind Writable true x))) (kind_fields (kind_write (dead_kind Writable true y)))
dead_marked x y low less = rw (fields_write (dead_kind Writable true x) (dead_is Writable refl true x low), fields_write (dead_kind Writable true y) (dead_is Writable refl true y less)) (refl, refl)

partial_marked : (kept : Bool) (x y : ℕ) → x < 2 ^ 36 → y < 2 ^ 36 → IsAlikeKind (kind_fields (kind_write (partial_kind Writable kept true 0 x))) (kind_fields (kind_write (partial_kind Writable kept true 0 y)))
partial_marked kept x y low less = rw (fields_write (partial_kind Writable kept true 0 x) (marked_is Writable refl kept x refl low), fields_write (partial_kind Writable kept true 0 y) (marked_is Writable refl kept y refl less)) (refl, refl)

module _ (f : ℕ) (k : KindWord) (x u : Words) (all : Alike u (set_kind f k x)) where
  -- another word is stored at both
  stored : (l j : KindWord) → IsAlikeKind (kind_fields (kind_write l)) (kind_fields (kind_write j)) → Alike (set_kind f l u) (set_kind f j x)
  stored l j at =
      alike_trans (set_kind f l u) (set_kind f j (set_kind f k x)) (set_kind f j x) (alike_stores (Kind f) (kind_write l) (kind_write j) u (set_kind f k x) (inr at) all)
      (same_alike (set_kind f j (set_kind f k x)) (set_kind f j x) (over f k j x))

  module _ (stamp : ℕ) (low : stamp < 2 ^ 36) where
    own_refused : is_free (u (Refs f)) ≡ false → Alike (left_waiting f true true stamp u) (put f (set_kind f (dead_kind Writable true 0) x))
    own_refused owned =
        put_alike f (set_kind f (dead_kind Writable true (stamp_now u)) u) (set_kind f (dead_kind Writable true 0) x) owned
        (stored (dead_kind Writable true (stamp_now u)) (dead_kind Writable true 0) (dead_marked (stamp_now u) 0 (stamp_low _) (omega arith)))

    own_paused : Alike (left_waiting f true false stamp u) (set_kind f (partial_kind Writable true true 0 0) x)
    own_paused = stored (partial_kind Writable true true 0 stamp) (partial_kind Writable true true 0 0) (partial_marked true stamp 0 low (omega arith))

    shared : (refused : Bool) → is_free (u (Refs f)) ≡ false → Alike (left_waiting f false refused stamp u) (put f (set_kind f (partial_kind Writable false true 0 0) x))
    shared refused owned =
        put_alike f (set_kind f (partial_kind Writable false true 0 stamp) u) (set_kind f (partial_kind Writable false true 0 0) x) owned
        (stored (partial_kind Writable false true 0 stamp) (partial_kind Writable false true 0 0) (partial_marked false stamp 0 low (omega arith)))

-- ---- whichever way the frame came into work
-- words where a reference of the frame's own mark came into the hand, or no such one
abbrev less : Bool → ℕ → Words → Words
less kept f m = if kept then put f m else m

-- what is left, by whether the type count is the own one
abbrev up_by : Bool → ℕ → Words → Words → Bool → Words
up_by true f x m own = if own then put f (set_kind f (dead_kind Writable true 0) x) else put f (set_kind f (partial_kind Writable false true 0 0) m)
up_by false f x m own = if own then set_kind f (partial_kind Writable true true 0 0) x else put f (set_kind f (partial_kind Writable false true 0 0) m)

module _ (f stamp : ℕ) (low : stamp < 2 ^ 36) where
  by_own : (own refused : Bool) (k : KindWord) (x m u : Words) → (own ≡ false → x ≡ m) → Alike u (set_kind f k x) → (IsTrue (not own || refused) → is_free (u (Refs f)) ≡ false) → Alike (left_waiting f own refused stamp u) (up_by refused f x m own)
  by_own true true k x m u same all owned = own_refused f k x u all stamp low (owned refl)
  by_own true false k x m u same all owned = own_paused f k x u all stamp low
  by_own false true k x m u same all owned = subst (λ y. Alike (left_waiting f false true stamp u) (put f (set_kind f (partial_kind Writable false true 0 0) y))) (same refl) (shared f k x u all stamp low true (owned refl))
  by_own false false k x m u same all owned = subst (λ y. Alike (left_waiting f false false stamp u) (put f (set_kind f (partial_kind Writable false true 0 0) y))) (same refl) (shared f k x u all stamp low false (owned refl))

  by_mark : (own : Bool) (m : Words) → own ≡ false → less own f m ≡ m
  by_mark true m is = absurd cc
  by_mark false m is = refl

  module _ (stop : Stop) (own : Bool) (m u : Words) where
    pub waiting_words : (refused : Bool) (k : KindWord) (s : Standing) → IsTakenBy Writable k s (Waiting own stamp stop) → Alike u (taken_by f Writable k s (Waiting own stamp stop) m) →
        (IsTrue (not own || refused) → is_free (u (Refs f)) ≡ false) → Alike (left_waiting f own refused stamp u) (given_up_by f k s refused m)
    waiting_words refused k stands.Counted way all owned = absurd (let k = way in cc)
    waiting_words true k stands.Partial way all owned = subst (λ b. Alike (left_waiting f own true stamp u) (up_by true f (less k.kept f m) m b)) way.1 (by_own own true _ (less k.kept f m) m u (λ no. by_mark k.kept m (sym way.1 ∙ no)) all owned)
    waiting_words false k stands.Partial way all owned = subst (λ b. Alike (left_waiting f own false stamp u) (up_by false f (less k.kept f m) m b)) way.1 (by_own own false _ (less k.kept f m) m u (λ no. by_mark k.kept m (sym way.1 ∙ no)) all owned)
    waiting_words true k stands.Dead way all owned = subst (λ b. Alike (left_waiting f own true stamp u) (up_by true f m m b)) way.1 (by_own own true _ m m u (λ no. refl) all owned)
    waiting_words false k stands.Dead way all owned = subst (λ b. Alike (left_waiting f own false stamp u) (up_by false f m m b)) way.1 (by_own own false _ m m u (λ no. refl) all owned)
    waiting_words refused k stands.Other way all owned = absurd (let k = way.0 in cc)
    waiting_words refused k stands.Busy way all owned = absurd (let k = way.0 in cc)

waits_so : (want k s own stamp stop : _) → IsTakenBy want k s (Waiting own stamp stop) → waits_by k want s ≡ true
waits_so want k stands.Counted own stamp stop way = absurd (let k = way in cc)
waits_so want k stands.Partial own stamp stop way = way.0
waits_so want k stands.Dead own stamp stop way = way.0
waits_so want k stands.Other own stamp stop way = way.0
waits_so want k stands.Busy own stamp stop way = way.0

-- a stamp that was found in a word
pub found_stamp : (w stamp : ℕ) → (kind_fields w).number ≡ stamp → stamp < 2 ^ 36
unfolding kind_fields
found_stamp w stamp is = omega (arith, is)

-- ---- behind a wait
module _ (v u w : PortValue) (f stamp : ℕ) (own : Bool) (low : stamp < 2 ^ 36) where
  pub after_wait : (e : Stop) → IsWait e → TakesPlainly v u f Writable (Ok (Waiting own stamp e)) → Leaves w (left_waiting f own (is_refused e) stamp (told_word u)) →
      (IsTrue (not own || is_refused e) → is_free (told_word u (Refs f)) ≡ false) → TakesMemory v w f (Err e)
  after_wait (Refused (refusals.Clock x)) wait plain leaves owned = (
    waits_so Writable (kind_fields (told_word v (Kind f))) (standing_of (kind_fields (told_word v (Kind f))) Writable) own stamp (Refused (refusals.Clock x)) plain.1,
    alike_trans (told_word w) (left_waiting f own true stamp (told_word u)) (given_up f true (told_word v)) (same_alike _ _ leaves)
        (waiting_words f stamp low (Refused (refusals.Clock x)) own (told_word v) (told_word u) true (kind_fields (told_word v (Kind f))) (standing_of (kind_fields (told_word v (Kind f))) Writable) plain.1 plain.2 owned),
  )
  after_wait (Paused (pauses.Flush t s x)) wait plain leaves owned = (
    waits_so Writable (kind_fields (told_word v (Kind f))) (standing_of (kind_fields (told_word v (Kind f))) Writable) own stamp (Paused (pauses.Flush t s x)) plain.1,
    alike_trans (told_word w) (left_waiting f own false stamp (told_word u)) (given_up f false (told_word v)) (same_alike _ _ leaves)
        (waiting_words f stamp low (Paused (pauses.Flush t s x)) own (told_word v) (told_word u) false (kind_fields (told_word v (Kind f))) (standing_of (kind_fields (told_word v (Kind f))) Writable) plain.1 plain.2 owned),
  )
  after_wait (Refused _) wait plain leaves owned = absurd wait
  after_wait (Paused _) wait plain leaves owned = absurd wait

-- ---- where the type is not to be had
pub no_clock : (f w x : ℕ) (s : Standing) → stop_by f Writable w s ≡ Some (Refused (refusals.Clock x)) → ⊥
no_clock f w x stands.Counted e = absurd cc
no_clock f w x stands.Dead e = absurd cc
no_clock f w x stands.Partial e = absurd cc
no_clock f w x stands.Other e = absurd cc
no_clock f w x stands.Busy e = absurd cc

pub no_flush : (f w t s x : ℕ) (d : Standing) → stop_by f Writable w d ≡ Some (Paused (pauses.Flush t s x)) → ⊥
no_flush f w t s x stands.Counted e = absurd cc
no_flush f w t s x stands.Dead e = absurd cc
no_flush f w t s x stands.Partial e = absurd cc
no_flush f w t s x stands.Other e = absurd cc
no_flush f w t s x stands.Busy e = absurd cc

abbrev TakesSame : PortValue → PortValue → Type 0
TakesSame v u = Leaves u (told_word v)

module _ (v u w : PortValue) (f : ℕ) where
  same_words : TakesSame v u → Leaves w (put f (told_word u)) → Leaves w (put f (told_word v))
  same_words same leaves q = leaves q ∙ ap (λ (m : Words). put f m q) (λ i p. same p i)

  pub after_stop : (e : Stop) → TakesPlainly v u f Writable (Err e) → Leaves w (put f (told_word u)) → TakesMemory v w f (Err e)
  after_stop (Refused (refusals.Clock x)) plain leaves = absurd (no_clock f _ x _ plain.0)
  after_stop (Paused (pauses.Flush t s x)) plain leaves = absurd (no_flush f _ t s x _ plain.0)
  after_stop (Refused _) plain leaves = (plain.0, same_words plain.1 leaves)
  after_stop (Paused _) plain leaves = (plain.0, same_words plain.1 leaves)
