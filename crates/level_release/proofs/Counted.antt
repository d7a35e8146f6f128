-- What the kind word says of a frame to which a typed reference is in hand, and of which the vCPU holds nothing else.
use Rattle.std.proofs.Common.{◌≡◌, ℕ, ◌+◌, ◌<◌, ◌≤◌, not, ◌&&◌, Bool, true, false, List, [], IsTrue, refl, ap, subst, arith, inl, inr}
use Rattle.std.proofs.lemmas.Bool.{cases_Bool}
use Rattle.xp_words.specs.KindWords.{kind_fields}
use Rattle.xp_words.specs.Machine.{Machine}
use Rattle.xp_words.specs.Places.{sizes_of}
use Rattle.xp_words.specs.RefWords.{bit}
use Rattle.xp_words.specs.declared.kind.KindWord.{KindWord}
use Rattle.xp_words.specs.declared.place.Place.TheVariants.{Kind}
use Rattle.xp_board.specs.Hands.{ending_of, lock_on, typed_hand, typed_to, work_on}
use Rattle.xp_board.specs.Lists.{first_by}
use Rattle.xp_board.specs.Readings.{is_dead, is_partial, is_work, type_count}
use Rattle.xp_board.specs.Recorded.{marks}
use Rattle.xp_board.specs.Told.{Finds}
use Rattle.xp_board.specs.declared.holdings.Ending.{Ending}
use Rattle.xp_board.specs.declared.holdings.Holdings.{Holdings}
use Rattle.xp_board.specs.declared.holdings.Lock.{Lock}
use Rattle.xp_board.specs.declared.holdings.Work.{Work}
use Rattle.xp_board.proofs.Counted.{typed_hand_is}
use Rattle.xp_board.proofs.KindReadings.{dead_count}
use Rattle.xp_board.proofs.Sums.{hands-part}
use Rattle.step_maker.specs.Pauses.{IsElsewhere}
use Rattle.table_entries.proofs.LastEntry.{partial_count}

-- ---- counts
kept_marks : (k : KindWord) → k.kept ≡ true → 1 ≤ marks k
unfolding marks
kept_marks k on = let one : bit k.kept ≡ 1 = ap bit on in omega (arith, one)

neither : {a b : Bool} (c : Bool) → a ≡ false → b ≡ false → (not a && (not b && not c)) ≡ false → IsTrue (not a && (not b && c))
neither true first second alive = rw (first, second) refl
neither {a} {b} false first second alive = absurd (let dead : (not a && (not b && true)) ≡ true = rw (first, second) refl in cc)

module _ {n : Machine} {s : ℕ} {h : Holdings} {f w : ℕ} (finds : Finds n s h (Kind f) w) (held : 0 < typed_to f h.typed) where
  abbrev k : KindWord
  k = kind_fields w

  -- the reference, and the marks
  counted : marks k + 1 ≤ type_count k
  counted =
      let all = finds.sound.counts.types f in
      let part = hands-part (typed_hand f) (sizes_of n) finds.hands s finds.real in
      let mine : typed_hand f (finds.hands s) ≡ typed_hand f h = ap (λ (u : Holdings). typed_hand f u) finds.mine in
      let sum = typed_hand_is f h in
      let here = subst (λ x. marks (kind_fields x) + 1 ≤ type_count (kind_fields x)) finds.word (omega (arith, all, part, mine, sum, held)) in
      here

  -- the mark of a partial frame has no reference beside it
  pub unkept : IsTrue (is_partial k) → k.kept ≡ false
  unkept partial =
      elim (cases_Bool k.kept) [
        | inl on ↦ absurd (let some = kept_marks k on in let one = partial_count k partial in let both = counted in omega (arith, some, one, both))
        | inr off ↦ off
      ]

  pub undead : is_dead k ≡ false
  undead =
      elim (cases_Bool (is_dead k)) [
        | inl dead ↦ absurd (let none = dead_count k dead in let some = counted in omega (arith, none, some))
        | inr alive ↦ alive
      ]

  -- a frame that is neither live nor partial is in work
  pub in_work : k.validated ≡ false → k.partial ≡ false → IsTrue (is_work k)
  in_work unlive whole = neither k.locked unlive whole undead

-- ---- nothing else of it is in hand
pub elsewhere : (f : ℕ) (h : Holdings) → h.works ≡ [] → h.locks ≡ [] → h.ending ≡ [] → IsElsewhere f h
unfolding first_by
elsewhere f h works locks ending = (ap (λ (xs : List Work). work_on f xs) works, ap (λ (xs : List Lock). lock_on f xs) locks, ap (λ (xs : List Ending). ending_of f xs) ending)
