-- Both old words: what a settling that ends leaves of them, and one that the gate pauses.
use Rattle.std.proofs.Common.{◌≡◌, ◌≢◌, ◌⊎◌, ℕ, ◌<◌, Bool, true, List, Option, Some, None, Result, Ok, Err, refl, sym, ap, ◌∙◌, subst, inl, inr, arith}
use Rattle.std.proofs.lemmas.Bool.{cases_eq}
use Rattle.std.proofs.lemmas.Bool.Decides.{nat_tests}
use Rattle.xp_words.specs.Machine.{Machine}
use Rattle.xp_words.specs.declared.place.Place.{Place}
use Rattle.xp_words.specs.declared.place.Place.TheVariants.{Vcpu}
use Rattle.xp_words.specs.declared.reply.Pause.{Pause}
use Rattle.xp_words.specs.declared.reply.Pause.TheVariants.{Due, Lost, Busy, Flush, Alive}
use Rattle.xp_words.specs.declared.reply.Stop.{Stop}
use Rattle.xp_words.specs.declared.reply.Stop.TheVariants.{Paused}
use Rattle.xp_board.specs.Told.{PortValue, is_telling, told_word}
use Rattle.step_maker.specs.Plain.{Words}
use Rattle.step_maker.proofs.Telling.{came_telling}
use Rattle.answer_laws.specs.Alone.{IsAlone}
use Rattle.answer_laws.proofs.Shared.{alone_telling}
use Rattle.level_release.specs.Asking.{IsReleaseEnd}
use Rattle.level_release.specs.Course as course
use Rattle.level_release.specs.Course.{Settled, left_settled}
use Rattle.table_words.specs.declared.old_words.OldWord.TheVariants.{First, Second}
use Rattle.vcpu_turn.specs.Unhindered.{IsUnhindered}
use Rattle.vcpu_turn.specs.Settling.{Settles}
use Rattle.vcpu_turn.specs.declared.cpu.TurnEnd.TheVariants as ends
use Rattle.turn_measures.specs.Measures.{KeepsLeft, bit_named, left_rank, most_left, olds_named}
use Rattle.turn_measures.proofs.Naming.{post_vcpu}
use Rattle.turn_measures.proofs.Olds.{Empties, Leaves, one_empties, one_leaves}

-- ---- counts
none_named : (x : ℕ) → x ≡ 0 → bit_named x ≡ 0
none_named x is = grind (arith, nat_tests)

one_named : (x : ℕ) → x ≢ 0 → bit_named x ≡ 1
one_named x some = grind (arith, nat_tests)

pub unnamed : (x : ℕ) → bit_named x ≡ 0 → x ≡ 0
unnamed x is = grind (arith, nat_tests)

same_named : (x y : ℕ) → x ≡ y → bit_named x ≡ bit_named y
same_named x y is = ap bit_named is

-- ---- a settling that ends
module _ (below : Option ℕ) (v : PortValue) (telling : is_telling v ≡ true) where
  ended_none : (w : PortValue) (answers : List Bool) (answer : Result (Unit {0}) Stop) → answer ≡ Ok tt → Settled below v w answers answer → olds_named (told_word w) v.post.vcpu ≡ 0
  ended_none _ _ _ ok (course.Settled.first w answers stop one) = absurd (cc)
  ended_none _ _ _ ok (course.Settled.both u w answers more answer one two) =
      let s = v.post.vcpu in
      let a = one_empties below v First u answers (Ok tt) refl telling one in
      let b = one_empties None u Second w more answer ok (came_telling v u a.came ∙ telling) two in
      let at = post_vcpu v u a.came in
      let second : told_word w (Vcpu s 3) ≡ 0 = subst (λ t. told_word w (Vcpu t 3) ≡ 0) at b.empty in
      let first : told_word w (Vcpu s 2) ≡ 0 = subst (λ t. told_word w (Vcpu t 2) ≡ told_word u (Vcpu t 2)) at (b.others 2 (omega arith)) ∙ a.empty in
      let x = none_named _ first in
      let y = none_named _ second in
      omega (arith, x, y)

  ended_same : (w : PortValue) (answers : List Bool) (answer : Result (Unit {0}) Stop) → answer ≡ Ok tt → Settled below v w answers answer → olds_named (told_word v) v.post.vcpu ≡ 0 → (q : Place) → told_word w q ≡ told_word v q
  ended_same _ _ _ ok (course.Settled.first w answers stop one) none q = absurd (cc)
  ended_same _ _ _ ok (course.Settled.both u w answers more answer one two) none q =
      let s = v.post.vcpu in
      let a = one_empties below v First u answers (Ok tt) refl telling one in
      let b = one_empties None u Second w more answer ok (came_telling v u a.came ∙ telling) two in
      let at = post_vcpu v u a.came in
      let first : told_word v (Vcpu s 2) ≡ 0 = unnamed (told_word v (Vcpu s 2)) (omega (arith, none)) in
      let second : told_word v (Vcpu s 3) ≡ 0 = unnamed (told_word v (Vcpu s 3)) (omega (arith, none)) in
      let still : told_word u (Vcpu u.post.vcpu 3) ≡ 0 = subst (λ t. told_word u (Vcpu t 3) ≡ 0) (sym at) (a.others 3 (omega arith) ∙ second) in
      b.same still q ∙ a.same first q

-- ---- one that is paused for the gate
pub record NamesLess (below : Option ℕ) (m m' : Words) (s : ℕ) (left : Option ℕ) : Type 0 where
  pub keeps : KeepsLeft m' s left
  pub less : (olds_named m' s < olds_named m s) ⊎ ((olds_named m' s ≡ olds_named m s) × (left_rank left < left_rank below))

kept_some : (m : Words) (s : ℕ) (left : Option ℕ) (k : ℕ) → left ≡ Some k → k < most_left → m (Vcpu s 2) ≢ 0 → KeepsLeft m s left
kept_some m s left k is few names = subst (KeepsLeft m s) (sym is) (few, names)

rank_some : (left : Option ℕ) (k bound : ℕ) → left ≡ Some k → k < bound → left_rank left < bound
rank_some left k bound is less = subst (λ (o : Option ℕ). left_rank o < bound) (sym is) less

-- where no frame was named in the first word, nothing was kept
none_kept : (below : Option ℕ) (m : Words) (s : ℕ) → KeepsLeft m s below → m (Vcpu s 2) ≡ 0 → left_rank below ≡ most_left
none_kept None m s keeps none = refl
none_kept (Some k) m s keeps none = absurd (keeps.1 none)

module _ (below : Option ℕ) (v : PortValue) (telling : is_telling v ≡ true) (keeps : KeepsLeft (told_word v) v.post.vcpu below) where
  first_less : (w : PortValue) (left : Option ℕ) → Leaves below v w 2 left → NamesLess below (told_word v) (told_word w) v.post.vcpu left
  first_less w left l =
      let s = v.post.vcpu in
      let x = one_named (told_word v (Vcpu s 2)) l.named in
      let y = one_named (told_word w (Vcpu s 2)) l.names in
      let z = same_named _ _ (l.others 3 (omega arith) (omega arith)) in
      record {
        keeps = kept_some (told_word w) s left l.few.number l.few.left_is l.few.few l.names;
        less = inr (omega (arith, x, y, z), rank_some left l.few.number (left_rank below) l.few.left_is l.few.less);
      }

  second_less : (u w : PortValue) (left : Option ℕ) → Empties v u 2 → Leaves None u w 3 left → NamesLess below (told_word v) (told_word w) v.post.vcpu left
  second_less u w left a l =
      let s = v.post.vcpu in
      let at = post_vcpu v u a.came in
      let names : told_word w (Vcpu s 2) ≢ 0 = subst (λ t. told_word w (Vcpu t 2) ≢ 0) at l.names in
      let gone : told_word w (Vcpu s 3) ≡ 0 = subst (λ t. told_word w (Vcpu t 3) ≡ 0) at (l.empty (omega arith)) in
      let was : told_word u (Vcpu s 3) ≢ 0 = subst (λ t. told_word u (Vcpu t 3) ≢ 0) at l.named in
      let there : told_word v (Vcpu s 3) ≢ 0 = λ none. was (a.others 3 (omega arith) ∙ none) in
      let x = one_named _ names in
      let y = none_named _ gone in
      let z = one_named _ there in
      record {
        keeps = kept_some (told_word w) s left l.few.number l.few.left_is l.few.few names;
        less = elim (cases_eq (told_word v (Vcpu s 2)) 0) [
          | inl none ↦ (
              let e = none_named _ none in
              let all = none_kept below (told_word v) s keeps none in
              inr (omega (arith, x, y, z, e), subst (λ r. left_rank left < r) (sym all) (rank_some left l.few.number most_left l.few.left_is l.few.few))
              )
          | inr some ↦ inl (let e = one_named _ some in omega (arith, x, y, z, e))
        ];
      }

  paused_less : (w : PortValue) (answers : List Bool) (answer : Result (Unit {0}) Stop) → answer ≡ Err (Paused Due) → (run : Settled below v w answers answer) → NamesLess below (told_word v) (told_word w) v.post.vcpu (left_settled run)
  paused_less _ _ _ is (course.Settled.first w answers stop one) = first_less w _ (one_leaves below v First w answers (Err stop) is telling one)
  paused_less _ _ _ is (course.Settled.both u w answers more answer one two) =
      let a = one_empties below v First u answers (Ok tt) refl telling one in
      second_less u w _ a (one_leaves None u Second w more answer is (came_telling v u a.came ∙ telling) two)

-- ---- with its steps
due_only : (n : Machine) (p : Pause) → IsReleaseEnd (Paused p) → IsUnhindered n (ends.Paused p) → p ≡ Due
due_only n Due kind free = refl
due_only n (Lost place expected found) kind free = absurd free
due_only n (Busy f found) kind free = absurd free
due_only n (Flush u stamp found) kind free = absurd kind
due_only n (Alive u found) kind free = absurd kind

pub settles_less : (below : Option ℕ) (v w : PortValue) (answers : List Bool) (p : Pause) → IsAlone v → IsUnhindered v.post.machine (ends.Paused p) → KeepsLeft (told_word v) v.post.vcpu below →
    (settles : Settles below v w answers (Err (Paused p))) → NamesLess below (told_word v) (told_word w) v.post.vcpu (left_settled settles.course)
settles_less below v w answers p alone free keeps settles =
    paused_less below v (alone_telling v alone) keeps w answers (Err (Paused p)) (ap (λ (x : Pause). Err (Paused x)) (due_only v.post.machine p settles.kinds free)) settles.course

pub settles_none : (below : Option ℕ) (v w : PortValue) (answers : List Bool) → IsAlone v → Settles below v w answers (Ok tt) → olds_named (told_word w) v.post.vcpu ≡ 0
settles_none below v w answers alone settles = ended_none below v (alone_telling v alone) w answers (Ok tt) refl settles.course

pub settles_same : (below : Option ℕ) (v w : PortValue) (answers : List Bool) → IsAlone v → Settles below v w answers (Ok tt) → olds_named (told_word v) v.post.vcpu ≡ 0 → (q : Place) → told_word w q ≡ told_word v q
settles_same below v w answers alone settles none q = ended_same below v (alone_telling v alone) w answers (Ok tt) refl settles.course none q
