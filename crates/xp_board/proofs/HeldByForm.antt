-- How many entries of a frame are recorded, by the form of its kind word.
use Rattle.std.proofs.Common.{inl, inr, ◌≡◌, ℕ, ◌<◌, Bool, true, false, Option, refl, arith, IsTrue, if◌then◌else◌, Some, None}
use Rattle.std.proofs.lemmas.Bool.Decides.{nat_tests}
use Rattle.std.proofs.lemmas.Bool.{cases_Bool}
use Rattle.xp_board.specs.Readings.{is_live, is_partial, is_dead}
use Rattle.xp_board.specs.Recorded.{held_of}
use Rattle.xp_board.specs.Sound.{is_busy}
use Rattle.xp_words.specs.PageTypes.{is_table}
use Rattle.xp_words.specs.declared.kind.KindWord.{KindWord}

pub held_live : (k : KindWord) → IsTrue (is_live k) → held_of k None ≡ (if is_table k.kind then 512 else 0)
unfolding held_of
held_live k live = rw live refl

pub held_partial : (k : KindWord) → IsTrue (is_partial k) → held_of k None ≡ (if is_table k.kind then k.progress else 0)
unfolding held_of
held_partial k partial =
    let live : k.validated ≡ false = grind (arith, nat_tests) in
    let part : k.partial ≡ true = grind (arith, nat_tests) in
    rw (live, part) refl

pub same_zero : (t : Bool) → ◌≡◌ {A = ℕ} (if t then 0 else 0) 0
same_zero true = refl
same_zero false = refl

pub held_dead : (k : KindWord) → IsTrue (is_dead k) → held_of k None ≡ 0
unfolding held_of
held_dead k dead =
    let live : k.validated ≡ false = grind (arith, nat_tests) in
    let part : k.partial ≡ false = grind (arith, nat_tests) in
    rw (live, part) (same_zero (is_table k.kind))

pub held_work : (k : KindWord) (r : ℕ) → held_of k (Some r) ≡ (if is_table k.kind then r else 0)
unfolding held_of
held_work k r = refl

pub held_table_work : (k : KindWord) (r : ℕ) → is_table k.kind ≡ true → held_of k (Some r) ≡ r
unfolding held_of
held_table_work k r t = rw t refl

pub no_table : (k : KindWord) (o : Option ℕ) → is_table k.kind ≡ false → held_of k o ≡ 0
unfolding held_of
no_table k o e = rw e refl

pub held_table : (k : KindWord) (o : Option ℕ) (i : ℕ) → i < held_of k o → IsTrue (is_table k.kind)
unfolding held_of
held_table k o i l =
    elim (cases_Bool (is_table k.kind)) [
      | inl table ↦ table
      | inr page ↦ absurd (let none : i < 0 = rw page at l in omega arith)
    ]

pub held_same : (k l : KindWord) → l.kind ≡ k.kind → l.validated ≡ k.validated → l.partial ≡ k.partial → l.progress ≡ k.progress → held_of l None ≡ held_of k None
unfolding held_of
held_same k l t v p r = rw (t, v, p, r) refl

pub live_partial : (k : KindWord) → IsTrue (is_live k) → IsTrue (is_partial k) → ⊥
live_partial k live p = let a : is_partial k ≡ false = rw live refl in cc

-- a live frame that is counted is in no hand alone
pub live_idle : (k : KindWord) → IsTrue (is_live k) → 0 < k.number → is_busy k ≡ false
live_idle k live some = grind (arith, nat_tests)
