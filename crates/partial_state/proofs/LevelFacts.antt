-- Levels of page tables, and the types of what their entries name.
use Rattle.std.proofs.Common.{◌≡◌, ◌≢◌, ℕ, zero, suc, ◌-◌, ◌<◌, ◌≤◌, ◌==◌, not, true, false, IsTrue, refl, sym, ap, ◌∙◌, arith}
use Rattle.std.proofs.lemmas.Bool.Decides.{nat_tests}
use Rattle.xp_words.specs.declared.kind.PageType.{PageType}
use Rattle.xp_words.specs.declared.kind.PageType.TheVariants.{L1, L2, L3, L4}
use Rattle.xp_words.specs.Entries.{below}
use Rattle.xp_words.specs.PageTypes.{is_none, is_table, type_number}
use Rattle.xp_board.specs.Readings.{is_type}
use Rattle.partial_state.specs.Levels.{level_type}

pub level_type-below : (l : ℕ) → l < 4 → below (level_type (suc l)) ≡ level_type l
level_type-below zero b = refl
level_type-below (suc zero) b = refl
level_type-below (suc (suc zero)) b = refl
level_type-below (suc (suc (suc zero))) b = refl
level_type-below (suc (suc (suc (suc l)))) b = absurd (omega arith)

pub level_type-under : (l : ℕ) → 1 ≤ l → l ≤ 4 → below (level_type l) ≡ level_type (l - 1)
level_type-under zero a b = absurd (omega arith)
level_type-under (suc l) a b = level_type-below l (let k : l < 4 = omega arith in k) ∙ ap level_type (let k : l ≡ suc l - 1 = omega arith in k)

pub level_type-number : (l : ℕ) → 1 ≤ l → l ≤ 4 → type_number (level_type l) ≡ l
level_type-number zero b c = absurd (omega arith)
level_type-number (suc zero) b c = refl
level_type-number (suc (suc zero)) b c = refl
level_type-number (suc (suc (suc zero))) b c = refl
level_type-number (suc (suc (suc (suc zero)))) b c = refl
level_type-number (suc (suc (suc (suc (suc l))))) b c = absurd (omega arith)

pub level_type-table : (l : ℕ) → 1 ≤ l → is_table (level_type l) ≡ true
level_type-table zero b = absurd (omega arith)
level_type-table (suc zero) b = refl
level_type-table (suc (suc zero)) b = refl
level_type-table (suc (suc (suc zero))) b = refl
level_type-table (suc (suc (suc (suc l)))) b = refl

-- each is a type, and none that of descriptor pages
pub level_type-typed : (l : ℕ) → IsTrue (not (is_none (level_type l)))
level_type-typed zero = refl
level_type-typed (suc zero) = refl
level_type-typed (suc (suc zero)) = refl
level_type-typed (suc (suc (suc zero))) = refl
level_type-typed (suc (suc (suc (suc l)))) = refl

pub level_type-plain : (l : ℕ) → IsTrue (not (type_number (level_type l) == 5))
level_type-plain zero = refl
level_type-plain (suc zero) = refl
level_type-plain (suc (suc zero)) = refl
level_type-plain (suc (suc (suc zero))) = refl
level_type-plain (suc (suc (suc (suc l)))) = refl

-- two levels have two types
level_of : PageType → ℕ
level_of L1 = 1
level_of L2 = 2
level_of L3 = 3
level_of L4 = 4
level_of _ = 0

level_back : (l : ℕ) → l ≤ 4 → level_of (level_type l) ≡ l
unfolding level_of
level_back zero b = refl
level_back (suc zero) b = refl
level_back (suc (suc zero)) b = refl
level_back (suc (suc (suc zero))) b = refl
level_back (suc (suc (suc (suc zero)))) b = refl
level_back (suc (suc (suc (suc (suc l))))) b = absurd (omega arith)

pub level_type-apart : (k l : ℕ) → k ≤ 4 → l ≤ 4 → level_type k ≡ level_type l → k ≡ l
level_type-apart k l a b e = sym (level_back k a) ∙ ap level_of e ∙ level_back l b

-- a table of that level or a higher one is not of the type that entries of the level ask
other_number : (l m : ℕ) → 1 ≤ l → l ≤ m → m ≤ 4 → type_number (below (level_type l)) ≢ m
other_number zero m a b c is = absurd (omega arith)
other_number (suc zero) m a b c is = absurd (omega arith)
other_number (suc (suc zero)) m a b c is = absurd (omega arith)
other_number (suc (suc (suc zero))) m a b c is = absurd (omega arith)
other_number (suc (suc (suc (suc zero)))) m a b c is = absurd (omega arith)
other_number (suc (suc (suc (suc (suc l))))) m a b c is = absurd (omega arith)

pub level_type-above : (l m : ℕ) → 1 ≤ l → l ≤ m → m ≤ 4 → is_type (level_type m) (below (level_type l)) ≡ false
level_type-above l m a b c =
    let number = level_type-number m (let k : 1 ≤ m = omega arith in k) c in
    let other = other_number l m a b c in
    ap (λ n. n == type_number (below (level_type l))) number ∙ (let apart : (m == type_number (below (level_type l))) ≡ false = grind (arith, nat_tests) in apart)
