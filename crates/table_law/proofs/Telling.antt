-- The partial words of a pause tell the stack of tables in work.
use Rattle.std.proofs.Common.{◌≡◌, ◌≢◌, ℕ, zero, suc, ◌-◌, ◌<◌, ◌≤◌, ◌==◌, ◌&&◌, ◌⊎◌, if◌then◌else◌, Bool, true, false, List, [], ◌∷◌, Some, None, refl, sym, ap, ◌∙◌, inl, inr, arith}
use Rattle.std.proofs.lemmas.Bool.{cases_eq}
use Rattle.xp_words.specs.declared.kind.KindWord.{KindWord}
use Rattle.xp_words.specs.declared.kind.PageType.{PageType}
use Rattle.xp_words.specs.declared.entry.Demand.{Demand}
use Rattle.xp_words.specs.declared.entry.Demand.TheVariants.{Nothing, Bad, Read, Typed}
use Rattle.xp_words.specs.Entries.{demand_at}
use Rattle.xp_words.proofs.Shared.{eq_false as when_ne}
use Rattle.xp_board.proofs.Returned.{same_type}
use Rattle.xp_board.specs.Readings.{is_partial, is_type}
use Rattle.xp_board.proofs.EntryWords.{type_same}
use Rattle.xp_board.proofs.Sums.{when_eq}
use Rattle.kind_words.specs.Kinds.{work_kind}
use Rattle.partial_state.specs.Levels.{level_type}
use Rattle.partial_state.proofs.LevelFacts.{level_type-apart}
use Rattle.table_law.specs.Plain.{Plain}
use Rattle.table_law.specs.Levels.{TableLeft, entry_of}
use Rattle.table_law.specs.Stack.{table_left, table_told, parked, parked_kind, parked_kinds, last_entry, partial_in, told_by, stack_told, outermost, IsStackIn, IsChain, IsInnermost}
use Rattle.table_law.proofs.Counting.{asks_at}
use Rattle.table_law.proofs.Parking.{IsOff}

-- ---- levels
low_at : (x : TableLeft) (xs : List TableLeft) (p : Plain) → IsStackIn (x ∷ xs) p → IsChain (x ∷ xs) p → x.level ≤ 3
low_at x [] p is chain = chain
low_at x (y ∷ ys) p is chain = let up = low_at y ys p is.4 chain.1 in let next = is.2 in omega arith

in_work : (x : TableLeft) (xs : List TableLeft) (p : Plain) → IsStackIn (x ∷ xs) p → p.kinds x.frame ≡ work_kind (level_type (suc x.level)) false 0
in_work x [] p is = is.0
in_work x (y ∷ ys) p is = is.0

few_ahead : (x : TableLeft) (xs : List TableLeft) (p : Plain) → IsStackIn (x ∷ xs) p → x.ahead ≤ 512
few_ahead x [] p is = is.1
few_ahead x (y ∷ ys) p is = is.1

-- a frame in work of a level below is none of them
off_one : (p : Plain) (f g k l : ℕ) → p.kinds f ≡ work_kind (level_type (suc k)) false 0 → p.kinds g ≡ work_kind (level_type (suc l)) false 0 → k < l → l ≤ 3 → f ≢ g
off_one p f g k l at_f at_g low few e =
    let same : level_type (suc k) ≡ level_type (suc l) = ap (λ (w : KindWord). w.kind) (sym at_f ∙ ap p.kinds e ∙ at_g) in
    let level = level_type-apart (suc k) (suc l) (omega arith) (omega arith) same in
    omega arith

off_all : (x : TableLeft) (xs : List TableLeft) (p : Plain) (f k : ℕ) → IsStackIn (x ∷ xs) p → IsChain (x ∷ xs) p → p.kinds f ≡ work_kind (level_type (suc k)) false 0 → k < x.level → IsOff (x ∷ xs) f
off_all x [] p f k is chain at_f low = (off_one p f x.frame k x.level at_f is.0 low chain, tt)
off_all x (y ∷ ys) p f k is chain at_f low =
    let next = is.2 in
    (off_one p f x.frame k x.level at_f is.0 low (low_at x (y ∷ ys) p is chain), off_all y ys p f k is.4 chain.1 at_f (omega arith))

-- ---- each table is parked
abbrev AreParked : (ℕ → KindWord) → List TableLeft → Type 0
AreParked kinds [] = Unit {0}
AreParked kinds (x ∷ xs) = ((b : Bool) × (kinds x.frame ≡ parked_kind x b)) × AreParked kinds xs

still_parked : (xs : List TableLeft) (f : ℕ) (k : KindWord) (old : ℕ → KindWord) → IsOff xs f → AreParked old xs → AreParked (λ g. if g == f then k else old g) xs
still_parked [] f k old off are = tt
still_parked (x ∷ xs) f k old off are =
    let away = when_ne x.frame f (λ e. off.0 (sym e)) in
    ((are.0.0, rw away are.0.1), still_parked xs f k old off.1 are.1)

all_parked : (x : TableLeft) (xs : List TableLeft) (kept : Bool) (p : Plain) → IsStackIn (x ∷ xs) p → IsChain (x ∷ xs) p → AreParked (parked_kinds (x ∷ xs) kept p.kinds) (x ∷ xs)
all_parked x [] kept p is chain = ((kept, let here = when_eq x.frame x.frame refl in rw here refl), tt)
all_parked x (y ∷ ys) kept p is chain =
    let next = is.2 in (
      (false, let here = when_eq x.frame x.frame refl in rw here refl),
      still_parked (y ∷ ys) x.frame (parked_kind x false) (parked_kinds (y ∷ ys) kept p.kinds) (off_all y ys p x.frame x.level is.4 chain.1 is.0 (omega arith)) (all_parked y ys kept p is.4 chain.1),
    )

-- ---- one step down
partial_at : (q : Plain) (g : ℕ) (t : PageType) → is_partial (q.kinds g) ≡ true → (q.kinds g).kind ≡ t → partial_in q (Typed g t) ≡ Some g
partial_at q g t part is =
    let typed : is_type (q.kinds g).kind t ≡ true = ap (λ u. is_type u t) is ∙ same_type t in
    rw (part, typed) refl

table_back : (q : Plain) (y : TableLeft) (b : Bool) → y.ahead ≤ 512 → q.kinds y.frame ≡ parked_kind y b → table_told q y.level y.frame ≡ y
table_back q y b few is =
    let progress : (q.kinds y.frame).progress ≡ 512 - y.ahead = ap (λ (w : KindWord). w.progress) is in
    ap (λ k. table_left y.frame y.level k) (let e : 512 - (q.kinds y.frame).progress ≡ y.ahead = omega arith in e)

-- the last recorded entry of a table of level l + 2 leads to one of level l + 1, or to none
one_down : (q : Plain) (l f g : ℕ) (outer : List TableLeft) → partial_in q (last_entry q (level_type (suc (suc l))) f (q.kinds f).progress) ≡ Some g →
    stack_told (suc l) f q outer ≡ stack_told l g q (table_told q (suc l) f ∷ outer)
unfolding stack_told
one_down q l f g outer found = ap (λ o. told_by (λ h stack. stack_told l h q stack) (table_told q (suc l) f ∷ outer) o) found

none_down : (q : Plain) (l f : ℕ) (outer : List TableLeft) → partial_in q (last_entry q (level_type (suc (suc l))) f (q.kinds f).progress) ≡ None →
    stack_told (suc l) f q outer ≡ table_told q (suc l) f ∷ outer
unfolding stack_told
none_down q l f outer none = ap (λ o. told_by (λ h stack. stack_told l h q stack) (table_told q (suc l) f ∷ outer) o) none

told_down : (q : Plain) (y x : TableLeft) (ys : List TableLeft) (b d : Bool) → y.level ≡ suc x.level → y.ahead < 512 → q.kinds y.frame ≡ parked_kind y b → q.kinds x.frame ≡ parked_kind x d →
    entry_of q (level_type (suc y.level)) y.frame (511 - y.ahead) ≡ Typed x.frame (level_type y.level) → stack_told y.level y.frame q ys ≡ stack_told x.level x.frame q (y ∷ ys)
told_down q y x ys b d up few at_y at_x asks =
    let progress : (q.kinds y.frame).progress ≡ suc (511 - y.ahead) = ap (λ (w : KindWord). w.progress) at_y ∙ (let e : 512 - y.ahead ≡ suc (511 - y.ahead) = omega arith in e) in
    let inner : partial_in q (Typed x.frame (level_type y.level)) ≡ Some x.frame =
    partial_at q x.frame (level_type y.level) (ap is_partial at_x) (ap (λ (w : KindWord). w.kind) at_x ∙ ap level_type (sym up)) in
    let found = ap (λ k. partial_in q (last_entry q (level_type (suc y.level)) y.frame k)) progress ∙ ap (partial_in q) asks ∙ inner in
    ap (λ j. stack_told j y.frame q ys) up
    ∙ one_down q x.level y.frame x.frame ys (ap (λ j. partial_in q (last_entry q (level_type (suc j)) y.frame (q.kinds y.frame).progress)) (sym up) ∙ found)
    ∙ ap (λ z. stack_told x.level x.frame q (z ∷ ys)) (ap (λ j. table_told q j y.frame) (sym up) ∙ table_back q y b (omega arith) at_y)

-- all the way down
told_all : (q p : Plain) (x : TableLeft) (xs : List TableLeft) → q.cells ≡ p.cells → AreParked q.kinds (x ∷ xs) → IsStackIn (x ∷ xs) p → IsChain (x ∷ xs) p →
    stack_told (outermost (x ∷ xs)).level (outermost (x ∷ xs)).frame q [] ≡ stack_told x.level x.frame q xs
told_all q p x [] cells are is chain = refl
told_all q p x (y ∷ ys) cells are is chain =
    let next = is.2 in
    let few = is.3 in
    told_all q p y ys cells are.1 is.4 chain.1
    ∙ told_down q y x ys are.1.0.0 are.0.0 (omega arith) few are.1.0.1 are.0.1 (ap (λ (c : ℕ → ℕ → ℕ). demand_at (level_type (suc y.level)) (511 - y.ahead) (c y.frame (511 - y.ahead))) cells ∙ chain.0)

-- ---- and there it ends
-- a frame is none of the tables, or one of a level above
abbrev IsOther : Plain → Plain → ℕ → ℕ → Type 0
IsOther q p l g = (q.kinds g ≡ p.kinds g) ⊎ ((k : ℕ) × (l < suc k) × (k ≤ 3) × ((q.kinds g).kind ≡ level_type (suc k)))

other_of : (x : TableLeft) (xs : List TableLeft) (kept : Bool) (p : Plain) (l g : ℕ) → IsStackIn (x ∷ xs) p → IsChain (x ∷ xs) p → l ≤ x.level → IsOther (parked (x ∷ xs) kept p) p l g
other_of x [] kept p l g is chain low =
    elim (cases_eq g x.frame) [
      | inl e ↦ inr (x.level, omega arith, chain, let here = when_eq g x.frame e in rw here refl)
      | inr off ↦ inl (let there = when_ne g x.frame off in rw there refl)
    ]
other_of x (y ∷ ys) kept p l g is chain low =
    elim (cases_eq g x.frame) [
      | inl e ↦ inr (x.level, omega arith, low_at x (y ∷ ys) p is chain, let here = when_eq g x.frame e in rw here refl)
      | inr off ↦ let next = is.2 in let there = when_ne g x.frame off in rw there (other_of y ys kept p l g is.4 chain.1 (omega arith))
    ]

false_by : (b : Bool) → (b ≡ true → ⊥) → b ≡ false
false_by false off = refl
false_by true off = absurd (off refl)

not_partial : (q p : Plain) (g j : ℕ) (t : PageType) → suc j ≤ 3 → t ≡ level_type (suc j) → partial_in p (Typed g t) ≡ None → IsOther q p (suc j) g → partial_in q (Typed g t) ≡ None
not_partial q p g j t low is none (inl same) = ap (λ (k : KindWord). if is_partial k && is_type k.kind t then Some g else None) same ∙ none
not_partial q p g j t low is none (inr other) =
    let few = other.1 in
    let high = other.2 in
    let off : is_type (q.kinds g).kind t ≡ false =
    false_by (is_type (q.kinds g).kind t)
    (λ on.
    let same = sym other.3 ∙ type_same (q.kinds g).kind t on ∙ is in
    let level = level_type-apart (suc other.0) (suc j) (omega arith) (omega arith) same in
    omega arith) in
    let all : (is_partial (q.kinds g) && is_type (q.kinds g).kind t) ≡ false = grind arith in
    rw all refl

ends_by : (q p : Plain) (j i w : ℕ) (d : Demand) → suc j ≤ 3 → partial_in p d ≡ None → ((g : ℕ) → IsOther q p (suc j) g) →
    demand_at (level_type (suc (suc j))) i w ≡ d → partial_in q d ≡ None
ends_by q p j i w Nothing low none other e = refl
ends_by q p j i w Bad low none other e = refl
ends_by q p j i w (Read g) low none other e = refl
ends_by q p j i w (Typed g t) low none other e = not_partial q p g j t low (asks_at (suc j) i w g t low e) none (other g)

ends_at : (q p : Plain) (j f k : ℕ) → q.cells ≡ p.cells → suc j ≤ 3 → IsInnermost p f (suc j) k → ((g : ℕ) → IsOther q p (suc j) g) →
    partial_in q (last_entry q (level_type (suc (suc j))) f k) ≡ None
ends_at q p j f zero cells low none other = refl
ends_at q p j f (suc i) cells low none other =
    let same = ap (λ (c : ℕ → ℕ → ℕ). partial_in p (demand_at (level_type (suc (suc j))) i (c f i))) cells in
    ends_by q p j i (q.cells f i) (entry_of q (level_type (suc (suc j))) f i) low (same ∙ none) other refl

told_end : (q p : Plain) (l f k : ℕ) (outer : List TableLeft) → q.cells ≡ p.cells → (q.kinds f).progress ≡ k → l ≤ 3 → IsInnermost p f l k → ((g : ℕ) → IsOther q p l g) →
    stack_told l f q outer ≡ table_told q l f ∷ outer
unfolding stack_told
told_end q p zero f k outer cells progress low none other = refl
told_end q p (suc j) f k outer cells progress low none other =
    none_down q j f outer (ap (λ i. partial_in q (last_entry q (level_type (suc (suc j))) f i)) progress ∙ ends_at q p j f k cells low none other)

pub stack_told_is : (x : TableLeft) (xs : List TableLeft) (kept : Bool) (p : Plain) → IsStackIn (x ∷ xs) p → IsChain (x ∷ xs) p → IsInnermost p x.frame x.level (512 - x.ahead) →
    stack_told (outermost (x ∷ xs)).level (outermost (x ∷ xs)).frame (parked (x ∷ xs) kept p) [] ≡ x ∷ xs
stack_told_is x xs kept p is chain none =
    let q = parked (x ∷ xs) kept p in
    let are = all_parked x xs kept p is chain in
    told_all q p x xs refl are is chain
    ∙ told_end q p x.level x.frame (512 - x.ahead) xs refl (ap (λ (w : KindWord). w.progress) are.0.1) (low_at x xs p is chain) none (λ g. other_of x xs kept p x.level g is chain (omega arith))
    ∙ ap (λ y. y ∷ xs) (table_back q x are.0.0 (few_ahead x xs p is) are.0.1)
