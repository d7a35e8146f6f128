-- What entries and words of vCPUs add.
use Rattle.std.proofs.Common.{◌≡◌, ◌==◌, ℕ, ◌+◌, ◌<◌, ◌≤◌, if◌then◌else◌, Bool, true, false, List, length, Option, Some, None, refl, sym, subst, inl, inr, arith}
use Rattle.std.proofs.lemmas.Bool.{cases_eq}
use Rattle.xp_words.specs.declared.entry.Demand.{Demand}
use Rattle.xp_words.specs.declared.entry.Demand.TheVariants.{Nothing, Bad, Read, Typed}
use Rattle.xp_words.specs.declared.kind.PageType.{PageType}
use Rattle.xp_words.specs.KindWords.{kind_fields}
use Rattle.xp_words.specs.PageTypes.{is_table}
use Rattle.xp_words.specs.declared.place.Place.{Place}
use Rattle.xp_words.specs.declared.place.Place.TheVariants.{Kind}
use Rattle.xp_board.specs.Lists.{one_at}
use Rattle.xp_board.specs.Readings.{kind_at, is_context}
use Rattle.xp_board.specs.Recorded.{entry_demand, held_of, names, names_typed, table_entries}
use Rattle.xp_board.proofs.HeldByForm.{same_zero}
use Rattle.xp_words.proofs.Shared.{if_or_zero as if_fewer}
use Rattle.xp_board.proofs.Sums.{one_at-other}
use Rattle.reference_recount.specs.declared.tallies.Tally.{Tally}
use Rattle.reference_recount.specs.Growth.{AreMore, AreSums, is_other_type, names_other, context_names}
use Rattle.reference_recount.proofs.More.{all-same, all-none, sum_most}

-- ---- one demand
other_at : (kinds : List PageType) (want : Option PageType) (g f : ℕ) (other : Bool) → (f ≡ g → other ≡ is_other_type kinds g want) → (if other then one_at g f else 0) ≡ (if is_other_type kinds g want then one_at g f else 0)
other_at kinds want g f other h =
    elim (cases_eq f g) [
      | inl at ↦ rw (h at) refl
      | inr off ↦ let none = one_at-other g f (λ e. off (sym e)) in rw (none, same_zero other) (sym (same_zero (is_other_type kinds g want)))
    ]

pub asks_nothing : (kinds : List PageType) (a : List Tally) (d : Demand) → d ≡ Nothing → AreMore a a (λ g. names g d) (λ g. names_typed g d) (λ g. names_other kinds g d)
unfolding names names_typed names_other
asks_nothing kinds a d e = rw e (all-none a _ _ _ (λ g l. refl) (λ g l. refl) (λ g l. refl))

pub asks_badly : (kinds : List PageType) (a : List Tally) (d : Demand) → d ≡ Bad → AreMore a a (λ g. names g d) (λ g. names_typed g d) (λ g. names_other kinds g d)
unfolding names names_typed names_other
asks_badly kinds a d e = rw e (all-none a _ _ _ (λ g l. refl) (λ g l. refl) (λ g l. refl))

pub asks_read : (kinds : List PageType) (a b : List Tally) (f : ℕ) (d : Demand) → d ≡ Read f →
    AreMore a b (λ g. one_at g f) (λ g. if false then one_at g f else 0) (λ g. if false then one_at g f else 0) → AreMore a b (λ g. names g d) (λ g. names_typed g d) (λ g. names_other kinds g d)
unfolding names names_typed names_other
asks_read kinds a b f d e x = rw e x

pub asks_typed : (kinds : List PageType) (a b : List Tally) (f : ℕ) (t : PageType) (other : Bool) (d : Demand) → d ≡ Typed f t → (f < length a → other ≡ is_other_type kinds f (Some t)) →
    AreMore a b (λ g. one_at g f) (λ g. if true then one_at g f else 0) (λ g. if other then one_at g f else 0) → AreMore a b (λ g. names g d) (λ g. names_typed g d) (λ g. names_other kinds g d)
unfolding names names_typed names_other
asks_typed kinds a b f t other d e h x =
    rw e (
    all-same a b _ _ _ _ _ _ (λ g l. refl) (λ g l. refl)
    (λ g l. other_at kinds (Some t) g f other (λ at. subst (λ v. other ≡ is_other_type kinds v (Some t)) at (h (subst (λ v. v < length a) (sym at) l)))) x
    )

-- ---- each names a frame once
one_most : (g f : ℕ) → one_at g f ≤ 1
one_most g f = if_fewer (f == g) 1

pub names_most : (g : ℕ) (d : Demand) → names g d ≤ 1
unfolding names
names_most g Nothing = omega arith
names_most g Bad = omega arith
names_most g (Read f) = one_most g f
names_most g (Typed f t) = one_most g f

pub typed_most : (g : ℕ) (d : Demand) → names_typed g d ≤ 1
unfolding names_typed
typed_most g Nothing = omega arith
typed_most g Bad = omega arith
typed_most g (Read f) = omega arith
typed_most g (Typed f t) = one_most g f

either_zero : (b : Bool) (x : ℕ) → x ≤ 1 → (if b then x else 0) ≤ 1
either_zero true x h = h
either_zero false x h = omega arith

pub context_most : (m : Place → ℕ) (v g k : ℕ) → context_names m v g k ≤ 1
context_most m v g k = either_zero (is_context k) _ (one_most (g + 1) _)

-- ---- a whole table
few_of : (table live partial : Bool) (progress : ℕ) → progress ≤ 1024 → (if table then (if live then 512 else if partial then progress else 0) else 0) ≤ 1024
few_of true true partial progress h = omega arith
few_of true false true progress h = h
few_of true false false progress h = omega arith
few_of false live partial progress h = omega arith

held_few : (w : ℕ) → held_of (kind_fields w) None ≤ 1024
unfolding held_of kind_fields
held_few w = few_of (is_table (kind_fields w).kind) (kind_fields w).validated (kind_fields w).partial (kind_fields w).progress (omega arith)

pub table_most : (c : Demand → ℕ) (m : Place → ℕ) (f : ℕ) → ((d : Demand) → c d ≤ 1) → table_entries c m None f ≤ 1024
unfolding table_entries
table_most c m f h =
    let most = sum_most (held_of (kind_at m f) None) 1 (λ i. c (entry_demand m f i)) (λ i. h (entry_demand m f i)) in
    let few = held_few (m (Kind f)) in
    omega arith

pub whole_table : (kinds : List PageType) (m : Place → ℕ) (a b : List Tally) (f n : ℕ) → n ≡ held_of (kind_at m f) None →
    AreSums a b n (λ g i. names g (entry_demand m f i)) (λ g i. names_typed g (entry_demand m f i)) (λ g i. names_other kinds g (entry_demand m f i)) →
    AreMore a b (λ g. table_entries (names g) m None f) (λ g. table_entries (names_typed g) m None f) (λ g. table_entries (names_other kinds g) m None f)
unfolding table_entries
whole_table kinds m a b f n e x =
    subst (λ k. AreSums a b k (λ g i. names g (entry_demand m f i)) (λ g i. names_typed g (entry_demand m f i)) (λ g i. names_other kinds g (entry_demand m f i))) e x

pub same_demand : (kinds : List PageType) (a b : List Tally) (d e : Demand) → d ≡ e → AreMore a b (λ g. names g d) (λ g. names_typed g d) (λ g. names_other kinds g d) →
    AreMore a b (λ g. names g e) (λ g. names_typed g e) (λ g. names_other kinds g e)
same_demand kinds a b d e h x = subst (λ v. AreMore a b (λ g. names g v) (λ g. names_typed g v) (λ g. names_other kinds g v)) h x
