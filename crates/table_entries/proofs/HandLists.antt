-- Lists of a hand with one element changed, and what an entry asks at all.
use Rattle.std.proofs.Common.{◌≡◌, ℕ, ◌<◌, ◌&&◌, ◌⊎◌, not, if◌then◌else◌, Bool, true, false, List, Some, None, IsTrue, refl, sym, ◌∙◌, subst, inl, inr}
use Rattle.std.proofs.lemmas.Bool.{cases_eq}
use Rattle.xp_words.specs.Entries.{below, demand_at, demand_of, frame_of, is_bit, is_lowest, is_reserved, is_slot}
use Rattle.xp_words.specs.PageTypes.{is_none}
use Rattle.xp_words.specs.declared.entry.Demand.TheVariants.{Nothing, Bad, Read, Typed}
use Rattle.xp_words.specs.declared.kind.PageType.{PageType}
use Rattle.xp_words.specs.declared.kind.PageType.TheVariants as types
use Rattle.xp_board.specs.Lists.{changed_by, first_by}
use Rattle.xp_board.proofs.HandLists.{first-some, times-changed}
use Rattle.xp_board.proofs.ListChanges.{first_by-changed_here, first_by-changed_other}
use Rattle.xp_board.proofs.ListCounts.{first_by-absent, first_by-none, first_by-some}

-- ---- the newest element of a number is changed
pub none_before : {A : Type 0} (key : A → ℕ) (g f : ℕ) (change : A → A) (xs : List A) → ((x : A) → key (change x) ≡ key x) → first_by key g (changed_by key f change xs) ≡ None → first_by key g xs ≡ None
none_before key g f change xs kept none =
    let same = times-changed key g f change xs kept in
    first_by-none key g xs (sym same ∙ first_by-absent key g (changed_by key f change xs) none)

-- which element it was before
pub record WasIn {A : Type 0} (key : A → ℕ) (g : ℕ) (change : A → A) (xs : List A) (e : A) : Type 0 where
  pub was : A
  pub here : first_by key g xs ≡ Some was
  pub is : (e ≡ was) ⊎ (e ≡ change was)

some_is : {A : Type 0} (x y : A) → Some x ≡ Some y → y ≡ x
some_is x y e = cc

pub was_in : {A : Type 0} (key : A → ℕ) (g f : ℕ) (change : A → A) (xs : List A) (e : A) → ((x : A) → key (change x) ≡ key x) → first_by key g (changed_by key f change xs) ≡ Some e → WasIn key g change xs e
was_in key g f change xs e kept at =
    let some = first-some key g e (changed_by key f change xs) at in
    let x = first_by-some key g xs (subst (λ n. 0 < n) (times-changed key g f change xs kept) some) in
    elim (cases_eq g f) [
      | inl same ↦
          record {
            was = x.0;
            here = x.1;
            is = inr (some_is (change x.0) e (sym (subst (λ k. first_by key k (changed_by key f change xs) ≡ Some (change x.0)) (sym same) (first_by-changed_here key f change xs x.0 kept (subst (λ k. first_by key k xs ≡ Some x.0) same x.1))) ∙ at));
          }
      | inr other ↦ record { was = x.0; here = x.1; is = inl (some_is x.0 e (sym x.1 ∙ sym (first_by-changed_other key g f change xs kept other) ∙ at)) }
    ]

-- ---- what an entry asks
typed_is : (s a r l b : Bool) (f g : ℕ) (k want : PageType) → (if s then Nothing else if not a then Nothing else if r then Bad else if l && not b then Read f else Typed f k) ≡ Typed g want → want ≡ k
typed_is true a r l b f g k want e = absurd cc
typed_is false false r l b f g k want e = absurd cc
typed_is false true true l b f g k want e = absurd cc
typed_is false true false true false f g k want e = absurd cc
typed_is false true false true true f g k want e = cc
typed_is false true false false b f g k want e = cc

-- the type that it asks is that of the level below
pub asks_below : (t : PageType) (i word g : ℕ) (want : PageType) → demand_at t i word ≡ Typed g want → want ≡ below t
unfolding demand_at demand_of
asks_below t i word g want asks = typed_is (is_slot t i) (is_bit 0 word) (is_reserved (is_lowest t) word) (is_lowest t) (is_bit 1 word) (frame_of word) g (below t) want asks

below_some : (t : PageType) → IsTrue (not (is_none (below t)))
below_some types.None = refl
below_some types.L1 = refl
below_some types.L2 = refl
below_some types.L3 = refl
below_some types.L4 = refl
below_some types.Desc = refl
below_some types.Writable = refl

pub asks_some : (t : PageType) (i word g : ℕ) (want : PageType) → demand_at t i word ≡ Typed g want → IsTrue (not (is_none want))
asks_some t i word g want asks = subst (λ k. IsTrue (not (is_none k))) (sym (asks_below t i word g want asks)) (below_some t)
