-- What holds where it is not false: spellings, permits, marks.
use Rattle.std.proofs.Common.{◌≡◌, ℕ, ◌+◌, ◌<◌, ◌≤◌, ◌==◌, ◌||◌, ◌⊎◌, Bool, true, false, IsTrue, Option, Some, None, inl, inr, refl, sym, ap, ◌∙◌, arith}
use Rattle.std.proofs.lemmas.Bool.Decides.{nat_tests}
use Rattle.std.proofs.lemmas.Bool.{cases_Bool, cases_lt}
use Rattle.xp_words.specs.declared.kind.PageType.{PageType}
use Rattle.xp_words.specs.declared.entry.Demand.{Demand}
use Rattle.xp_words.specs.declared.entry.Demand.TheVariants.{Nothing, Bad, Read, Typed}
use Rattle.xp_words.specs.PageTypes.{type_number, type_of}
use Rattle.xp_words.specs.Entries.{is_lowest}
use Rattle.xp_words.proofs.KindLaws.{type_back}
use Rattle.xp_words.specs.Machine.{Machine}
use Rattle.xp_words.specs.declared.place.Place.{Place}
use Rattle.xp_words.specs.declared.place.Place.TheVariants.{Clock, Pages, Life, Vcpu, Refs, Kind, M2p, Cell, Map, Priv}
use Rattle.xp_words.specs.Places.{Sizes, sizes_of}
use Rattle.xp_board.specs.Readings.{kind_at, is_live, is_partial, is_work, owner_of, has_ever}
use Rattle.xp_board.specs.Spelling.{IsSpelling}
use Rattle.xp_board.specs.Valid.{EntryPermitted, PermitsOwner, LeadsWell, IsLastOfPartial}
use Rattle.reference_recount.specs.Recounted.{no_hands}
use Rattle.walk_audit.specs.Breaks.{is_map, MayBeAsked, MayLead}
use Rattle.walk_audit.proofs.Leading.{settled}

-- ---- numbers and tests
pub lt_stable : (a b : ℕ) → ¬ ¬ (a < b) → a < b
lt_stable a b h = elim (cases_lt a b) [ inl l ↦ l | inr l ↦ absurd (h (λ x. omega arith)) ]

pub le_stable : (a b : ℕ) → ¬ ¬ (a ≤ b) → a ≤ b
le_stable a b h = elim (cases_lt b a) [ inl l ↦ absurd (h (λ x. omega arith)) | inr l ↦ l ]

pub eq_stable : (a b : ℕ) → ¬ ¬ (a ≡ b) → a ≡ b
eq_stable a b h = elim (cases_Bool (a == b)) [ inl e ↦ grind (arith, nat_tests) | inr e ↦ absurd (h (λ x. grind (arith, nat_tests))) ]

pub true_stable : (b : Bool) → ¬ ¬ IsTrue b → IsTrue b
true_stable true h = refl
true_stable false h = absurd (h (λ e. cc))

-- ---- spellings
pub spelling_stable : (n : Machine) (p : Place) (w : ℕ) → is_map p ≡ false → ¬ ¬ IsSpelling n p w → IsSpelling n p w
unfolding IsSpelling
spelling_stable n Clock w e h = (lt_stable _ _ (λ x. h (λ y. x y.0)), le_stable _ _ (λ x. h (λ y. x y.1)))
spelling_stable n (Pages d) w e h = le_stable _ _ h
spelling_stable n (Life d) w e h = true_stable _ h
spelling_stable n (Vcpu v k) w e h = (lt_stable _ _ (λ x. h (λ y. x y.0)), true_stable _ (λ x. h (λ y. x y.1)))
spelling_stable n (Refs f) w e h = true_stable _ h
spelling_stable n (Kind f) w e h = true_stable _ h
spelling_stable n (M2p f) w e h = lt_stable _ _ h
spelling_stable n (Cell f i) w e h = lt_stable _ _ h
spelling_stable n (Map k) w e h = absurd (cc)
spelling_stable n (Priv d) w e h = (lt_stable _ _ (λ x. h (λ y. x y.0)), λ o l b. true_stable _ (λ x. h (λ y. x (y.1 o l b))))

-- ---- decided facts
abbrev Decided : Type 0 → Type 0
Decided P = P ⊎ ¬ P

settle : {P : Type 0} → Decided P → ¬ ¬ P → P
settle (inl x) h = x
settle (inr x) h = absurd (h x)

both : {P Q : Type 0} → Decided P → Decided Q → Decided (P × Q)
both (inl x) (inl y) = inl (x, y)
both (inl x) (inr y) = inr (λ z. y z.1)
both (inr x) y = inr (λ z. x z.0)

either : {P Q : Type 0} → Decided P → Decided Q → Decided (P ⊎ Q)
either (inl x) y = inl (inl x)
either (inr x) (inl y) = inl (inr y)
either (inr x) (inr y) = inr (λ z. elim z [ inl a ↦ x a | inr a ↦ y a ])

decided_true : (b : Bool) → Decided (IsTrue b)
decided_true true = inl refl
decided_true false = inr (λ e. cc)

decided_eq : (a b : ℕ) → Decided (a ≡ b)
decided_eq a b = elim (cases_Bool (a == b)) [ inl e ↦ inl (grind (arith, nat_tests)) | inr e ↦ inr (λ x. grind (arith, nat_tests)) ]

decided_lt : (a b : ℕ) → Decided (a < b)
decided_lt a b = elim (cases_lt a b) [ inl l ↦ inl l | inr l ↦ inr (λ x. omega arith) ]

decided_some : (x : Option ℕ) (d : ℕ) → Decided (x ≡ Some d)
decided_some None d = inr (λ e. cc)
decided_some (Some y) d = elim (decided_eq y d) [ inl e ↦ inl (ap Some e) | inr e ↦ inr (λ x. e (cc)) ]

-- ---- entries
permits_owner : (m : Place → ℕ) (d : ℕ) (x : Option ℕ) → Decided (PermitsOwner m d x)
permits_owner m d None = inl tt
permits_owner m d (Some o) = either (decided_eq o d) (decided_true (has_ever o (m (Priv d))))

entry_permitted : (m : Place → ℕ) (kind : PageType) (x : Option ℕ) (g : ℕ) → Decided (EntryPermitted m kind x g)
entry_permitted m kind None g = inr (λ e. e)
entry_permitted m kind (Some d) g =
    either (decided_some (owner_of (m (Refs g))) d) (both (decided_true (is_lowest kind)) (permits_owner m d (owner_of (m (Refs g)))))

last_of_partial : (m : Place → ℕ) (f i : ℕ) → Decided (IsLastOfPartial m f i)
last_of_partial m f i = elim (both (decided_true (is_partial (kind_at m f))) (decided_eq (i + 1) (kind_at m f).progress)) [
  | inl x ↦ inl (record { partial = x.0; last = x.1 })
  | inr x ↦ inr (λ y. x (y.partial, y.last))
]

leads_well : (z : Sizes) (m : Place → ℕ) (f i g : ℕ) → Decided (LeadsWell z m no_hands f i g)
leads_well z m f i g =
    either (decided_true (is_live (kind_at m g)))
    (both (decided_true (is_partial (kind_at m g) || is_work (kind_at m g))) (either (last_of_partial m f i) (inr (settled z f i g))))

may_lead : (n : Machine) (m : Place → ℕ) (f g : ℕ) → Decided (MayLead n m f g)
may_lead n m f g = both (decided_lt g n.frames) (entry_permitted m (kind_at m f).kind (owner_of (m (Refs f))) g)

may_ask : (n : Machine) (m : Place → ℕ) (f i : ℕ) (x : Demand) → Decided (MayBeAsked n m f i x)
may_ask n m f i Nothing = inl tt
may_ask n m f i Bad = inr (λ e. e)
may_ask n m f i (Read g) = may_lead n m f g
may_ask n m f i (Typed g t) = both (may_lead n m f g) (leads_well (sizes_of n) m f i g)

pub asks_stable : (n : Machine) (m : Place → ℕ) (f i : ℕ) (x : Demand) → ¬ ¬ MayBeAsked n m f i x → MayBeAsked n m f i x
asks_stable n m f i x h = settle (may_ask n m f i x) h

-- ---- words of vCPUs
pub names_stable : (b : Bool) (x : Option ℕ) (d : ℕ) → ¬ ¬ (IsTrue b × (x ≡ Some d)) → IsTrue b × (x ≡ Some d)
names_stable b x d h = settle (both (decided_true b) (decided_some x d)) h

-- ---- types
decided_type : (t u : PageType) → Decided (t ≡ u)
decided_type t u = elim (decided_eq (type_number t) (type_number u)) [
  | inl e ↦ inl (sym (type_back t) ∙ ap type_of e ∙ type_back u)
  | inr e ↦ inr (λ x. e (ap type_number x))
]

pub type_stable : (t u : PageType) → ¬ ¬ (t ≡ u) → t ≡ u
type_stable t u h = settle (decided_type t u) h
