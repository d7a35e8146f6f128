-- The hand that a demand goes out of or comes into.
use Rattle.std.proofs.Common.{◌≡◌, ℕ, ◌+◌, ◌<◌, ap, subst, arith, IsTrue, inl, inr, Bool}
use Rattle.std.proofs.lemmas.Bool.{cases_eq}
use Rattle.xp_words.specs.declared.kind.PageType.{PageType}
use Rattle.xp_words.specs.declared.entry.Demand.{Demand}
use Rattle.xp_words.specs.declared.entry.Demand.TheVariants.{Nothing, Bad, Read, Typed}
use Rattle.xp_board.specs.declared.holdings.Holdings.{Holdings}
use Rattle.xp_board.specs.Lists.{one_at}
use Rattle.xp_board.specs.Found.{Found}
use Rattle.xp_board.specs.Hands.{brought, brought_as, refs_to, typed_to, hand, typed_hand}
use Rattle.xp_board.specs.Recorded.{names, names_typed}
use Rattle.xp_board.specs.Settling.{HasDemand, HasLastDemand, demand_in, demand_out}
use Rattle.xp_board.specs.RefSteps.{SparesClosing}
use Rattle.xp_words.specs.Machine.{Machine}
use Rattle.xp_words.specs.declared.place.Place.{Place}
use Rattle.xp_board.specs.Readings.{kind_at}
use Rattle.xp_board.proofs.Sums.{one_at-same, one_at-other}
use Rattle.count_rule.proofs.Quiet.{is_closing_at}
use Rattle.xp_board.proofs.ListCounts.{times_by-cons, times_by-without}

-- ---- the hand
abbrev pub IsInHand : Demand → Holdings → Type 0
IsInHand Nothing u = Unit {0}
IsInHand Bad u = ⊥
IsInHand (Read g) u = 0 < refs_to g u.refs
IsInHand (Typed g t) u = 0 < typed_to g u.typed

pub out_hand : (g : ℕ) (d : Demand) (u : Holdings) → IsInHand d u → hand g (demand_out d u) + names g d ≡ hand g u
unfolding hand typed_hand names
out_hand g Nothing u k = omega arith
out_hand g Bad u k = absurd k
out_hand g (Read f) u k = let e = times_by-without (λ y. y.frame) g f u.refs k in omega arith
out_hand g (Typed f t) u k = let e = times_by-without (λ y. y.frame) g f u.typed k in omega arith

pub out_typed : (g : ℕ) (d : Demand) (u : Holdings) → IsInHand d u → typed_hand g (demand_out d u) + names_typed g d ≡ typed_hand g u
unfolding typed_hand names_typed
out_typed g Nothing u k = omega arith
out_typed g Bad u k = absurd k
out_typed g (Read f) u k = omega arith
out_typed g (Typed f t) u k = let e = times_by-without (λ y. y.frame) g f u.typed k in omega arith

pub in_hand : (sure : Bool) (g : ℕ) (d : Demand) (u : Holdings) → hand g (demand_in sure d u) ≡ hand g u + names g d
unfolding hand typed_hand names
in_hand sure g Nothing u = omega arith
in_hand sure g Bad u = omega arith
in_hand sure g (Read f) u = let e = times_by-cons (λ y. y.frame) g (brought f u) u.refs in omega arith
in_hand sure g (Typed f t) u = let e = times_by-cons (λ y. y.frame) g (brought_as sure f t u) u.typed in omega arith

pub in_typed : (sure : Bool) (g : ℕ) (d : Demand) (u : Holdings) → typed_hand g (demand_in sure d u) ≡ typed_hand g u + names_typed g d
unfolding typed_hand names_typed
in_typed sure g Nothing u = omega arith
in_typed sure g Bad u = omega arith
in_typed sure g (Read f) u = omega arith
in_typed sure g (Typed f t) u = let e = times_by-cons (λ y. y.frame) g (brought_as sure f t u) u.typed in omega arith

-- a closing frame keeps an untyped reference
abbrev pub Spares : Demand → Holdings → Type 0
Spares (Read g) u = SparesClosing g u
Spares _ u = Unit {0}

pub out_spares : (d : Demand) (u : Holdings) → IsInHand d u → Spares d u → (g : ℕ) → IsTrue (is_closing_at g u) → 0 < refs_to g u.refs → 0 < refs_to g (demand_out d u).refs
out_spares Nothing u k p g c l = l
out_spares Bad u k p g c l = l
out_spares (Typed f t) u k p g c l = l
out_spares (Read f) u k p g c l =
    let e = times_by-without (λ y. y.frame) g f u.refs k in
    elim (cases_eq g f) [
      | inl at ↦
          let two = p (subst (λ y. IsTrue (is_closing_at y u)) at c) in
          let same = ap (λ y. refs_to y u.refs) at in
          let one : one_at g f ≡ 1 = rw at (one_at-same f) in
          omega arith
      | inr off ↦ let none = one_at-other g f off in omega arith
    ]

pub in_more : (sure : Bool) (d : Demand) (u : Holdings) (g : ℕ) → 0 < refs_to g u.refs → 0 < refs_to g (demand_in sure d u).refs
in_more sure Nothing u g l = l
in_more sure Bad u g l = l
in_more sure (Read f) u g l = let e = times_by-cons (λ y. y.frame) g (brought f u) u.refs in omega arith
in_more sure (Typed f t) u g l = l

-- what may go out is in hand
pub has_demand : (n : Machine) (f : ℕ) (kind : PageType) (u : Holdings) (d : Demand) → HasDemand n f kind u d → IsInHand d u × Spares d u
has_demand n f kind u Nothing k = (tt, tt)
has_demand n f kind u Bad k = absurd k
has_demand n f kind u (Read g) k = (k.in_hand, k.spares)
has_demand n f kind u (Typed g t) k = (k.0.in_hand, tt)

pub has_last : (n : Machine) (f : ℕ) (kind : PageType) (u : Holdings) (d : Demand) → HasLastDemand n f kind u d → IsInHand d u × Spares d u
has_last n f kind u Nothing k = (tt, tt)
has_last n f kind u Bad k = absurd k
has_last n f kind u (Read g) k = (k.in_hand, k.spares)
has_last n f kind u (Typed g t) k = (k.0.in_hand, tt)

-- and a typed one is of its frame's type
pub demand_type : (n : Machine) (m : Place → ℕ) (h : ℕ → Holdings) (s f : ℕ) (kind : PageType) (d : Demand) → Found n m h s → HasDemand n f kind (h s) d →
    (g : ℕ) (t : PageType) → d ≡ Typed g t → (kind_at m g).kind ≡ t
demand_type n m h s f kind d found k g t e =
    let has : HasDemand n f kind (h s) (Typed g t) = subst (HasDemand n f kind (h s)) e k in
    (found.lives g t has.1).1

pub last_type : (n : Machine) (m : Place → ℕ) (h : ℕ → Holdings) (s f : ℕ) (kind : PageType) (d : Demand) → Found n m h s → HasLastDemand n f kind (h s) d →
    (g : ℕ) (t : PageType) → d ≡ Typed g t → (kind_at m g).kind ≡ t
last_type n m h s f kind d found k g t e =
    let has : HasLastDemand n f kind (h s) (Typed g t) = subst (HasLastDemand n f kind (h s)) e k in
    elim has.1 [
      | inl live ↦ (found.lives g t live).1
      | inr partial ↦ found.partials g t partial
    ]
