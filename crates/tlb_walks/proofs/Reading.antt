-- A read of the guest: what its steps show.
use Rattle.std.proofs.Common.{◌≡◌, ℕ, ◌%◌, ◌==◌, if◌then◌else◌, Bool, true, false, [], Option, Some, None, Result, Ok, Err, IfErr, refl, sym, ap, ◌∙◌, subst, inl, inr}
use Rattle.xp_words.specs.Entries.{is_slot}
use Rattle.xp_words.specs.declared.kind.PageType.TheVariants.{L4}
use Rattle.xp_words.specs.declared.reply.Refusal.{Refusal}
use Rattle.xp_words.specs.declared.reply.Refusal.TheVariants.{NonCanonical, Slot, BadRange}
use Rattle.xp_words.specs.declared.reply.Stop.{Stop}
use Rattle.xp_words.specs.declared.reply.Stop.TheVariants.{Refused}
use Rattle.xp_board.specs.declared.step.Item.{Item}
use Rattle.xp_board.specs.Told.{PortValue}
use Rattle.step_maker.specs.Holds.{Same}
use Rattle.step_maker.specs.Moves.{Came}
use Rattle.step_maker.proofs.Coming.{came_self, came_trans, moves_came}
use Rattle.step_maker.specs.Answers.{Serves, Stops, misses}
use Rattle.step_maker.specs.Asked.{Request}
use Rattle.step_maker.specs.Visits.{Does, Nothing}
use Rattle.step_maker.proofs.Piecing.{moves_serves, serves_nothing, serves_step}
use Rattle.step_maker.proofs.Visiting.{does_nothing, does_one, does_then}
use Rattle.tlb_walks.specs.Accesses as acc
use Rattle.tlb_walks.specs.Accesses.{OneRead, GuestReads, server}
use Rattle.tlb_walks.specs.Addresses.{access_refusal, index_of, is_canonical, slot_refusal, walk_refusal, cell_index}
use Rattle.tlb_walks.specs.Asking.{IsGuestReadStop, IsWalkStop, of_read}
use Rattle.tlb_walks.specs.Flying.{WalkReady}
use Rattle.tlb_walks.specs.Guesting.{ReadMoves, barred, cached, stopped, walked}
use Rattle.tlb_walks.specs.Translating.{WalkedTo}
use Rattle.tlb_walks.specs.declared.walks.Walked.{Walked}
use Rattle.tlb_walks.proofs.Guests.{landed_then, ready_then}
use Rattle.tlb_walks.proofs.Turning.{same_ready, turned_landed, turned_ready}
use Rattle.tlb_walks.proofs.Walking.{stopped_same, walk_came, walk_does, walk_kind, walk_serves, walk_stops, walked_to}

-- ---- the address alone
by_canonical : (b : Bool) (o p : Option Refusal) (x : Refusal) → (if b then o else Some x) ≡ None → (o ≡ None → p ≡ None) → (if b then p else Some x) ≡ None
by_canonical true o p x e f = f e
by_canonical false o p x e f = absurd cc

by_range : (b : Bool) (o : Option Refusal) → (if b then o else Some BadRange) ≡ None → o ≡ None
by_range true o e = e
by_range false o e = absurd cc

-- an access that is not refused walks without a refusal by the address
pub open_walk : (va : ℕ) → access_refusal va ≡ None → walk_refusal va ≡ None
open_walk va e = by_canonical (is_canonical va) (if va % 8 == 0 then slot_refusal (index_of va 4) else Some BadRange) (slot_refusal (index_of va 4)) NonCanonical e (by_range (va % 8 == 0) _)

pub no_refusal : (va : ℕ) (x : Refusal) (r : Request) → access_refusal va ≡ None → walk_refusal va ≡ Some x → r.by_numbers ≡ Some x
no_refusal va x r e f = let g = open_walk va e in absurd cc

data AddressStop (va : ℕ) : Refusal → Type 0 where
  canonical : AddressStop va NonCanonical
  range : AddressStop va BadRange
  slot : (i : ℕ) → is_slot L4 i ≡ true → AddressStop va (Slot i)

slot_case : (va i : ℕ) (x : Refusal) (b : Bool) → is_slot L4 i ≡ b → (if b then Some (Slot i) else None) ≡ Some x → AddressStop va x
slot_case va i x true is e = let same : Slot i ≡ x = cc in subst (AddressStop va) same (slot i is)
slot_case va i x false is e = absurd cc

range_case : (va : ℕ) (x : Refusal) (b : Bool) → (if b then slot_refusal (index_of va 4) else Some BadRange) ≡ Some x → AddressStop va x
range_case va x true e = slot_case va (index_of va 4) x (is_slot L4 (index_of va 4)) refl e
range_case va x false e = let same : BadRange ≡ x = cc in subst (AddressStop va) same range

canonical_case : (va : ℕ) (x : Refusal) (b : Bool) → (if b then (if va % 8 == 0 then slot_refusal (index_of va 4) else Some BadRange) else Some NonCanonical) ≡ Some x → AddressStop va x
canonical_case va x true e = range_case va x (va % 8 == 0) e
canonical_case va x false e = let same : NonCanonical ≡ x = cc in subst (AddressStop va) same canonical

address_stops : (v : PortValue) (r : Request) (va : ℕ) (x : Refusal) → AddressStop va x → r.by_numbers ≡ Some x → Stops v v r (Refused x)
unfolding Stops
address_stops v r va _ canonical may = may
address_stops v r va _ range may = inl may
address_stops v r va _ (slot i is) may = (is, inl may)

address_kind : (va : ℕ) (x : Refusal) → AddressStop va x → IsGuestReadStop (Refused x)
address_kind va _ canonical = tt
address_kind va _ range = tt
address_kind va _ (slot i is) = tt

pub refused_stops : (v w : PortValue) (r : Request) (va : ℕ) (x : Refusal) → access_refusal va ≡ Some x → r.by_numbers ≡ access_refusal va → w ≡ v → Stops v w r (Refused x)
refused_stops v w r va x why may stay = subst (λ q. Stops v q r (Refused x)) (sym stay) (address_stops v r va x (canonical_case va x (is_canonical va) why) (may ∙ why))

pub refused_kind : (va : ℕ) (x : Refusal) → access_refusal va ≡ Some x → IsGuestReadStop (Refused x)
refused_kind va x why = address_kind va x (canonical_case va x (is_canonical va) why)

pub stayed_same : (v w : PortValue) → w ≡ v → Same v w
stayed_same v w stay = subst (λ q. Same v q) (sym stay) refl

pub stayed_does : (v w : PortValue) → w ≡ v → Does v w Nothing
stayed_does v w stay = subst (λ q. Does v q Nothing) (sym stay) (does_nothing v)

-- a walk, and behind it a step that leaves the hand
pub walked_then : (v u w : PortValue) (user : Bool) (va : ℕ) (write : Bool) (r : Walked) → WalkedTo v u user va write r → Same u w → WalkedTo v w user va write r
walked_then v u w user va write r a same = record { inside = a.inside; hand = same ∙ a.hand }

-- ---- its clauses
module _ (v w : PortValue) (user : Bool) (va : ℕ) where
  pub read_came : (a : Result ℕ Stop) → ReadMoves v w user va a → Came v w
  read_came _ (barred x why stay) = subst (λ q. Came v q) (sym stay) (came_self v)
  read_came _ (cached x word may is m same) = moves_came v w _ _ _ _ _ m
  read_came _ (stopped e may none m hand) = walk_came user va false v w (Err e) m
  read_came _ (walked u r word may none m hand k same) = came_trans v u w (walk_came user va false v u (Ok r) m) (moves_came u w _ _ _ _ _ k)

  pub read_serves : (a : Result ℕ Stop) → ReadMoves v w user va a → Serves v w (of_read va) (misses v.post.machine a)
  read_serves _ (barred x why stay) = subst (λ q. Serves v q (of_read va) []) (sym stay) (serves_nothing v (of_read va))
  read_serves _ (cached x word may is m same) = moves_serves v w (of_read va) _ _ _ _ _ m (inr (inl refl))
  read_serves _ (stopped e may none m hand) = walk_serves user va false (of_read va) refl refl v w (Err e) m
  read_serves _ (walked u r word may none m hand k same) =
      serves_step v u w (of_read va) [] _ _ _ _ _ (walk_serves user va false (of_read va) refl refl v u (Ok r) m) k (inr (inl refl))

  pub read_stops : (a : Result ℕ Stop) → ReadMoves v w user va a → IfErr a (λ e. Stops v w (of_read va) e)
  read_stops _ (barred x why stay) = refused_stops v w (of_read va) va x why refl stay
  read_stops _ (cached x word may is m same) = tt
  read_stops _ (stopped e may none m hand) = walk_stops user va false (of_read va) refl refl v w e (λ x f. no_refusal va x (of_read va) may f) m
  read_stops _ (walked u r word may none m hand k same) = tt

  walk_is_read : (e : Stop) → IsWalkStop e → IsGuestReadStop e
  walk_is_read (Refused BadRange) a = tt
  walk_is_read _ a = a

  pub read_kinds : (a : Result ℕ Stop) → ReadMoves v w user va a → IfErr a IsGuestReadStop
  read_kinds _ (barred x why stay) = refused_kind va x why
  read_kinds _ (cached x word may is m same) = tt
  read_kinds _ (stopped e may none m hand) = walk_is_read e (walk_kind user va false v w e m)
  read_kinds _ (walked u r word may none m hand k same) = tt

  pub read_course : (a : Result ℕ Stop) → v.holdings.walk ≡ None → ReadMoves v w user va a → GuestReads v w user va a
  read_course _ landed (barred x why stay) = acc.barred x why (stayed_does v w stay) (stayed_same v w stay)
  read_course _ landed (cached x word may is m same) = acc.cached x word may is (does_one v w _ _ _ _ _ m) same
  read_course _ landed (stopped e may none m hand) = acc.stopped e may none (walk_does user va false v w (Err e) m) (stopped_same v w user va false e landed hand)
  read_course _ landed (walked u r word may none m hand k same) =
      acc.walked r word may none (does_then v u w _ _ (walk_does user va false v u (Ok r) m) (does_one u w _ _ _ _ _ k)) (walked_then v u w user va false r (walked_to v u user va false r landed hand) same)

  pub read_served : (a : Result ℕ Stop) (x : Item) → access_refusal va ≡ None → server v user va false ≡ Some x → ReadMoves v w user va a → OneRead v w x.frame (cell_index va) a
  read_served _ x may is (barred y why stay) = absurd cc
  read_served _ x may is (cached y word go at m same) =
      let one : y ≡ x = cc in subst (λ (z : Item). OneRead v w z.frame (cell_index va) (Ok word)) one (record { word = word; answer_is = refl; moves = m })
  read_served _ x may is (stopped e go none m hand) = absurd cc
  read_served _ x may is (walked u r word go none m hand k same) = absurd cc

  pub read_ready : (a : Result ℕ Stop) → WalkReady v → ReadMoves v w user va a → WalkReady w
  read_ready _ r (barred x why stay) = subst WalkReady (sym stay) r
  read_ready _ r (cached x word may is m same) = same_ready v w r same
  read_ready _ r (stopped e may none m hand) = turned_ready v w _ hand r
  read_ready _ r (walked u q word may none m hand k same) = same_ready u w (ready_then v u user va false q hand r) same

  pub read_landed : (a : Result ℕ Stop) → v.holdings.walk ≡ None → ReadMoves v w user va a → w.holdings.walk ≡ None
  read_landed _ none (barred x why stay) = ap (λ (q : PortValue). q.holdings.walk) stay ∙ none
  read_landed _ none (cached x word may is m same) = ap (λ (q : PortValue). q.holdings.walk) same ∙ none
  read_landed _ none (stopped e may no_item m hand) = turned_landed v w _ hand refl
  read_landed _ none (walked u q word may no_item m hand k same) = ap (λ (z : PortValue). z.holdings.walk) same ∙ landed_then v u user va false q hand
