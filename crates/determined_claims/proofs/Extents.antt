-- An extent of memory is determined by the words that are found.
use Rattle.std.proofs.Common.{◌≡◌, ◌<◌, ℕ, Bool, true, false, List, [], length, Option, Some, None, Result, Ok, Err, refl, sym, ap, ◌∙◌}
use Rattle.xp_words.specs.Machine.{Machine}
use Rattle.xp_words.specs.declared.reply.Refusal.TheVariants.{BadRange}
use Rattle.xp_words.specs.declared.reply.Stop.{Stop}
use Rattle.xp_words.specs.declared.reply.Stop.TheVariants.{Refused}
use Rattle.xp_board.specs.Told.{Post, PortValue}
use Rattle.step_maker.specs.Moves.{Came}
use Rattle.step_maker.specs.Visits.{Does, Visit}
use Rattle.step_maker.proofs.Visiting.{does_came}
use Rattle.frame_claims.specs.Found.{ClaimsBy}
use Rattle.reservations.specs.Extents.{IsBlock, PopulatesBy, Reserves, TakesBy, done_by, too_high}
use Rattle.reservations.specs.declared.extents.Extent.{Extent}
use Rattle.reservations.specs.declared.extents.Extent.TheVariants.{Decrease, Increase, Populate}
use Rattle.determined_laws.specs.Courses.{Alike}
use Rattle.determined_laws.specs.Forks.{Tie}
use Rattle.determined_laws.proofs.Courses.{alike_does, alike_map}
use Rattle.determined_laws.proofs.Ties.{tie_map}
use Rattle.determined_tables.proofs.Entries.{none_tie}
use Rattle.determined_tables.proofs.Leaves.{made_real}
use Rattle.determined_claims.proofs.Claims.{claims_some, claims_tie}
use Rattle.determined_claims.proofs.Returns.{decreases_tie}

-- ---- a block that is taken
abbrev as_block : Result ℕ Stop → Result (Option ℕ) Stop
as_block (Ok f) = Ok (Some f)
as_block (Err e) = Err e

module _ (q : Post) (owner size : ℕ) (g : Option ℕ) where
  takes_view : (a : Result (Option ℕ) Stop) (vs : List Visit) → TakesBy q owner size g a vs → (r : Result ℕ Stop) × (a ≡ as_block r) × ClaimsBy q owner size g r vs
  takes_view (Ok (Some f)) vs p = (Ok f, refl, p)
  takes_view (Ok None) vs p = absurd p
  takes_view (Err e) vs p = (Err e, refl, p)

  takes_some : (a : Result (Option ℕ) Stop) → TakesBy q owner size g a [] → ⊥
  takes_some a p = let s = takes_view a [] p in claims_some q owner size g s.0 s.2

  takes_tie : q.vcpu < length q.machine.vcpu_domain → (a b : Result (Option ℕ) Stop) (us vs : List Visit) → TakesBy q owner size g a us → TakesBy q owner size g b vs → Tie us vs (a ≡ b)
  takes_tie real a b us vs p r =
      let s = takes_view a us p in
      let t = takes_view b vs r in
      tie_map us vs _ _ (claims_tie q owner size g real s.0 t.0 us vs s.2 t.2) (λ e. s.1 ∙ (ap (λ z. as_block z) e ∙ sym t.1))

module _ {v w x : PortValue} (owner size : ℕ) {a b : Result (Option ℕ) Stop} where
  takes_alike : (g : Option ℕ) → Does v w (λ vs. TakesBy v.post owner size g a vs) → Does v x (λ vs. TakesBy v.post owner size g b vs) → Alike v w x (a ≡ b)
  takes_alike g p q = alike_does p q (takes_tie v.post owner size g (made_real v w _ p (takes_some v.post owner size g a)) a b)

  populates_alike : (high : Bool) (gpfn : ℕ) → Does v w (λ vs. PopulatesBy high v.post owner size gpfn a vs) → Does v x (λ vs. PopulatesBy high v.post owner size gpfn b vs) → Alike v w x (a ≡ b)
  populates_alike true gpfn p q = alike_does p q (none_tie (Err (Refused BadRange)) a b)
  populates_alike false gpfn p q = takes_alike (Some gpfn) p q

-- ---- frames that are given back: no block is answered
abbrev no_block : Result (Unit {0}) Stop → Result (Option ℕ) Stop
no_block (Ok done) = Ok None
no_block (Err e) = Err e

is_none_block : (n : Machine) (size first block : ℕ) (a : Result (Option ℕ) Stop) → IsBlock n size (Decrease first) block a → a ≡ no_block (done_by a)
is_none_block n size first block (Ok None) p = refl
is_none_block n size first block (Ok (Some f)) p = absurd p
is_none_block n size first block (Err e) p = refl

-- ---- any of them
pub reserves_came : {v w : PortValue} {owner size : ℕ} {extent : Extent} {from to : ℕ} {a : Result (Option ℕ) Stop} → Reserves owner size extent from v to w a → Came v w
reserves_came {v} {w} p = does_came v w _ p.found

pub reserves_alike : {v w x : PortValue} {owner size : ℕ} {extent : Extent} {from to other : ℕ} {a b : Result (Option ℕ) Stop} → Reserves owner size extent from v to w a → Reserves owner size extent from v other x b →
    Alike v w x ((to ≡ other) × (a ≡ b))
reserves_alike {owner = owner} {size = size} {extent = Increase} p q = alike_map (takes_alike owner size None p.found q.found) (λ e. (p.place ∙ sym q.place, e))
reserves_alike {owner = owner} {size = size} {extent = Populate gpfn} p q = alike_map (populates_alike owner size (too_high gpfn) gpfn p.found q.found) (λ e. (p.place ∙ sym q.place, e))
reserves_alike {v} {owner = owner} {size = size} {extent = Decrease first} {from = from} {to = to} {other = other} {a = a} {b = b} p q =
    alike_map (alike_does p.found q.found (λ us vs s t. decreases_tie v.post.machine owner first size from to other (done_by a) (done_by b) us vs p.place q.place s t))
    (λ e. (e.0, is_none_block v.post.machine size first p.serves.block a p.serves.is ∙ (ap (λ z. no_block z) e.1 ∙ sym (is_none_block v.post.machine size first q.serves.block b q.serves.is))))
