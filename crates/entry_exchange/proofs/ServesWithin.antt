-- What a demand asks is within what the exchange asks: the new word, as the table was under the own lock.
use Rattle.std.proofs.Common.{◌≡◌, ◌≢◌, ◌⊎◌, ℕ, zero, suc, ◌==◌, if◌then◌else◌, Bool, true, Option, Some, None, IsTrue, Result, refl, rules, sym, ap, ◌∙◌, subst, inl, inr, arith}
use Rattle.std.proofs.lemmas.Bool.Decides.{nat_tests}
use Rattle.xp_words.specs.Entries.{below, demand_at}
use Rattle.xp_words.specs.Machine.{Machine}
use Rattle.xp_words.specs.PageTypes.{is_table}
use Rattle.xp_words.specs.declared.entry.Demand.{Demand}
use Rattle.xp_words.specs.declared.entry.Demand.TheVariants.{Bad, Nothing, Read, Typed}
use Rattle.xp_words.specs.declared.kind.PageType.{PageType}
use Rattle.xp_words.specs.declared.kind.PageType.TheVariants as kinds
use Rattle.xp_words.specs.declared.reply.Stop.{Stop}
use Rattle.xp_words.proofs.Shared.{eq_false as when_ne}
use Rattle.xp_board.specs.declared.holdings.Lock.{Lock}
use Rattle.xp_board.specs.Hands.{lock_on}
use Rattle.xp_board.proofs.Sums.{when_eq}
use Rattle.step_maker.specs.Moves.{Moment}
use Rattle.step_maker.specs.Asked.{Asked, Implies, IsAsked, IsDemandOf, IsFor, IsNaming, Request, Within, entered, named, of, owner_below}
use Rattle.step_maker.specs.Finding.{Finding}
use Rattle.step_maker.specs.Rising.{IsOfSame, NeedsOwners}
use Rattle.step_maker.proofs.Grown.{grown_by, grown_where, implied, risen}
use Rattle.foreign_map.specs.declared.owners.Owners.{Owners}
use Rattle.partial_state.specs.Levels.{level_type}
use Rattle.entry_exchange.specs.declared.exchanging.EntryUpdate.{EntryUpdate}
use Rattle.entry_exchange.specs.Asking.{may_rise, of_exchange}
use Rattle.entry_exchange.specs.Holding.{owner_at}
use Rattle.entry_exchange.specs.Parts.{IsOfLevel}
use Rattle.entry_exchange.specs.Serving.{AsksDemand, asks_table, is_named, of_demand, of_given, wanted_type}
use Rattle.entry_exchange.proofs.Putting.{at_level}

-- ---- whose the frame is
pub owner_lower : (r : Request) (level : ℕ) → owner_below r (Some (level_type level)) ≡ owner_at level r.owner r.pages_of
owner_lower r zero = refl
owner_lower r (suc zero) = refl
owner_lower r (suc (suc zero)) = refl
owner_lower r (suc (suc (suc zero))) = refl
owner_lower r (suc (suc (suc (suc l)))) = sym (ap (λ b. if b then r.pages_of else r.owner) (when_ne (suc (suc (suc (suc l)))) 1 (λ e. omega arith)))

-- ---- demands
frame_named : (g f : ℕ) → IsTrue (g == f) → f ≡ g
frame_named g f e = grind (arith, nat_tests)

named_of : (d : Demand) (g : ℕ) (k : Option PageType) → IsTrue (is_named d g) → IsFor k (wanted_type d) → IsDemandOf g k (Some d)
named_of Nothing g k a b = absurd cc
named_of Bad g k a b = absurd cc
named_of (Read f) g k a b = (frame_named g f a, b)
named_of (Typed f t) g k a b = (frame_named g f a, b)

asks_named : (n : Machine) (s : ℕ) (r : Request) (F : Finding) (d : Demand) (g : ℕ) → AsksDemand n s r F d → IsTrue (is_named d g) → IsAsked n s r F g
asks_named n s r F Nothing g a b = absurd cc
asks_named n s r F Bad g a b = absurd cc
asks_named n s r F (Read f) g a b = subst (λ j. IsAsked n s r F j) (frame_named g f b) a
asks_named n s r F (Typed f t) g a b = subst (λ j. IsAsked n s r F j) (frame_named g f b) a

pub asks_by : (n : Machine) (s : ℕ) (r : Request) (F : Finding) (owner : ℕ) (d : Demand) → ((g : ℕ) (k : Option PageType) → IsDemandOf g k (Some d) → Asked n s r F g owner k) → AsksDemand n s r F d
asks_by n s r F owner Nothing asked = tt
asks_by n s r F owner Bad asked = tt
asks_by n s r F owner (Read f) asked = of owner None (asked f None (refl, tt))
asks_by n s r F owner (Typed f t) asked = of owner None (asked f None (refl, tt))

-- an entry of level 1 asks no table
low_asks : (d : Demand) (level : ℕ) → level ≡ 1 → IsOfLevel level d → asks_table d ≡ true → ⊥
low_asks Nothing level one fits asks = absurd cc
low_asks Bad level one fits asks = absurd cc
low_asks (Read f) level one fits asks = absurd cc
low_asks (Typed f t) level one fits asks =
    let is : is_table kinds.Writable ≡ true = subst (λ k. is_table k ≡ true) (fits ∙ ap (λ l. below (level_type l)) one) asks in
    absurd cc

module _ (n : Machine) (s : ℕ) (x : EntryUpdate) (o : Owners) (answer : Result (Unit {0}) Stop) (G : Finding) where
  abbrev pub whole : Request
  whole = of_exchange x o answer

  pub asks_table_named : IsAsked n s whole G x.table
  asks_table_named = of o.tables None (named (when_eq x.table x.table refl) refl tt)

  -- ---- the new word, as the table was under the own lock
  module _ (lock : Lock) (m : Moment) (was : G m) (here : lock_on x.table m.hand.locks ≡ Some lock) (kind : lock.kind ≡ level_type x.level) where
    pub asks_new : (d : Demand) → d ≡ demand_at (level_type x.level) x.index x.word → (g : ℕ) (k : Option PageType) → IsDemandOf g k (Some d) → Asked n s whole G g (owner_at x.level o.tables o.frames) k
    asks_new d is g k asked =
        entered x.table x.index x.word lock m refl (when_eq x.table x.table refl) refl refl was here
        (subst (λ (y : Demand). IsDemandOf g k (Some y)) (is ∙ ap (λ t. demand_at t x.index x.word) (sym kind)) asked)
        (sym (ap (λ t. owner_below whole (Some t)) kind ∙ owner_lower whole x.level))

  -- ---- a demand that is taken
  module _ (d : Demand) (F : Finding) (more : (m : Moment) → F m → G m) (rose : Bool) (level : IsOfLevel x.level d)
      (asked : (g : ℕ) (k : Option PageType) → IsDemandOf g k (Some d) → Asked n s whole G g (owner_at x.level o.tables o.frames) k) where
    abbrev taking : Request
    taking = of_demand d (owner_at x.level o.tables o.frames) o.frames rose

    -- above level 1, where entries ask, its owner is that of the tables
    same_owners : NeedsOwners taking → IsOfSame taking whole
    same_owners (inl asks) = by_level (at_level x.level o.tables o.frames)
      where
        by_level : ((x.level ≡ 1) × (owner_at x.level o.tables o.frames ≡ o.frames)) ⊎ ((x.level ≢ 1) × (owner_at x.level o.tables o.frames ≡ o.tables)) → IsOfSame taking whole
        by_level (inl low) = absurd (low_asks d x.level low.0 level asks)
        by_level (inr above) = record { owner = above.1; pages_of = refl }
    same_owners (inr (inl a)) = absurd cc
    same_owners (inr (inr (inl a))) = absurd cc
    same_owners (inr (inr (inr a))) = absurd (let b = a.1 in cc)

    pub within_taking : Implies rose (may_rise answer) → Within n s taking F whole G
    within_taking rises =
        let gate = implied rose (may_rise answer) rises in
        let tables = risen (asks_table d) in
        grown_where n s taking whole F G more (search (rules, gate, tables)) same_owners (λ g here k less. asked g k (named_of d g k here less)) (λ any. absurd (plain_demand any)) (λ g none. absurd cc)
      where
        plain_demand : IsNaming taking → ⊥
        plain_demand (inl a) = absurd cc
        plain_demand (inr (inl a)) = absurd cc
        plain_demand (inr (inr a)) = absurd (let b = a.1 in cc)

  -- ---- what the old word asked is given back
  module _ (d : Demand) (F : Finding) (more : (m : Moment) → F m → G m) (asks : AsksDemand n s whole G d) (rises : may_rise answer ≡ true) where
    abbrev giving : Request
    giving = of_given d o.tables o.frames

    pub within_giving : Within n s giving F whole G
    within_giving =
        grown_by n s giving whole F G more (search (rules, rises)) (record { owner = refl; pages_of = refl }) (λ g none k is. absurd cc) (λ any g none. absurd cc) (λ g is. asks_named n s whole G d g asks is)
