-- The table under the own lock along an exchange: what each part of it needs, and what is in hand at the end.
use Rattle.std.proofs.Common.{◌≡◌, ℕ, ◌<◌, ◌≤◌, if◌then◌else◌, true, false, List, [], ◌∷◌, length, Option, Some, refl, sym, ap, ◌∙◌, subst, inl, inr}
use Rattle.xp_words.specs.Entries.{demand_at}
use Rattle.xp_words.specs.Machine.{IsMachine}
use Rattle.xp_words.specs.Places.{sizes_of}
use Rattle.xp_words.specs.declared.entry.Demand.{Demand}
use Rattle.xp_words.specs.declared.entry.Demand.TheVariants.{Bad, Nothing, Read, Typed}
use Rattle.xp_board.specs.declared.holdings.Lock.{Lock}
use Rattle.xp_board.specs.declared.holdings.OwnerFound.TheVariants as owners
use Rattle.xp_board.specs.declared.holdings.Reference.{Reference}
use Rattle.xp_board.specs.declared.holdings.TypedReference.{TypedReference}
use Rattle.xp_board.specs.After.{learned_cell, learned_lock}
use Rattle.xp_board.specs.CellSteps.{is_same_as_seen, is_same_demand, keeps_demand}
use Rattle.xp_board.specs.declared.holdings.Seen.{Seen}
use Rattle.xp_board.specs.Hands.{lock_on}
use Rattle.xp_board.specs.KindSteps.{live_typed}
use Rattle.xp_board.specs.Settling.{HasDemand}
use Rattle.xp_board.specs.Told.{Post, PortValue}
use Rattle.xp_board.proofs.ListCounts.{first_by-cons_here}
use Rattle.xp_board.proofs.Sums.{when_eq}
use Rattle.step_maker.specs.Holds.{Holds, MayWork, Rests, quiet}
use Rattle.step_maker.proofs.Resting.{rests_by}
use Rattle.entry_locks.specs.Entries.{MaySwapEntry}
use Rattle.foreign_map.specs.Owning.{MayMapFor}
use Rattle.foreign_map.specs.declared.owners.Owners.{Owners}
use Rattle.kind_words.proofs.KindHands.{known_first}
use Rattle.partial_state.specs.Levels.{level_type}
use Rattle.entry_exchange.specs.Holding.{HoldsTableLock, LeavesExchange, MayLeaveLock, owner_at}
use Rattle.entry_exchange.specs.Parts.{HoldsFreed, HoldsSeen, HoldsTaken, IsOfLevel}
use Rattle.entry_exchange.proofs.Hands.{Stands, locks_are, refs_from, refs_of, stands_self, typed_from, typed_of, unset_stands, works_are}
use Rattle.entry_exchange.proofs.Putting.{has_read, has_typed}

-- ---- whether the new word asks the same as the one seen
pub seen_keeps : (e : Lock) (i seen new level : ℕ) → e.kind ≡ level_type level → e.seen ≡ Some (record { index = i; word = seen }) →
    keeps_demand e i new ≡ is_same_demand (demand_at (level_type level) i seen) (demand_at (level_type level) i new)
seen_keeps e i seen new level kind saw = keeps_by e.seen saw
  where
    keeps_by : (o : Option Seen) → o ≡ Some (record { index = i; word = seen }) → is_same_as_seen e.kind i new o ≡ is_same_demand (demand_at (level_type level) i seen) (demand_at (level_type level) i new)
    keeps_by o is =
        ap (λ y. is_same_as_seen e.kind i new y) is ∙ ap (λ b. if b then is_same_demand (demand_at e.kind i seen) (demand_at e.kind i new) else false) (when_eq i i refl)
        ∙ ap (λ t. is_same_demand (demand_at t i seen) (demand_at t i new)) kind

-- ---- the start
module _ (v : PortValue) (f level owner : ℕ) (holds : HoldsTableLock v f level owner) where
  pub begins : Stands v v [] [] (holds.lock ∷ []) v.holdings.old0 v.holdings.old1
  begins = stands_self v holds.lock holds.others.refs holds.others.typed holds.locks

  -- the entry was looked at
  module _ (u : PortValue) (i word : ℕ) (looked : Holds v u (learned_cell f i word v.holdings)) where
    pub looked_stands : Stands v u [] [] (learned_lock i word holds.lock ∷ []) v.holdings.old0 v.holdings.old1
    looked_stands = unset_stands v v u f i holds.lock [] [] v.holdings.old0 v.holdings.old1 holds.frame holds.others.works holds.others.claimed begins word looked

    pub holds_seen : HoldsSeen u f level owner i word
    holds_seen =
        record {
          holds = record {
            lock = learned_lock i word holds.lock;
            locks = locks_are v u [] [] (learned_lock i word holds.lock ∷ []) v.holdings.old0 v.holdings.old1 looked_stands;
            frame = holds.frame;
            kind = holds.kind;
            owned = holds.owned;
            others = record {
              refs = ap (λ (q : PortValue). q.holdings.refs) looked_stands;
              typed = ap (λ (q : PortValue). q.holdings.typed) looked_stands;
              works = ap (λ (q : PortValue). q.holdings.works) looked_stands ∙ holds.others.works;
              locks = refl;
              ending = ap (λ (q : PortValue). q.holdings.ending) looked_stands ∙ holds.others.ending;
              claimed = ap (λ (q : PortValue). q.holdings.claimed) looked_stands ∙ holds.others.claimed;
              raised = ap (λ (q : PortValue). q.holdings.raised) looked_stands ∙ holds.others.raised;
              credits = ap (λ (q : PortValue). q.holdings.credits) looked_stands ∙ holds.others.credits;
              looking = ap (λ (q : PortValue). q.holdings.looking) looked_stands ∙ holds.others.looking;
            };
          };
          seen = refl;
        }

  -- ---- the end
  module _ (w : PortValue) where
    pub leaves : (a b : Option ℕ) → Stands v w [] [] [] a b → LeavesExchange v w
    leaves a b stands = (
      a,
      b,
      stands ∙ ap (λ (xs : List Reference). quiet (record v { holdings = record v.holdings { refs = xs; typed = []; locks = []; old0 = a; old1 = b } })) (sym holds.others.refs)
          ∙ ap (λ (xs : List TypedReference). quiet (record v { holdings = record v.holdings { typed = xs; locks = []; old0 = a; old1 = b } })) (sym holds.others.typed),
    )

    pub rests_then : MayWork v → LeavesExchange v w → Rests w
    rests_then may out =
        let away : PortValue = record v { holdings = record v.holdings { locks = [] } } in
        rests_by away w out.0 out.1 (record { may = record { running = may.running; no_walk = may.no_walk; machine = may.machine }; empty = holds.others }) out.2

    -- behind the look
    pub leaves_behind : (u : PortValue) (ls : List Lock) (p q : Option ℕ) → Stands v u [] [] ls p q → LeavesExchange u w → LeavesExchange v w
    leaves_behind u ls p q stands out =
        leaves out.0 out.1 (out.2 ∙ ap (λ (y : PortValue). quiet (record y { holdings = record y.holdings { locks = []; old0 = out.0; old1 = out.1 } })) stands)

-- ---- at any port on the way
pub may_standing : (v w : PortValue) (rs : List Reference) (ys : List TypedReference) (ls : List Lock) (a b : Option ℕ) → Stands v w rs ys ls a b → MayWork v → MayWork w
may_standing v w rs ys ls a b stands may =
    record {
      running = ap (λ (q : PortValue). q.holdings.run) stands ∙ may.running;
      no_walk = ap (λ (q : PortValue). q.holdings.walk) stands ∙ may.no_walk;
      machine = subst (λ (p : Post). IsMachine p.machine) (sym (ap (λ (q : PortValue). q.post) stands)) may.machine;
    }

module _ (v y : PortValue) (rs : List Reference) (ys : List TypedReference) (e : Lock) (a b : Option ℕ) (stands : Stands v y rs ys (e ∷ []) a b) where
  -- the lock may go off, where that of a table of that level is in hand at v, and no old word
  pub leaves_lock : (f level : ℕ) → e.frame ≡ f → e.kind ≡ level_type level → v.holdings.works ≡ [] → f < v.post.machine.frames → MayWork v → 1 ≤ level → level ≤ 4 → b ≡ Some 0 → MayLeaveLock y f level
  leaves_lock f level at kind works inside may low high room =
      record {
        frame = subst (λ (p : Post). f < p.machine.frames) (sym (ap (λ (q : PortValue). q.post) stands)) inside;
        may = may_standing v y rs ys (e ∷ []) a b stands may;
        low = low;
        high = high;
        locked = record {
          lock = e;
          here = ap (λ ls. lock_on f ls) (locks_are v y rs ys (e ∷ []) a b stands) ∙ first_by-cons_here (λ (x : Lock). x.frame) f e [] at;
          kind = kind;
        };
        works = works_are v y rs ys (e ∷ []) a b stands works;
        room = ap (λ (q : PortValue). q.holdings.old1) stands ∙ room;
      }

-- ---- the exchange may be made
pub may_same : (v y : PortValue) (e : Lock) (f i seen new level : ℕ) (rs : List Reference) (ys : List TypedReference) (a b : Option ℕ) → Stands v y rs ys (e ∷ []) a b → e.frame ≡ f → e.seen ≡ Some (record { index = i; word = seen }) →
    keeps_demand e i new ≡ true → MaySwapEntry y.post.machine f i seen new y.holdings
may_same v y e f i seen new level rs ys a b stands at saw keeps =
    record {
      lock = e;
      here = ap (λ ls. lock_on f ls) (locks_are v y rs ys (e ∷ []) a b stands) ∙ first_by-cons_here (λ (x : Lock). x.frame) f e [] at;
      may = record { seen = saw; may = inl keeps };
    }

-- what the new word asks is in hand
module _ (v y : PortValue) (e : Lock) (f i seen new level : ℕ) (o : Owners) (d : Demand) (a b : Option ℕ) (stands : Stands v y (refs_of d (owner_at level o.tables o.frames)) (typed_of d (owner_at level o.tables o.frames)) (e ∷ []) a b)
    (at : e.frame ≡ f) (kind : e.kind ≡ level_type level) (owned : e.owner ≡ owners.Of o.tables) (works : v.holdings.works ≡ []) (maps : MayMapFor y o) (fits : IsOfLevel level d) where
  abbrev owner : ℕ
  owner = owner_at level o.tables o.frames

  locks_now : y.holdings.locks ≡ e ∷ []
  locks_now = ap (λ (q : PortValue). q.holdings.locks) stands

  works_now : y.holdings.works ≡ []
  works_now = ap (λ (q : PortValue). q.holdings.works) stands ∙ works

  has_demand : HasDemand y.post.machine f (level_type level) y.holdings d
  has_demand = by_demand d fits (ap (λ (q : PortValue). q.holdings.refs) stands) (ap (λ (q : PortValue). q.holdings.typed) stands)
    where
      by_demand : (x : Demand) → IsOfLevel level x → y.holdings.refs ≡ refs_of x owner → y.holdings.typed ≡ typed_of x owner → HasDemand y.post.machine f (level_type level) y.holdings x
      by_demand Nothing ok refs typed = tt
      by_demand Bad ok refs typed = absurd ok
      by_demand (Read g) ok refs typed = has_read y f level o e locks_now at owned maps g [] works_now refs
      by_demand (Typed g t) ok refs typed = has_typed y f level o e locks_now at owned maps g t [] typed

  pub may_change : e.seen ≡ Some (record { index = i; word = seen }) → demand_at (level_type level) i new ≡ d → MaySwapEntry y.post.machine f i seen new y.holdings
  may_change saw asks =
      record {
        lock = e;
        here = ap (λ ls. lock_on f ls) locks_now ∙ first_by-cons_here (λ (x : Lock). x.frame) f e [] at;
        may = record {
          seen = saw;
          may = inr (subst (λ t. HasDemand y.post.machine f t y.holdings (demand_at t i new)) (sym kind) (subst (λ x. HasDemand y.post.machine f (level_type level) y.holdings x) (sym asks) has_demand));
        };
      }

-- ---- what is given back is in hand
pub holds_taken : (v z : PortValue) (d : Demand) (owner : ℕ) (ls : List Lock) (a b : Option ℕ) → v.holdings.works ≡ [] → v.holdings.looking ≡ [] → Stands v z (refs_of d owner) (typed_of d owner) ls a b → HoldsTaken z d owner
holds_taken v z Nothing owner ls a b works looking stands = tt
holds_taken v z Bad owner ls a b works looking stands = tt
holds_taken v z (Read g) owner ls a b works looking stands =
    record {
      works = ap (λ (q : PortValue). q.holdings.works) stands ∙ works;
      reference = record { frame = g; owner = owners.Of owner };
      others = [];
      refs = ap (λ (q : PortValue). q.holdings.refs) stands;
      here = refl;
    }
holds_taken v z (Typed g t) owner ls a b works looking stands =
    record {
      works = ap (λ (q : PortValue). q.holdings.works) stands ∙ works;
      looking = ap (λ (q : PortValue). q.holdings.looking) stands ∙ looking;
      typed = ap (λ (q : PortValue). q.holdings.typed) stands;
    }

pub holds_freed : (v z : PortValue) (d : Demand) (n : ℕ) (ls : List Lock) (a b : Option ℕ) → v.holdings.works ≡ [] → v.holdings.looking ≡ [] → n ≤ length z.holdings.steps → Stands v z (refs_from d n) (typed_from d n) ls a b → HoldsFreed z d
holds_freed v z Nothing n ls a b works looking late stands = tt
holds_freed v z Bad n ls a b works looking late stands = tt
holds_freed v z (Read g) n ls a b works looking late stands =
    record {
      works = ap (λ (q : PortValue). q.holdings.works) stands ∙ works;
      reference = record { frame = g; owner = owners.Since n };
      others = [];
      refs = ap (λ (q : PortValue). q.holdings.refs) stands;
      here = refl;
    }
holds_freed v z (Typed g t) n ls a b works looking late stands =
    record {
      works = ap (λ (q : PortValue). q.holdings.works) stands ∙ works;
      looking = ap (λ (q : PortValue). q.holdings.looking) stands ∙ looking;
      reference = live_typed g t (owners.Since n);
      typed = ap (λ (q : PortValue). q.holdings.typed) stands;
      frame = refl;
      recent = late;
      live = known_first (sizes_of z.post.machine) g t (owners.Since n) [] z.holdings (ap (λ (q : PortValue). q.holdings.typed) stands);
    }
