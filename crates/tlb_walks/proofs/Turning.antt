-- A port with a walk in flight: what it holds after one piece behind another.
use Rattle.std.proofs.Common.{◌≡◌, false, Option, Some, None, refl, sym, ap, ◌∙◌, subst}
use Rattle.xp_board.specs.declared.holdings.Walk.{Walk}
use Rattle.xp_board.specs.Told.{Post, PortValue}
use Rattle.xp_words.specs.Machine.{IsMachine}
use Rattle.own_cache.specs.declared.flight.Flight.{Flight}
use Rattle.own_cache.specs.Translating.{Translating, flown, landed, translating}
use Rattle.step_maker.specs.Holds.{Holds, Rests, Same}
use Rattle.tlb_walks.specs.Flying.{WalkReady, Turned}
use Rattle.tlb_walks.proofs.RowSteps.{set_down}

pub none_flown : (o : Option Walk) → flown o ≡ None → o ≡ None
none_flown None e = refl
none_flown (Some x) e = absurd cc

module _ (v w : PortValue) (t : Translating) (turn : Turned v w t) where
  pub turned_post : w.post ≡ v.post
  turned_post = ap (λ (q : PortValue). q.post) turn.hand

  pub turned_is : translating w.holdings ≡ t
  turned_is = ap (λ (q : PortValue). translating q.holdings) turn.hand ∙ ap (λ (o : Option Flight). record { items = t.items; flight = o }) turn.flight

  pub turned_ready : WalkReady v → WalkReady w
  turned_ready r =
      record {
        running = ap (λ (q : PortValue). q.holdings.run) turn.hand ∙ r.running;
        machine = subst (λ (p : Post). IsMachine p.machine) (sym turned_post) r.machine;
        empty = record {
          refs = ap (λ (q : PortValue). q.holdings.refs) turn.hand ∙ r.empty.refs;
          typed = ap (λ (q : PortValue). q.holdings.typed) turn.hand ∙ r.empty.typed;
          works = ap (λ (q : PortValue). q.holdings.works) turn.hand ∙ r.empty.works;
          locks = ap (λ (q : PortValue). q.holdings.locks) turn.hand ∙ r.empty.locks;
          ending = ap (λ (q : PortValue). q.holdings.ending) turn.hand ∙ r.empty.ending;
          claimed = ap (λ (q : PortValue). q.holdings.claimed) turn.hand ∙ r.empty.claimed;
          raised = ap (λ (q : PortValue). q.holdings.raised) turn.hand ∙ r.empty.raised;
          credits = ap (λ (q : PortValue). q.holdings.credits) turn.hand ∙ r.empty.credits;
          looking = ap (λ (q : PortValue). q.holdings.looking) turn.hand ∙ r.empty.looking;
        };
        warm = ap (λ (q : PortValue). q.holdings.cold) turn.hand ∙ r.warm;
      }

  pub turned_landed : t.flight ≡ None → w.holdings.walk ≡ None
  turned_landed e = ap (λ (q : PortValue). q.holdings.walk) turn.hand ∙ none_flown turn.walk (turn.flight ∙ e)

  pub turned_rest : t.flight ≡ None → v.holdings.walk ≡ None → Holds v w (record v.holdings { cache = t.items })
  turned_rest e none = turn.hand ∙ ap (λ (o : Option Walk). set_down v (record v.holdings { walk = o; cache = t.items })) (none_flown turn.walk (turn.flight ∙ e) ∙ sym none)

pub turned_then : (v u w : PortValue) (s t : Translating) → Turned v u s → Turned u w t → Turned v w t
turned_then v u w s t a b =
    record {
      walk = b.walk;
      hand = b.hand ∙ ap (λ (q : PortValue). set_down q (record q.holdings { walk = b.walk; cache = t.items })) a.hand;
      flight = b.flight;
    }

pub turned_self : (v : PortValue) (t : Translating) → translating v.holdings ≡ t → Turned v v t
turned_self v t is =
    record {
      walk = v.holdings.walk;
      hand = ap (λ (u : Translating). set_down v (record v.holdings { cache = u.items })) is;
      flight = ap (λ (u : Translating). u.flight) is;
    }

pub turned_as : (v w : PortValue) (s t : Translating) → s ≡ t → Turned v w s → Turned v w t
turned_as v w s t e a = subst (λ u. Turned v w u) e a

pub turned_same : (v w : PortValue) → Turned v w (landed (translating v.holdings)) → v.holdings.walk ≡ None → Same v w
turned_same v w a none = turned_rest v w (landed (translating v.holdings)) a refl none

pub ready_of : (v : PortValue) → Rests v → v.holdings.cold ≡ false → WalkReady v
ready_of v r warm = record { running = r.may.running; machine = r.may.machine; empty = r.empty; warm = warm }

-- nothing is in hand, and no walk in flight
pub rests_of : (v : PortValue) → WalkReady v → v.holdings.walk ≡ None → Rests v
rests_of v r none = record { may = record { running = r.running; no_walk = none; machine = r.machine }; empty = r.empty }

pub same_turned : (v w : PortValue) → Same v w → Turned v w (translating v.holdings)
same_turned v w e = record { walk = v.holdings.walk; hand = e; flight = refl }

pub same_ready : (v w : PortValue) → WalkReady v → Same v w → WalkReady w
same_ready v w r same = turned_ready v w _ (same_turned v w same) r
