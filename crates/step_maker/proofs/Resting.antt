-- A vCPU with nothing in hand: what stays so, and that no frame is in its lists.
use Rattle.std.proofs.Common.{◌≡◌, ℕ, false, List, [], Option, None, sym, ap, ◌∙◌, subst}
use Rattle.xp_words.specs.Machine.{IsMachine}
use Rattle.xp_board.specs.declared.holdings.Holdings.{Holdings}
use Rattle.xp_board.specs.Hands.{IsEmptyHand}
use Rattle.xp_board.specs.Lists.{first_by}
use Rattle.xp_board.specs.Told.{Post, PortValue}
use Rattle.step_maker.specs.Holds.{FlushedHolds, FlushedSame, Rests, Same, quiet}

-- ---- an empty hand
-- what emptiness does not see
abbrev pub bare : Holdings → Holdings
bare h = record h { steps = []; cache = []; acked = 0; cold = false; old0 = None; old1 = None }

pub empty_as : (h k : Holdings) → bare h ≡ bare k → IsEmptyHand k → IsEmptyHand h
empty_as h k same none =
    record {
      refs = ap (λ (q : Holdings). q.refs) same ∙ none.refs;
      typed = ap (λ (q : Holdings). q.typed) same ∙ none.typed;
      works = ap (λ (q : Holdings). q.works) same ∙ none.works;
      locks = ap (λ (q : Holdings). q.locks) same ∙ none.locks;
      ending = ap (λ (q : Holdings). q.ending) same ∙ none.ending;
      claimed = ap (λ (q : Holdings). q.claimed) same ∙ none.claimed;
      raised = ap (λ (q : Holdings). q.raised) same ∙ none.raised;
      credits = ap (λ (q : Holdings). q.credits) same ∙ none.credits;
      looking = ap (λ (q : Holdings). q.looking) same ∙ none.looking;
    }

-- ---- nothing is in hand, whatever the old words name
pub rests_by : (v w : PortValue) (a b : Option ℕ) → Rests v → FlushedHolds v w (record v.holdings { old0 = a; old1 = b }) → Rests w
rests_by v w a b rests holds =
    record {
      may = record {
        running = ap (λ (q : PortValue). q.holdings.run) holds ∙ rests.may.running;
        no_walk = ap (λ (q : PortValue). q.holdings.walk) holds ∙ rests.may.no_walk;
        machine = subst (λ (p : Post). IsMachine p.machine) (sym (ap (λ (q : PortValue). q.post) holds)) rests.may.machine;
      };
      empty = empty_as w.holdings v.holdings (ap (λ (q : PortValue). bare q.holdings) holds) rests.empty;
    }

pub still_rests : (v w : PortValue) → Rests v → FlushedSame v w → Rests w
still_rests v w rests same = rests_by v w v.holdings.old0 v.holdings.old1 rests same

pub same_rests : (v w : PortValue) → Rests v → Same v w → Rests w
same_rests v w rests same = still_rests v w rests (ap quiet same)

-- ---- a list that is empty has no frame
pub none_on : {A : Type 0} (key : A → ℕ) (f : ℕ) (xs : List A) → xs ≡ [] → first_by key f xs ≡ None
unfolding first_by
none_on key f xs e = ap (λ ys. first_by key f ys) e
