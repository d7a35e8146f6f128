-- A turn on a stage, and the gate of its vCPU.
use Rattle.std.proofs.Common.{◌≡◌, ℕ, ◌+◌, ◌-◌, ◌<◌, true, List, ◌∷◌, ◌++◌, slice_get, Option, Some, sym, subst}
use Rattle.xp_words.specs.Machine.{Machine}
use Rattle.xp_words.specs.declared.ops.Op.{Op}
use Rattle.xp_preempt.specs.Gates.{Gate, Heard, last_ask}
use Rattle.vcpu_turn.specs.Asking.{CallGone, HearsNoWithin, asks_within, calls_of, elements_of, elements_tried}
use Rattle.vcpu_turn.specs.CallAsks.{CallStops, LastCallStops, asks_before, asks_first}
use Rattle.vcpu_turn.specs.Cpus.{OfOne, job_of}
use Rattle.vcpu_runners.specs.Turns.{Processing, Task, begins_at, is_due, next_of}
use Rattle.xp_machine.specs.Turns.{MakesStagedTurn, Stage, StaysWithin, port_on}
use Rattle.vcpu_turn.proofs.Asking.{turn_within}
use Rattle.vcpu_turn.proofs.CallYeses.{call_stops, last_stops}
use Rattle.vcpu_turn.proofs.Stopping.{turn_heard}

gate_same : (o : Option Gate) (g k : Gate) → o ≡ Some g → o ≡ Some k → g ≡ k
gate_same o g k a b = cc

pub own_turn_stops : (n : Machine) (v : ℕ) (c : Processing) (s t : Stage) (g : Gate) (op : Op) (task : Option Task) (j : ℕ) → (m : MakesStagedTurn n v c s t) → slice_get s.gates v ≡ Some g → next_of c ≡ Some op → job_of op ≡ OfOne task →
    HearsNoWithin (elements_tried m.turn) → 0 < j → g.asks + j < last_ask → g.says (g.asks + j) ≡ true → StaysWithin v c s t (begins_at task c.at.done + (j - asks_within (elements_tried m.turn)))
own_turn_stops n v c s t g op task j m has next one hears some less is_yes =
    let same = gate_same (slice_get s.gates v) g m.gate has m.own in
    record {
      after = m.after;
      end = m.end;
      cpus = m.cpus;
      within = turn_within c m.after op task m.end (port_on n v s.board) (port_on n v t.board) m.gate.asks m.answers m.gate.says next one m.turn hears m.consulted.gives j some
          (subst (λ (k : Gate). k.asks + j < last_ask) same less) (subst (λ (k : Gate). k.says (k.asks + j) ≡ true) same is_yes);
    }

-- of a multicall
pub own_call_stops : (n : Machine) (v : ℕ) (c : Processing) (s t : Stage) (g : Gate) (j : ℕ) → (m : MakesStagedTurn n v c s t) → slice_get s.gates v ≡ Some g → (later earlier : List (CallGone c.domain)) (x : CallGone c.domain) →
    calls_of m.turn ≡ later ++ x ∷ earlier → HearsNoWithin (elements_of x) → 0 < j → g.asks + asks_before (asks_first m.turn) earlier x + j < last_ask → g.says (g.asks + asks_before (asks_first m.turn) earlier x + j) ≡ true → CallStops x j
own_call_stops n v c s t g j m has later earlier x at hears some less is_yes =
    let same = gate_same (slice_get s.gates v) g m.gate has m.own in
    let front = asks_before (asks_first m.turn) earlier x in
    call_stops c m.after m.end (port_on n v s.board) (port_on n v t.board) m.gate.asks m.answers m.gate.says m.turn m.consulted.gives later earlier x at hears j some (subst (λ (k : Gate). k.asks + front + j < last_ask) same less)
    (subst (λ (k : Gate). k.says (k.asks + front + j) ≡ true) same is_yes)

pub own_last_stops : (n : Machine) (v : ℕ) (c : Processing) (s t : Stage) (g : Gate) (j : ℕ) → (m : MakesStagedTurn n v c s t) → slice_get s.gates v ≡ Some g → HearsNoWithin (elements_tried m.turn) → 0 < j → g.asks + j < last_ask →
    g.says (g.asks + j) ≡ true → LastCallStops (asks_first m.turn) (calls_of m.turn) j
own_last_stops n v c s t g j m has hears some less is_yes =
    let same = gate_same (slice_get s.gates v) g m.gate has m.own in
    last_stops c m.after m.end (port_on n v s.board) (port_on n v t.board) m.gate.asks m.answers m.gate.says m.turn hears m.consulted.gives j some (subst (λ (k : Gate). k.asks + j < last_ask) same less)
    (subst (λ (k : Gate). k.says (k.asks + j) ≡ true) same is_yes)

pub own_turn_hears : (n : Machine) (v : ℕ) (c : Processing) (s t : Stage) (m : MakesStagedTurn n v c s t) → HearsNoWithin (elements_tried m.turn) → Heard m.gate.says m.gate.asks m.asked.asks (is_due m.end)
own_turn_hears n v c s t m hears =
    subst (λ k. Heard m.gate.says m.gate.asks k (is_due m.end)) (sym m.consulted.asks)
    (turn_heard c m.after m.end (port_on n v s.board) (port_on n v t.board) m.gate.asks m.answers m.gate.says m.turn hears m.consulted.gives m.due)
