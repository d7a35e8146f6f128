-- A turn, or a stop, leads from a stage to one stage.
use Rattle.std.proofs.Common.{◌≡◌, ℕ, Bool, true, false, List, length, slice_get, slice_set, is_some, Option, Some, None, refl, sym, ap, ◌∙◌, subst}
use Rattle.xp_words.specs.Machine.{IsMachine, Machine}
use Rattle.xp_words.specs.Places.{run_of}
use Rattle.xp_board.specs.Told.{PortValue, Story}
use Rattle.xp_preempt.specs.Gates.{Consulted, Gate, GivesAnswers}
use Rattle.vcpu_runners.specs.Turns as turning
use Rattle.vcpu_runners.specs.Turns.{Processing}
use Rattle.xp_machine.specs.Turns.{ByCpu, IsStagedStop, IsStagedTurn, MakesStagedStop, MakesStagedTurn, Stage, UnlessRetired, port_on}
use Rattle.determined_laws.proofs.Courses.{alike_move}
use Rattle.determined_turns.proofs.Telling.{told_alike}
use Rattle.determined_turns.proofs.Turning.{is_turn_alike}

same_some : {A : Type 0} (x y : A) → ◌≡◌ {A = Option A} (Some x) (Some y) → x ≡ y
same_some {A} x y e = cc

one_some : {A : Type 0} (x y : A) (o : Option A) → o ≡ Some x → o ≡ Some y → x ≡ y
one_some {A} x y o e f = let t : ◌≡◌ {A = Option A} (Some x) (Some y) = sym e ∙ f in cc

same_stage : (s t : Stage) → s.board ≡ t.board → s.cpus ≡ t.cpus → s.gates ≡ t.gates → s ≡ t
same_stage s t a b c = ap (λ z. record s { board = z }) a ∙ (ap (λ z. record s { board = t.board; cpus = z }) b ∙ ap (λ z. record t { gates = z }) c)

-- ---- one gate behind the same answers
same_gate : (h k : Gate) → h.paces ≡ k.paces → h.asks ≡ k.asks → h.yes ≡ k.yes → h.says ≡ k.says → h ≡ k
same_gate h k a b c d =
    ap (λ z. record h { paces = z }) a ∙ (ap (λ z. record h { paces = k.paces; asks = z }) b ∙ (ap (λ z. record h { paces = k.paces; asks = k.asks; yes = z }) c ∙ ap (λ z. record k { says = z }) d))

same_function : (f g : ℕ → Bool) → ((n : ℕ) → f n ≡ g n) → f ≡ g
same_function f g e = λ i n. e n i

asked_same : (g h k : Gate) (answers : List Bool) → Consulted g h answers → Consulted g k answers → h ≡ k
asked_same g h k answers p q = same_gate h k (p.paces ∙ sym q.paces) (p.asks ∙ sym q.asks) (p.yes ∙ sym q.yes) (same_function h.says k.says (λ n. p.says n ∙ sym (q.says n)))

module _ (n : Machine) (machine : IsMachine n) (v : ℕ) where
  -- the port of a board tells it
  same_board : (a b : Story) → port_on n v a ≡ port_on n v b → a ≡ b
  same_board a b e = same_some a b (ap (λ (z : PortValue). z.told) e)

  -- ---- a turn
  pub turn_same : (c : Processing) (s a b : Stage) → MakesStagedTurn n v c s a → MakesStagedTurn n v c s b → a ≡ b
  turn_same c s a b p q = by (one_some p.gate q.gate (slice_get s.gates v) p.own q.own)
    where
      by : p.gate ≡ q.gate → a ≡ b
      by gate =
          let consulted = subst (λ z. Consulted z q.asked q.answers) (sym gate) q.consulted in
          let one =
          told_alike (port_on n v s.board) (port_on n v a.board) (port_on n v b.board) _ refl
          (is_turn_alike p.gate.says p.gate.asks c p.after q.after p.end q.end (port_on n v s.board) (port_on n v a.board) (port_on n v b.board) p.answers q.answers machine p.consulted.gives consulted.gives p.turn q.turn) in
          let asked = asked_same p.gate p.asked q.asked p.answers p.consulted (subst (λ z. Consulted p.gate q.asked z) (sym one.1.2) consulted) in
          same_stage a b (same_board a.board b.board one.0) (p.cpus ∙ (ap (λ z. slice_set s.cpus v z) one.1.0 ∙ sym q.cpus)) (p.gates ∙ (ap (λ z. slice_set s.gates v z) asked ∙ sym q.gates))

  -- ---- a stop
  stop_same : (c : Processing) (s a b : Stage) → MakesStagedStop n v c s a → MakesStagedStop n v c s b → a ≡ b
  stop_same c s a b p q =
      let one = told_alike (port_on n v s.board) (port_on n v a.board) (port_on n v b.board) _ refl (alike_move p.stop.1 q.stop.1) in
      same_stage a b (same_board a.board b.board one.0) (p.cpus ∙ sym q.cpus) (p.gates ∙ sym q.gates)

-- ---- a vCPU that is retired makes none
unless_same : {D : Processing → Stage → Stage → Type 0} → ((c : Processing) (s a b : Stage) → D c s a → D c s b → a ≡ b) → (c : Processing) (retired : Bool) (s a b : Stage) → UnlessRetired D c retired s a →
    UnlessRetired D c retired s b → a ≡ b
unless_same one c true s a b p q = p ∙ sym q
unless_same one c false s a b p q = one c s a b p q

by_cpu_same : {D : Processing → Stage → Stage → Type 0} → ((c : Processing) (s a b : Stage) → D c s a → D c s b → a ≡ b) → (o : Option Processing) (s a b : Stage) → ByCpu D o s a → ByCpu D o s b → a ≡ b
by_cpu_same one None s a b p q = absurd p
by_cpu_same one (Some c) s a b p q = unless_same one c c.retired s a b p q

module _ (n : Machine) (machine : IsMachine n) (v : ℕ) where
  pub turn_by : (s a b : Stage) → IsStagedTurn n v s a → IsStagedTurn n v s b → a ≡ b
  turn_by s a b p q = by_cpu_same (turn_same n machine v) (slice_get s.cpus v) s a b p q

  pub stop_by : (s a b : Stage) → IsStagedStop n v s a → IsStagedStop n v s b → a ≡ b
  stop_by s a b p q = by_cpu_same (stop_same n machine v) (slice_get s.cpus v) s a b p q
