-- A turn by a port of the plain board is a turn of the machine, and so is a stop.
use Rattle.std.proofs.Common.{◌≡◌, ℕ, ◌<◌, Bool, true, false, List, length, map, Some, refl, sym, ap, ◌∙◌, subst, slice_set, slice_index_or}
use Rattle.std.specs.Prelude.{slice_get}
use Rattle.std.proofs.lemmas.List.{set-get_or, map-set, length-map}
use Rattle.std.proofs.lemmas.Option.{get_or_from_slice_get}
use Rattle.xp_words.specs.Places.{sizes_of}
use Rattle.xp_board.specs.Told.{Post, Story}
use Rattle.step_maker.specs.Moves.{Came}
use Rattle.step_maker.proofs.Wending.{came_goes}
use Rattle.answer_laws.specs.Alone.{IsAlone}
use Rattle.shared_board.specs.Board.{Board, port_value}
use Rattle.vcpu_runners.specs.Turns.{IsOf, IsStop, IsTurn, Processing, StopsWhere, next_of}
use Rattle.vcpu_runners.specs.Cpus.{IsShort}
use Rattle.xp_machine.specs.Ready.{Ready}
use Rattle.vcpu_runners.specs.Runners.{TakesTurnBy}
use Rattle.vcpu_runners.proofs.Gathering.{at_place}
use Rattle.vcpu_turn.proofs.Scripts.{turn_script}
use Rattle.xp_machine.specs.Turns.{Stage, stage, port_on, MakesStagedTurn, MakesStagedStop, UnlessRetired, ByCpu}
use Rattle.vcpu_turn.proofs.Hindering.{AloneStays, NeitherLostNorBusy, NobodyWaitedFor}
use Rattle.vcpu_turn.proofs.TurnSteps.{turn_came, stop_came}
use Rattle.vcpu_turn.proofs.Unlosing.{NothingLost, turn_spared}
use Rattle.xp_machine.proofs.Moving.{Stepping, moved_none, stepping, same_story, ready_after, short_at, alone_at, sound_alone}
use Rattle.xp_preempt.specs.Gates.{Gate}

-- ---- one turn or one stop
pub record Done (DoesNext : Stage → Stage → Type 0) (b b2 : Board) (cpus cpus2 : List Processing) (gates gates2 : List Gate) : Type 0 where
  pub does : DoesNext (stage b.story cpus gates) (stage b2.story cpus2 gates2)
  pub ready : Ready b2 cpus2
  pub opening : b2.story.opening ≡ b.story.opening
  pub machine : b2.machine ≡ b.machine

-- a list stays that is told again what it has
set_same : {A : Type 0} (xs : List A) (s : ℕ) (x y : A) → slice_get xs s ≡ Some x → y ≡ x → slice_set xs s y ≡ xs
set_same xs s x y here same = ap (λ z. slice_set xs s z) (same ∙ sym (get_or_from_slice_get xs s x x here)) ∙ set-get_or xs s x

module _ (stays : AloneStays) where
  -- a vCPU that is not retired made steps
  record Made_on (b b2 : Board) (s : ℕ) (cpus : List Processing) (c2 : Processing) : Type 0 where
    steps : Stepping b.machine s b.story b2.story
    ready : Ready b2 (slice_set cpus s c2)

  made_on : (b b2 : Board) (s : ℕ) (cpus : List Processing) (c c2 : Processing) → s < (sizes_of b.machine).vcpus → Ready b cpus → b2.machine ≡ b.machine → slice_get cpus s ≡ Some c →
      Came (port_value b s) (port_value b2 s) → c2.script ≡ c.script → IsOf (port_value b2 s) c2 → Made_on b b2 s cpus c2
  made_on b b2 s cpus c c2 real ready machine here came script own =
      let v = port_value b s in
      let w = port_value b2 s in
      let steps = stepping b b2 s real ready.hands (came_goes v w came) own.idles.empty in
      record { steps = steps; ready = ready_after b b2 s cpus c c2 ready machine steps.moved here script (sound_alone b2 s (stays v w (alone_at b cpus s ready) came)) own }

  -- one that is retired stays as it is, and so does the board
  rested_on : (DoesNext : Processing → Stage → Stage → Type 0) (b b2 : Board) (s : ℕ) (cpus : List Processing) (gates : List Gate) (c c2 : Processing) (has left : Gate) → Ready b cpus →
      b2.machine ≡ b.machine → slice_get cpus s ≡ Some c → slice_get gates s ≡ Some has → c2 ≡ c → port_value b2 s ≡ port_value b s → left ≡ has → IsOf (port_value b2 s) c2 →
      Done (UnlessRetired DoesNext c true) b b2 cpus (slice_set cpus s c2) gates (slice_set gates s left)
  rested_on DoesNext b b2 s cpus gates c c2 has left ready machine here gate same port kept own =
      let story = same_story b b2 s port in
      let moved = moved_none b.machine s b.story b2.story story in
      let all = set_same cpus s c c2 here same in
      let both = set_same gates s has left gate kept in
      record {
        does = λ i. stage (story i) (all i) (both i);
        ready = ready_after b b2 s cpus c c2 ready machine moved here (ap (λ (x : Processing). x.script) same)
            (sound_alone b2 s (subst IsAlone (sym port) (alone_at b cpus s ready))) own;
        opening = moved.opening;
        machine = machine;
      }

  turn_by : NeitherLostNorBusy → NobodyWaitedFor → NothingLost → (b b2 : Board) (s : ℕ) (cpus : List Processing) (gates : List Gate) (c c2 : Processing) (has left : Gate) (retired : Bool) →
      s < (sizes_of b.machine).vcpus → Ready b cpus → b2.machine ≡ b.machine → slice_get cpus s ≡ Some c → slice_get gates s ≡ Some has →
      TakesTurnBy retired has left c c2 (port_value b s) (port_value b2 s) → IsOf (port_value b2 s) c2 →
      Done (UnlessRetired (MakesStagedTurn b.machine s) c retired) b b2 cpus (slice_set cpus s c2) gates (slice_set gates s left)
  turn_by neither nobody lost b b2 s cpus gates c c2 has left true real ready machine here gate t own =
      rested_on (MakesStagedTurn b.machine s) b b2 s cpus gates c c2 has left ready machine here gate t.cpu t.port t.gate own
  turn_by neither nobody lost b b2 s cpus gates c c2 has left false real ready machine here gate t own =
      let v = port_value b s in
      let w = port_value b2 s in
      let came = turn_came c c2 t.end v w t.answers t.turn in
      let script = turn_script c (next_of c) t.turn.begun c2 t.turn.worked t.answers t.end t.turn.does in
      let made = made_on b b2 s cpus c c2 real ready machine here came script own in
      record {
        does = record {
          gate = has;
          asked = left;
          own = gate;
          after = c2;
          end = t.end;
          made = made.steps.made;
          leads = made.steps.leads;
          answers = t.answers;
          turn = subst (λ k. IsTurn c c2 t.end v (port_on k s b2.story) t.answers) machine t.turn;
          consulted = t.consulted;
          due = t.due;
          unhindered = turn_spared stays neither nobody lost v real c c2 t.end w t.answers (alone_at b cpus s ready) t.turn;
          cpus = refl;
          gates = refl;
        };
        ready = made.ready;
        opening = made.steps.moved.opening;
        machine = machine;
      }

  stop_by : (b b2 : Board) (s : ℕ) (cpus : List Processing) (gates : List Gate) (c c2 : Processing) (has left : Gate) (retired : Bool) → s < (sizes_of b.machine).vcpus → Ready b cpus →
      b2.machine ≡ b.machine → slice_get cpus s ≡ Some c → slice_get gates s ≡ Some has → left ≡ has →
      StopsWhere retired c c2 (port_value b s) (port_value b2 s) → IsOf (port_value b2 s) c2 →
      Done (UnlessRetired (MakesStagedStop b.machine s) c retired) b b2 cpus (slice_set cpus s c2) gates (slice_set gates s left)
  stop_by b b2 s cpus gates c c2 has left true real ready machine here gate kept t own =
      rested_on (MakesStagedStop b.machine s) b b2 s cpus gates c c2 has left ready machine here gate t.0 t.1 kept own
  stop_by b b2 s cpus gates c c2 has left false real ready machine here gate kept t own =
      let v = port_value b s in
      let w = port_value b2 s in
      let made = made_on b b2 s cpus c c2 real ready machine here (stop_came v w t.stop) (ap (λ (x : Processing). x.script) t.cpu) own in
      record {
        does = record {
          made = made.steps.made;
          leads = made.steps.leads;
          stop = subst (λ k. IsStop v (port_on k s b2.story)) machine t.stop;
          cpus = ap (λ x. slice_set cpus s x) t.cpu;
          gates = set_same gates s has left gate kept;
        };
        ready = made.ready;
        opening = made.steps.moved.opening;
        machine = machine;
      }

-- ---- as the code has it
pub of_port : (b b1 : Board) (s s1 : ℕ) (c : Processing) → b1 ≡ b → s1 ≡ s → IsOf (port_value b s) c → IsOf (port_value b1 s1) c
of_port b b1 s s1 c same runner of = subst (λ v. IsOf v c) (λ i. port_value (sym same i) (sym runner i)) of

-- the port is that of board b for vCPU s
module _ {A : Type 0} (cpu : A → Processing) (b b1 : Board) (s s1 : ℕ) (runners : List A) (d : A) (same : b1 ≡ b) (runner : s1 ≡ s) (within : s < length runners) (ready : Ready b (map cpu runners)) where
  real : s < (sizes_of b.machine).vcpus
  real = subst (λ k. s < k) (sym (length-map runners cpu) ∙ ready.all) within

  pub is_of : IsOf (port_value b1 s1) (cpu (slice_index_or runners s d))
  is_of = of_port b b1 s s1 (cpu (slice_index_or runners s d)) same runner (ready.of s (cpu (slice_index_or runners s d)) (at_place cpu runners s d within))

pub script_short : {A : Type 0} (cpu : A → Processing) (b : Board) (s : ℕ) (runners : List A) (d : A) → s < length runners → Ready b (map cpu runners) → IsShort (cpu (slice_index_or runners s d))
script_short cpu b s runners d within ready = short_at (map cpu runners) s (cpu (slice_index_or runners s d)) ready.short (at_place cpu runners s d within)

-- and it goes on being the same port
module _ {A : Type 0} (cpu : A → Processing) (gate : A → Gate) (b b1 b2 : Board) (s s1 s2 : ℕ) (runners : List A) (d y : A) (same : b1 ≡ b) (runner : s1 ≡ s)
    (post : (port_value b2 s2).post ≡ (port_value b1 s1).post) (within : s < length runners) (ready : Ready b (map cpu runners)) (own : IsOf (port_value b2 s2) (cpu y)) (stays : AloneStays) where
  before_is : port_value b1 s1 ≡ port_value b s
  before_is = λ i. port_value (same i) (runner i)

  after_is : port_value b2 s2 ≡ port_value b2 s
  after_is =
      let vcpu2 : s2 ≡ s = ap (λ (q : Post). q.vcpu) post ∙ runner in
      λ i. port_value b2 (vcpu2 i)

  same_machine : b2.machine ≡ b.machine
  same_machine = ap (λ (q : Post). q.machine) post ∙ ap (λ (x : Board). x.machine) same

  is_of_now : IsOf (port_value b2 s) (cpu y)
  is_of_now = subst (λ w. IsOf w (cpu y)) after_is own

  -- what vCPU s did, and the lists of all after it
  as_done : (DoesNext : Processing → Stage → Stage → Type 0) →
      Done (UnlessRetired DoesNext (cpu (slice_index_or runners s d)) (cpu (slice_index_or runners s d)).retired) b b2 (map cpu runners) (slice_set (map cpu runners) s (cpu y)) (map gate runners)
      (slice_set (map gate runners) s (gate y)) →
      Done (λ x x'. ByCpu DoesNext (slice_get (map cpu runners) s) x x') b b2 (map cpu runners) (map cpu (slice_set runners s y)) (map gate runners) (map gate (slice_set runners s y))
  as_done DoesNext done =
      let c = cpu (slice_index_or runners s d) in
      let at = at_place cpu runners s d within in
      let all = sym (map-set cpu runners s y) in
      let both = sym (map-set gate runners s y) in
      record {
        does = subst (λ o. ByCpu DoesNext o (stage b.story (map cpu runners) (map gate runners)) (stage b2.story (map cpu (slice_set runners s y)) (map gate (slice_set runners s y)))) (sym at)
            (subst (λ gs. UnlessRetired DoesNext c c.retired (stage b.story (map cpu runners) (map gate runners)) (stage b2.story (map cpu (slice_set runners s y)) gs)) both
            (subst (λ cs. UnlessRetired DoesNext c c.retired (stage b.story (map cpu runners) (map gate runners)) (stage b2.story cs (slice_set (map gate runners) s (gate y)))) all done.does));
        ready = subst (Ready b2) all done.ready;
        opening = done.opening;
        machine = done.machine;
      }

  pub turned : NeitherLostNorBusy → NobodyWaitedFor → NothingLost →
      TakesTurnBy (cpu (slice_index_or runners s d)).retired (gate (slice_index_or runners s d)) (gate y) (cpu (slice_index_or runners s d)) (cpu y) (port_value b1 s1) (port_value b2 s2) →
      Done (λ x x'. ByCpu (MakesStagedTurn b.machine s) (slice_get (map cpu runners) s) x x') b b2 (map cpu runners) (map cpu (slice_set runners s y)) (map gate runners) (map gate (slice_set runners s y))
  turned neither nobody lost t =
      let c = cpu (slice_index_or runners s d) in
      let has = gate (slice_index_or runners s d) in
      let by = subst (λ v. TakesTurnBy c.retired has (gate y) c (cpu y) v (port_value b2 s)) before_is
      (subst (λ w. TakesTurnBy c.retired has (gate y) c (cpu y) (port_value b1 s1) w) after_is t) in
      as_done (MakesStagedTurn b.machine s)
      (turn_by stays neither nobody lost b b2 s (map cpu runners) (map gate runners) c (cpu y) has (gate y) c.retired (real cpu b b1 s s1 runners d same runner within ready) ready same_machine
      (at_place cpu runners s d within) (at_place gate runners s d within) by is_of_now)

  pub stopped : gate y ≡ gate (slice_index_or runners s d) →
      StopsWhere (cpu (slice_index_or runners s d)).retired (cpu (slice_index_or runners s d)) (cpu y) (port_value b1 s1) (port_value b2 s2) →
      Done (λ x x'. ByCpu (MakesStagedStop b.machine s) (slice_get (map cpu runners) s) x x') b b2 (map cpu runners) (map cpu (slice_set runners s y)) (map gate runners) (map gate (slice_set runners s y))
  stopped kept t =
      let c = cpu (slice_index_or runners s d) in
      let has = gate (slice_index_or runners s d) in
      let by = subst (λ v. StopsWhere c.retired c (cpu y) v (port_value b2 s)) before_is (subst (λ w. StopsWhere c.retired c (cpu y) (port_value b1 s1) w) after_is t) in
      as_done (MakesStagedStop b.machine s)
      (stop_by stays b b2 s (map cpu runners) (map gate runners) c (cpu y) has (gate y) c.retired (real cpu b b1 s s1 runners d same runner within ready) ready same_machine
      (at_place cpu runners s d within) (at_place gate runners s d within) kept by is_of_now)

-- the port gives back the board that it leaves
module _ {DoesNext : Stage → Stage → Type 0} {b b2 : Board} {cpus cpus2 : List Processing} {gates gates2 : List Gate} (done : Done DoesNext b b2 cpus cpus2 gates gates2) where
  pub does_back : (x : Story) → x ≡ b2.story → DoesNext (stage b.story cpus gates) (stage x cpus2 gates2)
  does_back x is = subst (λ z. DoesNext (stage b.story cpus gates) (stage z cpus2 gates2)) (sym is) done.does

  pub ready_back : (x : Board) → x ≡ b2 → Ready x cpus2
  ready_back x is = subst (λ y. Ready y cpus2) (sym is) done.ready

  pub opening_back : (words : List ℕ) → words ≡ b2.story.opening → words ≡ b.story.opening
  opening_back words is = is ∙ done.opening
