-- A run by turns.
use Rattle.std.proofs.Common.{◌≡◌, ◌≢◌, ◌+◌, ◌<◌, ◌++◌, ℕ, Bool, true, false, List, [], ◌∷◌, length, Option, Some, None, append_assoc, refl, sym, ap, subst, ◌∙◌, inl, inr, slice_index_or, slice_set, length-set, get_or-set_same}
use Rattle.std.specs.Prelude.{slice_get}
use Rattle.std.proofs.lemmas.Bool.{cases_eq}
use Rattle.std.proofs.lemmas.List.{get_or-set_other}
use Rattle.std.proofs.lemmas.Option.{get_or_from_slice_get, slice_get-get_or, slice_get_within}
use Rattle.xp_words.specs.declared.kind.PageType.{PageType}
use Rattle.xp_words.specs.declared.ops.ExtOp.{ExtOp}
use Rattle.xp_words.specs.declared.place.Place.{Place}
use Rattle.xp_words.specs.declared.place.Place.TheVariants.{Kind, Vcpu}
use Rattle.xp_words.specs.Machine.{Machine}
use Rattle.xp_board.specs.declared.holdings.Made.{Made}
use Rattle.xp_board.specs.declared.step.Step.{Step}
use Rattle.xp_board.specs.Runs as runs
use Rattle.xp_board.specs.Sound.{SoundWords}
use Rattle.sound_rule.proofs.OwnRun.{RunsSound}
use Rattle.shared_board.specs.Board.{state_of}
use Rattle.partial_state.specs.Levels.{level_type}
use Rattle.vcpu_turn.specs.Cpus.{Processing}
use Rattle.xp_machine.specs.Pieces.{Leads, Piece, log_by}
use Rattle.xp_machine.specs.Turns as staged
use Rattle.xp_machine.specs.Turns.{ByCpu, InOrder, MakesStagedStop, MakesStagedTurn, Stage, UnlessRetired, WorksOff, port_on}
use Rattle.whole_trees.specs.Whole.{IsSetIn, WasBase, WasPinned}
use Rattle.whole_trees.proofs.Hands.{run_told}
use Rattle.done_elements.specs.Replied.{WasSet}
use Rattle.done_elements.proofs.Fresh.{did_whole}
use Rattle.done_elements.proofs.Turning.{Keeps, keeps_more, turn_keeps}

-- ---- a list of which one element is set
record IsOneOf {A : Type 0} (xs : List A) (v u : ℕ) (x y : A) : Type 0 where
  here : u ≡ v → y ≡ x
  there : u ≢ v → slice_get xs u ≡ Some y

set_one : {A : Type 0} (xs : List A) (v u : ℕ) (x y : A) → slice_get (slice_set xs v x) u ≡ Some y → IsOneOf xs v u x y
set_one xs v u x y at =
    let value = get_or_from_slice_get (slice_set xs v x) u y x at in
    let within : u < length xs = subst (λ n. u < n) (length-set xs v x) (slice_get_within (slice_set xs v x) u y at) in
    record {
      here = λ same. sym value ∙ ap (λ k. slice_index_or (slice_set xs v x) k x) same ∙ get_or-set_same xs v x x (subst (λ k. k < length xs) same within);
      there = λ off. slice_get-get_or xs u x within ∙ ap (λ z. Some z) (sym (get_or-set_other xs v u x x off) ∙ value);
    }

-- ---- the run of a board goes on
piece_run : (n : Machine) (v : ℕ) (o a b : runs.State) (log : List (ℕ × Step)) (made : List Made) → runs.Run n o log a → Piece n v a made b → runs.Run n o (log_by v made ++ log) b
piece_run n v o a b log [] run piece = subst (runs.Run n o log) (sym piece) run
piece_run n v o a b log (x ∷ xs) run piece = (piece.0, piece_run n v o a piece.0 log xs run piece.1, piece.2)

-- ---- what was so in a run was so in one that goes on
module _ (n : Machine) (opening : List ℕ) (more log longer : List (ℕ × Step)) (s : ℕ) (first last : List Made) (is : longer ≡ more ++ log) where
  set_later : (p : Place) (before moment : runs.State) → IsSetIn n opening log s first last p before moment → IsSetIn n opening longer s first last p before moment
  set_later p before moment was =
      record {
        newer = more ++ was.newer;
        earlier = was.earlier;
        step = was.step;
        parts = is ∙ ap (λ l. more ++ l) was.parts ∙ sym (append_assoc more was.newer ((s, was.step) ∷ was.earlier));
        run = was.run;
        made = was.made;
        place = was.place;
        since = was.since;
        begins = was.begins;
        later = was.later;
        ends = was.ends;
      }

  pinned_later : (f : ℕ) (t : PageType) → WasPinned n opening log s first last f t → WasPinned n opening longer s first last f t
  pinned_later f t was =
      record { before = was.before; moment = was.moment; set = set_later (Kind f) was.before was.moment was.set; unpinned = was.unpinned; pinned = was.pinned; kind = was.kind; whole = was.whole }

  base_later : (k f : ℕ) → WasBase n opening log s first last k f → WasBase n opening longer s first last k f
  base_later k f was = record { before = was.before; moment = was.moment; set = set_later (Vcpu s k) was.before was.moment was.set; names = was.names; owner = was.owner; whole = was.whole }

later : (n : Machine) (opening : List ℕ) (more log longer : List (ℕ × Step)) (s : ℕ) (e : ExtOp) → longer ≡ more ++ log → WasSet n opening log s e → WasSet n opening longer s e
later n opening more log longer s e is was =
    record {
      first = was.first;
      last = was.last;
      pin = λ low. pinned_later n opening more log longer s was.first was.last is e.first (level_type (e.command + 1)) (was.pin low);
      kernel = λ five. base_later n opening more log longer s was.first was.last is 0 e.first (was.kernel five);
      user = λ fifteen some. base_later n opening more log longer s was.first was.last is 1 e.first (was.user fifteen some);
    }

module _ (sounds : RunsSound) (n : Machine) (opening : List ℕ) (sound : SoundWords n opening) where
  abbrev Whole : Stage → ℕ → ExtOp → Type 0
  Whole s u e = WasSet n opening s.board.log u e

  record Holds (s : Stage) : Type 0 where
    run : runs.Run n (runs.start n opening) s.board.log (state_of s.board)
    each : (u : ℕ) (c : Processing) → slice_get s.cpus u ≡ Some c → Keeps (Whole s u) c

  module _ (v : ℕ) (made : List Made) (s s' : Stage) (leads : Leads n v s.board made s'.board) (holds : Holds s) where
    run_on : runs.Run n (runs.start n opening) s'.board.log (state_of s'.board)
    run_on = subst (λ l. runs.Run n (runs.start n opening) l (state_of s'.board)) (sym leads.log) (piece_run n v (runs.start n opening) (state_of s.board) (state_of s'.board) s.board.log made holds.run leads.piece)

    kept : (u : ℕ) (c : Processing) → Keeps (Whole s u) c → Keeps (Whole s' u) c
    kept u c = keeps_more (Whole s u) (Whole s' u) c (λ e was. later n opening (log_by v made) s.board.log s'.board.log u e leads.log was)

    -- one vCPU is another one then, the others are as they were
    each_on : (c' : Processing) → s'.cpus ≡ slice_set s.cpus v c' → Keeps (Whole s' v) c' → (u : ℕ) (d : Processing) → slice_get s'.cpus u ≡ Some d → Keeps (Whole s' u) d
    each_on c' cpus new u d at =
        let one = set_one s.cpus v u c' d (ap (λ xs. slice_get xs u) (sym cpus) ∙ at) in
        elim (cases_eq u v) [ inl same ↦ subst (λ i. Keeps (Whole s' i) d) (sym same) (subst (Keeps (Whole s' v)) (sym (one.here same)) new) | inr off ↦ kept u d (holds.each u d (one.there off)) ]

  turned : (v : ℕ) (c : Processing) (s s' : Stage) → Holds s → slice_get s.cpus v ≡ Some c → MakesStagedTurn n v c s s' → Holds s'
  turned v c s s' holds at t =
      let run = run_on v t.made s s' t.leads holds in
      let told = run_told n opening v sound sounds (state_of s.board) s.board.log holds.run in
      let did = did_whole n opening s'.board.log (state_of s'.board) (port_on n v s.board) (port_on n v s'.board) sound sounds run refl told refl in
      let new = turn_keeps (Whole s' v) c t.after t.end (port_on n v s.board) (port_on n v s'.board) t.answers did (kept v t.made s s' t.leads holds v c (holds.each v c at)) t.turn in
      record { run = run; each = each_on v t.made s s' t.leads holds t.after t.cpus new }

  stopped : (v : ℕ) (c : Processing) (s s' : Stage) → Holds s → slice_get s.cpus v ≡ Some c → MakesStagedStop n v c s s' → Holds s'
  stopped v c s s' holds at t =
      let was = kept v t.made s s' t.leads holds v c (holds.each v c at) in
      record { run = run_on v t.made s s' t.leads holds; each = each_on v t.made s s' t.leads holds (record c { retired = true }) t.cpus (record { old = was.old; now = was.now }) }

  module _ (Next : ℕ → Processing → Stage → Stage → Type 0) (goes : (v : ℕ) (c : Processing) (s s' : Stage) → Holds s → slice_get s.cpus v ≡ Some c → Next v c s s' → Holds s') where
    unless : (v : ℕ) (c : Processing) (r : Bool) (s s' : Stage) → Holds s → slice_get s.cpus v ≡ Some c → UnlessRetired (Next v) c r s s' → Holds s'
    unless v c true s s' holds at does = subst Holds (sym does) holds
    unless v c false s s' holds at does = goes v c s s' holds at does

    by_cpu : (v : ℕ) (o : Option Processing) (s s' : Stage) → Holds s → slice_get s.cpus v ≡ o → ByCpu (Next v) o s s' → Holds s'
    by_cpu v None s s' holds at does = absurd does
    by_cpu v (Some c) s s' holds at does = unless v c c.retired s s' holds at does

    in_order : (vs : List ℕ) (s s' : Stage) → InOrder (λ v a b. ByCpu (Next v) (slice_get a.cpus v) a b) vs s s' → Holds s → Holds s'
    in_order _ _ _ (staged.InOrder.none s) holds = holds
    in_order _ a _ (staged.InOrder.more vs v _ m s before step) holds = by_cpu v (slice_get m.cpus v) m s (in_order vs a m before holds) refl step

  pub works_whole : (vs : List ℕ) (s s' : Stage) → WorksOff n vs s s' → runs.Run n (runs.start n opening) s.board.log (state_of s.board) → ((u : ℕ) (c : Processing) → slice_get s.cpus u ≡ Some c → Keeps (Whole s u) c) →
      (u : ℕ) (c : Processing) → slice_get s'.cpus u ≡ Some c → Keeps (Whole s' u) c
  works_whole vs s s' works run each =
      (in_order (MakesStagedStop n) stopped _ works.worked s' works.stops (in_order (MakesStagedTurn n) turned vs s works.worked works.turns (record { run = run; each = each }))).each
