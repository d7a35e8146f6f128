-- A run in threads.
use Rattle.std.proofs.Common.{◌≡◌, ◌<◌, ℕ, List, [], length, replicate, Some, append-nil, refl, sym, subst, arith, slice_index_or}
use Rattle.std.specs.Prelude.{slice_get}
use Rattle.std.proofs.lemmas.Option.{slice_get-get_or, slice_get_within}
use Rattle.xp_words.specs.declared.ops.ExtOp.{ExtOp}
use Rattle.xp_words.specs.declared.ops.Op.{Op}
use Rattle.xp_words.specs.Machine.{Machine}
use Rattle.xp_words.specs.Places.{sizes_of}
use Rattle.xp_board.specs.declared.holdings.Holdings.{Holdings}
use Rattle.xp_board.specs.Hands.{IsEmptyHand, empty}
use Rattle.xp_board.specs.Runs.{start}
use Rattle.xp_board.specs.Sound.{SoundState, SoundWords, hand_of}
use Rattle.xp_board.specs.Told.{PortValue}
use Rattle.step_maker.specs.Moves.{Came}
use Rattle.step_maker.proofs.Coming.{came_self, came_trans}
use Rattle.sound_rule.proofs.OwnRun.{RunsSound}
use Rattle.shared_board.proofs.Opened.{all_empty}
use Rattle.thread_board.specs.OneRun.{OneRun}
use Rattle.thread_board.specs.Values.{BoardValue}
use Rattle.vcpu_turn.specs.Cpus.{Processing}
use Rattle.vcpu_turn.proofs.TurnSteps.{turn_came}
use Rattle.vcpu_runners.specs.Cpus.{first_cpus}
use Rattle.vcpu_runners.specs.Replayed.{RanInThreads, TookTurns, more, none, port_with}
use Rattle.xp_preempt.specs.Gates.{Gate}
use Rattle.whole_trees.proofs.Hands.{none_told}
use Rattle.done_elements.specs.Replied.{RepliedElement, WasSet}
use Rattle.done_elements.proofs.Elements.{Did, did_on}
use Rattle.done_elements.proofs.Fresh.{did_whole, keeps_first}
use Rattle.done_elements.proofs.Turning.{Keeps, keeps_more, turn_keeps}

record Kept (o w : PortValue) (c : Processing) : Type 0 where
  came : Came o w
  keeps : Keeps (Did o w) c

took_keeps : (o : PortValue) (has : Gate) (c : Processing) (v : PortValue) (left : Gate) (c' : Processing) (w : PortValue) → TookTurns has c v left c' w → Kept o v c → Kept o w c'
took_keeps o has c v _ _ _ none kept = kept
took_keeps o has c v _ _ _ (more mid left d c' u w before alive takes) kept =
    let was = took_keeps o has c v mid d u before kept in
    let goes = turn_came d c' takes.end u w takes.answers takes.turn in
    record {
      came = came_trans o u w was.came goes;
      keeps =
          turn_keeps (Did o w) d c' takes.end u w takes.answers (λ e x. did_on o u w w e was.came x (came_self w))
          (keeps_more (Did o u) (Did o w) d (λ e x. did_on o o u w e (came_self o) x goes) was.keeps) takes.turn;
    }

abbrev pub RestsSound : Type 0
RestsSound = (n : Machine) (words : List ℕ) (hands : List Holdings) → SoundState n words hands → ((s : ℕ) → s < (sizes_of n).vcpus → IsEmptyHand (hand_of hands s)) → SoundWords n words

none_in_hand : IsEmptyHand empty
none_in_hand = record { refs = refl; typed = refl; works = refl; locks = refl; ending = refl; claimed = refl; raised = refl; credits = refl; looking = refl }

opened_sound : RestsSound → (n : Machine) (opening words : List ℕ) (hands : List Holdings) → OneRun n opening words hands → SoundWords n opening
opened_sound rests n opening words hands run =
    rests n opening (replicate (sizes_of n).vcpus empty) (run.always run.one.log [] (start n opening) (sym (append-nil run.one.log)) refl).0 (λ s real. subst IsEmptyHand (sym (all_empty (sizes_of n).vcpus s)) none_in_hand)

module _ (runs : RunsSound) (rests : RestsSound) (b : BoardValue) (scripts : List (List Op)) (gates left : List Gate) (words : List ℕ) (cpus : List Processing) (ran : RanInThreads b gates (first_cpus b.machine scripts) words left cpus) where
  pub threads_whole : (s : ℕ) (c : Processing) (e : ExtOp) → slice_get cpus s ≡ Some c → RepliedElement c e → WasSet b.machine b.opening ran.run.one.log s e
  threads_whole s c e at p =
      let first = first_cpus b.machine scripts in
      let within : s < length first = (let k = slice_get_within cpus s c at in let all = ran.all in omega arith) in
      let c0 = slice_index_or first s c in
      let at0 : slice_get first s ≡ Some c0 = slice_get-get_or first s c within in
      let r = ran.each s c0 c at0 at in
      let o = port_with b s r.lender empty in
      let w = port_with b s r.lender (hand_of ran.hands s) in
      let kept = took_keeps o r.gate c0 o r.asked c w r.turns (record { came = came_self o; keeps = keeps_first (Did o o) b.machine scripts s c0 at0 }) in
      did_whole b.machine b.opening ran.run.one.log (record { words = words; hands = ran.hands }) o w (opened_sound rests b.machine b.opening words ran.hands ran.run) runs ran.run.one.run refl (none_told b.machine s empty refl) refl e
      (kept.keeps.old p.op p.call p.list p.reply p.stands p.answered p.k e p.counted p.element)
