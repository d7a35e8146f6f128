-- The work of a turn on an operation, or on the call of a multicall, is determined.
use Rattle.std.proofs.Common.{◌≡◌, ◌≤◌, ◌<◌, ℕ, ◌+◌, Bool, true, false, List, [], ◌∷◌, ◌++◌, length, slice_get, Option, Some, None, Result, Ok, Err, refl, sym, ap, ◌∙◌, subst}
use native.Mathlib.Omega.{arith}
use Rattle.xp_words.specs.declared.ops.Call.{Call}
use Rattle.xp_words.specs.declared.reply.LogLine.{LogLine}
use Rattle.xp_words.specs.declared.reply.LogLine.TheVariants as lines
use Rattle.xp_words.specs.declared.reply.Refusal.TheVariants as refusals
use Rattle.xp_words.specs.declared.reply.Reply.{Reply}
use Rattle.xp_words.specs.declared.reply.Stop.{Stop}
use Rattle.xp_words.specs.declared.reply.Stop.TheVariants.{Paused, Refused}
use Rattle.xp_board.specs.Told.{PortValue}
use Rattle.step_maker.specs.Moves.{Came}
use Rattle.step_maker.proofs.Coming.{came_self, came_trans, moves_came}
use Rattle.xp_preempt.specs.Gates.{GivesAnswers, asks_on}
use Rattle.vcpu_turn.specs.Cpus.{OfDescriptors, OfExt, OfMapping, OfMem, OfPairs, OfRead, OfWrite, Task, awaited_left}
use Rattle.vcpu_turn.specs.Extents.{Block, given_lines}
use Rattle.vcpu_turn.specs.declared.cpu.CallNumber.{CallNumber}
use Rattle.vcpu_turn.specs.declared.cpu.Progress.{Progress}
use Rattle.vcpu_turn.specs.Working.{IsPlaced, Valued, WentOn, Works, gave_of, valued}
use Rattle.vcpu_turn.proofs.Hindering.{reads_came}
use Rattle.determined_laws.specs.Courses.{Alike}
use Rattle.determined_laws.proofs.Courses.{alike_map}
use Rattle.determined_turns.proofs.Elements.{ext_list_alike, ext_list_came, owned_alike, owned_came, whole_alike, whole_came}
use Rattle.determined_turns.proofs.Extents.{extents_alike, extents_came}
use Rattle.determined_turns.proofs.Lists.{Answer}
use Rattle.determined_turns.proofs.Mapping.{descriptors_alike, descriptors_came, maps_alike, maps_came, read_alike, write_alike, write_came}

-- ---- the value of what answers none is 0
valued_same : (a b : Answer) → a ≡ b → valued a ≡ valued b
valued_same a b e = ap valued e

abbrev Same : (to other : ℕ) (answers others : List Bool) (a b : Result ℕ Stop) → Type 0
Same to other answers others a b = (to ≡ other) × (answers ≡ others) × (a ≡ b)

module _ (says : ℕ → Bool) (n : ℕ) where
  abbrev Gave : List Bool → Type 0
  Gave answers = GivesAnswers says n answers

  pub works_came : (d : ℕ) (o : Option Task) (awaited : Option ℕ) (v : PortValue) (from to : ℕ) (w : PortValue) (answers : List Bool) (a : Result ℕ Stop) → Gave answers → Works d o awaited v from to w answers a → Came v w
  works_came d None awaited v from to w answers a g p = whole_came _ v to w answers a p
  works_came d (Some (OfPairs foreign list)) awaited v from to w answers a g p = owned_came says n to w answers p.ended g p.works
  works_came d (Some (OfExt list)) awaited v from to w answers a g p = ext_list_came says n d list from awaited v w to answers p.ended g p.works
  works_came d (Some (OfMem command order items)) awaited v from to w answers a g p = extents_came d command order items says n from v w to answers p.ended g p.works
  works_came d (Some (OfMapping foreign va word flags)) awaited v from to w answers a g p = maps_came d foreign va word flags says awaited v from to w answers p.ended p.works
  works_came d (Some (OfDescriptors tables)) awaited v from to w answers a g p = descriptors_came tables v to w answers p.ended p.works
  works_came d (Some (OfRead user va)) awaited v from to w answers a g p = reads_came user va v to w answers a p
  works_came d (Some (OfWrite user va val)) awaited v from to w answers a g p = write_came user va val v to w answers p.ended p.works

  pub valued_as : {P Q : Answer → Type 0} {a b : Result ℕ Stop} (p : Valued P a) (q : Valued Q b) → p.ended ≡ q.ended → a ≡ b
  valued_as p q e = p.answer_is ∙ (ap valued e ∙ sym q.answer_is)

  -- with the place within an element, and the blocks that were given
  pub works_alike : (d : ℕ) (o : Option Task) (awaited : Option ℕ) (v : PortValue) (from to other : ℕ) (w x : PortValue) (answers others : List Bool) (a b : Result ℕ Stop) (old new late : ℕ) → Gave answers → Gave others →
      (p : Works d o awaited v from to w answers a) → (q : Works d o awaited v from other x others b) → IsPlaced d o awaited v from to w answers a p old new → IsPlaced d o awaited v from other x others b q old late →
      Alike v w x ((to ≡ other) × (answers ≡ others) × (a ≡ b) × (new ≡ late) × (gave_of d o awaited v from to w answers a p ≡ gave_of d o awaited v from other x others b q))
  works_alike d None awaited v from to other w x answers others a b old new late g h p q e f = alike_map (whole_alike _ _ v to other w x answers others a b refl p q) (λ s. (s.0, s.1, s.2, e ∙ sym f, refl))
  works_alike d (Some (OfPairs foreign list)) awaited v from to other w x answers others a b old new late g h p q e f =
      alike_map (owned_alike says n w x to other answers others p.ended q.ended g h p.works q.works) (λ s. (s.0, s.1, valued_as p q s.2, e ∙ sym f, refl))
  works_alike d (Some (OfExt list)) awaited v from to other w x answers others a b old new late g h p q e f =
      alike_map (ext_list_alike says n d list from awaited v w x to other answers others p.ended q.ended g h p.works q.works) (λ s. (s.0, s.1, valued_as p q s.2, e ∙ sym f, refl))
  works_alike d (Some (OfMem command order items)) awaited v from to other w x answers others a b old new late g h p q e f =
      alike_map (extents_alike d command order items says n from old new late v w x to other answers others p.ended q.ended g h p.works q.works e f) (λ s. (s.0, s.1, valued_as p q s.2, s.3, s.4))
  works_alike d (Some (OfMapping foreign va word flags)) awaited v from to other w x answers others a b old new late g h p q e f =
      alike_map (maps_alike d foreign va word flags says awaited v from to other w x answers others p.ended q.ended n g h p.works q.works) (λ s. (s.0, s.1, valued_as p q s.2, e ∙ sym f, refl))
  works_alike d (Some (OfDescriptors tables)) awaited v from to other w x answers others a b old new late g h p q e f =
      alike_map (descriptors_alike tables v to other w x answers others p.ended q.ended p.works q.works) (λ s. (s.0, s.1, valued_as p q s.2, e ∙ sym f, refl))
  works_alike d (Some (OfRead user va)) awaited v from to other w x answers others a b old new late g h p q e f =
      alike_map (read_alike user va v to other w x answers others a b p q) (λ s. (s.0, s.1, s.2, e ∙ sym f, refl))
  works_alike d (Some (OfWrite user va val)) awaited v from to other w x answers others a b old new late g h p q e f =
      alike_map (write_alike user va val v to other w x answers others p.ended q.ended p.works q.works) (λ s. (s.0, s.1, valued_as p q s.2, e ∙ sym f, refl))

  -- ---- where the vCPU keeps how far it is
  abbrev pub SameWay : (to by : Progress) (log' log'' : List LogLine) (answers others : List Bool) (a b : Result ℕ Stop) → Type 0
  SameWay to by log' log'' answers others a b = (to ≡ by) × (log' ≡ log'') × (answers ≡ others) × (a ≡ b)

  same_progress : (to by : Progress) → to.call ≡ by.call → to.done ≡ by.done → to.within ≡ by.within → to.awaited ≡ by.awaited → to.place ≡ by.place → to ≡ by
  same_progress to by a b c d e =
      ap (λ z. record to { call = z }) a ∙ (ap (λ z. record to { call = by.call; done = z }) b ∙ (ap (λ z. record to { call = by.call; done = by.done; within = z }) c
      ∙ (ap (λ z. record to { call = by.call; done = by.done; within = by.within; awaited = z }) d ∙ ap (λ z. record by { place = z }) e)))

  pub went_came : {d : ℕ} {task : Option Task} {number : CallNumber} {v : PortValue} {from to : Progress} {w : PortValue} {log log' : List LogLine} {answers : List Bool} {a : Result ℕ Stop} → Gave answers →
      WentOn d task number v from to w log log' answers a → Came v w
  went_came {d} {task} {v = v} {from} {to} {w} {answers = answers} {a} g p = works_came d task from.awaited v from.done to.done w answers a g p.works

  pub went_alike : {d : ℕ} {task : Option Task} {number : CallNumber} {v : PortValue} {from to by : Progress} {w x : PortValue} {log log' other : List LogLine} {answers others : List Bool} {a b : Result ℕ Stop} → Gave answers → Gave others →
      WentOn d task number v from to w log log' answers a → WentOn d task number v from by x log other others b → Alike v w x (SameWay to by log' other answers others a b)
  went_alike {d} {task} {number} {v} {from} {to} {by} {w} {x} {log} {log'} {other} {answers} {others} {a} {b} g h p q =
      alike_map (works_alike d task from.awaited v from.done to.done by.done w x answers others a b from.within to.within by.within g h p.works q.works p.within q.within)
      (λ s. (
        same_progress to by (p.calls ∙ sym q.calls) s.0 s.3 (p.waits ∙ (ap (λ z. awaited_left task z a) s.0 ∙ (ap (λ z. awaited_left task by.done z) s.2 ∙ sym q.waits))) (p.place ∙ sym q.place),
        p.lines ∙ (ap (λ z. log ++ given_lines number z) s.4 ∙ sym q.lines),
        s.1,
        s.2,
      ))
