-- The work of a turn on any single operation, or call, that is no destruction: what is left of it, and what that comes to.
use Rattle.std.proofs.Common.{◌≡◌, ◌⊎◌, ℕ, ◌<◌, Bool, List, [], ◌++◌, length, Option, Some, None, Result, Ok, Err, refl, sym, ◌∙◌, subst, inl, inr}
use Rattle.std.proofs.lemmas.List.{append-nil}
use Rattle.xp_words.specs.declared.ops.Call.{Call}
use Rattle.xp_words.specs.declared.ops.Call.TheVariants as calls
use Rattle.xp_words.specs.declared.ops.ExtOp.{ExtOp}
use Rattle.xp_words.specs.declared.ops.Pair.{Pair}
use Rattle.xp_words.specs.declared.reply.LogLine.{LogLine}
use Rattle.xp_words.specs.declared.reply.Refusal.TheVariants.{BadCommand}
use Rattle.xp_words.specs.declared.reply.Stop.{Stop}
use Rattle.xp_board.specs.Told.{PortValue}
use Rattle.foreign_map.specs.declared.owners.Owners.{Owners}
use Rattle.step_maker.specs.Holds.{Rests}
use Rattle.step_maker.specs.Moves.{Came}
use Rattle.step_maker.proofs.Coming.{came_trans}
use Rattle.mmu_update.specs.Elements as pairs
use Rattle.mmu_update.specs.Fits.{Updates}
use Rattle.course_laws.proofs.Awaiting.{NeitherLostNorBusy}
use Rattle.script_law.specs.Elements.{ext_alone, pair_alone}
use Rattle.script_law.specs.Scripts.{Answered, call_alone, extents, listed, once, owned_pairs, refused, single}
use Rattle.script_law.specs.Values.{Solo}
use Rattle.script_law.specs.Walks.{map_word, read_at, write_at}
use Rattle.solo_accesses.specs.Accesses.{with_zero}
use Rattle.solo_pins.proofs.Meaning.{Laws}
use Rattle.solo_ports.specs.Standing.{IsSettled, Owes, Stands, StaysAlike, whose}
use Rattle.vcpu_turn.specs.Cpus.{Task, OfPairs, OfExt, OfMem, OfMapping, OfDescriptors, OfRead, OfWrite, begun_at, task_in}
use Rattle.vcpu_turn.specs.Extents.{given_lines}
use Rattle.vcpu_turn.specs.Mappings.{DropsBehind, UpdatesWord}
use Rattle.vcpu_turn.specs.Working.{WentOn, gave_of, valued}
use Rattle.vcpu_turn.specs.declared.cpu.Progress.{Progress}
use Rattle.script_laws.proofs.Dropping.{drops}
use Rattle.script_laws.proofs.ExtLaws.{KeepsExt, ext_keeping, ext_law}
use Rattle.script_laws.proofs.Extending.{ExtGoing, ext_work}
use Rattle.script_laws.proofs.Extents.{ExtentLaw, extents_work}
use Rattle.script_laws.proofs.Items.{IsAhead, IsKeeping, LawOf, OwesF}
use Rattle.script_laws.proofs.Listed.{KeptIn}
use Rattle.script_laws.proofs.Pairing.{PairsGoing, pairs_work}
use Rattle.script_laws.proofs.Premises.{FairFrom, fair_on}
use Rattle.script_laws.proofs.Single.{MapGoing, descriptors_work, map_work, read_work, unbuilt_work, write_work}
use Rattle.script_laws.proofs.Tasks.{Begins, Comes, ExtentsGoing, Lives, MayName, OwesT, descriptors_alone, own, owners_of}
use Rattle.script_laws.proofs.Knowing.{ShownLaws}

zeroed : (r : Result (Unit {0}) Stop) → valued r ≡ with_zero r
zeroed (Ok done) = refl
zeroed (Err e) = refl

-- ---- the laws of elements
-- those of pairs keep what was paused so; updates by address are never paused
pub record Elements (l : Laws) (neither : NeitherLostNorBusy) (v0 : PortValue) : Type 1 where
  pub KeepsPair : Owners → Pair → PortValue → Solo → Type 0
  pub pair_keeping : (foreign : ℕ) (p : Pair) → IsKeeping l.stays neither v0 (MayName l.stays neither v0 foreign) (KeepsPair (owners_of l.stays neither v0 foreign) p)
  pub pair_law : (foreign : ℕ) (p : Pair) →
      LawOf l.stays neither v0 (MayName l.stays neither v0 foreign) (λ v w asked r. Updates (owners_of l.stays neither v0 foreign) (pairs.element_of p) v w asked r) (KeepsPair (owners_of l.stays neither v0 foreign) p) (pair_alone (own l.stays neither v0) (owners_of l.stays neither v0 foreign) p)
  pub map_law : (foreign va word flags : ℕ) → LawOf l.stays neither v0 (Lives l.stays neither v0) (λ v w asked r. UpdatesWord (whose v0).domain foreign va word flags v w asked r) (λ u s. ⊥) (map_word (own l.stays neither v0) foreign va word flags)
  pub extent_law : ExtentLaw
  pub shown : ShownLaws

module _ (l : Laws) (neither : NeitherLostNorBusy) (v0 : PortValue) (real : (whose v0).domain < length v0.post.machine.page_limit) (e : Elements l neither v0) where
  pub dropped : (va flags : ℕ) (u w : PortValue) (s : Solo) (r : Result (Unit {0}) Stop) → Came v0 u → Stands u s → FairFrom v0 w → DropsBehind (whose v0).domain flags va u w r → (r ≡ Ok tt) × StaysAlike u w
  dropped va flags u w s r came stands fair drops_it = drops l.stays neither l.nobody v0 (whose v0).domain flags va u w s r stands (fair_on v0 u w came fair).fair drops_it

  -- ---- what it comes to at once
  abbrev pub plain_task : Option Task → ℕ → Solo → Answered
  plain_task None call s = refused BadCommand s
  plain_task (Some (OfPairs foreign list)) call s = owned_pairs (whose v0) foreign list s
  plain_task (Some (OfExt list)) call s = listed (ext_alone (whose v0)) list s
  plain_task (Some (OfMem command order items)) call s = extents (whose v0) call command order items s
  plain_task (Some (OfMapping foreign va word flags)) call s = single (map_word (whose v0) foreign va word flags s)
  plain_task (Some (OfDescriptors t)) call s = single (descriptors_alone l.stays neither v0 t s)
  plain_task (Some (OfRead user va)) call s = once (read_at (whose v0).machine user va s)
  plain_task (Some (OfWrite user va val)) call s = once (write_at (whose v0).machine user va val s)

  pub call_plain : (c : Call) (n : ℕ) (s : Solo) → call_alone (whose v0) n c s ≡ plain_task (task_in c) n s
  call_plain (calls.Mmu foreign pairs) n s = refl
  call_plain (calls.Ext list) n s = refl
  call_plain (calls.Va va word flags) n s = refl
  call_plain (calls.VaOther va word flags domain) n s = refl
  call_plain (calls.Gdt entries frames) n s = refl
  call_plain (calls.Desc address word) n s = refl
  call_plain (calls.Mem command order items) n s = refl

  -- ---- what is left of it
  abbrev pub TaskGoing : Option Task → ℕ → ℕ → Progress → List LogLine → PortValue → Answered → Type 0
  TaskGoing None op call at made v b = Begins l.stays neither v0 made v b (λ s. refused BadCommand s)
  TaskGoing (Some (OfPairs foreign list)) op call at made v b = PairsGoing l.stays neither v0 e.KeepsPair e.pair_keeping e.pair_law real op foreign list at made v b
  TaskGoing (Some (OfExt list)) op call at made v b = ExtGoing l.stays neither v0 (KeepsExt l neither v0) (ext_keeping l neither v0) (ext_law l neither v0 e.shown) op list at made v b
  TaskGoing (Some (OfMem command order items)) op call at made v b = ExtentsGoing l.stays neither v0 op call command order items at made v b
  TaskGoing (Some (OfMapping foreign va word flags)) op call at made v b = MapGoing l.stays neither v0 op foreign va word flags (e.map_law foreign va word flags) (dropped va flags) at made v b
  TaskGoing (Some (OfDescriptors t)) op call at made v b = Begins l.stays neither v0 made v b (λ s. single (descriptors_alone l.stays neither v0 t s))
  TaskGoing (Some (OfRead user va)) op call at made v b = Begins l.stays neither v0 made v b (λ s. once (read_at (whose v0).machine user va s))
  TaskGoing (Some (OfWrite user va val)) op call at made v b = Begins l.stays neither v0 made v b (λ s. once (write_at (whose v0).machine user va val s))

  pub task_begins : (task : Option Task) (op call answered : ℕ) (v : PortValue) (s : Solo) → OwesT l.stays neither v0 v s → TaskGoing task op call (begun_at answered) [] v (plain_task task call s)
  task_begins None op call k v s owes = record { value = s; owes = owes; nothing = refl; is = refl }
  task_begins (Some (OfPairs foreign list)) op call k v s owes = inl (record { value = s; owes = owes; nothing = refl; is = refl }, refl)
  task_begins (Some (OfExt list)) op call k v s owes = inl (record { value = s; owes = owes; nothing = refl; is = refl }, refl)
  task_begins (Some (OfMem command order items)) op call k v s owes = inl (record { value = s; owes = owes; nothing = refl; is = refl }, refl, refl)
  task_begins (Some (OfMapping foreign va word flags)) op call k v s owes = record { value = s; owes = owes; nothing = refl; unset = refl; is = refl }
  task_begins (Some (OfDescriptors t)) op call k v s owes = record { value = s; owes = owes; nothing = refl; is = refl }
  task_begins (Some (OfRead user va)) op call k v s owes = record { value = s; owes = owes; nothing = refl; is = refl }
  task_begins (Some (OfWrite user va val)) op call k v s owes = record { value = s; owes = owes; nothing = refl; is = refl }

  -- ---- the work of a turn
  abbrev pub TaskComes : Option Task → ℕ → ℕ → Progress → List LogLine → PortValue → Answered → Result ℕ Stop → Type 0
  TaskComes task op call to made w b r = Comes l.stays neither v0 (λ to made w. TaskGoing task op call to made w b) op to made w b r

  -- it has logged nothing of its own
  none_made : (task : Option Task) (op call : ℕ) (to : Progress) (log log' made : List LogLine) (w : PortValue) (b : Answered) (r : Result ℕ Stop) → log' ≡ log ++ [] → TaskComes task op call to made w b r → (new : List LogLine) × (log' ≡ log ++ new) × TaskComes task op call to (made ++ new) w b r
  none_made task op call to log log' made w b r is comes = ([], is, subst (λ ls. TaskComes task op call to ls w b r) (sym (append-nil made)) comes)

  pub task_work : (task : Option Task) (op call : ℕ) (at to : Progress) (made log log' : List LogLine) (v w : PortValue) (b : Answered) (asked : List Bool) (r : Result ℕ Stop) → WentOn (whose v0).domain task (record { op = op; call = call }) v at to w log log' asked r → FairFrom v0 w → Rests v → IsSettled v →
      TaskGoing task op call at made v b → (new : List LogLine) × (log' ≡ log ++ new) × TaskComes task op call to (made ++ new) w b r
  task_work None op call at to made log log' v w b asked r went fair rests settled g = none_made None op call to log log' made w b r went.lines (unbuilt_work l.stays neither v0 op to made v w b asked r (λ to made w. TaskGoing None op call to made w b) went.works g)
  task_work (Some (OfPairs foreign list)) op call at to made log log' v w b asked r went fair rests settled g =
      none_made (Some (OfPairs foreign list)) op call to log log' made w b r went.lines
      (subst (λ y. TaskComes (Some (OfPairs foreign list)) op call to made w b y) (sym went.works.answer_is)
      (pairs_work l.stays neither v0 e.KeepsPair e.pair_keeping e.pair_law real op foreign list at to made v w b asked went.works.ended at.done to.done refl refl went.works.works fair g))
  task_work (Some (OfExt list)) op call at to made log log' v w b asked r went fair rests settled g =
      none_made (Some (OfExt list)) op call to log log' made w b r went.lines
      (subst (λ y. TaskComes (Some (OfExt list)) op call to made w b y) (sym went.works.answer_is) (ext_work l.stays neither v0 (KeepsExt l neither v0) (ext_keeping l neither v0) (ext_law l neither v0 e.shown) op list at.done at.awaited at to made v w b asked went.works.ended refl went.works.works fair g))
  task_work (Some (OfMem command order items)) op call at to made log log' v w b asked r went fair rests settled g = (
    given_lines (record { op = op; call = call }) (gave_of (whose v0).domain (Some (OfMem command order items)) at.awaited v at.done to.done w asked r went.works),
    went.lines,
    subst (λ y. TaskComes (Some (OfMem command order items)) op call to (made ++ given_lines (record { op = op; call = call }) (gave_of (whose v0).domain (Some (OfMem command order items)) at.awaited v at.done to.done w asked r went.works)) w b y) (sym went.works.answer_is)
        (extents_work l.stays neither v0 e.extent_law e.shown op call command order items at to made v w b asked went.works.ended went.works.works went.within fair rests settled g),
  )
  task_work (Some (OfMapping foreign va word flags)) op call at to made log log' v w b asked r went fair rests settled g =
      none_made (Some (OfMapping foreign va word flags)) op call to log log' made w b r went.lines
      (subst (λ y. TaskComes (Some (OfMapping foreign va word flags)) op call to made w b y) (sym went.works.answer_is)
      (map_work l.stays neither v0 op foreign va word flags (e.map_law foreign va word flags) (dropped va flags) at.awaited at to made v w b asked went.works.ended at.done to.done refl refl went.works.works fair g))
  task_work (Some (OfDescriptors t)) op call at to made log log' v w b asked r went fair rests settled g =
      none_made (Some (OfDescriptors t)) op call to log log' made w b r went.lines
      (subst (λ y. TaskComes (Some (OfDescriptors t)) op call to made w b y) (sym went.works.answer_is) (descriptors_work l.stays neither v0 op l.nobody e.shown t to made v w b asked went.works.ended went.works.works fair rests settled g))
  task_work (Some (OfRead user va)) op call at to made log log' v w b asked r went fair rests settled g = none_made (Some (OfRead user va)) op call to log log' made w b r went.lines (read_work l.stays neither v0 op user va to made v w b asked r went.works fair rests settled (λ to made w. TaskGoing (Some (OfRead user va)) op call to made w b) g)
  task_work (Some (OfWrite user va val)) op call at to made log log' v w b asked r went fair rests settled g =
      none_made (Some (OfWrite user va val)) op call to log log' made w b r went.lines
      (subst (λ y. TaskComes (Some (OfWrite user va val)) op call to made w b y) (sym (went.works.answer_is ∙ zeroed went.works.ended)) (write_work l.stays neither v0 op user va val to made v w b asked went.works.ended went.works.works fair rests settled (λ to made w. TaskGoing (Some (OfWrite user va val)) op call to made w b) g))

  -- ---- along steps that keep what is owed and what is kept
  pub record Moving (v w : PortValue) : Type 1 where
    pub came : Came v w
    pub owes : (s : Solo) → Owes v s → Owes w s
    pub kept : (Good : Solo → Type 0) (K : PortValue → Solo → Type 0) → IsKeeping l.stays neither v0 Good K → (s : Solo) → K v s → K w s

  ahead_moved : (Good : Solo → Type 0) (v w : PortValue) (s : Solo) → Came v w → IsAhead l.stays neither v0 Good v s → IsAhead l.stays neither v0 Good w s
  ahead_moved Good v w s on a = record { came = came_trans v0 v w a.came on; good = a.good }

  pub owes_moved : (Good : Solo → Type 0) (v w : PortValue) (s : Solo) → Moving v w → OwesF l.stays neither v0 Good v s → OwesF l.stays neither v0 Good w s
  owes_moved Good v w s m owes = record { ahead = ahead_moved Good v w s m.came owes.ahead; owes = m.owes s owes.owes }

  begins_moved : (made : List LogLine) (v w : PortValue) (b : Answered) (plain : Solo → Answered) → Moving v w → Begins l.stays neither v0 made v b plain → Begins l.stays neither v0 made w b plain
  begins_moved made v w b plain m g = record { value = g.value; owes = owes_moved (Lives l.stays neither v0) v w g.value m g.owes; nothing = g.nothing; is = g.is }

  pairs_moved : (foreign : ℕ) (list : List Pair) (at : Progress) (v w : PortValue) (t : Solo) → Moving v w → OwesF l.stays neither v0 (MayName l.stays neither v0 foreign) v t ⊎ KeptIn l.stays neither v0 (MayName l.stays neither v0 foreign) list (e.KeepsPair (owners_of l.stays neither v0 foreign)) at.done v t →
      OwesF l.stays neither v0 (MayName l.stays neither v0 foreign) w t ⊎ KeptIn l.stays neither v0 (MayName l.stays neither v0 foreign) list (e.KeepsPair (owners_of l.stays neither v0 foreign)) at.done w t
  pairs_moved foreign list at v w t m (inl owes) = inl (owes_moved (MayName l.stays neither v0 foreign) v w t m owes)
  pairs_moved foreign list at v w t m (inr kept) =
      inr (record { ahead = ahead_moved (MayName l.stays neither v0 foreign) v w t m.came kept.ahead; element = kept.element; at = kept.at; kept = m.kept (MayName l.stays neither v0 foreign) (e.KeepsPair (owners_of l.stays neither v0 foreign) kept.element) (e.pair_keeping foreign kept.element) t kept.kept })

  ext_moved : (list : List ExtOp) (at : Progress) (v w : PortValue) (t : Solo) → Moving v w → OwesT l.stays neither v0 v t ⊎ KeptIn l.stays neither v0 (Lives l.stays neither v0) list (KeepsExt l neither v0) at.done v t → OwesT l.stays neither v0 w t ⊎ KeptIn l.stays neither v0 (Lives l.stays neither v0) list (KeepsExt l neither v0) at.done w t
  ext_moved list at v w t m (inl owes) = inl (owes_moved (Lives l.stays neither v0) v w t m owes)
  ext_moved list at v w t m (inr kept) =
      inr (record { ahead = ahead_moved (Lives l.stays neither v0) v w t m.came kept.ahead; element = kept.element; at = kept.at; kept = m.kept (Lives l.stays neither v0) (KeepsExt l neither v0 kept.element) (ext_keeping l neither v0 kept.element) t kept.kept })

  pub task_moved : (task : Option Task) (op call : ℕ) (at : Progress) (made : List LogLine) (v w : PortValue) (b : Answered) → Moving v w → TaskGoing task op call at made v b → TaskGoing task op call at made w b
  task_moved None op call at made v w b m g = begins_moved made v w b _ m g
  task_moved (Some (OfPairs foreign list)) op call at made v w b m (inl g) = inl (begins_moved made v w b _ m g.0, g.1)
  task_moved (Some (OfPairs foreign list)) op call at made v w b m (inr g) =
      let t = g.stands.0 in
      inr (record { some = g.some; few = g.few; nothing = g.nothing; stands = (t, g.stands.1, pairs_moved foreign list at v w t m g.stands.2) })
  task_moved (Some (OfExt list)) op call at made v w b m (inl g) = inl (begins_moved made v w b _ m g.0, g.1)
  task_moved (Some (OfExt list)) op call at made v w b m (inr g) = inr (record { few = g.few; nothing = g.nothing; value = g.value; comes = g.comes; pending = ext_moved list at v w g.value m g.pending })
  task_moved (Some (OfMem command order items)) op call at made v w b m (inl g) = inl (begins_moved made v w b _ m g.0, g.1, g.2)
  task_moved (Some (OfMem command order items)) op call at made v w b m (inr g) =
      inr (record { checked = g.checked; some = g.some; value = g.value; owes = owes_moved (Lives l.stays neither v0) v w g.value m g.owes; begun = g.begun; within = g.within; most = g.most; lines = g.lines; made_are = g.made_are; is = g.is })
  task_moved (Some (OfMapping foreign va word flags)) op call at made v w b m g =
      record { value = g.value; owes = owes_moved (Lives l.stays neither v0) v w g.value m g.owes; nothing = g.nothing; unset = g.unset; is = g.is }
  task_moved (Some (OfDescriptors t)) op call at made v w b m g = begins_moved made v w b _ m g
  task_moved (Some (OfRead user va)) op call at made v w b m g = begins_moved made v w b _ m g
  task_moved (Some (OfWrite user va val)) op call at made v w b m g = begins_moved made v w b _ m g
