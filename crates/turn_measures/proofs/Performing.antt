-- An element of `mmuext_op` that is paused: no frame falls back.
use Rattle.std.proofs.Common.{◌≡◌, ◌≢◌, ℕ, Bool, true, List, Option, Some, Result, Ok, Err, refl, sym, ◌∙◌, subst}
use Rattle.xp_words.specs.Machine.{Machine}
use Rattle.xp_words.specs.declared.reply.Pause.TheVariants.{Due}
use Rattle.xp_words.specs.declared.reply.Stop.{Stop}
use Rattle.xp_words.specs.declared.reply.Stop.TheVariants.{Refused, Paused}
use Rattle.xp_board.specs.Told.{PortValue, is_telling, told_word}
use Rattle.step_maker.specs.Moves.{Came}
use Rattle.step_maker.proofs.Coming.{came_trans}
use Rattle.step_maker.proofs.Telling.{came_telling}
use Rattle.step_maker.specs.Reasons.{Those, Whose}
use Rattle.flush_waits.specs.Listing.{WaitedFor}
use Rattle.flush_waits.specs.Waiting.{meant}
use Rattle.mmuext_ops.specs.Course as course
use Rattle.mmuext_ops.specs.Course.{FlushedLocal, Performed, PinEnds, Pinned, SawKind, Unpinned, WaitedForVcpus, stamp_for}
use Rattle.mmuext_ops.specs.declared.element.Element.{Element}
use Rattle.mmuext_ops.specs.declared.element.Element.TheVariants.{Pin, Unpin, NewBase, NewUserBase, FlushLocal, Invalidate, FlushVcpus, SetLdt, ClearPage, CopyPage, Unknown}
use Rattle.table_bases.specs.Asking.{user_frame}
use Rattle.table_bases.specs.Course as bases
use Rattle.table_bases.specs.Course.{SetsBase}
use Rattle.table_bases.specs.declared.words.Base.{Base}
use Rattle.table_bases.specs.declared.words.Base.TheVariants.{Kernel, User}
use Rattle.table_entries.specs.Acquiring.{GaveRef, GotRef}
use Rattle.table_entries.proofs.Shared.{ref_came}
use Rattle.desc_pages.specs.Ldt as ldt
use Rattle.desc_pages.specs.Ldt.{SetsLdt}
use Rattle.whole_pages.specs.Whole as whole
use Rattle.whole_pages.specs.Whole.{ClearsPage, CopiesPage}
use Rattle.writable_pages.specs.Pages as pages
use Rattle.writable_pages.specs.Pages.{GotPage}
use Rattle.writable_pages.proofs.TakenWords.{page_came}
use Rattle.course_laws.proofs.Awaiting.{AloneStays}
use Rattle.turn_measures.proofs.Forward.{comes_so, still_forward}
use Rattle.turn_measures.proofs.Asides.{Passes, does_passes, does_tells, gave_passes, moves_passes, passes_then, ref_passes, waited_aside}
use Rattle.turn_measures.proofs.Calm.{AcquiredForward, AcquiredFurther, IsCalm, calm_on, calm_telling}
use Rattle.turn_measures.proofs.Pages.{ComesBy, ComesFor, acquired_for, for_from, is_lost, never_for, page_for, unreferred_for}

module _ (n : Machine) (stays : AloneStays) (forward : AcquiredForward) (further : AcquiredFurther) where
  -- ---- pins
  -- a look at the frame under a reference of its own
  looked : (v a b c : PortValue) (d f x : ℕ) → is_telling v ≡ true → GotRef v a f d (Ok f) → SawKind a b f x → GaveRef b c f → Passes v c
  looked v a b c d f x telling ref saw gave =
      let p = ref_passes v a f d telling ref in
      let q = moves_passes a b _ _ _ _ _ (came_telling v a p.came ∙ telling) refl saw in
      let r = passes_then v a b p q in
      passes_then v b c r (gave_passes b c f (came_telling v b r.came ∙ telling) gave)

  pin_ends_for : (v e w : PortValue) (f level : ℕ) (r : Result (Unit {0}) Stop) → PinEnds e w f level r → ComesBy n r v w
  pin_ends_for v e w f level _ (course.PinEnds.pinned u x saw off sets) = tt
  pin_ends_for v e w f level _ (course.PinEnds.seen u x saw on gives) = tt
  pin_ends_for v e w f level _ (course.PinEnds.raced u y x found saw off sets other on gives) = tt
  pin_ends_for v e w f level _ (course.PinEnds.lost u y x found saw off sets other none gives) = never_for n _ v w (λ p is un. is_lost n p _ x found is un)

  pinned_for : (v w : PortValue) (d f level : ℕ) (answers : List Bool) (r : Result (Unit {0}) Stop) → IsCalm v → Pinned v w d f level answers r → ComesBy n r v w
  pinned_for v w d f level _ _ calm (course.Pinned.unreferred stop ref) = unreferred_for n v w f d stop (calm_telling v calm) ref
  pinned_for v w d f level _ _ calm (course.Pinned.pinned_before a b x ref saw gave is) = tt
  pinned_for v w d f level _ _ calm (course.Pinned.refused a b c x answers stop ref saw gave off had) =
      let p = looked v a b c d f x (calm_telling v calm) ref saw gave in
      for_from n stop v c w p (acquired_for n forward further c w f d level answers stop (calm_on stays v c calm p) had)
  pinned_for v w d f level _ _ calm (course.Pinned.acquired a b c e x answers answer ref saw gave off had ending) = pin_ends_for v e w f level answer ending

  unpinned_for : (v w : PortValue) (d f : ℕ) (answers : List Bool) (r : Result (Unit {0}) Stop) → IsCalm v → Unpinned v w d f answers r → ComesBy n r v w
  unpinned_for v w d f _ _ calm (course.Unpinned.unreferred stop ref) = unreferred_for n v w f d stop (calm_telling v calm) ref
  unpinned_for v w d f _ _ calm (course.Unpinned.unpinned_before a b x ref saw off gave) = tt
  unpinned_for v w d f _ _ calm (course.Unpinned.raced a b c x found ref saw on takes other off gave) = tt
  unpinned_for v w d f _ _ calm (course.Unpinned.lost a b c x found ref saw on takes other off gave) = never_for n _ v w (λ p is un. is_lost n p _ x found is un)
  unpinned_for v w d f _ _ calm (course.Unpinned.released a b c e x answers answer ref saw on takes gave released due) = tt

  -- ---- bases
  base_for : (v w : PortValue) (base : Base) (new : Option ℕ) (answers : List Bool) (r : Result (Unit {0}) Stop) → IsCalm v → SetsBase v w base new answers r → ComesBy n r v w
  base_for v w base _ _ _ calm (bases.SetsBase.spent new saw) = tt
  base_for v w base _ _ _ calm (bases.SetsBase.unacquired a f clock answers stop saw off had) =
      let p = moves_passes v a _ _ _ _ _ (calm_telling v calm) refl saw in
      for_from n stop v a w p (acquired_for n forward further a w f _ 4 answers stop (calm_on stays v a calm p) had)
  base_for v w base _ _ _ calm (bases.SetsBase.installed a b clock new answers more saw off acquires installs) = tt

  -- ---- flushes
  local_for : (v w : PortValue) (answers : List Bool) (r : Result (Unit {0}) Stop) → FlushedLocal v w answers r → ComesBy n r v w
  local_for v w _ _ (course.FlushedLocal.flushed steps out) = tt
  local_for v w _ _ (course.FlushedLocal.spent steps same) = tt

  waited_for : (v w : PortValue) (mask : ℕ) (awaited : Option ℕ) (answers : List Bool) (r : Result (Unit {0}) Stop) → IsCalm v → WaitedForVcpus v w mask awaited answers r → ComesBy n r v w
  waited_for v w mask awaited answers (Ok done) calm a = tt
  waited_for v w mask awaited answers (Err (Refused x)) calm a = tt
  waited_for v w mask awaited answers (Err (Paused x)) calm a =
      let whose : Whose = Those (meant v.post.machine v.post.vcpu mask) in
      let stamp = stamp_for awaited a.clock in
      let p = moves_passes v a.looked _ _ _ _ _ (calm_telling v calm) refl a.looks in
      let telling = came_telling v a.looked p.came ∙ calm_telling v calm in
      let q = does_passes a.looked w (λ vs. WaitedFor v.post whose stamp (Err (Paused x)) vs) telling (waited_aside v.post whose stamp (Err (Paused x))) a.waits in
      let t = does_tells a.looked w (λ vs. WaitedFor v.post whose stamp (Err (Paused x)) vs) a.waits telling in
      let off : x ≢ Due = λ due. subst (λ y. WaitedFor v.post whose stamp (Err (Paused y)) t.list) due t.is in
      λ un. comes_so v.post.machine x (told_word v) (told_word w) off (still_forward v.post.machine (told_word v) (told_word w) (passes_then v a.looked w p q).still)

  -- ---- whole pages
  clear_for : (v : PortValue) (d f : ℕ) (w : PortValue) (r : Result (Unit {0}) Stop) → IsCalm v → ClearsPage v d f w r → ComesBy n r v w
  clear_for v d f _ _ calm (whole.ClearsPage.unhad w e got) = page_for n v f d w (Err e) (calm_telling v calm) calm.alive got
  clear_for v d f _ _ calm (whole.ClearsPage.cleared a b w got steps gave) = tt

  got_came : (v : PortValue) (f owner : ℕ) (w : PortValue) (g : ℕ) → GotPage v f owner w (Ok g) → Came v w
  got_came v f owner _ _ (pages.GotPage.had u w ref took) = came_trans v u w (ref_came v u f owner _ ref) (page_came u w f owner took)

  unreferred_by : (v a b w : PortValue) (f owner : ℕ) (e : Stop) → is_telling a ≡ true → GotRef a b f owner (Err e) → ComesFor n e v w
  unreferred_by v a b w f owner (Refused x) telling ref = tt
  unreferred_by v a b w f owner (Paused x) telling ref = absurd (ref.plain telling)

  copy_for : (v : PortValue) (d to from : ℕ) (words : List ℕ) (w : PortValue) (r : Result (Unit {0}) Stop) → IsCalm v → CopiesPage v d to from words w r → ComesBy n r v w
  copy_for v d to from words _ _ calm (whole.CopiesPage.unhad w e got) = page_for n v to d w (Err e) (calm_telling v calm) calm.alive got
  copy_for v d to from words _ _ calm (whole.CopiesPage.unreferred a b w e got ref gave) = unreferred_by v a b w from d e (came_telling v a (got_came v to d a to got) ∙ calm_telling v calm) ref
  copy_for v d to from words _ _ calm (whole.CopiesPage.copied a b c e w all got ref steps back gave) = tt

  -- ---- the LDT
  table_for : (v : PortValue) (address entries : ℕ) (w : PortValue) (r : Result (Unit {0}) Stop) → SetsLdt v address entries w r → ComesBy n r v w
  table_for v address entries _ _ (ldt.SetsLdt.barred x is) = tt
  table_for v address entries _ _ (ldt.SetsLdt.set u w old none names stores) = tt

  -- ---- one element
  pub performed_for : (v w : PortValue) (d : ℕ) (e : Element) (awaited : Option ℕ) (answers : List Bool) (r : Result (Unit {0}) Stop) → IsCalm v → Performed v w d e awaited answers r → ComesBy n r v w
  performed_for v w d (Pin f level) awaited answers r calm a = pinned_for v w d f level answers r calm a
  performed_for v w d (Unpin f) awaited answers r calm a = unpinned_for v w d f answers r calm a
  performed_for v w d (NewBase f) awaited answers r calm a = base_for v w Kernel (Some f) answers r calm a
  performed_for v w d (NewUserBase f) awaited answers r calm a = base_for v w User (user_frame f) answers r calm a
  performed_for v w d FlushLocal awaited answers r calm a = local_for v w answers r a
  performed_for v w d (Invalidate va) awaited answers r calm a = subst (λ x. ComesBy n x v w) (sym a.done) tt
  performed_for v w d (FlushVcpus mask) awaited answers r calm a = waited_for v w mask awaited answers r calm a
  performed_for v w d (SetLdt address entries) awaited answers r calm a = table_for v address entries w r a.1
  performed_for v w d (ClearPage f) awaited answers r calm a = clear_for v d f w r calm a.1
  performed_for v w d (CopyPage to from) awaited answers r calm a = copy_for v d to from a.1.0 w r calm a.1.1
  performed_for v w d Unknown awaited answers r calm a = subst (λ x. ComesBy n x v w) (sym a.2) tt
