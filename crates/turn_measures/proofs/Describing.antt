-- Calls that are paused and take descriptor pages: the GDT, one descriptor, and a page of the LDT. No frame falls back.
use Rattle.std.proofs.Common.{◌≡◌, ◌≢◌, ℕ, ◌<◌, true, false, List, Option, Result, Ok, Err, IfErr, refl, sym, ◌∙◌, subst}
use Rattle.xp_words.specs.Machine.{Machine}
use Rattle.xp_words.specs.declared.kind.PageType.{PageType}
use Rattle.xp_words.specs.declared.reply.Pause.{Pause}
use Rattle.xp_words.specs.declared.reply.Pause.TheVariants.{Due, Lost, Busy, Flush, Alive}
use Rattle.xp_words.specs.declared.reply.Stop.{Stop}
use Rattle.xp_words.specs.declared.reply.Stop.TheVariants.{Refused, Paused}
use Rattle.xp_board.specs.Told.{PortValue, is_telling, told_word}
use Rattle.xp_board.proofs.KindForms.{frame_inside}
use Rattle.step_maker.proofs.Telling.{came_telling}
use Rattle.answer_laws.specs.Alone.{IsAlone}
use Rattle.desc_pages.specs.Descriptors as descriptors
use Rattle.desc_pages.specs.Descriptors.{DescriptorUpdated, StoredUnder, TookAs, UpdatesDescriptor}
use Rattle.desc_pages.specs.Gdt.{GdtSet, SetsGdt}
use Rattle.desc_pages.specs.Pages.{GotDesc, IsDescStop, TookDesc}
use Rattle.ldt_pages.specs.Touching as touching
use Rattle.ldt_pages.specs.Touching.{FoundPage, IsTouchStop, LdtTouched, TouchesLdt}
use Rattle.course_laws.proofs.Awaiting.{AloneStays}
use Rattle.frame_ranks.specs.Ranks.{AreAllAlive, GoesForward}
use Rattle.turn_measures.proofs.Forward.{comes_so}
use Rattle.turn_measures.proofs.Asides.{Passes, moves_passes, passes_then, ref_passes}
use Rattle.turn_measures.proofs.Calm.{IsCalm, calm_on, calm_telling}
use Rattle.step_maker.proofs.Coming.{same_machine}
use Rattle.turn_measures.proofs.Pages.{ComesBy, ComesFor, by_passes, for_from, took_page_for, unreferred_for}
use Rattle.turn_measures.proofs.Walking.{walk_never, walked_passes}

-- ---- the laws of desc_ranks
abbrev pub PageForward : Type 0
PageForward = (v w : PortValue) (f owner : ℕ) (x : Pause) → IsAlone v → AreAllAlive v.post.machine (told_word v) → f < v.post.machine.frames → TookDesc v f owner w (Err (Paused x)) → GoesForward v.post.machine (told_word v) (told_word w)

abbrev pub ReferredForward : Type 0
ReferredForward = (v w : PortValue) (f owner : ℕ) (x : Pause) → IsAlone v → AreAllAlive v.post.machine (told_word v) → GotDesc v f owner w (Err (Paused x)) → GoesForward v.post.machine (told_word v) (told_word w)

abbrev pub GdtForward : Type 0
GdtForward = (v w : PortValue) (entries : ℕ) (frames : List ℕ) (x : Pause) → IsAlone v → AreAllAlive v.post.machine (told_word v) → SetsGdt v entries frames w (Err (Paused x)) → GoesForward v.post.machine (told_word v) (told_word w)

pub record DescLaws : Type 0 where
  pub page : PageForward
  pub referred : ReferredForward
  pub gdt : GdtForward

-- ---- no gate pauses them
not_due : (x : Pause) → IsDescStop (Paused x) → x ≢ Due
not_due (Lost place expected found) kinds = λ e. cc
not_due (Busy f found) kinds = λ e. cc
not_due (Flush vcpu stamp found) kinds = λ e. cc
not_due Due kinds = absurd kinds
not_due (Alive vcpu found) kinds = absurd kinds

abbrev NotDue : {A : Type 0} → Result A Stop → Type 0
NotDue (Err (Paused x)) = x ≢ Due
NotDue _ = Unit {0}

module _ (n : Machine) (stays : AloneStays) (laws : DescLaws) where
  -- ---- the GDT
  pub gdt_for : (v w : PortValue) (entries : ℕ) (fs : List ℕ) (r : Result (Unit {0}) Stop) → IsCalm v → GdtSet v w entries fs r → ComesBy n r v w
  gdt_for v w entries fs (Ok done) calm a = tt
  gdt_for v w entries fs (Err (Refused x)) calm a = tt
  gdt_for v w entries fs (Err (Paused x)) calm a = λ un. comes_so v.post.machine x (told_word v) (told_word w) (not_due x a.kinds) (laws.gdt v w entries fs x calm.alone calm.alive a.course)

  -- ---- one page
  taken_for : (v w : PortValue) (f owner : ℕ) (r : Result (Unit {0}) Stop) → IsCalm v → f < v.post.machine.frames → NotDue r → TookDesc v f owner w r → ComesBy n r v w
  taken_for v w f owner (Ok done) calm real off took = tt
  taken_for v w f owner (Err (Refused x)) calm real off took = tt
  taken_for v w f owner (Err (Paused x)) calm real off took = λ un. comes_so v.post.machine x (told_word v) (told_word w) off (laws.page v w f owner x calm.alone calm.alive real took)

  got_for : (v w : PortValue) (f owner : ℕ) (e : Stop) → IsCalm v → IsTouchStop e → GotDesc v f owner w (Err e) → ComesFor n e v w
  got_for v w f owner (Refused x) calm kinds got = tt
  got_for v w f owner (Paused x) calm kinds got = λ un. comes_so v.post.machine x (told_word v) (told_word w) (not_due x kinds) (laws.referred v w f owner x calm.alone calm.alive got)

  -- ---- one descriptor
  as_for : (v : PortValue) (f owner : ℕ) (want : PageType) (w : PortValue) (r : Result (Unit {0}) Stop) → IsCalm v → f < v.post.machine.frames → NotDue r → TookAs v f owner want w r → ComesBy n r v w
  as_for v f owner _ _ _ calm real off (descriptors.TookAs.as_desc w r took) = taken_for v w f owner r calm real off took
  as_for v f owner _ _ _ calm real off (descriptors.TookAs.as_memory w r took) = took_page_for n v f owner w r (calm_telling v calm) calm.alive took

  under_for : (v : PortValue) (f owner i new : ℕ) (want : PageType) (w : PortValue) (r : Result (Unit {0}) Stop) → IsCalm v → NotDue r → StoredUnder v f owner i new want w r → ComesBy n r v w
  under_for v f owner i new want w _ calm off (descriptors.StoredUnder.untaken x found stop saw is took) =
      let p : Passes v x = moves_passes v x _ _ _ _ _ (calm_telling v calm) refl saw in
      let there = calm_on stays v x calm p in
      let real : f < x.post.machine.frames = subst (λ (k : Machine). f < k.frames) (sym (same_machine v x p.came)) (frame_inside v.post.machine f saw.may.place) in
      for_from n stop v x w p (as_for x f owner want w (Err stop) there real off took)
  under_for v f owner i new want w _ calm off (descriptors.StoredUnder.stored x y z found old saw is took stores gave) = tt

  updates_for : (v : PortValue) (address word : ℕ) (want : PageType) (w : PortValue) (r : Result (Unit {0}) Stop) → IsCalm v → NotDue r → UpdatesDescriptor v address word want w r → ComesBy n r v w
  updates_for v address word _ _ _ calm off (descriptors.UpdatesDescriptor.barred x is) = tt
  updates_for v address word _ _ _ calm off (descriptors.UpdatesDescriptor.unreferred w stop none ref) = unreferred_for n v w _ _ stop (calm_telling v calm) ref
  updates_for v address word _ _ _ calm off (descriptors.UpdatesDescriptor.unfixed u w none ref bad gave) = tt
  updates_for v address word _ _ _ calm off (descriptors.UpdatesDescriptor.referred u w new want answer none ref fixed under) =
      let p = ref_passes v u _ _ (calm_telling v calm) ref in
      by_passes n answer v u w p (under_for u _ _ _ new want w answer (calm_on stays v u calm p) off under)

  pub descriptor_for : (v w : PortValue) (address word : ℕ) (r : Result (Unit {0}) Stop) → IsCalm v → DescriptorUpdated v w address word r → ComesBy n r v w
  descriptor_for v w address word (Ok done) calm a = tt
  descriptor_for v w address word (Err (Refused x)) calm a = tt
  descriptor_for v w address word (Err (Paused x)) calm a = updates_for v address word a.want w (Err (Paused x)) calm (not_due x a.kinds) a.course

  -- ---- a page of the LDT
  page_passes : (v u : PortValue) (page base : ℕ) (b : _) (word : ℕ) → is_telling v ≡ true → FoundPage v u page base b word → Passes v u
  page_passes v u page base b word telling a =
      let p = moves_passes v a.seen _ _ _ _ _ telling refl a.based.looks in
      passes_then v a.seen u p (moves_passes a.seen u _ _ _ _ _ (came_telling v a.seen p.came ∙ telling) refl a.looks)

  touches_for : (v : PortValue) (page base : ℕ) (frame : Option ℕ) (w : PortValue) (r : Result (Unit {0}) Stop) → IsCalm v → IfErr r IsTouchStop → TouchesLdt v page base frame w r → ComesBy n r v w
  touches_for v page base _ _ _ calm kinds (touching.TouchesLdt.beyond w b found is) = tt
  touches_for v page base _ _ _ calm kinds (touching.TouchesLdt.held w b word found some) = tt
  touches_for v page base _ _ _ calm kinds (touching.TouchesLdt.touched u x y w b entry found walks got names) = tt
  touches_for v page base _ _ _ calm kinds (touching.TouchesLdt.unwalked u w b e found walks) = walk_never n e u w v false _ false walks.0
  touches_for v page base _ _ _ calm kinds (touching.TouchesLdt.untaken u x w b entry e found walks got) =
      let p = page_passes v u page base b 0 (calm_telling v calm) found in
      let q = walked_passes u x false _ false entry (came_telling v u p.came ∙ calm_telling v calm) walks in
      let all = passes_then v u x p q in
      for_from n e v x w all (got_for x w _ _ e (calm_on stays v x calm all) kinds got)

  pub ldt_for : (v w : PortValue) (page : ℕ) (r : Result (Unit {0}) Stop) → IsCalm v → LdtTouched v w page r → ComesBy n r v w
  ldt_for v w page r calm a = touches_for v page a.base a.frame w r calm a.kinds a.course
