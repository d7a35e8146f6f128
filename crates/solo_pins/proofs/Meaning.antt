-- All elements that are about tables or flushes.
use Rattle.std.proofs.Common.{◌≡◌, ◌⊎◌, ℕ, ◌≤◌, List, Bool, Option, Some, None, Result, Ok, Err, refl, subst, inl, inr, arith}
use Rattle.xp_words.specs.Machine.{Machine}
use Rattle.xp_words.specs.declared.reply.Stop.{Stop}
use Rattle.xp_board.specs.Told.{PortValue}
use Rattle.step_maker.specs.Answers.{Deed, Serves}
use Rattle.table_bases.specs.declared.words.Base.TheVariants.{Kernel, User}
use Rattle.step_maker.specs.Holds.{Rests}
use Rattle.table_bases.specs.declared.words.Base.{Base}
use Rattle.table_bases.specs.Course.{SetsBase}
use Rattle.table_bases.specs.Holding.{base_number}
use Rattle.script_law.specs.Frames.{set_base}
use Rattle.table_bases.specs.Asking.{LeavesBase, ServesBase, base_request, user_frame}
use Rattle.mmuext_ops.specs.Elements.{HasDeeds, ServesElement, copied, ext_deeds, raced_pin, raced_unpin, told}
use Rattle.mmuext_ops.specs.declared.element.Element.{Element}
use Rattle.mmuext_ops.specs.declared.element.Element.TheVariants.{Pin, Unpin, NewBase, NewUserBase, FlushLocal, Invalidate, FlushVcpus, SetLdt, ClearPage, CopyPage, Unknown}
use Rattle.course_laws.proofs.Awaiting.{AloneStays, NobodyWaitedFor}
use Rattle.script_law.specs.Elements.{performed}
use Rattle.script_law.specs.Values.{Solo}
use Rattle.solo_ports.specs.Coming.{Comes}
use Rattle.solo_ports.specs.Standing.{Clean, Fair, IsSettled, KeepsTable, whose}
use Rattle.solo_pins.specs.Performing.{IsOnTables, IsPerformed, KeepsPin, KeepsTop}
use Rattle.solo_pins.proofs.Basing.{Starts, sets_base}
use Rattle.solo_pins.proofs.Beginning.{begins_clean, begins_kept}
use Rattle.solo_pins.proofs.Flushing.{flushes, invalidates, unknown, waits}
use Rattle.solo_pins.proofs.Given.{CallsTelling, FirstComes, FoundDead, HadSpares, LaterComes, LeavesKept, PausedReleaseLeaves, ReleaseLeaves}
use Rattle.solo_pins.proofs.Pins.{pins_clean, pins_kept}
use Rattle.solo_pins.proofs.Unpinning.{unpins}

-- ---- what a guest sees of a new base
abbrev IsBase : Element → Type 0
IsBase (NewBase f) = Unit {0}
IsBase (NewUserBase f) = Unit {0}
IsBase _ = ⊥

deeds_are : (n : Machine) (s : ℕ) (e : Element) (answer : Result (Unit {0}) Stop) (ds : List Deed) → HasDeeds n s e answer ds → IsBase e → ds ≡ ext_deeds n s e answer
deeds_are n s _ _ _ (told e answer is) base = refl
deeds_are n s _ _ _ (copied to from words all) base = absurd base
deeds_are n s _ _ _ (raced_pin f level found) base = absurd base
deeds_are n s _ _ _ (raced_unpin f found) base = absurd base

serves_kernel : (v w : PortValue) (f : ℕ) (awaited : Option ℕ) (answer : Result (Unit {0}) Stop) → ServesElement v w (whose v).domain (NewBase f) awaited answer → ServesBase v w Kernel (Some f) answer
serves_kernel v w f awaited (Ok done) s = subst (Serves v w (base_request v (Some f) (Ok tt))) (deeds_are v.post.machine v.post.vcpu (NewBase f) (Ok tt) s.0 s.1 tt) s.2
serves_kernel v w f awaited (Err e) s = subst (Serves v w (base_request v (Some f) (Err e))) (deeds_are v.post.machine v.post.vcpu (NewBase f) (Err e) s.0 s.1 tt) s.2

serves_user : (v w : PortValue) (f : ℕ) (awaited : Option ℕ) (answer : Result (Unit {0}) Stop) → ServesElement v w (whose v).domain (NewUserBase f) awaited answer → ServesBase v w User (user_frame f) answer
serves_user v w f awaited (Ok done) s = subst (Serves v w (base_request v (user_frame f) (Ok tt))) (deeds_are v.post.machine v.post.vcpu (NewUserBase f) (Ok tt) s.0 s.1 tt) s.2
serves_user v w f awaited (Err e) s = subst (Serves v w (base_request v (user_frame f) (Err e))) (deeds_are v.post.machine v.post.vcpu (NewUserBase f) (Err e) s.0 s.1 tt) s.2

-- ---- the laws of acquisitions and releases
pub record Laws : Type 0 where
  pub stays : AloneStays
  pub nobody : NobodyWaitedFor
  pub release : ReleaseLeaves
  pub paused : PausedReleaseLeaves
  pub first : FirstComes
  pub later : LaterComes
  pub leaves : LeavesKept
  pub dead : FoundDead
  pub tells : CallsTelling
  pub spares : HadSpares

module _ (l : Laws) (v w : PortValue) (x : Solo) (awaited : Option ℕ) (answers : List Bool) (answer : Result (Unit {0}) Stop) (lives : x.lives ((whose v).domain) ≡ 0) (settled : IsSettled v) (fair : Fair v w) where
  abbrev d : ℕ
  d = (whose v).domain

  pub pin_comes : (f level : ℕ) → 1 ≤ level → level ≤ 4 → Clean v x ⊎ KeepsTable f (whose v).domain level v x → IsPerformed v w (whose v).domain (Pin f level) awaited answers answer → Comes (KeepsPin (Pin f level)) w x (performed (whose v) (Pin f level) x) answer
  pin_comes f level low high (inl clean) a = pins_clean l.stays l.first v w x f level awaited low high clean settled fair lives answers answer a a.course
  pin_comes f level low high (inr k) a = pins_kept l.stays l.later l.leaves l.dead l.tells v w x f level awaited low high k settled fair lives answers answer a a.course

  pub unpin_comes : (f : ℕ) → Clean v x → IsPerformed v w (whose v).domain (Unpin f) awaited answers answer → Comes (KeepsPin (Unpin f)) w x (performed (whose v) (Unpin f) x) answer
  unpin_comes f clean a = unpins l.stays l.release l.paused v w x f awaited clean settled answers answer a a.course

  -- ---- bases
  starts_clean : (new : Option ℕ) → Clean v x → Starts v w x new
  starts_clean (Some f) clean = begins_clean l.stays v w x d f 4 fair (omega arith) (omega arith) l.first clean
  starts_clean None clean = clean

  base_comes : (which : Base) (new : Option ℕ) → Clean v x ⊎ KeepsTop new v x → ServesBase v w which new answer → LeavesBase v w new answer → Rests w → SetsBase v w which new answers answer →
      Comes (KeepsTop new) w x (set_base v.post.machine (whose v).domain (base_number which) new x) answer
  base_comes which new (inl clean) serves hand rests a = sets_base l.stays l.release l.paused l.spares v w x which clean.stands clean.first settled fair lives new answers answer (starts_clean new clean) serves hand rests a
  base_comes which (Some f) (inr k) serves hand rests a =
      sets_base l.stays l.release l.paused l.spares v w x which k.stands k.first settled fair lives (Some f) answers answer (begins_kept l.stays v w x d f 4 fair (omega arith) (omega arith) l.later l.leaves l.tells k) serves hand rests a
  base_comes which None (inr k) serves hand rests a = absurd k

  pub kernel_comes : (f : ℕ) → Clean v x ⊎ KeepsPin (NewBase f) v x → IsPerformed v w (whose v).domain (NewBase f) awaited answers answer → Comes (KeepsPin (NewBase f)) w x (performed (whose v) (NewBase f) x) answer
  kernel_comes f start a = base_comes Kernel (Some f) start (serves_kernel v w f awaited answer a.serves) a.hand a.rests a.course

  pub user_comes : (f : ℕ) → Clean v x ⊎ KeepsPin (NewUserBase f) v x → IsPerformed v w (whose v).domain (NewUserBase f) awaited answers answer → Comes (KeepsPin (NewUserBase f)) w x (performed (whose v) (NewUserBase f) x) answer
  user_comes f start a = base_comes User (user_frame f) start (serves_user v w f awaited answer a.serves) a.hand a.rests a.course

  -- ---- where nothing of it can be kept
  clean_only : (e : Element) → Clean v x ⊎ KeepsPin e v x → (KeepsPin e v x → ⊥) → Clean v x
  clean_only e (inl clean) never = clean
  clean_only e (inr k) never = absurd (never k)

  pub element_comes : (e : Element) → IsOnTables e → Clean v x ⊎ KeepsPin e v x → IsPerformed v w (whose v).domain e awaited answers answer → Comes (KeepsPin e) w x (performed (whose v) e x) answer
  element_comes (Pin f level) on start a = pin_comes f level on.0 on.1 start a
  element_comes (Unpin f) on start a = unpin_comes f (clean_only (Unpin f) start (λ k. k)) a
  element_comes (NewBase f) on start a = kernel_comes f start a
  element_comes (NewUserBase f) on start a = user_comes f start a
  element_comes FlushLocal on start a = flushes l.stays l.nobody v w x d awaited answers (clean_only FlushLocal start (λ k. k)) settled fair answer a
  element_comes (Invalidate va) on start a = invalidates l.stays l.nobody v w x d awaited answers (clean_only (Invalidate va) start (λ k. k)) settled fair va answer a
  element_comes (FlushVcpus mask) on start a = waits l.stays l.nobody v w x d awaited answers (clean_only (FlushVcpus mask) start (λ k. k)) settled fair mask answer a
  element_comes (SetLdt address entries) on start a = absurd on
  element_comes (ClearPage f) on start a = absurd on
  element_comes (CopyPage to from) on start a = absurd on
  element_comes Unknown on start a = unknown l.stays l.nobody v w x d awaited answers (clean_only Unknown start (λ k. k)) settled fair answer a
