-- Updates by address: the entry, the translations that are dropped behind it, and the wait.
use Rattle.std.specs.Result.{IsErrAnd}
use Rattle.std.proofs.Common.{◌≡◌, ℕ, ◌%◌, Bool, true, false, [], Option, Some, None, Result, Ok, Err, IfErr, refl, sym, ◌∙◌, subst}
use Rattle.xp_words.specs.declared.reply.Pause.TheVariants as pauses
use Rattle.xp_words.specs.declared.reply.Stop.{Stop}
use Rattle.xp_words.specs.declared.reply.Stop.TheVariants.{Refused, Paused}
use Rattle.xp_board.specs.Told.{PortValue}
use Rattle.xp_preempt.specs.Gates.{Gate, GatedPast}
use Rattle.xp_preempt.proofs.Consulting.{past_as, past_none}
use Rattle.step_maker.specs.Holds.{FlushedSame, Rests}
use Rattle.step_maker.specs.Answers.{Stops}
use Rattle.step_maker.proofs.Piecing.{serves_came}
use Rattle.mmuext_ops.specs.Course.{FlushedLocal, Invalidated, WaitedForVcpus}
use Rattle.mmuext_ops.specs.Elements.{IsElementStop, KnowsAwaited, ServesElement, awaited_by, every_vcpu, ext_request}
use Rattle.mmuext_ops.specs.declared.element.Element.{Element}
use Rattle.mmuext_ops.specs.declared.element.Element.TheVariants.{FlushLocal, FlushVcpus, Invalidate}
use Rattle.vcpu_turn.specs.Ext.{Performs}
use Rattle.vcpu_turn.specs.Lists.{is_due_answer}
use Rattle.vcpu_turn.specs.Mappings as mapping
use Rattle.vcpu_turn.specs.Mappings.{AwaitsBehind, DropsBehind, DropsOwn, IsUnpaused, MapsWord, UpdatesWord, WaitsForAll, done_behind, own_drop, waits_for_all}
use Rattle.vcpu_turn.specs.Settling.{IsWarm, SettlesFirst}
use Rattle.vcpu_turn.proofs.PassedOn.{is_err}
use Rattle.vcpu_turn.proofs.Staying.{kept_warm}
use Rattle.level_release.specs.Asking.{is_due_stop}

-- ---- what each element is
pub own_local : (flags va : ℕ) → flags % 4 ≡ 1 → own_drop flags va ≡ Some FlushLocal
own_local flags va is = rw is refl

pub own_page : (flags va : ℕ) → flags % 4 ≡ 2 → own_drop flags va ≡ Some (Invalidate va)
own_page flags va is = rw is refl

-- ---- all that is said of one
module _ {v w : PortValue} (d : ℕ) where
  pub local_performs : (answer : Result (Unit {0}) Stop) → ((k : ℕ) → ServesElement v w k FlushLocal None answer) →
      ((k : ℕ) → IfErr answer (λ e. Stops v w (ext_request v.post.machine v.post.vcpu k FlushLocal None answer) e)) → IfErr answer (IsElementStop FlushLocal) → FlushedSame v w → Rests w → FlushedLocal v w [] answer →
      Performs d FlushLocal None v w [] answer
  local_performs answer serves stops kinds hand rests course =
      record { serves = serves d; stops = stops d; kinds = kinds; numbers = λ x is. absurd (cc); hand = hand; rests = rests; awaits = tt; course = course }

  pub page_performs : (va : ℕ) → ((k : ℕ) → ServesElement v w k (Invalidate va) None (Ok tt)) → FlushedSame v w → Rests w → Invalidated v w va [] (Ok tt) → Performs d (Invalidate va) None v w [] (Ok tt)
  page_performs va serves hand rests course =
      record { serves = serves d; stops = tt; kinds = tt; numbers = λ x is. absurd (cc); hand = hand; rests = rests; awaits = tt; course = course }

  pub vcpus_perform : (awaited : Option ℕ) (answer : Result (Unit {0}) Stop) → ((k : ℕ) → ServesElement v w k (FlushVcpus every_vcpu) awaited answer) →
      ((k : ℕ) → IfErr answer (λ e. Stops v w (ext_request v.post.machine v.post.vcpu k (FlushVcpus every_vcpu) awaited answer) e)) → IfErr answer (IsElementStop (FlushVcpus every_vcpu)) → FlushedSame v w → Rests w →
      KnowsAwaited w (awaited_by (FlushVcpus every_vcpu) answer) → WaitedForVcpus v w every_vcpu awaited [] answer → Performs d (FlushVcpus every_vcpu) awaited v w [] answer
  vcpus_perform awaited answer serves stops kinds hand rests awaits course =
      record { serves = serves d; stops = stops d; kinds = kinds; numbers = λ x is. absurd (cc); hand = hand; rests = rests; awaits = awaits; course = course }

-- ---- own translations are dropped, as the flags say
pub drops_as : {d : ℕ} {o : Option Element} {v w : PortValue} {answer : Result (Unit {0}) Stop} (e : Element) → o ≡ Some e → Performs d e None v w [] answer → DropsOwn d o v w answer
drops_as {d} {v = v} {w} {answer} e is performs = subst (λ o. DropsOwn d o v w answer) (sym is) performs

-- ---- none is due
pub unpaused_undue : (answer : Result (Unit {0}) Stop) → IsUnpaused answer → is_due_answer answer ≡ false
unpaused_undue (Ok done) is = refl
unpaused_undue (Err (Refused x)) is = refl
unpaused_undue (Err (Paused x)) is = absurd is

pub waits_undue : (answer : Result (Unit {0}) Stop) → IfErr answer (IsElementStop (FlushVcpus every_vcpu)) → is_due_answer answer ≡ false
waits_undue (Ok done) is = refl
waits_undue (Err (Refused x)) is = refl
waits_undue (Err (Paused pauses.Due)) is = absurd is
waits_undue (Err (Paused _)) is = refl

-- and nothing is waited for where it is refused
pub unpaused_awaits : (w : PortValue) (e : Stop) (answer : Result (Unit {0}) Stop) → IsUnpaused answer → answer ≡ Err e → AwaitsBehind w (Err e)
unpaused_awaits w e (Ok done) is same = absurd (cc)
unpaused_awaits w e (Err (Refused x)) is same = let at : Refused x ≡ e = cc in subst (λ y. AwaitsBehind w (Err y)) at tt
unpaused_awaits w e (Err (Paused x)) is same = absurd is

-- ---- behind the entry
module _ {d flags va : ℕ} {v : PortValue} where
  pub drops_err : {w : PortValue} (e : Stop) (answer : Result (Unit {0}) Stop) → IsErrAnd answer (λ x. x ≡ e) → DropsOwn d (own_drop flags va) v w (Err e) → DropsBehind d flags va v w answer
  drops_err {w} e answer is drops = subst (λ (a : Result (Unit {0}) Stop). DropsBehind d flags va v w a) (sym (is_err answer e is)) (mapping.DropsBehind.undropped w e drops)

  pub drops_then : (u w : PortValue) (answer : Result (Unit {0}) Stop) (b : Bool) → waits_for_all flags ≡ b → DropsOwn d (own_drop flags va) v u (Ok tt) → WaitsForAll d b None u w answer → DropsBehind d flags va v w answer
  drops_then u w answer b is drops waits = mapping.DropsBehind.dropped u w answer drops (subst (λ (x : Bool). WaitsForAll d x None u w answer) (sym is) waits)

pub element_warm : (v w : PortValue) (d : ℕ) (e : Element) (awaited : Option ℕ) (answer : Result (Unit {0}) Stop) → ServesElement v w d e awaited answer → FlushedSame v w → IsWarm v → IsWarm w
element_warm v w d e awaited answer serves hand warm = kept_warm v w (serves_came v w _ _ serves.2) hand warm

-- ---- the operation
module _ {d foreign va word flags : ℕ} {awaited : Option ℕ} {v : PortValue} {g : Gate} where
  pub maps_unset : {h : Gate} {w : PortValue} (k : ℕ) → k ≡ 0 → (e : Stop) (answer : Result (Unit {0}) Stop) → IsErrAnd answer (λ x. x ≡ e) → GatedPast g h (is_due_stop e) (λ answers. SettlesFirst (UpdatesWord d foreign va word flags) v w answers (Err e)) →
      GatedPast g h (is_due_answer answer) (λ answers. MapsWord d foreign va word flags awaited v k k w answers answer)
  maps_unset {w = w} k zero e answer is updates = rw (is_err answer e is, zero) (past_as (λ due. due) (λ answers on. mapping.MapsWord.unset w answers e on) updates)

  pub maps_set : {h : Gate} {u w : PortValue} (k to : ℕ) → k ≡ 0 → (answer : Result (Unit {0}) Stop) → to ≡ done_behind answer → is_due_answer answer ≡ false → GatedPast g h false (λ answers. SettlesFirst (UpdatesWord d foreign va word flags) v u answers (Ok tt)) →
      DropsBehind d flags va u w answer → GatedPast g h (is_due_answer answer) (λ answers. MapsWord d foreign va word flags awaited v k to w answers answer)
  maps_set {u = u} {w} k to zero answer done undue updates drops = rw (zero, done) (past_as (λ due. sym undue ∙ due) (λ answers on. mapping.MapsWord.set u w answers answer on drops) updates)

  pub maps_waited : {w : PortValue} (k to : ℕ) → k ≡ 1 → (answer : Result (Unit {0}) Stop) → to ≡ done_behind answer → is_due_answer answer ≡ false → WaitsForAll d true awaited v w answer →
      GatedPast g g (is_due_answer answer) (λ answers. MapsWord d foreign va word flags awaited v k to w answers answer)
  maps_waited {w} k to one answer done undue waits = rw (one, done) (past_none undue (mapping.MapsWord.waited w answer waits))
