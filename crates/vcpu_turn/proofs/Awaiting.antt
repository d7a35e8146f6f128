-- A wait that goes on in a later turn: the vCPU had found the clock value past which it waits.
use Rattle.std.proofs.Common.{◌≡◌, ℕ, zero, suc, ◌+◌, ◌==◌, if◌then◌else◌, Bool, true, false, List, length, slice_get, Option, Some, None, Result, Ok, Err, refl, sym, ap, ◌∙◌, inl, inr, subst}
use Rattle.xp_words.specs.declared.ops.ExtOp.{ExtOp}
use Rattle.xp_words.specs.declared.reply.Pause.{Pause}
use Rattle.xp_words.specs.declared.reply.Pause.TheVariants.{Due, Lost, Busy, Flush, Alive}
use Rattle.xp_words.specs.declared.reply.Refusal.{Refusal}
use Rattle.xp_words.specs.declared.reply.Stop.{Stop}
use Rattle.xp_words.specs.declared.reply.Stop.TheVariants.{Refused, Paused}
use Rattle.xp_board.specs.Told.{PortValue}
use Rattle.level_release.specs.Asking.{IsReleaseEnd}
use Rattle.mmuext_ops.specs.Elements.{KnowsAwaited, awaited_by, ext_element}
use Rattle.mmuext_ops.specs.declared.element.Element.{Element}
use Rattle.mmuext_ops.specs.declared.element.Element.TheVariants as elements
use Rattle.vcpu_turn.specs.Cpus.{OfExt, OfMapping, Task, awaited_at, awaited_behind, awaited_in, awaited_left}
use Rattle.vcpu_turn.specs.Lists.{WorksOn, all_done, last_done, due, stopped, WorksThrough}
use Rattle.vcpu_turn.specs.Settling as settling
use Rattle.vcpu_turn.specs.Ext.{ExtFits, FitsExt, Performs, awaited_for}
use Rattle.vcpu_turn.specs.Mappings.{AwaitsWhere}
use Rattle.vcpu_turn.specs.Settling.{SettlesFirst}
use Rattle.vcpu_turn.specs.Working.{valued}

-- ---- the first element of a turn alone goes on
pub knows_for : (v : PortValue) (from : ℕ) (awaited : Option ℕ) (k : ℕ) (waits : Option ℕ) → waits ≡ awaited_for from awaited k → KnowsAwaited v awaited → KnowsAwaited v waits
knows_for v from awaited k waits is knows = subst (KnowsAwaited v) (sym is) (by (k == from))
  where
    by : (b : Bool) → KnowsAwaited v (if b then awaited else None)
    by true = knows
    by false = tt

-- ---- what is paused for another reason begins its wait anew
release_waits_for_none : (e : Element) (stop : Stop) → IsReleaseEnd stop → awaited_by e (Err stop) ≡ None
release_waits_for_none (elements.Pin f level) stop is = refl
release_waits_for_none (elements.Unpin f) stop is = refl
release_waits_for_none (elements.NewBase f) stop is = refl
release_waits_for_none (elements.NewUserBase f) stop is = refl
release_waits_for_none elements.FlushLocal stop is = refl
release_waits_for_none (elements.Invalidate va) stop is = refl
release_waits_for_none (elements.FlushVcpus mask) (Refused r) is = refl
release_waits_for_none (elements.FlushVcpus mask) (Paused Due) is = refl
release_waits_for_none (elements.FlushVcpus mask) (Paused (Lost place expected found)) is = refl
release_waits_for_none (elements.FlushVcpus mask) (Paused (Busy f found)) is = refl
release_waits_for_none (elements.FlushVcpus mask) (Paused (Flush u stamp found)) is = absurd is
release_waits_for_none (elements.FlushVcpus mask) (Paused (Alive u found)) is = refl
release_waits_for_none (elements.SetLdt address entries) stop is = refl
release_waits_for_none (elements.ClearPage f) stop is = refl
release_waits_for_none (elements.CopyPage to from) stop is = refl
release_waits_for_none elements.Unknown stop is = refl

due_waits_for_none : (x : Option ExtOp) → awaited_at x Due ≡ None
due_waits_for_none None = refl
due_waits_for_none (Some op) = release_waits_for_none (ext_element op) (Paused Due) tt

knows_none : (w : PortValue) (o : Option ℕ) → o ≡ None → KnowsAwaited w o
knows_none w o is = subst (KnowsAwaited w) (sym is) tt

-- ---- elements
settles_awaits : (d : ℕ) (e : Element) (awaited : Option ℕ) (v w : PortValue) (answers : List Bool) (answer : Result (Unit {0}) Stop) → SettlesFirst (Performs d e awaited) v w answers answer → KnowsAwaited w (awaited_by e answer)
settles_awaits d e awaited v _ _ _ (settling.SettlesFirst.unsettled w answers stop s) = knows_none w (awaited_by e (Err stop)) (release_waits_for_none e stop s.kinds)
settles_awaits d e awaited v _ _ _ (settling.SettlesFirst.performed u w early answers answer s p) = p.awaits

fits_awaits : (d : ℕ) (awaited : Option ℕ) (x : Option ExtOp) (v w : PortValue) (answers : List Bool) (p : Pause) → FitsExt d awaited x v w answers (Err (Paused p)) → KnowsAwaited w (awaited_at x p)
fits_awaits d awaited None v w answers p fit = absurd fit
fits_awaits d awaited (Some op) v w answers p fit = settles_awaits d (ext_element op) awaited v w answers (Err (Paused p)) fit

-- ---- lists of them
module _ (d : ℕ) (list : List ExtOp) (from : ℕ) (awaited : Option ℕ) (count : ℕ) (v : PortValue) (p : Pause) where
  on_awaits : (to : ℕ) (w : PortValue) (answers : List Bool) (answer : Result (Unit {0}) Stop) → answer ≡ Err (Paused p) → WorksOn (ExtFits d list from awaited) count from v to w answers answer → KnowsAwaited w (awaited_at (slice_get list to) p)
  on_awaits _ _ _ _ is (all_done at) = absurd (cc)
  on_awaits _ _ _ _ is (last_done k u w answers asked did fit at) = absurd (cc)
  on_awaits _ _ _ _ is (due k u w answers asked did fit less) =
      let same : p ≡ Due = cc in
      knows_none w _ (ap (awaited_at (slice_get list (k + 1))) same ∙ due_waits_for_none (slice_get list (k + 1)))
  on_awaits _ _ _ _ is (stopped k u w answers asked e did fit less) =
      let same : e ≡ Paused p = cc in
      fits_awaits d (awaited_for from awaited k) (slice_get list k) u w asked p (subst (λ (x : Stop). ExtFits d list from awaited k u w asked (Err x)) same fit)

  through_awaits : (to : ℕ) (w : PortValue) (answers : List Bool) (answer : Result (Unit {0}) Stop) → answer ≡ Err (Paused p) → WorksThrough (ExtFits d list from awaited) count v from to w answers answer →
      KnowsAwaited w (awaited_at (slice_get list to) p)
  through_awaits to w answers answer is (inl whole) = absurd (not_paused whole.1.refused is)
    where
      not_paused : {r : Refusal} {a : Result (Unit {0}) Stop} → a ≡ Err (Refused r) → a ≡ Err (Paused p) → ⊥
      not_paused refused paused = let both = sym refused ∙ paused in cc
  through_awaits to w answers answer is (inr works) = on_awaits to w answers answer is works.1

-- ---- operations
pauses_too : (p : Pause) (ended : Result (Unit {0}) Stop) (answer : Result ℕ Stop) → answer ≡ valued ended → answer ≡ Err (Paused p) → ended ≡ Err (Paused p)
pauses_too p (Ok done) answer valued_is is = absurd (let both = sym valued_is ∙ is in cc)
pauses_too p (Err e) answer valued_is is =
    let both = sym valued_is ∙ is in
    let same : e ≡ Paused p = cc in
    ap (λ (x : Stop). Err x) same

-- what is answered waits no more
knows_left : (o : Option Task) (w : PortValue) (to : ℕ) (answer : Result ℕ Stop) → ((p : Pause) → answer ≡ Err (Paused p) → KnowsAwaited w (awaited_in o to p)) → KnowsAwaited w (awaited_left o to answer)
knows_left o w to (Ok value) knows = tt
knows_left o w to (Err (Refused r)) knows = tt
knows_left o w to (Err (Paused p)) knows = knows p refl

pub ext_awaits : (d : ℕ) (list : List ExtOp) (from : ℕ) (awaited : Option ℕ) (v : PortValue) (to : ℕ) (w : PortValue) (answers : List Bool) (ended : Result (Unit {0}) Stop) (answer : Result ℕ Stop) → answer ≡ valued ended →
    WorksThrough (ExtFits d list from awaited) (length list) v from to w answers ended → KnowsAwaited w (awaited_left (Some (OfExt list)) to answer)
ext_awaits d list from awaited v to w answers ended answer valued_is works =
    knows_left (Some (OfExt list)) w to answer (λ p is. through_awaits d list from awaited (length list) v p to w answers ended (pauses_too p ended answer valued_is is) works)

-- an update by address: behind its entry it waits for all vCPUs
pub mapping_awaits : (foreign va word flags to : ℕ) (w : PortValue) (ended : Result (Unit {0}) Stop) (answer : Result ℕ Stop) → answer ≡ valued ended → AwaitsWhere w to ended → KnowsAwaited w (awaited_left (Some (OfMapping foreign va word flags)) to answer)
mapping_awaits foreign va word flags to w ended answer valued_is waits = knows_left (Some (OfMapping foreign va word flags)) w to answer (λ p is. by to p (pauses_too p ended answer valued_is is) waits)
  where
    by : (k : ℕ) (p : Pause) → ended ≡ Err (Paused p) → AwaitsWhere w k ended → KnowsAwaited w (awaited_behind k p)
    by zero p is known = tt
    by (suc k) p is known = subst (λ (a : Result (Unit {0}) Stop). AwaitsWhere w (suc k) a) is known

-- by what stands next
pub built_awaits : (o : Option Task) (task : Task) → o ≡ Some task → (w : PortValue) (to : ℕ) (answer : Result ℕ Stop) → KnowsAwaited w (awaited_left (Some task) to answer) → KnowsAwaited w (awaited_left o to answer)
built_awaits o task is w to answer knows = subst (λ (p : Option Task). KnowsAwaited w (awaited_left p to answer)) (sym is) knows
