-- What stays so from port to port: the clock values that were found are known, and a vCPU that has flushed since it came to its processor stays warm.
use Rattle.std.proofs.Common.{◌≡◌, ℕ, Option, Some, None, Result, Ok, Err, sym, ap, inl, inr, subst}
use Rattle.xp_words.specs.declared.place.Place.{Place}
use Rattle.xp_words.specs.declared.reply.Stop.{Stop}
use Rattle.xp_words.specs.declared.reply.Stop.TheVariants.{Refused, Paused}
use Rattle.xp_board.specs.Readings.{domain_of}
use Rattle.xp_board.specs.Told.{Post, PortValue}
use Rattle.xp_board.specs.declared.step.Act.{Act}
use Rattle.xp_board.specs.declared.step.Mark.{Mark}
use Rattle.xp_board.specs.declared.step.StepKind.{StepKind}
use Rattle.step_maker.specs.Holds.{FlushedSame}
use Rattle.step_maker.specs.Moves.{Came, Moves}
use Rattle.step_maker.proofs.Coming.{came_post, moves_came}
use Rattle.step_maker.proofs.Warming.{came_warm}
use Rattle.step_maker.specs.Answers.{Serves, misses}
use Rattle.step_maker.specs.Reasons.{HadClock}
use Rattle.step_maker.proofs.Piecing.{serves_came}
use Rattle.flush_words.proofs.Lasting.{came_keeps}
use Rattle.foreign_map.specs.declared.owners.Owners.{Owners}
use Rattle.level_release.specs.Asking.{of_settle}
use Rattle.level_release.specs.Settling.{SettledHand}
use Rattle.mmuext_ops.specs.Bases.{LeavesBase}
use Rattle.mmu_update.specs.Elements.{LeavesUpdate}
use Rattle.mmuext_ops.specs.Elements.{KnowsAwaited, LeavesElement, ServesElement}
use Rattle.mmuext_ops.specs.declared.element.Element.{Element}
use Rattle.mmuext_ops.specs.declared.element.Element.TheVariants as elements
use Rattle.reservations.specs.Extents.{Reserves}
use Rattle.reservations.specs.declared.extents.Extent.{Extent}
use Rattle.vcpu_turn.specs.Ext.{SuitsExt}
use Rattle.vcpu_turn.specs.Pairs.{SuitsPairs}
use Rattle.vcpu_turn.specs.Settling.{IsWarm}
use Rattle.vcpu_turn.proofs.Owning.{may_map_settled, may_map_updated}

pub own_domain : (p q : Post) (domain : ℕ) → q ≡ p → domain ≡ domain_of p.machine p.vcpu → domain ≡ domain_of q.machine q.vcpu
own_domain p q domain same is = subst (λ (x : Post). domain ≡ domain_of x.machine x.vcpu) (sym same) is

pub knows_on : (v w : PortValue) (awaited : Option ℕ) → Came v w → KnowsAwaited v awaited → KnowsAwaited w awaited
knows_on v w None came knows = tt
knows_on v w (Some stamp) came knows = subst (λ (q : Post). HadClock q.machine stamp w.holdings) (sym (came_post v w came)) (came_keeps v w _ came knows)

-- ---- the beginning of a turn
pub step_warm : (v w : PortValue) (p : Place) (a : Act) (k : StepKind) (mark : Option Mark) (found : ℕ) → Moves v w p a k mark found → w.holdings.ran ≡ v.holdings.ran → IsWarm v → IsWarm w
step_warm v w p a k mark found moves ran warm = came_warm v w (moves_came v w p a k mark found moves) ran warm

-- ---- what is settled
pub settled_came : (v w : PortValue) (answer : Result (Unit {0}) Stop) → ((owner pages : ℕ) → Serves v w (of_settle owner pages answer) (misses v.post.machine answer)) → Came v w
settled_came v w answer serves = serves_came v w (of_settle 0 0 answer) (misses v.post.machine answer) (serves 0 0)

module _ (v w : PortValue) (answer : Result (Unit {0}) Stop) (serves : (owner pages : ℕ) → Serves v w (of_settle owner pages answer) (misses v.post.machine answer)) (hand : SettledHand v w) where
  pub settled_warm : IsWarm v → IsWarm w
  settled_warm warm = came_warm v w (settled_came v w answer serves) (ap (λ (y : PortValue). y.holdings.ran) hand) warm

  pub suits_pairs_settled : (o : Owners) → SuitsPairs o v → SuitsPairs o w
  suits_pairs_settled o suits = record { may = may_map_settled v w o answer serves hand suits.may; warm = settled_warm suits.warm }

-- ---- an element of `mmu_update`
pub suits_pairs_updated : (v w : PortValue) (o : Owners) → Came v w → LeavesUpdate v w → SuitsPairs o v → SuitsPairs o w
suits_pairs_updated v w o came hand suits =
    record { may = may_map_updated v w o came hand suits.may; warm = came_warm v w came (ap (λ (y : PortValue). y.holdings.ran) hand.2) suits.warm }

-- ---- an extent of `memory_op`
pub reserved_warm : {owner size : ℕ} {extent : Extent} {from : ℕ} {v : PortValue} {to : ℕ} {w : PortValue} {answer : Result (Option ℕ) Stop} → Reserves owner size extent from v to w answer → IsWarm v → IsWarm w
reserved_warm {v = v} {w = w} r warm = came_warm v w (serves_came v w _ _ r.serves.serves) (ap (λ (y : PortValue). y.holdings.ran) r.hand) warm

-- ---- an element of `mmuext_op`
pub ran_of : (v w : PortValue) → FlushedSame v w → w.holdings.ran ≡ v.holdings.ran
ran_of v w same = ap (λ (y : PortValue). y.holdings.ran) same

-- a call that leaves nothing in hand
pub kept_warm : (v w : PortValue) → Came v w → FlushedSame v w → IsWarm v → IsWarm w
kept_warm v w came same warm = came_warm v w came (ran_of v w same) warm

base_ran : (v w : PortValue) (new : Option ℕ) (answer : Result (Unit {0}) Stop) → LeavesBase v w new answer → w.holdings.ran ≡ v.holdings.ran
base_ran v w new (Ok done) (inl same) = ran_of v w same
base_ran v w new (Ok done) (inr names) = ap (λ (y : PortValue). y.holdings.ran) names.1
base_ran v w (Some f) (Err (Refused x)) (inl same) = ran_of v w same
base_ran v w (Some f) (Err (Refused x)) (inr names) = ap (λ (y : PortValue). y.holdings.ran) names
base_ran v w None (Err (Refused x)) same = ran_of v w same
base_ran v w new (Err (Paused x)) same = ran_of v w same

element_ran : (v w : PortValue) (e : Element) (answer : Result (Unit {0}) Stop) → LeavesElement v w e answer → w.holdings.ran ≡ v.holdings.ran
element_ran v w (elements.Pin f level) (Ok done) same = ran_of v w same
element_ran v w (elements.Pin f level) (Err (Refused x)) (inl same) = ran_of v w same
element_ran v w (elements.Pin f level) (Err (Refused x)) (inr names) = ap (λ (y : PortValue). y.holdings.ran) names
element_ran v w (elements.Pin f level) (Err (Paused x)) same = ran_of v w same
element_ran v w (elements.Unpin f) (Ok done) (inl same) = ran_of v w same
element_ran v w (elements.Unpin f) (Ok done) (inr names) = ap (λ (y : PortValue). y.holdings.ran) names
element_ran v w (elements.Unpin f) (Err e) same = ran_of v w same
element_ran v w (elements.NewBase f) answer leaves = base_ran v w (Some f) answer leaves
element_ran v w (elements.NewUserBase f) answer leaves = base_ran v w _ answer leaves
element_ran v w elements.FlushLocal answer same = ran_of v w same
element_ran v w (elements.Invalidate va) answer same = ran_of v w same
element_ran v w (elements.FlushVcpus mask) answer same = ran_of v w same
element_ran v w (elements.SetLdt address entries) answer same = ran_of v w same
element_ran v w (elements.ClearPage f) answer same = ran_of v w same
element_ran v w (elements.CopyPage to from) answer same = ran_of v w same
element_ran v w elements.Unknown answer same = ran_of v w same

module _ (d : ℕ) (awaited : Option ℕ) (v w : PortValue) (came : Came v w) (ran : w.holdings.ran ≡ v.holdings.ran) where
  suits_ext_on : SuitsExt d awaited v → SuitsExt d awaited w
  suits_ext_on suits =
      record {
        domain = subst (λ (q : Post). d ≡ domain_of q.machine q.vcpu) (sym (came_post v w came)) suits.domain;
        knows = knows_on v w awaited came suits.knows;
        warm = came_warm v w came ran suits.warm;
      }

pub suits_ext_settled : (d : ℕ) (awaited : Option ℕ) (v w : PortValue) (answer : Result (Unit {0}) Stop) → ((owner pages : ℕ) → Serves v w (of_settle owner pages answer) (misses v.post.machine answer)) → SettledHand v w →
    SuitsExt d awaited v → SuitsExt d awaited w
suits_ext_settled d awaited v w answer serves hand = suits_ext_on d awaited v w (settled_came v w answer serves) (ap (λ (y : PortValue). y.holdings.ran) hand)

pub suits_ext_performed : (d domain : ℕ) (e : Element) (waited awaited : Option ℕ) (v w : PortValue) (answer : Result (Unit {0}) Stop) → ServesElement v w domain e waited answer → LeavesElement v w e answer → SuitsExt d awaited v → SuitsExt d awaited w
suits_ext_performed d domain e waited awaited v w answer serves hand = suits_ext_on d awaited v w (serves_came v w _ _ serves.2) (element_ran v w e answer hand)
