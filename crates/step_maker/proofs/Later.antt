-- Why a call stops behind steps after which the vCPU may have more in hand: every cause but those that count what it has.
use Rattle.std.proofs.Common.{ℕ, subst}
use Rattle.xp_words.specs.Machine.{Machine}
use Rattle.xp_words.specs.declared.reply.Refusal.{Refusal}
use Rattle.xp_words.specs.declared.reply.Refusal.TheVariants as r
use Rattle.xp_words.specs.declared.reply.Stop.{Stop}
use Rattle.xp_words.specs.declared.reply.Stop.TheVariants.{Refused, Paused}
use Rattle.xp_board.specs.declared.holdings.Holdings.{Holdings}
use Rattle.xp_board.specs.Told.{Post, PortValue}
use Rattle.step_maker.specs.Moves.{Came, Met}
use Rattle.step_maker.proofs.Coming.{came_post, met_after}
use Rattle.step_maker.specs.Answers.{Causes, Stops}
use Rattle.step_maker.specs.Asked.{Request, Within}
use Rattle.step_maker.specs.Finding.{Finding}
use Rattle.step_maker.specs.Licences.{Licensed}
use Rattle.step_maker.proofs.Growing.{causes}
use Rattle.step_maker.proofs.Piecing.{no_more, same_request}

-- the cause does not count the references in hand
abbrev pub IsUncounted : Stop → Type 0
IsUncounted (Refused (r.CountFull f x)) = ⊥
IsUncounted (Refused (r.InUse f x)) = ⊥
IsUncounted _ = Unit {0}

module _ (n : Machine) (s : ℕ) (q : Request) (F : Finding) (b c : Holdings) where
  licensed_by : (x : Refusal) → IsUncounted (Refused x) → Licensed n s b q F x → Licensed n s c q F x
  licensed_by (r.CountFull f x) is a = absurd is
  licensed_by (r.InUse f x) is a = absurd is
  licensed_by _ is a = a

  pub causes_by : (e : Stop) → IsUncounted e → Causes n s b q F e → Causes n s c q F e
  causes_by (Refused x) is a = licensed_by x is a
  causes_by (Paused x) is a = a

pub stops_later : (v u w : PortValue) (t q : Request) (e : Stop) → IsUncounted e → Within v.post.machine v.post.vcpu q (Met u w) t (Met v w) → Came v u → Stops u w q e → Stops v w t e
unfolding Stops
stops_later v u w t q e is within came stops =
    causes v.post.machine v.post.vcpu q (Met u w) t (Met v w) within v.holdings v.holdings (no_more t v.holdings) e
    (causes_by v.post.machine v.post.vcpu q (Met u w) u.holdings v.holdings e is (subst (λ (p : Post). Causes p.machine p.vcpu u.holdings q (Met u w) e) (came_post v u came) stops))

-- the same request goes on
pub stops_then : (v u w : PortValue) (t : Request) (e : Stop) → IsUncounted e → Came v u → Stops u w t e → Stops v w t e
stops_then v u w t e is came stops = stops_later v u w t t e is (same_request _ _ t (Met u w) (Met v w) (λ k x. met_after v u w k came x)) came stops
