-- What a demand that goes out of the hand, or comes in, leaves of it.
use Rattle.std.proofs.Common.{◌≡◌, refl, ap, ◌∙◌, Bool}
use Rattle.xp_words.specs.declared.entry.Demand.{Demand}
use Rattle.xp_words.specs.declared.entry.Demand.TheVariants.{Nothing, Bad, Read, Typed}
use Rattle.xp_board.specs.declared.holdings.Holdings.{Holdings}
use Rattle.xp_board.specs.Settling.{demand_in, demand_out}

-- all but references
pub record RefsMoved (a u : Holdings) : Type 0 where
  pub works : u.works ≡ a.works
  pub locks : u.locks ≡ a.locks
  pub ending : u.ending ≡ a.ending
  pub claimed : u.claimed ≡ a.claimed
  pub raised : u.raised ≡ a.raised
  pub looking : u.looking ≡ a.looking
  pub cache : u.cache ≡ a.cache
  pub walk : u.walk ≡ a.walk
  pub cold : u.cold ≡ a.cold
  pub run : u.run ≡ a.run
  pub old0 : u.old0 ≡ a.old0
  pub old1 : u.old1 ≡ a.old1
  pub turn : u.turn ≡ a.turn
  pub acked : u.acked ≡ a.acked
  pub ran : u.ran ≡ a.ran
  pub steps : u.steps ≡ a.steps

pub same_rest : (a u : Holdings) → u ≡ record a { refs = u.refs; typed = u.typed } → RefsMoved a u
same_rest a u e = record {
  works = ap (λ v. v.works) e;
  locks = ap (λ v. v.locks) e;
  ending = ap (λ v. v.ending) e;
  claimed = ap (λ v. v.claimed) e;
  raised = ap (λ v. v.raised) e;
  looking = ap (λ v. v.looking) e;
  cache = ap (λ v. v.cache) e;
  walk = ap (λ v. v.walk) e;
  cold = ap (λ v. v.cold) e;
  run = ap (λ v. v.run) e;
  old0 = ap (λ v. v.old0) e;
  old1 = ap (λ v. v.old1) e;
  turn = ap (λ v. v.turn) e;
  acked = ap (λ v. v.acked) e;
  ran = ap (λ v. v.ran) e;
  steps = ap (λ v. v.steps) e;
}

pub moved_out : (d : Demand) (a : Holdings) → RefsMoved a (demand_out d a)
moved_out (Read g) a = same_rest a (demand_out (Read g) a) refl
moved_out (Typed g t) a = same_rest a (demand_out (Typed g t) a) refl
moved_out Nothing a = same_rest a a refl
moved_out Bad a = same_rest a a refl

pub moved_in : (sure : Bool) (d : Demand) (a : Holdings) → RefsMoved a (demand_in sure d a)
moved_in sure (Read g) a = same_rest a (demand_in sure (Read g) a) refl
moved_in sure (Typed g t) a = same_rest a (demand_in sure (Typed g t) a) refl
moved_in sure Nothing a = same_rest a a refl
moved_in sure Bad a = same_rest a a refl

pub then_moved : (a u w : Holdings) → RefsMoved a u → RefsMoved u w → RefsMoved a w
then_moved a u w h k =
    record {
      works = k.works ∙ h.works;
      locks = k.locks ∙ h.locks;
      ending = k.ending ∙ h.ending;
      claimed = k.claimed ∙ h.claimed;
      raised = k.raised ∙ h.raised;
      looking = k.looking ∙ h.looking;
      cache = k.cache ∙ h.cache;
      walk = k.walk ∙ h.walk;
      cold = k.cold ∙ h.cold;
      run = k.run ∙ h.run;
      old0 = k.old0 ∙ h.old0;
      old1 = k.old1 ∙ h.old1;
      turn = k.turn ∙ h.turn;
      acked = k.acked ∙ h.acked;
      ran = k.ran ∙ h.ran;
      steps = k.steps ∙ h.steps;
    }
