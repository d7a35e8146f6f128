-- Each legal act has one of the effects.
use Rattle.std.proofs.Common.{ℕ, Option, refl}
use Rattle.xp_words.specs.Machine.{Machine}
use Rattle.xp_words.specs.declared.place.Place.{Place}
use Rattle.xp_board.specs.declared.step.Act.{Act}
use Rattle.xp_board.specs.declared.step.Mark.{Mark}
use Rattle.xp_board.specs.declared.step.Step.{Step}
use Rattle.xp_board.specs.declared.step.StepKind.{StepKind}
use Rattle.xp_board.specs.declared.step.StepKind.TheVariants as steps
use Rattle.xp_board.specs.declared.holdings.Holdings.{Holdings}
use Rattle.xp_board.specs.Runs.{place_of}
use Rattle.xp_board.specs.Keeping.{MayAct, Acted}
use Rattle.step_effects.proofs.ActEffects.{ActEffect}
use Rattle.step_effects.proofs.Doing.{Doing}
use Rattle.step_effects.proofs.WordInversions.{look_effect, map_effect, tick_effect, pages_effect, priv_effect, life_effect, hint_effect}
use Rattle.step_effects.proofs.VcpuInversions.{ask_effect, ack_effect, run_effect, context_effect}
use Rattle.step_effects.proofs.CellInversions.{cell_effect, guest_effect, fill_effect, touch_effect}
use Rattle.step_effects.proofs.FrameInversions.{ref_effect, kind_effect}

module _ (n : Machine) (s : ℕ) (x : Step) (m m2 : Place → ℕ) (b c : Holdings) (mark : Option Mark) where
  effect_by : (sort : StepKind) (p : Place) (a : Act) → Doing n s x m m2 b c mark p a sort → ActEffect n s x m m2 b c
  effect_by steps.Look p a d = look_effect n s x m m2 b c mark p a d
  effect_by steps.Ref p a d = ref_effect n s x m m2 b c mark p a d
  effect_by steps.Kind p a d = kind_effect n s x m m2 b c mark p a d
  effect_by steps.Cell p a d = cell_effect n s x m m2 b c mark p a d
  effect_by steps.M2p p a d = map_effect n s x m m2 b c mark p a d
  effect_by steps.Pages p a d = pages_effect n s x m m2 b c mark p a d
  effect_by steps.Context p a d = context_effect n s x m m2 b c mark p a d
  effect_by steps.Fill p a d = fill_effect n s x m m2 b c mark p a d
  effect_by steps.Guest p a d = guest_effect n s x m m2 b c mark p a d
  effect_by steps.Tick p a d = tick_effect n s x m m2 b c mark p a d
  effect_by steps.Ask p a d = ask_effect n s x m m2 b c mark p a d
  effect_by steps.Ack p a d = ack_effect n s x m m2 b c mark p a d
  effect_by steps.Life p a d = life_effect n s x m m2 b c mark p a d
  effect_by steps.Run p a d = run_effect n s x m m2 b c mark p a d
  effect_by steps.Hint p a d = hint_effect n s x m m2 b c mark p a d
  effect_by steps.Touch p a d = touch_effect n s x m m2 b c mark p a d
  effect_by steps.Priv p a d = priv_effect n s x m m2 b c mark p a d

pub act_effect : (n : Machine) (s : ℕ) (x : Step) (m m2 : Place → ℕ) (b c : ℕ → Holdings) → MayAct n s x (b s) → Acted n s x m m2 b c →
    ActEffect n s x m m2 (b s) (c s)
act_effect n s x m m2 b c may acted =
    effect_by n s x m m2 (b s) (c s) x.mark x.kind (place_of n x) x.act
    (record {
      place = refl;
      act_is = refl;
      kind_is = refl;
      mark_is = refl;
      real = may.place;
      running = may.running;
      spelling = may.spelling;
      legal = may.act;
      here = acted.here;
      elsewhere = acted.elsewhere;
      hand = acted.mine;
    })
