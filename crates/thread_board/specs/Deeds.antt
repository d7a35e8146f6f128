-- One step of one vCPU on a board.
use Rattle.std.specs.Prelude.{ℕ, List, [], None}
use Rattle.xp_words.specs.Machine.{Machine}
use Rattle.xp_board.specs.declared.step.Act.TheVariants.{Load}
use Rattle.xp_board.specs.declared.step.Step.{Step}
use Rattle.xp_board.specs.declared.step.StepKind.TheVariants.{Look}

-- the machine, the words with which its board opened, the vCPU and its step
pub record Deed : Type 0 where
  pub machine : Machine
  pub opening : List ℕ
  pub vcpu : ℕ
  pub step : Step

abbrev pub no_machine : Machine
no_machine = record { frames = 0; limit = 0; page_limit = []; privilege = []; vcpu_domain = [] }

abbrev pub no_deed : Deed
no_deed = record { machine = no_machine; opening = []; vcpu = 0; step = record { place = 0; act = Load; kind = Look; mark = None } }
