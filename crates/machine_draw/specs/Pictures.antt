-- What is drawn: a machine with its words, which frames are named by something, and what an audit said.
use Rattle.std.specs.Prelude.{◌≡◌, ℕ, ◌==◌, Bool, false, List, length}
use Rattle.walk_audit.specs.declared.verdict.Verdict.{Verdict}
use Rattle.walk_audit.specs.declared.verdict.Verdict.TheVariants as verdicts
use Rattle.report_text.specs.Memories.{Memory}

pub record Picture : Type 0 where
  pub memory : Memory
  pub named : List Bool
  pub verdict : Verdict

-- each frame is known to be named or not
abbrev pub IsPicture : Picture → Type 0
IsPicture p = length p.named ≡ p.memory.machine.frames

-- ---- what the verdict names
unfoldable pub blames_frame : Verdict → ℕ → Bool
blames_frame (verdicts.Held frame) f = frame == f
blames_frame (verdicts.Refs frame want found) f = frame == f
blames_frame (verdicts.Count frame want found) f = frame == f
blames_frame (verdicts.OtherKind frame) f = frame == f
blames_frame (verdicts.BadEntry frame index) f = frame == f
blames_frame _ f = false

unfoldable pub blames_domain : Verdict → ℕ → Bool
blames_domain (verdicts.Pages domain want found) d = domain == d
blames_domain (verdicts.Dead domain) d = domain == d
blames_domain _ d = false

unfoldable pub blames_vcpu : Verdict → ℕ → Bool
blames_vcpu (verdicts.Context vcpu word) v = vcpu == v
blames_vcpu _ v = false
