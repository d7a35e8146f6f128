use Rattle.std.proofs.Common.{arith}
use Rattle.std.proofs.lemmas.Bool.Decides.{nat_tests}
use Rattle.xp_words.specs.Places.{sizes_of, memory, number, is_place, flushed_of}
use Rattle.xp_board.specs.Readings.{clock_value}
use Rattle.walk_audit.proofs.Stamps.{vcpu_quiet, late_first}
use Rattle.walk_audit.proofs.stamped.late_vcpu.Goals as goal

pub returns-then-clock-vcpu_word : goal.returns-then-clock-vcpu_word
unfolding clock_value is_place number
returns-then-clock-vcpu_word c =
    late_first _ (memory (sizes_of c.args.layout.now) c.args.words.now) (flushed_of c.args.vcpu) _ _ _ (cc) (grind (arith, nat_tests)) (omega arith) (omega arith) (omega arith)
    (vcpu_quiet _ _ c.args.vcpu _ c.requires.vcpu (omega arith) (λ l. absurd (omega arith)))

pub returns-else-clock-vcpu_word : goal.returns-else-clock-vcpu_word
returns-else-clock-vcpu_word c =
    vcpu_quiet _ (memory (sizes_of c.args.layout.now) c.args.words.now) c.args.vcpu _ c.requires.vcpu (omega arith) (λ l. omega arith)
