use Rattle.std.proofs.Common.{arith}
use Rattle.xp_words.specs.Places.{sizes_of, memory, size, first_vcpu, first_frame, first_map}
use Rattle.walk_audit.proofs.First.{first_widened, first_extended, none_joined}
use Rattle.walk_audit.proofs.Stamps.{head_quiet, tail_quiet}
use Rattle.walk_audit.proofs.stamped.first_late.Goals as goal

pub returns-in-Some : goal.returns-in-Some
unfolding size
returns-in-Some c =
    let n = c.args.layout.now in
    let m = memory (sizes_of n) c.args.words.now in
    first_widened n m 6 0 (first_vcpu (sizes_of n)) (first_frame (sizes_of n)) _ c.in-Some.verdict (omega arith) (head_quiet n m) (omega arith) c.in-Some.ensures

pub returns : goal.returns
unfolding size
returns c =
    let n = c.args.layout.now in
    let m = memory (sizes_of n) c.args.words.now in
    first_extended n m 6 0 (first_frame (sizes_of n)) (first_map (sizes_of n)) _ c.late_frames.result (omega arith) (omega arith)
    (none_joined n m 6 0 (first_vcpu (sizes_of n)) (first_frame (sizes_of n)) (head_quiet n m) c.in_default.ensures) c.late_frames.ensures (tail_quiet n m _)
