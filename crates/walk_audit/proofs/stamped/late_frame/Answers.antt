use Rattle.std.proofs.Common.{arith}
use Rattle.std.proofs.lemmas.Bool.Decides.{nat_tests}
use Rattle.xp_words.specs.declared.place.Place.TheVariants.{Refs, Kind}
use Rattle.xp_words.specs.Places.{sizes_of, memory, number, is_place}
use Rattle.xp_board.specs.Readings.{clock_value}
use Rattle.walk_audit.proofs.Stamps.{frame_quiet, late_first}
use Rattle.walk_audit.proofs.stamped.late_frame.Goals as goal

pub returns-then-clock-free_stamp : goal.returns-then-clock-free_stamp
unfolding clock_value is_place number
returns-then-clock-free_stamp c =
    late_first _ (memory (sizes_of c.args.layout.now) c.args.words.now) (Refs c.args.frame) _ _ _ (cc) (grind (arith, nat_tests)) (omega arith) (omega arith) (omega arith)
    (frame_quiet _ _ c.args.frame _ c.requires.frame (omega arith) (λ l. absurd (omega arith)) (λ l. absurd (omega arith)))

pub returns-then-clock-kind_stamp : goal.returns-then-clock-kind_stamp
unfolding clock_value is_place number
returns-then-clock-kind_stamp c =
    late_first _ (memory (sizes_of c.args.layout.now) c.args.words.now) (Kind c.args.frame) _ _ _ (cc) (grind (arith, nat_tests)) (omega arith) (omega arith) (omega arith)
    (frame_quiet _ _ c.args.frame _ c.requires.frame (omega arith) (λ l. omega arith) (λ l. absurd (omega arith)))

pub returns-else-clock-kind_stamp : goal.returns-else-clock-kind_stamp
returns-else-clock-kind_stamp c =
    frame_quiet _ (memory (sizes_of c.args.layout.now) c.args.words.now) c.args.frame _ c.requires.frame (omega arith) (λ l. omega arith) (λ l. omega arith)
