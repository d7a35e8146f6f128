use Rattle.std.proofs.Common.{◌≡◌, ℕ, ◌<◌, length}
use Rattle.xp_words.specs.Places.{sizes_of, memory}
use Rattle.reference_recount.specs.Recounted.{tally_at}
use Rattle.reference_recount.specs.Growth.{IsOfMarks}
use Rattle.reference_recount.proofs.tallies.own_tallies.Given as goal

abbrev pub invariant-loop-frame : goal.invariant-loop-frame
invariant-loop-frame l =
    record {
      len : length l.tallies.items ≡ l.frame;
      each : (g : ℕ) → g < l.frame → IsOfMarks (memory (sizes_of l.fn.layout) l.fn.words) g (tally_at l.tallies.items g);
    }
