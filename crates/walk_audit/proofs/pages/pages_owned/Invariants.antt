use Rattle.std.proofs.Common.{◌≡◌, ◌<◌, ℕ, length, slice_index}
use Rattle.xp_words.specs.declared.place.Place.TheVariants.{Refs}
use Rattle.xp_words.specs.Places.{sizes_of, memory}
use Rattle.xp_board.specs.Sums.{sum_below}
use Rattle.xp_board.specs.Recorded.{is_page_of}
use Rattle.walk_audit.proofs.pages.pages_owned.Given as goal

abbrev pub invariant-loop-frame : goal.invariant-loop-frame
invariant-loop-frame l =
    record {
      len : length l.counts ≡ 16;
      each : (d : ℕ) → d < 16 → slice_index l.counts d ≡ sum_below l.frame (λ f. is_page_of d (memory (sizes_of l.layout) l.words (Refs f)));
    }
