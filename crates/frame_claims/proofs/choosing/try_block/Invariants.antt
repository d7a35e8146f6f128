use Rattle.std.proofs.Common.{◌+◌, ◌<◌, ◌≤◌, ◌^◌, ◌≡◌, ℕ, length, slice_index_or}
use Rattle.flush_waits.specs.Waiting.{HadFree}
use Rattle.step_maker.specs.Visits.{Does}
use Rattle.frame_claims.specs.Found.{AllFree}
use Rattle.frame_claims.specs.Choosing.{IsLatest, Looks, StillFree, greatest}
use Rattle.frame_claims.proofs.choosing.try_block.Given as goal

abbrev pub invariant-loop-frame : goal.invariant-loop-frame
invariant-loop-frame g l =
    let v = g.P.Port.value l.fn.port in
    let u = g.P.Port.value l.port in
    record {
      looks : Looks v u;
      count : l.first + length l.stamps.items ≡ l.frame;
      low : (j : ℕ) → j < length l.stamps.items → slice_index_or l.stamps.items j 0 < 2 ^ 36;
      seen : (j : ℕ) → j < length l.stamps.items → StillFree v u (l.first + j) (slice_index_or l.stamps.items j 0);
      free : (j : ℕ) → j < length l.stamps.items → HadFree u.post.machine (l.first + j) (slice_index_or l.stamps.items j 0) u.holdings;
      most : (j : ℕ) → j < length l.stamps.items → slice_index_or l.stamps.items j 0 ≤ l.greatest;
      visits : Does v u (λ vs. AllFree l.first l.stamps.items vs);
      stamp : l.greatest ≡ greatest l.stamps.items;
      none : length l.stamps.items ≡ 0 → l.greatest ≡ 0;
      latest : 0 < length l.stamps.items → IsLatest v u l.first l.frame l.latest l.greatest;
    }
