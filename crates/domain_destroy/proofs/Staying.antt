-- What a destroying vCPU has found stays found behind more steps.
use Rattle.std.proofs.Common.{ℕ, ◌≤◌, inl, inr, List, length, arith}
use Rattle.xp_words.specs.Machine.{Machine}
use Rattle.xp_words.specs.declared.reply.LogLine.{LogLine}
use Rattle.xp_board.specs.LifeSteps.{HasCleared, HasEmptied, HasStopped}
use Rattle.xp_board.specs.Told.{PortValue}
use Rattle.step_maker.specs.Moves.{Came}
use Rattle.flush_words.proofs.Lasting.{came_keeps, came_longer}
use Rattle.dead_domains.specs.Listing.{IsListed}
use Rattle.domain_destroy.specs.Coming.{FoundCleared, FoundEmpty, FoundListed, FoundStopped, FoundUnused, HasDoomed, IsUnused}

module _ (v w : PortValue) (came : Came v w) (n : Machine) (s d : ℕ) where
  order_stays : (since : ℕ) → since ≤ length v.holdings.steps → since ≤ length w.holdings.steps
  order_stays since early = let l = came_longer v w came in omega arith

  pub doomed_stays : (since : ℕ) → HasDoomed n s d since v.holdings → HasDoomed n s d since w.holdings
  doomed_stays since y = record { foreign = y.foreign; stored = came_keeps v w _ came y.stored; order = order_stays since y.order }

  pub found_stopped_stays : (k : ℕ) → FoundStopped n s d k v.holdings → FoundStopped n s d k w.holdings
  found_stopped_stays k y =
      record { since = y.since; doomed = doomed_stays y.since y.doomed; stopped = λ u low real of. came_keeps v w _ came (y.stopped u low real of) }

  pub has_stopped_stays : (upto : ℕ) → HasStopped n s d upto v.holdings → HasStopped n s d upto w.holdings
  has_stopped_stays upto y =
      record { since = y.since; stored = came_keeps v w _ came y.stored; stopped = λ u real of. came_keeps v w _ came (y.stopped u real of); order = y.order }

  pub has_emptied_stays : (upto : ℕ) → HasEmptied n s d upto v.holdings → HasEmptied n s d upto w.holdings
  has_emptied_stays upto y =
      record {
        since = y.since;
        stopped = has_stopped_stays y.since y.stopped;
        empty = λ u j real of inside context. came_keeps v w _ came (y.empty u j real of inside context);
        order = y.order;
      }

  pub found_empty_stays : (k : ℕ) → FoundEmpty n s d k v.holdings → FoundEmpty n s d k w.holdings
  found_empty_stays k y =
      record {
        foreign = y.foreign;
        since = y.since;
        stopped = has_stopped_stays y.since y.stopped;
        order = order_stays y.since y.order;
        empty = λ u j low real of inside context. came_keeps v w _ came (y.empty u j low real of inside context);
      }

  pub has_cleared_stays : (f since : ℕ) → HasCleared n f since v.holdings → HasCleared n f since w.holdings
  has_cleared_stays f since y =
      record { unallocated = came_keeps v w _ came y.unallocated; unpinned = came_keeps v w _ came y.unpinned; unkept = came_keeps v w _ came y.unkept }

  pub found_cleared_stays : (k since : ℕ) → FoundCleared n s d k since v.holdings → FoundCleared n s d k since w.holdings
  found_cleared_stays k since y =
      record {
        foreign = y.foreign;
        emptied = has_emptied_stays since y.emptied;
        order = order_stays since y.order;
        cleared = λ f low real. elim (y.cleared f low real) [
          | inl others ↦ inl (came_keeps v w _ came others)
          | inr marks ↦ inr (has_cleared_stays f since marks)
        ];
      }

  pub unused_stays : (since f : ℕ) → IsUnused n d since f v.holdings → IsUnused n d since f w.holdings
  unused_stays since f (inl others) = inl (came_keeps v w _ came others)
  unused_stays since f (inr unused) = inr (came_keeps v w _ came unused)

  pub found_unused_stays : (since : ℕ) → FoundUnused n s d since v.holdings → FoundUnused n s d since w.holdings
  found_unused_stays since y = record { cleared = found_cleared_stays n.frames since y.cleared; unused = λ f real. unused_stays since f (y.unused f real) }

  pub is_listed_stays : (since f op : ℕ) (log : List LogLine) → IsListed n d since f v.holdings op log → IsListed n d since f w.holdings op log
  is_listed_stays since f op log y =
      record { word = y.word; line = y.line; found = came_keeps v w _ came y.found; owned = y.owned; counted = y.counted }

  pub found_listed_stays : (k since op : ℕ) (log : List LogLine) → FoundListed n s d k since v.holdings op log → FoundListed n s d k since w.holdings op log
  found_listed_stays k since op log y =
      record {
        unused = found_unused_stays since y.unused;
        listed = λ f low real. elim (y.listed f low real) [
          | inl others ↦ inl (came_keeps v w _ came others)
          | inr line ↦ inr (is_listed_stays since f op log line)
        ];
      }
