-- Steps on a domain's number of pages.
use Rattle.std.specs.Prelude.{ℕ, ◌-◌, ◌<◌, ◌≤◌, ◌^◌, ◌==◌, if◌then◌else◌}
use Rattle.xp_words.specs.declared.place.Place.{Place}
use Rattle.xp_words.specs.declared.place.Place.TheVariants.{Pages}
use Rattle.xp_board.specs.declared.step.Act.{Act}
use Rattle.xp_board.specs.declared.step.Act.TheVariants.{Cas, Add}
use Rattle.xp_board.specs.declared.holdings.Holdings.{Holdings}
use Rattle.xp_board.specs.Lists.{times, with_more, with_fewer}

-- pages are counted for the domain before there are frames for them; the word's spelling keeps the limit
pub record MayCharge (expected new : ℕ) : Type 0 where
  pub more : expected < new

-- so many pages as the vCPU has counted without a frame are given back
pub record MayRefund (d by : ℕ) (h : Holdings) : Type 0 where
  pub down : by < 2 ^ 64
  pub some : 0 < by
  pub credits : 2 ^ 64 - by ≤ times d h.credits

abbrev pub LegalPages : Holdings → Place → Act → Type 0
LegalPages h (Pages d) (Cas expected new) = MayCharge expected new
LegalPages h (Pages d) (Add by) = MayRefund d by h
LegalPages h _ _ = ⊥

abbrev pub after_pages : Place → Act → ℕ → Holdings → Holdings
after_pages (Pages d) (Cas expected new) w h =
    if w == expected then record h { credits = with_more (new - expected) d h.credits } else h
after_pages (Pages d) (Add by) w h = record h { credits = with_fewer (2 ^ 64 - by) d h.credits }
after_pages _ _ w h = h
