-- Each legal act leaves Fresh.
use Rattle.std.proofs.Common.{ℕ, ◌<◌}
use Rattle.xp_words.specs.Machine.{Machine}
use Rattle.xp_words.specs.declared.place.Place.{Place}
use Rattle.xp_words.specs.Places.{sizes_of}
use Rattle.xp_board.specs.declared.step.Step.{Step}
use Rattle.xp_board.specs.declared.holdings.Holdings.{Holdings}
use Rattle.xp_board.specs.Fresh.{Fresh}
use Rattle.xp_board.specs.Keeping.{Acted, KeepsAct}
use Rattle.xp_board.specs.Sound.{Sound}
use Rattle.step_effects.proofs.ActEffects.{ActEffect, looked, raised, cleared, took, lowered, freed_frame, gave, turned, missed, dropped_type, unlocked_table, stored, exchanged, rewrote, filled, guest_stored, started_walk, went_on, touched_entry, stumbled, mapped, charged, refunded, named_frame, based, asked, flushed, ran, ticked, doomed, buried, hinted, privileged}
use Rattle.step_effects.proofs.ActInversions.{act_effect}
use Rattle.stale_rule.proofs.Quiet.{look_row, miss_row, stumble_row, map_row, charge_row, refund_row, name_row, base_row, ask_row, run_row, tick_row, doom_row, bury_row, hint_row}
use Rattle.stale_rule.proofs.RefRows.{raise_row, clear_row, lower_row, privilege_row}
use Rattle.stale_rule.proofs.FreeRows.{take_row, free_row, give_row}
use Rattle.stale_rule.proofs.CellRows.{fill_row, guest_row}
use Rattle.stale_rule.proofs.LockRows.{exchange_row, rewrite_row}
use Rattle.stale_rule.proofs.WalkRows.{start_row, walk_row, touch_row}
use Rattle.stale_rule.proofs.FlushRow.{flush_row}
use Rattle.stale_rule.proofs.KindRows.{turn_row, drop_row, unlock_row}
use Rattle.stale_rule.proofs.StoreRows.{store_row}

module _ (n : Machine) (s : ℕ) (x : Step) (m m2 : Place → ℕ) (b c : ℕ → Holdings) (real : s < (sizes_of n).vcpus)
    (acted : Acted n s x m m2 b c) (sound : Sound n m b) where
  effect_row : ActEffect n s x m m2 (b s) (c s) → Fresh n m2 c
  effect_row (looked p d) = look_row n s x m m2 b c acted sound p d
  effect_row (raised f d) = raise_row n s x m m2 b c acted sound f d
  effect_row (cleared f d) = clear_row n s x m m2 b c acted sound f d
  effect_row (took f d) = take_row n s x m m2 b c real acted sound f d
  effect_row (lowered f d) = lower_row n s x m m2 b c real acted sound f d
  effect_row (freed_frame f d) = free_row n s x m m2 b c real acted sound f d
  effect_row (gave f d) = give_row n s x m m2 b c real acted sound f d
  effect_row (turned f row d) = turn_row n s x m m2 b c acted sound f row d
  effect_row (missed f d) = miss_row n s x m m2 b c acted sound f d
  effect_row (dropped_type f d) = drop_row n s x m m2 b c real acted sound f d
  effect_row (unlocked_table f d) = unlock_row n s x m m2 b c real acted sound f d
  effect_row (stored f form d) = store_row n s x m m2 b c real acted sound f form d
  effect_row (exchanged f i d) = exchange_row n s x m m2 b c real acted sound f i d
  effect_row (rewrote f i d) = rewrite_row n s x m m2 b c real acted sound f i d
  effect_row (filled f i d) = fill_row n s x m m2 b c real acted sound f i d
  effect_row (guest_stored f i d) = guest_row n s x m m2 b c real acted sound f i d
  effect_row (started_walk k d) = start_row n s x m m2 b c real acted sound k d
  effect_row (went_on f i d) = walk_row n s x m m2 b c real acted sound f i d
  effect_row (touched_entry f i d) = touch_row n s x m m2 b c real acted sound f i d
  effect_row (stumbled f i d) = stumble_row n s x m m2 b c acted sound f i d
  effect_row (mapped f d) = map_row n s x m m2 b c acted sound f d
  effect_row (charged e d) = charge_row n s x m m2 b c acted sound e d
  effect_row (refunded e by d) = refund_row n s x m m2 b c acted sound e by d
  effect_row (named_frame v k d) = name_row n s x m m2 b c acted sound v k d
  effect_row (based v d) = base_row n s x m m2 b c acted sound v d
  effect_row (asked v d) = ask_row n s x m m2 b c acted sound v d
  effect_row (flushed d) = flush_row n s x m m2 b c acted sound d
  effect_row (ran d) = run_row n s x m m2 b c acted sound d
  effect_row (ticked d) = tick_row n s x m m2 b c acted sound d
  effect_row (doomed e d) = doom_row n s x m m2 b c acted sound e d
  effect_row (buried e d) = bury_row n s x m m2 b c acted sound e d
  effect_row (hinted k by d) = hint_row n s x m m2 b c acted sound k by d
  effect_row (privileged e d) = privilege_row n s x m m2 b c acted sound e d

pub act_row : KeepsAct Fresh
act_row n s x m m2 b c real may acted sound = effect_row n s x m m2 b c real acted sound (act_effect n s x m m2 b c may acted)
