-- What entries and words of vCPUs lead to, and whom they are permitted, after each legal mark and after each legal act.
use Rattle.std.proofs.Common.{◌≡◌, ◌≢◌, ℕ, ◌<◌, ap}
use Rattle.xp_words.specs.Machine.{Machine}
use Rattle.xp_words.specs.declared.place.Place.{Place}
use Rattle.xp_words.specs.Places.{sizes_of}
use Rattle.xp_board.specs.declared.step.Step.{Step}
use Rattle.xp_board.specs.declared.holdings.Holdings.{Holdings}
use Rattle.xp_board.specs.Keeping.{KeepsMark, KeepsAct}
use Rattle.xp_board.specs.Valid.{Valid, Permitted}
use Rattle.xp_board.specs.Sound.{Sound}
use Rattle.step_effects.proofs.MarkEffects.{MarkEffect, nothing, turned as turned_mark, forgot, recorded_entry, shed_entry, mark_effect}
use Rattle.step_effects.proofs.ActInversions.{act_effect}
use Rattle.step_effects.proofs.ActEffects.{ActEffect, looked, raised, cleared, took, lowered, freed_frame, gave, turned, missed, dropped_type, unlocked_table, stored, exchanged, rewrote, filled, guest_stored, started_walk, went_on, touched_entry, stumbled, mapped, charged, refunded, named_frame, based, asked, flushed, ran, ticked, doomed, buried, hinted, privileged}
use Rattle.type_rule.proofs.DomainLaws.{mark_two}
use Rattle.type_rule.proofs.MarkRows.{quiet_mark, mark_valid, mark_permitted}
use Rattle.type_rule.proofs.EntryMarks.{recorded_valid, recorded_permitted, shed_valid, shed_permitted}
use Rattle.type_rule.proofs.QuietLaw.{QuietAct, quiet_valid, quiet_permitted}
use Rattle.type_rule.proofs.QuietActs.{looked_quiet, missed_quiet, started_quiet, went_quiet, stumbled_quiet, ticked_quiet, mapped_quiet, charged_quiet, refunded_quiet, hinted_quiet, asked_quiet, flushed_quiet, based_quiet, ran_quiet, doomed_quiet, buried_quiet, privileged_quiet, raised_quiet, cleared_quiet, took_quiet, lowered_quiet, freed_quiet, gave_quiet}
use Rattle.type_rule.proofs.KindRows.{turned_valid, turned_permitted}
use Rattle.type_rule.proofs.KindDowns.{dropped_valid, dropped_permitted, unlocked_valid, unlocked_permitted}
use Rattle.type_rule.proofs.KindStores.{stored_valid, stored_permitted}
use Rattle.type_rule.proofs.CellRows.{rewrote_valid, rewrote_permitted, filled_valid, filled_permitted}
use Rattle.type_rule.proofs.GuestRows.{guest_valid, guest_permitted, touched_valid, touched_permitted}
use Rattle.type_rule.proofs.LockRows.{exchanged_valid, exchanged_permitted, named_valid, named_permitted}

-- what these two laws keep
pub record Entries (n : Machine) (m : Place → ℕ) (h : ℕ → Holdings) : Type 0 where
  pub valid : Valid (sizes_of n) m h
  pub permitted : Permitted n m h

-- ---- marks
module _ (n : Machine) (s : ℕ) (m : Place → ℕ) (h b : ℕ → Holdings) (real : s < (sizes_of n).vcpus) (sound : Sound n m h)
    (others : (t : ℕ) → t ≢ s → b t ≡ h t) (steps : (b s).steps ≡ (h s).steps) where
  quiet : (b s).works ≡ (h s).works → Entries n m b
  quiet works =
      let k = quiet_mark n s m h b real sound others steps works 0 in
      record { valid = mark_valid n s m h b real sound others steps 0 k; permitted = mark_permitted n s m h b real sound others steps 0 k }

  after_mark : MarkEffect n (h s) (b s) → Entries n m b
  after_mark (nothing e) = quiet (ap (λ u. u.works) e)
  after_mark (turned_mark e) = quiet (ap (λ u. u.works) e)
  after_mark (forgot page d) = quiet (ap (λ u. u.works) d.hand)
  after_mark (recorded_entry f upto d) =
      record { valid = recorded_valid n s m h b real sound others steps f upto d; permitted = recorded_permitted n s m h b real sound others steps f upto d }
  after_mark (shed_entry f upto d) =
      record { valid = shed_valid n s m h b real sound others steps f upto d; permitted = shed_permitted n s m h b real sound others steps f upto d }

marks_keep : KeepsMark Entries
marks_keep n s x m h b real may marked sound =
    let e = mark_effect n s x h b may marked in
    after_mark n s m h b real sound marked.others ((mark_two n (h s) (b s) e).steps) e

pub marks_keep_valid : KeepsMark (λ n m h. Valid (sizes_of n) m h)
marks_keep_valid n s x m h b real may marked sound = (marks_keep n s x m h b real may marked sound).valid

pub marks_keep_permitted : KeepsMark (λ n m h. Permitted n m h)
marks_keep_permitted n s x m h b real may marked sound = (marks_keep n s x m h b real may marked sound).permitted

-- ---- acts
module _ (n : Machine) (s : ℕ) (x : Step) (m m2 : Place → ℕ) (b c : ℕ → Holdings) (real : s < (sizes_of n).vcpus) (sound : Sound n m b)
    (others : (t : ℕ) → t ≢ s → c t ≡ b t) where
  by_quiet : QuietAct n s x m m2 b c → Entries n m2 c
  by_quiet k = record { valid = quiet_valid n s x m m2 b c real sound k; permitted = quiet_permitted n s x m m2 b c real sound k }

  after_act : ActEffect n s x m m2 (b s) (c s) → Entries n m2 c
  after_act (looked p d) = by_quiet (looked_quiet n s x m m2 b c real sound others p d)
  after_act (raised f d) = by_quiet (raised_quiet n s x m m2 b c real sound others f d)
  after_act (cleared f d) = by_quiet (cleared_quiet n s x m m2 b c real sound others f d)
  after_act (took f d) = by_quiet (took_quiet n s x m m2 b c real sound others f d)
  after_act (lowered f d) = by_quiet (lowered_quiet n s x m m2 b c real sound others f d)
  after_act (freed_frame f d) = by_quiet (freed_quiet n s x m m2 b c real sound others f d)
  after_act (gave f d) = by_quiet (gave_quiet n s x m m2 b c real sound others f d)
  after_act (missed f d) = by_quiet (missed_quiet n s x m m2 b c real sound others f d)
  after_act (started_walk k d) = by_quiet (started_quiet n s x m m2 b c real sound others k d)
  after_act (went_on f i d) = by_quiet (went_quiet n s x m m2 b c real sound others f i d)
  after_act (stumbled f i d) = by_quiet (stumbled_quiet n s x m m2 b c real sound others f i d)
  after_act (mapped f d) = by_quiet (mapped_quiet n s x m m2 b c real sound others f d)
  after_act (charged p d) = by_quiet (charged_quiet n s x m m2 b c real sound others p d)
  after_act (refunded p by d) = by_quiet (refunded_quiet n s x m m2 b c real sound others p by d)
  after_act (based v d) = by_quiet (based_quiet n s x m m2 b c real sound others v d)
  after_act (asked v d) = by_quiet (asked_quiet n s x m m2 b c real sound others v d)
  after_act (flushed d) = by_quiet (flushed_quiet n s x m m2 b c real sound others d)
  after_act (ran d) = by_quiet (ran_quiet n s x m m2 b c real sound others d)
  after_act (ticked d) = by_quiet (ticked_quiet n s x m m2 b c real sound others d)
  after_act (doomed p d) = by_quiet (doomed_quiet n s x m m2 b c real sound others p d)
  after_act (buried p d) = by_quiet (buried_quiet n s x m m2 b c real sound others p d)
  after_act (hinted k by d) = by_quiet (hinted_quiet n s x m m2 b c real sound others k by d)
  after_act (privileged p d) = by_quiet (privileged_quiet n s x m m2 b c real sound others p d)
  after_act (turned f row d) = record { valid = turned_valid n s x m m2 b c real sound others f row d; permitted = turned_permitted n s x m m2 b c real sound others f row d }
  after_act (dropped_type f d) = record { valid = dropped_valid n s x m m2 b c real sound others f d; permitted = dropped_permitted n s x m m2 b c real sound others f d }
  after_act (unlocked_table f d) = record { valid = unlocked_valid n s x m m2 b c real sound others f d; permitted = unlocked_permitted n s x m m2 b c real sound others f d }
  after_act (stored f form d) = record { valid = stored_valid n s x m m2 b c real sound others f form d; permitted = stored_permitted n s x m m2 b c real sound others f form d }
  after_act (exchanged f i d) = record { valid = exchanged_valid n s x m m2 b c real sound others f i d; permitted = exchanged_permitted n s x m m2 b c real sound others f i d }
  after_act (rewrote f i d) = record { valid = rewrote_valid n s x m m2 b c real sound others f i d; permitted = rewrote_permitted n s x m m2 b c real sound others f i d }
  after_act (filled f i d) = record { valid = filled_valid n s x m m2 b c real sound others f i d; permitted = filled_permitted n s x m m2 b c real sound others f i d }
  after_act (guest_stored f i d) = record { valid = guest_valid n s x m m2 b c real sound others f i d; permitted = guest_permitted n s x m m2 b c real sound others f i d }
  after_act (touched_entry f i d) = record { valid = touched_valid n s x m m2 b c real sound others f i d; permitted = touched_permitted n s x m m2 b c real sound others f i d }
  after_act (named_frame v k d) = record { valid = named_valid n s x m m2 b c real sound others v k d; permitted = named_permitted n s x m m2 b c real sound others v k d }

acts_keep : KeepsAct Entries
acts_keep n s x m m2 b c real may acted sound = after_act n s x m m2 b c real sound acted.others (act_effect n s x m m2 b c may acted)

pub acts_keep_valid : KeepsAct (λ n m h. Valid (sizes_of n) m h)
acts_keep_valid n s x m m2 b c real may acted sound = (acts_keep n s x m m2 b c real may acted sound).valid

pub acts_keep_permitted : KeepsAct (λ n m h. Permitted n m h)
acts_keep_permitted n s x m m2 b c real may acted sound = (acts_keep n s x m m2 b c real may acted sound).permitted
