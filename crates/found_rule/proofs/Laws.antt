-- The laws: by the effect of the mark and of the act.
use Rattle.std.proofs.Common.{◌≡◌, ◌≢◌, ℕ, ◌<◌, false, length, inl, inr, arith}
use Rattle.std.proofs.lemmas.Bool.{cases_eq}
use Rattle.xp_words.specs.declared.kind.PageType.TheVariants as kinds
use Rattle.xp_words.specs.KindWords.{kind_fields}
use Rattle.xp_words.specs.Machine.{Machine}
use Rattle.xp_words.specs.declared.place.Place.{Place}
use Rattle.xp_words.specs.Places.{sizes_of}
use Rattle.xp_board.specs.declared.step.Step.{Step}
use Rattle.xp_board.specs.declared.holdings.Holdings.{Holdings}
use Rattle.xp_board.specs.Keeping.{MayMark, KeepsAct, KeepsMark}
use Rattle.xp_board.specs.Found.{Found}
use Rattle.xp_board.specs.WellFormed.{IsWorkFormed, WellFormed}
use Rattle.xp_board.specs.Sound.{Sound}
use Rattle.step_effects.proofs.MarkEffects.{MarkEffect, mark_effect}
use Rattle.step_effects.proofs.MarkEffects as marks
use Rattle.step_effects.proofs.ActEffects.{ActEffect}
use Rattle.step_effects.proofs.ActEffects as effects
use Rattle.step_effects.proofs.ActInversions.{act_effect}
use Rattle.found_rule.proofs.CellFacts.{FixedWorks}
use Rattle.found_rule.proofs.GuestSteps as guests
use Rattle.found_rule.proofs.TouchRows as touches
use Rattle.found_rule.proofs.Outcome.{found_by}
use Rattle.found_rule.proofs.Quiet.{Done}
use Rattle.found_rule.proofs.QuietSteps as quiet
use Rattle.found_rule.proofs.WordSteps as words
use Rattle.found_rule.proofs.RefSteps as refs
use Rattle.found_rule.proofs.FreeSteps as frees
use Rattle.found_rule.proofs.NameSteps as names
use Rattle.found_rule.proofs.FlushSteps as flushes
use Rattle.found_rule.proofs.RunSteps as runs
use Rattle.found_rule.proofs.HintSteps as hints
use Rattle.found_rule.proofs.KindWorkRows as rows
use Rattle.found_rule.proofs.KindDowns as downs
use Rattle.found_rule.proofs.StoreForms as stores
use Rattle.found_rule.proofs.WalkRows as walks
use Rattle.found_rule.proofs.CellSteps as cells
use Rattle.found_rule.proofs.FillSteps as fills
use Rattle.found_rule.proofs.MarkSteps as turns
use Rattle.found_rule.proofs.RecordMarks as entries
use Rattle.xp_board.proofs.HandLists.{EachOf-map}

-- ---- acts
module _ (n : Machine) (s : ℕ) (x : Step) (m m2 : Place → ℕ) (b c : ℕ → Holdings) (l : s < (sizes_of n).vcpus) (sound : Sound n m b) (others : (t : ℕ) → t ≢ s → c t ≡ b t) where
  -- only descriptor pages that are flushed have words that are known to be fixed
  fixed : FixedWorks n b
  fixed t k =
      EachOf-map (IsWorkFormed n (b t)) (λ e. 0 < e.fixed → ((kind_fields e.word).unflushed ≡ false) × ((kind_fields e.word).kind ≡ kinds.Desc)) (b t).works (λ e h. h.fixed) (sound.formed t k).works

  act_by : ActEffect n s x m m2 (b s) (c s) → Done n s m m2 b c
  unfolding fixed
  act_by (effects.looked p d) = quiet.looked_done n s x m m2 b c l sound others p d
  act_by (effects.raised f d) = refs.raised_done n s x m m2 b c l sound others f d
  act_by (effects.cleared f d) = refs.cleared_done n s x m m2 b c l sound others f d
  act_by (effects.took f d) = frees.took_done n s x m m2 b c l sound others f d
  act_by (effects.lowered f d) = refs.lowered_done n s x m m2 b c l sound others f d
  act_by (effects.freed_frame f d) = frees.freed_done n s x m m2 b c l sound others f d
  act_by (effects.gave f d) = frees.gave_done n s x m m2 b c l sound others f d
  act_by (effects.turned f row d) = rows.turned_done n s x m m2 b c l sound others f row d
  act_by (effects.missed f d) = quiet.missed_done n s x m m2 b c l sound others f d
  act_by (effects.dropped_type f d) = downs.dropped_done n s x m m2 b c l sound others f d
  act_by (effects.unlocked_table f d) = downs.unlocked_done n s x m m2 b c l sound others f d
  act_by (effects.stored f form d) = stores.stored_done n s x m m2 b c l sound others f form d
  act_by (effects.exchanged f i d) = cells.exchanged_done n s x m m2 b c l sound others f i d
  act_by (effects.rewrote f i d) = cells.rewrote_done n s x m m2 b c l sound others f i d
  act_by (effects.filled f i d) = fills.filled_done n s x m m2 b c l sound others f i d
  act_by (effects.guest_stored f i d) = guests.guest_stored_done n s x m m2 b c l sound others f i fixed d
  act_by (effects.started_walk k d) = walks.started_done n s x m m2 b c l sound others k d
  act_by (effects.went_on f i d) = walks.went_on_done n s x m m2 b c l sound others f i d
  act_by (effects.touched_entry f i d) = touches.touched_done n s x m m2 b c l sound others f i fixed d
  act_by (effects.stumbled f i d) = walks.stumbled_done n s x m m2 b c l sound others f i d
  act_by (effects.mapped f d) = quiet.mapped_done n s x m m2 b c l sound others f d
  act_by (effects.charged e d) = quiet.charged_done n s x m m2 b c l sound others e d
  act_by (effects.refunded e by d) = quiet.refunded_done n s x m m2 b c l sound others e by d
  act_by (effects.named_frame v k d) = names.named_done n s x m m2 b c l sound others v k d
  act_by (effects.based v d) = names.based_done n s x m m2 b c l sound others v d
  act_by (effects.asked v d) = quiet.asked_done n s x m m2 b c l sound others v d
  act_by (effects.flushed d) = flushes.flushed_done n s x m m2 b c l sound others d
  act_by (effects.ran d) = runs.ran_step n s x m m2 b c l sound others d
  act_by (effects.ticked d) = words.ticked_done n s x m m2 b c l sound others d
  act_by (effects.doomed e d) = words.doomed_done n s x m m2 b c l sound others e d
  act_by (effects.buried e d) = words.buried_done n s x m m2 b c l sound others e d
  act_by (effects.hinted k by d) = hints.hinted_done n s x m m2 b c l sound others k by d
  act_by (effects.privileged e d) = words.privileged_done n s x m m2 b c l sound others e d

pub found_at_acts : KeepsAct (λ n m h. (s : ℕ) → s < (sizes_of n).vcpus → Found n m h s)
found_at_acts n s x m m2 b c l may acted sound =
    found_by n s m m2 b c l sound acted.others (act_by n s x m m2 b c l sound acted.others (act_effect n s x m m2 b c may acted)).found

pub formed_at_acts : KeepsAct (λ n m h. (s : ℕ) → s < (sizes_of n).vcpus → WellFormed n s (h s))
formed_at_acts n s x m m2 b c l may acted sound t k =
    elim (cases_eq t s) [
      | inl at ↦ rw at (act_by n s x m m2 b c l sound acted.others (act_effect n s x m m2 b c may acted)).formed
      | inr off ↦ rw (acted.others t off) (sound.formed t k)
    ]

-- ---- marks
module _ (n : Machine) (s : ℕ) (x : Step) (m : Place → ℕ) (h b : ℕ → Holdings) (l : s < (sizes_of n).vcpus) (sound : Sound n m h) (others : (t : ℕ) → t ≢ s → b t ≡ h t) (may : MayMark n x (h s)) where
  mark_found : MarkEffect n (h s) (b s) → (t : ℕ) → t < (sizes_of n).vcpus → Found n m b t
  mark_found (marks.nothing e) = turns.turned_found n s m h b l sound others (h s).turn e
  mark_found (marks.turned e) = turns.turned_found n s m h b l sound others (length (h s).steps) e
  mark_found (marks.forgot page d) = turns.forgot_found n s m h b l sound others page d
  mark_found (marks.recorded_entry f upto d) = entries.recorded_found n s m h b l sound others f upto d
  mark_found (marks.shed_entry f upto d) = entries.shed_found n s m h b l sound others f upto d

  mark_formed : MarkEffect n (h s) (b s) → (t : ℕ) → t < (sizes_of n).vcpus → WellFormed n t (b t)
  mark_formed (marks.nothing e) = turns.turned_formed n s m h b l sound others (h s).turn e (sound.formed s l).turn
  mark_formed (marks.turned e) = turns.turned_formed n s m h b l sound others (length (h s).steps) e (omega arith)
  mark_formed (marks.forgot page d) = turns.forgot_formed n s m h b l sound others page d
  mark_formed (marks.recorded_entry f upto d) = entries.recorded_formed n s m h b l sound others f upto d
  mark_formed (marks.shed_entry f upto d) = entries.shed_formed n s m h b l sound others f upto d

pub found_at_marks : KeepsMark (λ n m h. (s : ℕ) → s < (sizes_of n).vcpus → Found n m h s)
found_at_marks n s x m h b l may marked sound = mark_found n s x m h b l sound marked.others may (mark_effect n s x h b may marked)

pub formed_at_marks : KeepsMark (λ n m h. (s : ℕ) → s < (sizes_of n).vcpus → WellFormed n s (h s))
formed_at_marks n s x m h b l may marked sound = mark_formed n s x m h b l sound marked.others may (mark_effect n s x h b may marked)
