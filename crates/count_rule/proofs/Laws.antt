-- What each mark and each act leaves.
use Rattle.std.proofs.Common.{◌≡◌, ◌≢◌, ℕ, ◌<◌, [], refl, ◌∙◌, ap}
use Rattle.xp_words.specs.Machine.{Machine}
use Rattle.xp_words.specs.declared.place.Place.{Place}
use Rattle.xp_words.specs.Places.{sizes_of}
use Rattle.xp_board.specs.declared.holdings.Holdings.{Holdings}
use Rattle.xp_board.specs.declared.step.Step.{Step}
use Rattle.xp_board.specs.Keeping.{MayMark, Marked, MayAct, Acted}
use Rattle.xp_board.specs.Sound.{Sound}
use Rattle.step_effects.proofs.MarkEffects.{MarkEffect, mark_effect, nothing, turned, forgot, recorded_entry, shed_entry}
use Rattle.step_effects.proofs.ActEffects.{ActEffect}
use Rattle.step_effects.proofs.ActEffects as effects
use Rattle.step_effects.proofs.ActInversions.{act_effect}
use Rattle.count_rule.proofs.Learning.{Same, same_hand, same_refl, empty_kept, kept_same, kept_of-none}
use Rattle.count_rule.proofs.PartLaws.{idle_fewer}
use Rattle.count_rule.proofs.Outcome.{Outcome, calm_same, quiet_outcome}
use Rattle.count_rule.proofs.QuietActs as quiet
use Rattle.xp_board.specs.KindSteps.{Count, Locks, Pin, Unpin, Resume, TakeBack, Begin, Live, Partial, InWork, Dead}
use Rattle.count_rule.proofs.RefActs as refs
use Rattle.count_rule.proofs.TurnActs as turns
use Rattle.count_rule.proofs.FrameActs as frames
use Rattle.count_rule.proofs.PartialActs as partials
use Rattle.count_rule.proofs.AwayActs as away
use Rattle.count_rule.proofs.ExchangeActs as exchanges
use Rattle.count_rule.proofs.NameActs as names
use Rattle.count_rule.proofs.CellActs as cells
use Rattle.count_rule.proofs.WorkActs as work
use Rattle.count_rule.proofs.DownActs as downs
use Rattle.count_rule.proofs.StoreActs as stores
use Rattle.count_rule.proofs.PageActs as pages
use Rattle.count_rule.proofs.HintActs as hints
use Rattle.count_rule.proofs.RecordMarks as entries

module _ (n : Machine) (s : ℕ) (x : Step) (m m2 : Place → ℕ) (b c : ℕ → Holdings) (vcpu : s < (sizes_of n).vcpus) (others : (t : ℕ) → t ≢ s → c t ≡ b t) (may : MayAct n s x (b s)) (sound : Sound n m b) where
  act_by : ActEffect n s x m m2 (b s) (c s) → Outcome n m2 c
  act_by (effects.looked p d) = quiet.looked_outcome n s x m m2 b c vcpu others may sound p d
  act_by (effects.raised f d) = refs.raised_outcome n s x m m2 b c vcpu others may sound f d
  act_by (effects.cleared f d) = refs.cleared_outcome n s x m m2 b c vcpu others may sound f d
  act_by (effects.took f d) = frames.took_outcome n s x m m2 b c vcpu others may sound f d
  act_by (effects.lowered f d) = refs.lowered_outcome n s x m m2 b c vcpu others may sound f d
  act_by (effects.freed_frame f d) = frames.freed_outcome n s x m m2 b c vcpu others may sound f d
  act_by (effects.gave f d) = frames.gave_outcome n s x m m2 b c vcpu others may sound f d
  act_by (effects.turned f Count d) = turns.count_outcome n s x m m2 b c vcpu others may sound f d
  act_by (effects.turned f Locks d) = turns.lock_outcome n s x m m2 b c vcpu others may sound f d
  act_by (effects.turned f Pin d) = turns.pin_outcome n s x m m2 b c vcpu others may sound f d
  act_by (effects.turned f Unpin d) = turns.unpin_outcome n s x m m2 b c vcpu others may sound f d
  act_by (effects.turned f Resume d) = work.resume_outcome n s x m m2 b c vcpu others may sound f d
  act_by (effects.turned f TakeBack d) = turns.take_back_outcome n s x m m2 b c vcpu others may sound f d
  act_by (effects.turned f Begin d) = work.begin_outcome n s x m m2 b c vcpu others may sound f d
  act_by (effects.missed f d) = quiet.missed_outcome n s x m m2 b c vcpu others may sound f d
  act_by (effects.dropped_type f d) = downs.dropped_outcome n s x m m2 b c vcpu others may sound f d
  act_by (effects.unlocked_table f d) = downs.unlocked_outcome n s x m m2 b c vcpu others may sound f d
  act_by (effects.stored f Live d) = stores.live_stored n s x m m2 b c vcpu others may sound f d
  act_by (effects.stored f Partial d) = partials.partial_stored n s x m m2 b c vcpu others may sound f d
  act_by (effects.stored f InWork d) = stores.work_stored n s x m m2 b c vcpu others may sound f d
  act_by (effects.stored f Dead d) = stores.dead_stored n s x m m2 b c vcpu others may sound f d
  act_by (effects.exchanged f i d) = exchanges.exchanged_outcome n s x m m2 b c vcpu others may sound f i d
  act_by (effects.rewrote f i d) = cells.rewrote_outcome n s x m m2 b c vcpu others may sound f i d
  act_by (effects.filled f i d) = cells.filled_outcome n s x m m2 b c vcpu others may sound f i d
  act_by (effects.guest_stored f i d) = cells.guest_outcome n s x m m2 b c vcpu others may sound f i d
  act_by (effects.started_walk k d) = quiet.started_outcome n s x m m2 b c vcpu others may sound k d
  act_by (effects.went_on f i d) = quiet.went_on_outcome n s x m m2 b c vcpu others may sound f i d
  act_by (effects.touched_entry f i d) = cells.touched_outcome n s x m m2 b c vcpu others may sound f i d
  act_by (effects.stumbled f i d) = quiet.stumbled_outcome n s x m m2 b c vcpu others may sound f i d
  act_by (effects.mapped f d) = away.mapped_outcome n s x m m2 b c vcpu others may sound f d
  act_by (effects.charged e d) = pages.charged_outcome n s x m m2 b c vcpu others may sound e d
  act_by (effects.refunded e by d) = pages.refunded_outcome n s x m m2 b c vcpu others may sound e by d
  act_by (effects.named_frame v k d) = names.named_outcome n s x m m2 b c vcpu others may sound v k d
  act_by (effects.based v d) = away.based_outcome n s x m m2 b c vcpu others may sound v d
  act_by (effects.asked v d) = away.asked_outcome n s x m m2 b c vcpu others may sound v d
  act_by (effects.flushed d) = away.flushed_outcome n s x m m2 b c vcpu others may sound d
  act_by (effects.ran d) = away.ran_outcome n s x m m2 b c vcpu others may sound d
  act_by (effects.ticked d) = away.ticked_outcome n s x m m2 b c vcpu others may sound d
  act_by (effects.doomed e d) = away.doomed_outcome n s x m m2 b c vcpu others may sound e d
  act_by (effects.buried e d) = away.buried_outcome n s x m m2 b c vcpu others may sound e d
  act_by (effects.hinted k by d) = hints.hinted_outcome n s x m m2 b c vcpu others may sound k by d
  act_by (effects.privileged e d) = away.privileged_outcome n s x m m2 b c vcpu others may sound e d

pub act_outcome : (n : Machine) (s : ℕ) (x : Step) (m m2 : Place → ℕ) (b c : ℕ → Holdings) → s < (sizes_of n).vcpus → MayAct n s x (b s) → Acted n s x m m2 b c → Sound n m b → Outcome n m2 c
act_outcome n s x m m2 b c vcpu may acted sound = act_by n s x m m2 b c vcpu acted.others may sound (act_effect n s x m m2 b c may acted)

-- ---- marks
module _ (n : Machine) (s : ℕ) (x : Step) (m : Place → ℕ) (h b : ℕ → Holdings) (vcpu : s < (sizes_of n).vcpus) (others : (t : ℕ) → t ≢ s → b t ≡ h t) (may : MayMark n x (h s)) (sound : Sound n m h) where
  -- nothing moves but the cache, which may lose items, and the turn
  fewer_outcome : Same (h s) (b s) → (b s).looking ≡ (h s).looking → (b s).cold ≡ (h s).cold → ((h s).cache ≡ [] → (b s).cache ≡ []) → (b s).walk ≡ (h s).walk → Outcome n m b
  fewer_outcome same looking cold cache walk =
      let kept = kept_same (h s) (b s) same in
      quiet_outcome n s m m h b vcpu others sound (calm_same n s m m h b vcpu others (λ q. refl)) kept (λ d. refl) (λ k. refl) sound.spelled sound.stamped
      (idle_fewer n s m m h b vcpu others (λ v. refl) (empty_kept (h s) (b s) kept (λ e. looking ∙ e)) cold cache (λ e. walk ∙ e) sound.idle)

  mark_by : MarkEffect n (h s) (b s) → Outcome n m b
  mark_by (nothing d) = fewer_outcome (rw d (same_hand (h s))) (rw d refl) (rw d refl) (λ e. rw d e) (rw d refl)
  mark_by (turned d) =
      fewer_outcome (rw d (same_refl (h s) _ refl refl refl refl refl refl refl refl)) (ap (λ u. u.looking) d) (ap (λ u. u.cold) d) (λ e. ap (λ u. u.cache) d ∙ e) (ap (λ u. u.walk) d)
  mark_by (forgot page d) =
      fewer_outcome (rw d.hand (same_refl (h s) _ refl refl refl refl refl refl refl refl)) (ap (λ u. u.looking) d.hand) (ap (λ u. u.cold) d.hand)
      (λ e. ap (λ u. u.cache) d.hand ∙ kept_of-none _ _ e) (ap (λ u. u.walk) d.hand)
  mark_by (recorded_entry f upto d) = entries.recorded_outcome n s m h b vcpu others sound f upto d
  mark_by (shed_entry f upto d) = entries.shed_outcome n s m h b vcpu others sound f upto d

pub mark_outcome : (n : Machine) (s : ℕ) (x : Step) (m : Place → ℕ) (h b : ℕ → Holdings) → s < (sizes_of n).vcpus → MayMark n x (h s) → Marked n s x h b → Sound n m h → Outcome n m b
mark_outcome n s x m h b vcpu may marked sound = mark_by n s x m h b vcpu marked.others may sound (mark_effect n s x h b may marked)
