-- Dying and dead domains after each legal mark and after each legal act.
use Rattle.std.proofs.Common.{◌≡◌, ◌≢◌, ℕ, ◌<◌, IsTrue, ◌∙◌, ap, inl, inr, arith}
use Rattle.std.proofs.lemmas.Bool.{cases_eq}
use Rattle.std.proofs.lemmas.Bool.Decides.{nat_tests}
use Rattle.xp_words.specs.Machine.{Machine}
use Rattle.xp_words.specs.declared.place.Place.{Place}
use Rattle.xp_words.specs.declared.place.Place.TheVariants.{Life}
use Rattle.xp_words.specs.Places.{sizes_of, is_place}
use Rattle.xp_board.specs.declared.step.Step.{Step}
use Rattle.xp_board.specs.declared.holdings.Holdings.{Holdings}
use Rattle.xp_board.specs.Keeping.{KeepsMark, KeepsAct}
use Rattle.xp_board.specs.LifeSteps.{HasStopped}
use Rattle.xp_board.specs.Marks.{demand_seen}
use Rattle.xp_board.specs.Settling.{is_settled}
use Rattle.xp_board.specs.Sound.{Sound, KeptForNobody, DeadDomain, DyingDomain, Domains}
use Rattle.step_effects.proofs.MarkEffects.{MarkEffect, nothing, turned as turned_mark, forgot, recorded_entry, shed_entry, mark_effect}
use Rattle.step_effects.proofs.ActInversions.{act_effect}
use Rattle.step_effects.proofs.ActEffects.{ActEffect, looked, raised, cleared, took, lowered, freed_frame, gave, turned, missed, dropped_type, unlocked_table, stored, exchanged, rewrote, filled, guest_stored, started_walk, went_on, touched_entry, stumbled, mapped, charged, refunded, named_frame, based, asked, flushed, ran, ticked, doomed, buried, hinted, privileged}
use Rattle.type_rule.proofs.HandParts.{SameTwo, three_in, three_out}
use Rattle.type_rule.proofs.DomainLaw.{DomainChange, domains_law}
use Rattle.type_rule.proofs.DomainFrames.{raised_change, cleared_change, took_change, lowered_change, freed_change, gave_change}
use Rattle.type_rule.proofs.DomainKinds.{turned_change, missed_change, dropped_change, unlocked_change}
use Rattle.type_rule.proofs.DomainStores.{stored_change}
use Rattle.type_rule.proofs.DomainOthers.{looked_change, exchanged_change, rewrote_change, filled_change, guest_change, started_change, went_change, touched_change, stumbled_change, mapped_change, charged_change, refunded_change, asked_change, flushed_change, ticked_change, hinted_change, privileged_change}
use Rattle.type_rule.proofs.DomainVcpus.{named_change, based_change, ran_change}
use Rattle.type_rule.proofs.DomainLives.{doomed_law, buried_law}

-- ---- marks
pub mark_two : (n : Machine) (h b : Holdings) → MarkEffect n h b → SameTwo h b
mark_two n h b (nothing e) = record { looking = ap (λ u. u.looking) e; steps = ap (λ u. u.steps) e }
mark_two n h b (turned_mark e) = record { looking = ap (λ u. u.looking) e; steps = ap (λ u. u.steps) e }
mark_two n h b (forgot page d) = record { looking = ap (λ u. u.looking) d.hand; steps = ap (λ u. u.steps) d.hand }
mark_two n h b (recorded_entry f upto d) =
    let k = three_out (demand_seen d.e.recorded d.e) _ in
    record { looking = ap (λ u. u.looking) d.hand ∙ k.looking; steps = ap (λ u. u.steps) d.hand ∙ k.steps }
mark_two n h b (shed_entry f upto d) =
    let k = three_in (is_settled (sizes_of n) h d.e) (demand_seen upto d.e) _ in
    record { looking = ap (λ u. u.looking) d.hand ∙ k.looking; steps = ap (λ u. u.steps) d.hand ∙ k.steps }

module _ (n : Machine) (s : ℕ) (m : Place → ℕ) (h b : ℕ → Holdings) (two : SameTwo (h s) (b s)) (others : (t : ℕ) → t ≢ s → b t ≡ h t) where
  same_steps : (t : ℕ) → (b t).steps ≡ (h t).steps
  same_steps t = elim (cases_eq t s) [ inl at ↦ rw at two.steps | inr off ↦ ap (λ u. u.steps) (others t off) ]

  same_looking : (t : ℕ) → (b t).looking ≡ (h t).looking
  same_looking t = elim (cases_eq t s) [ inl at ↦ rw at two.looking | inr off ↦ ap (λ u. u.looking) (others t off) ]

  kept_mark : (d f : ℕ) → KeptForNobody n m h d f → KeptForNobody n m b d f
  kept_mark d f (inl unkept) = inl unkept
  kept_mark d f (inr l) =
      inr (record { vcpu = l.vcpu; real = l.real; looking = l.looking; here = rw (same_looking l.vcpu) l.here; frame = l.frame; owner = l.owner; word = l.word })

  dead_mark : (d : ℕ) → DeadDomain n m h d → DeadDomain n m b d
  dead_mark d y =
      record { unallocated = y.unallocated; unpinned = y.unpinned; unkept = λ f o. kept_mark d f (y.unkept f o); empty = y.empty; stopped = y.stopped }

  stopped_mark : (d t a : ℕ) → HasStopped n t d a (b t) → HasStopped n t d a (h t)
  stopped_mark d t a y =
      record { since = y.since; stored = rw (same_steps t) at y.stored; stopped = λ v l e. rw (same_steps t) at (y.stopped v l e); order = y.order }

  dying_mark : (d t : ℕ) → DyingDomain n m h d t → DyingDomain n m b d t
  dying_mark d t y =
      record {
        empty = λ v k a e o l u stored order halted found. y.empty v k a e o l u (rw (same_steps t) at stored) order (rw (same_steps t) at halted) (rw (same_steps t) at found);
        unallocated = λ f a k o found. y.unallocated f a (stopped_mark d t a k) o (rw (same_steps t) at found);
        unpinned = λ f a k o found. y.unpinned f a (stopped_mark d t a k) o (rw (same_steps t) at found);
        unkept = λ f a k o found. kept_mark d f (y.unkept f a (stopped_mark d t a k) o (rw (same_steps t) at found));
        other = λ f a k found. y.other f a (stopped_mark d t a k) (rw (same_steps t) at found);
      }

  domains_mark : Domains n m h → Domains n m b
  domains_mark y = record { dead = λ d l e. dead_mark d (y.dead d l e); dying = λ d t l u e. dying_mark d t (y.dying d t l u e) }

pub marks_keep_domains : KeepsMark (λ n m h. Domains n m h)
marks_keep_domains n s x m h b real may marked sound =
    domains_mark n s m h b (mark_two n (h s) (b s) (mark_effect n s x h b may marked)) marked.others sound.domains

-- ---- acts
module _ (n : Machine) (s : ℕ) (x : Step) (m m2 : Place → ℕ) (b c : ℕ → Holdings) (real : s < (sizes_of n).vcpus) (sound : Sound n m b)
    (others : (t : ℕ) → t ≢ s → c t ≡ b t) where
  by_change : DomainChange n s x m m2 b c → ((d : ℕ) → m2 (Life d) ≡ m (Life d)) → Domains n m2 c
  by_change k lives = domains_law n s x m m2 b c k sound lives

  inside : (d : ℕ) → IsTrue (is_place (sizes_of n) (Life d)) → d < (sizes_of n).domains
  unfolding is_place
  inside d k = grind (arith, nat_tests)

  domains_after : ActEffect n s x m m2 (b s) (c s) → Domains n m2 c
  domains_after (looked p d) = by_change (looked_change n s x m m2 b c real sound others p d) (λ q. d.words (Life q))
  domains_after (raised f d) = by_change (raised_change n s x m m2 b c real sound others f d) (λ q. d.wrote.others (Life q) (λ e. cc))
  domains_after (cleared f d) = by_change (cleared_change n s x m m2 b c real sound others f d) (λ q. d.wrote.others (Life q) (λ e. cc))
  domains_after (took f d) = by_change (took_change n s x m m2 b c real sound others f d) (λ q. d.wrote.others (Life q) (λ e. cc))
  domains_after (lowered f d) = by_change (lowered_change n s x m m2 b c real sound others f d) (λ q. d.wrote.others (Life q) (λ e. cc))
  domains_after (freed_frame f d) = by_change (freed_change n s x m m2 b c real sound others f d) (λ q. d.wrote.others (Life q) (λ e. cc))
  domains_after (gave f d) = by_change (gave_change n s x m m2 b c real sound others f d) (λ q. d.wrote.others (Life q) (λ e. cc))
  domains_after (turned f row d) = by_change (turned_change n s x m m2 b c real sound others f row d) (λ q. d.wrote.others (Life q) (λ e. cc))
  domains_after (missed f d) = by_change (missed_change n s x m m2 b c real sound others f d) (λ q. d.words (Life q))
  domains_after (dropped_type f d) = by_change (dropped_change n s x m m2 b c real sound others f d) (λ q. d.wrote.others (Life q) (λ e. cc))
  domains_after (unlocked_table f d) = by_change (unlocked_change n s x m m2 b c real sound others f d) (λ q. d.wrote.others (Life q) (λ e. cc))
  domains_after (stored f form d) = by_change (stored_change n s x m m2 b c real sound others f form d) (λ q. d.wrote.others (Life q) (λ e. cc))
  domains_after (exchanged f i d) = by_change (exchanged_change n s x m m2 b c real sound others f i d) (λ q. d.wrote.others (Life q) (λ e. cc))
  domains_after (rewrote f i d) = by_change (rewrote_change n s x m m2 b c real sound others f i d) (λ q. d.wrote.others (Life q) (λ e. cc))
  domains_after (filled f i d) = by_change (filled_change n s x m m2 b c real sound others f i d) (λ q. d.wrote.others (Life q) (λ e. cc))
  domains_after (guest_stored f i d) = by_change (guest_change n s x m m2 b c real sound others f i d) (λ q. d.wrote.others (Life q) (λ e. cc))
  domains_after (started_walk k d) = by_change (started_change n s x m m2 b c real sound others k d) (λ q. d.words (Life q))
  domains_after (went_on f i d) = by_change (went_change n s x m m2 b c real sound others f i d) (λ q. d.words (Life q))
  domains_after (touched_entry f i d) = by_change (touched_change n s x m m2 b c real sound others f i d) (λ q. d.wrote.others (Life q) (λ e. cc))
  domains_after (stumbled f i d) = by_change (stumbled_change n s x m m2 b c real sound others f i d) (λ q. d.words (Life q))
  domains_after (mapped f d) = by_change (mapped_change n s x m m2 b c real sound others f d) (λ q. d.wrote.others (Life q) (λ e. cc))
  domains_after (charged p d) = by_change (charged_change n s x m m2 b c real sound others p d) (λ q. d.wrote.others (Life q) (λ e. cc))
  domains_after (refunded p by d) = by_change (refunded_change n s x m m2 b c real sound others p by d) (λ q. d.wrote.others (Life q) (λ e. cc))
  domains_after (named_frame v k d) = by_change (named_change n s x m m2 b c real sound others v k d) (λ q. d.wrote.others (Life q) (λ e. cc))
  domains_after (based v d) = by_change (based_change n s x m m2 b c real sound others v d) (λ q. d.wrote.others (Life q) (λ e. cc))
  domains_after (asked v d) = by_change (asked_change n s x m m2 b c real sound others v d) (λ q. d.wrote.others (Life q) (λ e. cc))
  domains_after (flushed d) = by_change (flushed_change n s x m m2 b c real sound others d) (λ q. d.wrote.others (Life q) (λ e. cc))
  domains_after (ran d) = by_change (ran_change n s x m m2 b c real sound others d) (λ q. d.wrote.others (Life q) (λ e. cc))
  domains_after (ticked d) = by_change (ticked_change n s x m m2 b c real sound others d) (λ q. d.wrote.others (Life q) (λ e. cc))
  domains_after (doomed p d) = doomed_law n s x m m2 b c real sound others p d
  domains_after (buried p d) = buried_law n s x m m2 b c real sound others p (inside p d.wrote.real) d
  domains_after (hinted k by d) = by_change (hinted_change n s x m m2 b c real sound others k by d) (λ q. d.wrote.others (Life q) (λ e. cc))
  domains_after (privileged p d) = by_change (privileged_change n s x m m2 b c real sound others p d) (λ q. d.wrote.others (Life q) (λ e. cc))

pub acts_keep_domains : KeepsAct (λ n m h. Domains n m h)
acts_keep_domains n s x m m2 b c real may acted sound =
    domains_after n s x m m2 b c real sound acted.others (act_effect n s x m m2 b c may acted)
