-- What an entry asks is given back, or released: what that needs, and by the call, all that is said of it.
use Rattle.std.proofs.Common.{◌≡◌, ◌⊎◌, ℕ, ◌+◌, ◌-◌, ◌<◌, ◌≤◌, true, List, [], ◌∷◌, Some, Result, Ok, Err, IfErr, refl, sym, ap, ◌∙◌, subst, inl, inr}
use Rattle.xp_words.specs.declared.entry.Demand.{Demand}
use Rattle.xp_words.specs.declared.entry.Demand.TheVariants.{Bad, Nothing, Read, Typed}
use Rattle.xp_words.specs.declared.kind.PageType.{PageType}
use Rattle.xp_words.specs.declared.kind.PageType.TheVariants.{Writable}
use Rattle.xp_words.specs.declared.reply.Pause.TheVariants.{Due}
use Rattle.xp_words.specs.declared.reply.Stop.{Stop}
use Rattle.xp_words.specs.declared.reply.Stop.TheVariants.{Paused}
use Rattle.xp_board.specs.declared.holdings.Reference.{Reference}
use Rattle.xp_board.specs.Hands.{refs_to}
use Rattle.xp_board.specs.Told.{PortValue}
use Rattle.xp_preempt.specs.Gates.{Gate}
use Rattle.xp_preempt.proofs.Consulting.{gated_past, past_as, past_none}
use Rattle.xp_board.proofs.ListCounts.{newest_held}
use Rattle.step_maker.specs.Holds.{Holds, still}
use Rattle.step_maker.proofs.Coming.{came_self}
use Rattle.step_maker.specs.Answers.{Deed, Misses, Serves, misses}
use Rattle.step_maker.specs.Asked.{of_back}
use Rattle.step_maker.proofs.Piecing.{serves_came, serves_nothing}
use Rattle.frame_words.specs.Freeing.{gave}
use Rattle.frame_words.specs.Refs.{MayPut}
use Rattle.frame_types.specs.Taking.{MayDropPlain, gave_type}
use Rattle.kind_words.proofs.KindHands.{apart_spares, no_work}
use Rattle.level_release.specs.Asking.{of_release}
use Rattle.level_release.specs.Course.{ReleasesFrameBy}
use Rattle.level_release.specs.Holding.{HoldsLive, LeavesUnheld}
use Rattle.level_release.specs.Parking.{HoldsTyped, LeavesParked, Parked, Parks}
use Rattle.level_release.specs.Parking as parks
use Rattle.kept_marks.specs.Marks.{IsForeign}
use Rattle.xp_words.specs.declared.place.Place.TheVariants.{Kind}
use Rattle.partial_state.specs.Levels.{level_type}
use Rattle.table_entries.specs.Acquiring.{GaveRef, GaveType}
use Rattle.entry_exchange.specs.Course.{GaveDemand, ReleasedDemand}
use Rattle.entry_exchange.specs.Course as courses
use Rattle.entry_exchange.specs.Parts.{DemandGiven, DemandReleased, HoldsRef, IsOfLevel, LeavesGone}
use Rattle.entry_exchange.specs.Serving.{of_given}
use Rattle.level_release.proofs.Dropped.{may_drop_plain, none_typed}
use Rattle.level_release.proofs.Parked.{lives}
use Rattle.entry_exchange.proofs.ServesGiving.{behind_back, released_ref, released_typed}

-- ---- what it needs
pub may_put_ref : {v : PortValue} {g : ℕ} → HoldsRef v g → MayPut g v.holdings
may_put_ref {v} {g} holds =
    record {
      held = subst (λ (rs : List Reference). 0 < refs_to g rs) (sym holds.refs) (newest_held g holds.reference holds.others holds.here);
      spares = apart_spares g v.holdings (no_work g v.holdings.works holds.works);
    }

pub may_drop_page : {v : PortValue} {g owner : ℕ} → HoldsTyped v g Writable owner → MayDropPlain v.post.machine g Writable v.holdings
may_drop_page holds = may_drop_plain (lives holds) refl

-- ---- given back
pub nothing_given : {v : PortValue} {owner level : ℕ} {d : Demand} → IsOfLevel level d → (d ≡ Nothing) ⊎ (d ≡ Bad) → DemandGiven v v owner level d
nothing_given {level = level} fits (inr is) = absurd (subst (λ k. IsOfLevel level k) is fits)
nothing_given {v} fits (inl is) = rw is (record {
  came = came_self v;
  serves = λ u r ds before asked locks. record { more = []; hidden = inl refl; serves = before };
  hand = (v.holdings.old0, refl);
  course = courses.nothing;
})

module _ {v w : PortValue} {owner level g : ℕ} where
  pub ref_given : Serves v w (of_back g) [] → Holds v w (gave g v.holdings) → GaveRef v w g → DemandGiven v w owner level (Read g)
  ref_given gives hand gave = record { came = serves_came v w (of_back g) [] gives; serves = behind_back v w g gives; hand = (v.holdings.old0, hand); course = courses.referred w g gave }

  pub page_given : level ≡ 1 → Serves v w (of_back g) [] → Holds v w (gave_type g v.holdings) → GaveType v w g Writable → DemandGiven v w owner level (Typed g Writable)
  page_given one gives hand gave = record { came = serves_came v w (of_back g) [] gives; serves = behind_back v w g gives; hand = (v.holdings.old0, hand); course = courses.paged w g one gave }

  pub table_given : 2 ≤ level → HoldsTyped v g (level_type (level - 1)) owner → Parks v w g (level - 1) owner true → DemandGiven v w owner level (Typed g (level_type (level - 1)))
  table_given above holds parked =
      record {
        came = parked.came;
        serves = λ u r ds before asked locks. let marked = parked.serves u r ds before asked (λ foreign. locks) in record { more = marked.more; hidden = seen u marked.more marked.hidden; serves = marked.serves };
        hand = by_hand parked.hand;
        course = by_course parked.course;
      }
    where
      seen : (u : PortValue) (more : List Deed) → (more ≡ []) ⊎ (IsForeign u owner × (more ≡ Misses (Kind g) ∷ [])) → (more ≡ []) ⊎ ((f : ℕ) × (more ≡ Misses (Kind f) ∷ []))
      seen u more (inl none) = inl none
      seen u more (inr one) = inr (g, one.1)

      by_hand : LeavesParked v w g owner true → LeavesGone v w (Typed g (level_type (level - 1)))
      by_hand (inl gone) = (v.holdings.old0, gone ∙ ap (λ ys. still (record v { holdings = record v.holdings { typed = ys } })) (sym (none_typed (lives holds))))
      by_hand (inr named) = (Some (g + 1), named.1 ∙ ap (λ ys. still (record v { holdings = record v.holdings { typed = ys; old0 = Some (g + 1) } })) (sym (none_typed (lives holds))))

      by_course : Parked v g (level - 1) owner true w → GaveDemand owner level v (Typed g (level_type (level - 1))) w
      by_course (parks.shared u x kept drops put) = courses.shared u x g above drops put
      by_course (parks.marked u x drops kept) = courses.last u x g above drops kept

-- ---- released
still_released : {v : PortValue} {d : Demand} {k : Gate} → LeavesGone v v d → ReleasedDemand v d v [] → DemandReleased v v d k k
still_released {v} {d} hand course = record { came = came_self v; serves = λ owner pages. serves_nothing v (of_given d owner pages); hand = hand; course = past_none refl course }

pub nothing_released : {v : PortValue} {d : Demand} {k : Gate} → (d ≡ Nothing) ⊎ (d ≡ Bad) → DemandReleased v v d k k
nothing_released {v} (inl is) = rw is (still_released (v.holdings.old0, refl) courses.nothing)
nothing_released {v} (inr is) = rw is (still_released (v.holdings.old0, refl) courses.bad)

module _ {v w : PortValue} {g : ℕ} where
  pub ref_released : {k : Gate} → Serves v w (of_back g) [] → Holds v w (gave g v.holdings) → GaveRef v w g → DemandReleased v w (Read g) k k
  ref_released gives hand gave = record {
    came = serves_came v w (of_back g) [] gives;
    serves = λ owner pages. released_ref v w g owner pages gives;
    hand = (v.holdings.old0, hand);
    course = past_none refl (courses.referred w g gave);
  }

  pub typed_released : {t : PageType} {j k : Gate} {answer : Result (Unit {0}) Stop} → HoldsLive v g t → IfErr answer (λ e. e ≡ Paused Due) →
      ((owner pages : ℕ) → Serves v w (of_release g owner pages answer) (misses v.post.machine answer)) → LeavesUnheld v w g answer → ReleasesFrameBy v w g t j k answer →
      DemandReleased v w (Typed g t) j k
  typed_released {t} {answer = answer} holds due serves hand by =
      record {
        came = serves_came v w (of_release g 0 0 answer) (misses v.post.machine answer) (serves 0 0);
        serves = λ owner pages. released_typed v w g owner pages t answer due (serves owner pages);
        hand = by_answer answer hand;
        course = past_as (λ on. absurd cc) (λ xs was. courses.released w g t xs answer was due) (gated_past by);
      }
    where
      by_answer : (a : Result (Unit {0}) Stop) → LeavesUnheld v w g a → LeavesGone v w (Typed g t)
      by_answer (Ok done) leaves = (v.holdings.old0, leaves ∙ ap (λ ys. still (record v { holdings = record v.holdings { typed = ys } })) (sym (none_typed holds)))
      by_answer (Err e) leaves = (Some (g + 1), leaves ∙ ap (λ ys. still (record v { holdings = record v.holdings { typed = ys; old0 = Some (g + 1) } })) (sym (none_typed holds)))
