-- A typed reference to a live table is given up, as one of the own domain is.
use Rattle.std.proofs.Common.{◌≡◌, ◌⊎◌, ℕ, Bool, true, false, List, [], ◌∷◌, ◌++◌, None, refl, sym, ap, subst, inl, inr}
use Rattle.xp_words.specs.declared.place.Place.TheVariants.{Kind}
use Rattle.xp_board.specs.declared.step.Act.TheVariants.{Add}
use Rattle.xp_board.specs.declared.step.StepKind.TheVariants as kinds
use Rattle.xp_board.specs.RefSteps.{one_down}
use Rattle.xp_board.specs.Readings.{domain_of}
use Rattle.xp_board.specs.Told.{Post, PortValue}
use Rattle.xp_board.proofs.Sums.{when_eq}
use Rattle.step_maker.specs.Answers.{Deed, Misses, Serves}
use Rattle.step_maker.specs.Asked.{back, of_back}
use Rattle.step_maker.proofs.Coming.{came_post, moves_came}
use Rattle.step_maker.proofs.Piecing.{serves_nothing}
use Rattle.frame_types.specs.Lowering.{DropsType}
use Rattle.kept_marks.specs.Marks as marks
use Rattle.kept_marks.specs.Marks.{IsForeign, KeptFor}
use Rattle.kind_words.specs.Kinds.{partial_kind}
use Rattle.level_release.specs.Holding.{HoldsLive}
use Rattle.level_release.specs.Parking as parks
use Rattle.level_release.specs.Parking.{HoldsTyped, LeavesParked, Parked, Parks}
use Rattle.level_release.proofs.Parked.{lives}
use Rattle.level_validate.specs.Unwinding.{own_domain}
use Rattle.partial_state.specs.Levels.{level_type}
use Rattle.mmuext_ops.specs.Course as ends
use Rattle.mmuext_ops.specs.Course.{GivenUp}
use Rattle.mmuext_ops.specs.Holding.{GivesTableUp, GivesUp, HoldsTable}

-- ---- the reference
abbrev pub table_typed : {v : PortValue} {f level : ℕ} → HoldsTable v f level → HoldsTyped v f (level_type level) (own_domain v)
table_typed holds = record { works = holds.others.works; looking = holds.others.looking; typed = holds.typed }

abbrev pub live_table : {v : PortValue} {f level : ℕ} → HoldsTable v f level → HoldsLive v f (level_type level)
live_table holds = lives (table_typed holds)

-- ---- given up
pub gives_up : {v w : PortValue} {f level : ℕ} {kept : Bool} → Parks v w f level (own_domain v) kept → GivesUp v w f level kept
gives_up {v} {w} {f} {level} {kept} parked =
    let served = parked.serves v (of_back f) [] (serves_nothing v (of_back f)) (back (when_eq f f refl)) (λ foreign. absurd (foreign refl)) in
    record { serves = none_missed served.more served.hidden served.serves; hand = by_hand kept parked.hand; course = by_course parked.course }
  where
    none_missed : (more : List Deed) → (more ≡ []) ⊎ (IsForeign v (own_domain v) × (more ≡ Misses (Kind f) ∷ [])) → Serves v w (of_back f) (more ++ []) → Serves v w (of_back f) []
    none_missed more (inl none) serves = subst (λ ds. Serves v w (of_back f) (ds ++ [])) none serves
    none_missed more (inr one) serves = absurd (one.0 refl)

    by_hand : (k : Bool) → LeavesParked v w f (own_domain v) k → GivesTableUp v w f k
    by_hand true (inl gone) = gone
    by_hand true (inr (inl off, named)) = absurd cc
    by_hand true (inr (inr foreign, named)) = absurd (foreign refl)
    by_hand false (inl gone) = inl gone
    by_hand false (inr named) = inr named.1

    same_domain : (u : PortValue) → DropsType v u f true → own_domain v ≡ own_domain u
    same_domain u drops = ap (λ (p : Post). domain_of p.machine p.vcpu) (sym (came_post v u (moves_came v u (Kind f) (Add one_down) kinds.Kind None drops.found drops.lowers.step)))

    own_mark : (u x : PortValue) → DropsType v u f true → KeptFor u x f (partial_kind (level_type level) true false 512 0) (own_domain v) → GivenUp v f level true x
    own_mark u x drops (marks.own is left) = ends.marked u x left.0 drops left.1
    own_mark u x drops (marks.alive y foreign left look) = absurd (foreign (same_domain u drops))
    own_mark u x drops (marks.dying y z a life foreign left look not takes names) = absurd (foreign (same_domain u drops))
    own_mark u x drops (marks.taken y z life found foreign left look not takes other) = absurd (foreign (same_domain u drops))

    by_course : {k : Bool} → Parked v f level (own_domain v) k w → GivenUp v f level k w
    by_course (parks.shared u x k drops gave) = ends.shared u x k drops gave
    by_course (parks.marked u x drops kept) = own_mark u x drops kept
    by_course (parks.named u y x found drops store names) = ends.named u y x found drops store names
