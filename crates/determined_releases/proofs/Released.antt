-- A release is determined: of a type, and of a table and all in it.
use Rattle.std.proofs.Common.{◌≡◌, ℕ, Bool, List, Option, None, Result, refl, sym, ap, ◌∙◌, subst}
use Rattle.xp_words.specs.declared.kind.PageType.{PageType}
use Rattle.xp_words.specs.declared.place.Place.TheVariants.{Refs}
use Rattle.xp_words.specs.declared.reply.Stop.{Stop}
use Rattle.xp_preempt.specs.Gates.{GivesAnswers}
use Rattle.xp_board.specs.Told.{PortValue}
use Rattle.xp_board.specs.declared.step.Act.TheVariants.{Load}
use Rattle.xp_board.specs.declared.step.StepKind.TheVariants as steps
use Rattle.step_maker.specs.Moves.{Came, Moves}
use Rattle.step_maker.proofs.Coming.{came_trans}
use Rattle.partial_state.proofs.LevelFacts.{level_type-apart}
use Rattle.partial_state.specs.declared.stack.TableWork.{TableWork}
use Rattle.table_entries.specs.Acquiring.{GaveRef}
use Rattle.level_release.specs.Course as course
use Rattle.level_release.specs.Course.{Emptied, ReleasedWithin, closing_table, left_emptied, left_released}
use Rattle.determined_laws.specs.Courses.{Alike}
use Rattle.determined_laws.proofs.Calls.{drops_type_alike, drops_type_came}
use Rattle.determined_laws.proofs.Courses.{alike_apart, alike_map, alike_then}
use Rattle.determined_releases.proofs.Calls.{alike_step, gave_ref_alike, gave_ref_came, gave_type_alike, gave_type_came, move_on}
use Rattle.determined_releases.proofs.Runs.{emptied_alike, emptied_came}

-- ---- a table and all in it, from one port
pub emptied_from : {below : Option ℕ} {c d w x : PortValue} {t r : TableWork} {answers others : List Bool} {a b : Result (Unit {0}) Stop} (says : ℕ → Bool) (n : ℕ) → GivesAnswers says n answers → GivesAnswers says n others → c ≡ d → t ≡ r →
    (p : Emptied below c t w answers a) → (q : Emptied below d r x others b) → Alike c w x ((answers ≡ others) × (a ≡ b) × (left_emptied p ≡ left_emptied q))
emptied_from {below} {c} {d} {w} {x} {t} {r} {answers} {others} {a} {b} says n g h same like p q =
    subst (λ (u : PortValue). (q : Emptied below u r x others b) → Alike c w x ((answers ≡ others) × (a ≡ b) × (left_emptied p ≡ left_emptied q))) same
    (subst (λ (s : TableWork). (q : Emptied below c s x others b) → Alike c w x ((answers ≡ others) × (a ≡ b) × (left_emptied p ≡ left_emptied q))) like (λ q. emptied_alike says n g h p q)) q

-- ---- a type is given back
pub released_came : {below : Option ℕ} {v w : PortValue} {f : ℕ} {kind : PageType} {answers : List Bool} {a : Result (Unit {0}) Stop} → ReleasedWithin below v f kind w answers a → Came v w
released_came (course.plain w ordinary gave) = gave_type_came gave
released_came {v = v} (course.shared u w table drops gave) = came_trans v u w (drops_type_came drops) (gave_ref_came gave)
released_came {v = v} (course.last u x w word level answers a table is high drops look run) = came_trans v u w (drops_type_came drops) (move_on w look (emptied_came run))

pub released_alike : {below : Option ℕ} {v w x : PortValue} {f : ℕ} {kind : PageType} {answers others : List Bool} {a b : Result (Unit {0}) Stop} (says : ℕ → Bool) (n : ℕ) → GivesAnswers says n answers → GivesAnswers says n others →
    (p : ReleasedWithin below v f kind w answers a) → (q : ReleasedWithin below v f kind x others b) → Alike v w x ((answers ≡ others) × (a ≡ b) × (left_released p ≡ left_released q))
released_alike says n g h (course.plain w ordinary gave) (course.plain x plain given) = alike_map (gave_type_alike gave given) (λ e. (refl, refl, refl))
released_alike says n g h (course.plain w ordinary gave) (course.shared b x table lowers given) = absurd (let e = sym ordinary ∙ table in cc)
released_alike says n g h (course.plain w ordinary gave) (course.last b d x word level others r table is high lowers look run) = absurd (let e = sym ordinary ∙ table in cc)
released_alike says n g h (course.shared a w table drops gave) (course.plain x plain given) = absurd (let e = sym plain ∙ table in cc)
released_alike {f = f} says n g h (course.shared a w table drops gave) (course.shared b x tabled lowers given) =
    alike_then (drops_type_came drops) (gave_ref_came gave) (gave_ref_came given) (drops_type_alike drops lowers)
    (λ e k. alike_map (gave_ref_alike gave (subst (λ z. GaveRef z x f) (sym e) given)) (λ z. (refl, refl, refl)))
released_alike says n g h (course.shared a w table drops gave) (course.last b d x word level others r tabled is high lowers look run) =
    alike_apart (gave_ref_came gave) (move_on x look (emptied_came run)) (drops_type_alike drops lowers) (λ e. cc)
released_alike says n g h (course.last a c w word level answers r table is high drops look run) (course.plain x plain given) = absurd (let e = sym plain ∙ table in cc)
released_alike says n g h (course.last a c w word level answers r table is high drops look run) (course.shared b x tabled lowers given) =
    alike_apart (move_on w look (emptied_came run)) (gave_ref_came given) (drops_type_alike drops lowers) (λ e. cc)
released_alike {f = f} {kind} says n g h (course.last a c w word level answers r table is high drops look run) (course.last b d x found height others s tabled are low lowers sees runs) =
    alike_then (drops_type_came drops) (move_on w look (emptied_came run)) (move_on x sees (emptied_came runs)) (drops_type_alike drops lowers)
    (λ e k. alike_step look (subst (λ z. Moves z d (Refs f) Load steps.Look None found) (sym e) sees) (emptied_came run) (emptied_came runs)
    (λ same m. emptied_from says n g h same (ap (λ z. closing_table f z) (level_type-apart level height high low (is ∙ sym are))) run runs))
