-- Steps that only look leave all words as they are.
use Rattle.std.proofs.Common.{◌≡◌, ℕ, true, List, [], ◌∷◌, refl, sym, ap, ◌∙◌, subst}
use Rattle.xp_words.specs.declared.place.Place.{Place}
use Rattle.xp_words.specs.declared.place.Place.TheVariants.{Kind}
use Rattle.xp_board.specs.Lists.{EachOf}
use Rattle.xp_board.specs.Told.{PortValue, is_telling, told_word}
use Rattle.xp_board.specs.declared.step.Act.TheVariants.{Load}
use Rattle.step_maker.specs.Moves.{Moment, Moves, Ran}
use Rattle.step_maker.specs.Plain.{Leaves}
use Rattle.step_maker.specs.Visits.{Visit, visit, visits, Does, Nothing, Only, Then}
use Rattle.step_maker.proofs.Piecing.{each_append}
use Rattle.step_maker.proofs.Telling.{load_tells, ran_telling}
use Rattle.frame_claims.specs.Found as upwards
use Rattle.frame_claims.specs.Found.{Upwards}
use Rattle.domain_destroy.specs.Course as course
use Rattle.domain_destroy.specs.Course.{FoundInUse, FoundNoUse}

abbrev IsLook : Visit → Type 0
IsLook x = x.act ≡ Load

abbrev pub AreLooks : (List Visit → Type 0) → Type 0
AreLooks P = (vs : List Visit) → P vs → EachOf IsLook vs

look_leaves : (v w : PortValue) (m : Moment) → m.act ≡ Load → is_telling v ≡ true → Moves v w m.place m.act m.kind m.mark m.found → Leaves w (told_word v)
look_leaves v w m is telling moves = load_tells v w m.place m.kind m.mark m.found (subst (λ a. Moves v w m.place a m.kind m.mark m.found) is moves) telling

ran_looks : (v w : PortValue) (ms : List Moment) → is_telling v ≡ true → Ran v ms w → EachOf IsLook (visits ms) → Leaves w (told_word v)
unfolding EachOf
ran_looks v w [] telling ran looks q = ap (λ (y : PortValue). told_word y q) ran
ran_looks v w (m ∷ ms) telling ran looks q =
    let u = ran.0 in
    look_leaves u w m looks.0 (ran_telling v u ms ran.1 ∙ telling) ran.2.moves q ∙ ran_looks v u ms telling ran.1 looks.1 q

pub looks_leave : (v w : PortValue) (P : List Visit → Type 0) → AreLooks P → is_telling v ≡ true → Does v w P → Leaves w (told_word v)
unfolding Does
looks_leave v w P looks telling does = ran_looks v w does.0 telling does.1 (looks (visits does.0) does.2)

-- ---- lists of looks
none : AreLooks Nothing
unfolding EachOf
none vs is = subst (EachOf IsLook) (sym is) tt

one : (p : Place) (x : ℕ) → AreLooks (Only (visit p Load x))
unfolding EachOf
one p x vs is = subst (EachOf IsLook) (sym is) (refl, tt)

pub both : (P Q : List Visit → Type 0) → AreLooks P → AreLooks Q → AreLooks (Then P Q)
both P Q a b vs t = subst (EachOf IsLook) (sym t.list) (each_append IsLook t.before t.after (a t.before t.first) (b t.after t.next))

pub up : (P : ℕ → List Visit → Type 0) (from to : ℕ) → ((i : ℕ) → AreLooks (P i)) → AreLooks (Upwards P from to)
up P from _ all _ (upwards.Upwards.starts vs is) = none vs is
up P from _ all _ (upwards.Upwards.goes_up n before now vs below at is) = subst (EachOf IsLook) (sym is) (each_append IsLook before now (up P from n all before below) (all n now at))

pub no_use : (d f : ℕ) → AreLooks (FoundNoUse d f)
no_use d f vs (course.FoundNoUse.others y apart is) = one _ y vs is
no_use d f vs (course.FoundNoUse.unused y x own off is) = both _ _ (one _ y) (one (Kind f) x) vs is

pub in_use : (d f x : ℕ) → AreLooks (FoundInUse d f x)
in_use d f x vs is = both _ _ (one _ is.word) (one (Kind f) x) vs is.steps
