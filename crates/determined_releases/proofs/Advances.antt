-- One part of a destruction is determined: where it comes to, what it lists, and what is answered.
use Rattle.std.proofs.Common.{◌≡◌, ◌≢◌, ◌<◌, ◌≤◌, ◌+◌, ◌==◌, if◌then◌else◌, ℕ, Bool, true, false, List, [], ◌∷◌, Option, Some, None, Result, Ok, Err, length, refl, sym, ap, ◌∙◌, subst, arith}
use Rattle.xp_words.specs.Places.{run_of}
use Rattle.xp_words.specs.declared.place.Place.TheVariants.{Refs}
use Rattle.xp_words.specs.declared.reply.Pause.TheVariants.{Alive, Busy, Due}
use Rattle.xp_words.specs.declared.reply.Stop.{Stop}
use Rattle.xp_words.specs.declared.reply.Stop.TheVariants.{Paused}
use Rattle.xp_words.proofs.Shared.{eq_false}
use Rattle.xp_preempt.specs.Gates.{GivesAnswers, answer_at, asks_on}
use Rattle.xp_board.specs.Readings.{domain_of, is_dying, owner_of, ref_count}
use Rattle.xp_board.specs.Told.{PortValue}
use Rattle.xp_board.specs.declared.step.Act.TheVariants.{Load}
use Rattle.xp_board.specs.declared.step.StepKind.TheVariants as steps
use Rattle.xp_board.proofs.RefForms.{dying_uncounted}
use Rattle.step_maker.specs.Moves.{Came, Moves}
use Rattle.step_maker.specs.Visits.{Does}
use Rattle.step_maker.proofs.Coming.{came_self}
use Rattle.step_maker.proofs.Visiting.{does_came}
use Rattle.domain_destroy.specs.Course as course
use Rattle.domain_destroy.specs.Course.{Advances, BeginsBy, LeftFrame, ListsFrame, own_of}
use Rattle.domain_destroy.specs.Clearing.{ClearsFrame}
use Rattle.domain_destroy.specs.Emptying.{EmptiesOne}
use Rattle.domain_destroy.specs.declared.place.DestroyAt.{DestroyAt}
use Rattle.domain_destroy.specs.declared.place.DestroyAt.TheVariants.{Begins, Stops, Empties, Clears, Checks, Lists}
use Rattle.determined_laws.specs.Courses.{Alike}
use Rattle.determined_laws.proofs.Courses.{Goes, alike_does, alike_map, alike_move, alike_same}
use Rattle.determined_releases.proofs.Calls.{move_came}
use Rattle.determined_releases.proofs.Clearing.{clears_alike, clears_came}
use Rattle.determined_releases.proofs.Emptying.{Done, one_alike, one_came}
use Rattle.determined_releases.proofs.Passes as passing
use Rattle.determined_releases.proofs.Passes.{Pass, Passed, begins_tie, checked_goes, listed_same, pass, passes_alike, passes_came, used_goes}

-- ---- how a part ends
pub record Outcome : Type 0 where
  pub place : DestroyAt
  pub listed : List LeftFrame
  pub answers : List Bool
  pub result : Done

abbrev pub out : DestroyAt → List LeftFrame → List Bool → Done → Outcome
out to listed answers r = record { place = to; listed = listed; answers = answers; result = r }

-- ---- the vCPUs are found stopped
abbrev stopped_out : ℕ → ℕ → Outcome
stopped_out v found = if found == 1 then out (Stops (v + 1)) [] [] (Ok tt) else out (Stops v) [] [] (Err (Paused (Alive v found)))

module _ (d v : ℕ) (u : PortValue) where
  data StopsBy (w : PortValue) (o : Outcome) : Type 0 where
    beyond : length u.post.machine.vcpu_domain ≤ v → w ≡ u → o ≡ out (Empties 0) [] [] (Ok tt) → StopsBy w o
    foreign : v < length u.post.machine.vcpu_domain → domain_of u.post.machine v ≢ d → w ≡ u → o ≡ out (Stops (v + 1)) [] [] (Ok tt) → StopsBy w o
    looked : v < length u.post.machine.vcpu_domain → domain_of u.post.machine v ≡ d → (found : ℕ) → Moves u w (run_of v) Load steps.Look None found → o ≡ stopped_out v found → StopsBy w o

  stops_came : (w : PortValue) (o : Outcome) → StopsBy w o → Came u w
  stops_came w o (beyond far same is) = subst (λ z. Came u z) (sym same) (came_self u)
  stops_came w o (foreign few off same is) = subst (λ z. Came u z) (sym same) (came_self u)
  stops_came w o (looked few own found look is) = move_came look

  stops_alike : (w x : PortValue) (o p : Outcome) → StopsBy w o → StopsBy x p → Alike u w x (o ≡ p)
  stops_alike w x o p (beyond far same is) (beyond out' still are) = alike_same (same ∙ sym still) (is ∙ sym are)
  stops_alike w x o p (beyond far same is) (foreign few off still are) = absurd (omega (arith, far, few))
  stops_alike w x o p (beyond far same is) (looked few own found look are) = absurd (omega (arith, far, few))
  stops_alike w x o p (foreign few off same is) (beyond far still are) = absurd (omega (arith, far, few))
  stops_alike w x o p (foreign few off same is) (foreign less other still are) = alike_same (same ∙ sym still) (is ∙ sym are)
  stops_alike w x o p (foreign few off same is) (looked less own found look are) = absurd (off own)
  stops_alike w x o p (looked few own found look is) (beyond far still are) = absurd (omega (arith, far, few))
  stops_alike w x o p (looked few own found look is) (foreign less off still are) = absurd (off own)
  stops_alike w x o p (looked few own found look is) (looked less also met see are) = alike_map (alike_move look see) (λ e. is ∙ (ap (λ z. stopped_out v z) e ∙ sym are))

-- ---- each vCPU, or each frame, behind which the gate is asked where it was the domain's
module _ (says : ℕ → Bool) (n : ℕ) (bound i : ℕ) (next same past : DestroyAt) (u : PortValue) (Part : PortValue → List Bool → Result Bool Stop → Type 0) where
  abbrev said : List Bool → Bool
  said answers = answer_at says (asks_on (length answers) n)

  abbrev part_out : List Bool → Result Bool Stop → Outcome
  part_out answers (Ok true) = out next [] (said answers ∷ answers) (if said answers then Err (Paused Due) else Ok tt)
  part_out answers (Ok false) = out next [] answers (Ok tt)
  part_out answers (Err e) = out same [] answers (Err e)

  data EachBy (w : PortValue) (o : Outcome) : Type 0 where
    past_all : bound ≤ i → w ≡ u → o ≡ out past [] [] (Ok tt) → EachBy w o
    each : i < bound → (answers : List Bool) (r : Result Bool Stop) → Part w answers r → GivesAnswers says n answers → o ≡ part_out answers r → EachBy w o

  each_alike : ((w x : PortValue) (answers others : List Bool) (a b : Result Bool Stop) → GivesAnswers says n answers → GivesAnswers says n others → Part w answers a → Part x others b → Alike u w x ((answers ≡ others) × (a ≡ b))) →
      (w x : PortValue) (o p : Outcome) → EachBy w o → EachBy x p → Alike u w x (o ≡ p)
  each_alike parts w x o p (past_all far gone is) (past_all out' still are) = alike_same (gone ∙ sym still) (is ∙ sym are)
  each_alike parts w x o p (past_all far gone is) (each few answers r part g are) = absurd (omega (arith, far, few))
  each_alike parts w x o p (each few answers r part g is) (past_all far still are) = absurd (omega (arith, far, few))
  each_alike parts w x o p (each few answers r part g is) (each less others s also h are) =
      alike_map (parts w x answers others r s g h part also) (λ e. is ∙ (ap (λ z. part_out z r) e.0 ∙ (ap (λ z. part_out others z) e.1 ∙ sym are)))

-- ---- the pass, and the frames that are left
abbrev checked_out : ℕ → Option ℕ → Outcome
checked_out f None = out (Lists 0 0) [] [] (Ok tt)
checked_out f (Some x) = out Checks [] [] (Err (Paused (Busy f x)))

data ChecksBy (d : ℕ) (u w : PortValue) (o : Outcome) : Type 0 where
  checks : (f : ℕ) (held : Option ℕ) → Passed u.post.machine.frames f held → Goes (passing.Next d u.post.machine.frames) (pass u 0 None) (pass w f held) → o ≡ checked_out f held → ChecksBy d u w o

module _ (d f left : ℕ) where
  data Listing (y : ℕ) (o : Outcome) : Type 0 where
    lists : (some : List LeftFrame) → ListsFrame d f y some → o ≡ out (Lists (f + 1) (left + length some)) some [] (Ok tt) → Listing y o
    halved : owner_of y ≡ Some d → is_dying y ≡ true → o ≡ out (Lists f left) [] [] (Err (Paused (Busy f y))) → Listing y o

  half_free : {A : Type 0} (y : ℕ) (some : List LeftFrame) → ListsFrame d f y some → owner_of y ≡ Some d → is_dying y ≡ true → A
  half_free y _ (course.ListsFrame.others off) own half = absurd (off own)
  half_free y _ (course.ListsFrame.left own some) also half = absurd (count_none y half some)
    where
      count_none : (y : ℕ) → is_dying y ≡ true → 0 < ref_count y → ⊥
      count_none y half some = let e = dying_uncounted y half in omega (arith, e, some)

  listing_same : (y : ℕ) (o p : Outcome) → Listing y o → Listing y p → o ≡ p
  listing_same y o p (lists some all is) (lists also every are) = is ∙ (ap (λ z. out (Lists (f + 1) (left + length z)) z [] (Ok tt)) (listed_same d f y some also all every) ∙ sym are)
  listing_same y o p (lists some all is) (halved own half are) = half_free y some all own half
  listing_same y o p (halved own half is) (lists some all are) = half_free y some all own half
  listing_same y o p (halved own half is) (halved also part are) = is ∙ sym are

data ListsBy (d f left : ℕ) (u w : PortValue) (o : Outcome) : Type 0 where
  looks : (y : ℕ) → f < u.post.machine.frames → Moves u w (Refs f) Load steps.Look None y → Listing d f left y o → ListsBy d f left u w o

-- ---- the beginning
abbrev begun_out : Done → Outcome
begun_out (Ok done) = out (Stops 0) [] [] (Ok tt)
begun_out (Err e) = out Begins [] [] (Err e)

data BegunBy (d : ℕ) (u w : PortValue) (o : Outcome) : Type 0 where
  begins : (a : Done) → Does u w (λ vs. BeginsBy u.post d a vs) → o ≡ begun_out a → BegunBy d u w o

-- ---- a part, by the place that it begins at
pub advances_came : {d : ℕ} {u w : PortValue} {at to : DestroyAt} {listed : List LeftFrame} {answers : List Bool} {a : Done} → Advances d u at w to listed answers a → Came u w
advances_came {u = u} (course.Advances.begun w steps) = does_came u w _ steps
advances_came {u = u} (course.Advances.refused w e steps) = does_came u w _ steps
advances_came {u = u} (course.Advances.passed_over v few off) = came_self u
advances_came (course.Advances.stopped v w few own look) = move_came look
advances_came (course.Advances.alive v found w few own off look) = move_came look
advances_came {u = u} (course.Advances.all_stopped v far) = came_self u
advances_came {d} {u} (course.Advances.emptied v w answers passed few one) = one_came d v u w answers (Ok passed) one
advances_came {d} {u} (course.Advances.emptied_due v w answers few one) = one_came d v u w answers (Ok true) one
advances_came {d} {u} (course.Advances.unemptied v w answers e few one) = one_came d v u w answers (Err e) one
advances_came {u = u} (course.Advances.all_emptied v far) = came_self u
advances_came (course.Advances.cleared f w answers passed few one) = clears_came one
advances_came (course.Advances.cleared_due f w answers few one) = clears_came one
advances_came (course.Advances.uncleared f w answers e few one) = clears_came one
advances_came {u = u} (course.Advances.all_cleared f far) = came_self u
advances_came {u = u} (course.Advances.checked w steps) = does_came u w _ steps
advances_came {u = u} (course.Advances.in_use f x w few steps) = does_came u w _ steps
advances_came (course.Advances.listed f left y w some few look all) = move_came look
advances_came (course.Advances.half_free f left y w few look own half) = move_came look

-- no frame is listed behind the machine's last one
pub lists_few : {d f left : ℕ} {u w : PortValue} {to : DestroyAt} {listed : List LeftFrame} {answers : List Bool} {a : Done} → Advances d u (Lists f left) w to listed answers a → f < u.post.machine.frames
lists_few (course.Advances.listed f left y w some few look all) = few
lists_few (course.Advances.half_free f left y w few look own half) = few

module _ (says : ℕ → Bool) (n d : ℕ) (u : PortValue) where
  abbrev EmptiesBy : ℕ → PortValue → Outcome → Type 0
  EmptiesBy v w o = EachBy says n (length u.post.machine.vcpu_domain) v (Empties (v + 1)) (Empties v) (Clears 0) u (EmptiesOne d v u) w o

  abbrev ClearsBy : ℕ → PortValue → Outcome → Type 0
  ClearsBy f w o = EachBy says n u.post.machine.frames f (Clears (f + 1)) (Clears f) Checks u (ClearsFrame d f u) w o

  abbrev PartBy : DestroyAt → PortValue → Outcome → Type 0
  PartBy Begins w o = BegunBy d u w o
  PartBy (Stops v) w o = StopsBy d v u w o
  PartBy (Empties v) w o = EmptiesBy v w o
  PartBy (Clears f) w o = ClearsBy f w o
  PartBy Checks w o = ChecksBy d u w o
  PartBy (Lists f left) w o = ListsBy d f left u w o

  no_at : (answers : List Bool) (e : Done) → false ≡ answer_at says (asks_on (length answers) n) → Ok tt ≡ (if answer_at says (asks_on (length answers) n) then e else Ok tt)
  no_at answers e g = ap (λ z. if z then e else Ok tt) g

  yes_at : (answers : List Bool) (e : Done) → true ≡ answer_at says (asks_on (length answers) n) → e ≡ (if answer_at says (asks_on (length answers) n) then e else Ok tt)
  yes_at answers e g = ap (λ z. if z then e else Ok tt) g

  part_by : {at to : DestroyAt} {w : PortValue} {listed : List LeftFrame} {answers : List Bool} {a : Done} → Advances d u at w to listed answers a → GivesAnswers says n answers → PartBy at w (out to listed answers a)
  unfolding GivesAnswers
  part_by (course.Advances.begun w steps) g = begins (Ok tt) steps refl
  part_by (course.Advances.refused w e steps) g = begins (Err e) steps refl
  part_by (course.Advances.passed_over v few off) g = foreign few off refl refl
  part_by (course.Advances.stopped v w few own look) g = looked few own 1 look refl
  part_by (course.Advances.alive v found w few own off look) g = looked few own found look (let e = eq_false found 1 off in rw e refl)
  part_by (course.Advances.all_stopped v far) g = beyond far refl refl
  part_by (course.Advances.emptied v w answers true few one) g = each few answers (Ok true) one g.1 (rw (sym g.0) refl)
  part_by (course.Advances.emptied v w answers false few one) g = each few answers (Ok false) one g refl
  part_by (course.Advances.emptied_due v w answers few one) g = each few answers (Ok true) one g.1 (rw (sym g.0) refl)
  part_by (course.Advances.unemptied v w answers e few one) g = each few answers (Err e) one g refl
  part_by (course.Advances.all_emptied v far) g = past_all far refl refl
  part_by (course.Advances.cleared f w answers true few one) g = each few answers (Ok true) one g.1 (rw (sym g.0) refl)
  part_by (course.Advances.cleared f w answers false few one) g = each few answers (Ok false) one g refl
  part_by (course.Advances.cleared_due f w answers few one) g = each few answers (Ok true) one g.1 (rw (sym g.0) refl)
  part_by (course.Advances.uncleared f w answers e few one) g = each few answers (Err e) one g refl
  part_by (course.Advances.all_cleared f far) g = past_all far refl refl
  part_by (course.Advances.checked w steps) g = checks u.post.machine.frames None passing.whole (checked_goes d u.post.machine.frames u u.post.machine.frames (omega arith) w steps) refl
  part_by (course.Advances.in_use f x w few steps) g = checks f (Some x) (passing.held f x) (used_goes d u.post.machine.frames u f x few w steps) refl
  part_by (course.Advances.listed f left y w some few look all) g = looks y few look (lists some all refl)
  part_by (course.Advances.half_free f left y w few look own half) g = looks y few look (halved own half refl)

  -- the own domain is one of the machine's
  module _ (real : own_of u.post < length u.post.machine.page_limit) where
    begun_alike : (w x : PortValue) (o p : Outcome) → BegunBy d u w o → BegunBy d u x p → Alike u w x (o ≡ p)
    begun_alike w x o p (begins a steps is) (begins b more are) = alike_map (alike_does steps more (λ us vs s t. begins_tie u.post d real a b us vs s t)) (λ e. is ∙ (ap (λ z. begun_out z) e ∙ sym are))

    checks_same : (w x : PortValue) (o p : Outcome) → ChecksBy d u w o → ChecksBy d u x p → Alike u w x (o ≡ p)
    checks_same w x o p (checks f a ended go is) (checks g b last goes are) =
        alike_map (passes_alike d u.post.machine.frames u w x f g a b ended last go goes) (λ e. is ∙ (ap (λ z. checked_out z a) e.0 ∙ (ap (λ z. checked_out g z) e.1 ∙ sym are)))

    lists_same : (f left : ℕ) (w x : PortValue) (o p : Outcome) → ListsBy d f left u w o → ListsBy d f left u x p → Alike u w x (o ≡ p)
    lists_same f left w x o p (looks y few look all) (looks z less see every) =
        alike_map (alike_move look see) (λ e. listing_same d f left y o p all (subst (λ k. Listing d f left k p) (sym e) every))

    part_alike : (at : DestroyAt) (w x : PortValue) (o p : Outcome) → PartBy at w o → PartBy at x p → Alike u w x (o ≡ p)
    part_alike Begins w x o p a b = begun_alike w x o p a b
    part_alike (Stops v) w x o p a b = stops_alike d v u w x o p a b
    part_alike (Empties v) w x o p a b =
        each_alike says n (length u.post.machine.vcpu_domain) v (Empties (v + 1)) (Empties v) (Clears 0) u (EmptiesOne d v u) (λ w x answers others r s g h one two. one_alike says n d v u w x answers others r s g h one two) w x o p a b
    part_alike (Clears f) w x o p a b =
        each_alike says n u.post.machine.frames f (Clears (f + 1)) (Clears f) Checks u (ClearsFrame d f u) (λ w x answers others r s g h one two. clears_alike says n g h one two) w x o p a b
    part_alike Checks w x o p a b = checks_same w x o p a b
    part_alike (Lists f left) w x o p a b = lists_same f left w x o p a b

    pub advances_alike : {at to by : DestroyAt} {w x : PortValue} {listed some : List LeftFrame} {answers others : List Bool} {a b : Done} → GivesAnswers says n answers → GivesAnswers says n others →
        Advances d u at w to listed answers a → Advances d u at x by some others b → Alike u w x (out to listed answers a ≡ out by some others b)
    advances_alike {at} {to} {by} {w} {x} {listed} {some} {answers} {others} {a} {b} g h p q = part_alike at w x (out to listed answers a) (out by some others b) (part_by p g) (part_by q h)
