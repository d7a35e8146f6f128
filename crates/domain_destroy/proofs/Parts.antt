-- Parts of a destruction one behind the other: what they serve, why they stop, what is in hand behind them, and what they found or left.
use Rattle.std.proofs.Common.{◌≡◌, ℕ, ◌≤◌, Bool, true, List, [], ◌++◌, length, Option, None, Result, Ok, Err, IfOk, IfErr, IsTrue, All, refl, sym, ap, ◌∙◌, subst, inr, append_assoc, append-nil, arith}
use Rattle.std.proofs.lemmas.List.Elements.{All-nil, All-append}
use Rattle.xp_words.specs.Machine.{Machine}
use Rattle.xp_words.specs.Places.{sizes_of}
use Rattle.xp_words.specs.declared.place.Place.{Place}
use Rattle.xp_words.specs.declared.reply.Pause.TheVariants.{Due}
use Rattle.xp_words.specs.declared.reply.Refusal.TheVariants as refusals
use Rattle.xp_words.specs.declared.reply.Stop.{Stop}
use Rattle.xp_words.specs.declared.reply.Stop.TheVariants.{Paused, Refused}
use Rattle.xp_board.specs.Acts.{left_by}
use Rattle.xp_board.specs.Steps.{some_since}
use Rattle.xp_board.specs.Told.{Post, PortValue}
use Rattle.xp_board.specs.declared.step.Act.{Act}
use Rattle.xp_board.specs.declared.step.Act.TheVariants.{Load}
use Rattle.xp_board.specs.declared.step.Mark.{Mark}
use Rattle.xp_board.specs.declared.step.StepKind.{StepKind}
use Rattle.xp_board.specs.declared.step.StepKind.TheVariants as kinds
use Rattle.step_maker.specs.Answers.{Deed, Serves, Stops, misses}
use Rattle.step_maker.specs.Asked.{Request}
use Rattle.step_maker.specs.Finding.{FoundAt}
use Rattle.step_maker.specs.Holds.{Rests, Same}
use Rattle.step_maker.specs.Moves.{Came, Met, Moves}
use Rattle.step_maker.specs.Pauses as pauses
use Rattle.step_maker.specs.Pauses.{HasPassed, LeftAs}
use Rattle.step_maker.specs.Reasons.{MayLook}
use Rattle.step_maker.proofs.Changing.{found_after, found_before}
use Rattle.step_maker.proofs.Coming.{came_post, met_after, met_before, moment_of, moves_met}
use Rattle.step_maker.proofs.Later.{IsUncounted, stops_then}
use Rattle.step_maker.proofs.Noting.{moves_since}
use Rattle.step_maker.proofs.Piecing.{moves_serves, serves_came, serves_nothing, serves_then, stops_before}
use Rattle.step_maker.proofs.Resting.{same_rests}
use Rattle.flush_words.proofs.Lasting.{came_keeps, came_longer}
use Rattle.table_words.specs.OldWords.{known_old}
use Rattle.table_words.specs.declared.old_words.OldWord.TheVariants.{First, Second}
use Rattle.level_release.specs.Settling.{SettledHand}
use Rattle.domain_destroy.specs.Asking.{IsDestroyDeed, IsDestroyStop, ServesDestroy, StopsDestroyer, of_domain}
use Rattle.domain_destroy.specs.Course as course
use Rattle.domain_destroy.specs.Course.{Advances, GoesOn, LeftFrame}
use Rattle.domain_destroy.specs.Destroying.{PartWent}
use Rattle.domain_destroy.specs.Emptying.{NamesNone}
use Rattle.domain_destroy.specs.declared.place.DestroyAt.{DestroyAt}

-- ---- what is in hand
pub settled_self : (v : PortValue) → SettledHand v v
settled_self v = refl

pub same_settled : (v w : PortValue) → Same v w → SettledHand v w
same_settled v w same =
    same ∙ ap (λ (q : PortValue). record { post = v.post; holdings = record v.holdings { steps = []; old0 = q.holdings.old0; old1 = q.holdings.old1 }; told = None }) (sym same)

pub settled_then : (v u w : PortValue) → SettledHand v u → SettledHand u w → SettledHand v w
settled_then v u w first second =
    second ∙ ap (λ (q : PortValue). record { post = q.post; holdings = record q.holdings { old0 = w.holdings.old0; old1 = w.holdings.old1 }; told = None }) first

pub same_names_none : (v w : PortValue) → Same v w → NamesNone v → NamesNone w
same_names_none v w same none =
    record { first = ap (λ (q : PortValue). known_old First q.holdings) same ∙ none.first; second = ap (λ (q : PortValue). known_old Second q.holdings) same ∙ none.second }

-- ---- what it serves
pub destroy_came : {A : Type 0} (v w : PortValue) (d : ℕ) (answer : Result A Stop) → ServesDestroy v w d answer → Came v w
destroy_came v w d answer a = serves_came v w (of_domain v.post.machine d true) _ (a.serves true (λ due. refl))

pub serves_destroy_then : {A B : Type 0} (v u w : PortValue) (d : ℕ) (a : A) (answer : Result B Stop) → ServesDestroy v u d (Ok a) → ServesDestroy u w d answer → ServesDestroy v w d answer
serves_destroy_then v u w d a answer first second =
    let came = destroy_came v u d (Ok a) first in
    let same : u.post ≡ v.post = came_post v u came in
    record {
      deeds = second.deeds ++ first.deeds;
      are = All-append (IsDestroyDeed v.post.machine d) second.deeds first.deeds (subst (λ (p : Post). All (IsDestroyDeed p.machine d) second.deeds) same second.are) first.are;
      serves = λ rose rises.
          let behind : Serves u w (of_domain v.post.machine d rose) (misses v.post.machine answer ++ second.deeds) =
          subst (λ (p : Post). Serves u w (of_domain p.machine d rose) (misses p.machine answer ++ second.deeds)) same (second.serves rose rises) in
          subst (Serves v w (of_domain v.post.machine d rose)) (append_assoc (misses v.post.machine answer) second.deeds first.deeds)
          (serves_then v u w (of_domain v.post.machine d rose) first.deeds (misses v.post.machine answer ++ second.deeds) (first.serves rose (λ due. absurd (cc))) behind);
    }

-- steps that serve any request, and of which a guest sees no deed
abbrev pub LooksOnly : PortValue → PortValue → Type 0
LooksOnly v w = (r : Request) → Serves v w r []

pub looks_nothing : (v : PortValue) → LooksOnly v v
looks_nothing v r = serves_nothing v r

pub one_look : (v w : PortValue) (p : Place) (found : ℕ) → ((r : Request) → MayLook r p) → Moves v w p Load kinds.Look None found → LooksOnly v w
one_look v w p found may m r = moves_serves v w r p Load kinds.Look None found m (may r)

pub looks_then : (v u w : PortValue) → LooksOnly v u → LooksOnly u w → LooksOnly v w
looks_then v u w a b r = serves_then v u w r [] [] (a r) (b r)

-- they serve a destruction, whatever it ends with but a lost exchange
pub looks_serve : {A : Type 0} (v w : PortValue) (d : ℕ) (answer : Result A Stop) → misses v.post.machine answer ≡ [] → LooksOnly v w → ServesDestroy v w d answer
looks_serve v w d answer none looks =
    record {
      deeds = [];
      are = All-nil (IsDestroyDeed v.post.machine d);
      serves = λ rose rises. subst (λ (ds : List Deed). Serves v w (of_domain v.post.machine d rose) (ds ++ [])) (sym none) (looks (of_domain v.post.machine d rose));
    }

pub look_serves : {A : Type 0} (v w : PortValue) (d : ℕ) (answer : Result A Stop) (p : Place) (found : ℕ) → misses v.post.machine answer ≡ [] → ((r : Request) → MayLook r p) → Moves v w p Load kinds.Look None found → ServesDestroy v w d answer
look_serves v w d answer p found none may m = looks_serve v w d answer none (one_look v w p found may m)

pub nothing_serves : {A : Type 0} (v : PortValue) (d : ℕ) (answer : Result A Stop) → misses v.post.machine answer ≡ [] → ServesDestroy v v d answer
nothing_serves v d answer none = looks_serve v v d answer none (looks_nothing v)

-- ---- why it stops
pub destroy_uncounted : (e : Stop) → IsDestroyStop e → IsUncounted e
destroy_uncounted (Refused (refusals.CountFull f x)) is = absurd is
destroy_uncounted (Refused (refusals.InUse f x)) is = absurd is
destroy_uncounted _ is = tt

pub stops_destroy_later : (v u w : PortValue) (d : ℕ) (e : Stop) → IsDestroyStop e → Came v u → StopsDestroyer u w d e → StopsDestroyer v w d e
stops_destroy_later v u w d e is came stops =
    λ rose rises.
    stops_then v u w (of_domain v.post.machine d rose) e (destroy_uncounted e is) came (subst (λ (p : Post). Stops u w (of_domain p.machine d rose) e) (came_post v u came) (stops rose rises))

-- more steps behind it
pub stops_destroy_before : (v u w : PortValue) (d : ℕ) (e : Stop) → Came u w → StopsDestroyer v u d e → StopsDestroyer v w d e
stops_destroy_before v u w d e came stops = λ rose rises. stops_before v u w (of_domain v.post.machine d rose) e (stops rose rises) came

answer_stops_later : {A : Type 0} (v u w : PortValue) (d : ℕ) (answer : Result A Stop) → Came v u → IfErr answer IsDestroyStop → IfErr answer (λ e. StopsDestroyer u w d e) → IfErr answer (λ e. StopsDestroyer v w d e)
answer_stops_later v u w d (Ok a) came is stops = tt
answer_stops_later v u w d (Err e) came is stops = stops_destroy_later v u w d e is came stops

-- ---- one part behind another that did not stop
pub went_then : {A B C D E : Type 0} (v u w : PortValue) (d : ℕ) (a : A) (answer : Result B Stop) → PartWent v u d C (Ok a) → PartWent u w d D answer → E → PartWent v w d E answer
went_then v u w d a answer first second course =
    record {
      rests = second.rests;
      hand = settled_then v u w first.hand second.hand;
      clear = second.clear;
      serves = serves_destroy_then v u w d a answer first.serves second.serves;
      stops = answer_stops_later v u w d answer (destroy_came v u d (Ok a) first.serves) second.kinds second.stops;
      kinds = second.kinds;
      course = course;
    }

-- the same, as the answer of another function
pub went_err : {A B C E : Type 0} (v w : PortValue) (d : ℕ) (e : Stop) → PartWent {A = A} v w d C (Err e) → E → PartWent {A = B} v w d E (Err e)
went_err v w d e part course =
    record {
      rests = part.rests;
      hand = part.hand;
      clear = tt;
      serves = record { deeds = part.serves.deeds; are = part.serves.are; serves = part.serves.serves };
      stops = part.stops;
      kinds = part.kinds;
      course = course;
    }

pub went_ok : {A B C E : Type 0} (v w : PortValue) (d : ℕ) (a : A) (b : B) → PartWent v w d C (Ok a) → E → PartWent v w d E (Ok b)
went_ok v w d a b part course =
    record {
      rests = part.rests;
      hand = part.hand;
      clear = part.clear;
      serves = record { deeds = part.serves.deeds; are = part.serves.are; serves = part.serves.serves };
      stops = tt;
      kinds = tt;
      course = course;
    }

-- of steps that leave the hand as it was
pub went_same : {A C : Type 0} (v w : PortValue) (d : ℕ) (answer : Result A Stop) → Rests v → NamesNone v → Same v w → ServesDestroy v w d answer → IfErr answer (λ e. StopsDestroyer v w d e) → IfErr answer IsDestroyStop → C → PartWent v w d C answer
went_same {A = A} v w d answer rests none same serves stops kinds course =
    record {
      rests = same_rests v w rests same;
      hand = same_settled v w same;
      clear = clear_on answer;
      serves = serves;
      stops = stops;
      kinds = kinds;
      course = course;
    }
  where
    clear_on : (answer : Result A Stop) → IfOk answer (λ _. NamesNone w)
    clear_on (Ok a) = same_names_none v w same none
    clear_on (Err e) = tt

-- ---- what the steps found or left
pub found_there : (v w : PortValue) (p : Place) (a : Act) (kind : StepKind) (mark : Option Mark) (found : ℕ) → Moves v w p a kind mark found → FoundAt (Met v w) p found
unfolding moment_of
found_there v w p a kind mark found m = record { moment = moment_of v p a kind mark found; was = moves_met v w p a kind mark found m; place = refl; word = refl }

pub moved_left : (v w : PortValue) (p : Place) (a : Act) (kind : StepKind) (mark : Option Mark) (found : ℕ) (test : ℕ → Bool) → Moves v w p a kind mark found → test (left_by a found) ≡ true → LeftAs (Met v w) p test
unfolding moment_of
moved_left v w p a kind mark found test m passes = record { moment = moment_of v p a kind mark found; was = moves_met v w p a kind mark found m; place = refl; passes = passes }

pub left_after : (v u w : PortValue) (p : Place) (test : ℕ → Bool) → Came v u → LeftAs (Met u w) p test → LeftAs (Met v w) p test
left_after v u w p test came a = record { moment = a.moment; was = met_after v u w a.moment came a.was; place = a.place; passes = a.passes }

pub left_before : (v u w : PortValue) (p : Place) (test : ℕ → Bool) → Came u w → LeftAs (Met v u) p test → LeftAs (Met v w) p test
left_before v u w p test came a = record { moment = a.moment; was = met_before v u w a.moment a.was came; place = a.place; passes = a.passes }

-- by a step since then
pub left_since : (v w : PortValue) (p : Place) (test : ℕ → Bool) (since : ℕ) → since ≤ length v.holdings.steps → LeftAs (Met v w) p test → IsTrue (some_since (sizes_of v.post.machine) since p test w.holdings.steps)
left_since v w p test since late a =
    let met = a.was in
    let m = a.moment in
    let same : met.from.post ≡ v.post = came_post v met.from met.before in
    let longer = came_longer v met.from met.before in
    let step : IsTrue (some_since (sizes_of met.from.post.machine) since m.place test met.to.holdings.steps) =
    moves_since met.from met.to m.place m.act m.kind m.mark m.found met.moved.moves since test (omega (arith, late, longer)) a.passes in
    let there : IsTrue (some_since (sizes_of v.post.machine) since p test met.to.holdings.steps) =
    subst (λ (q : Place). IsTrue (some_since (sizes_of v.post.machine) since q test met.to.holdings.steps)) a.place
    (subst (λ (q : Post). IsTrue (some_since (sizes_of q.machine) since m.place test met.to.holdings.steps)) same step) in
    came_keeps met.to w _ met.after there

-- ---- the gate pauses behind a vCPU or a frame
pub passed_after : (v u w : PortValue) (n : Machine) (r : Request) → Came v u → HasPassed n r (Met u w) → HasPassed n r (Met v w)
passed_after v u w n r came (pauses.HasPassed.vcpu d k a b c all) = pauses.HasPassed.vcpu d k a b c (λ j low is. left_after v u w _ _ came (all j low is))
passed_after v u w n r came (pauses.HasPassed.frame d f x a b c e i k) =
    pauses.HasPassed.frame d f x a (found_after v u w _ x came b) c (left_after v u w _ _ came e) (left_after v u w _ _ came i) (left_after v u w _ _ came k)

pub passed_before : (v u w : PortValue) (n : Machine) (r : Request) → Came u w → HasPassed n r (Met v u) → HasPassed n r (Met v w)
passed_before v u w n r came (pauses.HasPassed.vcpu d k a b c all) = pauses.HasPassed.vcpu d k a b c (λ j low is. left_before v u w _ _ came (all j low is))
passed_before v u w n r came (pauses.HasPassed.frame d f x a b c e i k) =
    pauses.HasPassed.frame d f x a (found_before v u w _ x came b) c (left_before v u w _ _ came e) (left_before v u w _ _ came i) (left_before v u w _ _ came k)

pub due_stops : (v w : PortValue) (d : ℕ) → HasPassed v.post.machine (of_domain v.post.machine d true) (Met v w) → StopsDestroyer v w d (Paused Due)
unfolding Stops
due_stops v w d passed =
    λ rose rises.
    let on : rose ≡ true = rises refl in
    (on, inr (subst (λ (b : Bool). HasPassed v.post.machine (of_domain v.post.machine d b) (Met v w)) (sym on) passed))

-- the part that was past it, and then the gate
pub went_due : {A B C E : Type 0} (v w : PortValue) (d : ℕ) (a : A) → HasPassed v.post.machine (of_domain v.post.machine d true) (Met v w) → PartWent v w d C (Ok a) → E → PartWent {A = B} v w d E (Err (Paused Due))
went_due v w d a passed part course =
    record {
      rests = part.rests;
      hand = part.hand;
      clear = tt;
      serves = record { deeds = part.serves.deeds; are = part.serves.are; serves = λ rose rises. part.serves.serves rose (λ due. absurd (cc)) };
      stops = due_stops v w d passed;
      kinds = tt;
      course = course;
    }

-- ---- from place to place
pub goes_on_one : (d : ℕ) (v : PortValue) (at : DestroyAt) (w : PortValue) (to : DestroyAt) (more : List LeftFrame) (answers : List Bool) (answer : Result (Unit {0}) Stop) → Advances d v at w to more answers answer → GoesOn d v at w to more answers answer
goes_on_one d v at w to more answers answer one =
    subst (λ (xs : List Bool). GoesOn d v at w to more xs answer) (append-nil answers) (course.GoesOn.advances v w at to [] more [] answers answer course.GoesOn.begins one)

pub goes_on_then : (d : ℕ) (v : PortValue) (at : DestroyAt) (u : PortValue) (by : DestroyAt) (some : List LeftFrame) (answers : List Bool) → GoesOn d v at u by some answers (Ok tt) → (w : PortValue) (to : DestroyAt) (more : List LeftFrame) (asked : List Bool)
    (answer : Result (Unit {0}) Stop) → GoesOn d u by w to more asked answer → GoesOn d v at w to (some ++ more) (asked ++ answers) answer
goes_on_then d v at u by some answers first _ _ _ _ _ course.GoesOn.begins = subst (λ (xs : List LeftFrame). GoesOn d v at u by xs answers (Ok tt)) (sym (append-nil some)) first
goes_on_then d v at u by some answers first _ _ _ _ _ (course.GoesOn.advances x w from to s m a q answer before one) =
    subst (λ (xs : List LeftFrame). GoesOn d v at w to xs ((q ++ a) ++ answers) answer) (append_assoc some s m)
    (subst (λ (xs : List Bool). GoesOn d v at w to ((some ++ s) ++ m) xs answer) (sym (append_assoc q a answers))
    (course.GoesOn.advances x w from to (some ++ s) m (a ++ answers) q answer (goes_on_then d v at u by some answers first x from s a (Ok tt) before) one))
