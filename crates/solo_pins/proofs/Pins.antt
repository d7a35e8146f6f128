-- Whole pins: from where nothing is left, and from where the gate paused one.
use Rattle.std.proofs.Common.{◌≡◌, ◌⊎◌, ℕ, ◌≤◌, if◌then◌else◌, Bool, true, false, List, Option, Some, None, Result, Ok, Err, refl, sym, ap, ◌∙◌, subst, inl, inr, arith}
use Rattle.std.proofs.lemmas.Bool.Decides.{nat_tests}
use Rattle.xp_words.specs.KindWords.{kind_fields}
use Rattle.xp_words.specs.Machine.{IsMachine, Machine}
use Rattle.xp_words.specs.PageTypes.{type_number}
use Rattle.xp_words.specs.declared.kind.KindWord.{KindWord}
use Rattle.xp_words.specs.declared.reply.Pause.TheVariants.{Due}
use Rattle.xp_words.specs.declared.reply.Refusal.TheVariants as refusals
use Rattle.xp_words.specs.declared.reply.Stop.{Stop}
use Rattle.xp_words.specs.declared.reply.Stop.TheVariants.{Refused, Paused}
use Rattle.xp_board.specs.Readings.{domain_of}
use Rattle.xp_board.specs.Told.{Post, PortValue, is_telling, told_word}
use Rattle.xp_board.proofs.EntryWords.{type_same}
use Rattle.step_maker.specs.Moves.{Came}
use Rattle.step_maker.specs.Plain.{Words}
use Rattle.step_maker.proofs.Coming.{came_post, came_self, came_trans, moves_came}
use Rattle.step_maker.proofs.Piecing.{serves_came}
use Rattle.answer_laws.proofs.Shared.{alone_telling}
use Rattle.partial_state.specs.Levels.{level_type}
use Rattle.partial_state.proofs.LevelFacts.{level_type-number}
use Rattle.table_entries.specs.Acquiring.{Acquired, GaveRef, GotRef}
use Rattle.mmuext_ops.specs.Course as given_up
use Rattle.mmuext_ops.specs.Course.{GivenUp, IsPinnedAs, PinEnds, Pinned, SawKind, acquired, is_pinned, lost, named, pinned, pinned_before, raced, refused, seen, shared, unreferred}
use Rattle.table_entries.proofs.Shared.{gave_came}
use Rattle.mmuext_ops.specs.Elements.{LeavesElement, ext_request}
use Rattle.mmuext_ops.specs.declared.element.Element.TheVariants.{Pin}
use Rattle.table_law.specs.Alone.{PlainOutcome, alone, take_reference}
use Rattle.table_law.specs.Plain.{Plain, sober}
use Rattle.table_law.proofs.Describing.{sober_kind}
use Rattle.course_laws.specs.Courses.{FindsAlive}
use Rattle.course_laws.proofs.Awaiting.{AloneStays}
use Rattle.course_laws.proofs.Lending.{lent}
use Rattle.course_laws.proofs.Stopping.{acquired_came}
use Rattle.pin_laws.proofs.Looking.{back_came, seen_word, words_back}
use Rattle.refusal_laws.specs.Refusals.{ComesTo}
use Rattle.refusal_laws.specs.Repeated.{IsDeadFrame, IsKeptFrame}
use Rattle.script_law.specs.Elements.{performed}
use Rattle.script_law.specs.Frames.{is_pinned_as, pin_by}
use Rattle.script_law.specs.Values.{Solo, IsPinned, Outcome, behind, looked_by, stopped}
use Rattle.solo_ports.specs.Coming.{Comes, IsDoneSo, IsRefusedSo}
use Rattle.solo_ports.specs.Standing.{Clean, Fair, IsSettled, KeepsTable, Stands, nothing, whose}
use Rattle.solo_ports.proofs.Pinned.{sober_pinned}
use Rattle.solo_pins.specs.Performing.{IsPerformed, KeepsPin}
use Rattle.solo_pins.proofs.Acquiring.{as_call, is_due, refused_so, second_by}
use Rattle.solo_pins.proofs.Beginning.{Begins, alive_between, begins_clean, begins_kept, own_alive}
use Rattle.solo_pins.proofs.Deeds.{sets_nothing}
use Rattle.solo_pins.proofs.Given.{CallsTelling, FirstComes, FoundDead, LaterComes, LeavesKept}
use Rattle.solo_pins.proofs.Kept.{dead_referred, dead_unpinned, never_unreferred}
use Rattle.solo_pins.proofs.Looking as looking
use Rattle.solo_pins.proofs.Looking.{no_refusal, referred}
use Rattle.solo_pins.proofs.Pinning.{marks, pin_done, pin_stops}
use Rattle.solo_pins.proofs.Standing.{IsMild, clean_same, first_same, first_there, second_same, stands_stay}
use Rattle.solo_pins.proofs.Unpinning.{refused_looked}

-- ---- the mark
module _ (level y : ℕ) (k : KindWord) (low : 1 ≤ level) (high : level ≤ 4) (is : k ≡ sober (kind_fields y)) where
  pinned_is : k.pinned ≡ is_pinned y
  pinned_is = ap (λ (j : KindWord). j.pinned) is ∙ sober_pinned (kind_fields y)

  type_is : k.kind ≡ (kind_fields y).kind
  type_is = ap (λ (j : KindWord). j.kind) is ∙ sober_kind (kind_fields y)

  pub marked : IsPinnedAs level y → is_pinned_as level k ≡ true
  marked same =
      let number : type_number k.kind ≡ level = ap type_number (type_is ∙ same.1) ∙ level_type-number level low high in
      let on : k.pinned ≡ true = pinned_is ∙ same.0 in
      grind (arith, nat_tests)

  unmarked_by : (b : Bool) → is_pinned_as level k ≡ b → (IsPinnedAs level y → ⊥) → is_pinned_as level k ≡ false
  unmarked_by false e other = e
  unmarked_by true e other =
      let on : k.pinned ≡ true = grind (arith, nat_tests) in
      let number : type_number k.kind ≡ level = grind (arith, nat_tests) in
      let same : type_number k.kind ≡ type_number (level_type level) = number ∙ sym (level_type-number level low high) in
      absurd (other (sym pinned_is ∙ on, sym type_is ∙ type_same k.kind (level_type level) (grind (arith, nat_tests))))

  pub unmarked : (IsPinnedAs level y → ⊥) → is_pinned_as level k ≡ false
  unmarked other = unmarked_by (is_pinned_as level k) refl other

-- ---- what is in hand behind it
module _ (v w : PortValue) (f level : ℕ) (settled : IsSettled v) where
  olds : (answer : Result (Unit {0}) Stop) → LeavesElement v w (Pin f level) answer → w.holdings.old1 ≡ Some 0
  olds (Ok done) same = second_same v w same settled.second
  olds (Err (Refused y)) left = second_by v w f settled left
  olds (Err (Paused y)) same = second_same v w same settled.second

-- ---- the steps of how it ends
gives_came : (v w : PortValue) (f level : ℕ) (kept : Bool) → GivenUp v f level kept w → Came v w
gives_came v _ f level _ (shared u w kept drops gave) = came_trans v u w (moves_came v u _ _ _ _ _ drops.lowers.step) (gave_came u w f gave)
gives_came v _ f level _ (given_up.marked u w x drops store) = came_trans v u w (moves_came v u _ _ _ _ _ drops.lowers.step) (moves_came u w _ _ _ _ _ store)
gives_came v _ f level _ (named u y w x drops store names) =
    came_trans v u w (moves_came v u _ _ _ _ _ drops.lowers.step) (came_trans u y w (moves_came u y _ _ _ _ _ store) (moves_came y w _ _ _ _ _ names))

ends_came : (v w : PortValue) (f level : ℕ) (answer : Result (Unit {0}) Stop) → PinEnds v w f level answer → Came v w
ends_came v w f level _ (pinned u x saw off sets) = came_trans v u w (moves_came v u _ _ _ _ _ saw) (moves_came u w _ _ _ _ _ sets)
ends_came v w f level _ (seen u x saw on gives) = came_trans v u w (moves_came v u _ _ _ _ _ saw) (gives_came u w f level false gives)
ends_came v w f level _ (raced u y x found saw off sets other on gives) = came_trans v u w (moves_came v u _ _ _ _ _ saw) (came_trans u y w (moves_came u y _ _ _ _ _ sets) (gives_came y w f level false gives))
ends_came v w f level _ (lost u y x found saw off sets other more gives) = came_trans v u w (moves_came v u _ _ _ _ _ saw) (came_trans u y w (moves_came u y _ _ _ _ _ sets) (gives_came y w f level true gives))

-- ---- behind the look
module _ (stays : AloneStays) (v w : PortValue) (x : Solo) (f level : ℕ) (awaited : Option ℕ) (stands : Stands v x) (settled : IsSettled v) (low : 1 ≤ level) (high : level ≤ 4) (own_lives : x.lives ((whose v).domain) ≡ 0)
    (b : Begins v w x (whose v).domain f level) where
  abbrev n : Machine
  n = v.post.machine

  abbrev d : ℕ
  d = (whose v).domain

  abbrev p : Plain
  p = x.frames

  abbrev o : PlainOutcome
  o = alone v.post.machine (whose v).domain level f x.frames

  abbrev meaning : Outcome
  meaning = performed (whose v) (Pin f level) x

  abbrev Ends : Result (Unit {0}) Stop → Type 0
  Ends answer = Comes (KeepsPin (Pin f level)) w x meaning answer

  telling : is_telling v ≡ true
  telling = alone_telling v stands.alone

  had_by : (e : PortValue) → (Ok f ≡ as_call (Paused Due)) ⊎ ComesTo n e f level o (Ok f) → ComesTo n e f level o (Ok f)
  had_by e (inl due) = absurd cc
  had_by e (inr had) = had

  mild_by : (stop : Stop) → IsMild (ext_request n v.post.vcpu d (Pin f level) awaited (Err stop))
  mild_by stop = record { destroys = refl; grants = refl; pages = refl }

  -- which way it goes
  by_mark : (m : Bool) (P : Outcome → Type 0) → (take_reference n d f p).refusal ≡ None → is_pinned_as level (p.kinds f) ≡ m → P (if m then stopped (IsPinned (p.kinds f)) x else behind x o (marks f)) → P meaning
  by_mark m P none is holds =
      subst (λ r. P (looked_by r x (λ s. pin_by n d f level s (s.frames.kinds f)))) (sym none)
      (subst (λ m. P (if m then stopped (IsPinned (p.kinds f)) x else behind x o (marks f))) (sym is) holds)

  module _ (none : (take_reference n d f p).refusal ≡ None) (free : is_pinned_as level (p.kinds f) ≡ false) (c : PortValue) (before : Came v c) (same : told_word c ≡ told_word v) where
    alive : (answers : List Bool) (answer : Result (Unit {0}) Stop) → IsPerformed v w d (Pin f level) awaited answers answer → FindsAlive c w d
    alive answers answer a = alive_between v c w d before (own_alive v w x d (ext_request n v.post.vcpu d (Pin f level) awaited answer) a.serves.0 stands refl own_lives a.serves.2 refl)

    -- refused or paused
    stopped_by : (answers : List Bool) (stop : Stop) → IsPerformed v w d (Pin f level) awaited answers (Err stop) → Acquired c f d level w answers (Err stop) → (as_call stop ≡ as_call (Paused Due)) ⊎ ComesTo n w f level o (as_call stop) → Ends (Err stop)
    stopped_by answers (Refused y) a got (inl due) = absurd cc
    stopped_by answers (Refused y) a got (inr comes) =
        by_mark false (IsRefusedSo w y) none free
        (refused_so stays v w x d f level stands (ext_request n v.post.vcpu d (Pin f level) awaited (Err (Refused y))) a.serves.0 a.serves.2 (record { destroys = refl; grants = refl; pages = refl })
        (sets_nothing n v.post.vcpu (Pin f level) (Err (Refused y)) a.serves.0 a.serves.1 (low, high) tt) a.rests (olds v w f level settled (Err (Refused y)) a.hand) y (marks f) comes)
    stopped_by answers (Paused y) a got (inr comes) = absurd comes
    stopped_by answers (Paused y) a got (inl due) =
        let r = ext_request n v.post.vcpu d (Pin f level) awaited (Err (Paused y)) in
        let came = serves_came v w r a.serves.0 a.serves.2 in
        let keeps = b.keeps c answers before same (subst (λ (e : Stop). Acquired c f d level w answers (Err e)) (is_due (Paused y) due) got) (alive answers (Err (Paused y)) a)
        (stands_stay stays v w x p r a.serves.0 stands a.serves.2 (record { destroys = refl; grants = refl; pages = refl }) (sets_nothing n v.post.vcpu (Pin f level) (Err (Paused y)) a.serves.0 a.serves.1 (low, high) tt) a.rests
        (olds v w f level settled (Err (Paused y)) a.hand) stands.unkept)
        (first_there stays v w x stands came a.rests 0 (first_same v w a.hand settled.first)) in
        inr (subst (λ (o : Post). KeepsTable f (domain_of o.machine o.vcpu) level w x) (sym (came_post v w came)) keeps)

    -- had: it is pinned
    ends_so : (answers : List Bool) (answer : Result (Unit {0}) Stop) (e : PortValue) → IsPerformed v w d (Pin f level) awaited answers answer → Acquired c f d level e answers (Ok f) → Came e w → PinEnds e w f level answer → Ends answer
    ends_so answers (Ok done) e a got after ends =
        let came = came_trans v c e before (acquired_came c f d level e answers (Ok f) got) in
        let had = had_by e (b.comes c e answers (Ok f) before same after got) in
        by_mark false (IsDoneSo w) none free
        (pin_done stays v w x d f level stands low high free settled (ext_request n v.post.vcpu d (Pin f level) awaited (Ok tt)) a.serves.0 a.serves.2 (record { destroys = refl; grants = refl; pages = refl })
        (sets_nothing n v.post.vcpu (Pin f level) (Ok tt) a.serves.0 a.serves.1 (low, high) tt) a.rests e came had.0 had.1 (lent n d f p none).inside (first_same v w a.hand settled.first) (olds v w f level settled (Ok tt) a.hand) ends)
    ends_so answers (Err stop) e a got after ends =
        let came = came_trans v c e before (acquired_came c f d level e answers (Ok f) got) in
        let had = had_by e (b.comes c e answers (Ok f) before same after got) in
        absurd (pin_stops stays v w x d f level stands low high free settled (ext_request n v.post.vcpu d (Pin f level) awaited (Err stop)) a.serves.0 a.serves.2 (mild_by stop)
        (sets_nothing n v.post.vcpu (Pin f level) (Err stop) a.serves.0 a.serves.1 (low, high) tt) a.rests e came had.0 had.1 (lent n d f p none).inside stop ends)

-- ---- from where nothing is left
module _ (stays : AloneStays) (law : FirstComes) (v w : PortValue) (x : Solo) (f level : ℕ) (awaited : Option ℕ) (low : 1 ≤ level) (high : level ≤ 4) (clean : Clean v x) (settled : IsSettled v) (fair : Fair v w)
    (own_lives : x.lives ((whose v).domain) ≡ 0) where
  abbrev t : ℕ
  t = (whose v).domain

  telling_v : is_telling v ≡ true
  telling_v = alone_telling v clean.stands.alone

  machine : IsMachine v.post.machine
  machine = clean.stands.machine

  begins : Begins v w x t f level
  begins = begins_clean stays v w x t f level fair low high law clean

  module _ (a b : PortValue) (y : ℕ) (ref : GotRef v a f t (Ok f)) (saw : SawKind a b f y) where
    no_stop : (take_reference v.post.machine t f x.frames).refusal ≡ None
    no_stop = no_refusal v a b t f y x.frames machine telling_v clean.frames ref saw

    kind_is : x.frames.kinds f ≡ sober (kind_fields y)
    kind_is =
        clean.frames.kinds f (referred v a b t f y x.frames machine telling_v clean.frames ref saw).inside
        ∙ ap (λ z. sober (kind_fields z)) (sym (seen_word v a b t f y machine telling_v ref saw))

    same_there : (c : PortValue) → GaveRef b c f → told_word c ≡ told_word v
    same_there c gave = words_back v a b t f y machine telling_v ref saw c gave

    came_there : (c : PortValue) → GaveRef b c f → Came v c
    came_there c gave = back_came v a b t f y machine telling_v ref saw c gave

  pub pins_clean : (answers : List Bool) (answer : Result (Unit {0}) Stop) → IsPerformed v w t (Pin f level) awaited answers answer → Pinned v w t f level answers answer →
      Comes (KeepsPin (Pin f level)) w x (performed (whose v) (Pin f level) x) answer
  pins_clean _ _ a (unreferred stop ref) =
      let u = looking.unreferred v w t f x.frames stop telling_v clean.frames ref in
      subst (λ (e : Stop). Comes (KeepsPin (Pin f level)) w x (performed (whose v) (Pin f level) x) (Err e)) (sym u.stops)
      (refused_looked v.post.machine t f w x u.refusal u.cause (λ s. pin_by v.post.machine t f level s (s.frames.kinds f)) u.is u.same (clean_same stays v w x clean u.came u.leaves a.rests))
  pins_clean _ _ a (pinned_before b c y ref saw gave same) =
      by_mark stays v w x f level awaited clean.stands settled low high own_lives begins true (IsRefusedSo w (refusals.AlreadyPinned y)) (no_stop b c y ref saw) (marked level y (x.frames.kinds f) low high (kind_is b c y ref saw) same)
      (record {
        why = IsPinned (x.frames.kinds f);
        is = refl;
        same = sym (kind_is b c y ref saw);
        none = refl;
        owes = nothing (clean_same stays v w x clean (came_there b c y ref saw w gave) (λ q. ap (λ (m : Words). m q) (same_there b c y ref saw w gave)) a.rests);
      })
  pins_clean _ _ a (refused b c e y answers stop ref saw gave other got) =
      let same = same_there b c y ref saw e gave in
      let before = came_there b c y ref saw e gave in
      stopped_by stays v w x f level awaited clean.stands settled low high own_lives begins (no_stop b c y ref saw) (unmarked level y (x.frames.kinds f) low high (kind_is b c y ref saw) other) e before same answers stop a got
      (begins.comes e w answers (Err stop) before same (came_self w) got)
  pins_clean _ _ a (acquired b c e g y answers answer ref saw gave other got ends) =
      let same = same_there b c y ref saw e gave in
      let before = came_there b c y ref saw e gave in
      ends_so stays v w x f level awaited clean.stands settled low high own_lives begins (no_stop b c y ref saw) (unmarked level y (x.frames.kinds f) low high (kind_is b c y ref saw) other) e before same answers answer g a got
      (ends_came g w f level answer ends) ends

-- ---- from where the gate paused one
module _ (stays : AloneStays) (law : LaterComes) (leaves : LeavesKept) (dead : FoundDead) (tells : CallsTelling) (v w : PortValue) (x : Solo) (f level : ℕ) (awaited : Option ℕ) (low : 1 ≤ level) (high : level ≤ 4) (k : KeepsTable f (whose v).domain level v x)
    (settled : IsSettled v) (fair : Fair v w) (own_lives : x.lives ((whose v).domain) ≡ 0) where
  abbrev mine : ℕ
  mine = (whose v).domain

  tells_v : is_telling v ≡ true
  tells_v = alone_telling v k.stands.alone

  started : Begins v w x mine f level
  started = begins_kept stays v w x mine f level fair low high law leaves tells k

  machine_from : IsMachine k.from.post.machine
  machine_from = subst IsMachine (sym k.machine) k.stands.machine

  kept : IsKeptFrame v.post.machine (told_word v) f mine level
  kept = (leaves k.from v f mine level x.frames machine_from (tells k.from v f mine level k.calls) k.rest k.orderly low high k.frames k.calls).frame

  was : IsDeadFrame v.post.machine x.frames f mine
  was = subst (λ (m : Machine). IsDeadFrame m x.frames f mine) k.machine (dead k.from v f mine level x.frames machine_from (tells k.from v f mine level k.calls) k.rest k.orderly low high k.frames k.calls)

  pub pins_kept : (answers : List Bool) (answer : Result (Unit {0}) Stop) → IsPerformed v w mine (Pin f level) awaited answers answer → Pinned v w mine f level answers answer →
      Comes (KeepsPin (Pin f level)) w x (performed (whose v) (Pin f level) x) answer
  pins_kept _ _ a (unreferred stop ref) = absurd (never_unreferred v w mine f level tells_v kept fair.room stop ref)
  pins_kept _ _ a (pinned_before b c y ref saw gave same) =
      absurd (let e = sym same.0 ∙ ap (λ z. is_pinned z) (seen_word v b c mine f y k.stands.machine tells_v ref saw) ∙ kept.unpinned in cc)
  pins_kept _ _ a (refused b c e y answers stop ref saw gave other got) =
      let same = words_back v b c mine f y k.stands.machine tells_v ref saw e gave in
      let before = back_came v b c mine f y k.stands.machine tells_v ref saw e gave in
      stopped_by stays v w x f level awaited k.stands settled low high own_lives started (dead_referred v.post.machine mine f level x.frames was) (dead_unpinned v.post.machine mine f level x.frames was) e before same answers stop a got
      (started.comes e w answers (Err stop) before same (came_self w) got)
  pins_kept _ _ a (acquired b c e g y answers answer ref saw gave other got ends) =
      let same = words_back v b c mine f y k.stands.machine tells_v ref saw e gave in
      let before = back_came v b c mine f y k.stands.machine tells_v ref saw e gave in
      ends_so stays v w x f level awaited k.stands settled low high own_lives started (dead_referred v.post.machine mine f level x.frames was) (dead_unpinned v.post.machine mine f level x.frames was) e before same answers answer g a got
      (ends_came g w f level answer ends) ends
