-- Pages that are taken: no frame dies behind one that was, and what one shows that was refused for its owner is settled.
use Rattle.std.proofs.Common.{◌≡◌, ℕ, ◌++◌, Bool, true, false, List, [], ◌∷◌, Some, None, Result, Ok, Err, refl, sym, ap, ◌∙◌, subst}
use Rattle.xp_words.specs.Machine.{IsMachine}
use Rattle.xp_words.specs.declared.kind.PageType.{PageType}
use Rattle.xp_words.specs.declared.kind.PageType.TheVariants.{Desc}
use Rattle.xp_words.specs.declared.place.Place.{Place}
use Rattle.xp_words.specs.declared.place.Place.TheVariants.{Kind, Refs}
use Rattle.xp_words.specs.declared.reply.Refusal.{Refusal}
use Rattle.xp_words.specs.declared.reply.Refusal.TheVariants.{WrongOwner}
use Rattle.xp_words.specs.declared.reply.Stop.{Stop}
use Rattle.xp_words.specs.declared.reply.Stop.TheVariants.{Refused}
use Rattle.xp_board.specs.Readings.{is_dying}
use Rattle.xp_board.specs.Told.{PortValue, is_telling, told_word}
use Rattle.step_maker.specs.Moves.{Moment, Ran}
use Rattle.step_maker.specs.Visits.{Does, Only, Then, Visit, Where, visits}
use Rattle.step_maker.proofs.Telling.{came_telling}
use Rattle.step_maker.proofs.Visiting.{does_came}
use Rattle.frame_types.specs.Found.{TakesFound}
use Rattle.frame_types.specs.Plain.{TwinTake}
use Rattle.frame_types.specs.declared.taking.Taken.{Taken}
use Rattle.frame_types.specs.declared.taking.Taken.TheVariants as types
use Rattle.partial_state.specs.Levels.{level_type}
use Rattle.table_entries.specs.Acquiring.{GotRef}
use Rattle.table_entries.proofs.Shared.{ref_came}
use Rattle.writable_pages.specs.Pages as memory
use Rattle.writable_pages.specs.Pages.{GotPage, TookPage}
use Rattle.desc_pages.specs.Fixing as fixing
use Rattle.desc_pages.specs.Fixing.{FixesBy}
use Rattle.desc_pages.specs.Pages as pages
use Rattle.desc_pages.specs.Pages.{GotDesc, PageValidated, TookDesc, TookDescType}
use Rattle.solo_pages.proofs.Waits.{type_unended}
use Rattle.shown_words.specs.Shown.{NoneDies}
use Rattle.shown_words.proofs.Base.{Settling, had_settling, nothing_settling, off_settling, ref_shows, settling_then, take_none, type_settling, type_unowned}

-- ---- lists of steps, none at a reference word
abbrev pub IsOffRefs : Place → Type 0
IsOffRefs (Refs f) = ⊥
IsOffRefs _ = Unit {0}

abbrev pub AreOffRefs : List Visit → Type 0
AreOffRefs [] = Unit {0}
AreOffRefs (x ∷ xs) = IsOffRefs x.place × AreOffRefs xs

off_ran : (v w : PortValue) (ms : List Moment) → Ran v ms w → AreOffRefs (visits ms) → Settling v w
off_ran v w [] ran off = subst (λ (y : PortValue). Settling v y) (sym ran) (nothing_settling v)
off_ran v w (m ∷ ms) ran off =
    settling_then v ran.0 w (off_ran v ran.0 ms ran.1 off.1)
    (off_settling ran.0 w m.place m.act m.kind m.mark m.found (λ g e. subst IsOffRefs (sym e) off.0) ran.2.moves)

pub off_does : (v w : PortValue) (P : List Visit → Type 0) → ((vs : List Visit) → P vs → AreOffRefs vs) → Does v w P → Settling v w
unfolding Does
off_does v w P each does = off_ran v w does.0 does.1 (each (visits does.0) does.2)

pub off_both : (before after : List Visit) → AreOffRefs before → AreOffRefs after → AreOffRefs (after ++ before)
off_both before [] a b = a
off_both before (x ∷ xs) a b = (b.0, off_both before xs a b.1)

pub off_then : (P Q : List Visit → Type 0) → ((vs : List Visit) → P vs → AreOffRefs vs) → ((vs : List Visit) → Q vs → AreOffRefs vs) → (vs : List Visit) → Then P Q vs → AreOffRefs vs
off_then P Q p q vs t = subst AreOffRefs (sym t.list) (off_both t.before t.after (p t.before t.first) (q t.after t.next))

pub off_only : (x : Visit) → IsOffRefs x.place → (vs : List Visit) → Only x vs → AreOffRefs vs
off_only x is vs e = subst AreOffRefs (sym e) (is, tt)

pub off_where : (b : Bool) (P : List Visit → Type 0) → ((vs : List Visit) → P vs → AreOffRefs vs) → (vs : List Visit) → Where b P vs → AreOffRefs vs
off_where true P p vs a = p vs a
off_where false P p vs e = subst AreOffRefs (sym e) tt

-- ---- a descriptor page
desc_settling : (v w : PortValue) (f owner : ℕ) (way : Taken) → TookDescType v w f owner (Ok way) → Settling v w
desc_settling v w f owner way a =
    record { came = does_came v w _ a.found; none = λ machine telling n. take_none w (told_word v) f Desc way (a.plain telling).2 n }

fixes_off : (f i : ℕ) (vs : List Visit) → FixesBy f i vs → AreOffRefs vs
fixes_off f _ _ fixing.FixesBy.none = tt
fixes_off f _ _ (fixing.FixesBy.stands i x vs is more) = (tt, fixes_off f i vs more)
fixes_off f _ _ (fixing.FixesBy.changes i x y old vs is off more) = (tt, (tt, fixes_off f i vs more))

validated_settling : (v w : PortValue) (f : ℕ) (r : Result (Unit {0}) Stop) → r ≡ Ok tt → PageValidated v w f r → Settling v w
validated_settling v w f _ is (pages.PageValidated.unfixed z e i word less unfixes died) = absurd cc
validated_settling v w f _ is (pages.PageValidated.fixed z e old fixes stores) =
    settling_then v z w (off_does v z _ (fixes_off f 512) fixes.visits) (off_settling z w (Kind f) _ _ None old (λ g e. absurd cc) stores)

took_settling : (v w : PortValue) (f owner : ℕ) (r : Result (Unit {0}) Stop) → r ≡ Ok tt → TookDesc v f owner w r → Settling v w
took_settling v _ f owner _ is (pages.TookDesc.untyped y w e type gave) = absurd cc
took_settling v _ f owner _ is (pages.TookDesc.counted w type) = desc_settling v w f owner types.Counted type
took_settling v _ f owner _ is (pages.TookDesc.waiting y w stamp e type left) = absurd cc
took_settling v _ f owner _ is (pages.TookDesc.read y w r type validated) = settling_then v y w (desc_settling v y f owner (types.InWork 0 true) type) (validated_settling y w f r is validated)

pub page_settling : (v w : PortValue) (f owner : ℕ) (r : Result ℕ Stop) (g : ℕ) → r ≡ Ok g → GotDesc v f owner w r → Settling v w
page_settling v _ f owner _ g is (pages.GotDesc.unreferred w e ref) = absurd cc
page_settling v _ f owner _ g is (pages.GotDesc.untaken u w e ref took) = absurd cc
page_settling v _ f owner _ g is (pages.GotDesc.had u w ref took) = settling_then v u w (had_settling v u f owner f ref) (took_settling u w f owner (Ok tt) refl took)

-- once its reference is had, it is never refused for an owner
validated_unowned : (v w : PortValue) (f : ℕ) (r : Result (Unit {0}) Stop) (g x : ℕ) → r ≡ Err (Refused (WrongOwner g x)) → PageValidated v w f r → ⊥
validated_unowned v w f _ g x is (pages.PageValidated.unfixed z e i word less unfixes died) = absurd cc
validated_unowned v w f _ g x is (pages.PageValidated.fixed z e old fixes stores) = absurd cc

unwaited : (v w : PortValue) (f owner : ℕ) (want : PageType) (own : Bool) (stamp g x : ℕ) (e : Stop) → e ≡ Refused (WrongOwner g x) → TakesFound v w f owner want (Ok (types.Waiting own stamp e)) → ⊥
unwaited v w f owner want own stamp g x e is found = type_unended v w f owner want own stamp (Refused (WrongOwner g x)) (subst (λ y. TakesFound v w f owner want (Ok (types.Waiting own stamp y))) is found) tt

untyped : (v w : PortValue) (f : ℕ) (want : PageType) (g x : ℕ) (e : Stop) → e ≡ Refused (WrongOwner g x) → is_telling v ≡ true → TwinTake v w f want (Err e) → ⊥
untyped v w f want g x e is telling plain = type_unowned f g x (told_word v (Kind f)) want ((plain telling).0 ∙ ap Some is)

pub stop_of : (e : Stop) (r : Refusal) → ◌≡◌ {A = Result (Unit {0}) Stop} (Err e) (Err (Refused r)) → e ≡ Refused r
stop_of e r is = cc

got_stop : (e : Stop) (r : Refusal) → ◌≡◌ {A = Result ℕ Stop} (Err e) (Err (Refused r)) → e ≡ Refused r
got_stop e r is = cc

pub took_unowned : (v w : PortValue) (f owner : ℕ) (r : Result (Unit {0}) Stop) (g x : ℕ) → r ≡ Err (Refused (WrongOwner g x)) → is_telling v ≡ true → TookDesc v f owner w r → ⊥
took_unowned v _ f owner _ g x is telling (pages.TookDesc.untyped y w e type gave) = untyped v y f Desc g x e (stop_of e (WrongOwner g x) is) telling type.plain
took_unowned v _ f owner _ g x is telling (pages.TookDesc.counted w type) = absurd cc
took_unowned v _ f owner _ g x is telling (pages.TookDesc.waiting y w stamp e type left) = unwaited v y f owner Desc true stamp g x e (stop_of e (WrongOwner g x) is) type.found
took_unowned v _ f owner _ g x is telling (pages.TookDesc.read y w r type validated) = validated_unowned y w f r g x is validated

-- so it shows the word of the frame
page_shows : (v w : PortValue) (f owner : ℕ) (r : Result ℕ Stop) (g x : ℕ) → r ≡ Err (Refused (WrongOwner g x)) → is_telling v ≡ true → NoneDies (told_word v) →
    GotDesc v f owner w r → is_dying x ≡ false
page_shows v _ f owner _ g x is telling n (pages.GotDesc.unreferred w e ref) =
    ref_shows v w f owner g x (subst (λ y. GotRef v w f owner (Err y)) (got_stop e (WrongOwner g x) is) ref) telling n
page_shows v _ f owner _ g x is telling n (pages.GotDesc.untaken u w e ref took) =
    absurd (took_unowned u w f owner (Err e) g x (ap (λ y. Err y) (got_stop e (WrongOwner g x) is)) (came_telling v u (ref_came v u f owner (Ok f) ref) ∙ telling) took)
page_shows v _ f owner _ g x is telling n (pages.GotDesc.had u w ref took) = absurd cc

-- behind calls that let no frame die
pub page_behind : (v a w : PortValue) (f owner g x : ℕ) → Settling v a → IsMachine v.post.machine → is_telling v ≡ true → NoneDies (told_word v) →
    GotDesc a f owner w (Err (Refused (WrongOwner g x))) → is_dying x ≡ false
page_behind v a w f owner g x s machine telling n page = page_shows a w f owner (Err (Refused (WrongOwner g x))) g x refl (came_telling v a s.came ∙ telling) (s.none machine telling n) page

-- ---- a page of ordinary memory
pub memory_unowned : (v w : PortValue) (f owner : ℕ) (r : Result (Unit {0}) Stop) (g x : ℕ) → r ≡ Err (Refused (WrongOwner g x)) → is_telling v ≡ true → TookPage v f owner w r → ⊥
memory_unowned v _ f owner _ g x is telling (memory.TookPage.counted w type) = absurd cc
memory_unowned v _ f owner _ g x is telling (memory.TookPage.untyped u w e type gave) = untyped v u f (level_type 0) g x e (stop_of e (WrongOwner g x) is) telling type.plain
memory_unowned v _ f owner _ g x is telling (memory.TookPage.waiting u w own stamp e type left) = unwaited v u f owner (level_type 0) own stamp g x e (stop_of e (WrongOwner g x) is) type.found

pub memory_shows : (v w : PortValue) (f owner : ℕ) (r : Result ℕ Stop) (g x : ℕ) → r ≡ Err (Refused (WrongOwner g x)) → is_telling v ≡ true → NoneDies (told_word v) →
    GotPage v f owner w r → is_dying x ≡ false
memory_shows v _ f owner _ g x is telling n (memory.GotPage.unreferred w e ref) =
    ref_shows v w f owner g x (subst (λ y. GotRef v w f owner (Err y)) (got_stop e (WrongOwner g x) is) ref) telling n
memory_shows v _ f owner _ g x is telling n (memory.GotPage.refused u w e ref took) =
    absurd (memory_unowned u w f owner (Err e) g x (ap (λ y. Err y) (got_stop e (WrongOwner g x) is)) (came_telling v u (ref_came v u f owner (Ok f) ref) ∙ telling) took)
memory_shows v _ f owner _ g x is telling n (memory.GotPage.had u w ref took) = absurd cc

memory_counted : (v w : PortValue) (f owner : ℕ) (r : Result (Unit {0}) Stop) → r ≡ Ok tt → TookPage v f owner w r → Settling v w
memory_counted v _ f owner _ is (memory.TookPage.counted w type) = type_settling v w f owner 0 types.Counted type
memory_counted v _ f owner _ is (memory.TookPage.untyped u w e type gave) = absurd cc
memory_counted v _ f owner _ is (memory.TookPage.waiting u w own stamp e type left) = absurd cc

pub memory_settling : (v w : PortValue) (f owner : ℕ) (r : Result ℕ Stop) (g : ℕ) → r ≡ Ok g → GotPage v f owner w r → Settling v w
memory_settling v _ f owner _ g is (memory.GotPage.unreferred w e ref) = absurd cc
memory_settling v _ f owner _ g is (memory.GotPage.refused u w e ref took) = absurd cc
memory_settling v _ f owner _ g is (memory.GotPage.had u w ref took) = settling_then v u w (had_settling v u f owner f ref) (memory_counted u w f owner (Ok tt) refl took)
