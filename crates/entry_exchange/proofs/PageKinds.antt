-- Why a frame is not to be had as ordinary memory, by the words that were found: why a table is not to be had, too.
use Rattle.std.proofs.Common.{◌≡◌, ℕ, ◌==◌, nat_le, nat_lt, if◌then◌else◌, Bool, true, false, List, Option, Some, None, Err, refl, sym, subst}
use Rattle.xp_words.specs.Machine.{Machine}
use Rattle.xp_words.specs.RefWords.{ref_read}
use Rattle.xp_words.specs.KindWords.{kind_fields}
use Rattle.xp_words.specs.declared.kind.PageType.{PageType}
use Rattle.xp_words.specs.declared.refs.RefWord.{RefWord}
use Rattle.xp_words.specs.declared.refs.RefWord.TheVariants as refs
use Rattle.xp_words.specs.declared.reply.Pause.TheVariants as pauses
use Rattle.xp_words.specs.declared.reply.Refusal.{Refusal}
use Rattle.xp_words.specs.declared.reply.Refusal.TheVariants as refusals
use Rattle.xp_words.specs.declared.reply.Stop.{Stop}
use Rattle.xp_words.specs.declared.reply.Stop.TheVariants.{Paused, Refused}
use Rattle.xp_board.specs.Told.{Post, PortValue}
use Rattle.step_maker.specs.Visits.{Does, Visit}
use Rattle.flush_waits.specs.Waiting.{IsWait}
use Rattle.frame_words.specs.Plain.{refer_by}
use Rattle.frame_words.specs.Refs.{GetsBy, IsRefStop, outside, refused}
use Rattle.frame_types.specs.Found.{TypeBy}
use Rattle.frame_types.specs.Plain.{stop_by}
use Rattle.frame_types.specs.Standing.{standing_of}
use Rattle.frame_types.specs.declared.standing.Standing.{Standing}
use Rattle.frame_types.specs.declared.standing.Standing.TheVariants as stands
use Rattle.level_release.specs.Asking.{is_due_stop}
use Rattle.partial_state.specs.Levels.{level_type}
use Rattle.level_validate.specs.Acquiring.{IsAcquireStop}
use Rattle.table_entries.specs.Acquiring.{GotRef, TookType}
use Rattle.writable_pages.specs.Pages as pages
use Rattle.writable_pages.specs.Pages.{GotPage, TookPage}

-- one of these, and not the gate
abbrev pub Undue : Stop → Type 0
Undue e = IsAcquireStop e × (is_due_stop e ≡ false)

-- ---- a reference
named_kind : (a r : Refusal) → IsRefStop (Refused a) → Some a ≡ Some r → IsRefStop (Refused r)
named_kind a r kind e = let same : a ≡ r = cc in subst (λ y. IsRefStop (Refused y)) same kind

owned_kind : (a b : Bool) (f x : ℕ) (r : Refusal) → (if a then (if b then Some (refusals.CountFull f x) else None) else Some (refusals.WrongOwner f x)) ≡ Some r → IsRefStop (Refused r)
owned_kind true true f x r e = named_kind (refusals.CountFull f x) r tt e
owned_kind true false f x r e = absurd cc
owned_kind false b f x r e = named_kind (refusals.WrongOwner f x) r tt e

word_kind : (limit owner f x : ℕ) (o : Option RefWord) (r : Refusal) → refer_by limit owner f x o ≡ Some r → IsRefStop (Refused r)
word_kind limit owner f x (Some (refs.Owned d allocated count)) r e = owned_kind (d == owner) (nat_le limit count) f x r e
word_kind limit owner f x (Some (refs.Free stamp)) r e = named_kind (refusals.WrongOwner f x) r tt e
word_kind limit owner f x (Some (refs.Dying d)) r e = named_kind (refusals.WrongOwner f x) r tt e
word_kind limit owner f x None r e = named_kind (refusals.WrongOwner f x) r tt e

inside_kind : (n : Machine) (owner f x : ℕ) (b : Bool) (r : Refusal) → (if b then refer_by n.limit owner f x (ref_read x) else Some (refusals.NoFrame f)) ≡ Some r → IsRefStop (Refused r)
inside_kind n owner f x true r e = word_kind n.limit owner f x (ref_read x) r e
inside_kind n owner f x false r e = named_kind (refusals.NoFrame f) r tt e

pub gets_kind : (n : Machine) (f owner : ℕ) (e : Stop) (vs : List Visit) → GetsBy {A = ℕ} n f owner (Err e) vs → IsRefStop e
gets_kind n f owner (Refused r) vs (outside low is none) = subst (λ y. IsRefStop (Refused y)) (sym is) tt
gets_kind n f owner (Refused r) vs (refused x inside why only) = inside_kind n owner f x (nat_lt f n.frames) r why
gets_kind n f owner (Paused (pauses.Lost place expected found)) vs by = tt
gets_kind n f owner (Paused _) vs by = absurd by

ref_undue : (e : Stop) → IsRefStop e → Undue e
ref_undue (Refused (refusals.NoFrame f)) is = (tt, refl)
ref_undue (Refused (refusals.WrongOwner f found)) is = (tt, refl)
ref_undue (Refused (refusals.CountFull f found)) is = (tt, refl)
ref_undue (Paused (pauses.Lost place expected found)) is = (tt, refl)
ref_undue _ is = absurd is

pub ref_why : (v w : PortValue) (f owner : ℕ) (e : Stop) → GotRef v w f owner (Err e) → Undue e
unfolding Does
ref_why v w f owner e got = ref_undue e (gets_kind v.post.machine f owner e _ got.found.2)

-- ---- a type
stop_why : (f : ℕ) (want : PageType) (x : ℕ) (s : Standing) (e : Stop) → stop_by f want x s ≡ Some e → Undue e
stop_why f want x stands.Other e why = let is : Refused (refusals.OtherType f want x) ≡ e = cc in subst Undue is (tt, refl)
stop_why f want x stands.Busy e why = let is : Paused (pauses.Busy f x) ≡ e = cc in subst Undue is (tt, refl)
stop_why f want x stands.Counted e why = absurd cc
stop_why f want x stands.Dead e why = absurd cc
stop_why f want x stands.Partial e why = absurd cc

type_by_why : (q : Post) (f owner : ℕ) (want : PageType) (e : Stop) (vs : List Visit) → TypeBy q f owner want (Err e) vs → Undue e
type_by_why q f owner want (Refused r) vs by = stop_why f want by.0 (standing_of (kind_fields by.0) want) (Refused r) by.1
type_by_why q f owner want (Paused (pauses.Lost place expected found)) vs by = (tt, refl)
type_by_why q f owner want (Paused p) vs by = stop_why f want by.0 (standing_of (kind_fields by.0) want) (Paused p) by.1

type_why : (v w : PortValue) (f owner level : ℕ) (e : Stop) → TookType v w f owner level (Err e) → Undue e
unfolding Does
type_why v w f owner level e took = type_by_why v.post f owner (level_type level) e _ took.found.2

wait_why : (e : Stop) → IsWait e → Undue e
wait_why (Refused (refusals.Clock found)) is = (tt, refl)
wait_why (Paused (pauses.Flush vcpu stamp found)) is = (tt, refl)
wait_why _ is = absurd is

-- ---- the page
took_why : (v w : PortValue) (f owner : ℕ) (e : Stop) → TookPage v f owner w (Err e) → Undue e
took_why v w f owner e (pages.untyped u _ _ took gave) = type_why v u f owner 0 e took
took_why v w f owner e (pages.waiting u _ own stamp _ took left) = wait_why e took.waits.0

pub page_why : (v w : PortValue) (f owner : ℕ) (e : Stop) → GotPage v f owner w (Err e) → Undue e
page_why v w f owner e (pages.unreferred _ _ got) = ref_why v w f owner e got
page_why v w f owner e (pages.refused u _ _ got took) = took_why u w f owner e took
