-- Why a frame is not to be had as ordinary memory, by the words that were found.
use Rattle.std.proofs.Common.{◌≡◌, ℕ, ◌==◌, nat_le, nat_lt, if◌then◌else◌, Bool, true, false, List, Option, Some, None, Err, sym, subst}
use Rattle.xp_words.specs.Machine.{Machine}
use Rattle.xp_words.specs.RefWords.{ref_read}
use Rattle.xp_words.specs.KindWords.{kind_fields}
use Rattle.xp_words.specs.declared.kind.PageType.{PageType}
use Rattle.xp_words.specs.declared.kind.PageType.TheVariants.{Writable}
use Rattle.xp_words.specs.declared.refs.RefWord.{RefWord}
use Rattle.xp_words.specs.declared.refs.RefWord.TheVariants as refs
use Rattle.xp_words.specs.declared.reply.Pause.TheVariants as pauses
use Rattle.xp_words.specs.declared.reply.Refusal.{Refusal}
use Rattle.xp_words.specs.declared.reply.Refusal.TheVariants as refusals
use Rattle.xp_words.specs.declared.reply.Stop.{Stop}
use Rattle.xp_words.specs.declared.reply.Stop.TheVariants.{Paused, Refused}
use Rattle.xp_board.specs.Told.{Post, PortValue}
use Rattle.step_maker.specs.Visits.{Does, Visit}
use Rattle.flush_waits.specs.Waiting.{IsWait}
use Rattle.frame_words.specs.Plain.{refer_by}
use Rattle.frame_words.specs.Refs.{GetsBy, IsRefStop, outside, refused}
use Rattle.frame_types.specs.Found.{TypeBy}
use Rattle.frame_types.specs.Plain.{stop_by}
use Rattle.frame_types.specs.Standing.{standing_of}
use Rattle.frame_types.specs.declared.standing.Standing.{Standing}
use Rattle.frame_types.specs.declared.standing.Standing.TheVariants as stands
use Rattle.writable_pages.specs.Pages as pages
use Rattle.writable_pages.specs.Pages.{GotPage, TookPage}
use Rattle.whole_pages.specs.Whole.{IsWholeStop}

-- ---- a reference
pub ref_kind : (e : Stop) → IsRefStop e → IsWholeStop e
ref_kind (Refused (refusals.NoFrame f)) is = tt
ref_kind (Refused (refusals.WrongOwner f found)) is = tt
ref_kind (Refused (refusals.CountFull f found)) is = tt
ref_kind (Paused (pauses.Lost place expected found)) is = tt
ref_kind _ is = absurd is

named_kind : (a r : Refusal) → IsWholeStop (Refused a) → Some a ≡ Some r → IsWholeStop (Refused r)
named_kind a r kind e = let same : a ≡ r = cc in subst (λ y. IsWholeStop (Refused y)) same kind

owned_kind : (a b : Bool) (f x : ℕ) (r : Refusal) → (if a then (if b then Some (refusals.CountFull f x) else None) else Some (refusals.WrongOwner f x)) ≡ Some r → IsWholeStop (Refused r)
owned_kind true true f x r e = named_kind (refusals.CountFull f x) r tt e
owned_kind true false f x r e = absurd cc
owned_kind false b f x r e = named_kind (refusals.WrongOwner f x) r tt e

word_kind : (limit owner f x : ℕ) (o : Option RefWord) (r : Refusal) → refer_by limit owner f x o ≡ Some r → IsWholeStop (Refused r)
word_kind limit owner f x (Some (refs.Owned d allocated count)) r e = owned_kind (d == owner) (nat_le limit count) f x r e
word_kind limit owner f x (Some (refs.Free stamp)) r e = named_kind (refusals.WrongOwner f x) r tt e
word_kind limit owner f x (Some (refs.Dying d)) r e = named_kind (refusals.WrongOwner f x) r tt e
word_kind limit owner f x None r e = named_kind (refusals.WrongOwner f x) r tt e

inside_kind : (n : Machine) (owner f x : ℕ) (b : Bool) (r : Refusal) → (if b then refer_by n.limit owner f x (ref_read x) else Some (refusals.NoFrame f)) ≡ Some r → IsWholeStop (Refused r)
inside_kind n owner f x true r e = word_kind n.limit owner f x (ref_read x) r e
inside_kind n owner f x false r e = named_kind (refusals.NoFrame f) r tt e

gets_kind : (n : Machine) (f owner : ℕ) (e : Stop) (vs : List Visit) → GetsBy {A = ℕ} n f owner (Err e) vs → IsWholeStop e
gets_kind n f owner (Refused r) vs (outside low is none) = subst (λ y. IsWholeStop (Refused y)) (sym is) tt
gets_kind n f owner (Refused r) vs (refused x inside why only) = inside_kind n owner f x (nat_lt f n.frames) r why
gets_kind n f owner (Paused (pauses.Lost place expected found)) vs by = tt
gets_kind n f owner (Paused _) vs by = absurd by

-- ---- a type
stop_kind : (f : ℕ) (want : PageType) (x : ℕ) (s : Standing) (e : Stop) → stop_by f want x s ≡ Some e → IsWholeStop e
stop_kind f want x stands.Other e why = let is : Refused (refusals.OtherType f want x) ≡ e = cc in subst IsWholeStop is tt
stop_kind f want x stands.Busy e why = let is : Paused (pauses.Busy f x) ≡ e = cc in subst IsWholeStop is tt
stop_kind f want x stands.Counted e why = absurd cc
stop_kind f want x stands.Dead e why = absurd cc
stop_kind f want x stands.Partial e why = absurd cc

type_kind : (q : Post) (f owner : ℕ) (want : PageType) (e : Stop) (vs : List Visit) → TypeBy q f owner want (Err e) vs → IsWholeStop e
type_kind q f owner want (Refused r) vs by = stop_kind f want by.0 (standing_of (kind_fields by.0) want) (Refused r) by.1
type_kind q f owner want (Paused (pauses.Lost place expected found)) vs by = tt
type_kind q f owner want (Paused p) vs by = stop_kind f want by.0 (standing_of (kind_fields by.0) want) (Paused p) by.1

wait_kind : (e : Stop) → IsWait e → IsWholeStop e
wait_kind (Refused (refusals.Clock found)) is = tt
wait_kind (Paused (pauses.Flush vcpu stamp found)) is = tt
wait_kind _ is = absurd is

-- ---- the frame
took_kind : (v w : PortValue) (f owner : ℕ) (e : Stop) → TookPage v f owner w (Err e) → IsWholeStop e
unfolding Does
took_kind v w f owner e (pages.untyped u _ _ took gave) = type_kind v.post f owner Writable e _ took.found.2
took_kind v w f owner e (pages.waiting u _ own stamp _ took left) = wait_kind e took.waits.0

pub page_kind : (v w : PortValue) (f owner : ℕ) (e : Stop) → GotPage v f owner w (Err e) → IsWholeStop e
unfolding Does
page_kind v w f owner e (pages.unreferred _ _ got) = gets_kind v.post.machine f owner e _ got.found.2
page_kind v w f owner e (pages.refused u _ _ got took) = took_kind u w f owner e took
