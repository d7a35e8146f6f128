-- A type that waits for a flush stops for the clock, or is paused: so its call does not end.
use Rattle.std.proofs.Common.{◌≡◌, ℕ, Bool, true, false, List, Option, Result, Ok, Err, refl, ap, subst}
use Rattle.xp_words.specs.KindWords.{kind_fields}
use Rattle.xp_words.specs.declared.kind.KindWord.{KindWord}
use Rattle.xp_words.specs.declared.kind.PageType.{PageType}
use Rattle.xp_words.specs.declared.reply.Refusal.{Refusal}
use Rattle.xp_words.specs.declared.reply.Refusal.TheVariants as refusals
use Rattle.xp_words.specs.declared.reply.Stop.{Stop}
use Rattle.xp_words.specs.declared.reply.Stop.TheVariants.{Refused, Paused}
use Rattle.xp_board.specs.Readings.{last_clock}
use Rattle.xp_board.specs.Told.{Post, PortValue}
use Rattle.step_maker.specs.Reasons.{OfOwner, Whose}
use Rattle.step_maker.specs.Visits.{Does, Visit}
use Rattle.flush_words.specs.Flushing as flushes
use Rattle.flush_words.specs.Flushing.{FlushedBy}
use Rattle.flush_waits.specs.Listing as listing
use Rattle.flush_waits.specs.Listing.{LooksAt, Slow, WaitedFor, WaitsInOrder}
use Rattle.frame_types.specs.Found.{GoesBy, TakesBy, TakesFound}
use Rattle.frame_types.specs.Plain.{IsTakenBy, is_own, waits_by}
use Rattle.frame_types.specs.Standing.{standing_of}
use Rattle.frame_types.specs.declared.standing.Standing.{Standing}
use Rattle.frame_types.specs.declared.standing.Standing.TheVariants as stands
use Rattle.frame_types.specs.declared.taking.Taken.TheVariants.{Waiting}
use Rattle.course_laws.specs.Courses.{IsFinal}

flushed_unended : (s : ℕ) (a : Result (Unit {0}) Refusal) (r : Refusal) (vs : List Visit) → a ≡ Err r → FlushedBy s a vs → IsFinal (Refused r) → ⊥
flushed_unended s _ r _ e flushes.none final = subst (λ (y : Refusal). IsFinal (Refused y) → ⊥) (let i : refusals.Clock last_clock ≡ r = cc in i) (λ f. f) final
flushed_unended s _ r _ e (flushes.once clock found to before off left) final = absurd cc

module _ (q : Post) (whose : Whose) (stamp : ℕ) where
  look_unended : (u : ℕ) (a : Result (Option ℕ) Refusal) (r : Refusal) (vs : List Visit) → a ≡ Err r → LooksAt q whose stamp u vs a → IsFinal (Refused r) → ⊥
  look_unended u _ r vs e (listing.unmeant means is off none) final = absurd cc
  look_unended u _ r vs e (listing.idle x other some steps) final = absurd cc
  look_unended u _ r vs e (listing.late y other later steps) final = absurd cc
  look_unended u _ r vs e (listing.barred y other early steps) final = absurd cc
  look_unended u _ r vs e (listing.behind y z other early steps) final = absurd cc
  look_unended u _ r vs e (listing.own_late y own later steps) final = absurd cc
  look_unended u _ r vs e (listing.own_flushed y own early steps) final = absurd cc
  look_unended u _ r vs e (listing.own_spent y x own early steps) final = let same : x ≡ r = cc in flushed_unended u (Err x) r steps.after (ap Err same) steps.next final

  order_unended : (vs : List Visit) (u : ℕ) (a : Result (Option Slow) Refusal) (r : Refusal) → a ≡ Err r → WaitsInOrder q whose stamp vs u a → IsFinal (Refused r) → ⊥
  order_unended _ _ _ r e (listing.none vs none) final = absurd cc
  order_unended _ _ _ r e (listing.more u first standing before now vs waits looks are) final = absurd cc
  order_unended _ _ _ r e (listing.spent u first x before now vs waits looks are) final = let same : x ≡ r = cc in look_unended u (Err x) r now (ap Err same) looks final

  pub waited_unended : (e : Stop) (vs : List Visit) → WaitedFor q whose stamp (Err e) vs → IsFinal e → ⊥
  waited_unended (Refused r) vs waits final = order_unended vs waits.0 (Err r) r refl waits.1 final
  waited_unended (Paused r) vs waits final = final

-- ---- a type
module _ (q : Post) (f owner : ℕ) (want : PageType) (word stamp : ℕ) (own : Bool) (e : Stop) where
  abbrev k : KindWord
  k = kind_fields word

  goes_unended : (marked : Bool) (number : ℕ) (mine : Bool) (vs : List Visit) → marked ≡ true → GoesBy q f owner want marked number mine (Waiting own stamp e) vs → IsFinal e → ⊥
  goes_unended true number mine vs on steps final = waited_unended q (OfOwner owner) number e steps.before steps.first.1 final
  goes_unended false number mine vs on steps final = absurd cc

  takes_unended : (s : Standing) (vs : List Visit) → IsTakenBy want k s (Waiting own stamp e) → TakesBy q f owner want word s (Waiting own stamp e) vs → IsFinal e → ⊥
  takes_unended stands.Counted vs way steps final = absurd (let i = way in cc)
  takes_unended stands.Dead vs way steps final = goes_unended (waits_by k want stands.Dead) k.number (is_own k stands.Dead) steps.next.after way.0 steps.next.next final
  takes_unended stands.Partial vs way steps final = goes_unended (waits_by k want stands.Partial) k.number (is_own k stands.Partial) steps.next.after way.0 steps.next.next final
  takes_unended stands.Busy vs way steps final = goes_unended (waits_by k want stands.Busy) k.number (is_own k stands.Busy) steps.next.after way.0 steps.next.next final
  takes_unended stands.Other vs way steps final = goes_unended (waits_by k want stands.Other) k.number (is_own k stands.Other) steps.next.after way.0 steps.next.next final

pub type_unended : (v w : PortValue) (f owner : ℕ) (want : PageType) (own : Bool) (stamp : ℕ) (e : Stop) → TakesFound v w f owner want (Ok (Waiting own stamp e)) → IsFinal e → ⊥
unfolding Does
type_unended v w f owner want own stamp e found final =
    let t = found.2 in
    takes_unended v.post f owner want t.word stamp own e (standing_of (kind_fields t.word) want) t.steps.after t.way t.steps.next final
