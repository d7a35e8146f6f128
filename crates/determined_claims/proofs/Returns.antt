-- Frames that are given back are determined by the words that are found.
use Rattle.std.proofs.Common.{◌≡◌, ◌≢◌, ℕ, ◌<◌, ◌≤◌, max, nat_lt, Bool, true, false, List, Option, Some, None, Result, Ok, Err, refl, sym, ap, ◌∙◌, subst, inl, inr, arith, if◌then◌else◌}
use Rattle.std.proofs.lemmas.Bool.Decides.{nat_tests}
use Rattle.xp_words.specs.Machine.{Machine}
use Rattle.xp_words.specs.Places.{number, sizes_of}
use Rattle.xp_words.specs.declared.place.Place.TheVariants.{Refs}
use Rattle.xp_words.specs.declared.reply.Pause.TheVariants.{Lost}
use Rattle.xp_words.specs.declared.reply.Refusal.{Refusal}
use Rattle.xp_words.specs.declared.reply.Refusal.TheVariants.{NoFrame}
use Rattle.xp_words.specs.declared.reply.Stop.{Stop}
use Rattle.xp_words.specs.declared.reply.Stop.TheVariants.{Paused, Refused}
use Rattle.xp_board.specs.declared.step.Act.TheVariants.{Cas, Load}
use Rattle.step_maker.specs.Visits.{Only, Then, Visit}
use Rattle.frame_words.specs.Freeing.{PutBy}
use Rattle.frame_claims.specs.Found.{Upwards, saw_refs}
use Rattle.reservations.specs.Returning.{DecreasesBy, EndsAt, ReturnsBy, UnreturnedBy, cleared, clears_mark, number_at, outside, refused, return_refusal}
use Rattle.determined_laws.specs.Forks.{Tie}
use Rattle.determined_laws.proofs.References.{put_tie}
use Rattle.determined_laws.proofs.Ties.{tie_map}
use Rattle.determined_tables.proofs.Entries.{NoMore, Parted, So, alone, none_tie, parted_tie, so_tie, then_map}
use Rattle.determined_claims.proofs.Lists.{Until, halted, through, until_tie}
use Rattle.determined_claims.proofs.Parts.{Either, either_tie, joined_last, only_tie}

-- ---- one frame
module _ (n : Machine) (owner f : ℕ) where
  abbrev lost_mark : ℕ → ℕ → Stop
  lost_mark x y = Paused (Lost (number (sizes_of n) (Refs f)) x y)

  abbrev Marked : ℕ → ℕ → Result (Unit {0}) Stop → List Visit → Type 0
  Marked x y a vs = Either (y ≡ x) (So (Ok tt) (PutBy f)) (y ≢ x) (NoMore (Err (lost_mark x y))) a vs

  abbrev Looked : Option Refusal → ℕ → Result (Unit {0}) Stop → List Visit → Type 0
  Looked (Some r) x a vs = NoMore (Err (Refused r)) a vs
  Looked None x a vs = Parted (λ y us. Only (clears_mark f x y) us) (Marked x) a vs

  abbrev Near : Result (Unit {0}) Stop → List Visit → Type 0
  Near a vs = Parted (λ x us. Only (saw_refs f x) us) (λ x. Looked (return_refusal n owner f x) x) a vs

  abbrev Returned : Result (Unit {0}) Stop → List Visit → Type 0
  Returned a vs = Either (n.frames ≤ f) (NoMore (Err (Refused (NoFrame f)))) (f < n.frames) Near a vs

  marked_tie : (x y : ℕ) (a b : Result (Unit {0}) Stop) (us vs : List Visit) → Marked x y a us → Marked x y b vs → Tie us vs (a ≡ b)
  marked_tie x y a b us vs p q = either_tie (λ e off. off e) (so_tie (put_tie f) (Ok tt)) (none_tie (Err (lost_mark x y))) a b us vs p q

  looked_tie : (o : Option Refusal) (x : ℕ) (a b : Result (Unit {0}) Stop) (us vs : List Visit) → Looked o x a us → Looked o x b vs → Tie us vs (a ≡ b)
  looked_tie (Some r) x a b us vs p q = none_tie (Err (Refused r)) a b us vs p q
  looked_tie None x a b us vs p q = parted_tie (λ y z us vs. only_tie (Refs f) (Cas x (cleared x)) y z us vs) (marked_tie x) a b us vs p q

  near_tie : (a b : Result (Unit {0}) Stop) (us vs : List Visit) → Near a us → Near b vs → Tie us vs (a ≡ b)
  near_tie a b us vs p q = parted_tie (λ x y us vs. only_tie (Refs f) Load x y us vs) (λ x. looked_tie (return_refusal n owner f x) x) a b us vs p q

  if_none : (b : Bool) (o : Option Refusal) (r : Refusal) → (if b then o else Some r) ≡ None → b ≡ true
  if_none true o r e = refl
  if_none false o r e = absurd cc

  near_by : (x : ℕ) → return_refusal n owner f x ≡ None → f < n.frames
  near_by x free = let low = if_none (nat_lt f n.frames) _ (NoFrame f) free in grind (arith, nat_tests, low)

  seen : (x : ℕ) (a : Result (Unit {0}) Stop) (vs : List Visit) (o : Option Refusal) → return_refusal n owner f x ≡ o → f < n.frames → Then (Only (saw_refs f x)) (Looked o x a) vs → Returned a vs
  seen x a vs o is near t = inr (near, record { answer = x; parts = then_map t (λ us l. subst (λ z. Looked z x a us) (sym is) l) })

  unreturned : (r : Refusal) (vs : List Visit) → UnreturnedBy n owner f r vs → Returned (Err (Refused r)) vs
  unreturned r vs (outside far is nothing) = inl (far, (ap (λ z. Err (Refused z)) is, nothing))
  unreturned r vs (refused x near is saw) = seen x (Err (Refused r)) vs (Some r) is near (alone saw (refl, refl))

  returned_view : (a : Result (Unit {0}) Stop) (vs : List Visit) → ReturnsBy n owner f a vs → Returned a vs
  returned_view (Ok done) vs p =
      seen p.0 (Ok tt) vs None p.1 (near_by p.0 p.1) (then_map (joined_last p.2) (λ us t. record { answer = p.0; parts = then_map t (λ ts s. inl (refl, (refl, s))) }))
  returned_view (Err (Refused r)) vs p = unreturned r vs p
  returned_view (Err (Paused (Lost place e x))) vs p =
      seen e _ vs None p.1 (near_by e p.1) (then_map p.3 (λ us s. record { answer = x; parts = alone s (inr (p.2, (ap (λ z. Err (Paused (Lost z e x))) p.0, refl))) }))
  returned_view (Err (Paused e)) vs p = absurd p

  pub returns_tie : (a b : Result (Unit {0}) Stop) (us vs : List Visit) → ReturnsBy n owner f a us → ReturnsBy n owner f b vs → Tie us vs (a ≡ b)
  returns_tie a b us vs p q = either_tie (λ far near. omega (arith, far, near)) (none_tie (Err (Refused (NoFrame f)))) near_tie a b us vs (returned_view a us p) (returned_view b vs q)

-- ---- the frames of an extent, up to one that is not given back
abbrev stop_of : Result (Unit {0}) Stop → Option Stop
stop_of (Ok done) = None
stop_of (Err e) = Some e

abbrev done_of : Option Stop → Result (Unit {0}) Stop
done_of None = Ok tt
done_of (Some e) = Err e

done_again : (a : Result (Unit {0}) Stop) → done_of (stop_of a) ≡ a
done_again (Ok done) = refl
done_again (Err e) = refl

stop_again : (o : Option Stop) → stop_of (done_of o) ≡ o
stop_again None = refl
stop_again (Some e) = refl

module _ (n : Machine) (owner first : ℕ) where
  abbrev Back : ℕ → Option Stop → List Visit → Type 0
  Back i o vs = ReturnsBy n owner (number_at first i) (done_of o) vs

  back_tie : (i : ℕ) (o p : Option Stop) (us vs : List Visit) → Back i o us → Back i p vs → Tie us vs (o ≡ p)
  back_tie i o p us vs a b = tie_map us vs _ _ (returns_tie n owner (number_at first i) (done_of o) (done_of p) us vs a b) (λ e. sym (stop_again o) ∙ (ap (λ z. stop_of z) e ∙ stop_again p))

  module _ (size from : ℕ) where
    until : (to : ℕ) (a : Result (Unit {0}) Stop) (vs : List Visit) → EndsAt size from to a → DecreasesBy n owner first from to a vs → Until Back from (max from size) vs (to, stop_of a)
    until to (Ok done) vs e p = subst (λ z. Until Back from (max from size) vs (z, None)) (sym e) (through (subst (λ z. Upwards (λ i us. Back i None us) from z vs) e p))
    until to (Err e) vs low p = let high = low.1 in halted to e (omega (arith, high)) p

    pub decreases_tie : (to other : ℕ) (a b : Result (Unit {0}) Stop) (us vs : List Visit) → EndsAt size from to a → EndsAt size from other b → DecreasesBy n owner first from to a us → DecreasesBy n owner first from other b vs → Tie us vs ((to ≡ other) × (a ≡ b))
    decreases_tie to other a b us vs d e p q =
        tie_map us vs _ _ (until_tie Back back_tie from (max from size) (to, stop_of a) (other, stop_of b) us vs (until to a us d p) (until other b vs e q))
        (λ s. (ap (λ z. z.0) s, sym (done_again a) ∙ (ap (λ z. done_of z.1) s ∙ done_again b)))
