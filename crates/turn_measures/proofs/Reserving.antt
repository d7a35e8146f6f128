-- An extent of `memory_op` that is paused: no frame falls back. A claim that waits for flushes looks at the map and at reference words, and takes its count of pages back; no word changes of which
-- ranks, old words and lives are read.
use Rattle.std.proofs.Common.{◌≡◌, ℕ, ◌^◌, Bool, true, false, List, Option, Some, None, Result, Ok, Err, refl, sym, subst, inl, inr}
use Rattle.xp_words.specs.Machine.{Machine}
use Rattle.xp_words.specs.declared.reply.Pause.TheVariants.{Due, Lost, Busy, Flush, Alive}
use Rattle.xp_words.specs.declared.reply.Stop.{Stop}
use Rattle.xp_words.specs.declared.reply.Stop.TheVariants.{Refused, Paused}
use Rattle.xp_board.specs.Told.{Post, PortValue, is_telling, told_word}
use Rattle.xp_board.proofs.HandLists.{EachOf-map}
use Rattle.step_maker.specs.Reasons.{Those}
use Rattle.step_maker.specs.Visits.{Does, Only, Then, Visit}
use Rattle.flush_waits.specs.Listing.{WaitedFor}
use Rattle.flush_waits.specs.Waiting.{everyone}
use Rattle.frame_claims.specs.Choosing.{greatest}
use Rattle.frame_claims.specs.Claiming.{IsClaimStop}
use Rattle.frame_claims.specs.Found.{ChargedBy, ChosenBy, ClaimsBy, FreeBlock, RefundedBy, TookBy, counts_pages, refunds_pages, saw_pages}
use Rattle.frame_claims.proofs.Plainly.{chosen_looks}
use Rattle.frame_claims.proofs.Telling.{Alls, IsLook, alls_one, alls_then}
use Rattle.reservations.specs.Extents.{IsPopulateStop, PopulatesBy, Reserves, too_high}
use Rattle.reservations.specs.Returning.{IsReturnStop}
use Rattle.reservations.specs.declared.extents.Extent.{Extent}
use Rattle.reservations.specs.declared.extents.Extent.TheVariants.{Increase, Decrease, Populate}
use Rattle.vcpu_turn.specs.Extents.{ExtentFits}
use Rattle.turn_measures.proofs.Forward.{comes_so, still_forward}
use Rattle.turn_measures.proofs.Asides.{LeavesRanks, does_passes, does_tells, is_aside, waited_aside}
use Rattle.turn_measures.proofs.Pages.{ComesBy, ComesFor}

-- ---- the claim
look_aside : (x : Visit) → IsLook x → LeavesRanks x
look_aside x is = subst (λ a. is_aside x.place a ≡ true) (sym is) refl

chosen_aside : (n : Machine) (k : ℕ) (b : FreeBlock) → Alls LeavesRanks (ChosenBy n k (Some b))
chosen_aside n k b vs t = EachOf-map IsLook LeavesRanks vs look_aside (chosen_looks n k (Some b) vs t)

charged_aside : (n : Machine) (d k : ℕ) → Alls LeavesRanks (ChargedBy n d k (Ok tt))
charged_aside n d k vs t = alls_then LeavesRanks (Only (saw_pages d t.0)) (Only (counts_pages d k t.0 t.0)) (alls_one LeavesRanks _ refl) (alls_one LeavesRanks _ refl) vs t.2

refunded_aside : (d k : ℕ) → Alls LeavesRanks (RefundedBy d k)
refunded_aside d k vs t = alls_one LeavesRanks (refunds_pages d k t.0) refl vs t.1

module _ (q : Post) (d k u stamp x : ℕ) where
  took_aside : Alls LeavesRanks (TookBy q d k (Err (Paused (Flush u stamp x))))
  took_aside vs (inl none) = absurd (let no = none.0 in cc)
  took_aside vs (inr (inl waits)) =
      let b = waits.0 in
      alls_then LeavesRanks (ChosenBy q.machine k (Some b)) (WaitedFor q (Those everyone) (greatest b.stamps) (Err (Paused (Flush u stamp x)))) (chosen_aside q.machine k b)
      (waited_aside q (Those everyone) (greatest b.stamps) (Err (Paused (Flush u stamp x)))) vs waits.1
  took_aside vs (inr (inr taking)) = absurd taking.1.next

  claims_aside : (g : Option ℕ) → Alls LeavesRanks (ClaimsBy q d k g (Err (Paused (Flush u stamp x))))
  claims_aside g vs (inl charge) = absurd charge
  claims_aside g vs (inr t) =
      alls_then LeavesRanks (ChargedBy q.machine d k (Ok tt)) (Then (TookBy q d k (Err (Paused (Flush u stamp x)))) (RefundedBy d k)) (charged_aside q.machine d k)
      (alls_then LeavesRanks (TookBy q d k (Err (Paused (Flush u stamp x)))) (RefundedBy d k) took_aside (refunded_aside d k)) vs t

-- ---- an extent: it is paused for a lost exchange, or where a claim waits
module _ (n : Machine) where
  claimed_for : (v w : PortValue) (owner size : ℕ) (g : Option ℕ) (e : Stop) → is_telling v ≡ true → IsClaimStop e → Does v w (λ vs. ClaimsBy v.post owner size g (Err e) vs) → ComesFor n e v w
  claimed_for v w owner size g (Refused x) telling stop claims = tt
  claimed_for v w owner size g (Paused (Flush u stamp found)) telling stop claims =
      let p = does_passes v w (λ vs. ClaimsBy v.post owner size g (Err (Paused (Flush u stamp found))) vs) telling (claims_aside v.post owner size u stamp found g) claims in
      λ un. comes_so v.post.machine (Flush u stamp found) (told_word v) (told_word w) (λ due. cc) (still_forward v.post.machine (told_word v) (told_word w) p.still)
  claimed_for v w owner size g (Paused (Lost place expected found)) telling stop claims = λ un. absurd un
  claimed_for v w owner size g (Paused Due) telling stop claims = absurd stop
  claimed_for v w owner size g (Paused (Busy f found)) telling stop claims = absurd stop
  claimed_for v w owner size g (Paused (Alive u found)) telling stop claims = absurd stop

  populated_for : (high : Bool) (v w : PortValue) (owner size gpfn : ℕ) (e : Stop) → is_telling v ≡ true → IsPopulateStop e → Does v w (λ vs. PopulatesBy high v.post owner size gpfn (Err e) vs) → ComesFor n e v w
  populated_for high v w owner size gpfn (Refused x) telling stop populates = tt
  populated_for true v w owner size gpfn (Paused p) telling stop populates =
      absurd (let no = (does_tells v w (λ vs. PopulatesBy true v.post owner size gpfn (Err (Paused p)) vs) populates telling).is.0 in cc)
  populated_for false v w owner size gpfn (Paused p) telling stop populates = claimed_for v w owner size (Some gpfn) (Paused p) telling stop populates

  returned_for : (v w : PortValue) (e : Stop) → IsReturnStop e → ComesFor n e v w
  returned_for v w (Refused x) stop = tt
  returned_for v w (Paused (Lost place expected found)) stop = λ un. absurd un
  returned_for v w (Paused Due) stop = absurd stop
  returned_for v w (Paused (Busy f found)) stop = absurd stop
  returned_for v w (Paused (Flush u stamp found)) stop = absurd stop
  returned_for v w (Paused (Alive u found)) stop = absurd stop

  reserved_for : (v w : PortValue) (owner size : ℕ) (extent : Extent) (from left : ℕ) (e : Stop) → is_telling v ≡ true → Reserves owner size extent from v left w (Err e) → ComesFor n e v w
  reserved_for v w owner size Increase from left e telling r = claimed_for v w owner size None e telling r.kinds r.found
  reserved_for v w owner size (Decrease first) from left e telling r = returned_for v w e r.kinds
  reserved_for v w owner size (Populate gpfn) from left e telling r = populated_for (too_high gpfn) v w owner size gpfn e telling r.kinds r.found

  pub extent_for : (d command order : ℕ) (items : List ℕ) (from within k : ℕ) (v w : PortValue) (asked : List Bool) (r : Result (Unit {0}) Stop) → is_telling v ≡ true →
      ExtentFits d command order items from within k v w asked r → ComesBy n r v w
  extent_for d command order items from within k v w asked (Ok done) telling fit = tt
  extent_for d command order items from within k v w asked (Err e) telling fit = reserved_for v w d (2 ^ order) fit.extent _ fit.left e telling fit.reserves
