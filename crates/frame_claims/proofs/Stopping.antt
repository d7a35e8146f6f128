-- A claim that stops shows why, whatever was done before and behind it.
use Rattle.std.proofs.Common.{◌≡◌, ℕ, ◌+◌, ◌<◌, List, [], length, slice_index, Result, Err, IfErr, refl, sym, ap, ◌∙◌, subst, arith}
use Rattle.std.proofs.Math.Nat.{zero-mod}
use Rattle.xp_words.specs.declared.place.Place.TheVariants.{Refs}
use Rattle.xp_words.specs.declared.reply.Refusal.TheVariants as refusals
use Rattle.xp_words.specs.declared.reply.Stop.{Stop}
use Rattle.xp_words.specs.declared.reply.Stop.TheVariants.{Refused, Paused}
use Rattle.xp_board.specs.Lists.{times, times_by}
use Rattle.xp_board.specs.Told.{PortValue}
use Rattle.step_maker.specs.Moves.{Came}
use Rattle.step_maker.proofs.Coming.{came_trans}
use Rattle.step_maker.specs.Answers.{Stops}
use Rattle.step_maker.specs.Reasons.{Those}
use Rattle.step_maker.specs.Visits.{Does}
use Rattle.step_maker.proofs.Later.{IsUncounted, stops_then}
use Rattle.step_maker.proofs.Piecing.{stops_before}
use Rattle.flush_waits.specs.Listing.{WaitedFor}
use Rattle.flush_waits.specs.Waiting.{StopsBehind, everyone}
use Rattle.frame_claims.specs.Blocks.{HasRow, IsBlockOf}
use Rattle.frame_claims.specs.declared.choosing.Chosen.{Chosen}
use Rattle.frame_claims.specs.Choosing.{IsFound, Looks, NoneFree, StillFree}
use Rattle.frame_claims.specs.Claiming.{IsClaimStop, StopsClaim, StopsPages, StopsTaking}
use Rattle.frame_claims.proofs.Composing.{awaits_block}
use Rattle.frame_claims.proofs.Finding.{looks_came, still_later}
use Rattle.frame_claims.proofs.Lasting.{does_keeps, waited_off}
use Rattle.frame_claims.proofs.Rows.{empty_row}

pub when_err : {A : Type 0} (answer : Result A Stop) (e : Stop) (P : Stop → Type 0) → answer ≡ Err e → P e → IfErr answer P
when_err answer e P is p = subst (λ a. IfErr a P) (sym is) p

uncounted : (e : Stop) → IsClaimStop e → IsUncounted e
uncounted (Refused (refusals.DomainFull found)) is = tt
uncounted (Refused refusals.NoFree) is = tt
uncounted (Refused (refusals.Clock found)) is = tt
uncounted (Refused _) is = absurd is
uncounted (Paused e) is = tt

none_times : (d : ℕ) (xs : List ℕ) → xs ≡ [] → times d xs ≡ 0
unfolding times_by
none_times d xs is = rw is refl

pub no_credit : (v : PortValue) (d : ℕ) → v.holdings.credits ≡ [] → times d v.holdings.credits ≡ 0
no_credit v d none = none_times d v.holdings.credits none

-- ---- none is free
pub none_free : (v a : PortValue) (d size at : ℕ) → HasRow v v at [] d size → NoneFree v a size → StopsClaim v a size (Refused refusals.NoFree)
unfolding Stops
none_free v a d size at row free =
    let none = ap (λ (y : PortValue). y.holdings.claimed) row.hand ∙ empty_row at row.claims row.row in
    (0, zero-mod size, λ r t enough. (size, t.block, free none))

-- ---- the wait
module _ (v a x : PortValue) (size : ℕ) (stamps : List ℕ) (c : Chosen) (some : 0 < size) (looks : Looks v a) (f : IsFound v a size stamps c) where
  pub wait_stops : (e : Stop) → StopsBehind a x (Those everyone) c.stamp e → StopsClaim v x size e
  unfolding StopsBehind
  wait_stops e behind = (c.first, f.aligned, λ r t enough. behind v r (looks_came v a looks) (awaits_block v a r size stamps c some t f))

  -- ---- a frame was lost behind it
  module _ (answer : Result (Unit {0}) Stop) (came : Came a x) (waited : Does a x (λ vs. WaitedFor a.post (Those everyone) c.stamp answer vs)) where
    still_behind : (j : ℕ) → j < size → StillFree v x (c.first + j) (slice_index stamps j)
    still_behind j low =
        still_later v a x (c.first + j) (slice_index stamps j) (looks_came v a looks) came
        (does_keeps a x (Refs (c.first + j)) (WaitedFor a.post (Those everyone) c.stamp answer) (waited_off (c.first + j) a.post (Those everyone) c.stamp answer) waited) (f.seen j low)

    pub taking_stops : (w : PortValue) (now : List ℕ) (e : Stop) → now ≡ stamps → StopsTaking x w c.first now e → StopsClaim v w size e
    taking_stops w now e is stops =
        let long : length now ≡ size = ap (λ (l : List ℕ). length l) is ∙ f.whole in (
          c.first,
          f.aligned,
          λ r t enough.
              stops v (came_trans v a x (looks_came v a looks) came)
              (λ j low. subst (λ l. StillFree v x (c.first + j) (slice_index l j)) (sym is) (still_behind j (omega (arith, low, long)))) r
              (subst (λ k. IsBlockOf r c.first k) (sym long) t.asks),
        )

-- ---- pages
pub pages_stop : (v w : PortValue) (size : ℕ) (e : Stop) → StopsPages v w size e → StopsClaim v w size e
pages_stop v w size e stops = (0, zero-mod size, λ r t enough. stops r (record { number = t.asks.number; pages = t.asks.pages }) enough)

-- behind the pages, and before they are given back
pub claim_stops : (v x u w : PortValue) (size : ℕ) (e : Stop) → IsClaimStop e → Came v x → StopsClaim x u size e → Came u w → StopsClaim v w size e
claim_stops v x u w size e is before stops after =
    (stops.0, stops.1, λ r t enough. stops_before v u w r e (stops_then v x u r e (uncounted e is) before (stops.2 r t enough)) after)
