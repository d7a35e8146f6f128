-- A frame is cleared: all that is said of it, by its calls.
use Rattle.std.proofs.Common.{◌≡◌, ℕ, List, [], Some, Result, Ok, Err, refl, subst, append-nil}
use Rattle.xp_words.specs.declared.kind.PageType.TheVariants.{Writable}
use Rattle.xp_words.specs.declared.reply.Stop.{Stop}
use Rattle.xp_board.specs.Readings.{domain_of}
use Rattle.xp_board.specs.Told.{PortValue}
use Rattle.xp_board.proofs.Sums.{when_eq}
use Rattle.step_maker.specs.Holds.{Holds, Rests}
use Rattle.step_maker.specs.Answers.{Deed, Serves, Stops}
use Rattle.step_maker.specs.Asked.{named, of, of_back}
use Rattle.step_maker.proofs.Piecing.{serves_back, serves_then}
use Rattle.step_maker.proofs.Resting.{still_rests}
use Rattle.frame_types.specs.Taking.{gave_type}
use Rattle.table_entries.specs.Acquiring.{GaveType}
use Rattle.writable_pages.specs.Pages.{GotPage, LeavesGot, ServesPage, of_page}
use Rattle.whole_pages.specs.Whole as whole
use Rattle.whole_pages.specs.Whole.{Clears, PageCleared, clears, of_clear}
use Rattle.whole_pages.proofs.Asking.{own_leaves, own_serves, own_stops}
use Rattle.whole_pages.proofs.Held.{HoldsPage, dropped, held_still}
use Rattle.whole_pages.proofs.StopKinds.{page_kind}

-- its cells were cleared and it was given back, under the number that was answered
pub record Filled (v a b w : PortValue) (d g : ℕ) : Type 0 where
  pub typed : HoldsPage v a g d
  pub cells : Clears a b g 512
  pub back : Serves b w (of_back g) []
  pub gives : Holds b w (gave_type g b.holdings)
  pub drops : GaveType b w g Writable

module _ {v : PortValue} {d f : ℕ} (rests : Rests v) (own : d ≡ domain_of v.post.machine v.post.vcpu) where
  -- ---- it is not to be had
  pub unhad : {w : PortValue} {e : Stop} {answer : Result (Unit {0}) Stop} → answer ≡ Err e → ServesPage {A = ℕ} v w f d (Err e) → Stops v w (of_page v f d) e → LeavesGot v w f d (Err e) → GotPage v f d w (Err e) →
      PageCleared v w d f answer
  unhad {w} {e} is serves stops leaves got =
      let hand = own_leaves v f d own w e leaves in
      rw is
      (record {
        serves = own_serves v f d own w (Err e) serves;
        stops = own_stops v f d own w e stops;
        kinds = page_kind v w f d e got;
        hand = hand;
        rests = still_rests v w rests hand;
        course = whole.ClearsPage.unhad w e got;
      })

  -- ---- it is
  filled : {a b w : PortValue} → ServesPage {A = ℕ} v a f d (Ok f) → GotPage v f d a (Ok f) → Filled v a b w d f → PageCleared v w d f (Ok tt)
  filled {a} {b} {w} serves got t =
      let r = of_clear d f in
      let had : Serves v a r [] = own_serves v f d own a (Ok f) serves in
      let is = when_eq f f refl in
      let done : Serves v b r (clears f 512) = subst (λ (ds : List Deed). Serves v b r ds) (append-nil (clears f 512)) (serves_then v a b r [] (clears f 512) had (t.cells.serves r is)) in
      let hand = dropped v b f d rests (held_still v a b b b f d f t.typed t.cells.hand) w t.gives in
      record {
        serves = serves_back v b w r (clears f 512) [] done f (of d (Some Writable) (named is refl refl)) t.back;
        stops = tt;
        kinds = tt;
        hand = hand;
        rests = still_rests v w rests hand;
        course = whole.ClearsPage.cleared a b w got t.cells.steps t.drops;
      }

  pub cleared : {a b w : PortValue} {g : ℕ} → g ≡ f → ServesPage {A = ℕ} v a f d (Ok g) → GotPage v f d a (Ok g) → Filled v a b w d g → PageCleared v w d f (Ok tt)
  cleared {a} {b} {w} at serves got t =
      filled (subst (λ k. ServesPage v a f d (Ok k)) at serves) (subst (λ k. GotPage v f d a (Ok k)) at got) (subst (λ k. Filled v a b w d k) at t)
