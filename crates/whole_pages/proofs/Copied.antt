-- A frame is copied: all that is said of it, by its calls.
use Rattle.std.proofs.Common.{◌≡◌, ℕ, [], Some, None, Result, Ok, Err, refl, subst, append-nil}
use Rattle.xp_words.specs.declared.kind.PageType.TheVariants.{Writable}
use Rattle.xp_words.specs.declared.reply.Stop.{Stop}
use Rattle.xp_board.specs.Readings.{domain_of}
use Rattle.xp_board.specs.Told.{Post, PortValue}
use Rattle.step_maker.specs.Holds.{Holds, Rests, Same}
use Rattle.step_maker.specs.Moves.{Met}
use Rattle.step_maker.proofs.Coming.{came_post}
use Rattle.step_maker.specs.Answers.{Serves, Stops, missed}
use Rattle.step_maker.specs.Asked.{of_back, of_frame}
use Rattle.step_maker.proofs.Piecing.{serves_back, serves_call, serves_came, serves_then, serves_within, stops_before, stops_call, stops_within}
use Rattle.step_maker.proofs.Resting.{still_rests}
use Rattle.frame_words.specs.Freeing.{gave}
use Rattle.frame_words.specs.Refs.{IsRefStop, took}
use Rattle.frame_types.specs.Taking.{gave_type}
use Rattle.table_entries.specs.Acquiring.{GaveRef, GaveType, GotRef}
use Rattle.writable_pages.specs.Pages.{GotPage, LeavesGot, ServesPage, of_page}
use Rattle.whole_pages.specs.Whole as whole
use Rattle.whole_pages.specs.Whole.{Copies, PageCopied, copies, of_copy}
use Rattle.whole_pages.proofs.Asking.{asked_source, asked_target, asks_source, names_target, own_leaves, own_serves, own_stops, within_copy}
use Rattle.whole_pages.proofs.Held.{HoldsPage, dropped, held_still, no_more_refs, ref_gone}
use Rattle.whole_pages.proofs.StopKinds.{page_kind, ref_kind}

-- the target is given back, under the number that was answered
pub record GivenBack (v a e w : PortValue) (d g : ℕ) : Type 0 where
  pub typed : HoldsPage v a g d
  pub back : Serves e w (of_back g) []
  pub gives : Holds e w (gave_type g e.holdings)
  pub drops : GaveType e w g Writable

-- the source came, its cells were copied, and it is given back
pub record Sourced (a b c e : PortValue) (d from g h : ℕ) : Type 0 where
  pub got : GotRef a b from d (Ok h)
  pub refers : Holds a b (took h d a.holdings)
  pub cells : Copies b c g h 512
  pub put : Holds c e (gave h c.holdings)
  pub puts : Serves c e (of_back h) []
  pub gone : GaveRef c e h

had_serves : (v a : PortValue) (d to from : ℕ) → d ≡ domain_of v.post.machine v.post.vcpu → ServesPage {A = ℕ} v a to d (Ok to) → Serves v a (of_copy d to from) []
had_serves v a d to from own serves =
    serves_within v a (of_frame to d (Some Writable)) (of_copy d to from) [] (within_copy d to from v.post.machine v.post.vcpu (Met v a)) (own_serves v to d own a (Ok to) serves)

module _ {v : PortValue} {d to from : ℕ} (rests : Rests v) (own : d ≡ domain_of v.post.machine v.post.vcpu) where
  -- ---- the target is not to be had
  pub unhad : {w : PortValue} {e : Stop} {answer : Result (Unit {0}) Stop} → answer ≡ Err e → ServesPage {A = ℕ} v w to d (Err e) → Stops v w (of_page v to d) e → LeavesGot v w to d (Err e) → GotPage v to d w (Err e) →
      PageCopied v w d to from answer
  unhad {w} {e} is serves stops leaves got =
      let hand = own_leaves v to d own w e leaves in
      let within = within_copy d to from v.post.machine v.post.vcpu (Met v w) in
      rw is
      (record {
        words = [];
        serves = serves_within v w (of_frame to d (Some Writable)) (of_copy d to from) (missed v.post.machine e) within (own_serves v to d own w (Err e) serves);
        stops = stops_within v w (of_frame to d (Some Writable)) (of_copy d to from) e within (own_stops v to d own w e stops);
        kinds = page_kind v w to d e got;
        hand = hand;
        rests = still_rests v w rests hand;
        course = whole.CopiesPage.unhad w e got;
      })

  -- ---- the source is not
  source_unhad : {a b w : PortValue} {e : Stop} → ServesPage {A = ℕ} v a to d (Ok to) → GotPage v to d a (Ok to) → GivenBack v a b w d to → Serves a b (of_frame from d None) (missed a.post.machine e) → IsRefStop e →
      Same a b → GotRef a b from d (Err e) → PageCopied v w d to from (Err e)
  source_unhad {a} {b} {w} {e} serves got t refers kind same missing =
      let r = of_copy d to from in
      let n = v.post.machine in
      let s = v.post.vcpu in
      let had = had_serves v a d to from own serves in
      let asks = asks_source d to from n s (Met v a) in
      let came = serves_came a b (of_frame from d None) (missed a.post.machine e) refers in
      let lost : Serves a b (of_frame from d None) (missed n e) = subst (λ (p : Post). Serves a b (of_frame from d None) (missed p.machine e)) (came_post v a (serves_came v a r [] had)) refers in
      let tried : Serves v b r (missed n e) = subst (λ ds. Serves v b r ds) (append-nil (missed n e)) (serves_call v a b r [] (missed n e) had from d None asks came lost) in
      let hand = dropped v b to d rests (held_still v a b b b to d to t.typed same) w t.gives in
      record {
        words = [];
        serves = serves_back v b w r (missed n e) [] tried to (asked_target d to from n s (Met v w)) t.back;
        stops = stops_before v b w r e (stops_call v a b r [] [] had from d None asks came e (no_more_refs v a to d rests t.typed r refl) missing.stops) (serves_came b w (of_back to) [] t.back);
        kinds = ref_kind e kind;
        hand = hand;
        rests = still_rests v w rests hand;
        course = whole.CopiesPage.unreferred a b w e got missing t.drops;
      }

  pub unreferred : {a b w : PortValue} {g : ℕ} {e : Stop} → g ≡ to → ServesPage {A = ℕ} v a to d (Ok g) → GotPage v to d a (Ok g) → GivenBack v a b w d g → Serves a b (of_frame from d None) (missed a.post.machine e) → IsRefStop e →
      Same a b → GotRef a b from d (Err e) → PageCopied v w d to from (Err e)
  unreferred {a} {b} {w} at serves got t =
      source_unhad (subst (λ k. ServesPage v a to d (Ok k)) at serves) (subst (λ k. GotPage v to d a (Ok k)) at got) (subst (λ k. GivenBack v a b w d k) at t)

  -- ---- both are
  both_had : {a b c e w : PortValue} → ServesPage {A = ℕ} v a to d (Ok to) → GotPage v to d a (Ok to) → GivenBack v a e w d to → Serves a b (of_frame from d None) [] → Sourced a b c e d from to from →
      PageCopied v w d to from (Ok tt)
  both_had {a} {b} {c} {e} {w} serves got t refers m =
      let r = of_copy d to from in
      let n = v.post.machine in
      let s = v.post.vcpu in
      let had = had_serves v a d to from own serves in
      let words = m.cells.words in
      let referred : Serves v b r [] = serves_call v a b r [] [] had from d None (asks_source d to from n s (Met v a)) (serves_came a b (of_frame from d None) [] refers) refers in
      let done : Serves v c r (copies to words) = subst (λ ds. Serves v c r ds) (append-nil (copies to words)) (serves_then v b c r [] (copies to words) referred (m.cells.serves r (names_target d to from) refl)) in
      let gone : Serves v e r (copies to words) = serves_back v c e r (copies to words) [] done from (asked_source d to from n s (Met v e)) m.puts in
      let hand = dropped v e to d rests (ref_gone v a b c e to d from t.typed m.refers m.cells.hand m.put) w t.gives in
      record {
        words = words;
        serves = serves_back v e w r (copies to words) [] gone to (asked_target d to from n s (Met v w)) t.back;
        stops = tt;
        kinds = tt;
        hand = hand;
        rests = still_rests v w rests hand;
        course = whole.CopiesPage.copied a b c e w m.cells.whole got m.got m.cells.steps m.gone t.drops;
      }

  pub copied : {a b c e w : PortValue} {g h : ℕ} → g ≡ to → h ≡ from → ServesPage {A = ℕ} v a to d (Ok g) → GotPage v to d a (Ok g) → GivenBack v a e w d g → Serves a b (of_frame from d None) [] → Sourced a b c e d from g h →
      PageCopied v w d to from (Ok tt)
  copied {a} {b} {c} {e} {w} {g} {h} at source serves got t refers m =
      both_had (subst (λ k. ServesPage v a to d (Ok k)) at serves) (subst (λ k. GotPage v to d a (Ok k)) at got) (subst (λ k. GivenBack v a e w d k) at t) refers
      (subst (λ k. Sourced a b c e d from k from) at (subst (λ k. Sourced a b c e d from g k) source m))
