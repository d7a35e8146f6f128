-- The own flush behind other steps: where they license it, all of them serve the same request.
use Rattle.std.proofs.Common.{◌≡◌, ℕ, ◌+◌, ◌≤◌, ◌==◌, if◌then◌else◌, Bool, true, false, List, [], ◌++◌, Option, None, Ok, Err, Result, refl, sym, ap, ◌∙◌, subst, inl, inr, arith}
use Rattle.xp_words.specs.Machine.{Machine}
use Rattle.xp_words.specs.declared.place.Place.{Place}
use Rattle.xp_words.specs.declared.place.Place.TheVariants.{Clock, Vcpu}
use Rattle.xp_words.specs.declared.reply.Refusal.{Refusal}
use Rattle.xp_words.specs.declared.reply.Stop.TheVariants.{Refused}
use Rattle.xp_words.specs.Places.{sizes_of, asked_of, flushed_of}
use Rattle.xp_board.specs.declared.step.Act.{Act}
use Rattle.xp_board.specs.declared.step.Act.TheVariants.{Load, Cas, Store}
use Rattle.xp_board.specs.declared.step.Mark.{Mark}
use Rattle.xp_board.specs.declared.step.StepKind.{StepKind}
use Rattle.xp_board.specs.declared.step.StepKind.TheVariants as kinds
use Rattle.xp_board.specs.declared.holdings.Holdings.{Holdings}
use Rattle.xp_board.specs.Acts.{left_by}
use Rattle.xp_board.specs.Readings.{last_clock}
use Rattle.xp_board.specs.Steps.{last_since}
use Rattle.xp_board.specs.Told.{Post, PortValue}
use Rattle.step_maker.specs.Moves.{Moves, Moment, Came, Met}
use Rattle.step_maker.proofs.Coming.{came_trans, came_post, moves_came, moves_met, moment_of, met_before, met_after}
use Rattle.step_maker.specs.Answers.{Deed, Serves, Stops}
use Rattle.step_maker.specs.Asked.{Request, Within}
use Rattle.step_maker.specs.Finding.{Finding}
use Rattle.step_maker.specs.Reasons.{AwaitsStamp, IsMeant, LastAtMost, NeedsFlush, Whose, own, awaited, IsFlushedNext, MayFlush, needed, asked}
use Rattle.step_maker.proofs.Growing as growing
use Rattle.step_maker.proofs.Piecing.{same_request, serves_came, serves_step, serves_two}
use Rattle.flush_words.specs.Flushing.{FlushesOwn, spent}
use Rattle.flush_words.proofs.Flushed.{Flushed, own_flushed}
use Rattle.flush_words.proofs.Lasting.{last_kept, last_looked, last_at_most, moves_longer}

-- ---- the license
-- more is found, and what was found stays
module _ (n : Machine) (s : ℕ) (r : Request) (F G : Finding) (more : (m : Moment) → F m → G m) where
  abbrev same : Within n s r F r G
  same = same_request n s r F G more

  pub awaited_more : (whose : Whose) (stamp : ℕ) → AwaitsStamp n s r F whose stamp → AwaitsStamp n s r G whose stamp
  awaited_more whose stamp a = growing.awaited n s r F r G same whose stamp a

  needs_more : (h : Holdings) → NeedsFlush n s r F h → NeedsFlush n s r G h
  needs_more h a = growing.needing n s r F r G same h a

  -- of the hand only the words count that the vCPU last found or left, of its asks and its flushes
  at_most_as : (h k : Holdings) (p : Place) (stamp : ℕ) → last_since (sizes_of n) 0 p k.steps ≡ last_since (sizes_of n) 0 p h.steps → LastAtMost n p stamp h → LastAtMost n p stamp k
  at_most_as h k p stamp e a = record { last = a.last; was = e ∙ a.was; most = a.most }

  needs_as : (h k : Holdings) → last_since (sizes_of n) 0 (Vcpu s 5) k.steps ≡ last_since (sizes_of n) 0 (Vcpu s 5) h.steps → NeedsFlush n s r F h → NeedsFlush n s r G k
  needs_as h k e (own a) = own a
  needs_as h k e (awaited whose stamp a b c) = awaited whose stamp (awaited_more whose stamp a) b (at_most_as h k (Vcpu s 5) stamp e c)

  may_as : (h k : Holdings) → ((j : ℕ) → last_since (sizes_of n) 0 (Vcpu s j) k.steps ≡ last_since (sizes_of n) 0 (Vcpu s j) h.steps) → MayFlush n s r F h → MayFlush n s r G k
  may_as h k e (needed a) = needed (needs_as h k (e 5) a)
  may_as h k e (asked stamp a b) = asked stamp (e 4 ∙ a) (at_most_as h k (Vcpu s 5) stamp (e 5) b)

-- a step at the clock leaves it
clock_step : (u v w : PortValue) (r : Request) (a : Act) (k : StepKind) (found : ℕ) → Came u v → Moves v w Clock a k None found →
    MayFlush u.post.machine u.post.vcpu r (Met u v) v.holdings → MayFlush u.post.machine u.post.vcpu r (Met u w) w.holdings
clock_step u v w r a k found came m may =
    let n = u.post.machine in
    let s = u.post.vcpu in
    may_as n s r (Met u v) (Met u w) (λ y x. met_before u v w y x (moves_came v w Clock a k None found m)) v.holdings w.holdings
    (λ j. subst (λ (q : Post). last_since (sizes_of q.machine) 0 (Vcpu s j) w.holdings.steps ≡ last_since (sizes_of q.machine) 0 (Vcpu s j) v.holdings.steps) (came_post u v came)
    (last_kept v w Clock a k None found m 0 (Vcpu s j) (omega arith) (λ e. cc))) may

may_more : (u v w : PortValue) (r : Request) (h : Holdings) → Came v w → MayFlush u.post.machine u.post.vcpu r (Met u v) h → MayFlush u.post.machine u.post.vcpu r (Met u w) h
may_more u v w r h came may = may_as u.post.machine u.post.vcpu r (Met u v) (Met u w) (λ y x. met_before u v w y x came) h h (λ j. refl) may

-- the flush is the next step, and goes to what the exchange left
flush_next : (u v w : PortValue) (f : Flushed v w) → Came u f.loaded → v.post.vcpu ≡ u.post.vcpu → IsFlushedNext u.post.vcpu (Met u w) (left_by (Cas f.clock (f.clock + 1)) f.found) f.loaded.holdings
unfolding moment_of
flush_next u v w f to_a mine =
    let x = f.exchanged in
    let to_b = came_trans u f.loaded x to_a (moves_came f.loaded x Clock (Cas f.clock (f.clock + 1)) kinds.Tick None f.found f.tick) in
    record {
      moment = moment_of x (flushed_of v.post.vcpu) (Store f.to) kinds.Ack None f.before;
      was = met_after u x w _ to_b (moves_met x w (flushed_of v.post.vcpu) (Store f.to) kinds.Ack None f.before f.ack);
      place = ap flushed_of mine;
      act = ap Store (sym f.left);
      next = moves_longer f.loaded x Clock (Cas f.clock (f.clock + 1)) kinds.Tick None f.found f.tick;
    }

-- ---- steps, and the own flush behind them
none_either : (b : Bool) → ◌≡◌ {A = List Deed} (if b then [] else []) []
none_either true = refl
none_either false = refl

module _ (u v w : PortValue) (r : Request) (ds : List Deed) (before : Serves u v r ds) where
  abbrev came : Came u v
  came = serves_came u v r ds before

  looked : (a : PortValue) (c : ℕ) → Moves v a Clock Load kinds.Look None c → Serves u a r ds
  looked a c m = serves_step u v a r ds Clock Load kinds.Look None c before m tt

  module _ (may : MayFlush u.post.machine u.post.vcpu r (Met u v) v.holdings) where
    pub flushed_serves : Flushed v w → Serves u w r ds
    flushed_serves f =
        let a = f.loaded in
        let b = f.exchanged in
        let to_a = came_trans u v a came (moves_came v a Clock Load kinds.Look None f.clock f.look) in
        let may_a = clock_step u v a r Load kinds.Look f.clock came f.look may in
        let may_b = clock_step u a b r (Cas f.clock (f.clock + 1)) kinds.Tick f.found to_a f.tick may_a in
        let ticked = moves_came a b Clock (Cas f.clock (f.clock + 1)) kinds.Tick None f.found f.tick in
        let acked = moves_came b w (flushed_of v.post.vcpu) (Store f.to) kinds.Ack None f.before f.ack in
        let mine : v.post.vcpu ≡ u.post.vcpu = ap (λ (q : Post). q.vcpu) (came_post u v came) in
        subst (λ (xs : List Deed). Serves u w r (xs ++ ds)) (none_either (f.found == f.clock))
        (serves_two u a b w r ds Clock (flushed_of v.post.vcpu) (Cas f.clock (f.clock + 1)) (Store f.to) kinds.Tick kinds.Ack f.found f.before (looked a f.clock f.look) f.tick f.ack
        (may_more u a w r a.holdings (came_trans a b w ticked acked) may_a, flush_next u v w f to_a mine) (inl (mine, inr (may_more u b w r b.holdings acked may_b))))

    -- whether it is made or not
    pub own_serves : (answer : Result (Unit {0}) Refusal) → FlushesOwn v w answer → Serves u w r ds
    own_serves (Ok tt) f = flushed_serves (own_flushed v w f)
    own_serves (Err e) (spent m) = looked w last_clock m

-- the clock at its last value is the cause of a refusal, where the call needs the flush
pub own_stops : (u v w : PortValue) (r : Request) (e : Refusal) → Came u v → NeedsFlush u.post.machine u.post.vcpu r (Met u v) v.holdings → FlushesOwn v w (Err e) → Stops u w r (Refused e)
unfolding Stops moment_of
own_stops u v w r e came needs (spent m) =
    let more = moves_came v w Clock Load kinds.Look None last_clock m in (
      refl,
      (
        v.holdings,
        record {
          moment = moment_of v Clock Load kinds.Look None last_clock;
          was = met_after u v w (moment_of v Clock Load kinds.Look None last_clock) came (moves_met v w Clock Load kinds.Look None last_clock m);
          place = refl;
          word = refl;
          hand = refl;
        },
        needs_more u.post.machine u.post.vcpu r (Met u v) (Met u w) (λ y x. met_before u v w y x more) v.holdings needs,
      ),
    )

-- ---- two licenses
-- an awaited stamp, and a look that found the own flush to go no further
pub awaited_flush : (u t v : PortValue) (r : Request) (whose : Whose) (stamp x : ℕ) → Came u t → AwaitsStamp u.post.machine u.post.vcpu r (Met u t) whose stamp →
    IsMeant whose u.post.vcpu → Moves t v (flushed_of t.post.vcpu) Load kinds.Look None x → x ≤ stamp → NeedsFlush u.post.machine u.post.vcpu r (Met u v) v.holdings
awaited_flush u t v r whose stamp x came a meant look low =
    let same = came_post u t came in
    awaited whose stamp (awaited_more u.post.machine u.post.vcpu r (Met u t) (Met u v) (λ y z. met_before u t v y z (moves_came t v (flushed_of t.post.vcpu) Load kinds.Look None x look)) whose stamp a)
    meant (subst (λ (q : Post). LastAtMost q.machine (flushed_of q.vcpu) stamp v.holdings) same (last_at_most t v (flushed_of t.post.vcpu) kinds.Look None x stamp look low))

-- two looks that found the own flush to go no further than the vCPU was asked
pub asked_flush : (u t k v : PortValue) (r : Request) (mark : Option Mark) (stamp x : ℕ) → Came u t → Moves t k (asked_of t.post.vcpu) Load kinds.Look mark stamp →
    Moves k v (flushed_of t.post.vcpu) Load kinds.Look None x → x ≤ stamp → MayFlush u.post.machine u.post.vcpu r (Met u v) v.holdings
asked_flush u t k v r mark stamp x came first second low =
    let n = t.post.machine in
    let s = t.post.vcpu in
    let same : k.post ≡ t.post = ap (λ (y : PortValue). y.post) first.to in
    let most : LastAtMost n (flushed_of s) stamp v.holdings = subst (λ (q : Post). LastAtMost q.machine (flushed_of s) stamp v.holdings) same (last_at_most k v (flushed_of s) kinds.Look None x stamp second low) in
    let kept = subst (λ (q : Post). last_since (sizes_of q.machine) 0 (asked_of s) v.holdings.steps ≡ last_since (sizes_of q.machine) 0 (asked_of s) k.holdings.steps) same
    (last_kept k v (flushed_of s) Load kinds.Look None x second 0 (asked_of s) (omega arith) (λ e. cc)) in
    let was = kept ∙ last_looked t k (asked_of s) kinds.Look mark stamp first in
    subst (λ (q : Post). MayFlush q.machine q.vcpu r (Met u v) v.holdings) (came_post u t came) (asked stamp was most)
