-- The flush behind the store: when the cache may be emptied for the last clock value, and the steps.
use Rattle.std.proofs.Common.{◌≡◌, ℕ, ◌≤◌, ◌==◌, nat_lt, true, List, length, Ok, Err, IsTrue, None, refl, sym, ap, ◌∙◌, subst, inl, inr}
use Rattle.xp_words.specs.Machine.{Machine}
use Rattle.xp_words.specs.Places.{flushed_of, sizes_of}
use Rattle.xp_words.specs.declared.place.Place.TheVariants.{Clock}
use Rattle.xp_words.specs.declared.reply.Refusal.{Refusal}
use Rattle.xp_board.specs.declared.step.Act.TheVariants.{Load, Store}
use Rattle.xp_board.specs.declared.step.StepKind.TheVariants as kinds
use Rattle.xp_board.specs.declared.holdings.Holdings.{Holdings}
use Rattle.xp_board.specs.Acts.{left_by}
use Rattle.xp_board.specs.Readings.{last_clock}
use Rattle.xp_board.specs.Steps.{some_since}
use Rattle.xp_board.specs.Told.{Finds, Post, PortValue}
use Rattle.xp_board.specs.WellFormed.{WellFormed}
use Rattle.xp_words.specs.declared.place.Place.{Place}
use Rattle.xp_board.proofs.Sums.{when_eq}
use Rattle.step_maker.specs.Moves.{Came, Moves}
use Rattle.step_maker.proofs.Coming.{came_post, came_trans, moves_came}
use Rattle.step_maker.proofs.Noting.{moves_since}
use Rattle.step_maker.specs.Answers.{Deed, Serves}
use Rattle.step_maker.specs.Asked.{Request}
use Rattle.step_maker.specs.Reasons.{needed, own}
use Rattle.step_maker.proofs.Piecing.{serves_came, serves_step}
use Rattle.flush_words.specs.Flushing.{FlushesOwn, MayFlushTo}
use Rattle.flush_words.specs.Flushing as flushing
use Rattle.flush_words.proofs.FlushServes.{own_serves}
use Rattle.flush_words.proofs.Flushed.{own_came}
use Rattle.flush_words.proofs.Lasting.{came_keeps}
use Rattle.table_bases.specs.Course.{FlushesBehind, flushed, spent}
use Rattle.table_bases.specs.Holding.{FoundClockLow}

-- ---- the clock was found below its last value, and still was
pub stays_warm : (v w : PortValue) → Came v w → w.holdings.ran ≡ v.holdings.ran → FoundClockLow v → FoundClockLow w
stays_warm v w came same warm =
    subst (λ (q : Post). IsTrue (some_since (sizes_of q.machine) w.holdings.ran Clock (λ x. nat_lt x last_clock) w.holdings.steps)) (sym (came_post v w came))
    (subst (λ k. IsTrue (some_since (sizes_of v.post.machine) k Clock (λ x. nat_lt x last_clock) w.holdings.steps)) (sym same) (came_keeps v w _ came warm))

-- ---- when the cache may be emptied for the last value
acked_past : (n : Machine) (s : ℕ) (h : Holdings) (p : Place) (w : ℕ) → Finds n s h p w → h.acked ≤ length h.steps
acked_past n s h p w finds = let formed : WellFormed n s h = subst (λ u. WellFormed n s u) finds.mine (finds.sound.formed s finds.real) in formed.acked

module _ (v a : PortValue) (look : Moves v a Clock Load kinds.Look None last_clock) (warm : FoundClockLow v) (landed : v.holdings.walk ≡ None) where
  found_last : IsTrue (some_since (sizes_of a.post.machine) a.holdings.acked Clock (λ w. w == last_clock) a.holdings.steps)
  unfolding left_by
  found_last =
      let late : a.holdings.acked ≤ length v.holdings.steps =
      subst (λ k. k ≤ length v.holdings.steps) (sym (ap (λ (y : PortValue). y.holdings.acked) look.to)) (acked_past v.post.machine v.post.vcpu v.holdings Clock last_clock look.finds) in
      subst (λ (n : Machine). IsTrue (some_since (sizes_of n) a.holdings.acked Clock (λ w. w == last_clock) a.holdings.steps)) (sym (ap (λ (y : PortValue). y.post.machine) look.to))
      (moves_since v a Clock Load kinds.Look None last_clock look a.holdings.acked (λ w. w == last_clock) late (when_eq last_clock last_clock refl))

  may_empty : MayFlushTo a.post.machine last_clock a.holdings
  may_empty =
      record {
        was_found = found_last;
        warmed = λ cold. stays_warm v a (moves_came v a Clock Load kinds.Look None last_clock look) (ap (λ (y : PortValue). y.holdings.ran) look.to) warm;
        landed = ap (λ (y : PortValue). y.holdings.walk) look.to ∙ landed;
      }

pub may_empty_by : (v a : PortValue) (e : Refusal) → FlushesOwn v a (Err e) → FoundClockLow v → v.holdings.walk ≡ None → MayFlushTo a.post.machine last_clock a.holdings
may_empty_by v a e (flushing.spent look) warm landed = may_empty v a look warm landed

pub emptied : (v a w : PortValue) (e : Refusal) (before : ℕ) → FlushesOwn v a (Err e) → Moves a w (flushed_of a.post.vcpu) (Store last_clock) kinds.Ack None before → FlushesBehind v w
emptied v a w e before (flushing.spent look) ack =
    spent a before look (subst (λ (q : Post). Moves a w (flushed_of q.vcpu) (Store last_clock) kinds.Ack None before) (ap (λ (y : PortValue). y.post) look.to) ack)

-- ---- its steps
pub behind_came : (v w : PortValue) → FlushesBehind v w → Came v w
behind_came v w (flushed f) = own_came v w (Ok tt) f
behind_came v w (spent a before look ack) =
    came_trans v a w (moves_came v a Clock Load kinds.Look None last_clock look) (moves_came a w (flushed_of v.post.vcpu) (Store last_clock) kinds.Ack None before ack)

pub behind_serves : (u v w : PortValue) (r : Request) (ds : List Deed) → Serves u v r ds → r.flushes ≡ true → FlushesBehind v w → Serves u w r ds
behind_serves u v w r ds served flushes (flushed f) = own_serves u v w r ds served (needed (own flushes)) (Ok tt) f
behind_serves u v w r ds served flushes (spent a before look ack) =
    let mine : v.post.vcpu ≡ u.post.vcpu = ap (λ (q : Post). q.vcpu) (came_post u v (serves_came u v r ds served)) in
    serves_step u a w r ds (flushed_of v.post.vcpu) (Store last_clock) kinds.Ack None before (serves_step u v a r ds Clock Load kinds.Look None last_clock served look tt) ack
    (inl (mine, inr (needed (own flushes))))
