-- The word of an entry is put there, or another one is found than the look before it saw: what a guest sees of it, and why the call stops.
use Rattle.std.proofs.Common.{◌≡◌, ◌≢◌, ◌⊎◌, ℕ, ◌≤◌, nat_le, Bool, true, false, List, [], ◌∷◌, length, Some, None, refl, sym, ap, ◌∙◌, subst, arith, inl, inr, ◌<◌, not, ◌++◌, Result, Ok, Err}
use Rattle.std.proofs.lemmas.Bool.Decides.{nat_tests}
use Rattle.xp_words.specs.Places.{Sizes, number, place_at, sizes_of}
use Rattle.xp_words.specs.declared.place.Place.{Place}
use Rattle.xp_words.specs.declared.place.Place.TheVariants.{Cell}
use Rattle.xp_words.specs.declared.reply.Pause.TheVariants.{Lost}
use Rattle.xp_words.specs.declared.reply.Stop.TheVariants.{Paused}
use Rattle.xp_board.specs.declared.holdings.Holdings.{Holdings}
use Rattle.xp_board.specs.declared.holdings.Made.{Made}
use Rattle.xp_board.specs.declared.step.Act.TheVariants.{Cas, Load, Store}
use Rattle.xp_board.specs.declared.step.StepKind.TheVariants as kinds
use Rattle.xp_board.specs.Acts.{left_by}
use Rattle.xp_board.specs.Hands.{lock_on}
use Rattle.xp_board.specs.Steps.{is_at, last_since, left_of}
use Rattle.xp_board.specs.Told.{Post, PortValue}
use Rattle.xp_board.proofs.LockFacts.{lock_facts}
use Rattle.xp_board.proofs.MoreSteps.{last_since-cases, none_last}
use Rattle.xp_board.proofs.WorkFacts.{seen_is}
use Rattle.step_maker.specs.Moves.{Came, Met, Moment, Moves, Ran, step_at}
use Rattle.step_maker.proofs.Coming.{came_post, came_trans, met_after, met_before, moment_of, moves_came, moves_met}
use Rattle.step_maker.proofs.Noting.{made_now, moves_steps}
use Rattle.step_maker.specs.Answers.{Stops, Deed, Misses, Serves, deeds_by, missed, missed_at}
use Rattle.step_maker.specs.Asked.{IsAsked, Request}
use Rattle.step_maker.specs.Pauses.{Loses}
use Rattle.flush_words.proofs.Lasting.{came_longer, last_left}
use Rattle.entry_locks.specs.Entries.{MaySwapEntry, entry_set, entry_unset}
use Rattle.entry_exchange.specs.Course.{SawEntry, exchanged, lost, stored}
use Rattle.std.proofs.lemmas.Grind.{common_steps}
use Rattle.xp_words.specs.declared.reply.Stop.{Stop}
use Rattle.xp_words.proofs.PlaceLaws.{place_back}
use Rattle.xp_words.proofs.Shared.{eq_false as when_ne}
use Rattle.xp_board.specs.declared.step.Act.{Act}
use Rattle.xp_board.proofs.Sums.{when_eq}
use Rattle.step_maker.specs.Holds.{Holds}
use Rattle.step_maker.specs.Reasons.{HasReason}
use Rattle.step_maker.proofs.Piecing.{serves_step}
use Rattle.kept_marks.proofs.Serving.{asked_later}
use Rattle.entry_exchange.specs.Parts.{EntryPut}
use Rattle.entry_exchange.specs.Serving.{ServesPut, put_deeds}
use Rattle.entry_exchange.proofs.Inside.{was_inside}

-- ---- the last word at a place
-- from whatever step on it was looked for
same_last : (z : Sizes) (k n : ℕ) (p : Place) (e u : ℕ) (xs : List Made) → last_since z k p xs ≡ Some e → last_since z n p xs ≡ Some u → e ≡ u
same_last z k n p e u [] one two = absurd (none_last z k p e [] (omega arith) one)
same_last z k n p e u (x ∷ xs) one two = by_cases (λ a b. same_last z k n p e u xs a b) (last_since-cases z k p e x xs one) (last_since-cases z n p u x xs two)
  where
    by_cases : (last_since z k p xs ≡ Some e → last_since z n p xs ≡ Some u → e ≡ u) → ((place_at z x.step.place ≡ p) × (left_of x ≡ e)) ⊎ ((place_at z x.step.place ≢ p) × (last_since z k p xs ≡ Some e)) →
        ((place_at z x.step.place ≡ p) × (left_of x ≡ u)) ⊎ ((place_at z x.step.place ≢ p) × (last_since z n p xs ≡ Some u)) → e ≡ u
    by_cases again (inl a) (inl b) = sym a.1 ∙ b.1
    by_cases again (inl a) (inr b) = absurd (b.0 a.0)
    by_cases again (inr a) (inl b) = absurd (a.0 b.0)
    by_cases again (inr a) (inr b) = again a.1 b.1

-- once there is one, there is one
stays_by : (z : Sizes) (n : ℕ) (p : Place) (e : ℕ) (x : Made) (xs : List Made) → nat_le n (length xs) ≡ true → last_since z n p xs ≡ Some e → (b : Bool) → is_at z p x ≡ b → (u : ℕ) × (last_since z n p (x ∷ xs) ≡ Some u)
unfolding last_since
stays_by z n p e x xs late last true on = (left_of x, rw (late, on) refl)
stays_by z n p e x xs late last false off = (e, rw (late, off) last)

late_there : (n : ℕ) (xs : List Made) → n ≤ length xs → nat_le n (length xs) ≡ true
late_there n xs late = grind (arith, nat_tests)

one_stays : (z : Sizes) (n : ℕ) (p : Place) (e : ℕ) (x : Made) (xs : List Made) → n ≤ length xs → last_since z n p xs ≡ Some e → (u : ℕ) × (last_since z n p (x ∷ xs) ≡ Some u)
one_stays z n p e x xs late last = stays_by z n p e x xs (late_there n xs late) last (is_at z p x) refl

ran_stays : (z : Sizes) (n : ℕ) (p : Place) (b v : PortValue) (ms : List Moment) (e : ℕ) → Ran b ms v → n ≤ length b.holdings.steps → last_since z n p b.holdings.steps ≡ Some e →
    (n ≤ length v.holdings.steps) × ((u : ℕ) × (last_since z n p v.holdings.steps ≡ Some u))
ran_stays z n p b v [] e ran late last = subst (λ (q : PortValue). (n ≤ length q.holdings.steps) × ((u : ℕ) × (last_since z n p q.holdings.steps ≡ Some u))) (sym ran) (late, (e, last))
ran_stays z n p b v (m ∷ ms) e ran late last =
    let before = ran_stays z n p b ran.0 ms e ran.1 late last in
    let steps : v.holdings.steps ≡ made_now (step_at ran.0.post.machine m.place m.act m.kind m.mark) m.found ∷ ran.0.holdings.steps = moves_steps ran.0 v m.place m.act m.kind m.mark m.found ran.2.moves in
    let more = ap (λ (xs : List Made). length xs) steps in
    let low = before.0 in
    let one = one_stays z n p before.1.0 (made_now (step_at ran.0.post.machine m.place m.act m.kind m.mark) m.found) ran.0.holdings.steps before.0 before.1.1 in
    (omega (arith, low, more), (one.0, ap (last_since z n p) steps ∙ one.1))

came_stays : (z : Sizes) (n : ℕ) (p : Place) (b v : PortValue) (e : ℕ) → Came b v → n ≤ length b.holdings.steps → last_since z n p b.holdings.steps ≡ Some e → (u : ℕ) × (last_since z n p v.holdings.steps ≡ Some u)
unfolding Came
came_stays z n p b v e came late last = (ran_stays z n p b v came.0 e came.1 late last).1

-- ---- the exchange
module _ (a b v w : PortValue) (f i seen new found : ℕ) (saw : SawEntry a b f i seen) (came : Came b v) (may : MaySwapEntry v.post.machine f i seen new v.holdings)
    (try : Moves v w (Cell f i) (Cas seen new) kinds.Cell None found) (off : found ≢ seen) where
  -- what the vCPU last found or left there since it took the lock
  by_lock : last_since (sizes_of v.post.machine) may.lock.since (Cell f i) v.holdings.steps ≡ Some seen
  by_lock =
      let finds = try.finds in
      let at : lock_on f (finds.hands v.post.vcpu).locks ≡ Some may.lock = subst (λ (h : Holdings). lock_on f h.locks ≡ Some may.lock) (sym finds.mine) may.here in
      let facts = lock_facts v.post.machine finds.words finds.hands v.post.vcpu f may.lock finds.sound finds.real at in
      let last = seen_is (sizes_of v.post.machine) may.lock.since may.lock.frame (finds.hands v.post.vcpu).steps may.lock.seen i seen facts.formed.seen may.may.seen in
      subst (λ (h : Holdings). last_since (sizes_of v.post.machine) may.lock.since (Cell f i) h.steps ≡ Some seen) finds.mine
      (subst (λ g. last_since (sizes_of v.post.machine) may.lock.since (Cell g i) (finds.hands v.post.vcpu).steps ≡ Some seen) facts.frame last)

  came_b : Came a b
  came_b = moves_came a b (Cell f i) Load kinds.Look None seen saw

  looked : last_since (sizes_of a.post.machine) (length a.holdings.steps) (Cell f i) b.holdings.steps ≡ Some seen
  unfolding left_by
  looked = last_left a b (Cell f i) Load kinds.Look None seen saw (length a.holdings.steps) (omega arith)

  last_is : last_since (sizes_of a.post.machine) (length a.holdings.steps) (Cell f i) v.holdings.steps ≡ Some seen
  last_is =
      let late = came_longer a b came_b in
      let some = came_stays (sizes_of a.post.machine) (length a.holdings.steps) (Cell f i) b v seen came late looked in
      let locked = subst (λ (p : Post). last_since (sizes_of p.machine) may.lock.since (Cell f i) v.holdings.steps ≡ Some seen) (came_post a v (came_trans a b v came_b came)) by_lock in
      some.1 ∙ ap (λ y. Some y) (same_last (sizes_of a.post.machine) (length a.holdings.steps) may.lock.since (Cell f i) some.0 seen v.holdings.steps some.1 locked)

  loses : Loses a.post.machine (Met a w) (Cell f i) seen found
  unfolding moment_of
  loses =
      let after = came_trans b v w came (moves_came v w (Cell f i) (Cas seen new) kinds.Cell None found try) in
      record {
        before = moment_of a (Cell f i) Load kinds.Look None seen;
        exchange = moment_of v (Cell f i) (Cas seen new) kinds.Cell None found;
        new = new;
        was_before = met_before a b w _ (moves_met a b (Cell f i) Load kinds.Look None seen saw) after;
        was_exchange = met_after a v w _ (came_trans a b v came_b came) (moves_met v w (Cell f i) (Cas seen new) kinds.Cell None found try);
        place_before = refl;
        place = refl;
        act = refl;
        word = refl;
        last = last_is;
        other = off;
      }

  pub lost_stops : (r : Request) → IsAsked a.post.machine a.post.vcpu r (Met a w) f → Stops a w r (Paused (Lost (number (sizes_of v.post.machine) (Cell f i)) seen found))
  unfolding Stops loses
  lost_stops r asks =
      let same = ap (λ (p : Post). number (sizes_of p.machine) (Cell f i)) (came_post a v (came_trans a b v came_b came)) in
      (Cell f i, same, (λ e. cc), (loses, asks))

-- ---- behind any piece that asks the table
put_serves : {v w : PortValue} {f i old : ℕ} {act : Act} (new : ℕ) (answer : Result ℕ Stop) → Moves v w (Cell f i) act kinds.Cell None old →
    deeds_by (Cell f i) act kinds.Cell old v.holdings ≡ put_deeds v.post.machine f i new answer →
    ((u : PortValue) (r : Request) → IsAsked u.post.machine u.post.vcpu r (Met u w) f → HasReason u.post.machine u.post.vcpu r (Met u w) (Cell f i) act old v.holdings) → ServesPut v w f i new answer
put_serves {v} {w} {f} {i} {old} {act} new answer step deed why u r ds before asked =
    subst (λ (es : List Deed). Serves u w r (es ++ ds)) deed
    (serves_step u v w r ds (Cell f i) act kinds.Cell None old before step (why u r (asked_later u v w r f (moves_came v w (Cell f i) act kinds.Cell None old step) asked)))

module _ {v w : PortValue} {f i seen new : ℕ} {keep : Bool} (index : i < 512) (may : MaySwapEntry v.post.machine f i seen new v.holdings) where
  pub put_stored : {old : ℕ} → not keep ≡ true → Moves v w (Cell f i) (Store new) kinds.Cell None old → Holds v w (entry_set f i new old v.holdings) → EntryPut v w f i seen new keep (Ok old)
  put_stored {old} off step hand =
      record {
        came = moves_came v w (Cell f i) (Store new) kinds.Cell None old step;
        serves = put_serves new (Ok old) step (rw may.here refl) (λ u r asked. asked);
        stops = tt;
        kinds = tt;
        inside = was_inside v f i old index step.finds;
        hand = hand;
        course = (let plain : keep ≡ false = grind (arith, common_steps) in rw plain (stored old step));
      }

  pub put_swapped : not keep ≡ false → Moves v w (Cell f i) (Cas seen new) kinds.Cell None seen → Holds v w (entry_set f i new seen v.holdings) → EntryPut v w f i seen new keep (Ok seen)
  put_swapped off step hand =
      record {
        came = moves_came v w (Cell f i) (Cas seen new) kinds.Cell None seen step;
        serves = put_serves new (Ok seen) step (rw (when_eq seen seen refl) refl) (λ u r asked. asked);
        stops = tt;
        kinds = tt;
        inside = was_inside v f i seen index step.finds;
        hand = hand;
        course = (let kept : keep ≡ true = grind (arith, common_steps) in rw kept (exchanged step));
      }

  -- another word is found there
  pub put_lost : {place found : ℕ} → not keep ≡ false → found ≢ seen → Moves v w (Cell f i) (Cas seen new) kinds.Cell None found → Holds v w (entry_unset f i found v.holdings) →
      place ≡ number (sizes_of v.post.machine) (Cell f i) →
      EntryPut v w f i seen new keep (Err (Paused (Lost place seen found)))
  put_lost {place} {found} off other step hand at =
      let came = moves_came v w (Cell f i) (Cas seen new) kinds.Cell None found step in
      let misses : missed v.post.machine (Paused (Lost (number (sizes_of v.post.machine) (Cell f i)) seen found)) ≡ Misses (Cell f i) ∷ [] = ap (λ p. missed_at p)
      (place_back (sizes_of v.post.machine) (Cell f i) step.may.place) in
      rw at (record {
        came = came;
        serves = put_serves new (Err (Paused (Lost (number (sizes_of v.post.machine) (Cell f i)) seen found))) step (rw (when_ne found seen other) (sym misses)) (λ u r asked. asked);
        stops = λ a b r saw since asked. lost_stops a b v w f i seen new found saw since may step other r (asked_later a v w r f came asked);
        kinds = tt;
        inside = tt;
        hand = (found, hand);
        course = (let kept : keep ≡ true = grind (arith, common_steps) in rw kept (lost found other step));
      })
