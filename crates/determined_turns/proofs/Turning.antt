-- A whole turn is determined: by where the vCPU stood, by what its gate answers, and by the words that it finds.
use Rattle.std.proofs.Common.{◌≡◌, ◌≢◌, ◌≤◌, ◌<◌, ℕ, ◌+◌, Bool, true, false, List, [], ◌∷◌, ◌++◌, length, nat_lt, Option, Some, None, Result, Ok, Err, refl, sym, ap, ◌∙◌, subst, inl, inr}
use Rattle.std.proofs.lemmas.List.Elements.{All-get_or}
use Rattle.xp_words.specs.Machine.{IsMachine}
use Rattle.xp_words.specs.Places.{flushed_of, run_of, sizes_of}
use Rattle.xp_words.specs.declared.ops.Op.{Op}
use Rattle.xp_words.specs.declared.place.Place.TheVariants.{Clock, Life}
use Rattle.xp_words.specs.declared.reply.LogLine.{LogLine}
use Rattle.xp_words.specs.declared.reply.Pause.{Pause}
use Rattle.xp_words.specs.declared.reply.Refusal.{Refusal}
use Rattle.xp_words.specs.declared.reply.Refusal.TheVariants as refusals
use Rattle.xp_words.specs.declared.reply.Refusal.TheVariants.{Dying}
use Rattle.xp_words.specs.declared.reply.Stop.{Stop}
use Rattle.xp_words.specs.declared.reply.Stop.TheVariants.{Paused}
use Rattle.xp_board.specs.Readings.{domain_of, last_clock}
use Rattle.xp_board.specs.Told.{Post, PortValue}
use Rattle.xp_board.specs.declared.step.Act.TheVariants.{Cas, Load, Store}
use Rattle.xp_board.specs.declared.step.StepKind.TheVariants as kinds
use Rattle.step_maker.specs.Moves.{Came, Moves}
use Rattle.step_maker.proofs.Coming.{came_post, came_self, came_trans, moves_came}
use Rattle.xp_preempt.specs.Gates.{GivesAnswers, asks_on}
use Rattle.flush_words.specs.Flushing as flushing
use Rattle.flush_words.specs.Flushing.{FlushesOwn}
use Rattle.tlb_walks.specs.Dropping.{Acks, Heeds}
use Rattle.tlb_walks.proofs.Flushes.{heeds_came}
use Rattle.level_release.specs.Course.{left_settled}
use Rattle.domain_destroy.specs.Course.{left_lines}
use Rattle.domain_destroy.specs.declared.place.DestroyAt.{DestroyAt}
use Rattle.vcpu_turn.specs.Calls.{WentBy}
use Rattle.vcpu_turn.specs.Cpus.{Job, OfCalls, OfDestroy, OfOne, Processing, after_turn, done_at, end_of, job_of, next_of, nothing_left, reply_of}
use Rattle.vcpu_turn.specs.Destroying.{done_behind}
use Rattle.vcpu_turn.specs.Settling.{Settles}
use Rattle.vcpu_turn.specs.Turning.{Begins, DiesNext, DoesNext, DoesTurn, EndsTurn, GoesBy, GoesOnWith, IsOf, IsStop, IsTurn, Retires}
use Rattle.vcpu_turn.specs.declared.cpu.Progress.{Progress}
use Rattle.vcpu_turn.specs.declared.cpu.TurnEnd.{TurnEnd}
use Rattle.vcpu_turn.specs.declared.cpu.TurnEnd.TheVariants as ends
use Rattle.vcpu_turn.proofs.TurnSteps.{dies_came, ends_came}
use Rattle.determined_laws.specs.Courses.{Alike}
use Rattle.determined_laws.proofs.Courses.{alike_apart, alike_map, alike_move, alike_next, alike_same}
use Rattle.determined_calls.proofs.Asking.{gives_first, gives_more}
use Rattle.determined_releases.proofs.Destroys.{OwnsReal, destroys_alike, destroys_came}
use Rattle.determined_turns.proofs.Lists.{Answer}
use Rattle.determined_turns.proofs.Multicalls.{calls_alike, calls_came}
use Rattle.determined_turns.proofs.Settling.{both_answers, settles_alike, settles_came}
use Rattle.determined_turns.proofs.Working.{SameWay, valued_as, went_alike, went_came}

-- ---- the own flush, from port to port
own_came : {v w : PortValue} {a : Result (Unit {0}) Refusal} → FlushesOwn v w a → Came v w
own_came {v} {w} (flushing.FlushesOwn.spent look) = moves_came v w _ _ _ _ _ look
own_came {v} {w} (flushing.FlushesOwn.ticked a b clock before off look tick store) = came_trans v a w (moves_came v a _ _ _ _ _ look) (came_trans a b w (moves_came a b _ _ _ _ _ tick) (moves_came b w _ _ _ _ _ store))
own_came {v} {w} (flushing.FlushesOwn.overtaken a b clock found before off other look tick store) = came_trans v a w (moves_came v a _ _ _ _ _ look) (came_trans a b w (moves_came a b _ _ _ _ _ tick) (moves_came b w _ _ _ _ _ store))

-- behind the exchange: what the clock is then is stored
data Stores (n b w : PortValue) (clock found before : ℕ) : Type 0 where
  met : found ≡ clock → Moves b w (flushed_of n.post.vcpu) (Store (clock + 1)) kinds.Ack None before → Stores n b w clock found before
  passed : found ≢ clock → Moves b w (flushed_of n.post.vcpu) (Store found) kinds.Ack None before → Stores n b w clock found before

-- behind the look: the clock is moved on, or was, and that value stored
data Ticks (n : PortValue) (a w : PortValue) (clock : ℕ) (r : Result (Unit {0}) Refusal) : Type 0 where
  over : clock ≡ last_clock → w ≡ a → r ≡ Err (refusals.Clock last_clock) → Ticks n a w clock r
  goes : (b : PortValue) (found before : ℕ) → clock ≢ last_clock → Moves a b Clock (Cas clock (clock + 1)) kinds.Tick None found → Stores n b w clock found before → r ≡ Ok tt → Ticks n a w clock r

data Owns (v w : PortValue) (r : Result (Unit {0}) Refusal) : Type 0 where
  looked : (a : PortValue) (clock : ℕ) → Moves v a Clock Load kinds.Look None clock → Ticks v a w clock r → Owns v w r

owns : (v w : PortValue) (r : Result (Unit {0}) Refusal) → FlushesOwn v w r → Owns v w r
owns v w _ (flushing.FlushesOwn.spent look) = looked w last_clock look (over refl refl refl)
owns v w _ (flushing.FlushesOwn.ticked a b clock before off look tick store) = looked a clock look (goes b clock before off tick (met refl store) refl)
owns v w _ (flushing.FlushesOwn.overtaken a b clock found before off other look tick store) = looked a clock look (goes b found before off tick (passed other store) refl)

stores_came : {n b w : PortValue} {clock found before : ℕ} → Stores n b w clock found before → Came b w
stores_came {n} {b} {w} (met is store) = moves_came b w _ _ _ _ _ store
stores_came {n} {b} {w} (passed other store) = moves_came b w _ _ _ _ _ store

ticks_came : {n a w : PortValue} {clock : ℕ} {r : Result (Unit {0}) Refusal} → Ticks n a w clock r → Came a w
ticks_came {n} {a} (over is same end) = subst (λ z. Came a z) (sym same) (came_self a)
ticks_came {n} {a} {w} (goes b found before off tick store end) = came_trans a b w (moves_came a b _ _ _ _ _ tick) (stores_came store)

stores_alike : {n b w x : PortValue} {clock found before other : ℕ} → Stores n b w clock found before → Stores n b x clock found other → Alike b w x (Unit {0})
stores_alike (met is store) (met also stores) = alike_map (alike_move store stores) (λ e. tt)
stores_alike (met is store) (passed off stores) = absurd (off is)
stores_alike (passed off store) (met is stores) = absurd (off is)
stores_alike (passed off store) (passed out stores) = alike_map (alike_move store stores) (λ e. tt)

ticks_alike : {n a w x : PortValue} {clock : ℕ} {r s : Result (Unit {0}) Refusal} → Ticks n a w clock r → Ticks n a x clock s → Alike a w x (r ≡ s)
ticks_alike (over is same end) (over also still ends) = alike_same (same ∙ sym still) (end ∙ sym ends)
ticks_alike (over is same end) (goes b found before off tick store ends) = absurd (off is)
ticks_alike (goes b found before off tick store end) (over is same ends) = absurd (off is)
ticks_alike {n} {a} {w} {x} {clock} (goes b found before off tick store end) (goes c other earlier out tock stores ends) =
    alike_next (λ z. Stores n z x clock other earlier) (moves_came a b _ _ _ _ _ tick) (stores_came store) (stores_came stores) (alike_move tick tock) stores
    (λ e more. alike_map (stores_alike store (subst (λ z. Stores n b x clock z earlier) (sym e) more)) (λ t. end ∙ sym ends))

own_alike : {v w x : PortValue} {a b : Result (Unit {0}) Refusal} → FlushesOwn v w a → FlushesOwn v x b → Alike v w x (a ≡ b)
own_alike {v} {w} {x} {a} {b} p q = by (owns v w a p) (owns v x b q)
  where
    by : Owns v w a → Owns v x b → Alike v w x (a ≡ b)
    by (looked u clock look rest) (looked y other see more) =
        alike_next (λ z. Ticks v z x other b) (moves_came v u _ _ _ _ _ look) (ticks_came rest) (ticks_came more) (alike_move look see) more
        (λ e behind. ticks_alike rest (subst (λ z. Ticks v u x z b) (sym e) behind))

-- ---- the beginning
heeds_alike : (heeded : Bool) (v w x : PortValue) → Heeds heeded v w → Heeds heeded v x → Alike v w x (Unit {0})
heeds_alike true v w x p q = alike_same (p ∙ sym q) tt
heeds_alike false v w x p q = alike_map (own_alike p.1 q.1) (λ e. tt)

acks_came : {v w : PortValue} → Acks v w → Came v w
acks_came {v} {w} p = came_trans v p.a w (moves_came v p.a _ _ _ _ _ p.marked) (came_trans p.a p.b w (moves_came p.a p.b _ _ _ _ _ p.looked) (heeds_came (nat_lt p.asked p.flushed) p.b w p.heeds))

acks_alike : {v w x : PortValue} → Acks v w → Acks v x → Alike v w x (Unit {0})
acks_alike {v} {w} {x} p q =
    alike_next (λ z. Moves z q.b _ Load kinds.Look None q.flushed) (moves_came v p.a _ _ _ _ _ p.marked) (came_trans p.a p.b w (moves_came p.a p.b _ _ _ _ _ p.looked) (heeds_came (nat_lt p.asked p.flushed) p.b w p.heeds))
    (came_trans q.a q.b x (moves_came q.a q.b _ _ _ _ _ q.looked) (heeds_came (nat_lt q.asked q.flushed) q.b x q.heeds)) (alike_move p.marked q.marked) q.looked
    (λ e more. alike_next (λ z. Heeds (nat_lt q.asked q.flushed) z x) (moves_came p.a p.b _ _ _ _ _ p.looked) (heeds_came (nat_lt p.asked p.flushed) p.b w p.heeds) (heeds_came (nat_lt q.asked q.flushed) q.b x q.heeds) (alike_move p.looked more) q.heeds
    (λ f heeds. heeds_alike (nat_lt p.asked p.flushed) p.b w x p.heeds (subst (λ z. Heeds z p.b x) (sym (ap (λ z. nat_lt z p.flushed) e ∙ ap (λ z. nat_lt q.asked z) f)) heeds)))

begins_came : {v w : PortValue} {d run life : ℕ} → Begins v w d run life → Came v w
begins_came {v} {w} p = came_trans v p.acked w (acks_came p.acks) (came_trans p.acked p.looked w (moves_came p.acked p.looked _ _ _ _ _ p.running) (moves_came p.looked w _ _ _ _ _ p.lives))

begins_alike : {v w x : PortValue} {d run life other death : ℕ} → Begins v w d run life → Begins v x d other death → Alike v w x ((run ≡ other) × (life ≡ death))
begins_alike {v} {w} {x} {d} {run} {life} {other} {death} p q =
    alike_next (λ z. Moves z q.looked (run_of v.post.vcpu) Load kinds.Look None other) (acks_came p.acks) (came_trans p.acked p.looked w (moves_came p.acked p.looked _ _ _ _ _ p.running) (moves_came p.looked w _ _ _ _ _ p.lives))
    (came_trans q.acked q.looked x (moves_came q.acked q.looked _ _ _ _ _ q.running) (moves_came q.looked x _ _ _ _ _ q.lives)) (acks_alike p.acks q.acks) q.running
    (λ s more. alike_next (λ z. Moves z x (Life d) Load kinds.Look None death) (moves_came p.acked p.looked _ _ _ _ _ p.running) (moves_came p.looked w _ _ _ _ _ p.lives) (moves_came q.looked x _ _ _ _ _ q.lives) (alike_move p.running more) q.lives
    (λ e last. alike_map (alike_move p.lives last) (λ f. (e, f))))

-- ---- the end
stop_came : {v w : PortValue} → IsStop v w → Came v w
stop_came {v} {w} p = moves_came v w _ _ _ _ _ p.1

stop_alike : {v w x : PortValue} → IsStop v w → IsStop v x → Alike v w x (Unit {0})
stop_alike p q = alike_map (alike_move p.1 q.1) (λ e. tt)

ends_alike : (end : TurnEnd) (v w x : PortValue) → EndsTurn end v w → EndsTurn end v x → Alike v w x (Unit {0})
ends_alike (ends.Answered reply) v w x p q = alike_map (alike_move p.1 q.1) (λ e. tt)
ends_alike (ends.Paused p) v w x same still = alike_same (same ∙ sym still) tt
ends_alike ends.Retired v w x p q = stop_alike p q

-- ---- an operation
module _ (says : ℕ → Bool) (n : ℕ) where
  by_came : (d : ℕ) (job : Job) (op : ℕ) (v : PortValue) (from to : Progress) (w : PortValue) (log late : List LogLine) (answers : List Bool) (a : Result ℕ Stop) → GivesAnswers says n answers → WentBy d job op v from to w log late answers a → Came v w
  by_came d (OfOne task) op v from to w log late answers a g p = went_came says n g p
  by_came d (OfCalls calls) op v from to w log late answers a g p = calls_came says n d calls op v from log to w late answers p.ended g p.works
  by_came d (OfDestroy x) op v from to w log late answers a g p = destroys_came p.destroyed.course

  same_place : (from to by : Progress) (a b : Result ℕ Stop) → a ≡ b → (one two : DestroyAt) → one ≡ two → to ≡ record from { done = done_behind from.done a; place = one } → by ≡ record from { done = done_behind from.done b; place = two } → to ≡ by
  same_place from to by a b e one two f is also =
      is ∙ (ap (λ z. record from { done = done_behind from.done z; place = one }) e ∙ (ap (λ z. record from { done = done_behind from.done b; place = z }) f ∙ sym also))

  pub by_alike : (d : ℕ) (job : Job) (op : ℕ) (v : PortValue) (from to by : Progress) (w x : PortValue) (log late other : List LogLine) (answers others : List Bool) (a b : Result ℕ Stop) → OwnsReal v → GivesAnswers says n answers → GivesAnswers says n others →
      WentBy d job op v from to w log late answers a → WentBy d job op v from by x log other others b → Alike v w x ((to ≡ by) × (late ≡ other) × (answers ≡ others) × (a ≡ b))
  by_alike d (OfOne task) op v from to by w x log late other answers others a b real g h p q = went_alike says n g h p q
  by_alike d (OfCalls calls) op v from to by w x log late other answers others a b real g h p q =
      alike_map (calls_alike says n d calls op v from log to by w x late other answers others p.ended q.ended g h p.works q.works) (λ s. (s.0, s.1, s.2, valued_as says n p q s.3))
  by_alike d (OfDestroy z) op v from to by w x log late other answers others a b real g h p q =
      alike_map (destroys_alike says n real g h p.destroyed.course q.destroyed.course)
      (λ s. (same_place from to by a b s.3 to.place by.place s.0 p.to_is q.to_is, p.destroyed.lines ∙ (ap (λ k. log ++ left_lines op k) s.1 ∙ sym q.destroyed.lines), s.2, s.3))

  -- ---- what a turn does between its beginning and its end
  next_came : (c : Processing) (o : Option Op) (c' : Processing) (v w : PortValue) (answers : List Bool) (end : TurnEnd) → GivesAnswers says n answers → DoesNext c o c' v w answers end → Came v w
  next_came c (Some op) c' v w answers end g p = by_came c.domain (job_of op) (c.answered + 1) v c.at p.to w c.log p.log answers p.answer g p.went
  next_came c None c' v w answers end g p = subst (λ z. Came v z) (sym p.no_step) (came_self v)

  same_cpu : (c one two : Processing) (to by : Progress) (log late : List LogLine) (end stop : TurnEnd) → to ≡ by → log ≡ late → end ≡ stop → one ≡ after_turn c to log end → two ≡ after_turn c by late stop → one ≡ two
  same_cpu c one two to by log late end stop e f g is also =
      is ∙ (ap (λ z. after_turn c z log end) e ∙ (ap (λ z. after_turn c by z end) f ∙ (ap (λ z. after_turn c by late z) g ∙ sym also)))

  next_alike : (c : Processing) (o : Option Op) (one two : Processing) (v w x : PortValue) (answers others : List Bool) (end stop : TurnEnd) → OwnsReal v → GivesAnswers says n answers → GivesAnswers says n others → DoesNext c o one v w answers end →
      DoesNext c o two v x others stop → Alike v w x ((one ≡ two) × (answers ≡ others) × (end ≡ stop))
  next_alike c (Some op) one two v w x answers others end stop real g h p q =
      alike_map (by_alike c.domain (job_of op) (c.answered + 1) v c.at p.to q.to w x c.log p.log q.log answers others p.answer q.answer real g h p.went q.went)
      (λ s. let same = p.end_is ∙ (ap (λ z. end_of z p.answer) (ap (λ (k : Progress). k.done) s.0) ∙ (ap (λ z. end_of q.to.done z) s.3 ∙ sym q.end_is)) in (same_cpu c one two p.to q.to p.log q.log end stop s.0 s.1 same p.cpu q.cpu, s.2, same))
  next_alike c None one two v w x answers others end stop real g h p q = alike_same (p.no_step ∙ sym q.no_step) (p.cpu ∙ sym q.cpu, p.no_ask ∙ sym q.no_ask, p.end_is ∙ sym q.end_is)

-- ---- where the domain does not live
dies_alike : (life : ℕ) (c : Processing) (o : Option Op) (one two : Processing) (v w x : PortValue) (end stop : TurnEnd) → DiesNext life c o one v w end → DiesNext life c o two v x stop → Alike v w x ((one ≡ two) × (end ≡ stop))
dies_alike life c (Some op) one two v w x end stop p q =
    let same = p.1 ∙ sym q.1 in alike_map (stop_alike p.0 q.0) (λ e. (p.2 ∙ (ap (λ z. after_turn c c.at c.log z) same ∙ sym q.2), same))
dies_alike life c None one two v w x end stop p q = alike_same (p.0 ∙ sym q.0) (p.2 ∙ sym q.2, p.1 ∙ sym q.1)

-- ---- between the beginning and the end
pub own_is_real : (q : Post) → IsMachine q.machine → q.vcpu < (sizes_of q.machine).vcpus → domain_of q.machine q.vcpu < length q.machine.page_limit
own_is_real q machine real = All-get_or (λ d. d < length q.machine.page_limit) q.machine.vcpu_domain q.vcpu 0 real machine.of_domains

module _ (says : ℕ → Bool) (n : ℕ) (c : Processing) (o : Option Op) where
  turn_came : (v : PortValue) (c' : Processing) (w : PortValue) (answers : List Bool) (end : TurnEnd) → GivesAnswers says n answers → DoesTurn c o v c' w answers end → Came v w
  turn_came v _ _ _ _ g (DoesTurn.unsettled w answers p settles) = settles_came settles
  turn_came v _ _ _ _ g (DoesTurn.settled u w c' early answers end settles next) = came_trans v u w (settles_came settles) (next_came says (asks_on (length early) n) (nothing_left c) o c' u w answers end (gives_more says n answers early g) next)
  turn_came v _ _ _ _ g (DoesTurn.dying life w c' end dead dies) = dies_came life c o c' v w end dies

  same_pause : (p q : Pause) → ◌≡◌ {A = Answer} (Err (Paused p)) (Err (Paused q)) → ends.Paused p ≡ ends.Paused q
  same_pause p q e = let t : p ≡ q = cc in ap (λ z. ends.Paused z) t

  turn_alike : (v : PortValue) (one two : Processing) (w x : PortValue) (answers others : List Bool) (end stop : TurnEnd) (run life : ℕ) → OwnsReal v → GivesAnswers says n answers → GivesAnswers says n others → (p : DoesTurn c o v one w answers end) →
      (q : DoesTurn c o v two x others stop) → GoesBy p run life → GoesBy q run life → Alike v w x ((one ≡ two) × (answers ≡ others) × (end ≡ stop))
  turn_alike v _ _ _ _ _ _ _ _ run life real g h (DoesTurn.unsettled w answers p settles) (DoesTurn.unsettled x others q lets) i j =
      alike_map (settles_alike says n g h settles lets) (λ s. (ap (λ z. record c { left = z }) s.2, s.0, same_pause p q s.1))
  turn_alike v _ _ _ _ _ _ _ _ run life real g h (DoesTurn.unsettled w answers p settles) (DoesTurn.settled u x two early others stop lets next) i j =
      alike_apart (came_self w) (next_came says (asks_on (length early) n) (nothing_left c) o two u x others stop (gives_more says n others early h) next) (settles_alike says n g (gives_first says n others early h) settles lets) (λ s. absurd (let t = s.1 in cc))
  turn_alike v _ _ _ _ _ _ _ _ run life real g h (DoesTurn.unsettled w answers p settles) (DoesTurn.dying found x two stop dead dies) i j = absurd (dead (j ∙ i.1))
  turn_alike v _ _ _ _ _ _ _ _ run life real g h (DoesTurn.settled u w one early answers end lets next) (DoesTurn.unsettled x others p settles) i j =
      alike_apart (next_came says (asks_on (length early) n) (nothing_left c) o one u w answers end (gives_more says n answers early g) next) (came_self x) (settles_alike says n (gives_first says n answers early g) h lets settles) (λ s. absurd (let t = s.1 in cc))
  turn_alike v _ _ _ _ _ _ _ _ run life real g h (DoesTurn.settled u w one early answers end settles next) (DoesTurn.settled y x two first others stop lets further) i j =
      alike_next (λ z. DoesNext (nothing_left c) o two z x others stop) (settles_came settles) (next_came says (asks_on (length early) n) (nothing_left c) o one u w answers end (gives_more says n answers early g) next)
      (next_came says (asks_on (length first) n) (nothing_left c) o two y x others stop (gives_more says n others first h) further) (settles_alike says n (gives_first says n answers early g) (gives_first says n others first h) settles lets) further
      (λ s more. alike_map
      (next_alike says (asks_on (length early) n) (nothing_left c) o one two u w x answers others end stop (real_at v u (settles_came settles) real) (gives_more says n answers early g)
      (subst (λ z. GivesAnswers says (asks_on (length z) n) others) (sym s.0) (gives_more says n others first h)) next more) (λ t. (t.0, both_answers early first answers others s.0 t.1, t.2)))
    where
      real_at : (v u : PortValue) → Came v u → OwnsReal v → OwnsReal u
      real_at v u came own = subst (λ (q : Post). domain_of q.machine q.vcpu < length q.machine.page_limit) (sym (came_post v u came)) own
  turn_alike v _ _ _ _ _ _ _ _ run life real g h (DoesTurn.settled u w one early answers end settles next) (DoesTurn.dying found x two stop dead dies) i j = absurd (dead (j ∙ i.1))
  turn_alike v _ _ _ _ _ _ _ _ run life real g h (DoesTurn.dying found w one end dead dies) (DoesTurn.unsettled x others p settles) i j = absurd (dead (i ∙ j.1))
  turn_alike v _ _ _ _ _ _ _ _ run life real g h (DoesTurn.dying found w one end dead dies) (DoesTurn.settled u x two early others stop lets next) i j = absurd (dead (i ∙ j.1))
  turn_alike v _ _ _ _ _ _ _ _ run life real g h (DoesTurn.dying found w one end dead dies) (DoesTurn.dying other x two stop gone perish) i j =
      alike_map (dies_alike found c o one two v w x end stop dies (subst (λ z. DiesNext z c o two v x stop) (j ∙ sym i) perish)) (λ s. (s.0, refl, s.1))

-- ---- the whole
module _ (says : ℕ → Bool) (n : ℕ) (c : Processing) where
  pub is_turn_came : (one : Processing) (end : TurnEnd) (v w : PortValue) (answers : List Bool) → GivesAnswers says n answers → IsTurn c one end v w answers → Came v w
  is_turn_came one end v w answers g t =
      came_trans v t.begun w (begins_came t.begins) (came_trans t.begun t.worked w (turn_came says n c (next_of c) t.begun one t.worked answers end g t.does) (ends_came end t.worked w t.ends))

  behind_turn : (one : Processing) (end : TurnEnd) (w : PortValue) (answers : List Bool) (run life : ℕ) → PortValue → PortValue → Type 0
  behind_turn one end w answers run life worked u = (does : DoesTurn c (next_of c) u one worked answers end) × GoesBy does run life

  pub is_turn_alike : (one two : Processing) (end stop : TurnEnd) (v w x : PortValue) (answers others : List Bool) → IsMachine v.post.machine → GivesAnswers says n answers → GivesAnswers says n others → IsTurn c one end v w answers →
      IsTurn c two stop v x others → Alike v w x ((one ≡ two) × (end ≡ stop) × (answers ≡ others))
  unfolding behind_turn
  is_turn_alike one two end stop v w x answers others machine g h p q =
      alike_next (behind_turn two stop x others q.run q.life q.worked) (begins_came p.begins) (came_trans p.begun p.worked w (turn_came says n c (next_of c) p.begun one p.worked answers end g p.does) (ends_came end p.worked w p.ends))
      (came_trans q.begun q.worked x (turn_came says n c (next_of c) q.begun two q.worked others stop h q.does) (ends_came stop q.worked x q.ends)) (begins_alike p.begins q.begins) (q.does, q.goes)
      (λ s more. alike_next (λ z. EndsTurn stop z x) (turn_came says n c (next_of c) p.begun one p.worked answers end g p.does) (ends_came end p.worked w p.ends) (ends_came stop q.worked x q.ends)
      (turn_alike says n c (next_of c) p.begun one two p.worked q.worked answers others end stop p.run p.life real g h p.does more.0 p.goes
      (subst (λ z. GoesBy more.0 z p.life) (sym s.0) (subst (λ z. GoesBy more.0 q.run z) (sym s.1) more.1))) q.ends
      (λ t last. alike_map (ends_alike end p.worked w x p.ends (subst (λ z. EndsTurn z p.worked x) (sym t.2) last)) (λ e. (t.0, t.2, t.1))))
    where
      real : OwnsReal p.begun
      real = subst (λ (k : Post). domain_of k.machine k.vcpu < length k.machine.page_limit) (sym (came_post v p.begun (begins_came p.begins))) (own_is_real v.post machine p.begins.acks.marked.finds.real)
