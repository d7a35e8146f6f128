-- What a turn of a vCPU that is alone leaves of its own, and how much less is to be done then.
use Rattle.std.proofs.Common.{◌≡◌, ◌≢◌, ℕ, ◌+◌, ◌<◌, ◌≤◌, inl, inr, Bool, true, false, List, is_some, Option, Some, None, Ok, refl, sym, ap, ◌∙◌, subst, arith}
use Rattle.std.proofs.lemmas.Bool.{cases_eq}
use Rattle.xp_words.specs.Machine.{Machine}
use Rattle.xp_words.specs.Places.{flushed_of, run_of}
use Rattle.xp_words.specs.declared.ops.Op.{Op}
use Rattle.xp_words.specs.declared.place.Place.{Place}
use Rattle.xp_words.specs.declared.place.Place.TheVariants.{Clock, Life, Vcpu, Kind}
use Rattle.xp_words.specs.declared.reply.Pause.{Pause}
use Rattle.xp_words.specs.declared.reply.Pause.TheVariants.{Due}
use Rattle.xp_board.specs.Acts.{left_by}
use Rattle.xp_board.specs.Told.{Post, PortValue, is_telling, told_word}
use Rattle.step_maker.specs.Moves.{Came}
use Rattle.step_maker.proofs.Coming.{came_post}
use Rattle.step_maker.proofs.Telling.{came_telling, told_here}
use Rattle.answer_laws.specs.Alone.{IsAlone}
use Rattle.level_release.specs.Asking.{of_settle}
use Rattle.level_release.specs.Course.{left_settled}
use Rattle.table_words.specs.declared.old_words.OldWord.TheVariants.{First, Second}
use Rattle.vcpu_turn.specs.Cpus.{Job, OfCalls, OfDestroy, OfOne, Processing, job_next, next_of, nothing_left}
use Rattle.vcpu_turn.specs.Settling.{Settles}
use Rattle.vcpu_turn.specs.Turning as turning
use Rattle.vcpu_turn.specs.Turning.{DoesNext, DoesTurn, EndsTurn, GoesBy, GoesOnWith, IsStop, IsTurn}
use Rattle.vcpu_turn.specs.declared.cpu.TurnEnd.{TurnEnd}
use Rattle.vcpu_turn.specs.declared.cpu.TurnEnd.TheVariants as ends
use Rattle.vcpu_turn.proofs.Turns.{begins_came}
use Rattle.vcpu_turn.specs.Unhindered.{IsSparedBy, IsSparedIn, IsUnhindered}
use Rattle.vcpu_turn.proofs.Hindering.{settles_came}
use Rattle.vcpu_turn.proofs.TurnSteps.{after_retired}
use Rattle.frame_ranks.specs.Ranks.{AreAllAlive, GetsFurther, GoesForward, rank_at}
use Rattle.turn_measures.specs.Measures.{DestroysNothing, IsSparingJob, IsWithin, KeepsLeft, StaysAt, ahead, bit_named, olds_named}
use Rattle.turn_measures.proofs.Beginning.{begins_leaves}
use Rattle.round_laws.proofs.Beginning.{begins_alive, serves_leaves}
use Rattle.round_laws.proofs.Cited.{TurnLaws}
use Rattle.round_laws.proofs.Lessening.{Less, by_ahead, by_left, by_olds, by_ranks, TurnLeaves, next_left, none_kept, kept_as, apart, less_as, goes_or_waits}

-- ---- the domain lives
-- the turn works on the next operation, or on what was left
abbrev IsAtWork : {c : Processing} {o : Option Op} {v : PortValue} {d : Processing} {w : PortValue} {answers : List Bool} {end : TurnEnd} → DoesTurn c o v d w answers end → Type 0
IsAtWork (turning.dying life w d end dead dies) = ⊥
IsAtWork does = Unit {0}

at_work : {c : Processing} {o : Option Op} {v : PortValue} {d : Processing} {w : PortValue} {answers : List Bool} {end : TurnEnd} (run : ℕ) (does : DoesTurn c o v d w answers end) → GoesBy does run 0 → IsAtWork does
at_work run (turning.unsettled w answers p settles) goes = tt
at_work run (turning.settled u w d early answers end settles does) goes = tt
at_work run (turning.dying life w d end dead dies) goes = dead goes

spared_by : (n : Machine) (job : Job) (end : TurnEnd) → IsSparingJob job → IsUnhindered n end → IsSparedBy n job end
spared_by n (OfOne task) end sparing free = free
spared_by n (OfCalls calls) end sparing free = free
spared_by n (OfDestroy domain) end sparing free = absurd sparing

pub unhindered_by : (n : Machine) (job : Job) (end : TurnEnd) → IsSparingJob job → IsSparedBy n job end → IsUnhindered n end
unhindered_by n (OfOne task) end sparing free = free
unhindered_by n (OfCalls calls) end sparing free = free
unhindered_by n (OfDestroy domain) end sparing free = absurd sparing

-- ---- behind the beginning of the turn
module _ (laws : TurnLaws) (c : Processing) (b : PortValue) (alone : IsAlone b) (works : c.retired ≡ false) (keeps : KeepsLeft (told_word b) b.post.vcpu c.left) where
  telling : is_telling b ≡ true
  telling = ap is_some alone.telling

  -- a vCPU that is retired then has stored so, and answered all
  next_retires : (o : Option Op) (d : Processing) (u x : PortValue) (later : List Bool) (end : TurnEnd) → o ≡ next_of c → Came b u → DoesNext (nothing_left c) o d u x later end → (w : PortValue) → EndsTurn end x w →
      d.retired ≡ true → (told_word w (run_of b.post.vcpu) ≢ 0) × (next_of d ≡ None)
  unfolding left_by
  next_retires (Some op) d u x later end is came does w finish retired =
      let same : d.retired ≡ c.retired = ap (λ (y : Processing). y.retired) does.cpu ∙ after_retired (nothing_left c) does.to does.log end in
      absurd cc
  next_retires None d u x later end is came does w finish retired =
      let stop : IsStop x w = subst (λ e. EndsTurn e x w) does.end_is finish in
      let came' : Came b x = subst (Came b) (sym does.no_step) came in
      let one : told_word w (run_of x.post.vcpu) ≡ 1 = told_here x w _ _ _ _ _ stop.1 (came_telling b x came' ∙ telling) in
      let here : told_word w (run_of b.post.vcpu) ≡ 1 = subst (λ (q : Post). told_word w (run_of q.vcpu) ≡ 1) (came_post b x came') one in
      (λ zero. absurd (omega arith), ap next_of does.cpu ∙ sym is)

  retires : (o : Option Op) (d : Processing) (x : PortValue) (answers : List Bool) (end : TurnEnd) → o ≡ next_of c → (does : DoesTurn c o b d x answers end) → IsAtWork does → (w : PortValue) → EndsTurn end x w →
      d.retired ≡ true → (told_word w (run_of b.post.vcpu) ≢ 0) × (next_of d ≡ None)
  retires o _ _ _ _ is (turning.unsettled x answers p settles) goes w finish retired = absurd cc
  retires o _ _ _ _ is (turning.settled u x d early answers end settles does) goes w finish retired =
      next_retires o d u x answers end is (settles_came b u early (Ok tt) settles) does w finish retired
  retires o _ _ _ _ is (turning.dying life x d end dead dies) goes w finish retired = absurd goes

  -- what is left is named
  keeps_behind : (o : Option Op) (d : Processing) (x : PortValue) (answers : List Bool) (end : TurnEnd) → IsUnhindered b.post.machine end → (does : DoesTurn c o b d x answers end) → IsAtWork does → (w : PortValue) → EndsTurn end x w →
      KeepsLeft (told_word w) b.post.vcpu d.left
  keeps_behind o _ _ _ _ free (turning.unsettled x answers p settles) goes w finish =
      subst (λ y. KeepsLeft (told_word y) b.post.vcpu (left_settled settles.course)) (sym finish) (laws.keeps c.left b x answers p alone free keeps settles)
  keeps_behind o _ _ _ _ free (turning.settled u x d early answers end settles does) goes w finish =
      subst (λ k. KeepsLeft (told_word w) b.post.vcpu k) (sym (next_left c o d u x answers end does)) tt
  keeps_behind o _ _ _ _ free (turning.dying life x d end dead dies) goes w finish = absurd goes

  module _ (alive : AreAllAlive b.post.machine (told_word b)) where
    -- one that was paused within an element, behind a settling that came to its end
    module _ (u w : PortValue) (early later : List Bool) (settles : Settles c.left b u early (Ok tt)) (d : Processing) (op : Op) (p : Pause) (sparing : DestroysNothing (Some op)) (free : IsUnhindered b.post.machine (ends.Paused p))
        (does : GoesOnWith (nothing_left c) op d u w later (ends.Paused p)) (same : ahead d ≡ ahead c) (call : d.at.call ≡ c.at.call) (done : d.at.done ≡ c.at.done) where
      came : Came b u
      came = settles_came b u early (Ok tt) settles

      post : u.post ≡ b.post
      post = came_post b u came

      alone_then : IsAlone u
      alone_then = laws.stays b u alone came

      none_then : olds_named (told_word u) b.post.vcpu ≡ 0
      none_then = laws.none c.left b u early alone settles

      none_own : olds_named (told_word u) u.post.vcpu ≡ 0
      none_own = subst (λ (q : Post). olds_named (told_word u) q.vcpu ≡ 0) (sym post) none_then

      alive_then : AreAllAlive u.post.machine (told_word u)
      alive_then =
          subst (λ (q : Post). AreAllAlive q.machine (told_word u)) (sym post)
          (λ k real. serves_leaves b u (of_settle {A = Unit {0}} 0 0 (Ok tt)) _ k refl telling (settles.serves 0 0) ∙ alive k real)

      forward : GoesForward u.post.machine (told_word u) (told_word w)
      forward = laws.forward (nothing_left c) d op u w later p alone_then sparing alive_then none_own (subst (λ (q : Post). IsUnhindered q.machine (ends.Paused p)) (sym post) free) does call done

      none_behind : olds_named (told_word w) b.post.vcpu ≡ 0
      none_behind = (λ i. bit_named (forward.olds b.post.vcpu First i) + bit_named (forward.olds b.post.vcpu Second i)) ∙ none_then

      module _ (zero' : olds_named (told_word b) b.post.vcpu ≡ 0) where
        words : (q : Place) → told_word u q ≡ told_word b q
        words = laws.same c.left b u early alone settles zero'

        ranks : (f : ℕ) → rank_at (told_word u) f ≡ rank_at (told_word b) f
        ranks f = ap (λ k. rank_at (λ q. k) f) (words (Kind f))

        further : p ≡ Due → GetsFurther b.post.machine (told_word b) (told_word w)
        further due =
            let more : GetsFurther u.post.machine (told_word u) (told_word w) =
            laws.further (nothing_left c) d op u w later alone_then sparing alive_then none_own (subst (λ y. GoesOnWith (nothing_left c) op d u w later (ends.Paused y)) due does) call done in
            record {
              frame = more.frame;
              real = subst (λ (q : Post). more.frame < q.machine.frames) post more.real;
              higher = subst (λ k. k < rank_at (told_word w) more.frame) (ranks more.frame) more.higher;
            }

      paused_less : Less b.post.machine b.post.vcpu c d (ends.Paused p) (told_word b) (told_word w)
      paused_less =
          elim (cases_eq (olds_named (told_word b) b.post.vcpu) 0) [
            | inl zero' ↦
                by_ranks same (none_behind ∙ sym zero') (next_left c (Some op) d u w later (ends.Paused p) does ∙ sym (none_kept (told_word b) b.post.vcpu c.left keeps zero'))
                (λ f real. subst (λ k. k ≤ rank_at (told_word w) f) (ranks zero' f) (forward.ranks f (subst (λ (q : Post). f < q.machine.frames) (sym post) real)))
                (goes_or_waits b.post.machine p free (further zero'))
            | inr some ↦ by_olds same (let none = none_behind in omega arith)
          ]

    next_stays : (o : Option Op) (d : Processing) (u x : PortValue) (early later : List Bool) (end : TurnEnd) → Settles c.left b u early (Ok tt) → DoesNext (nothing_left c) o d u x later end → DestroysNothing o → IsUnhindered b.post.machine end →
        (w : PortValue) → EndsTurn end x w → StaysAt c d end → Less b.post.machine b.post.vcpu c d end (told_word b) (told_word w)
    next_stays None d u x early later end settles does sparing free w finish stays =
        let is = does.end_is in
        let paused = stays.end_is in
        absurd cc
    next_stays (Some op) d u x early later end settles does sparing free w finish stays =
        let p = stays.pause in
        let is = stays.end_is in
        let same : w ≡ x = subst (λ e. EndsTurn e x w) is finish in
        subst (λ e. Less b.post.machine b.post.vcpu c d e (told_word b) (told_word w)) (sym is)
        (paused_less u w early later settles d op p sparing (subst (IsUnhindered b.post.machine) is free)
        (subst (λ y. GoesOnWith (nothing_left c) op d u y later (ends.Paused p)) (sym same) (subst (λ e. GoesOnWith (nothing_left c) op d u x later e) is does)) stays.ahead stays.call stays.done)

    stays_less : (o : Option Op) (d : Processing) (x : PortValue) (answers : List Bool) (end : TurnEnd) → (does : DoesTurn c o b d x answers end) → IsAtWork does → DestroysNothing o → IsUnhindered b.post.machine end → (w : PortValue) → EndsTurn end x w → StaysAt c d end →
        Less b.post.machine b.post.vcpu c d end (told_word b) (told_word w)
    stays_less o _ _ _ _ (turning.unsettled x answers p settles) goes sparing free w finish stays =
        subst (λ y. Less b.post.machine b.post.vcpu c (record c { left = left_settled settles.course }) (ends.Paused p) (told_word b) (told_word y)) (sym finish)
        (elim (laws.less c.left b x answers p alone free keeps settles) [
          | inl falls ↦ by_olds stays.ahead falls
          | inr same ↦ by_left stays.ahead same.0 same.1
        ])
    stays_less o _ _ _ _ (turning.settled u x d early answers end settles does) goes sparing free w finish stays = next_stays o d u x early answers end settles does sparing free w finish stays
    stays_less o _ _ _ _ (turning.dying life x d end dead dies) goes sparing free w finish stays = absurd goes

-- ---- all of it
module _ (laws : TurnLaws) (c d : Processing) (end : TurnEnd) (v w : PortValue) (answers : List Bool) (alone : IsAlone v) (works : c.retired ≡ false) (within : IsWithin c) (keeps : KeepsLeft (told_word v) v.post.vcpu c.left)
    (alive : AreAllAlive v.post.machine (told_word v)) (sparing : DestroysNothing (next_of c)) (free : IsUnhindered v.post.machine end) (turn : IsTurn c d end v w answers) where
  begun : Came v turn.begun
  begun = begins_came v turn.begun turn.begins

  at_begun : turn.begun.post ≡ v.post
  at_begun = came_post v turn.begun begun

  alone_begun : IsAlone turn.begun
  alone_begun = laws.stays v turn.begun alone begun

  kept : (q : Place) → q ≢ Clock → q ≢ flushed_of v.post.vcpu → told_word turn.begun q ≡ told_word v q
  kept = begins_leaves v turn.begun c.domain turn.run turn.life turn.begins (ap is_some alone.telling)

  goes : IsAtWork turn.does
  goes = at_work turn.run turn.does (subst (GoesBy turn.does turn.run) (begins_alive v turn.begun c.domain turn.run turn.life turn.begins (ap is_some alone.telling) alive) turn.goes)

  spared : IsSparedIn v.post.machine (next_of c) end
  spared = spared_by v.post.machine (job_next (next_of c)) end sparing free

  kept_old : (k : ℕ) → k < 5 → told_word turn.begun (Vcpu v.post.vcpu k) ≡ told_word v (Vcpu v.post.vcpu k)
  kept_old k low = kept (Vcpu v.post.vcpu k) (apart (Vcpu v.post.vcpu k) Clock (λ same. absurd (omega arith))) (apart (Vcpu v.post.vcpu k) (flushed_of v.post.vcpu) (λ same. absurd (omega arith)))

  keeps_begun : KeepsLeft (told_word turn.begun) turn.begun.post.vcpu c.left
  keeps_begun =
      subst (λ (q : Post). KeepsLeft (told_word turn.begun) q.vcpu c.left) (sym at_begun)
      (kept_as (told_word v) (told_word turn.begun) v.post.vcpu c.left (kept_old 2 (omega arith)) keeps)

  alive_begun : AreAllAlive turn.begun.post.machine (told_word turn.begun)
  alive_begun =
      subst (λ (q : Post). AreAllAlive q.machine (told_word turn.begun)) (sym at_begun)
      (λ k real. kept (Life k) (λ same. absurd cc) (λ same. absurd cc) ∙ alive k real)

  free_begun : IsUnhindered turn.begun.post.machine end
  free_begun = subst (λ (q : Post). IsUnhindered q.machine end) (sym at_begun) free

  olds_begun : olds_named (told_word turn.begun) v.post.vcpu ≡ olds_named (told_word v) v.post.vcpu
  olds_begun = λ i. bit_named (kept_old 2 (omega arith) i) + bit_named (kept_old 3 (omega arith) i)

  ranks_begun : (f : ℕ) → rank_at (told_word turn.begun) f ≡ rank_at (told_word v) f
  ranks_begun f = ap (λ k. rank_at (λ q. k) f) (kept (Kind f) (λ same. absurd cc) (λ same. absurd cc))

  less : Less v.post.machine v.post.vcpu c d end (told_word v) (told_word w)
  less =
      elim (laws.gets c d end v w answers within works spared turn) [
        | inl falls ↦ by_ahead falls
        | inr stays ↦
            less_as v.post.machine v.post.vcpu c d end (told_word v) (told_word turn.begun) (told_word w) olds_begun ranks_begun
            (subst (λ (q : Post). Less q.machine q.vcpu c d end (told_word turn.begun) (told_word w)) at_begun
            (stays_less laws c turn.begun alone_begun works keeps_begun alive_begun (next_of c) d turn.worked answers end turn.does goes sparing free_begun w turn.ends stays))
      ]

  retired : d.retired ≡ true → (told_word w (run_of v.post.vcpu) ≢ 0) × (next_of d ≡ None)
  retired is =
      subst (λ (q : Post). (told_word w (run_of q.vcpu) ≢ 0) × (next_of d ≡ None)) at_begun
      (retires laws c turn.begun alone_begun works keeps_begun (next_of c) d turn.worked answers end refl turn.does goes w turn.ends is)

  pub leaves : TurnLeaves v.post.machine v.post.vcpu c d end (told_word v) (told_word w)
  leaves =
      record {
        others = laws.others c d end v w answers alone sparing turn;
        within = laws.within c d end v w answers within works spared turn;
        left = subst (λ (q : Post). KeepsLeft (told_word w) q.vcpu d.left) at_begun (keeps_behind laws c turn.begun alone_begun works keeps_begun (next_of c) d turn.worked answers end free_begun turn.does goes w turn.ends);
        stopped = λ is. (retired is).0;
        ended = λ is. (retired is).1;
        less = less;
      }
