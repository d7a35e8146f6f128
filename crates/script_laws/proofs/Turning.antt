-- Turns under every gate come to the plain script: from what the parts of a turn come to.
use Rattle.std.proofs.Common.{◌≡◌, ◌≢◌, ℕ, suc, ◌+◌, Bool, true, false, List, [], ◌∷◌, ◌++◌, length, Option, Some, None, Result, Ok, Err, refl, sym, ap, ◌∙◌, subst, arith}
use Rattle.std.specs.Prelude.{drop, slice_get}
use Rattle.xp_words.specs.declared.ops.Op.{Op}
use Rattle.xp_words.specs.declared.reply.LogLine.{LogLine}
use Rattle.xp_words.specs.declared.reply.LogLine.TheVariants as lines
use Rattle.xp_words.specs.declared.reply.Pause.{Pause}
use Rattle.xp_words.specs.declared.reply.Refusal.TheVariants.{Dying}
use Rattle.xp_words.specs.declared.reply.Reply.{Reply}
use Rattle.xp_words.specs.declared.reply.Stop.{Stop}
use Rattle.xp_words.specs.declared.reply.Stop.TheVariants.{Refused, Paused}
use Rattle.xp_board.specs.Told.{PortValue}
use Rattle.step_maker.specs.Moves.{Came}
use Rattle.vcpu_turn.specs.Calls.{WentBy}
use Rattle.vcpu_turn.specs.Cpus.{Processing, after_turn, begun, done_at, end_of, job_of, next_of, nothing_left, reply_of}
use Rattle.vcpu_turn.specs.Settling.{Settles}
use Rattle.vcpu_turn.specs.Turning.{Begins, DiesNext, DoesNext, DoesTurn, EndsTurn, GoesBy, IsStop, IsTurn}
use Rattle.vcpu_turn.specs.declared.cpu.Progress.{Progress}
use Rattle.vcpu_turn.specs.Turning as turning
use Rattle.vcpu_turn.proofs.CallsBringing.{by_came}
use Rattle.vcpu_turn.proofs.TurnSteps.{begun_came, ends_came, stop_came, turn_came}
use Rattle.vcpu_turn.specs.declared.cpu.TurnEnd.{TurnEnd}
use Rattle.vcpu_turn.specs.declared.cpu.TurnEnd.TheVariants as ends
use Rattle.script_laws.specs.Turns.{IsLog, Turned}
use Rattle.script_laws.specs.Turns as turns
use Rattle.std.proofs.lemmas.List.{append-nil, append_assoc, length-append}
use Rattle.own_cache.proofs.Listing.{opened}
use Rattle.script_laws.proofs.Lists.{appended, none_left}
use Rattle.script_laws.specs.Plain.{PlainScript}

-- ---- the relation and the lemmas of operations
-- `Logs n made a`: operation number n logged these lines, its reply the last, and they are the answer a. `Fair`: what is said of a port and holds at the earlier ones, too. Between
-- operations `Owes v s`: what is settled first leaves s; and `Clean v s` where nothing is to be settled, `Stopped v s` where the vCPU is stopped, too. Within one `Going op n at made v a`: all that is left
-- of operation number n, which has come so far and logged these lines, comes from v to a.
module _ {Solo Answer Answered : Type 0} (plain : PlainScript Op Solo Answer Answered) (d : ℕ) (Logs : ℕ → List LogLine → Answer → Type 0) (Fair : PortValue → Type 0) (Owes Clean Stopped : PortValue → Solo → Type 0) (Going Ready : Op → ℕ → Progress → List LogLine → PortValue → Answered → Type 0) where
  -- the answer of the operation is logged, and what is owed is what it leaves
  pub record AnswerComes (n : ℕ) (made : List LogLine) (reply : Reply) (a : Answered) (w : PortValue) : Type 0 where
    pub logs : Logs n (made ++ lines.Answer n 0 reply ∷ []) (plain.answer a)
    pub owes : Owes w (plain.left a)

  -- what a turn's work on an operation comes to, which logged `new` before its answer
  abbrev pub WorkComes : Op → ℕ → Progress → List LogLine → PortValue → Answered → Result ℕ Stop → Type 0
  WorkComes op n to made w a (Ok value) = AnswerComes n made (reply_of to.done value None) a w
  WorkComes op n to made w a (Err (Refused x)) = AnswerComes n made (reply_of to.done 0 (Some x)) a w
  WorkComes op n to made w a (Err (Paused p)) = Going op n to made w a

  -- What the parts of a turn come to.
  pub record Lemmas : Type 0 where
    -- an operation begins where another one ended
    pub begins_op : (op : Op) (k : ℕ) (v : PortValue) (s : Solo) → Owes v s → Going op (k + 1) begun [] v (plain.alone k op s)
    -- the beginning of a turn
    pub begin : (op : Op) (n : ℕ) (at : Progress) (made : List LogLine) (v w : PortValue) (a : Answered) (run life : ℕ) → Begins v w d run life → Fair w → Going op n at made v a → Going op n at made w a
    pub begin_owes : (v w : PortValue) (s : Solo) (run life : ℕ) → Begins v w d run life → Fair w → Owes v s → Owes w s
    -- what is settled first, paused or done
    pub settle : (op : Op) (n : ℕ) (at : Progress) (made : List LogLine) (below : Option ℕ) (v w : PortValue) (a : Answered) (asked : List Bool) (e : Stop) → Settles below v w asked (Err e) → Fair w → Going op n at made v a → Going op n at made w a
    pub ready : (op : Op) (n : ℕ) (at : Progress) (made : List LogLine) (below : Option ℕ) (v w : PortValue) (a : Answered) (asked : List Bool) → Settles below v w asked (Ok tt) → Fair w → Going op n at made v a → Ready op n at made w a
    pub settle_owes : (below : Option ℕ) (v w : PortValue) (s : Solo) (asked : List Bool) (r : Result (Unit {0}) Stop) → Settles below v w asked r → Fair w → Owes v s → Owes w s
    pub clean : (below : Option ℕ) (v w : PortValue) (s : Solo) (asked : List Bool) → Settles below v w asked (Ok tt) → Fair w → Owes w s → Clean w s
    -- the work on an operation
    pub work : (op : Op) (n : ℕ) (at to : Progress) (made log log' : List LogLine) (v w : PortValue) (a : Answered) (asked : List Bool) (r : Result ℕ Stop) → WentBy d (job_of op) n v at to w log log' asked r → Fair w → Ready op n at made v a →
        (new : List LogLine) × (log' ≡ log ++ new) × WorkComes op n to (made ++ new) w a r
    -- the end of a turn: an answer, or the script's end
    pub cut : (v w : PortValue) (s : Solo) (reply : Reply) → EndsTurn (ends.Answered reply) v w → Fair w → Owes v s → Owes w s
    pub stop : (v w : PortValue) (s : Solo) → IsStop v w → Fair w → Clean v s → Stopped w s
    -- the domain was found dying as the turn began
    pub dies : (op : Op) (n : ℕ) (at : Progress) (made : List LogLine) (v u w : PortValue) (a : Answered) (run life : ℕ) → Begins v u d run life → life ≢ 0 → IsStop u w → Fair w → Going op n at made u a →
        AnswerComes n made (reply_of (done_at (job_of op) at) 0 (Some (Dying d life))) a w
    pub dies_last : (v u w : PortValue) (s : Solo) (run life : ℕ) → Begins v u d run life → life ≢ 0 → IsStop u w → Fair w → Owes u s → Stopped w s
    -- what is fair behind steps was fair before them
    pub back : (v w : PortValue) → Came v w → Fair w → Fair v

  -- `all` and `last`: what the whole script answers, and leaves
  module _ (l : Lemmas) (all : List Answer) (last : Solo) where
    -- what is left of a script behind these answers, of which so many operations are answered: from the one that stands next to the end
    abbrev pub Relation : Type 1
    Relation = Op → ℕ → Progress → List LogLine → PortValue → Answered → Type 0

    abbrev pub NextIn : Relation → Option Op → List Op → ℕ → Progress → List LogLine → PortValue → List Answer → Type 0
    NextIn G None rest k at made v before = (s : Solo) × Owes v s × (made ≡ []) × (before ≡ all) × (s ≡ last)
    NextIn G (Some op) rest k at made v before =
        (a : Answered) × G op (k + 1) at made v a × (before ++ plain.answer a ∷ plain.answers rest (suc k) (plain.left a) ≡ all) × (plain.ends rest (suc k) (plain.left a) ≡ last)

    -- between turns, of a vCPU that goes on: of its log a part is that of the answers so far, and the rest was logged by the operation that stands next
    pub record StandsIn (G : Relation) (c : Processing) (v : PortValue) : Type 0 where
      pub domain : c.domain ≡ d
      pub before : List Answer
      pub counted : length before ≡ c.answered
      pub closed : List LogLine
      pub made : List LogLine
      pub parts : c.log ≡ closed ++ made
      pub log : IsLog Logs closed before
      pub next : NextIn G (next_of c) (drop (suc c.answered) c.script) c.answered c.at made v before

    abbrev pub Stands : Processing → PortValue → Type 0
    Stands c v = StandsIn Going c v

    abbrev pub NextComes : Option Op → List Op → ℕ → Progress → List LogLine → PortValue → List Answer → Type 0
    NextComes o rest k at made v before = NextIn Going o rest k at made v before

    -- of one that is retired
    pub record Ends (c : Processing) (v : PortValue) : Type 0 where
      pub log : IsLog Logs c.log all
      pub stopped : Stopped v last

    abbrev pub StandsBy : Bool → Processing → PortValue → Type 0
    StandsBy true c v = Ends c v
    StandsBy false c v = Stands c v

    -- ---- an operation begins
    begins_at : (script : List Op) (k : ℕ) (o : Option Op) (v : PortValue) (s : Solo) (before : List Answer) → slice_get script k ≡ o → Owes v s → before ++ plain.answers (drop k script) k s ≡ all → plain.ends (drop k script) k s ≡ last →
        NextComes o (drop (suc k) script) k begun [] v before
    begins_at script k None v s before is owes answers left =
        let none = none_left script k is in (
          s,
          owes,
          refl,
          sym (append-nil before) ∙ (ap (λ xs. before ++ xs) (sym (ap (λ ops. plain.answers ops k s) none ∙ plain.no_answers k s)) ∙ answers),
          sym (plain.no_end k s) ∙ (sym (ap (λ ops. plain.ends ops k s) none) ∙ left),
        )
    begins_at script k (Some op) v s before is owes answers left =
        let more = opened script k op is in (
          plain.alone k op s,
          l.begins_op op k v s owes,
          ap (λ xs. before ++ xs) (sym (ap (λ ops. plain.answers ops k s) more ∙ plain.more_answers op (drop (suc k) script) k s)) ∙ answers,
          sym (ap (λ ops. plain.ends ops k s) more ∙ plain.more_ends op (drop (suc k) script) k s) ∙ left,
        )

    -- ---- an operation is answered
    module _ (c : Processing) (of : c.domain ≡ d) (before : List Answer) (counted : length before ≡ c.answered) (closed made : List LogLine) (log : IsLog Logs closed before) (a : Answered)
        (answers : before ++ plain.answer a ∷ plain.answers (drop (suc c.answered) c.script) (suc c.answered) (plain.left a) ≡ all) (left : plain.ends (drop (suc c.answered) c.script) (suc c.answered) (plain.left a) ≡ last) where
      answered_stands : (to : Progress) (log' : List LogLine) (reply : Reply) (x : PortValue) → log' ≡ closed ++ made → AnswerComes (c.answered + 1) made reply a x → Stands (after_turn c to log' (ends.Answered reply)) x
      answered_stands to log' reply x parts comes =
          let line = lines.Answer (c.answered + 1) 0 reply in
          let next : suc c.answered ≡ c.answered + 1 = omega arith in
          record {
            domain = of;
            before = before ++ plain.answer a ∷ [];
            counted = length-append before (plain.answer a ∷ []) ∙ ap (λ k. k + 1) counted;
            closed = log' ++ line ∷ [];
            made = [];
            parts = sym (append-nil (log' ++ line ∷ []));
            log = subst (λ ls. IsLog Logs ls (before ++ plain.answer a ∷ [])) (sym (ap (λ ls. ls ++ line ∷ []) parts ∙ append_assoc closed made (line ∷ [])))
                (turns.IsLog.more closed (made ++ line ∷ []) before (plain.answer a) log (subst (λ k. Logs (k + 1) (made ++ line ∷ []) (plain.answer a)) (sym counted) comes.logs));
            next = begins_at c.script (c.answered + 1) (slice_get c.script (c.answered + 1)) x (plain.left a) (before ++ plain.answer a ∷ []) refl comes.owes
                (ap (λ k. (before ++ plain.answer a ∷ []) ++ plain.answers (drop k c.script) k (plain.left a)) (sym next) ∙ (append_assoc before (plain.answer a ∷ []) (plain.answers (drop (suc c.answered) c.script) (suc c.answered) (plain.left a)) ∙ answers))
                (ap (λ k. plain.ends (drop k c.script) k (plain.left a)) (sym next) ∙ left);
          }

      paused_stands : (op : Op) (to : Progress) (log' : List LogLine) (p : Pause) (x : PortValue) → next_of c ≡ Some op → log' ≡ closed ++ made → Going op (c.answered + 1) to made x a → Stands (after_turn c to log' (ends.Paused p)) x
      paused_stands op to log' p x is parts going =
          record {
            domain = of;
            before = before;
            counted = counted;
            closed = closed;
            made = made;
            parts = parts;
            log = log;
            next = subst (λ o. NextComes o (drop (suc c.answered) c.script) c.answered to made x before) (sym is) (a, going, answers, left);
          }

    -- ---- one part of a turn behind another
    -- what stands next goes along, and so does what is owed
    moved : (G : Relation) (o : Option Op) (rest : List Op) (k : ℕ) (at : Progress) (made : List LogLine) (v w : PortValue) (before : List Answer) → ((op : Op) (a : Answered) → Going op (k + 1) at made v a → G op (k + 1) at made w a) → ((s : Solo) → Owes v s → Owes w s) →
        NextComes o rest k at made v before → NextIn G o rest k at made w before
    moved G None rest k at made v w before f g (s, owes, none, answers, left) = (s, g s owes, none, answers, left)
    moved G (Some op) rest k at made v w before f g (a, going, answers, left) = (a, f op a going, answers, left)

    stands_moved : (G : Relation) (c : Processing) (v w : PortValue) (left : Option ℕ) → ((op : Op) (a : Answered) (made : List LogLine) → Going op (c.answered + 1) c.at made v a → G op (c.answered + 1) c.at made w a) → ((s : Solo) → Owes v s → Owes w s) →
        Stands c v → StandsIn G (record c { left = left }) w
    stands_moved G c v w left f g s =
        record {
          domain = s.domain;
          before = s.before;
          counted = s.counted;
          closed = s.closed;
          made = s.made;
          parts = s.parts;
          log = s.log;
          next = moved G (next_of c) (drop (suc c.answered) c.script) c.answered c.at s.made v w s.before (λ op a going. f op a s.made going) g s.next;
        }

    by_false : (e : Processing) (u : PortValue) → e.retired ≡ false → Stands e u → StandsBy e.retired e u
    by_false e u off s = subst (λ b. StandsBy b e u) (sym off) s

    kept_on : (c : Processing) (to : Progress) (log : List LogLine) (done : ℕ) (r : Result ℕ Stop) → c.retired ≡ false → (after_turn c to log (end_of done r)).retired ≡ false
    kept_on c to log done (Ok value) on = on
    kept_on c to log done (Err (Refused y)) on = on
    kept_on c to log done (Err (Paused p)) on = on

    cut_behind : (n : ℕ) (made : List LogLine) (reply : Reply) (a : Answered) (u x : PortValue) → EndsTurn (ends.Answered reply) u x → Fair x → AnswerComes n made reply a u → AnswerComes n made reply a x
    cut_behind n made reply a u x end fair comes = record { logs = comes.logs; owes = l.cut u x (plain.left a) reply end fair comes.owes }

    -- the script is at its end: all is logged
    all_logged : (c : Processing) (v : PortValue) (G : Relation) (s : StandsIn G c v) → s.made ≡ [] → s.before ≡ all → IsLog Logs c.log all
    all_logged c v G s none whole = subst (λ ys. IsLog Logs c.log ys) whole (subst (λ ls. IsLog Logs ls s.before) (sym (s.parts ∙ (ap (λ ls. s.closed ++ ls) none ∙ append-nil s.closed))) s.log)

    -- ---- the next operation goes on, or there is none
    module _ (c : Processing) (v : PortValue) (on : c.retired ≡ false) (s : StandsIn Ready c v) where
      works_to : (op : Op) → next_of c ≡ Some op → (a : Answered) → s.before ++ plain.answer a ∷ plain.answers (drop (suc c.answered) c.script) (suc c.answered) (plain.left a) ≡ all → plain.ends (drop (suc c.answered) c.script) (suc c.answered) (plain.left a) ≡ last →
          (to : Progress) (log' new : List LogLine) (r : Result ℕ Stop) (u x : PortValue) → log' ≡ c.log ++ new → WorkComes op (c.answered + 1) to (s.made ++ new) u a r → EndsTurn (end_of to.done r) u x → Fair x → Stands (after_turn c to log' (end_of to.done r)) x
      works_to op is a answers left to log' new (Ok value) u x more comes end fair =
          answered_stands c s.domain s.before s.counted s.closed (s.made ++ new) s.log a answers left to log' (reply_of to.done value None) x (more ∙ appended s.closed s.made c.log new s.parts)
          (cut_behind (c.answered + 1) (s.made ++ new) (reply_of to.done value None) a u x end fair comes)
      works_to op is a answers left to log' new (Err (Refused y)) u x more comes end fair =
          answered_stands c s.domain s.before s.counted s.closed (s.made ++ new) s.log a answers left to log' (reply_of to.done 0 (Some y)) x (more ∙ appended s.closed s.made c.log new s.parts)
          (cut_behind (c.answered + 1) (s.made ++ new) (reply_of to.done 0 (Some y)) a u x end fair comes)
      works_to op is a answers left to log' new (Err (Paused p)) u x more comes end fair =
          subst (Stands (after_turn c to log' (ends.Paused p))) (sym end)
          (paused_stands c s.domain s.before s.counted s.closed (s.made ++ new) s.log a answers left op to log' p u is (more ∙ appended s.closed s.made c.log new s.parts) comes)

      went_by : (op : Op) → next_of c ≡ Some op → NextIn Ready (Some op) (drop (suc c.answered) c.script) c.answered c.at s.made v s.before → (e : Processing) (u x : PortValue) (asked : List Bool) (end : TurnEnd) → DoesNext c (Some op) e v u asked end → EndsTurn end u x → Fair x → StandsBy e.retired e x
      went_by op is (a, going, answers, left) e u x asked end g ended fair =
          let ended2 = subst (λ y. EndsTurn y u x) g.end_is ended in
          let went = subst (λ y. WentBy y (job_of op) (c.answered + 1) v c.at g.to u c.log g.log asked g.answer) s.domain g.went in
          let comes = l.work op (c.answered + 1) c.at g.to s.made c.log g.log v u a asked g.answer went (l.back u x (ends_came (end_of g.to.done g.answer) u x ended2) fair) going in
          let e_is : e ≡ after_turn c g.to g.log (end_of g.to.done g.answer) = g.cpu ∙ ap (after_turn c g.to g.log) g.end_is in
          subst (λ k. StandsBy k.retired k x) (sym e_is)
          (by_false _ x (kept_on c g.to g.log g.to.done g.answer on) (works_to op is a answers left g.to g.log comes.0 g.answer u x comes.1 comes.2 ended2 fair))

      retired_by : NextIn Ready None (drop (suc c.answered) c.script) c.answered c.at s.made v s.before → ((t : Solo) → Fair v → Owes v t → Clean v t) → (e : Processing) (u x : PortValue) (asked : List Bool) (end : TurnEnd) → DoesNext c None e v u asked end → EndsTurn end u x → Fair x → StandsBy e.retired e x
      retired_by (t, owes, none, answers, left) clean e u x asked end g ended fair =
          let stopped : IsStop v x = subst (λ y. IsStop y x) g.no_step (subst (λ y. EndsTurn y u x) g.end_is ended) in
          let e_ends : Ends (record c { retired = true }) x = record { log = all_logged c v Ready s none answers; stopped = subst (Stopped x) left (l.stop v x t stopped fair (clean t (l.back v x (stop_came v x stopped) fair) owes)) } in
          subst (λ k. StandsBy k.retired k x) (sym g.cpu) e_ends

    next_by : (c : Processing) (v : PortValue) → c.retired ≡ false → (s : StandsIn Ready c v) → ((t : Solo) → Fair v → Owes v t → Clean v t) → (o : Option Op) → next_of c ≡ o → (e : Processing) (u x : PortValue) (asked : List Bool) (end : TurnEnd) → DoesNext c o e v u asked end → EndsTurn end u x → Fair x → StandsBy e.retired e x
    next_by c v on s clean None is e u x asked end g ended fair = retired_by c v on s (subst (λ o. NextIn Ready o (drop (suc c.answered) c.script) c.answered c.at s.made v s.before) is s.next) clean e u x asked end g ended fair
    next_by c v on s clean (Some op) is e u x asked end g ended fair = went_by c v on s op is (subst (λ o. NextIn Ready o (drop (suc c.answered) c.script) c.answered c.at s.made v s.before) is s.next) e u x asked end g ended fair

    -- ---- the domain was found dying
    dies_by : (c : Processing) (o : Option Op) → next_of c ≡ o → c.retired ≡ false → (v u : PortValue) (run life : ℕ) → Begins v u d run life → life ≢ 0 → (s : Stands c u) → NextComes o (drop (suc c.answered) c.script) c.answered c.at s.made u s.before →
        (e : Processing) (w x : PortValue) (end : TurnEnd) → DiesNext life c o e u w end → EndsTurn end w x → Fair x → StandsBy e.retired e x
    dies_by c None is on v u run life began dead s (t, owes, none, answers, left) e w x end g ended fair =
        let stopped : IsStop u x = subst (λ y. IsStop y x) g.0 (subst (λ y. EndsTurn y w x) g.1 ended) in
        let e_ends : Ends (record c { retired = true }) x = record { log = all_logged c u Going s none answers; stopped = subst (Stopped x) left (l.dies_last v u x t run life began dead stopped fair owes) } in
        subst (λ k. StandsBy k.retired k x) (sym g.2) e_ends
    dies_by c (Some op) is on v u run life began dead s (a, going, answers, left) e w x end g ended fair =
        let reply = reply_of (done_at (job_of op) c.at) 0 (Some (Dying c.domain life)) in
        let ended2 = subst (λ y. EndsTurn y w x) g.1 ended in
        let fair_w = l.back w x (ends_came (ends.Answered reply) w x ended2) fair in
        let comes = subst (λ y. AnswerComes (c.answered + 1) s.made (reply_of (done_at (job_of op) c.at) 0 (Some (Dying y life))) a w) (sym s.domain) (l.dies op (c.answered + 1) c.at s.made v u w a run life began dead g.0 fair_w going) in
        let e_is : e ≡ after_turn c c.at c.log (ends.Answered reply) = g.2 ∙ ap (after_turn c c.at c.log) g.1 in
        subst (λ k. StandsBy k.retired k x) (sym e_is)
        (by_false (after_turn c c.at c.log (ends.Answered reply)) x on (answered_stands c s.domain s.before s.counted s.closed s.made s.log a answers left c.at c.log reply x s.parts (cut_behind (c.answered + 1) s.made reply a w x ended2 fair comes)))

    -- ---- a turn
    next_back : (c e : Processing) (o : Option Op) (v u : PortValue) (asked : List Bool) (end : TurnEnd) → DoesNext c o e v u asked end → Fair u → Fair v
    next_back c e None v u asked end g fair = subst Fair g.no_step fair
    next_back c e (Some op) v u asked end g fair = l.back v u (by_came c.domain (c.answered + 1) v c.at g.to u c.log g.log asked g.answer (job_of op) g.went) fair

    does_by : (c : Processing) (v b : PortValue) (e : Processing) (u x : PortValue) (run life : ℕ) (asked : List Bool) (end : TurnEnd) → Begins v b d run life → (does : DoesTurn c (next_of c) b e u asked end) → GoesBy does run life → EndsTurn end u x → Fair x → c.retired ≡ false → Stands c b → StandsBy e.retired e x
    does_by c v b _ _ x run life _ _ began (turning.DoesTurn.unsettled u asked p settles) goes ended fair on s =
        let fair_u = subst Fair ended fair in
        by_false _ x on (subst (Stands _) (sym ended) (stands_moved Going c b u _
        (λ op a made going. l.settle op (c.answered + 1) c.at made c.left b u a asked (Paused p) settles fair_u going)
        (λ t owes. l.settle_owes c.left b u t asked (Err (Paused p)) settles fair_u owes) s))
    does_by c v b _ _ x run life _ _ began (turning.DoesTurn.settled f u e early asked end settles does) goes ended fair on s =
        let fair_f = next_back (nothing_left c) e (next_of c) f u asked end does (l.back u x (ends_came end u x ended) fair) in
        next_by (nothing_left c) f on
        (stands_moved Ready c b f None
        (λ op a made going. l.ready op (c.answered + 1) c.at made c.left b f a early settles fair_f going)
        (λ t owes. l.settle_owes c.left b f t early (Ok tt) settles fair_f owes) s)
        (λ t fair_t owes. l.clean c.left b f t early settles fair_t owes) (next_of c) refl e u x asked end does ended fair
    does_by c v b _ _ x run life _ _ began (turning.DoesTurn.dying found u e end dead dies) goes ended fair on s =
        dies_by c (next_of c) refl on v b run found (subst (λ y. Begins v b d run y) (sym goes) began) dead s s.next e u x end dies ended fair

    pub turn_by : (c e : Processing) (end : TurnEnd) (v x : PortValue) (asked : List Bool) → IsTurn c e end v x asked → Fair x → c.retired ≡ false → Stands c v → StandsBy e.retired e x
    turn_by c e end v x asked t fair on s =
        let began = subst (λ y. Begins v t.begun y t.run t.life) s.domain t.begins in
        let fair_b = l.back t.begun x (begun_came c e end v x asked t) fair in
        does_by c v t.begun e t.worked x t.run t.life asked end began t.does t.goes t.ends fair on
        (stands_moved Going c v t.begun c.left
        (λ op a made going. l.begin op (c.answered + 1) c.at made v t.begun a t.run t.life began fair_b going)
        (λ y owes. l.begin_owes v t.begun y t.run t.life began fair_b owes) s)

    -- ---- turns
    stands_by : (c : Processing) (v : PortValue) → c.retired ≡ false → StandsBy c.retired c v → Stands c v
    stands_by c v off s = subst (λ b. StandsBy b c v) off s

    turned_by : (c : Processing) (v : PortValue) (e : Processing) (x : PortValue) → Turned c v e x → Fair x → StandsBy c.retired c v → StandsBy e.retired e x
    turned_by c v _ _ turns.Turned.none fair s = s
    turned_by c v _ _ (turns.Turned.more b e u x end asked before on turn) fair s =
        turn_by b e end u x asked turn fair on (stands_by b u on (turned_by c v b u before (l.back u x (turn_came b e end u x asked turn) fair) s))

    -- a script that is at its beginning
    stands_first : (c : Processing) (v : PortValue) (s : Solo) → c.domain ≡ d → c.log ≡ [] → c.answered ≡ 0 → c.at ≡ begun → Owes v s → plain.answers c.script 0 s ≡ all → plain.ends c.script 0 s ≡ last → Stands c v
    stands_first c v s of log none at owes answers left =
        record {
          domain = of;
          before = [];
          counted = sym none;
          closed = [];
          made = [];
          parts = log;
          log = turns.IsLog.none;
          next = subst (λ k. NextComes (slice_get c.script k) (drop (suc k) c.script) k c.at [] v []) (sym none)
              (subst (λ to. NextComes (slice_get c.script 0) (drop 1 c.script) 0 to [] v []) (sym at) (begins_at c.script 0 (slice_get c.script 0) v s [] refl owes answers left));
        }

    -- and at its end, however many turns it took
    pub ended_by : (c : Processing) (v : PortValue) (e : Processing) (x : PortValue) (s : Solo) → Turned c v e x → Fair x → c.domain ≡ d → c.log ≡ [] → c.answered ≡ 0 → c.at ≡ begun → c.retired ≡ false → Owes v s → plain.answers c.script 0 s ≡ all → plain.ends c.script 0 s ≡ last →
        e.retired ≡ true → Ends e x
    ended_by c v e x s turned fair of log none at on owes answers left retired =
        subst (λ b. StandsBy b e x) retired (turned_by c v e x turned fair (by_false c v on (stands_first c v s of log none at owes answers left)))

-- ---- from the first turn to the last
-- The log is that of the plain script's answers, and the port stands to what that leaves.
pub script_by : {Solo Answer Answered : Type 0} (plain : PlainScript Op Solo Answer Answered) (d : ℕ) (Logs : ℕ → List LogLine → Answer → Type 0) (Fair : PortValue → Type 0) (Owes Clean Stopped : PortValue → Solo → Type 0) (Going Ready : Op → ℕ → Progress → List LogLine → PortValue → Answered → Type 0) →
    Lemmas plain d Logs Fair Owes Clean Stopped Going Ready → (c e : Processing) (v x : PortValue) (s : Solo) → Turned c v e x → Fair x → c.domain ≡ d → c.log ≡ [] → c.answered ≡ 0 → c.at ≡ begun → c.retired ≡ false → Owes v s → e.retired ≡ true →
    IsLog Logs e.log (plain.answers c.script 0 s) × Stopped x (plain.ends c.script 0 s)
script_by plain d Logs Fair Owes Clean Stopped Going Ready l c e v x s turned fair of log none at on owes retired =
    let k = ended_by plain d Logs Fair Owes Clean Stopped Going Ready l (plain.answers c.script 0 s) (plain.ends c.script 0 s) c v e x s turned fair of log none at on owes refl refl retired in
    (k.log, k.stopped)
