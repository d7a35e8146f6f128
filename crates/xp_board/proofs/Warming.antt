-- A vCPU that has flushed since it came to its processor stays so: only a step at its own run word makes it cold again, and the hand notes that one.
use Rattle.std.proofs.Common.{◌≡◌, ℕ, ◌+◌, ◌≤◌, ◌==◌, not, nat_lt, if◌then◌else◌, Bool, true, false, List, [], length, Option, Some, None, refl, sym, ap, ◌∙◌, subst, arith}
use Rattle.xp_words.specs.Entries.{is_bit, frame_of}
use Rattle.xp_words.specs.Machine.{Machine}
use Rattle.xp_words.specs.declared.place.Place.{Place}
use Rattle.xp_words.specs.declared.place.Place.TheVariants.{Vcpu, Cell}
use Rattle.xp_board.specs.declared.holdings.Holdings.{Holdings}
use Rattle.xp_board.specs.declared.holdings.Made.{Made}
use Rattle.xp_board.specs.declared.holdings.Walk.{Walk}
use Rattle.xp_board.specs.declared.step.Act.{Act}
use Rattle.xp_board.specs.declared.step.Act.TheVariants.{Cas, Store}
use Rattle.xp_board.specs.declared.step.Mark.{Mark}
use Rattle.xp_board.specs.declared.step.Mark.TheVariants as marks
use Rattle.xp_board.specs.declared.step.StepKind.{StepKind}
use Rattle.xp_board.specs.declared.step.StepKind.TheVariants as steps
use Rattle.xp_board.specs.Acts.{left_by}
use Rattle.xp_board.specs.After.{after_act, after_move}
use Rattle.xp_board.specs.FillSteps as fill
use Rattle.xp_board.specs.Marks.{after_mark}
use Rattle.xp_board.specs.RunSteps.{after_run}
use Rattle.xp_board.specs.TouchSteps as touch
use Rattle.xp_board.proofs.Noted.{Parts, act_aside, learned_aside, mark_steps, moves_walk, recorded_aside, shed_aside}

-- whether the vCPU is cold, and when its last Run step was made
pub record Warmth : Type 0 where
  pub cold : Bool
  pub ran : ℕ

abbrev pub warmth : Holdings → Warmth
warmth h = record { cold = h.cold; ran = h.ran }

-- k is as warm as h, or a Run step was made since
pub record StaysWarm (h k : Holdings) : Type 0 where
  pub later : h.ran ≤ length h.steps → h.ran ≤ k.ran
  pub warm : h.ran ≤ length h.steps → k.ran ≡ h.ran → h.cold ≡ false → k.cold ≡ false

abbrev of_parts : (q : Parts) → Warmth
of_parts q = record { cold = q.cold; ran = q.ran }

either : (t : Bool) (a b : Holdings) (q : Warmth) → warmth a ≡ q → warmth b ≡ q → warmth (if t then a else b) ≡ q
either true a b q x y = x
either false a b q x y = y

marked : (n : Machine) (mark : Option Mark) (h : Holdings) → warmth (after_mark n mark h) ≡ warmth h
marked n None h = refl
marked n (Some (marks.Record f upto)) h = ap (λ (q : Parts). of_parts q) (recorded_aside n f upto h)
marked n (Some (marks.Shed f upto)) h = ap (λ (q : Parts). of_parts q) (shed_aside n f upto h)
marked n (Some (marks.Forget page)) h = refl
marked n (Some (marks.Cut call)) h = refl
marked n (Some marks.Turn) h = refl
marked n (Some (marks.Walk write)) h = refl

below : (n : Machine) (walk : Walk) (w : ℕ) (h : Holdings) → warmth (fill.descended n walk w h) ≡ warmth h
below n walk w h = either (not (nat_lt (frame_of w) n.frames)) _ _ (warmth h) refl (either (fill.level_of walk == 1) _ _ (warmth h) refl refl)

walked : (n : Machine) (f i w : ℕ) (o : Option Walk) (h : Holdings) → warmth (fill.walked_on n f i w o h) ≡ warmth h
walked n f i w (Some walk) h =
    let on = fill.walked_by i w walk in
    either (not (is_bit 0 w)) _ _ (warmth h) refl (either (fill.touched on w == w) _ _ (warmth h) (below n on w h) refl)
walked n f i w None h = refl

filled : (n : Machine) (p : Place) (mark : Option Mark) (w : ℕ) (h : Holdings) → warmth (fill.after_fill n p mark w h) ≡ warmth h
filled n (Vcpu v k) mark w h = either (w == 0) h _ (warmth h) refl refl
filled n (Cell f i) mark w h = walked n f i w h.walk h
filled n _ mark w h = refl

set : (n : Machine) (met : Bool) (new : ℕ) (o : Option Walk) (h : Holdings) → warmth (touch.touched_by n met new o h) ≡ warmth h
set n true new (Some walk) h = below n walk new h
set n false new (Some walk) h = refl
set n met new None h = refl

touched : (n : Machine) (p : Place) (a : Act) (w : ℕ) (h : Holdings) → warmth (touch.after_touch n p a w h) ≡ warmth h
touched n (Cell f i) (Cas e x) w h = set n (w == e) x h.walk h
touched n _ _ w h = refl

same_stays : (h k : Holdings) → warmth k ≡ warmth h → StaysWarm h k
same_stays h k same =
    let ran : k.ran ≡ h.ran = ap (λ (q : Warmth). q.ran) same in
    record { later = λ b. omega (arith, ran); warm = λ b r c. ap (λ (q : Warmth). q.cold) same ∙ c }

ran_stays : (a : Act) (h : Holdings) → StaysWarm h (after_run a h)
ran_stays (Store new) h = run_by (new == 0) where
  run_by : (t : Bool) → StaysWarm h (if t then record h { cold = true; ran = length h.steps + 1 } else record h { cache = []; ran = length h.steps + 1 })
  run_by true = record { later = λ b. omega (arith, b); warm = λ b r c. absurd (omega (arith, b, r)) }
  run_by false = record { later = λ b. omega (arith, b); warm = λ b r c. c }
ran_stays _ h = same_stays h h refl

acted : (n : Machine) (s : ℕ) (p : Place) (a : Act) (kind : StepKind) (mark : Option Mark) (w : ℕ) (h : Holdings) (b : Bool) → moves_walk kind ≡ b → StaysWarm h (after_act n s p a kind mark w h)
acted n s p a kind mark w h false e = same_stays h (after_act n s p a kind mark w h) (ap (λ (q : Parts). of_parts q) (act_aside n s p a kind mark w h e))
acted n s p a steps.Fill mark w h true e = same_stays h _ (filled n p mark w h)
acted n s p a steps.Touch mark w h true e = same_stays h _ (touched n p a w h)
acted n s p a steps.Ack mark w h true e = record { later = λ b. omega arith; warm = λ b r c. refl }
acted n s p a steps.Run mark w h true e = ran_stays a h
acted n s p a _ mark w h true e = absurd cc

pub move_stays : (n : Machine) (s : ℕ) (h : Holdings) (p : Place) (a : Act) (kind : StepKind) (mark : Option Mark) (w : ℕ) → StaysWarm h (after_move n s h p a kind mark w)
move_stays n s h p a kind mark w =
    let m = after_mark n mark h in
    let on = acted n s p a kind mark w m (moves_walk kind) refl in
    let front : warmth m ≡ warmth h = marked n mark h in
    let behind : warmth (after_move n s h p a kind mark w) ≡ warmth (after_act n s p a kind mark w m) = ap (λ (q : Parts). of_parts q) (learned_aside s p w (left_by a w) (after_act n s p a kind mark w m)) in
    let before : m.ran ≡ h.ran = ap (λ (q : Warmth). q.ran) front in
    let after : (after_move n s h p a kind mark w).ran ≡ (after_act n s p a kind mark w m).ran = ap (λ (q : Warmth). q.ran) behind in
    let long : length m.steps ≡ length h.steps = ap (λ (xs : List Made). length xs) (mark_steps n mark h) in
    let within : h.ran ≤ length h.steps → m.ran ≤ length m.steps = λ b. omega (arith, before, long, b) in
    record {
      later = λ b. let on_later = on.later (within b) in omega (arith, before, after, on_later);
      warm = λ b r c. ap (λ (q : Warmth). q.cold) behind ∙ on.warm (within b) (sym after ∙ r ∙ sym before) (ap (λ (q : Warmth). q.cold) front ∙ c);
    }
