-- From a clean port an element ends as its plain meaning: what is to be shown of its words.
use Rattle.std.proofs.Common.{◌≡◌, ℕ, false, None, Result, Ok, Err, IfErr, sym, ap, ◌∙◌, subst, arith}
use Rattle.xp_words.specs.Machine.{Machine}
use Rattle.xp_words.specs.declared.reply.Refusal.{Refusal}
use Rattle.xp_words.specs.declared.reply.Stop.{Stop}
use Rattle.xp_words.specs.declared.reply.Stop.TheVariants.{Refused, Paused}
use Rattle.xp_board.specs.Hands.{IsEmptyHand}
use Rattle.xp_board.specs.Told.{Post, PortValue, told_word}
use Rattle.step_maker.specs.Answers.{Stops}
use Rattle.step_maker.specs.Asked.{Request}
use Rattle.step_maker.specs.Moves.{Came}
use Rattle.step_maker.specs.Plain.{Words}
use Rattle.step_maker.proofs.Coming.{came_post}
use Rattle.table_words.specs.OldWords.{old_place}
use Rattle.table_words.specs.declared.old_words.OldWord.TheVariants.{First}
use Rattle.table_law.specs.Alone.{PlainOutcome}
use Rattle.table_law.specs.Plain.{Describes, Plain}
use Rattle.course_laws.specs.Courses.{IsDecided}
use Rattle.course_laws.proofs.Awaiting.{AloneStays, NeitherLostNorBusy, NobodyWaitedFor, decided}
use Rattle.course_laws.proofs.Stopping.{stops_here}
use Rattle.script_law.specs.Values.{Solo, Frames, Outcome, Why, behind, behind_by, did, stopped, with_frames}
use Rattle.solo_ports.specs.Standing.{Clean, Fair, ShowsOthers, nothing}
use Rattle.solo_ports.specs.Coming.{Comes, IsWhy}
use Rattle.solo_ports.proofs.Along.{off_flushes}
use Rattle.solo_pages.specs.Shown.{IsShown, AreWhole, SameBeside}
use Rattle.solo_pages.specs.Ends.{EndsAs, EndsSo, IsEnded}
use Rattle.solo_ports.proofs.Resting.{clean_rests}
use Rattle.solo_ports.proofs.Staying.{stands_at}
use Rattle.solo_pages.proofs.Whole.{whole_at_rest}

-- ---- words that are shown
-- other frames
pub others_stay : (n : Machine) (s : ℕ) (m w : Words) (x : Solo) (p : Plain) → ShowsOthers n s m x → SameBeside m w → ShowsOthers n s w (with_frames p x)
others_stay n s m w x p o same =
    record {
      maps = λ f inside. o.maps f inside ∙ sym (same.maps f);
      own = λ k is. o.own k is ∙ sym (same.own s k (off_flushes k is).0 (off_flushes k is).1);
      privileges = λ d real. o.privileges d real ∙ sym (same.privileges d);
      lives = λ d real. o.lives d real ∙ sym (same.lives d);
    }

pub shown_stays : (n : Machine) (s : ℕ) (m w : Words) (x : Solo) (p : Plain) → IsShown n s m x → SameBeside m w → Describes n w p → AreWhole n p → IsShown n s w (with_frames p x)
shown_stays n s m w x p is same d whole =
    record {
      others = others_stay n s m w x p is.others same;
      frames = d;
      whole = whole;
      first = same.own s 2 (λ e. omega (arith, e)) (λ e. omega (arith, e)) ∙ is.first;
      second = same.own s 3 (λ e. omega (arith, e)) (λ e. omega (arith, e)) ∙ is.second;
    }

-- ---- from a clean port
pub shown_clean : (v : PortValue) (x : Solo) → Clean v x → IsShown v.post.machine v.post.vcpu (told_word v) x
shown_clean v x c =
    record {
      others = c.stands.others;
      frames = c.frames;
      whole = whole_at_rest v.post.machine (told_word v) x.frames c.frames (clean_rests v x c) c.stands.unkept;
      first = c.first;
      second = c.stands.second;
    }

-- to a clean one
pub clean_behind : AloneStays → (v w : PortValue) (x y : Solo) → Clean v x → Came v w → IsEmptyHand w.holdings → IsShown v.post.machine v.post.vcpu (told_word w) y → Clean w y
clean_behind stays v w x y c came empty is =
    let same = sym (came_post v w came) in
    record {
      stands = stands_at stays v w x y c.stands came empty is.second is.others (λ g inside. (is.whole g inside).unkept);
      first = subst (λ (p : Post). told_word w (old_place p.vcpu First) ≡ 0) same is.first;
      frames = subst (λ (p : Post). Describes p.machine (told_word w) y.frames) same is.frames;
    }

-- ---- it ends
ended_by : (e : Stop) → IsDecided (Err e) → IsEnded {A = Unit {0}} (Err e)
ended_by e is = is

pub ended : AloneStays → NeitherLostNorBusy → NobodyWaitedFor → (v w : PortValue) (x : Solo) (r : Request) (answer : Result (Unit {0}) Stop) → Clean v x → Fair v w → r.destroys ≡ None → r.rose ≡ false → IfErr answer (λ e. Stops v w r e) → IsEnded answer
ended stays neither nobody v w x r (Ok done) c fair spares calm stops = tt
ended stays neither nobody v w x r (Err e) c fair spares calm stops =
    decided stays neither v w c.stands.alone fair.clock nobody c.stands.only (Err e) (stops_here v w r e spares calm stops)

pub comes : AloneStays → (v w : PortValue) (x : Solo) (o : Outcome) (answer : Result (Unit {0}) Stop) → Clean v x → Came v w → IsEmptyHand w.holdings → EndsSo v.post.machine v.post.vcpu (told_word w) o answer → Comes (λ v x. ⊥) w x o answer
comes stays v w x o (Ok done) c came empty e = record { fine = e.0; none = e.1; owes = nothing (clean_behind stays v w x o.left c came empty e.2) }
comes stays v w x o (Err (Refused y)) c came empty e = record { why = e.0; is = e.1; same = e.3; none = e.2; owes = nothing (clean_behind stays v w x o.left c came empty e.4) }
comes stays v w x o (Err (Paused y)) c came empty e = absurd e

-- ---- behind what is done with the frames alone
pub behind_refused : (n : Machine) (s : ℕ) (m w : Words) (x : Solo) (o : PlainOutcome) (next : Solo → Outcome) (y : Refusal) → IsShown n s m x → SameBeside m w → AreWhole n o.left → EndsAs {A = Unit {0}} n w o (Err (Refused y)) → EndsSo {A = Unit {0}} n s w (behind x o next) (Err (Refused y))
behind_refused n s m w x o next y is same whole e =
    let at : behind x o next ≡ stopped (Frames e.0) (with_frames o.left x) = ap (λ r. behind_by x o r next) e.1 in (
      Frames e.0,
      ap (λ (u : Outcome). u.refusal) at,
      ap (λ (u : Outcome). u.lines) at,
      e.2,
      subst (λ (u : Outcome). IsShown n s w u.left) (sym at) (shown_stays n s m w x o.left is same e.3 whole),
    )

pub behind_fine : (x : Solo) (o : PlainOutcome) (next : Solo → Outcome) → o.refusal ≡ None → behind x o next ≡ next (with_frames o.left x)
behind_fine x o next none = ap (λ r. behind_by x o r next) none

pub did_so : (n : Machine) (s : ℕ) (w : Words) (o : Outcome) (y : Solo) → o ≡ did y → IsShown n s w y → EndsSo {A = Unit {0}} n s w o (Ok tt)
did_so n s w o y at is = (ap (λ (u : Outcome). u.refusal) at, ap (λ (u : Outcome). u.lines) at, subst (λ (u : Outcome). IsShown n s w u.left) (sym at) is)

pub stopped_so : (n : Machine) (s : ℕ) (w : Words) (o : Outcome) (y : Solo) (r : Refusal) (why : Why) → o ≡ stopped why y → IsWhy r why → IsShown n s w y → EndsSo {A = Unit {0}} n s w o (Err (Refused r))
stopped_so n s w o y r why at same is = (why, ap (λ (u : Outcome). u.refusal) at, ap (λ (u : Outcome). u.lines) at, same, subst (λ (u : Outcome). IsShown n s w u.left) (sym at) is)
