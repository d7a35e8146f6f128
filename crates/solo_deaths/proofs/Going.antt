-- Parts of a destruction one behind the other, from any place.
use Rattle.std.proofs.Common.{◌≡◌, ◌≢◌, ℕ, ◌<◌, ◌≤◌, Bool, List, [], ◌++◌, append_assoc, length, Some, None, Result, Ok, Err, refl, sym, ap, subst, arith}
use Rattle.std.proofs.lemmas.List.{append-nil}
use Rattle.xp_words.specs.Machine.{Machine}
use Rattle.xp_words.specs.declared.reply.Pause.{Pause}
use Rattle.xp_words.specs.declared.reply.Refusal.{Refusal}
use Rattle.xp_words.specs.declared.reply.Stop.{Stop}
use Rattle.xp_words.specs.declared.reply.Stop.TheVariants.{Refused, Paused}
use Rattle.xp_board.specs.Readings.{domain_of}
use Rattle.xp_board.specs.Told.{PortValue, told_word}
use Rattle.step_maker.specs.Visits.{Does}
use Rattle.step_maker.proofs.Visiting.{does_came}
use Rattle.course_laws.proofs.Awaiting.{AloneStays, NeitherLostNorBusy}
use Rattle.replay_laws.specs.Replays.{SameWords}
use Rattle.table_law.specs.Plain.{Plain}
use Rattle.domain_destroy.specs.Coming.{left_at, seen_to}
use Rattle.domain_destroy.specs.Course as course
use Rattle.domain_destroy.specs.Course.{Advances, BeginsBy, GoesOn, LeftFrame}
use Rattle.domain_destroy.specs.declared.place.DestroyAt.{DestroyAt}
use Rattle.domain_destroy.specs.declared.place.DestroyAt.TheVariants.{Begins, Stops, Empties, Clears, Checks, Lists}
use Rattle.script_law.specs.Destroying.{destroy_refusal}
use Rattle.script_law.specs.Values.{Solo}
use Rattle.solo_ports.specs.Standing.{Clean, whose}
use Rattle.solo_deaths.specs.Between.{Between}
use Rattle.solo_deaths.specs.Dying.{AreLeft, IsOtherThen, lines_to, stripped_at}
use Rattle.solo_deaths.proofs.Advancing.{Gone, IsBegun, IsPaused, Reached, advance}
use Rattle.solo_deaths.proofs.Beginning.{begins, doomed}
use Rattle.solo_deaths.proofs.Given.{PausedReleaseLeaves, ReleaseLeaves}
use Rattle.solo_deaths.proofs.Standing.{between_by}

module _ (stays : AloneStays) (neither : NeitherLostNorBusy) (leaves_plain : ReleaseLeaves) (leaves_rest : PausedReleaseLeaves) (v : PortValue) (s : Solo) (clean : Clean v s) (d : ℕ) (at : DestroyAt) (other : IsOtherThen (whose v) d at) (made : List LeftFrame)
    (lines : AreLeft made (lines_to d at s.frames)) (counts : left_at at ≡ length (lines_to d at s.frames)) (inside : seen_to at ≤ v.post.machine.frames) where
  abbrev n : Machine
  n = v.post.machine

  abbrev pub end : Plain
  end = stripped_at n d at s.frames

  between_v : Between v.post v s.frames
  between_v = record { post = refl; alone = clean.stands.alone; first = clean.first; second = clean.stands.second; frames = clean.frames; unkept = clean.stands.unkept }

  -- where it begins in these steps, the plain one is not refused
  abbrev pub IsAllowed : DestroyAt → Type 0
  IsAllowed Begins = destroy_refusal (whose v) d s ≡ None
  IsAllowed _ = Unit {0}

  pub record HasBegun : Type 0 where
    pub real : d < length v.post.machine.page_limit
    pub apart : domain_of v.post.machine v.post.vcpu ≢ d
    pub allowed : IsAllowed at

  pub data SoFar (u : PortValue) (by : DestroyAt) (some : List LeftFrame) : Type 0 where
    before : at ≡ Begins → by ≡ Begins → u ≡ v → some ≡ [] → SoFar u by some
    begun : IsBegun by → Reached v.post.machine d by (stripped_at v.post.machine d at s.frames) (made ++ some) (λ p. Between v.post u p) → HasBegun → SoFar u by some

  pub data StopsSo (w : PortValue) (to : DestroyAt) (more : List LeftFrame) (e : Stop) : Type 0 where
    refused : at ≡ Begins → more ≡ [] → (r : Refusal) → e ≡ Refused r → destroy_refusal (whose v) d s ≡ Some r → SameWords (told_word v) (told_word w) → StopsSo w to more e
    paused : (p : Pause) → e ≡ Paused p → IsBegun to → Reached v.post.machine d to (stripped_at v.post.machine d at s.frames) (made ++ more) (λ p. IsPaused v.post w p) → HasBegun → StopsSo w to more e

  abbrev pub GoesTo : PortValue → DestroyAt → List LeftFrame → Result (Unit {0}) Stop → Type 0
  GoesTo w to more (Ok done) = SoFar w to more
  GoesTo w to more (Err e) = StopsSo w to more e

  -- ---- where it stands
  started : IsBegun at → HasBegun → SoFar v at []
  started is has =
      begun is (record {
        plain = s.frames;
        port = between_v;
        rest = refl;
        lines = subst (λ xs. AreLeft xs (lines_to d at s.frames)) (sym (append-nil made)) lines;
        counts = counts;
        inside = inside;
      }) has

  begun_by : (k : DestroyAt) → at ≡ k → IsBegun k → IsOtherThen (whose v) d k → IsAllowed k → (d < length n.page_limit) × (domain_of n v.post.vcpu ≢ d) → SoFar v at []
  begun_by k is on off may far = started (subst IsBegun (sym is) on) (record { real = far.0; apart = far.1; allowed = subst IsAllowed (sym is) may })

  starts_by : (k : DestroyAt) → at ≡ k → IsOtherThen (whose v) d k → SoFar v at []
  starts_by Begins is off = before is is refl refl
  starts_by (Stops vcpu) is off = begun_by (Stops vcpu) is tt off tt off
  starts_by (Empties vcpu) is off = begun_by (Empties vcpu) is tt off tt off
  starts_by (Clears frame) is off = begun_by (Clears frame) is tt off tt off
  starts_by Checks is off = begun_by Checks is tt off tt off
  starts_by (Lists frame left) is off = begun_by (Lists frame left) is tt off tt off

  -- ---- it begins
  module _ (here : at ≡ Begins) where
    begins_so : (w : PortValue) → Does v w (λ vs. BeginsBy v.post d (Ok tt) vs) → SoFar w (Stops 0) []
    begins_so w does =
        let b = begins v s clean d w (Ok tt) does in
        begun tt (record {
          plain = s.frames;
          port = between_by stays v.post v s.frames between_v w (doomed v s clean d) s.frames (does_came v w _ does) b.left (λ t k. refl)
              (record { shares = λ g low. clean.frames.shares g low; kinds = λ g low. clean.frames.kinds g low; cells = λ g i low few. clean.frames.cells g i low few }) clean.stands.unkept;
          rest = ap (λ k. stripped_at n d k s.frames) (sym here);
          lines = subst (λ xs. AreLeft xs []) (sym (append-nil made)) (subst (λ k. AreLeft made (lines_to d k s.frames)) here lines);
          counts = refl;
          inside = omega arith;
        }) (record { real = b.real; apart = b.apart; allowed = subst IsAllowed (sym here) b.plain })

    refused_so : (w : PortValue) (e : Stop) (to : DestroyAt) → Does v w (λ vs. BeginsBy v.post d (Err e) vs) → StopsSo w to [] e
    refused_so w e to does = let b = begins v s clean d w (Err e) does in refused here refl b.why b.is b.plain b.left

    first : (by : DestroyAt) (w : PortValue) (to : DestroyAt) (more : List LeftFrame) (asked : List Bool) (answer : Result (Unit {0}) Stop) → by ≡ Begins → Advances d v by w to more asked answer → GoesTo w to more answer
    first _ _ _ _ _ _ is (course.Advances.begun w does) = begins_so w does
    first _ _ _ _ _ _ is (course.Advances.refused w e does) = refused_so w e Begins does
    first _ _ _ _ _ _ is (course.Advances.passed_over t low off) = absurd cc
    first _ _ _ _ _ _ is (course.Advances.stopped t w low own look) = absurd cc
    first _ _ _ _ _ _ is (course.Advances.alive t found w low own off look) = absurd cc
    first _ _ _ _ _ _ is (course.Advances.all_stopped t high) = absurd cc
    first _ _ _ _ _ _ is (course.Advances.emptied t w answers passed low one) = absurd cc
    first _ _ _ _ _ _ is (course.Advances.emptied_due t w answers low one) = absurd cc
    first _ _ _ _ _ _ is (course.Advances.unemptied t w answers e low one) = absurd cc
    first _ _ _ _ _ _ is (course.Advances.all_emptied t high) = absurd cc
    first _ _ _ _ _ _ is (course.Advances.cleared f w answers passed low one) = absurd cc
    first _ _ _ _ _ _ is (course.Advances.cleared_due f w answers low one) = absurd cc
    first _ _ _ _ _ _ is (course.Advances.uncleared f w answers e low one) = absurd cc
    first _ _ _ _ _ _ is (course.Advances.all_cleared f high) = absurd cc
    first _ _ _ _ _ _ is (course.Advances.checked w does) = absurd cc
    first _ _ _ _ _ _ is (course.Advances.in_use f x w low does) = absurd cc
    first _ _ _ _ _ _ is (course.Advances.listed f left y w more low look lists) = absurd cc
    first _ _ _ _ _ _ is (course.Advances.half_free f left y w low look own dying) = absurd cc

  -- ---- one more part
  gone_on : (w : PortValue) (to : DestroyAt) (some more : List LeftFrame) (answer : Result (Unit {0}) Stop) → HasBegun → Gone v.post d end w to ((made ++ some) ++ more) answer → GoesTo w to (some ++ more) answer
  gone_on w to some more (Ok done) has g = begun g.0 (subst (λ xs. Reached n d to end xs (λ p. Between v.post w p)) (append_assoc made some more) g.1) has
  gone_on w to some more (Err (Paused p)) has g = paused p refl g.0 (subst (λ xs. Reached n d to end xs (λ q. IsPaused v.post w q)) (append_assoc made some more) g.1) has
  gone_on w to some more (Err (Refused r)) has g = absurd g

  next : (u w : PortValue) (by to : DestroyAt) (some more : List LeftFrame) (asked : List Bool) (answer : Result (Unit {0}) Stop) → SoFar u by some → Advances d u by w to more asked answer → GoesTo w to (some ++ more) answer
  next u w by to some more asked answer (before here is same none) step =
      subst (λ xs. GoesTo w to (xs ++ more) answer) (sym none) (first here by w to more asked answer is (subst (λ (y : PortValue). Advances d y by w to more asked answer) same step))
  next u w by to some more asked answer (begun is r has) step =
      gone_on w to some more answer has
      (advance stays neither leaves_plain leaves_rest v.post clean.stands.machine clean.stands.only clean.stands.real d has.apart end u (made ++ some) by w to more asked answer is r step)

  pub goes : (w : PortValue) (to : DestroyAt) (more : List LeftFrame) (answers : List Bool) (answer : Result (Unit {0}) Stop) → GoesOn d v at w to more answers answer → GoesTo w to more answer
  goes _ _ _ _ _ course.GoesOn.begins = starts_by at refl other
  goes _ _ _ _ _ (course.GoesOn.advances u w by to some more answers asked answer behind step) = next u w by to some more asked answer (goes u by some answers (Ok tt) behind) step
