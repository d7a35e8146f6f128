-- A frame is looked at under a reference, and the plain value that describes the words.
use Rattle.std.proofs.Common.{◌≡◌, ℕ, ◌+◌, ◌-◌, ◌<◌, ◌==◌, if◌then◌else◌, true, false, Option, Some, None, Ok, Err, refl, sym, ap, ◌∙◌, subst, inl, inr, arith}
use Rattle.std.proofs.Math.Path.{fun_ext}
use Rattle.std.proofs.lemmas.Bool.{cases_eq}
use Rattle.std.proofs.lemmas.Bool.Decides.{nat_tests}
use Rattle.xp_words.specs.KindWords.{kind_fields}
use Rattle.xp_words.specs.Machine.{IsMachine, Machine}
use Rattle.xp_words.specs.declared.kind.KindWord.{KindWord}
use Rattle.xp_words.specs.declared.place.Place.{Place}
use Rattle.xp_words.specs.declared.place.Place.TheVariants.{Cell, Kind, Refs}
use Rattle.xp_words.specs.declared.reply.Refusal.{Refusal}
use Rattle.xp_words.specs.declared.reply.Stop.{Stop}
use Rattle.xp_words.specs.declared.reply.Stop.TheVariants.{Refused, Paused}
use Rattle.xp_board.specs.Acts.{left_by}
use Rattle.xp_board.specs.declared.step.Act.TheVariants.{Cas}
use Rattle.xp_board.specs.declared.step.StepKind.TheVariants as kinds
use Rattle.xp_board.specs.Told.{PortValue, is_telling, told_word}
use Rattle.step_maker.specs.Moves.{Came, Moves}
use Rattle.step_maker.specs.Plain.{Words}
use Rattle.step_maker.proofs.Coming.{moves_came}
use Rattle.step_maker.proofs.Telling.{came_telling, leaves, load_tells, told_there}
use Rattle.step_maker.proofs.Visiting.{does_came}
use Rattle.frame_words.specs.Plain.{got, put, refer}
use Rattle.table_entries.specs.Acquiring.{GaveRef, GotRef}
use Rattle.mmuext_ops.specs.Course.{SawKind}
use Rattle.table_law.specs.Alone.{Cause, take_reference}
use Rattle.table_law.specs.Plain.{Describes, Plain, Share, at, fewer, raised_share, reference_back, sober, with_kind, with_share}
use Rattle.table_law.proofs.Counting.{at_here, at_there}
use Rattle.table_law.proofs.Describing.{owns_word}
use Rattle.table_twins.specs.Answers.{IsCause, IsSameAnswer}
use Rattle.table_twins.proofs.Entering.{described_leaves}
use Rattle.table_twins.proofs.Referring.{same_answer, same_taken}
use Rattle.table_twins.proofs.Sharing.{same_back}
use Rattle.course_laws.proofs.Completing.{IsKinded, described_kind, itself}
use Rattle.course_laws.proofs.Extras.{IsSame, described_same}
use Rattle.course_laws.proofs.Lending.{Lent, lent_there}
use Rattle.pin_laws.proofs.Looking.{looked_came}

-- ---- the reference is not to be had
pub record Unreferred (n : Machine) (d f : ℕ) (p : Plain) (v w : PortValue) (stop : Stop) : Type 0 where
  pub refusal : Refusal
  pub stops : stop ≡ Refused refusal
  pub cause : Cause
  pub is : (take_reference n d f p).refusal ≡ Some cause
  pub same : IsCause refusal cause
  pub leaves : (q : Place) → told_word w q ≡ told_word v q
  pub came : Came v w

cause_of : (x : Refusal) (o : Option Cause) → IsSameAnswer (Some x) o → (c : Cause) × (o ≡ Some c) × IsCause x c
cause_of x (Some c) same = (c, refl, same)
cause_of x None same = absurd same

pub unreferred : (v w : PortValue) (d f : ℕ) (p : Plain) (stop : Stop) → is_telling v ≡ true → Describes v.post.machine (told_word v) p → GotRef v w f d (Err stop) → Unreferred v.post.machine d f p v w stop
unreferred v w d f p (Refused x) telling describes ref =
    let n = v.post.machine in
    let a = ref.plain telling in
    let c = cause_of x (take_reference n d f p).refusal (subst (λ o. IsSameAnswer o (take_reference n d f p).refusal) a.0 (same_answer n (told_word v) p d f describes)) in
    record { refusal = x; stops = refl; cause = c.0; is = c.1; same = c.2; leaves = a.1; came = does_came v w _ ref.found }
unreferred v w d f p (Paused x) telling describes ref = absurd (ref.plain telling)

-- ---- an exchange of a kind word that finds what it expects
pub cas_kinded : (v w : PortValue) (f e new : ℕ) → is_telling v ≡ true → Moves v w (Kind f) (Cas e new) kinds.Kind None e → IsKinded (told_word v) (told_word w) f new
unfolding left_by
cas_kinded v w f e new telling m =
    let all = leaves v w (Kind f) (Cas e new) kinds.Kind None e m telling in
    record {
      refs = λ h. all (Refs h);
      cells = λ h i. all (Cell h i);
      kinds = λ h.
          all (Kind h) ∙ ap (λ y. if h == f then (if y == e then new else y) else told_word v (Kind h)) (told_there v w (Kind f) (Cas e new) kinds.Kind None e m telling)
          ∙ ap (λ b. if h == f then (if b then new else e) else told_word v (Kind h)) (itself e);
    }

-- ---- the reference is taken, and the kind word looked at
fewer_back : (s : Share) → 0 < s.count → fewer (Some (raised_share s)) ≡ Some s
fewer_back s some =
    let off : (s.count + 1 == 1) ≡ false = grind (arith, nat_tests) in
    rw off (ap (λ k. Some (record { owner = s.owner; allocated = s.allocated; count = k })) (let e : s.count + 1 - 1 ≡ s.count = omega arith in e))

module _ (v a b : PortValue) (d f x : ℕ) (p : Plain) (machine : IsMachine v.post.machine) (telling : is_telling v ≡ true) (describes : Describes v.post.machine (told_word v) p)
    (ref : GotRef v a f d (Ok f)) (saw : SawKind a b f x) where
  none : refer v.post.machine d f (told_word v (Refs f)) ≡ None
  none = (ref.plain telling).0

  pub referred : Lent v.post.machine f p (take_reference v.post.machine d f p)
  referred = lent_there v.post.machine (told_word v) p d f machine describes none

  pub no_refusal : (take_reference v.post.machine d f p).refusal ≡ None
  no_refusal = ap (λ o. o.refusal) referred.is

  telling_under : is_telling a ≡ true
  telling_under = came_telling v a (does_came v a _ ref.found) ∙ telling

  pub telling_seen : is_telling b ≡ true
  telling_seen = came_telling v b (looked_came v a b d f x machine telling ref saw) ∙ telling

  pub words_seen : told_word b ≡ got f (told_word v)
  words_seen = fun_ext (load_tells a b (Kind f) kinds.Look None x saw telling_under) ∙ fun_ext (ref.plain telling).1

  some : 0 < referred.share.count
  some = (owns_word (told_word v (Refs f)) referred.share (sym (describes.shares f referred.inside) ∙ referred.was)).some

  abbrev lent : Plain
  lent = with_share f (raised_share referred.share) p

  describes_seen : Describes v.post.machine (told_word b) lent
  describes_seen =
      subst (λ (m : Words). Describes v.post.machine m lent) (sym words_seen)
      (subst (Describes v.post.machine (got f (told_word v))) (ap (λ o. o.left) referred.is) (same_taken v.post.machine (told_word v) p d f describes machine none))

  -- behind the kind word k, where the reference is given back
  module _ (c e : PortValue) (new : ℕ) (k : KindWord) (is : k ≡ sober (kind_fields new)) (takes : Moves b c (Kind f) (Cas x new) kinds.Kind None x) (gave : GaveRef c e f) where
    changed : Plain
    changed = with_kind f k lent

    same_by : (g : ℕ) → (g ≡ f → p.shares g ≡ at f (fewer (at f (Some (raised_share referred.share)) p.shares f)) (at f (Some (raised_share referred.share)) p.shares) g)
    same_by g here = sym
        (at_of g here ∙ (ap fewer (at_here f (Some (raised_share referred.share)) p.shares) ∙ (fewer_back referred.share some ∙ (sym referred.was ∙ ap p.shares (sym here)))))
      where
        at_of : (g : ℕ) → g ≡ f → at f (fewer (at f (Some (raised_share referred.share)) p.shares f)) (at f (Some (raised_share referred.share)) p.shares) g ≡ fewer (at f (Some (raised_share referred.share)) p.shares f)
        at_of g here = ap (at f (fewer (at f (Some (raised_share referred.share)) p.shares f)) (at f (Some (raised_share referred.share)) p.shares)) here ∙ at_here f (fewer (at f (Some (raised_share referred.share)) p.shares f)) (at f (Some (raised_share referred.share)) p.shares)

    same : IsSame (reference_back f (with_kind f k lent)) (with_kind f k p)
    same =
        record {
          shares = λ g.
              elim (cases_eq g f) [
                | inl here ↦ same_by g here
                | inr off ↦ sym (at_there f g (fewer (at f (Some (raised_share referred.share)) p.shares f)) (at f (Some (raised_share referred.share)) p.shares) off ∙ at_there f g (Some (raised_share referred.share)) p.shares off)
              ];
          kinds = λ g. refl;
          cells = λ g i. refl;
        }

    telling_changed : is_telling c ≡ true
    telling_changed = came_telling b c (moves_came b c _ _ _ _ _ takes) ∙ telling_seen

    pub describes_back : Describes v.post.machine (told_word e) (with_kind f k p)
    describes_back =
        described_same v.post.machine (told_word e) (reference_back f (with_kind f k lent)) (with_kind f k p) same
        (described_leaves v.post.machine e (put f (told_word c)) (reference_back f (with_kind f k lent)) (gave.plain telling_changed)
        (same_back v.post.machine (told_word c) (with_kind f k lent) f (raised_share referred.share)
        (described_kind v.post.machine (told_word b) (told_word c) lent f new k (cas_kinded b c f x new telling_seen takes) is describes_seen) referred.inside (at_here f (Some (raised_share referred.share)) p.shares)))
