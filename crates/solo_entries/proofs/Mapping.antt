-- A machine-to-physical word, and the elements that their numbers refuse.
use Rattle.std.proofs.Common.{◌≡◌, ◌<◌, ℕ, ◌+◌, ◌-◌, ◌==◌, if◌then◌else◌, Bool, true, false, Option, Some, None, Result, Ok, Err, refl, sym, ap, ◌∙◌, subst, arith}
use Rattle.std.proofs.lemmas.Bool.Decides.{nat_tests}
use Rattle.xp_words.specs.Machine.{IsMachine, Machine}
use Rattle.xp_words.specs.declared.place.Place.{Place}
use Rattle.xp_words.specs.declared.place.Place.TheVariants.{Cell, Kind, Life, M2p, Priv, Refs, Vcpu}
use Rattle.xp_words.specs.declared.reply.Refusal.{Refusal}
use Rattle.xp_words.specs.declared.reply.Stop.{Stop}
use Rattle.xp_words.specs.declared.reply.Stop.TheVariants.{Refused, Paused}
use Rattle.xp_board.specs.declared.step.Act.TheVariants.{Store}
use Rattle.xp_board.specs.Acts.{left_by}
use Rattle.xp_board.specs.Told.{Post, PortValue, is_telling, told_word}
use Rattle.step_maker.specs.Holds.{Rests}
use Rattle.step_maker.specs.Moves.{Came}
use Rattle.step_maker.specs.Plain.{Leaves, Words, change}
use Rattle.step_maker.proofs.Coming.{came_post}
use Rattle.step_maker.proofs.Visiting.{does_came}
use Rattle.answer_laws.proofs.Shared.{alone_telling}
use Rattle.frame_words.specs.Plain.{got, put, refer}
use Rattle.m2p_map.specs.Found.{SetFound}
use Rattle.m2p_map.specs.Maps.{TwinSet, set_word}
use Rattle.table_words.specs.OldWords.{old_place}
use Rattle.table_words.specs.declared.old_words.OldWord.TheVariants.{First, Second}
use Rattle.table_law.specs.Alone.{Cause, PlainOutcome, take_reference}
use Rattle.table_law.specs.Plain.{Describes, Plain, Share, fewer, raised_share, reference_back, with_share, share_of, sober}
use Rattle.table_twins.specs.Answers.{IsSameAnswer}
use Rattle.table_twins.proofs.Kinding.{described_alike}
use Rattle.table_twins.proofs.Referring.{same_answer, same_taken}
use Rattle.table_twins.proofs.Sharing.{same_back, count_some}
use Rattle.course_laws.proofs.Extras.{described_same}
use Rattle.course_laws.proofs.Lending.{Lent, lent_there}
use Rattle.script_law.specs.Frames.{set_map}
use Rattle.script_law.specs.Values.{Frames, Outcome, Solo, did, looked, looked_by, put_at, stopped, Numbers}
use Rattle.solo_ports.specs.Coming.{ComesUnpaused, IsDoneSo, IsRefusedSo}
use Rattle.solo_ports.specs.Standing.{Clean, Owes, ShowsOthers, nothing}
use Rattle.solo_ports.proofs.Staying.{stands_at}
use Rattle.solo_entries.proofs.Known.{Known}
use Rattle.solo_entries.proofs.Standing.{owes_same, put_same, is_counting}
use Rattle.table_law.proofs.Counting.{at_here}
use Rattle.step_maker.proofs.Alikes.{same_alike}
use Rattle.step_maker.specs.Twins.{AnswersAs}
use Rattle.xp_words.specs.KindWords.{kind_fields}

-- ---- a reference is taken, other words than those of frames change, and it is given back
module _ (n : Machine) (m l : Words) (p : Plain) (owner f : ℕ) (machine : IsMachine n) (d : Describes n m p) (none : refer n owner f (m (Refs f)) ≡ None) (refs : (g : ℕ) → l (Refs g) ≡ got f m (Refs g)) (kinds : (g : ℕ) → l (Kind g) ≡ got f m (Kind g)) (cells : (g i : ℕ) → l (Cell g i) ≡ got f m (Cell g i)) where
  lends : Lent n f p (take_reference n owner f p)
  lends = lent_there n m p owner f machine d none

  abbrev more : Plain
  more = with_share f (raised_share lends.share) p

  taken : Describes n (got f m) more
  taken = subst (λ (o : PlainOutcome). Describes n (got f m) o.left) lends.is (same_taken n m p owner f d machine none)

  same_words : (g : ℕ) → Describes n l more
  same_words g = record { shares = λ h inside. taken.shares h inside ∙ sym (ap share_of (refs h)); kinds = λ h inside. taken.kinds h inside ∙ sym (ap (λ w. sober (kind_fields w)) (kinds h)); cells = λ h i inside few. taken.cells h i inside few ∙ sym (cells h i) }

  fewer_raised : (s : Share) → 0 < s.count → fewer (Some (raised_share s)) ≡ Some s
  fewer_raised s some =
      let off : (s.count + 1 == 1) ≡ false = grind (arith, nat_tests) in
      ap (λ b. if b then None else Some (record { owner = s.owner; allocated = s.allocated; count = s.count + 1 - 1 })) off
      ∙ ap (λ k. Some (record { owner = s.owner; allocated = s.allocated; count = k })) (let e : s.count + 1 - 1 ≡ s.count = omega arith in e)

  back_at : (b : Bool) (g : ℕ) → (g == f) ≡ b → p.shares g ≡ (if b then fewer (Some (raised_share lends.share)) else (if b then Some (raised_share lends.share) else p.shares g))
  back_at true g is = let e : g ≡ f = grind (arith, nat_tests) in ap p.shares e ∙ lends.was ∙ sym (fewer_raised lends.share (count_some n m p f lends.share d (sym (d.shares f lends.inside) ∙ lends.was)))
  back_at false g is = refl

  pub looked_at : Describes n (put f l) p
  looked_at =
      let here : more.shares f ≡ Some (raised_share lends.share) = at_here f (Some (raised_share lends.share)) p.shares in
      let back = same_back n l more f (raised_share lends.share) (same_words f) lends.inside here in
      described_same n (put f l) (reference_back f more) p
      (record {
        shares = λ g. back_at (g == f) g refl ∙ ap (λ o. if g == f then fewer o else more.shares g) (sym here);
        kinds = λ g. refl;
        cells = λ g i. refl;
      }) back

-- ---- an answer as the plain one
-- what is refused for a reference
module _ (k : Known) (v w : PortValue) (x : Solo) (clean : Clean v x) (owner f : ℕ) where
  none_by : (r : Option Cause) → IsSameAnswer None r → r ≡ None
  none_by None same = refl
  none_by (Some c) same = absurd same

  pub fine_by : refer v.post.machine owner f (told_word v (Refs f)) ≡ None → (take_reference v.post.machine owner f x.frames).refusal ≡ None
  fine_by none = none_by (take_reference v.post.machine owner f x.frames).refusal (subst (λ o. IsSameAnswer o (take_reference v.post.machine owner f x.frames).refusal) none (same_answer v.post.machine (told_word v) x.frames owner f clean.frames))

  refused_by : (r : Option Cause) (y : Refusal) (next : Solo → Outcome) → IsSameAnswer (Some y) r → Owes w x → IsRefusedSo w y (looked_by r x next)
  refused_by None y next same owes = absurd same
  refused_by (Some c) y next same owes = record { why = Frames c; is = refl; same = same; none = refl; owes = owes }

  pub unlooked : (y : Refusal) (next : Solo → Outcome) → refer v.post.machine owner f (told_word v (Refs f)) ≡ Some y → Owes w x → IsRefusedSo w y (looked v.post.machine owner f x next)
  unlooked y next refuses owes =
      refused_by (take_reference v.post.machine owner f x.frames).refusal y next
      (subst (λ o. IsSameAnswer o (take_reference v.post.machine owner f x.frames).refusal) refuses (same_answer v.post.machine (told_word v) x.frames owner f clean.frames)) owes

-- ---- the word
module _ (k : Known) (v w : PortValue) (x : Solo) (owner f gpfn : ℕ) (clean : Clean v x) (rests : Rests w) (came : Came v w) where
  abbrev n : Machine
  n = v.post.machine

  abbrev m : Words
  m = told_word v

  abbrev y : Solo
  y = record x { maps = put_at f gpfn x.maps }

  telling : is_telling v ≡ true
  telling = alone_telling v clean.stands.alone

  module _ (none : refer v.post.machine owner f (told_word v (Refs f)) ≡ None) (leaves : Leaves w (set_word f gpfn (told_word v))) where
    abbrev stored : Words
    stored = change (Store gpfn) (M2p f) (got f (told_word v))

    other : (q : Place) → is_counting q ≡ false → told_word w q ≡ stored q
    other q off = leaves q ∙ put_same f stored q off

    same : w.post ≡ v.post
    same = came_post v w came

    shows : ShowsOthers n v.post.vcpu (told_word w) y
    unfolding left_by
    shows =
        let o = clean.stands.others in
        record {
          maps = λ g inside. ap (λ z. if g == f then gpfn else z) (o.maps g inside) ∙ sym (other (M2p g) refl);
          own = λ j shown. o.own j shown ∙ sym (other (Vcpu v.post.vcpu j) refl);
          privileges = λ e inside. o.privileges e inside ∙ sym (other (Priv e) refl);
          lives = λ e inside. o.lives e inside ∙ sym (other (Life e) refl);
        }

    frames : Describes n (told_word w) x.frames
    frames =
        described_alike n (told_word w) (put f stored) x.frames (same_alike (told_word w) (put f stored) leaves)
        (looked_at n m stored x.frames owner f clean.stands.machine clean.frames none (λ g. refl) (λ g. refl) (λ g i. refl))

    is_clean : Clean w y
    is_clean =
        record {
          stands = stands_at k.stays v w x y clean.stands came rests.empty (other (old_place v.post.vcpu Second) refl ∙ clean.stands.second) shows clean.stands.unkept;
          first = subst (λ (q : Post). told_word w (old_place q.vcpu First) ≡ 0) (sym same) (other (old_place v.post.vcpu First) refl ∙ clean.first);
          frames = subst (λ (q : Post). Describes q.machine (told_word w) x.frames) (sym same) frames;
        }

    mapped : IsDoneSo w (set_map n owner f gpfn x)
    mapped =
        let is : set_map n owner f gpfn x ≡ did y = ap (λ r. looked_by r x (λ s. did (record s { maps = put_at f gpfn s.maps }))) (fine_by k v w x clean owner f none) in
        subst (IsDoneSo w) (sym is) (record { fine = refl; none = refl; owes = nothing is_clean })

  by_answer : (answer : Result (Unit {0}) Stop) → AnswersAs v w (refer n owner f (m (Refs f))) (set_word f gpfn m) answer → ComesUnpaused w (set_map n owner f gpfn x) answer
  by_answer (Ok done) a = mapped a.0 a.1
  by_answer (Err (Refused z)) a = unlooked k v w x clean owner f z (λ s. did (record s { maps = put_at f gpfn s.maps })) a.0 (owes_same k v w x clean came a.1 rests)
  by_answer (Err (Paused z)) a = absurd a

pub map_set : Known → (v w : PortValue) (x : Solo) (owner f gpfn : ℕ) (answer : Result (Unit {0}) Stop) → Clean v x → Rests w → SetFound v w f owner gpfn answer → TwinSet v w f owner gpfn answer →
    ComesUnpaused w (set_map v.post.machine owner f gpfn x) answer
map_set k v w x owner f gpfn answer clean rests found plain =
    by_answer k v w x owner f gpfn clean rests (does_came v w _ found) answer (plain (alone_telling v clean.stands.alone))

-- ---- what its numbers refuse
pub refused_numbers : (v w : PortValue) (x : Solo) (y : Refusal) (answer : Result (Unit {0}) Stop) → Clean v x → w ≡ v → answer ≡ Err (Refused y) → ComesUnpaused w (stopped (Numbers y) x) answer
refused_numbers v w x y answer clean same is =
    subst (λ a. ComesUnpaused w (stopped (Numbers y) x) a) (sym is)
    (record { why = Numbers y; is = refl; same = refl; none = refl; owes = nothing (subst (λ u. Clean u x) (sym same) clean) })
