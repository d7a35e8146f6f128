-- What a settling leaves in the old words.
use Rattle.std.proofs.Common.{◌≡◌, ◌≢◌, ℕ, ◌+◌, Bool, true, List, Option, None, Result, Ok, Err, refl, ◌∙◌, subst, arith}
use Rattle.xp_words.specs.KindWords.{kind_fields}
use Rattle.xp_words.specs.declared.place.Place.{Place}
use Rattle.xp_words.specs.declared.place.Place.TheVariants.{Vcpu}
use Rattle.xp_words.specs.declared.reply.Pause.TheVariants.{Due}
use Rattle.xp_words.specs.declared.reply.Stop.{Stop}
use Rattle.xp_words.specs.declared.reply.Stop.TheVariants.{Paused}
use Rattle.xp_board.specs.Acts.{left_by}
use Rattle.xp_board.specs.Told.{PortValue, is_telling, told_word}
use Rattle.xp_board.specs.declared.step.Act.TheVariants.{Load, Store}
use Rattle.xp_board.specs.declared.step.StepKind.TheVariants as kinds
use Rattle.step_maker.specs.Moves.{Came, Moves}
use Rattle.step_maker.proofs.Coming.{came_trans, moves_came}
use Rattle.step_maker.proofs.Telling.{came_telling, load_tells, told_elsewhere, told_here, told_there}
use Rattle.level_release.specs.Course as course
use Rattle.level_release.specs.Course.{SettledOne, left_one}
use Rattle.table_releases.specs.Found.{has_recorded}
use Rattle.table_words.specs.OldWords.{old_number, old_place}
use Rattle.table_words.specs.declared.old_words.OldWord.{OldWord}
use Rattle.turn_measures.proofs.Keeping.{Away, away_moves, away_trans}
use Rattle.turn_measures.proofs.Naming.{Cut, LeavesFew, post_vcpu, partial_away, partial_cut, released_away, released_cut}
use Rattle.vcpu_turn.proofs.Silent.{number_apart as other_word}

-- ---- a frame is taken out of the word
-- that word named a frame and is empty then, and the other own words are as they were
record Takes (v w : PortValue) (j : ℕ) : Type 0 where
  pub came : Came v w
  pub named : told_word v (Vcpu v.post.vcpu j) ≢ 0
  pub empty : told_word w (Vcpu v.post.vcpu j) ≡ 0
  pub others : (k : ℕ) → k ≢ j → told_word w (Vcpu v.post.vcpu k) ≡ told_word v (Vcpu v.post.vcpu k)

takes : (v a b : PortValue) (which : OldWord) (f : ℕ) → is_telling v ≡ true → Moves v a (old_place v.post.vcpu which) Load kinds.Look None (f + 1) →
    Moves a b (old_place v.post.vcpu which) (Store 0) kinds.Context None (f + 1) → Takes v b (old_number which)
unfolding left_by
takes v a b which f is look take =
    let s = v.post.vcpu in
    let j = old_number which in
    let first = moves_came v a _ _ _ _ _ look in
    record {
      came = came_trans v a b first (moves_came a b _ _ _ _ _ take);
      named = λ none. (let some : told_word v (Vcpu s j) ≡ f + 1 = told_there v a _ _ _ _ _ look is in omega (arith, some, none));
      empty = told_here a b _ _ _ _ _ take (came_telling v a first ∙ is);
      others = λ k off. told_elsewhere a b _ _ _ _ _ take (Vcpu s k) (other_word s k j off) ∙ told_elsewhere v a _ _ _ _ _ look (Vcpu s k) (other_word s k j off);
    }

takes_on : (v b w : PortValue) (j : ℕ) → Takes v b j → Away b w → Takes v w j
takes_on v b w j t a =
    record { came = came_trans v b w t.came a.came; named = t.named; empty = a.same v.post.vcpu j ∙ t.empty; others = λ k off. a.same v.post.vcpu k ∙ t.others k off }

-- ---- one word that is settled
-- It is empty, and where it was before all words are as they were.
pub record Empties (v w : PortValue) (j : ℕ) : Type 0 where
  pub came : Came v w
  pub empty : told_word w (Vcpu v.post.vcpu j) ≡ 0
  pub others : (k : ℕ) → k ≢ j → told_word w (Vcpu v.post.vcpu k) ≡ told_word v (Vcpu v.post.vcpu k)
  pub same : told_word v (Vcpu v.post.vcpu j) ≡ 0 → (q : Place) → told_word w q ≡ told_word v q

empties_of : (v w : PortValue) (j : ℕ) → Takes v w j → Empties v w j
empties_of v w j t = record { came = t.came; empty = t.empty; others = t.others; same = λ none. absurd (t.named none) }

empties_look : (v w : PortValue) (which : OldWord) → is_telling v ≡ true → Moves v w (old_place v.post.vcpu which) Load kinds.Look None 0 → Empties v w (old_number which)
empties_look v w which is look =
    let same = load_tells v w _ _ _ _ look is in
    record {
      came = moves_came v w _ _ _ _ _ look;
      empty = same (Vcpu v.post.vcpu (old_number which)) ∙ told_there v w _ _ _ _ _ look is;
      others = λ k off. same (Vcpu v.post.vcpu k);
      same = λ none. same;
    }

pub one_empties : (below : Option ℕ) (v : PortValue) (which : OldWord) (w : PortValue) (answers : List Bool) (answer : Result (Unit {0}) Stop) → answer ≡ Ok tt → is_telling v ≡ true → SettledOne below v which w answers answer → Empties v w (old_number which)
one_empties below v which _ _ _ ok is (course.SettledOne.none w look) = empties_look v w which is look
one_empties below v which _ _ _ ok is (course.SettledOne.live a b c w f word answers answer look take see form released) =
    empties_of v w (old_number which)
    (takes_on v b w (old_number which) (takes v a b which f is look take) (away_trans b c w (away_moves b c _ _ _ _ _ refl see) (released_away below c f (kind_fields word).kind w answers answer ok released)))
one_empties below v which _ _ _ ok is (course.SettledOne.partial a b c d w f word answers answer look take see form resume settled) =
    empties_of v w (old_number which)
    (takes_on v b w (old_number which) (takes v a b which f is look take)
    (away_trans b c w (away_moves b c _ _ _ _ _ refl see) (away_trans c d w (away_moves c d _ _ _ _ _ refl resume) (partial_away below d w f (kind_fields word) answers answer ok (has_recorded (kind_fields word).kind (kind_fields word)) settled))))
one_empties below v which _ _ _ ok is (course.SettledOne.lost a b c d w f word found look take see form resume other again) = absurd (cc)
one_empties below v which _ _ _ ok is (course.SettledOne.busy a b c w f word look take see unlive whole again) = absurd (cc)

-- ---- one whose release the gate paused
pub record Leaves (below : Option ℕ) (v w : PortValue) (j : ℕ) (left : Option ℕ) : Type 0 where
  pub named : told_word v (Vcpu v.post.vcpu j) ≢ 0
  pub names : told_word w (Vcpu v.post.vcpu 2) ≢ 0
  pub empty : j ≢ 2 → told_word w (Vcpu v.post.vcpu j) ≡ 0
  pub others : (k : ℕ) → k ≢ 2 → k ≢ j → told_word w (Vcpu v.post.vcpu k) ≡ told_word v (Vcpu v.post.vcpu k)
  pub few : LeavesFew below left

cut_leaves : (below : Option ℕ) (v u w : PortValue) (j : ℕ) (left : Option ℕ) → Takes v u j → Cut below u w left → Leaves below v w j left
cut_leaves below v u w j left t c =
    let s = post_vcpu v u t.came in
    let kept : (k : ℕ) → k ≢ 2 → told_word w (Vcpu v.post.vcpu k) ≡ told_word u (Vcpu v.post.vcpu k) = λ k off. subst (λ s. told_word w (Vcpu s k) ≡ told_word u (Vcpu s k)) s (c.renames.others k off) in
    record {
      named = t.named;
      names = subst (λ s. told_word w (Vcpu s 2) ≢ 0) s c.renames.names;
      empty = λ off. kept j off ∙ t.empty;
      others = λ k off other. kept k off ∙ t.others k other;
      few = c.leaves;
    }

pub one_leaves : (below : Option ℕ) (v : PortValue) (which : OldWord) (w : PortValue) (answers : List Bool) (answer : Result (Unit {0}) Stop) → answer ≡ Err (Paused Due) → is_telling v ≡ true →
    (run : SettledOne below v which w answers answer) → Leaves below v w (old_number which) (left_one run)
one_leaves below v which _ _ _ is telling (course.SettledOne.none w look) = absurd (cc)
one_leaves below v which _ _ _ is telling (course.SettledOne.live a b c w f word answers answer look take see form released) =
    let t = takes_on v b c (old_number which) (takes v a b which f telling look take) (away_moves b c _ _ _ _ _ refl see) in
    cut_leaves below v c w (old_number which) _ t (released_cut below c f (kind_fields word).kind w answers answer is (came_telling v c t.came ∙ telling) released)
one_leaves below v which _ _ _ is telling (course.SettledOne.partial a b c d w f word answers answer look take see form resume settled) =
    let t = takes_on v b d (old_number which) (takes v a b which f telling look take) (away_trans b c d (away_moves b c _ _ _ _ _ refl see) (away_moves c d _ _ _ _ _ refl resume)) in
    cut_leaves below v d w (old_number which) _ t
    (partial_cut below d w f (kind_fields word) answers answer is (came_telling v d t.came ∙ telling) (has_recorded (kind_fields word).kind (kind_fields word)) settled)
one_leaves below v which _ _ _ is telling (course.SettledOne.lost a b c d w f word found look take see form resume other again) = absurd (cc)
one_leaves below v which _ _ _ is telling (course.SettledOne.busy a b c w f word look take see unlive whole again) = absurd (cc)
