-- What the element before left unfinished is settled first: where no old word names a frame, that leaves all words as they were, and pauses for nothing.
use Rattle.std.proofs.Common.{◌≡◌, ℕ, ◌+◌, Bool, true, List, Option, None, Result, Ok, Err, refl, sym, ap, ◌∙◌, subst, arith}
use Rattle.xp_words.specs.Machine.{Machine}
use Rattle.xp_words.specs.declared.place.Place.{Place}
use Rattle.xp_words.specs.declared.reply.Stop.{Stop}
use Rattle.xp_board.specs.Told.{Post, PortValue, is_telling, told_word}
use Rattle.xp_board.specs.declared.step.Act.TheVariants.{Load}
use Rattle.xp_board.specs.declared.step.StepKind.TheVariants as kinds
use Rattle.step_maker.specs.Moves.{Moves}
use Rattle.step_maker.specs.Plain.{Words}
use Rattle.step_maker.proofs.Coming.{came_post}
use Rattle.step_maker.proofs.Telling.{came_telling, told_there}
use Rattle.answer_laws.specs.Alone.{IsAlone}
use Rattle.answer_laws.proofs.Shared.{alone_telling}
use Rattle.level_release.specs.Course as course
use Rattle.level_release.specs.Course.{Settled, SettledOne}
use Rattle.table_words.specs.OldWords.{old_place}
use Rattle.table_words.specs.declared.old_words.OldWord.{OldWord}
use Rattle.table_words.specs.declared.old_words.OldWord.TheVariants.{First, Second}
use Rattle.course_laws.proofs.Awaiting.{AloneStays}
use Rattle.vcpu_turn.proofs.Hindering.{settles_came}
use Rattle.vcpu_turn.specs.Settling as settling
use Rattle.vcpu_turn.specs.Settling.{Settles, SettlesFirst}
use Rattle.frame_ranks.specs.Ranks.{AreAllAlive}
use Rattle.turn_measures.specs.Measures.{bit_named, olds_named}
use Rattle.turn_measures.proofs.SettlingOlds.{unnamed}
use Rattle.turn_measures.proofs.Forward.{Still, still_all}
use Rattle.turn_measures.proofs.Asides.{Passes, moves_passes}
use Rattle.turn_measures.proofs.Calm.{IsCalm, alive_on}
use Rattle.turn_measures.proofs.Pages.{ComesBy, by_passes}

-- ---- no frame is named
neither : (a b : ℕ) → a + b ≡ 0 → (a ≡ 0) × (b ≡ 0)
neither a b is = (omega (arith, is), omega (arith, is))

pub none_named : (m : Words) (s : ℕ) → olds_named m s ≡ 0 → (which : OldWord) → m (old_place s which) ≡ 0
none_named m s is First = unnamed _ (neither _ _ is).0
none_named m s is Second = unnamed _ (neither _ _ is).1

pub olds_still : (m x : Words) (s : ℕ) → Still m x → olds_named m s ≡ 0 → olds_named x s ≡ 0
olds_still m x s still is =
    ap (λ a. bit_named a + bit_named (x (old_place s Second))) (still (old_place s First) refl) ∙ ap (λ b. bit_named (m (old_place s First)) + bit_named b) (still (old_place s Second) refl) ∙ is

-- ---- one word
record IsNone (v w : PortValue) (r : Result (Unit {0}) Stop) : Type 0 where
  pub done : r ≡ Ok tt
  pub passes : Passes v w

found_some : (v a : PortValue) (p : Place) (f : ℕ) → is_telling v ≡ true → told_word v p ≡ 0 → Moves v a p Load kinds.Look None (f + 1) → ⊥
found_some v a p f telling none look = let e = told_there v a p _ _ _ _ look telling in omega (arith, e, none)

one_none : (below : Option ℕ) (v : PortValue) (which : OldWord) (w : PortValue) (answers : List Bool) (r : Result (Unit {0}) Stop) → is_telling v ≡ true → told_word v (old_place v.post.vcpu which) ≡ 0 → SettledOne below v which w answers r → IsNone v w r
one_none below v which _ _ _ telling none (course.SettledOne.none w look) = record { done = refl; passes = moves_passes v w _ _ _ _ _ telling refl look }
one_none below v which _ _ _ telling none (course.SettledOne.live a b c w f word answers answer look take see form released) = absurd (found_some v a _ f telling none look)
one_none below v which _ _ _ telling none (course.SettledOne.partial a b c d w f word answers answer look take see form resume done) = absurd (found_some v a _ f telling none look)
one_none below v which _ _ _ telling none (course.SettledOne.lost a b c d w f word found look take see form resume other again) = absurd (found_some v a _ f telling none look)
one_none below v which _ _ _ telling none (course.SettledOne.busy a b c w f word look take see unlive whole again) = absurd (found_some v a _ f telling none look)

-- ---- both
settled_none : (below : Option ℕ) (v w : PortValue) (answers : List Bool) (r : Result (Unit {0}) Stop) → is_telling v ≡ true → olds_named (told_word v) v.post.vcpu ≡ 0 → Settled below v w answers r → r ≡ Ok tt
settled_none below v _ _ _ telling none (course.Settled.first w answers stop one) = (one_none below v First w answers (Err stop) telling (none_named (told_word v) v.post.vcpu none First) one).done
settled_none below v _ _ _ telling none (course.Settled.both u w answers more answer one two) =
    let a = one_none below v First u answers (Ok tt) telling (none_named (told_word v) v.post.vcpu none First) one in
    let named : told_word u (old_place v.post.vcpu Second) ≡ 0 = a.passes.still (old_place v.post.vcpu Second) refl ∙ none_named (told_word v) v.post.vcpu none Second in
    let there : told_word u (old_place u.post.vcpu Second) ≡ 0 = subst (λ (q : Post). told_word u (old_place q.vcpu Second) ≡ 0) (sym (came_post v u a.passes.came)) named in
    (one_none None u Second w more answer (came_telling v u a.passes.came ∙ telling) there two).done

-- ---- and then the element goes
-- the law of turn_measures
abbrev pub SettledSame : Type 0
SettledSame = (below : Option ℕ) (v w : PortValue) (answers : List Bool) → IsAlone v → Settles below v w answers (Ok tt) → olds_named (told_word v) v.post.vcpu ≡ 0 → (q : Place) → told_word w q ≡ told_word v q

-- a port at which the own old words name no frame
pub record IsSettled (v : PortValue) : Type 0 where
  pub alone : IsAlone v
  pub alive : AreAllAlive v.post.machine (told_word v)
  pub none : olds_named (told_word v) v.post.vcpu ≡ 0

pub settled_on : AloneStays → (v w : PortValue) → IsSettled v → Passes v w → IsSettled w
settled_on stays v w s p =
    record {
      alone = stays v w s.alone p.came;
      alive = alive_on v w p s.alive;
      none = subst (λ (q : Post). olds_named (told_word w) q.vcpu ≡ 0) (sym (came_post v w p.came)) (olds_still (told_word v) (told_word w) v.post.vcpu p.still s.none);
    }

pub never_unsettled : (v w : PortValue) (answers : List Bool) (stop : Stop) → IsSettled v → Settles None v w answers (Err stop) → ⊥
never_unsettled v w answers stop s settles = let e = settled_none None v w answers (Err stop) (alone_telling v s.alone) s.none settles.course in cc

pub settles_pass : SettledSame → (v u : PortValue) (answers : List Bool) → IsSettled v → Settles None v u answers (Ok tt) → Passes v u
settles_pass same v u answers s settles =
    record { came = settles_came v u answers (Ok tt) settles; still = still_all (told_word v) (told_word u) (same None v u answers s.alone settles s.none) }

module _ (n : Machine) where
  module _ (stays : AloneStays) (same : SettledSame) (P : PortValue → PortValue → List Bool → Result (Unit {0}) Stop → Type 0) (goes : (u w : PortValue) (answers : List Bool) (r : Result (Unit {0}) Stop) → IsCalm u → P u w answers r → ComesBy n r u w) where
    pub first_for : (v w : PortValue) (answers : List Bool) (r : Result (Unit {0}) Stop) → IsSettled v → SettlesFirst P v w answers r → ComesBy n r v w
    first_for v _ _ _ s (settling.SettlesFirst.unsettled w answers stop settles) = absurd (never_unsettled v w answers stop s settles)
    first_for v _ _ _ s (settling.SettlesFirst.performed u w early answers r settles does) =
        let p = settles_pass same v u early s settles in
        let alone = stays v u s.alone p.came in
        by_passes n r v u w p (goes u w answers r (record { alone = alone; alive = alive_on v u p s.alive }) does)
