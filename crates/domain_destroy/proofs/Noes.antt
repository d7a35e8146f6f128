-- The answers of a gate in a destruction: what is said of them part by part is said of all.
use Rattle.std.proofs.Common.{ℕ, Bool, true, false, List, [], ◌∷◌, ◌++◌, Option, Result, Ok, Err}
use Rattle.xp_words.specs.declared.reply.Stop.{Stop}
use Rattle.xp_board.specs.Told.{PortValue}
use Rattle.level_release.specs.Asking.{is_due_answer}
use Rattle.level_release.specs.Course.{Settled}
use Rattle.domain_destroy.specs.Clearing as clearing
use Rattle.domain_destroy.specs.Clearing.{ClearsFrame, TakesMarks}
use Rattle.domain_destroy.specs.Course as course
use Rattle.domain_destroy.specs.Course.{Advances, Destroys, GoesOn, LeftFrame}
use Rattle.domain_destroy.specs.Emptying as emptying
use Rattle.domain_destroy.specs.Emptying.{EmptiesOne, EmptiesWord, EmptiesWords, LetsGo}
use Rattle.domain_destroy.specs.Hearing.{heard_no}
use Rattle.domain_destroy.specs.declared.place.DestroyAt.{DestroyAt}
use Rattle.domain_destroy.specs.declared.place.DestroyAt.TheVariants.{Lists}

-- P says of the answers, the newest first, and of whether the call is paused for the gate, that they go together; so of what is settled.
module _ (P : List Bool → Bool → Type 0) (none : (due : Bool) → P [] due) (asked : (answers : List Bool) → P answers false → P (false ∷ answers) false) (due : (answers : List Bool) → P answers false → P (true ∷ answers) true)
    (behind : (early late : List Bool) (due : Bool) → P early false → P late due → P (late ++ early) due)
    (settled : (below : Option ℕ) (v w : PortValue) (answers : List Bool) (answer : Result (Unit {0}) Stop) → Settled below v w answers answer → P answers (is_due_answer answer)) where
  heard : (passed : Bool) (answers : List Bool) → P answers false → P (heard_no passed answers) false
  heard true answers noes = asked answers noes
  heard false answers noes = noes

  -- ---- what words named
  let_go_noes : (f : ℕ) (u w : PortValue) (answers : List Bool) (answer : Result (Unit {0}) Stop) → LetsGo f u w answers answer → P answers (is_due_answer answer)
  let_go_noes f u w answers answer goes = settled _ goes.0 w answers answer goes.2

  word_noes : (vcpu k : ℕ) (u w : PortValue) (answers : List Bool) (answer : Result (Unit {0}) Stop) → EmptiesWord vcpu k u w answers answer → P answers (is_due_answer answer)
  word_noes vcpu k u _ _ _ (emptying.EmptiesWord.empty w look) = none false
  word_noes vcpu k u _ _ _ (emptying.EmptiesWord.meanwhile a w x look some store) = none false
  word_noes vcpu k u _ _ _ (emptying.EmptiesWord.named a b w x f answers answer look some store goes) = let_go_noes f b w answers answer goes

  words_noes : (vcpu : ℕ) (u : PortValue) (i : ℕ) (w : PortValue) (answers : List Bool) (answer : Result (Unit {0}) Stop) → EmptiesWords vcpu u i w answers answer → P answers (is_due_answer answer)
  words_noes vcpu u _ _ _ _ emptying.EmptiesWords.none = none false
  words_noes vcpu u _ _ _ _ (emptying.EmptiesWords.one_more i x w answers more answer before one) = behind answers more _ (words_noes vcpu u i x answers (Ok tt) before) (word_noes vcpu _ x w more answer one)

  vcpu_noes : (d vcpu : ℕ) (u w : PortValue) (answers : List Bool) (answer : Result Bool Stop) → EmptiesOne d vcpu u w answers answer → P answers (is_due_answer answer)
  vcpu_noes d vcpu u _ _ _ (emptying.EmptiesOne.other off) = none false
  vcpu_noes d vcpu u _ _ _ (emptying.EmptiesOne.emptied w answers of words) = words_noes vcpu u 34 w answers (Ok tt) words
  vcpu_noes d vcpu u _ _ _ (emptying.EmptiesOne.stopped w answers e of words) = words_noes vcpu u words.0 w answers (Err e) words.2

  -- ---- marks of frames
  marks_noes : (f x : ℕ) (u w : PortValue) (answers : List Bool) (answer : Result (Unit {0}) Stop) → TakesMarks f x u w answers answer → P answers (is_due_answer answer)
  marks_noes f x u _ _ _ (clearing.TakesMarks.none unpinned unkept) = none false
  marks_noes f x u _ _ _ (clearing.TakesMarks.unpinned a w answers answer pinned off goes) = let_go_noes f a w answers answer goes
  marks_noes f x u _ _ _ (clearing.TakesMarks.unkept a w answers answer unpinned kept other off goes) = let_go_noes f a w answers answer goes
  marks_noes f x u _ _ _ (clearing.TakesMarks.page a w unpinned kept page resumes dies) = none false
  marks_noes f x u _ _ _ (clearing.TakesMarks.lost w new found mark away lost) = none _

  frame_noes : (d f : ℕ) (u w : PortValue) (answers : List Bool) (answer : Result Bool Stop) → ClearsFrame d f u w answers answer → P answers (is_due_answer answer)
  frame_noes d f u _ _ _ (clearing.ClearsFrame.others a w x y look owner off) = none false
  frame_noes d f u _ _ _ (clearing.ClearsFrame.marked a b w x y answers e look owner owned marks) = marks_noes f x b w answers (Err e) marks
  frame_noes d f u _ _ _ (clearing.ClearsFrame.unmarked a b c w x y answers answer look owner owned marks gives) = behind answers [] _ (marks_noes f x b c answers (Ok tt) marks) (none _)

  -- ---- all of it
  advances_noes : (d : ℕ) (u : PortValue) (at : DestroyAt) (w : PortValue) (to : DestroyAt) (more : List LeftFrame) (answers : List Bool) (answer : Result (Unit {0}) Stop) → Advances d u at w to more answers answer → P answers (is_due_answer answer)
  advances_noes d u _ _ _ _ _ _ (course.Advances.emptied v w answers passed real empties) = heard passed answers (vcpu_noes d v u w answers (Ok passed) empties)
  advances_noes d u _ _ _ _ _ _ (course.Advances.emptied_due v w answers real empties) = due answers (vcpu_noes d v u w answers (Ok true) empties)
  advances_noes d u _ _ _ _ _ _ (course.Advances.unemptied v w answers e real empties) = vcpu_noes d v u w answers (Err e) empties
  advances_noes d u _ _ _ _ _ _ (course.Advances.cleared f w answers passed real clears) = heard passed answers (frame_noes d f u w answers (Ok passed) clears)
  advances_noes d u _ _ _ _ _ _ (course.Advances.cleared_due f w answers real clears) = due answers (frame_noes d f u w answers (Ok true) clears)
  advances_noes d u _ _ _ _ _ _ (course.Advances.uncleared f w answers e real clears) = frame_noes d f u w answers (Err e) clears
  advances_noes d u _ _ _ _ _ _ _ = none _

  pub goes_on_noes : (d : ℕ) (v : PortValue) (at : DestroyAt) (w : PortValue) (to : DestroyAt) (more : List LeftFrame) (answers : List Bool) (answer : Result (Unit {0}) Stop) → GoesOn d v at w to more answers answer → P answers (is_due_answer answer)
  goes_on_noes d v at _ _ _ _ _ course.GoesOn.begins = none false
  goes_on_noes d v at _ _ _ _ _ (course.GoesOn.advances u w by to some more answers newer answer before one) =
      behind answers newer _ (goes_on_noes d v at u by some answers (Ok tt) before) (advances_noes d u by w to more newer answer one)

  pub destroys_noes : (d : ℕ) (v : PortValue) (at : DestroyAt) (w : PortValue) (to : DestroyAt) (more : List LeftFrame) (answers : List Bool) (answer : Result ℕ Stop) → Destroys d v at w to more answers answer → P answers (is_due_answer answer)
  destroys_noes d v at _ _ _ _ _ (course.Destroys.stops w to more answers e goes) = goes_on_noes d v at w to more answers (Err e) goes
  destroys_noes d v at _ _ _ _ _ (course.Destroys.buries u w frame left found more answers goes past last) = goes_on_noes d v at u (Lists frame left) more answers (Ok tt) goes
