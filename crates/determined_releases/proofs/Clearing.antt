-- One frame of a domain that is destroyed loses its marks: by what is found.
use Rattle.std.proofs.Common.{◌≡◌, ◌≢◌, ◌==◌, ℕ, Bool, true, false, List, [], Option, Some, None, Result, Ok, Err, refl, sym, ap, ◌∙◌, subst}
use Rattle.xp_words.specs.Machine.{Machine}
use Rattle.xp_words.specs.Places.{number, sizes_of}
use Rattle.xp_words.specs.RefWords.{ref_read, ref_write}
use Rattle.xp_words.specs.declared.place.Place.TheVariants.{Kind, Refs}
use Rattle.xp_words.specs.declared.refs.RefWord.{RefWord}
use Rattle.xp_words.specs.declared.refs.RefWord.TheVariants.{Owned}
use Rattle.xp_words.specs.declared.reply.Pause.TheVariants.{Lost}
use Rattle.xp_words.specs.declared.reply.Stop.{Stop}
use Rattle.xp_words.specs.declared.reply.Stop.TheVariants.{Paused}
use Rattle.xp_preempt.specs.Gates.{GivesAnswers}
use Rattle.xp_board.specs.LifeSteps.{is_unallocated}
use Rattle.xp_board.specs.Readings.{owner_of}
use Rattle.xp_board.specs.Told.{PortValue}
use Rattle.xp_board.specs.declared.step.Act.TheVariants.{Cas, Load}
use Rattle.xp_board.specs.declared.step.StepKind.TheVariants as steps
use Rattle.xp_board.proofs.RefWords.{owned_says}
use Rattle.step_maker.specs.Moves.{Came, Moves}
use Rattle.step_maker.proofs.Coming.{came_self, came_trans}
use Rattle.frame_words.specs.Freeing.{Puts}
use Rattle.domain_destroy.specs.Clearing as clearing
use Rattle.domain_destroy.specs.Clearing.{ClearsFrame, GivesMark, TakesMarks}
use Rattle.determined_laws.specs.Courses.{Alike}
use Rattle.determined_laws.proofs.Calls.{puts_alike, puts_came}
use Rattle.determined_laws.proofs.Courses.{alike_map, alike_same, alike_then}
use Rattle.determined_releases.proofs.Calls.{alike_step, move_on}
use Rattle.determined_releases.proofs.Emptying.{Done}
use Rattle.determined_releases.proofs.Marks.{takes_marks_alike, takes_marks_came}

-- ---- the allocated mark
module _ (n : Machine) (d f y : ℕ) where
  -- behind the exchange
  data Tried (found : ℕ) (b w : PortValue) (a : Result Bool Stop) : Type 0 where
    done : found ≡ y → Puts b w f → a ≡ Ok true → Tried found b w a
    lost : found ≢ y → w ≡ b → a ≡ Err (Paused (Lost (number (sizes_of n) (Refs f)) y found)) → Tried found b w a

  -- behind the look
  data Marked (o w : PortValue) (a : Result Bool Stop) : Type 0 where
    bare : is_unallocated y ≡ true → w ≡ o → a ≡ Ok true → Marked o w a
    foreign : is_unallocated y ≡ false → owner_of y ≢ Some d → w ≡ o → a ≡ Ok false → Marked o w a
    tries : (count found : ℕ) (b : PortValue) → ref_read y ≡ Some (Owned d true count) → Moves o b (Refs f) (Cas y (ref_write (Owned d false count))) steps.Ref None found → Tried found b w a → Marked o w a

  tried_came : (found : ℕ) (b w : PortValue) (a : Result Bool Stop) → Tried found b w a → Came b w
  tried_came found b w a (done is puts ok) = puts_came b w f puts
  tried_came found b w a (lost off same stop) = subst (λ z. Came b z) (sym same) (came_self b)

  marked_came : (o w : PortValue) (a : Result Bool Stop) → Marked o w a → Came o w
  marked_came o w a (bare off same ok) = subst (λ z. Came o z) (sym same) (came_self o)
  marked_came o w a (foreign on off same ok) = subst (λ z. Came o z) (sym same) (came_self o)
  marked_came o w a (tries count found b read try rest) = move_on w try (tried_came found b w a rest)

  tried_alike : (found : ℕ) (b w x : PortValue) (a c : Result Bool Stop) → Tried found b w a → Tried found b x c → Alike b w x (a ≡ c)
  tried_alike found b w x a c (done is puts ok) (done are gives also) = alike_map (puts_alike f puts gives) (λ e. ok ∙ sym also)
  tried_alike found b w x a c (done is puts ok) (lost off same stop) = absurd (off is)
  tried_alike found b w x a c (lost off same stop) (done is puts ok) = absurd (off is)
  tried_alike found b w x a c (lost off same stop) (lost out still halt) = alike_same (same ∙ sym still) (stop ∙ sym halt)

  mark_there : {A : Type 0} (count : ℕ) → ref_read y ≡ Some (Owned d true count) → is_unallocated y ≡ true → A
  mark_there count read off = absurd (let on = (owned_says y d true count read).mark in let not_zero : (1 == 0) ≡ true = sym (ap (λ z. z == 0) on) ∙ off in cc)

  counts_same : (k l : ℕ) → ref_read y ≡ Some (Owned d true k) → ref_read y ≡ Some (Owned d true l) → k ≡ l
  counts_same k l a b = some_counts k l (sym a ∙ b)
    where
      some_counts : (k l : ℕ) → ◌≡◌ {A = Option RefWord} (Some (Owned d true k)) (Some (Owned d true l)) → k ≡ l
      some_counts k l e = cc

  marked_alike : (o w x : PortValue) (a c : Result Bool Stop) → Marked o w a → Marked o x c → Alike o w x (a ≡ c)
  marked_alike o w x a c (bare off same ok) (bare out still also) = alike_same (same ∙ sym still) (ok ∙ sym also)
  marked_alike o w x a c (bare off same ok) (foreign on other still also) = absurd (let e = sym off ∙ on in cc)
  marked_alike o w x a c (bare off same ok) (tries count found b read try rest) = mark_there count read off
  marked_alike o w x a c (foreign on other same ok) (bare off still also) = absurd (let e = sym off ∙ on in cc)
  marked_alike o w x a c (foreign on other same ok) (foreign held out still also) = alike_same (same ∙ sym still) (ok ∙ sym also)
  marked_alike o w x a c (foreign on other same ok) (tries count found b read try rest) = absurd (other (owned_says y d true count read).owned)
  marked_alike o w x a c (tries count found b read try rest) (bare off same ok) = mark_there count read off
  marked_alike o w x a c (tries count found b read try rest) (foreign on other same ok) = absurd (other (owned_says y d true count read).owned)
  marked_alike o w x a c (tries count found b read try rest) (tries number met e reads tried next) =
      alike_step try (subst (λ z. Moves o e (Refs f) (Cas y (ref_write (Owned d false z))) steps.Ref None met) (counts_same number count reads read) tried) (tried_came found b w a rest) (tried_came met e x c next)
      (λ s m. tried_alike found b w x a c rest (subst (λ z. Tried z b x c) (sym m) (subst (λ z. Tried met z x c) (sym s) next)))

data Gives (d f : ℕ) (u w : PortValue) (a : Result Bool Stop) : Type 0 where
  gives : (o : PortValue) (y : ℕ) → Moves u o (Refs f) Load steps.Look None y → Marked u.post.machine d f y o w a → Gives d f u w a

gives_by : {d f : ℕ} {u w : PortValue} {a : Result Bool Stop} → GivesMark d f u w a → Gives d f u w a
gives_by (clearing.GivesMark.none w y look off) = gives w y look (bare off refl refl)
gives_by (clearing.GivesMark.others w y look on off) = gives w y look (foreign on off refl refl)
gives_by (clearing.GivesMark.given a b w y count look read took puts) = gives a y look (tries count y b read took (done refl puts refl))
gives_by (clearing.GivesMark.lost a w y count found look read off try) = gives a y look (tries count found w read try (lost off refl refl))

as_came : {d f : ℕ} {u w : PortValue} {a : Result Bool Stop} → Gives d f u w a → Came u w
as_came {d} {f} {u} {w} {a} (gives o y look rest) = move_on w look (marked_came u.post.machine d f y o w a rest)

as_alike : {d f : ℕ} {u w x : PortValue} {a b : Result Bool Stop} → Gives d f u w a → Gives d f u x b → Alike u w x (a ≡ b)
as_alike {d} {f} {u} {w} {x} {a} {b} (gives o y look rest) (gives p z see next) =
    alike_step look see (marked_came u.post.machine d f y o w a rest) (marked_came u.post.machine d f z p x b next)
    (λ e m. marked_alike u.post.machine d f y o w x a b rest (subst (λ k. Marked u.post.machine d f k o x b) (sym m) (subst (λ k. Marked u.post.machine d f z k x b) (sym e) next)))

pub gives_came : {d f : ℕ} {u w : PortValue} {a : Result Bool Stop} → GivesMark d f u w a → Came u w
gives_came p = as_came (gives_by p)

pub gives_alike : {d f : ℕ} {u w x : PortValue} {a b : Result Bool Stop} → GivesMark d f u w a → GivesMark d f u x b → Alike u w x (a ≡ b)
gives_alike p q = as_alike (gives_by p) (gives_by q)

-- ---- one frame
module _ (d f x y : ℕ) where
  -- behind the marks of the kind word
  data After (r : Done) (c w : PortValue) (a : Result Bool Stop) : Type 0 where
    stopped : (e : Stop) → r ≡ Err e → w ≡ c → a ≡ Err e → After r c w a
    went : r ≡ Ok tt → GivesMark d f c w a → After r c w a

  -- behind both looks
  data Cleared (b w : PortValue) (answers : List Bool) (a : Result Bool Stop) : Type 0 where
    others : owner_of y ≢ Some d → w ≡ b → answers ≡ [] → a ≡ Ok false → Cleared b w answers a
    ours : owner_of y ≡ Some d → (c : PortValue) (r : Done) → TakesMarks f x b c answers r → After r c w a → Cleared b w answers a

  after_came : (r : Done) (c w : PortValue) (a : Result Bool Stop) → After r c w a → Came c w
  after_came r c w a (stopped e is same are) = subst (λ z. Came c z) (sym same) (came_self c)
  after_came r c w a (went is taken) = gives_came taken

  cleared_came : (b w : PortValue) (answers : List Bool) (a : Result Bool Stop) → Cleared b w answers a → Came b w
  cleared_came b w answers a (others off same none is) = subst (λ z. Came b z) (sym same) (came_self b)
  cleared_came b w answers a (ours own c r marks rest) = came_trans b c w (takes_marks_came marks) (after_came r c w a rest)

  stop_same : (e s : Stop) → ◌≡◌ {A = Done} (Err e) (Err s) → ◌≡◌ {A = Result Bool Stop} (Err e) (Err s)
  stop_same e s t = cc

  module _ (says : ℕ → Bool) (n : ℕ) where
    after_alike : (r : Done) (c w z : PortValue) (a b : Result Bool Stop) → After r c w a → After r c z b → Alike c w z (a ≡ b)
    after_alike r c w z a b (stopped e is same are) (stopped s also still were) = alike_same (same ∙ sym still) (are ∙ (stop_same e s (sym is ∙ also) ∙ sym were))
    after_alike r c w z a b (stopped e is same are) (went also taken) = absurd (let t = sym is ∙ also in cc)
    after_alike r c w z a b (went is taken) (stopped e also same are) = absurd (let t = sym is ∙ also in cc)
    after_alike r c w z a b (went is taken) (went also took) = gives_alike taken took

    cleared_alike : (o w z : PortValue) (answers asked : List Bool) (a b : Result Bool Stop) → GivesAnswers says n answers → GivesAnswers says n asked → Cleared o w answers a → Cleared o z asked b → Alike o w z ((answers ≡ asked) × (a ≡ b))
    cleared_alike o w z answers asked a b g h (others off same none is) (others out still nothing are) = alike_same (same ∙ sym still) (none ∙ sym nothing, is ∙ sym are)
    cleared_alike o w z answers asked a b g h (others off same none is) (ours own c r marks rest) = absurd (off own)
    cleared_alike o w z answers asked a b g h (ours own c r marks rest) (others off same none is) = absurd (off own)
    cleared_alike o w z answers asked a b g h (ours own c r marks rest) (ours also e s takes next) =
        alike_then (takes_marks_came marks) (after_came r c w a rest) (after_came s e z b next) (takes_marks_alike says n g h marks takes)
        (λ same k. alike_map (after_alike r c w z a b rest (subst (λ i. After i c z b) (sym k.1) (subst (λ i. After s i z b) (sym same) next))) (λ t. (k.0, t)))

data Clears (d f : ℕ) (u w : PortValue) (answers : List Bool) (a : Result Bool Stop) : Type 0 where
  clears : (o b : PortValue) (x y : ℕ) → Moves u o (Kind f) Load steps.Look None x → Moves o b (Refs f) Load steps.Look None y → Cleared d f x y b w answers a → Clears d f u w answers a

clears_by : {d f : ℕ} {u w : PortValue} {answers : List Bool} {a : Result Bool Stop} → ClearsFrame d f u w answers a → Clears d f u w answers a
clears_by (clearing.ClearsFrame.others o w x y see look off) = clears o w x y see look (others off refl refl refl)
clears_by (clearing.ClearsFrame.marked o b w x y answers e see look own marks) = clears o b x y see look (ours own w (Err e) marks (stopped e refl refl refl))
clears_by (clearing.ClearsFrame.unmarked o b c w x y answers a see look own marks taken) = clears o b x y see look (ours own c (Ok tt) marks (went refl taken))

by_came : {d f : ℕ} {u w : PortValue} {answers : List Bool} {a : Result Bool Stop} → Clears d f u w answers a → Came u w
by_came {d} {f} {u} {w} {answers} {a} (clears o b x y see look rest) = move_on w see (move_on w look (cleared_came d f x y b w answers a rest))

pub clears_came : {d f : ℕ} {u w : PortValue} {answers : List Bool} {a : Result Bool Stop} → ClearsFrame d f u w answers a → Came u w
clears_came p = by_came (clears_by p)

module _ (says : ℕ → Bool) (n : ℕ) where
  by_alike : {d f : ℕ} {u w z : PortValue} {answers others : List Bool} {a b : Result Bool Stop} → GivesAnswers says n answers → GivesAnswers says n others → Clears d f u w answers a → Clears d f u z others b → Alike u w z ((answers ≡ others) × (a ≡ b))
  by_alike {d} {f} {u} {w} {z} {answers} {others} {a} {b} g h (clears o c x y see look rest) (clears p e i j sees looks next) =
      alike_step see sees (move_on w look (cleared_came d f x y c w answers a rest)) (move_on z looks (cleared_came d f i j e z others b next))
      (λ s m. alike_step look (subst (λ k. Moves k e (Refs f) Load steps.Look None j) (sym s) looks) (cleared_came d f x y c w answers a rest) (cleared_came d f i j e z others b next)
      (λ t q. cleared_alike d f x y says n c w z answers others a b g h rest
      (subst (λ k. Cleared d f k y c z others b) (sym m) (subst (λ k. Cleared d f i k c z others b) (sym q) (subst (λ k. Cleared d f i j k z others b) (sym t) next)))))

  pub clears_alike : {d f : ℕ} {u w z : PortValue} {answers others : List Bool} {a b : Result Bool Stop} → GivesAnswers says n answers → GivesAnswers says n others → ClearsFrame d f u w answers a → ClearsFrame d f u z others b →
      Alike u w z ((answers ≡ others) × (a ≡ b))
  clears_alike g h p q = by_alike g h (clears_by p) (clears_by q)
