-- The marks of one frame are taken off: by what is found.
use Rattle.std.proofs.Common.{◌≡◌, ◌≢◌, ◌⊎◌, ℕ, Bool, true, false, List, [], None, Ok, Err, refl, sym, ◌∙◌, subst, inl, inr}
use Rattle.xp_words.specs.KindWords.{kind_fields, kind_write}
use Rattle.xp_words.specs.Machine.{Machine}
use Rattle.xp_words.specs.Places.{number, sizes_of}
use Rattle.xp_words.specs.declared.kind.KindWord.{KindWord}
use Rattle.xp_words.specs.declared.kind.PageType.TheVariants.{Desc}
use Rattle.xp_words.specs.declared.place.Place.TheVariants.{Kind}
use Rattle.xp_words.specs.declared.reply.Pause.TheVariants.{Lost}
use Rattle.xp_words.specs.declared.reply.Stop.TheVariants.{Paused}
use Rattle.xp_preempt.specs.Gates.{GivesAnswers}
use Rattle.xp_board.specs.Told.{PortValue}
use Rattle.xp_board.specs.declared.step.Act.TheVariants.{Cas}
use Rattle.xp_board.specs.declared.step.StepKind.TheVariants as steps
use Rattle.step_maker.specs.Moves.{Came, Moves}
use Rattle.step_maker.specs.Visits.{Does, Then}
use Rattle.step_maker.proofs.Coming.{came_self}
use Rattle.frame_words.specs.Freeing.{PutBy}
use Rattle.frame_types.specs.Found.{Dies}
use Rattle.domain_destroy.specs.Clearing as clearing
use Rattle.domain_destroy.specs.Clearing.{TakesMarks, Unmarked}
use Rattle.domain_destroy.specs.Emptying.{LetsGo}
use Rattle.determined_laws.specs.Courses.{Alike}
use Rattle.determined_laws.proofs.Courses.{alike_map, alike_same}
use Rattle.determined_releases.proofs.Calls.{alike_step, dead_alike, dead_came, move_on}
use Rattle.determined_releases.proofs.Emptying.{Done, lets_go_alike, lets_go_came}

-- ---- the word without the mark that it has
unmarked_same : (k l m : KindWord) → Unmarked k l → Unmarked k m → l ≡ m
unmarked_same k _ _ (clearing.Unmarked.unpinned a) (clearing.Unmarked.unpinned b) = refl
unmarked_same k _ _ (clearing.Unmarked.unpinned a) (clearing.Unmarked.unkept b c d) = absurd (let e = sym a ∙ b in cc)
unmarked_same k _ _ (clearing.Unmarked.unpinned a) (clearing.Unmarked.page b c d) = absurd (let e = sym a ∙ b in cc)
unmarked_same k _ _ (clearing.Unmarked.unkept b c d) (clearing.Unmarked.unpinned a) = absurd (let e = sym a ∙ b in cc)
unmarked_same k _ _ (clearing.Unmarked.unkept a b c) (clearing.Unmarked.unkept d e f) = refl
unmarked_same k _ _ (clearing.Unmarked.unkept a b c) (clearing.Unmarked.page d e f) = absurd (c f)
unmarked_same k _ _ (clearing.Unmarked.page b c d) (clearing.Unmarked.unpinned a) = absurd (let e = sym a ∙ b in cc)
unmarked_same k _ _ (clearing.Unmarked.page a b c) (clearing.Unmarked.unkept d e f) = absurd (f c)
unmarked_same k _ _ (clearing.Unmarked.page a b c) (clearing.Unmarked.page d e f) = refl

some_mark : {A : Type 0} (k l : KindWord) → Unmarked k l → k.pinned ≡ false → k.kept ≡ false → A
some_mark k _ (clearing.Unmarked.unpinned a) off none = absurd (let e = sym a ∙ off in cc)
some_mark k _ (clearing.Unmarked.unkept a b c) off none = absurd (let e = sym b ∙ none in cc)
some_mark k _ (clearing.Unmarked.page a b c) off none = absurd (let e = sym b ∙ none in cc)

module _ (n : Machine) (f x : ℕ) where
  abbrev word : KindWord
  word = kind_fields x

  -- ---- behind the exchange, which found that word
  data Behind (found : ℕ) (o w : PortValue) (answers : List Bool) (a : Done) : Type 0 where
    lets : found ≡ x → (word.pinned ≡ true) ⊎ (word.kind ≢ Desc) → LetsGo f o w answers a → Behind found o w answers a
    page : found ≡ x → word.pinned ≡ false → word.kind ≡ Desc → Does o w (λ vs. Then (Dies f Desc word.unflushed) (PutBy f) vs) → answers ≡ [] → a ≡ Ok tt → Behind found o w answers a
    lost : found ≢ x → w ≡ o → answers ≡ [] → a ≡ Err (Paused (Lost (number (sizes_of n) (Kind f)) x found)) → Behind found o w answers a

  data TakenBy (u w : PortValue) (answers : List Bool) (a : Done) : Type 0 where
    bare : word.pinned ≡ false → word.kept ≡ false → w ≡ u → answers ≡ [] → a ≡ Ok tt → TakenBy u w answers a
    swapped : (o : PortValue) (new : KindWord) (found : ℕ) → Unmarked word new → Moves u o (Kind f) (Cas x (kind_write new)) steps.Kind None found → Behind found o w answers a → TakenBy u w answers a

  behind_came : (found : ℕ) (o w : PortValue) (answers : List Bool) (a : Done) → Behind found o w answers a → Came o w
  behind_came found o w answers a (lets is how go) = lets_go_came f o w answers a go
  behind_came found o w answers a (page is off desc dies none ok) = dead_came o w f Desc word.unflushed dies
  behind_came found o w answers a (lost off same none is) = subst (λ z. Came o z) (sym same) (came_self o)

  taken_came : (u w : PortValue) (answers : List Bool) (a : Done) → TakenBy u w answers a → Came u w
  taken_came u w answers a (bare off none same nothing is) = subst (λ z. Came u z) (sym same) (came_self u)
  taken_came u w answers a (swapped o new found mark step rest) = move_on w step (behind_came found o w answers a rest)

  no_page : {A : Type 0} → (word.pinned ≡ true) ⊎ (word.kind ≢ Desc) → word.pinned ≡ false → word.kind ≡ Desc → A
  no_page (inl on) off desc = absurd (let e = sym on ∙ off in cc)
  no_page (inr other) off desc = absurd (other desc)

  module _ (says : ℕ → Bool) (k : ℕ) (w y : PortValue) (answers others : List Bool) (a b : Done) (g : GivesAnswers says k answers) (h : GivesAnswers says k others) where
    abbrev Both : PortValue → Type 0
    Both v = Alike v w y ((answers ≡ others) × (a ≡ b))

    behind_alike : (found : ℕ) (o : PortValue) → Behind found o w answers a → Behind found o y others b → Both o
    behind_alike found o (lets is how go) (lets are who goes) = lets_go_alike says k g h f o w y go goes
    behind_alike found o (lets is how go) (page are off desc dies none ok) = no_page how off desc
    behind_alike found o (lets is how go) (lost off same none stop) = absurd (off is)
    behind_alike found o (page is off desc dies none ok) (lets are who goes) = no_page who off desc
    behind_alike found o (page is off desc dies none ok) (page are out also died nothing done) = alike_map (dead_alike o w f Desc word.unflushed y dies died) (λ e. (none ∙ sym nothing, ok ∙ sym done))
    behind_alike found o (page is off desc dies none ok) (lost out same nothing stop) = absurd (out is)
    behind_alike found o (lost off same none stop) (lets is how go) = absurd (off is)
    behind_alike found o (lost off same none stop) (page is out desc dies nothing ok) = absurd (off is)
    behind_alike found o (lost off same none stop) (lost out still nothing halt) = alike_same (same ∙ sym still) (none ∙ sym nothing, stop ∙ sym halt)

    taken_alike : (u : PortValue) → TakenBy u w answers a → TakenBy u y others b → Both u
    taken_alike u (bare off none same nothing is) (bare out bare' still empty are) = alike_same (same ∙ sym still) (nothing ∙ sym empty, is ∙ sym are)
    taken_alike u (bare off none same nothing is) (swapped o new found mark step rest) = some_mark word new mark off none
    taken_alike u (swapped o new found mark step rest) (bare off none same nothing is) = some_mark word new mark off none
    taken_alike u (swapped o new found mark step rest) (swapped p other met also swap more) =
        alike_step step (subst (λ z. Moves u p (Kind f) (Cas x (kind_write z)) steps.Kind None met) (sym (unmarked_same word new other mark also)) swap)
        (behind_came found o w answers a rest) (behind_came met p y others b more)
        (λ e m. behind_alike found o rest (subst (λ z. Behind found z y others b) (sym e) (subst (λ z. Behind z p y others b) (sym m) more)))

-- ---- the kind word's marks
taken_by : {f x : ℕ} {u w : PortValue} {answers : List Bool} {a : Done} → TakesMarks f x u w answers a → TakenBy u.post.machine f x u w answers a
taken_by (clearing.TakesMarks.none off out) = bare off out refl refl refl
taken_by {f} {x} (clearing.TakesMarks.unpinned o w answers a on swap go) = swapped o _ x (clearing.Unmarked.unpinned on) swap (lets refl (inl on) go)
taken_by {f} {x} (clearing.TakesMarks.unkept o w answers a off on other swap go) = swapped o _ x (clearing.Unmarked.unkept off on other) swap (lets refl (inr other) go)
taken_by {f} {x} (clearing.TakesMarks.page o w off on desc swap dies) = swapped o _ x (clearing.Unmarked.page off on desc) swap (page refl off desc dies refl refl)
taken_by {f} {x} (clearing.TakesMarks.lost w new found mark off swap) = swapped w new found mark swap (lost off refl refl refl)

pub takes_marks_came : {f x : ℕ} {u w : PortValue} {answers : List Bool} {a : Done} → TakesMarks f x u w answers a → Came u w
takes_marks_came {f} {x} {u} {w} {answers} {a} p = taken_came u.post.machine f x u w answers a (taken_by p)

pub takes_marks_alike : {f x : ℕ} {u w y : PortValue} {answers others : List Bool} {a b : Done} (says : ℕ → Bool) (n : ℕ) → GivesAnswers says n answers → GivesAnswers says n others →
    TakesMarks f x u w answers a → TakesMarks f x u y others b → Alike u w y ((answers ≡ others) × (a ≡ b))
takes_marks_alike {f} {x} {u} {w} {y} {answers} {others} {a} {b} says n g h p q = taken_alike u.post.machine f x says n w y answers others a b g h u (taken_by p) (taken_by q)
