-- The steps of the calls that leave a frame or give a type of it back.
use Rattle.std.proofs.Common.{◌≡◌, ℕ, ◌==◌, Bool, true, false, None, sym, subst}
use Rattle.xp_words.specs.KindWords.{kind_fields, kind_write}
use Rattle.xp_words.specs.declared.kind.KindWord.{KindWord}
use Rattle.xp_words.specs.declared.kind.PageType.{PageType}
use Rattle.xp_words.specs.declared.place.Place.TheVariants.{Clock, Kind}
use Rattle.xp_board.specs.declared.step.Act.TheVariants.{Add, Load, Store}
use Rattle.xp_board.specs.declared.step.StepKind.TheVariants as kinds
use Rattle.xp_board.specs.RefSteps.{one_down}
use Rattle.xp_board.specs.Told.{PortValue}
use Rattle.step_maker.specs.Moves.{Moves}
use Rattle.step_maker.specs.Visits.{visit, Does, Only, Then, Where}
use Rattle.step_maker.proofs.Visiting.{does_as, does_nothing, does_one, does_then}
use Rattle.frame_words.specs.Freeing.{PutBy, Puts}
use Rattle.kind_words.specs.Kinds.{dead_kind, partial_kind}
use Rattle.frame_types.specs.Found.{DeadBy, Dies, DropsBy, DropsPlain, SharedBy, StoresKind}

-- a kind word is left
pub stores : (v d : PortValue) (f x : ℕ) (k : KindWord) → Moves v d (Kind f) (Store (kind_write k)) kinds.Kind None x → Does v d (StoresKind f k)
stores v d f x k store = does_as v d _ (StoresKind f k) (λ vs one. (x, one)) (does_one v d _ _ _ _ x store)

-- the clock is loaded, and the frame left dead with that stamp
pub dies : (v a d : PortValue) (f x clock : ℕ) (want : PageType) (marked : Bool) → Moves v a Clock Load kinds.Look None clock → Moves a d (Kind f) (Store (kind_write (dead_kind want marked clock))) kinds.Kind None x → Does v d (Dies f want marked)
dies v a d f x clock want marked look store =
    let k = dead_kind want marked clock in
    does_as v d _ (Dies f want marked) (λ vs steps. (clock, steps)) (does_then v a d (Only (visit Clock Load clock)) (StoresKind f k) (does_one v a _ _ _ _ clock look) (stores a d f x k store))

-- ---- a frame that waits is left
pub shared_steps : (v d w : PortValue) (f x stamp : ℕ) (want : PageType) → Moves v d (Kind f) (Store (kind_write (partial_kind want false true 0 stamp))) kinds.Kind None x → Puts d w f → Does v w (λ vs. SharedBy f want stamp vs)
shared_steps v d w f x stamp want store back =
    let k = partial_kind want false true 0 stamp in does_then v d w (StoresKind f k) (PutBy f) (stores v d f x k store) back

pub dead_steps : (v a d w : PortValue) (f x clock : ℕ) (want : PageType) → Moves v a Clock Load kinds.Look None clock → Moves a d (Kind f) (Store (kind_write (dead_kind want true clock))) kinds.Kind None x → Puts d w f →
    Does v w (λ vs. DeadBy f want vs)
dead_steps v a d w f x clock want look store back = does_then v d w (Dies f want true) (PutBy f) (dies v a d f x clock want true look store) back

-- ---- a type is given back
module _ (v a w : PortValue) (f found : ℕ) (kind : PageType) (lower : Moves v a (Kind f) (Add one_down) kinds.Kind None found) where
  drops_by : (d : PortValue) → Does a d (λ vs. Where ((kind_fields found).number == 1) (Dies f kind false) vs) → Puts d w f → DropsPlain v w f kind
  drops_by d ends back =
      does_as v w _ (DropsBy f kind) (λ vs steps. (found, steps))
      (does_then v a w (Only (visit (Kind f) (Add one_down) found)) (Then (Where ((kind_fields found).number == 1) (Dies f kind false)) (PutBy f)) (does_one v a _ _ _ _ found lower)
      (does_then a d w (Where ((kind_fields found).number == 1) (Dies f kind false)) (PutBy f) ends back))

  pub more_drops : ((kind_fields found).number == 1) ≡ false → Puts a w f → DropsPlain v w f kind
  more_drops more back = drops_by a (subst (λ b. Does a a (λ vs. Where b (Dies f kind false) vs)) (sym more) (does_nothing a)) back

  pub last_drops : (b d : PortValue) (clock x : ℕ) → ((kind_fields found).number == 1) ≡ true → Moves a b Clock Load kinds.Look None clock → Moves b d (Kind f) (Store (kind_write (dead_kind kind false clock))) kinds.Kind None x →
      Puts d w f → DropsPlain v w f kind
  last_drops b d clock x last look store back = drops_by d (subst (λ y. Does a d (λ vs. Where y (Dies f kind false) vs)) (sym last) (dies a b d f x clock kind false look store)) back
