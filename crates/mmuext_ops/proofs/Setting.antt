-- A new base, as an element.
use Rattle.std.proofs.Common.{◌≡◌, ℕ, Option, Some, Result, Ok, Err, IfErr}
use Rattle.xp_words.specs.declared.reply.Stop.{Stop}
use Rattle.xp_board.specs.Told.{PortValue}
use Rattle.step_maker.specs.Answers.{Stops}
use Rattle.level_validate.specs.Unwinding.{own_domain}
use Rattle.table_bases.specs.Asking.{ServesBase, StopsBase, may_rise, of_base, user_frame}
use Rattle.table_bases.specs.declared.words.Base.TheVariants.{Kernel, User}
use Rattle.mmuext_ops.specs.Elements.{ServesElement, told}
use Rattle.mmuext_ops.specs.declared.element.Element.TheVariants.{NewBase, NewUserBase}

module _ (v w : PortValue) (d f : ℕ) (own : d ≡ own_domain v) (awaited : Option ℕ) where
  pub kernel_serves : (answer : Result (Unit {0}) Stop) → ServesBase v w Kernel (Some f) answer → ServesElement v w d (NewBase f) awaited answer
  kernel_serves (Ok done) a = (_, told (NewBase f) (Ok done) tt, rw own a)
  kernel_serves (Err e) a = (_, told (NewBase f) (Err e) tt, rw own a)

  pub user_serves : (answer : Result (Unit {0}) Stop) → ServesBase v w User (user_frame f) answer → ServesElement v w d (NewUserBase f) awaited answer
  user_serves (Ok done) a = (_, told (NewUserBase f) (Ok done) tt, rw own a)
  user_serves (Err e) a = (_, told (NewUserBase f) (Err e) tt, rw own a)

  pub base_stops : (new : Option ℕ) (answer : Result (Unit {0}) Stop) → StopsBase v w new answer → IfErr answer (λ e. Stops v w (of_base d new (may_rise answer)) e)
  base_stops new (Ok done) a = tt
  base_stops new (Err e) a = rw own a
