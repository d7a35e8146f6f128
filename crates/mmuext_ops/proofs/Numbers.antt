-- An element that its numbers alone refuse.
use Rattle.std.proofs.Common.{ℕ, [], Option, Err, refl}
use Rattle.xp_words.specs.declared.reply.Refusal.TheVariants.{BadCommand}
use Rattle.xp_words.specs.declared.reply.Stop.TheVariants.{Refused}
use Rattle.xp_board.specs.Told.{PortValue}
use Rattle.step_maker.specs.Answers.{Stops}
use Rattle.step_maker.proofs.Piecing.{serves_nothing}
use Rattle.mmuext_ops.specs.Elements.{ServesElement, ext_request, told}
use Rattle.mmuext_ops.specs.declared.element.Element.TheVariants.{Unknown}

module _ (v : PortValue) (d : ℕ) (awaited : Option ℕ) where
  pub unknown_serves : ServesElement v v d Unknown awaited (Err (Refused BadCommand))
  unknown_serves = ([], told Unknown (Err (Refused BadCommand)) tt, serves_nothing v (ext_request v.post.machine v.post.vcpu d Unknown awaited (Err (Refused BadCommand))))

  pub unknown_stops : Stops v v (ext_request v.post.machine v.post.vcpu d Unknown awaited (Err (Refused BadCommand))) (Refused BadCommand)
  unfolding Stops
  unknown_stops = refl
