-- What single steps found.
use Rattle.std.proofs.Common.{ℕ, Option, refl}
use Rattle.xp_words.specs.declared.place.Place.{Place}
use Rattle.xp_board.specs.declared.step.Act.{Act}
use Rattle.xp_board.specs.declared.step.Mark.{Mark}
use Rattle.xp_board.specs.declared.step.StepKind.{StepKind}
use Rattle.xp_board.specs.Told.{PortValue}
use Rattle.step_maker.specs.Moves.{Moves, Came, Met}
use Rattle.step_maker.proofs.Coming.{moment_of, moves_met, met_before, met_after}
use Rattle.step_maker.specs.Finding.{FoundAt, Did}

module _ (v w : PortValue) (p : Place) (a : Act) (k : StepKind) (mark : Option Mark) (x : ℕ) (m : Moves v w p a k mark x) where
  pub moves_found : FoundAt (Met v w) p x
  unfolding moment_of
  moves_found = record { moment = moment_of v p a k mark x; was = moves_met v w p a k mark x m; place = refl; word = refl }

  pub moves_did : Did (Met v w) p a x
  unfolding moment_of
  moves_did = record { moment = moment_of v p a k mark x; was = moves_met v w p a k mark x m; place = refl; act = refl; word = refl }

pub found_before : (v u w : PortValue) (p : Place) (x : ℕ) → Came u w → FoundAt (Met v u) p x → FoundAt (Met v w) p x
found_before v u w p x came a = record { moment = a.moment; was = met_before v u w a.moment a.was came; place = a.place; word = a.word }

pub found_after : (v u w : PortValue) (p : Place) (x : ℕ) → Came v u → FoundAt (Met u w) p x → FoundAt (Met v w) p x
found_after v u w p x came a = record { moment = a.moment; was = met_after v u w a.moment came a.was; place = a.place; word = a.word }
