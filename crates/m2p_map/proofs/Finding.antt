-- The steps by which a machine-to-physical word is set, over its calls.
use Rattle.std.proofs.Common.{◌≡◌, ℕ, None, Ok, subst}
use Rattle.xp_words.specs.declared.place.Place.TheVariants.{M2p}
use Rattle.xp_board.specs.declared.step.Act.TheVariants.{Store}
use Rattle.xp_board.specs.declared.step.StepKind.TheVariants as kinds
use Rattle.xp_board.specs.Told.{PortValue}
use Rattle.step_maker.specs.Moves.{Moves}
use Rattle.step_maker.specs.Visits.{Then, visit, Only}
use Rattle.step_maker.proofs.Visiting.{does_as, does_one, does_then}
use Rattle.frame_words.specs.Freeing.{PutBy, Puts}
use Rattle.frame_words.specs.Refs.{Gets, GetsBy}
use Rattle.m2p_map.specs.Found.{SetFound, StoresM2p}

module _ (v u x w : PortValue) (f owner gpfn other k : ℕ) (got : Gets {A = ℕ} v u f owner (Ok k)) where
  sets : Moves u x (M2p f) (Store gpfn) kinds.M2p None other → Puts x w f → SetFound v w f owner gpfn (Ok tt)
  sets store back =
      does_then v u w (λ gs. GetsBy {A = ℕ} v.post.machine f owner (Ok k) gs) (Then (StoresM2p f gpfn) (PutBy f)) got
      (does_then u x w (StoresM2p f gpfn) (PutBy f)
      (does_as u x (Only (visit (M2p f) (Store gpfn) other)) (StoresM2p f gpfn) (λ vs one. (other, one)) (does_one u x _ _ _ _ other store)) back)

  -- the frame g that was answered is frame f that was asked
  pub set_found : (g : ℕ) → g ≡ f → Moves u x (M2p g) (Store gpfn) kinds.M2p None other → Puts x w g → SetFound v w f owner gpfn (Ok tt)
  set_found g is store back = sets (subst (λ h. Moves u x (M2p h) (Store gpfn) kinds.M2p None other) is store) (subst (Puts x w) is back)
