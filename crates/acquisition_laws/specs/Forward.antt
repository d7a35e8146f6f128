-- An acquisition goes forward: it gives no recorded entry back, and reads none again but the last.
use Rattle.std.specs.Prelude.{◌≡◌, ◌⊎◌, ◌+◌, ℕ, Bool, true, false, List, Option, Some}
use Rattle.xp_words.specs.declared.place.Place.TheVariants.{Cell}
use Rattle.xp_board.specs.declared.holdings.Holdings.{Holdings}
use Rattle.xp_board.specs.declared.holdings.Work.{Work}
use Rattle.xp_board.specs.declared.step.Act.TheVariants.{Load}
use Rattle.xp_board.specs.declared.step.Mark.{Mark}
use Rattle.xp_board.specs.declared.step.Mark.TheVariants.{Shed}
use Rattle.xp_board.specs.Hands.{work_on}
use Rattle.xp_board.specs.Lists.{EachOf}
use Rattle.xp_board.specs.Told.{PortValue}
use Rattle.step_maker.specs.Moves.{Moment, Ran}

-- entry j of frame g is the next one of a table in the own works, or the last recorded one
pub record IsAtEnd (h : Holdings) (g j : ℕ) : Type 0 where
  pub work : Work
  pub here : work_on g h.works ≡ Some work
  pub at_end : (j ≡ work.recorded) ⊎ (j + 1 ≡ work.recorded)

abbrev pub is_shed : Option Mark → Bool
is_shed (Some (Shed f upto)) = true
is_shed _ = false

-- one step
pub record GoesForward (m : Moment) : Type 0 where
  pub unshed : is_shed m.mark ≡ false
  pub looks : (g j : ℕ) → m.act ≡ Load → m.place ≡ Cell g j → IsAtEnd m.hand g j

-- each step from v to w
unfoldable pub Forward : PortValue → PortValue → Type 0
Forward v w = (ms : List Moment) × Ran v ms w × EachOf (λ m. GoesForward m) ms
