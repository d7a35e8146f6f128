-- Type counts given back: the word that was found, and what is left in hand.
use Rattle.std.specs.Prelude.{◌≡◌, ℕ, ◌<◌, ◌==◌, if◌then◌else◌, Bool, false, ◌∷◌, None, IsTrue}
use Rattle.xp_words.specs.Places.{sizes_of}
use Rattle.xp_words.specs.KindWords.{kind_fields}
use Rattle.xp_words.specs.PageTypes.{is_table}
use Rattle.xp_words.specs.declared.kind.PageType.{PageType}
use Rattle.xp_words.specs.declared.place.Place.TheVariants.{Kind}
use Rattle.xp_board.specs.declared.holdings.Holdings.{Holdings}
use Rattle.xp_board.specs.declared.holdings.Work.{Work}
use Rattle.xp_board.specs.declared.step.Act.TheVariants.{Add}
use Rattle.xp_board.specs.declared.step.StepKind.TheVariants as kinds
use Rattle.xp_board.specs.Acts.{left_by}
use Rattle.xp_board.specs.Hands.{typed_owner, without_typed, work_on}
use Rattle.xp_board.specs.Knowledge.{knows_live}
use Rattle.xp_board.specs.KindSteps.{new_work}
use Rattle.xp_board.specs.Readings.{is_live}
use Rattle.xp_board.specs.RefSteps.{one_down}
use Rattle.xp_board.specs.Told.{PortValue}
use Rattle.step_maker.specs.Holds.{Holds}
use Rattle.step_maker.specs.Moves.{Moves}

-- The type count went down from that word, which was live and not marked, with each type that the vCPU knew of the frame, and which the vCPU did not work on.
pub record LowersFrom (v w : PortValue) (f found : ℕ) : Type 0 where
  pub step : Moves v w (Kind f) (Add one_down) kinds.Kind None found
  pub live : IsTrue (is_live (kind_fields found))
  pub counted : 0 < (kind_fields found).number
  pub unmarked : (kind_fields found).unflushed ≡ false
  pub kind : (t : PageType) → IsTrue (knows_live (sizes_of v.post.machine) f t v.holdings) → (kind_fields found).kind ≡ t
  pub apart : work_on f v.holdings.works ≡ None

-- a typed reference became an untyped one
abbrev pub uncounted : ℕ → Holdings → Holdings
uncounted f h = record h { refs = record { frame = f; owner = typed_owner f h } ∷ h.refs; typed = without_typed f h.typed }

-- a frame that is closing since its last type count was given back from that word: all entries of a table are recorded
abbrev pub closing_from : ℕ → ℕ → Holdings → Work
closing_from f found h = new_work f (left_by (Add one_down) found) (if is_table (kind_fields found).kind then 512 else 0) None h

abbrev pub closing_in : ℕ → ℕ → Holdings → Holdings
closing_in f found h = record (uncounted f h) { works = closing_from f found h ∷ h.works }

-- whether it was the last: the word that was found, and the hand after
pub record DropsType (v w : PortValue) (f : ℕ) (last : Bool) : Type 0 where
  pub found : ℕ
  pub lowers : LowersFrom v w f found
  pub counts : last ≡ ((kind_fields found).number == 1)
  pub hand : Holds v w (if last then closing_in f found v.holdings else uncounted f v.holdings)
