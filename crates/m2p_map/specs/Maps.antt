-- The deeds of a machine-to-physical word that is set.
use Rattle.std.specs.Prelude.{ℕ, List, [], ◌∷◌, Result, Ok, Err}
use Rattle.xp_words.specs.Machine.{Machine}
use Rattle.xp_words.specs.declared.reply.Stop.{Stop}
use Rattle.xp_words.specs.declared.place.Place.TheVariants.{Refs, M2p}
use Rattle.xp_board.specs.declared.step.Act.TheVariants.{Store}
use Rattle.xp_board.specs.Told.{PortValue, told_word}
use Rattle.step_maker.specs.Plain.{Words, change}
use Rattle.step_maker.specs.Twins.{Twin}
use Rattle.frame_words.specs.Plain.{got, put, refer}
use Rattle.step_maker.specs.Answers.{Deed, SetsM2p, missed}

abbrev pub deeds_of : Machine → ℕ → ℕ → Result (Unit {0}) Stop → List Deed
deeds_of n f gpfn (Ok done) = SetsM2p f gpfn ∷ []
deeds_of n f gpfn (Err e) = missed n e

-- a reference, the word, and the reference back
abbrev pub set_word : ℕ → ℕ → Words → Words
set_word f gpfn m = put f (change (Store gpfn) (M2p f) (got f m))

abbrev pub TwinSet : PortValue → PortValue → ℕ → ℕ → ℕ → Result (Unit {0}) Stop → Type 0
TwinSet v w f owner gpfn answer = Twin v w (refer v.post.machine owner f (told_word v (Refs f))) (set_word f gpfn (told_word v)) answer
