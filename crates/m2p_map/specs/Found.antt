-- A machine-to-physical word by the steps, on any board: the answer, by the reference word that was found.
use Rattle.std.specs.Prelude.{ℕ, List, Result, Ok, Err}
use Rattle.xp_words.specs.Machine.{Machine}
use Rattle.xp_words.specs.declared.place.Place.TheVariants.{M2p}
use Rattle.xp_words.specs.declared.reply.Stop.{Stop}
use Rattle.xp_board.specs.declared.step.Act.TheVariants.{Store}
use Rattle.xp_board.specs.Told.{PortValue}
use Rattle.step_maker.specs.Visits.{Visit, visit, Does, Only, Then}
use Rattle.frame_words.specs.Freeing.{PutBy}
use Rattle.frame_words.specs.Refs.{GetsBy}

abbrev pub StoresM2p : ℕ → ℕ → List Visit → Type 0
StoresM2p f gpfn vs = (found : ℕ) × Only (visit (M2p f) (Store gpfn) found) vs

-- a reference, the word, and the reference given back
abbrev pub MapsBy : Machine → ℕ → ℕ → ℕ → Result (Unit {0}) Stop → List Visit → Type 0
MapsBy n f owner gpfn (Ok done) vs = Then (λ gs. GetsBy {A = ℕ} n f owner (Ok f) gs) (Then (StoresM2p f gpfn) (PutBy f)) vs
MapsBy n f owner gpfn (Err e) vs = GetsBy {A = ℕ} n f owner (Err e) vs

abbrev pub SetFound : PortValue → PortValue → ℕ → ℕ → ℕ → Result (Unit {0}) Stop → Type 0
SetFound v w f owner gpfn answer = Does v w (λ vs. MapsBy v.post.machine f owner gpfn answer vs)
