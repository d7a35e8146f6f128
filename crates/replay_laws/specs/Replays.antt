-- Lists of visits, done again on words alone: no port, no hand. As in all lists of visits the newest stands first.
use Rattle.std.specs.Prelude.{◌≡◌, List, [], ◌∷◌}
use Rattle.xp_words.specs.declared.place.Place.{Place}
use Rattle.step_maker.specs.Plain.{Words, change}
use Rattle.step_maker.specs.Visits.{Visit}

abbrev pub SameWords : Words → Words → Type 0
SameWords m w = (q : Place) → w q ≡ m q

-- from the words m the list comes to the words w: each visit finds the word that stands there, and leaves what its act makes of it
abbrev pub Replays : Words → List Visit → Words → Type 0
Replays m [] w = SameWords m w
Replays m (x ∷ xs) w = (u : Words) × Replays m xs u × (u x.place ≡ x.found) × SameWords (change x.act x.place u) w

-- what the acts of a list leave of the words m, whatever the visits say that they found
abbrev pub left_behind : List Visit → Words → Words
left_behind [] m = m
left_behind (x ∷ xs) m = change x.act x.place (left_behind xs m)

-- each visit says that it found what the acts before it left there
abbrev pub FindsEach : Words → List Visit → Type 0
FindsEach m [] = Unit {0}
FindsEach m (x ∷ xs) = FindsEach m xs × (left_behind xs m x.place ≡ x.found)

-- some list that is like that comes from m to w
pub record ReplaysAs (m : Words) (P : List Visit → Type 0) (w : Words) : Type 0 where
  pub list : List Visit
  pub like : P list
  pub replays : Replays m list w
