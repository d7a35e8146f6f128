-- Blocks of frames that are claimed: what is in hand of them, and what is asked.
use Rattle.std.specs.Prelude.{◌≡◌, ℕ, suc, zero, ◌+◌, ◌-◌, ◌*◌, ◌/◌, ◌%◌, ◌^◌, ◌<◌, ◌≤◌, List, [], ◌∷◌, Option, Some, None, IsTrue}
use Rattle.xp_board.specs.declared.holdings.Claimed.{Claimed}
use Rattle.xp_board.specs.declared.holdings.Holdings.{Holdings}
use Rattle.xp_board.specs.Lists.{times, with_more}
use Rattle.xp_board.specs.Told.{PortValue}
use Rattle.step_maker.specs.Holds.{Holds}
use Rattle.step_maker.specs.Answers.{Deed, Gives, Serves}
use Rattle.step_maker.specs.Asked.{Request}
use Rattle.claim_words.specs.Claims.{behind_newest}

-- ---- what is asked
-- a call that takes pages, and may take these frames for them
pub record IsBlockOf (r : Request) (first n : ℕ) : Type 0 where
  pub number : ℕ
  pub pages : r.pages ≡ Some number
  pub names : (f : ℕ) → first ≤ f → f < first + n → IsTrue (r.names f)

-- the steps from v to w serve each such call, and a guest sees these deeds of them
abbrev pub ServesBlock : PortValue → PortValue → ℕ → ℕ → List Deed → Type 0
ServesBlock v w first n ds = (r : Request) → IsBlockOf r first n → Serves v w r ds

-- frames given, from `first` on, the newest in front
abbrev pub given_deeds : ℕ → ℕ → List Deed
given_deeds first zero = []
given_deeds first (suc k) = Gives (first + k) ∷ given_deeds first k

-- ---- what is in hand
-- the frames from `at` on, one for each stamp, with none of their cells scrubbed
unfoldable pub IsRow : ℕ → List ℕ → List Claimed → Type 0
IsRow at [] [] = Unit {0}
IsRow at (s ∷ ss) (c ∷ cs) = (c.frame ≡ at) × (c.stamp ≡ s) × (c.scrubbed ≡ 0) × IsRow (at + 1) ss cs
IsRow at _ _ = ⊥

unfoldable pub rising : ℕ → List ℕ → List ℕ
rising at [] = []
rising at (s ∷ ss) = at ∷ rising (at + 1) ss

-- nothing else that a frame's words are about
pub record IsPlain (h : Holdings) : Type 0 where
  pub refs : h.refs ≡ []
  pub typed : h.typed ≡ []
  pub works : h.works ≡ []
  pub locks : h.locks ≡ []
  pub ending : h.ending ≡ []

abbrev pub holding : List Claimed → List ℕ → List ℕ → Holdings → Holdings
holding claims bits credits h = record h { claimed = claims; raised = bits; credits = credits }

-- w is the port v, which has claimed the frames from `at` on, one for each stamp, with their bits set, and has counted so many pages of d without a frame
pub record HasRow (v w : PortValue) (at : ℕ) (stamps : List ℕ) (d credits : ℕ) : Type 0 where
  pub claims : List Claimed
  pub row : IsRow at stamps claims
  pub hand : Holds v w (holding claims (rising at stamps) (with_more credits d []) v.holdings)

-- the newest of the claimed frames is f, with that stamp and none of its cells scrubbed; its bit is set, and no other one of it
pub record IsHead (f stamp : ℕ) (h : Holdings) : Type 0 where
  pub claim : Claimed
  pub others : List Claimed
  pub bits : List ℕ
  pub newest : h.claimed ≡ claim ∷ others
  pub frame : claim.frame ≡ f
  pub stamped : claim.stamp ≡ stamp
  pub scrubbed : claim.scrubbed ≡ 0
  pub raised : h.raised ≡ f ∷ bits
  pub once : times f bits ≡ 0
  pub plain : IsPlain h

-- it is given
abbrev pub without_head : Holdings → Holdings
without_head h = record h { claimed = behind_newest h.claimed; raised = behind_newest h.raised }

-- the machine-to-physical word of the frame with that number in its block, whose first page has that number; 2^64 - 1 for none
abbrev pub numbered : Option ℕ → ℕ → ℕ
numbered (Some first) at = first + at
numbered None at = 2 ^ 64 - 1

-- ---- sizes
-- how many frames a block may have: parts of a word of the map, or whole words
pub record IsBlockSize (k : ℕ) : Type 0 where
  pub some : 0 < k
  pub few : k ≤ 512
  pub whole : 64 < k → 64 * (k / 64) ≡ k
  pub parts : k ≤ 64 → 64 % k ≡ 0
