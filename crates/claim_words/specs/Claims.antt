-- Pages that are counted before there are frames for them, and frames that are taken from the free ones for the own domain.
use Rattle.std.specs.Prelude.{◌≡◌, ℕ, List, [], ◌∷◌}
use Rattle.xp_board.specs.declared.holdings.Claimed.{Claimed}
use Rattle.xp_board.specs.declared.holdings.Holdings.{Holdings}
use Rattle.xp_board.specs.Lists.{with_more, with_fewer, without_by}

-- ---- pages without a frame
abbrev pub charged : ℕ → ℕ → Holdings → Holdings
charged k d h = record h { credits = with_more k d h.credits }

abbrev pub uncharged : ℕ → ℕ → Holdings → Holdings
uncharged k d h = record h { credits = with_fewer k d h.credits }

-- ---- the newest of the claimed frames
-- it is f, and was taken with that stamp; nothing else is in hand that would decide about the frame
pub record IsNewest (f stamp : ℕ) (h : Holdings) : Type 0 where
  pub claim : Claimed
  pub others : List Claimed
  pub newest : h.claimed ≡ claim ∷ others
  pub frame : claim.frame ≡ f
  pub stamped : claim.stamp ≡ stamp
  pub no_ending : h.ending ≡ []

-- its bit is the newest of the raised ones
pub record IsRaised (f : ℕ) (h : Holdings) : Type 0 where
  pub others : List ℕ
  pub newest : h.raised ≡ f ∷ others

-- its cells below i are scrubbed
pub record MayScrub (f i : ℕ) (h : Holdings) : Type 0 where
  pub claim : Claimed
  pub others : List Claimed
  pub newest : h.claimed ≡ claim ∷ others
  pub frame : claim.frame ≡ f
  pub scrubbed : claim.scrubbed ≡ i
  pub no_works : h.works ≡ []
  pub no_locks : h.locks ≡ []

abbrev pub behind_newest : {A : Type 0} → List A → List A
behind_newest [] = []
behind_newest (x ∷ xs) = xs

abbrev pub scrubbed_to : ℕ → List Claimed → List Claimed
scrubbed_to i [] = []
scrubbed_to i (c ∷ cs) = record c { scrubbed = i } ∷ cs

-- ---- what the steps leave
-- the frame is taken, by the step of that number
abbrev pub taken_at : ℕ → ℕ → ℕ → ℕ → Holdings → Holdings
taken_at now f stamp d h =
    record h {
      claimed = record { frame = f; stamp = stamp; scrubbed = 0; since = now } ∷ h.claimed;
      raised = f ∷ h.raised;
      credits = without_by (λ e. e) d h.credits;
    }

-- the newest is free again, and its page counts without a frame
abbrev pub freed_again : ℕ → Holdings → Holdings
freed_again d h = record h { claimed = behind_newest h.claimed; raised = behind_newest h.raised; credits = d ∷ h.credits }

abbrev pub scrubbed_newest : ℕ → Holdings → Holdings
scrubbed_newest i h = record h { claimed = scrubbed_to i h.claimed }

abbrev pub lowered_newest : Holdings → Holdings
lowered_newest h = record h { raised = behind_newest h.raised }

abbrev pub given_newest : Holdings → Holdings
given_newest h = record h { claimed = behind_newest h.claimed }
