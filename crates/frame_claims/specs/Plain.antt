-- On a board that tells all words, where nobody else holds anything: which block a claim comes to, and how many reference words it looks at.
use Rattle.std.specs.Prelude.{◌≡◌, ℕ, ◌+◌, ◌*◌, ◌%◌, ◌<◌, ◌≤◌, true, List, [], ◌∷◌, slice_index, Result, Ok, Err}
use Rattle.xp_words.specs.Machine.{Machine}
use Rattle.xp_words.specs.declared.place.Place.{Place}
use Rattle.xp_words.specs.declared.place.Place.TheVariants.{Pages, Refs}
use Rattle.xp_words.specs.declared.reply.Pause.TheVariants.{Flush}
use Rattle.xp_words.specs.declared.reply.Refusal.TheVariants.{Clock, DomainFull, NoFree}
use Rattle.xp_words.specs.declared.reply.Stop.{Stop}
use Rattle.xp_words.specs.declared.reply.Stop.TheVariants.{Refused, Paused}
use Rattle.xp_board.specs.declared.step.Act.{Act}
use Rattle.xp_board.specs.declared.step.Act.TheVariants.{Load}
use Rattle.xp_board.specs.Readings.{is_free}
use Rattle.xp_board.specs.Sound.{is_hinted}
use Rattle.step_maker.specs.Plain.{Words}
use Rattle.step_maker.specs.Visits.{Visit}

-- ---- looks
-- how many loads of reference words there are
abbrev pub ref_look : Place → Act → ℕ
ref_look (Refs f) Load = 1
ref_look _ _ = 0

abbrev pub ref_looks : List Visit → ℕ
ref_looks [] = 0
ref_looks (s ∷ vs) = ref_look s.place s.act + ref_looks vs

-- ---- blocks
-- the bits in the map are those of the free frames
abbrev pub MapAgrees : Machine → Words → Type 0
MapAgrees n m = (f : ℕ) → f < n.frames → is_hinted m f ≡ is_free (m (Refs f))

abbrev pub IsWhollyFree : Words → ℕ → ℕ → Type 0
IsWhollyFree m k f = (j : ℕ) → j < k → is_free (m (Refs (f + j))) ≡ true

-- no aligned block of k frames below that one is wholly free
abbrev pub NoneBelow : Words → ℕ → ℕ → Type 0
NoneBelow m k f = (b : ℕ) → b * k < f → IsWhollyFree m k (b * k) → ⊥

-- the first aligned block that is
pub record IsFirstFree (n : Machine) (m : Words) (k f : ℕ) : Type 0 where
  pub aligned : f % k ≡ 0
  pub inside : f + k ≤ n.frames
  pub whole : IsWhollyFree m k f
  pub least : NoneBelow m k f

-- ---- the claim
-- d may have k pages more
abbrev pub HasRoom : Machine → Words → ℕ → ℕ → Type 0
HasRoom n m d k = m (Pages d) + k ≤ slice_index n.page_limit d

-- It takes the first block that is wholly free, or waits for that one; it is refused where the domain is full, or there is none; it is never lost.
abbrev pub ClaimsPlainly : Machine → Words → ℕ → ℕ → Result ℕ Stop → Type 0
ClaimsPlainly n m d k (Ok f) = HasRoom n m d k × IsFirstFree n m k f
ClaimsPlainly n m d k (Err (Refused (DomainFull p))) = (p ≡ m (Pages d)) × (HasRoom n m d k → ⊥)
ClaimsPlainly n m d k (Err (Refused NoFree)) = HasRoom n m d k × ((b : ℕ) → b * k + k ≤ n.frames → IsWhollyFree m k (b * k) → ⊥)
ClaimsPlainly n m d k (Err (Refused (Clock x))) = HasRoom n m d k × ((f : ℕ) × IsFirstFree n m k f)
ClaimsPlainly n m d k (Err (Paused (Flush u stamp x))) = HasRoom n m d k × ((f : ℕ) × IsFirstFree n m k f)
ClaimsPlainly n m d k (Err e) = ⊥
