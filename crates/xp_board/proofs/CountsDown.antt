-- A type count or an entry lock that a vCPU may give back: the frame is live and counted, and what its word says one count lower.
use Rattle.std.proofs.Common.{◌≡◌, ℕ, ◌+◌, ◌-◌, ◌%◌, ◌^◌, ◌<◌, true, false, ap, ◌∙◌, arith}
use Rattle.std.proofs.lemmas.Bool.{and_parts}
use Rattle.xp_words.specs.KindWords.{kind_fields}
use Rattle.xp_words.specs.Machine.{Machine}
use Rattle.xp_words.specs.declared.place.Place.{Place}
use Rattle.xp_words.specs.declared.place.Place.TheVariants.{Kind}
use Rattle.xp_words.specs.Places.{sizes_of}
use Rattle.xp_board.specs.declared.holdings.Holdings.{Holdings}
use Rattle.xp_board.specs.Readings.{kind_at}
use Rattle.xp_board.specs.Hands.{locks_on}
use Rattle.xp_board.specs.RefSteps.{one_down}
use Rattle.xp_board.specs.KindSteps.{MayDrop, unlocked_down}
use Rattle.xp_board.specs.Sound.{Sound}
use Rattle.xp_board.proofs.Counted.{typed_counted}
use Rattle.xp_board.proofs.Works.{is_locked-mine}
use Rattle.xp_board.proofs.KindForms.{fields_down, fields_unlocked}
use Rattle.xp_board.proofs.KindReadings.{live_count}

module _ (n : Machine) (m : Place → ℕ) (b : ℕ → Holdings) (sound : Sound n m b) (s : ℕ) (real : s < (sizes_of n).vcpus) (f : ℕ) where
  -- ---- a type count is given back
  module _ (drop : MayDrop n f (b s)) where
    pub drop_live : (kind_at m f).validated ≡ true
    drop_live = ((sound.found s real).lives f drop.kind drop.live).0

    pub drop_some : 0 < (kind_at m f).number
    drop_some =
        let counted = typed_counted (sizes_of n) m b s f real sound.counts in
        let number = live_count (kind_at m f) drop_live in
        let some = drop.in_hand in
        omega arith

    pub drop_word : (v : ℕ) → v ≡ (m (Kind f) + one_down) % 2 ^ 64 → kind_fields v ≡ record (kind_at m f) { number = (kind_at m f).number - 1 }
    drop_word v is = ap kind_fields is ∙ fields_down (m (Kind f)) (sound.spelled.small (Kind f)) drop_some

  -- ---- an entry lock
  module _ (held : 0 < locks_on f (b s).locks) where
    pub lock_live : (kind_at m f).validated ≡ true
    lock_live = (and_parts (kind_at m f).validated (kind_at m f).locked (is_locked-mine n m b sound.alone f s real held)).0

    pub lock_set : (kind_at m f).locked ≡ true
    lock_set = (and_parts (kind_at m f).validated (kind_at m f).locked (is_locked-mine n m b sound.alone f s real held)).1

    pub lock_some : 0 < (kind_at m f).number
    lock_some =
        let counted = typed_counted (sizes_of n) m b s f real sound.counts in
        let number = live_count (kind_at m f) lock_live in
        omega arith

    pub unlock_word : (v : ℕ) → v ≡ (m (Kind f) + unlocked_down) % 2 ^ 64 → kind_fields v ≡ record (kind_at m f) { number = (kind_at m f).number - 1; locked = false }
    unlock_word v is = ap kind_fields is ∙ fields_unlocked (m (Kind f)) (sound.spelled.small (Kind f)) lock_some lock_set
