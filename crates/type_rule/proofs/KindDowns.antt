-- Type counts and entry locks given back: what entries lead to stays.
use Rattle.std.proofs.Common.{◌≡◌, ◌≢◌, ℕ, ◌<◌, IsTrue, refl, ◌∙◌, ap}
use Rattle.xp_words.specs.Machine.{Machine}
use Rattle.xp_words.specs.declared.place.Place.{Place}
use Rattle.xp_words.specs.declared.place.Place.TheVariants.{Kind}
use Rattle.xp_words.specs.Places.{sizes_of}
use Rattle.xp_board.specs.declared.step.Step.{Step}
use Rattle.xp_board.specs.declared.holdings.Holdings.{Holdings}
use Rattle.xp_board.specs.Readings.{kind_at, is_live}
use Rattle.xp_board.specs.Valid.{Valid, Permitted}
use Rattle.xp_board.specs.Sound.{Sound}
use Rattle.step_effects.proofs.ActEffects.{Dropped, Unlocked}
use Rattle.type_rule.proofs.EntryChange.{OneStep}
use Rattle.type_rule.proofs.QuietActs.{one_by}
use Rattle.type_rule.proofs.KindRows.{down_valid, down_permitted}
use Rattle.xp_board.proofs.CountsDown.{drop_live, drop_some, drop_word, lock_live, lock_some, unlock_word}

module _ (n : Machine) (s : ℕ) (x : Step) (m m2 : Place → ℕ) (b c : ℕ → Holdings) (real : s < (sizes_of n).vcpus) (sound : Sound n m b)
    (others : (t : ℕ) → t ≢ s → c t ≡ b t) where
  -- the frame is live before and after, with its type, and has a count before
  record Down (f : ℕ) : Type 0 where
    live : IsTrue (is_live (kind_at m f))
    some : 0 < (kind_at m f).number
    is : IsTrue (is_live (kind_at m2 f))
    kind : (kind_at m2 f).kind ≡ (kind_at m f).kind

  dropped_down : (f : ℕ) → Dropped n x f m m2 (b s) (c s) → Down f
  dropped_down f d =
      let live = drop_live n m b sound s real f d.may in
      let now = drop_word n m b sound s real f d.may (m2 (Kind f)) d.is in
      record { live = live; some = drop_some n m b sound s real f d.may; is = ap (λ k. k.validated) now ∙ live; kind = ap (λ k. k.kind) now }

  unlocked_down_of : (f : ℕ) → Unlocked n x f m m2 (b s) (c s) → Down f
  unlocked_down_of f d =
      let live = lock_live n m b sound s real f d.may in
      let now = unlock_word n m b sound s real f d.may (m2 (Kind f)) d.is in
      record { live = live; some = lock_some n m b sound s real f d.may; is = ap (λ k. k.validated) now ∙ live; kind = ap (λ k. k.kind) now }

  dropped_one : (f : ℕ) → Dropped n x f m m2 (b s) (c s) → OneStep n s x m m2 b c
  dropped_one f d = one_by n s x m m2 b c real sound others (Kind f) _ d.wrote.place d.wrote.left d.hand refl

  unlocked_one : (f : ℕ) → Unlocked n x f m m2 (b s) (c s) → OneStep n s x m m2 b c
  unlocked_one f d = one_by n s x m m2 b c real sound others (Kind f) _ d.wrote.place d.wrote.left d.hand refl

  pub dropped_valid : (f : ℕ) → Dropped n x f m m2 (b s) (c s) → Valid (sizes_of n) m2 c
  dropped_valid f d =
      let k = dropped_down f d in
      down_valid n s x m m2 b c real sound others f (b s) d.wrote.others (dropped_one f d) (ap (λ u. u.works) d.hand) k.live k.some k.is k.kind

  pub dropped_permitted : (f : ℕ) → Dropped n x f m m2 (b s) (c s) → Permitted n m2 c
  dropped_permitted f d =
      let k = dropped_down f d in
      down_permitted n s x m m2 b c real sound others f (b s) d.wrote.others (dropped_one f d) (ap (λ u. u.works) d.hand) k.live k.some k.is k.kind

  pub unlocked_valid : (f : ℕ) → Unlocked n x f m m2 (b s) (c s) → Valid (sizes_of n) m2 c
  unlocked_valid f d =
      let k = unlocked_down_of f d in
      down_valid n s x m m2 b c real sound others f (b s) d.wrote.others (unlocked_one f d) (ap (λ u. u.works) d.hand) k.live k.some k.is k.kind

  pub unlocked_permitted : (f : ℕ) → Unlocked n x f m m2 (b s) (c s) → Permitted n m2 c
  unlocked_permitted f d =
      let k = unlocked_down_of f d in
      down_permitted n s x m m2 b c real sound others f (b s) d.wrote.others (unlocked_one f d) (ap (λ u. u.works) d.hand) k.live k.some k.is k.kind
