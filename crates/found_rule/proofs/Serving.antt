-- What a vCPU comes to after a step that changes no word but a cell: it came to it before, or it serves, or can only be read.
use Rattle.std.proofs.Common.{◌≡◌, ◌≢◌, ℕ, ◌<◌, ◌⊎◌, true, IsTrue, refl, inl, inr}
use Rattle.xp_words.specs.Entries.{is_bit, frame_of}
use Rattle.xp_words.specs.Machine.{Machine}
use Rattle.xp_words.specs.declared.place.Place.{Place}
use Rattle.xp_words.specs.declared.place.Place.TheVariants.{Cell}
use Rattle.xp_words.specs.Places.{sizes_of}
use Rattle.xp_board.specs.declared.step.Item.{Item}
use Rattle.xp_board.specs.declared.holdings.Reached.{Reached}
use Rattle.xp_board.specs.declared.holdings.Holdings.{Holdings}
use Rattle.xp_board.specs.Lists.{Member}
use Rattle.xp_board.specs.FillSteps.{is_walked}
use Rattle.xp_board.specs.Readings.{kind_at}
use Rattle.xp_board.specs.Reach.{Use, Table, Writes, Reads, use_of, use_below, reached_by, Reach, entry}
use Rattle.xp_board.specs.Sound.{Sound, is_busy}
use Rattle.xp_board.proofs.ReachAll.{Reach-all}
use Rattle.xp_board.proofs.CellAlike.{CellAlike, not_reads}
use Rattle.xp_board.proofs.HeldByForm.{live_idle}
use Rattle.xp_board.proofs.WalkDown.{Passes, passes_alike}
use Rattle.xp_board.proofs.Serving.{Serves, entry_serves}

-- ---- what is come to
abbrev pub Came : Machine → (Place → ℕ) → (ℕ → Holdings) → ℕ → ℕ → Use → Type 0
Came n m h v g u = Reach (sizes_of n) m (h v) g u ⊎ (Serves m g u ⊎ (u ≡ Reads))

-- the targets of an entry are come to from a table that is come to
abbrev pub PassesOn : Machine → (Place → ℕ) → (Place → ℕ) → (ℕ → Holdings) → ℕ → ℕ → ℕ → Type 0
PassesOn n m m2 h v f i = Passes (sizes_of n) m2 (Came n m h v) f i

module _ (n : Machine) (m m2 : Place → ℕ) (h : ℕ → Holdings) (sound : Sound n m h) (v : ℕ) where
  entry_came : (f level i : ℕ) → Came n m h v f (Table level) → IsTrue (is_walked level i) → is_bit 0 (m (Cell f i)) ≡ true → frame_of (m (Cell f i)) < (sizes_of n).frames →
      Came n m h v (frame_of (m (Cell f i))) (use_below level (m (Cell f i)))
  entry_came f level i (inl r) walked present inside = inl (entry f level i r walked present inside)
  entry_came f level i (inr (inl serves)) walked present inside = inr (inl (entry_serves n m h sound level f i serves walked present))
  entry_came f level i (inr (inr read)) walked present inside = absurd (not_reads level read)

  pub alike_passes : (f i : ℕ) → CellAlike (m (Cell f i)) (m2 (Cell f i)) → PassesOn n m m2 h v f i
  alike_passes f i alike = passes_alike (sizes_of n) m m2 (Came n m h v) f i alike (λ level came deep present inside. entry_came f level i came deep present inside)

  pub came_all : (b : Holdings) → ((x : Item) → Member x b.cache → Came n m h v x.frame (use_of x)) →
      ((x : Reached) → Member x (reached_by b.walk) → Came n m h v x.table (Table x.level)) → ((f i : ℕ) → PassesOn n m m2 h v f i) →
      (g : ℕ) (u : Use) → Reach (sizes_of n) m2 b g u → Came n m h v g u
  came_all b items tables passes g u r =
      Reach-all (λ g u. Came n m h v g u) items tables (λ f level i came walked present inside. passes f i level came walked present inside) r

  -- so to a frame in work it came before, or can but read it
  came_busy : (g : ℕ) (u : Use) → is_busy (kind_at m g) ≡ true → u ≢ Reads → Serves m g u → ⊥
  came_busy g u busy other serves = let e = live_idle (kind_at m g) (serves.live other) (serves.number other) in cc

  pub came_kept : (g : ℕ) (u : Use) → is_busy (kind_at m g) ≡ true → Came n m h v g u → Reach (sizes_of n) m (h v) g u ⊎ (u ≡ Reads)
  came_kept g u busy (inl r) = inl r
  came_kept g u busy (inr (inr read)) = inr read
  came_kept g Reads busy (inr (inl serves)) = inr refl
  came_kept g Writes busy (inr (inl serves)) = absurd (came_busy g Writes busy (λ e. cc) serves)
  came_kept g (Table level) busy (inr (inl serves)) = absurd (came_busy g (Table level) busy (not_reads level) serves)
