-- Frames that serve a use: live with its type where it has one, and counted; and what a demand asks is there.
use Rattle.std.proofs.Common.{◌≡◌, ◌≢◌, ℕ, ◌-◌, ◌<◌, ◌≤◌, ◌==◌, if◌then◌else◌, Bool, true, false, IsTrue, refl, sym, ap, subst, ◌∙◌, inl, inr, arith}
use Rattle.std.proofs.lemmas.Bool.Decides.{nat_tests}
use Rattle.xp_words.specs.declared.kind.PageType.{PageType}
use Rattle.xp_words.specs.declared.entry.Demand.{Demand}
use Rattle.xp_words.specs.declared.entry.Demand.TheVariants.{Nothing, Bad, Read, Typed}
use Rattle.xp_words.specs.PageTypes.{type_number}
use Rattle.xp_words.specs.Entries.{is_bit, frame_of, demand_at}
use Rattle.xp_words.specs.Machine.{Machine}
use Rattle.xp_words.specs.declared.place.Place.{Place}
use Rattle.xp_words.specs.declared.place.Place.TheVariants.{Cell}
use Rattle.xp_words.specs.Places.{sizes_of}
use Rattle.xp_board.specs.declared.holdings.Holdings.{Holdings}
use Rattle.xp_board.specs.FillSteps.{is_walked}
use Rattle.xp_board.specs.Readings.{kind_at}
use Rattle.xp_board.specs.Recorded.{held, entry_demand}
use Rattle.xp_board.specs.Reach.{Use, Table, Writes, Reads, use_below}
use Rattle.xp_board.specs.Fresh.{Matches}
use Rattle.xp_board.specs.Sound.{Sound}
use Rattle.xp_board.proofs.EntryAsks.{asks_table, asks_leaf, LeafAsks, walked_inside}
use Rattle.xp_board.proofs.ReachAll.{IsLevel}
use Rattle.xp_board.proofs.CellAlike.{not_reads}
use Rattle.xp_board.proofs.LiveTables.{leads_live, named_counted, live_inside, table_held}
use Rattle.xp_board.proofs.Counted.{typed_counted}
use Rattle.xp_board.proofs.KindReadings.{live_count}
use Rattle.xp_board.specs.Settling.{HasDemand}

pub record Serves (m : Place → ℕ) (g : ℕ) (u : Use) : Type 0 where
  pub level : IsLevel u
  pub live : u ≢ Reads → (kind_at m g).validated ≡ true
  pub number : u ≢ Reads → 0 < (kind_at m g).number
  pub matches : u ≢ Reads → Matches (kind_at m g).kind u

-- ---- what a demand asks is there
abbrev pub AsksLive : (Place → ℕ) → Demand → Type 0
AsksLive m Nothing = Unit {0}
AsksLive m Bad = ⊥
AsksLive m (Read g) = Unit {0}
AsksLive m (Typed g t) = ((kind_at m g).validated ≡ true) × (0 < (kind_at m g).number) × ((kind_at m g).kind ≡ t)

module _ (m : Place → ℕ) (kind : PageType) where
  table_target : (level i w : ℕ) → 2 ≤ level → level ≤ 4 → type_number kind ≡ level → IsTrue (is_walked level i) → is_bit 0 w ≡ true → AsksLive m (demand_at kind i w) →
      Serves m (frame_of w) (Table (level - 1))
  table_target level i w lo hi is walked present well =
      let asked : demand_at kind i w ≢ Bad = λ e. subst (λ q. AsksLive m q) e well in
      let asks = asks_table kind i w (omega arith) (omega arith) (subst (λ l. IsTrue (is_walked l i)) (sym is) walked) present asked in
      let good = subst (λ q. AsksLive m q) asks.0 well in
      let number = ap type_number good.2 in
      let next = asks.1 in
      record { level = (omega arith, omega arith); live = λ n. good.0; number = λ n. good.1; matches = λ n. omega arith }

  leaf_use : (g : ℕ) (b : Bool) (q : Demand) → LeafAsks q b g → AsksLive m q → Serves m g (if b then Writes else Reads)
  leaf_use g true q (inl read) well = absurd (let k = read.1 in cc)
  leaf_use g false q k well = record { level = tt; live = λ n. absurd (n refl); number = λ n. absurd (n refl); matches = λ n. tt }
  leaf_use g true q (inr typed) well =
      let good = subst (λ k. AsksLive m k) typed well in record { level = tt; live = λ n. good.0; number = λ n. good.1; matches = λ n. ap type_number good.2 }

  target_by : (level i w : ℕ) (b : Bool) → (level == 1) ≡ b → 1 ≤ level → level ≤ 4 → type_number kind ≡ level → IsTrue (is_walked level i) → is_bit 0 w ≡ true → AsksLive m (demand_at kind i w) →
      Serves m (frame_of w) (if b then (if is_bit 1 w then Writes else Reads) else Table (level - 1))
  target_by level i w true e lo hi is walked present well =
      let one : level ≡ 1 = grind (arith, nat_tests) in
      leaf_use (frame_of w) (is_bit 1 w) (demand_at kind i w) (asks_leaf kind i w (is ∙ one) present (λ e. subst (λ q. AsksLive m q) e well)) well
  target_by level i w false e lo hi is walked present well =
      let more : level ≢ 1 = (λ at. absurd (let t : (level == 1) ≡ true = grind (arith, nat_tests) in cc)) in
      table_target level i w (omega arith) hi is walked present well

  -- the target of an entry of a table of that level
  pub target_serves : (level i w : ℕ) → IsLevel (Table level) → type_number kind ≡ level → IsTrue (is_walked level i) → is_bit 0 w ≡ true → AsksLive m (demand_at kind i w) →
      Serves m (frame_of w) (use_below level w)
  target_serves level i w inside is walked present well = target_by level i w (level == 1) refl inside.0 inside.1 is walked present well

-- ---- recorded entries
module _ (n : Machine) (m : Place → ℕ) (h : ℕ → Holdings) (sound : Sound n m h) where
  asks_by : (f i : ℕ) (q : Demand) → i < held (sizes_of n) m h f → (kind_at m f).validated ≡ true → 0 < (kind_at m f).number → entry_demand m f i ≡ q → AsksLive m q
  asks_by f i Nothing recorded live some asks = tt
  asks_by f i Bad recorded live some asks = absurd (sound.valid.allowed f i recorded asks)
  asks_by f i (Read g) recorded live some asks = tt
  asks_by f i (Typed g t) recorded live some asks =
      let alive = leads_live n m h sound f i g live some (sound.valid.live f i g t recorded asks) in
      (alive, named_counted n m h sound f i g t (live_inside n m h sound f live) recorded asks alive, sound.counts.kinds.entries f i g t recorded asks)

  -- an entry of a live and counted table asks what is there
  pub recorded_asks : (f i : ℕ) → i < 512 → (kind_at m f).validated ≡ true → 0 < (kind_at m f).number → 1 ≤ type_number (kind_at m f).kind → type_number (kind_at m f).kind ≤ 4 →
      AsksLive m (entry_demand m f i)
  recorded_asks f i inside live some lo hi = let all = table_held n m h sound f live some lo hi in asks_by f i (entry_demand m f i) (omega arith) live some refl

  pub entry_serves : (level f i : ℕ) → Serves m f (Table level) → IsTrue (is_walked level i) → is_bit 0 (m (Cell f i)) ≡ true → Serves m (frame_of (m (Cell f i))) (use_below level (m (Cell f i)))
  entry_serves level f i serves walked present =
      let n = not_reads level in
      let is : type_number (kind_at m f).kind ≡ level = serves.matches n in
      let lo = serves.level.0 in
      let hi = serves.level.1 in
      target_serves m (kind_at m f).kind level i (m (Cell f i)) serves.level is walked present
      (recorded_asks f i (walked_inside level i walked) (serves.live n) (serves.number n) (omega arith) (omega arith))

-- ---- what is in hand is there
module _ (n : Machine) (m : Place → ℕ) (b : ℕ → Holdings) (sound : Sound n m b) (f : ℕ) where
  pub asks_hand : (s : ℕ) → s < (sizes_of n).vcpus → (kind : PageType) (d : Demand) → HasDemand n f kind (b s) d → AsksLive m d
  asks_hand s l kind Nothing h = tt
  asks_hand s l kind Bad h = absurd h
  asks_hand s l kind (Read g) h = tt
  asks_hand s l kind (Typed g t) h =
      let live = (sound.found s l).lives g t h.1 in
      (live.0, (let a = typed_counted (sizes_of n) m b s g l sound.counts in let e = live_count (kind_at m g) live.0 in let k = h.0.in_hand in omega arith), live.1)
