-- Frames that serve a use: live with its type where it has one, and counted.
use Rattle.std.proofs.Common.{◌≡◌, ◌≢◌, ℕ, ◌-◌, ◌<◌, ◌≤◌, ◌==◌, inl, inr, Bool, true, false, refl, sym, ◌∙◌, subst, arith, IsTrue, if◌then◌else◌, Some, ◌+◌, ap}
use Rattle.std.proofs.lemmas.Bool.Decides.{nat_tests}
use Rattle.xp_words.specs.declared.kind.PageType.{PageType}
use Rattle.xp_words.specs.declared.entry.Demand.{Demand}
use Rattle.xp_words.specs.declared.entry.Demand.TheVariants.{Nothing, Bad, Read, Typed}
use Rattle.xp_words.specs.PageTypes.{type_number}
use Rattle.xp_words.specs.Entries.{is_bit, frame_of, is_lowest, demand_at}
use Rattle.xp_words.specs.Machine.{Machine}
use Rattle.xp_words.specs.declared.place.Place.{Place}
use Rattle.xp_words.specs.declared.place.Place.TheVariants.{Refs, Cell, Vcpu}
use Rattle.xp_words.specs.Places.{sizes_of}
use Rattle.xp_board.specs.declared.holdings.Holdings.{Holdings}
use Rattle.xp_board.specs.FillSteps.{is_walked}
use Rattle.xp_board.specs.Readings.{kind_at, ref_count, owner_of, domain_of}
use Rattle.xp_board.specs.Recorded.{held, entry_demand}
use Rattle.xp_board.specs.Valid.{Permits, EntryPermitted, PermitsOwner}
use Rattle.xp_board.specs.Reach.{Use, Table, Writes, Reads, use_below}
use Rattle.xp_board.specs.Fresh.{Belongs}
use Rattle.xp_board.specs.Sound.{Sound}
use Rattle.xp_board.proofs.Counted.{type_below, plain_counted}
use Rattle.xp_board.proofs.EntryAsks.{asks_table, asks_leaf, LeafAsks, walked_inside}
use Rattle.xp_board.proofs.CellAlike.{not_reads}
use Rattle.xp_board.proofs.KindReadings.{live_count}
use Rattle.xp_board.proofs.LiveTables.{table_held, base_table}
use Rattle.xp_board.proofs.RefForms.{counted_word}
use Rattle.xp_board.proofs.Serving.{Serves, AsksLive, target_serves, recorded_asks}

-- a frame with a type count has a reference count
pub typed_counted : (n : Machine) (m : Place → ℕ) (h : ℕ → Holdings) (g : ℕ) → Sound n m h → (kind_at m g).validated ≡ true → 0 < (kind_at m g).number → 0 < ref_count (m (Refs g))
typed_counted n m h g sound live some =
    let number = live_count (kind_at m g) live in
    let below = type_below (sizes_of n) m h g sound.counts in
    omega arith

-- ---- what serves a use, of domain d
pub record Served (m : Place → ℕ) (d g : ℕ) (u : Use) : Type 0 where
  pub serves : Serves m g u
  pub counted : 0 < ref_count (m (Refs g))
  pub owner : Belongs m d g u

pub served_owner : (m : Place → ℕ) (d level f : ℕ) → Served m d f (Table level) → owner_of (m (Refs f)) ≡ Some d
served_owner m d level f s =
    elim s.owner [
      | inl free ↦ absurd (let k = (counted_word (m (Refs f)) s.counted).0 in cc)
      | inr own ↦ own
    ]

-- ---- what a demand asks is there, and it may be asked by an entry of a table of domain d
abbrev pub Granted : (Place → ℕ) → PageType → ℕ → Demand → Type 0
Granted m kind d Nothing = Unit {0}
Granted m kind d Bad = Unit {0}
Granted m kind d (Read g) = (0 < ref_count (m (Refs g))) × EntryPermitted m kind (Some d) g
Granted m kind d (Typed g t) = (0 < ref_count (m (Refs g))) × EntryPermitted m kind (Some d) g

abbrev pub AsksWell : (Place → ℕ) → PageType → ℕ → Demand → Type 0
AsksWell m kind d q = AsksLive m q × Granted m kind d q

permits_own : (m : Place → ℕ) (d g : ℕ) → owner_of (m (Refs g)) ≡ Some d → Permits m d g
permits_own m d g e = subst (λ o. PermitsOwner m d o) (sym e) (inl refl)

permitted_leaf : (m : Place → ℕ) (kind : PageType) (d g : ℕ) → EntryPermitted m kind (Some d) g → Permits m d g
permitted_leaf m kind d g (inl own) = permits_own m d g own
permitted_leaf m kind d g (inr lowest) = lowest.1

permitted_table : (m : Place → ℕ) (kind : PageType) (d g : ℕ) → is_lowest kind ≡ false → EntryPermitted m kind (Some d) g → owner_of (m (Refs g)) ≡ Some d
permitted_table m kind d g high (inl own) = own
permitted_table m kind d g high (inr lowest) = absurd (let low = lowest.0 in cc)

-- ---- the target of an entry that asks what is there
module _ (m : Place → ℕ) (d : ℕ) (kind : PageType) where
  granted_leaf : (g : ℕ) (b : Bool) (q : Demand) → LeafAsks q b g → Granted m kind d q → (0 < ref_count (m (Refs g))) × EntryPermitted m kind (Some d) g
  granted_leaf g b q (inl read) well = subst (λ k. Granted m kind d k) read.0 well
  granted_leaf g b q (inr typed) well = subst (λ k. Granted m kind d k) typed well

  leaf_owner : (g : ℕ) (b : Bool) → Permits m d g → Belongs m d g (if b then Writes else Reads)
  leaf_owner g true permits = permits
  leaf_owner g false permits = permits

  target_by : (level i w : ℕ) (b : Bool) → (level == 1) ≡ b → 1 ≤ level → level ≤ 4 → type_number kind ≡ level → IsTrue (is_walked level i) → is_bit 0 w ≡ true →
      AsksWell m kind d (demand_at kind i w) → (0 < ref_count (m (Refs (frame_of w)))) × Belongs m d (frame_of w) (if b then (if is_bit 1 w then Writes else Reads) else Table (level - 1))
  target_by level i w true e lo hi is walked present well =
      let one : level ≡ 1 = grind (arith, nat_tests) in
      let asks = asks_leaf kind i w (is ∙ one) present (λ e. subst (λ q. AsksLive m q) e well.0) in
      let good = granted_leaf (frame_of w) (is_bit 1 w) (demand_at kind i w) asks well.1 in
      (good.0, leaf_owner (frame_of w) (is_bit 1 w) (permitted_leaf m kind d (frame_of w) good.1))
  target_by level i w false e lo hi is walked present well =
      let more : level ≢ 1 = (λ at. absurd (let t : (level == 1) ≡ true = grind (arith, nat_tests) in cc)) in
      let deep : IsTrue (is_walked (type_number kind) i) = subst (λ l. IsTrue (is_walked l i)) (sym is) walked in
      let asks = asks_table kind i w (omega arith) (omega arith) deep present (λ e. subst (λ q. AsksLive m q) e well.0) in
      let good = subst (λ q. Granted m kind d q) asks.0 well.1 in
      (good.0, inr (permitted_table m kind d (frame_of w) asks.2 good.1))

pub target_served : (m : Place → ℕ) (d f level i w : ℕ) → Served m d f (Table level) → IsTrue (is_walked level i) → is_bit 0 w ≡ true →
    AsksWell m (kind_at m f).kind d (demand_at (kind_at m f).kind i w) → Served m d (frame_of w) (use_below level w)
target_served m d f level i w served walked present well =
    let inside = served.serves.level in
    let is = served.serves.matches (not_reads level) in
    let rest = target_by m d (kind_at m f).kind level i w (level == 1) refl inside.0 inside.1 is walked present well in
    record { serves = target_serves m (kind_at m f).kind level i w inside is walked present well.0; counted = rest.0; owner = rest.1 }

-- ---- entries of a table that serves ask what is there
module _ (n : Machine) (m : Place → ℕ) (h : ℕ → Holdings) (sound : Sound n m h) where
  granted_by : (d f i : ℕ) (q : Demand) → i < held (sizes_of n) m h f → AsksLive m q → owner_of (m (Refs f)) ≡ Some d → entry_demand m f i ≡ q → Granted m (kind_at m f).kind d q
  granted_by d f i Nothing recorded live owner asks = tt
  granted_by d f i Bad recorded live owner asks = tt
  granted_by d f i (Read g) recorded live owner asks =
      (plain_counted n m h f i g sound recorded asks, subst (λ o. EntryPermitted m (kind_at m f).kind o g) owner (sound.permitted.plain f i g recorded asks))
  granted_by d f i (Typed g t) recorded live owner asks =
      (typed_counted n m h g sound live.0 live.1, subst (λ o. EntryPermitted m (kind_at m f).kind o g) owner (sound.permitted.typed f i g t recorded asks))

  pub recorded_well : (d level f i : ℕ) → Served m d f (Table level) → IsTrue (is_walked level i) → AsksWell m (kind_at m f).kind d (entry_demand m f i)
  recorded_well d level f i served walked =
      let live = served.serves.live (not_reads level) in
      let some = served.serves.number (not_reads level) in
      let is : type_number (kind_at m f).kind ≡ level = served.serves.matches (not_reads level) in
      let lo = served.serves.level.0 in
      let hi = served.serves.level.1 in
      let all = table_held n m h sound f live some (omega arith) (omega arith) in
      let inside = walked_inside level i walked in
      let asks = recorded_asks n m h sound f i inside live some (omega arith) (omega arith) in
      (asks, granted_by d f i (entry_demand m f i) (omega arith) asks (served_owner m d level f served) refl)

  -- so their targets serve too
  pub entry_served : (d level f i : ℕ) → Served m d f (Table level) → IsTrue (is_walked level i) → is_bit 0 (m (Cell f i)) ≡ true →
      Served m d (frame_of (m (Cell f i))) (use_below level (m (Cell f i)))
  entry_served d level f i served walked present = target_served m d f level i (m (Cell f i)) served walked present (recorded_well d level f i served walked)

  -- ---- a base serves as a table of level 4
  pub base_served : (v k g : ℕ) → v < (sizes_of n).vcpus → k < 2 → m (Vcpu v k) ≡ g + 1 → Served m (domain_of n v) g (Table 4)
  base_served v k g real few names =
      let base = base_table n m h sound v k g real few names in
      record {
        serves = record { level = (omega arith, omega arith); live = λ other. base.live; number = λ other. base.counted; matches = λ other. ap type_number base.kind };
        counted = typed_counted n m h g sound base.live base.counted;
        owner = inr base.owner;
      }
