-- What a live and counted table leads to.
use Rattle.std.proofs.Common.{◌≡◌, ◌≢◌, ◌≤◌, ◌<◌, ℕ, IsTrue, inl, inr, nat_lt, false, refl, sym, ap, subst, ◌∙◌, arith}
use Rattle.std.proofs.lemmas.Bool.{cases_lt}
use Rattle.std.proofs.lemmas.Bool.Decides.{nat_tests}
use Rattle.xp_words.specs.declared.entry.Demand.{Demand}
use Rattle.xp_words.specs.declared.entry.Demand.TheVariants.{Bad, Nothing, Read, Typed}
use Rattle.xp_words.specs.declared.kind.PageType.{PageType}
use Rattle.xp_words.specs.declared.place.Place.{Place}
use Rattle.xp_words.specs.declared.place.Place.TheVariants.{Cell, Refs}
use Rattle.xp_words.specs.Entries.{demand_at}
use Rattle.xp_words.specs.Machine.{Machine}
use Rattle.xp_words.specs.PageTypes.{is_table, type_number}
use Rattle.xp_words.specs.RefWords.{ref_read}
use Rattle.xp_words.specs.Places.{is_place, sizes_of}
use Rattle.xp_board.specs.declared.holdings.Holdings.{Holdings}
use Rattle.xp_board.specs.Lawful.{IsCountedAs}
use Rattle.xp_board.specs.Readings.{kind_at, owner_of, ref_count}
use Rattle.xp_board.specs.Recorded.{entry_demand, held, names}
use Rattle.xp_board.specs.Sound.{Sound}
use Rattle.xp_board.specs.Valid.{EntryPermitted}
use Rattle.xp_board.proofs.Counted.{entries-part}
use Rattle.xp_board.proofs.LiveTables.{live_inside, table_held}
use Rattle.xp_board.proofs.Serving.{AsksLive, recorded_asks}
use Rattle.xp_board.proofs.Sums.{one_is}
use Rattle.whole_trees.specs.Whole.{IsGranted, IsWholeTree, LeadsDown, below, itself}

table_low : (u : PageType) → IsTrue (is_table u) → 1 ≤ type_number u
table_low u is = grind (arith, nat_tests)

table_high : (u : PageType) → IsTrue (is_table u) → type_number u ≤ 4
table_high u is = grind (arith, nat_tests)

zero_count : ref_count 0 ≡ 0
unfolding ref_count ref_read
zero_count = refl

-- what names a frame asks to read it, or a type of it
data NamedAs (x : ℕ) (d : Demand) : Type 0 where
  read : d ≡ Read x → NamedAs x d
  typed : (w : PageType) → d ≡ Typed x w → NamedAs x d

named_as : (x : ℕ) (d : Demand) → names x d ≡ 1 → NamedAs x d
unfolding names
named_as x Nothing e = absurd (omega arith)
named_as x Bad e = absurd (omega arith)
named_as x (Read y) e = read (ap Read (one_is x y (omega arith)))
named_as x (Typed y w) e = typed w (ap (λ j. Typed j w) (one_is x y (omega arith)))

module _ (n : Machine) (m : Place → ℕ) (h : ℕ → Holdings) (sound : Sound n m h) where
  -- ---- one live and counted table
  module _ (g : ℕ) (u : PageType) (table : IsTrue (is_table u)) (is : IsCountedAs (kind_at m g) u) where
    low : 1 ≤ type_number (kind_at m g).kind
    low = subst (λ k. 1 ≤ type_number k) (sym is.kind) (table_low u table)

    high : type_number (kind_at m g).kind ≤ 4
    high = subst (λ k. type_number k ≤ 4) (sym is.kind) (table_high u table)

    recorded : (i : ℕ) → i < 512 → i < held (sizes_of n) m h g
    recorded i inside = let all = table_held n m h sound g is.live is.counted low high in omega arith

    real : g < n.frames
    real = live_inside n m h sound g is.live

    as_read : (i : ℕ) → entry_demand m g i ≡ demand_at u i (m (Cell g i))
    as_read i = ap (λ k. demand_at k i (m (Cell g i))) is.kind

    asked : (i : ℕ) → i < 512 → AsksLive m (demand_at u i (m (Cell g i)))
    asked i inside = subst (AsksLive m) (as_read i) (recorded_asks n m h sound g i inside is.live is.counted low high)

    pub not_bad : (i : ℕ) → i < 512 → demand_at u i (m (Cell g i)) ≢ Bad
    not_bad i inside bad = sound.valid.allowed g i (recorded i inside) (as_read i ∙ bad)

    pub next_live : (i x : ℕ) (w : PageType) → i < 512 → demand_at u i (m (Cell g i)) ≡ Typed x w → IsCountedAs (kind_at m x) w
    next_live i x w inside asks = let k = subst (AsksLive m) asks (asked i inside) in record { live = k.0; kind = k.2; counted = k.1 }

    -- what it names is referred to
    referred : (i x : ℕ) → i < 512 → names x (demand_at u i (m (Cell g i))) ≡ 1 → 0 < ref_count (m (Refs x))
    referred i x inside named =
        let agree = sound.counts.refs x in
        let part = entries-part (names x) (sizes_of n) m h g i real (recorded i inside) in
        let one : names x (entry_demand m g i) ≡ 1 = ap (names x) (as_read i) ∙ named in
        omega arith

    unreal : (x : ℕ) → 0 < ref_count (m (Refs x)) → x < n.frames
    unfolding is_place
    unreal x some =
        elim (cases_lt x n.frames) [
          | inl k ↦ k
          | inr k ↦
              absurd (
              let off : nat_lt x n.frames ≡ false = grind (arith, nat_tests) in
              let none : ref_count (m (Refs x)) ≡ 0 = ap ref_count (sound.spelled.outside (Refs x) off) ∙ zero_count in
              omega arith)
        ]

    permitted_by : (i x : ℕ) → i < 512 → NamedAs x (demand_at u i (m (Cell g i))) → EntryPermitted m (kind_at m g).kind (owner_of (m (Refs g))) x
    permitted_by i x inside (read e) = sound.permitted.plain g i x (recorded i inside) (as_read i ∙ e)
    permitted_by i x inside (typed w e) = sound.permitted.typed g i x w (recorded i inside) (as_read i ∙ e)

    pub grants : (i x : ℕ) → i < 512 → names x (demand_at u i (m (Cell g i))) ≡ 1 → IsGranted n m g u x
    grants i x inside named =
        let some = referred i x inside named in
        record {
          inside = unreal x some;
          counted = some;
          permitted = subst (λ k. EntryPermitted m k (owner_of (m (Refs g))) x) is.kind (permitted_by i x inside (named_as x _ named));
        }

  -- ---- all that it leads to
  module _ (f : ℕ) (t : PageType) (top : IsCountedAs (kind_at m f) t) where
    leads_live : (g : ℕ) (u : PageType) → LeadsDown m f t g u → IsCountedAs (kind_at m g) u
    leads_live _ _ itself = top
    leads_live _ _ (below g i x u w way table inside asks) = next_live g u table (leads_live g u way) i x w inside asks

    pub is_whole : IsWholeTree n m f t
    is_whole =
        record {
          live = leads_live;
          inside = λ g u way. live_inside n m h sound g (leads_live g u way).live;
          allowed = λ g i u way table. not_bad g u table (leads_live g u way) i;
          granted = λ g i x u way table. grants g u table (leads_live g u way) i x;
        }
