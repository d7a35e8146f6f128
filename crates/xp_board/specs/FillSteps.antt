-- Loads of the own page-table walk, and the cache of translations.
use Rattle.std.specs.Prelude.{◌≡◌, ℕ, ◌+◌, ◌*◌, ◌-◌, ◌^◌, ◌==◌, ◌&&◌, not, nat_lt, nat_le, if◌then◌else◌, Bool, true, false, List, [], ◌∷◌, take, Option, Some, None, IsTrue}
use Rattle.xp_words.specs.Entries.{is_bit, frame_of}
use Rattle.xp_words.specs.Machine.{Machine}
use Rattle.xp_words.specs.declared.place.Place.{Place}
use Rattle.xp_words.specs.declared.place.Place.TheVariants.{Vcpu, Cell}
use Rattle.xp_board.specs.declared.step.Act.{Act}
use Rattle.xp_board.specs.declared.step.Act.TheVariants.{Load}
use Rattle.xp_board.specs.declared.step.Item.{Item}
use Rattle.xp_board.specs.declared.step.Mark.{Mark}
use Rattle.xp_board.specs.declared.step.Mark.TheVariants as marks
use Rattle.xp_board.specs.declared.holdings.Reached.{Reached}
use Rattle.xp_board.specs.declared.holdings.Walk.{Walk}
use Rattle.xp_board.specs.declared.holdings.Holdings.{Holdings}

-- slots 256 to 271 of a top table are the hypervisor's, and no address leads through them
abbrev pub is_walked : ℕ → ℕ → Bool
is_walked level i = nat_lt i 512 && not ((level == 4) && (nat_le 256 i && nat_lt i 272))

-- ---- legal
-- the base of the kernel's or of the user's tables begins a walk
pub record MayStartWalk (s v k : ℕ) (h : Holdings) : Type 0 where
  pub own : v ≡ s
  pub word : IsTrue (nat_lt k 2)
  pub none : h.walk ≡ None
  pub warm : h.cold ≡ false

-- an entry of the table that the walk reached last
pub record MayWalkOn (f i : ℕ) (walk : Walk) (h : Holdings) : Type 0 where
  pub flying : h.walk ≡ Some walk
  pub touched : walk.touching ≡ None
  pub level : ℕ
  pub above : List Reached
  pub reached : walk.reached ≡ record { table = f; level = level } ∷ above
  pub walked : IsTrue (is_walked level i)
  pub warm : h.cold ≡ false

abbrev pub StartsWalk : Option Mark → Type 0
StartsWalk (Some (marks.Walk write)) = Unit {0}
StartsWalk _ = ⊥

abbrev pub GoesOn : Option Mark → Type 0
GoesOn (Some (marks.Walk write)) = ⊥
GoesOn _ = Unit {0}

abbrev pub LegalFill : ℕ → Holdings → Place → Act → Option Mark → Type 0
LegalFill s h (Vcpu v k) Load mark = MayStartWalk s v k h × StartsWalk mark
LegalFill s h (Cell f i) Load mark = ((walk : Walk) × MayWalkOn f i walk h) × GoesOn mark
LegalFill s h _ _ mark = ⊥

-- ---- after
abbrev pub with_bit : ℕ → ℕ → ℕ
with_bit i w = if is_bit i w then w else w + 2 ^ i

abbrev pub level_in : List Reached → ℕ
level_in [] = 0
level_in (x ∷ xs) = x.level

-- the level of the table that the walk reached last
abbrev pub level_of : Walk → ℕ
level_of walk = level_in walk.reached

-- whether the walk sets the dirty bit too: for a write, in the last entry, where all four can be written
abbrev pub sets_dirty : Walk → Bool
sets_dirty walk = walk.write && (walk.writable && (level_of walk == 1))

-- the entry with the bits that the walk needs
abbrev pub touched : Walk → ℕ → ℕ
touched walk w = if sets_dirty walk then with_bit 6 (with_bit 5 w) else with_bit 5 w

-- the cache with one more item in front, of which a 65th drops out
abbrev pub cached_with : Item → List Item → List Item
cached_with x xs = take 64 (x ∷ xs)

abbrev pub item_of : Walk → ℕ → Item
item_of walk w =
    record { user = walk.user; page = walk.page; frame = frame_of w; writable = walk.writable; dirty = is_bit 6 w }

-- the walk goes down through an entry that has its bits; past the last one it is an item
abbrev pub descended : Machine → Walk → ℕ → Holdings → Holdings
descended m walk w h =
    if not (nat_lt (frame_of w) m.frames) then record h { walk = None }
    else if level_of walk == 1 then record h { walk = None; cache = cached_with (item_of walk w) h.cache }
    else record h {
      walk = Some (record walk { reached = record { table = frame_of w; level = level_of walk - 1 } ∷ walk.reached; touching = None });
    }

-- the walk with one more entry
abbrev pub walked_by : ℕ → ℕ → Walk → Walk
walked_by i w walk = record walk { page = walk.page * 512 + i; writable = walk.writable && is_bit 1 w }

abbrev pub loaded : Machine → ℕ → ℕ → ℕ → Walk → Holdings → Holdings
loaded m f i w walk h =
    if not (is_bit 0 w) then record h { walk = None }
    else if touched walk w == w then descended m walk w h
    else record h { walk = Some (record walk { touching = Some (record { frame = f; index = i; word = w }) }) }

abbrev pub walked_on : Machine → ℕ → ℕ → ℕ → Option Walk → Holdings → Holdings
walked_on m f i w (Some walk) h = loaded m f i w (walked_by i w walk) h
walked_on m f i w None h = h

abbrev pub is_for_write : Option Mark → Bool
is_for_write (Some (marks.Walk write)) = write
is_for_write _ = false

abbrev pub started : ℕ → ℕ → Bool → Holdings → Holdings
started k w write h =
    if w == 0 then h
    else record h {
      walk = Some (record {
        user = k == 1;
        write = write;
        writable = true;
        page = 0;
        reached = record { table = w - 1; level = 4 } ∷ [];
        touching = None;
      });
    }

abbrev pub after_fill : Machine → Place → Option Mark → ℕ → Holdings → Holdings
after_fill m (Vcpu v k) mark w h = started k w (is_for_write mark) h
after_fill m (Cell f i) mark w h = walked_on m f i w h.walk h
after_fill m _ mark w h = h
