-- Where a path from a vCPU's base leads: each table on it serves, and so does what the last entry leads to. So a sound machine is safe.
use Rattle.std.proofs.Common.{◌≡◌, ℕ, ◌<◌, ◌&&◌, Bool, true, false, refl, sym, ◌∙◌, ap, subst, arith, if◌then◌else◌}
use Rattle.std.proofs.lemmas.Bool.Decides.{nat_tests}
use Rattle.xp_words.specs.declared.kind.KindWord.{KindWord}
use Rattle.xp_words.specs.declared.kind.PageType.TheVariants as kinds
use Rattle.xp_words.specs.PageTypes.{type_number, type_of}
use Rattle.xp_words.proofs.KindLaws.{type_back}
use Rattle.xp_words.specs.Machine.{Machine}
use Rattle.xp_words.specs.declared.place.Place.{Place}
use Rattle.xp_words.specs.declared.place.Place.TheVariants.{Cell}
use Rattle.xp_words.specs.Places.{sizes_of}
use Rattle.xp_board.specs.declared.holdings.Holdings.{Holdings}
use Rattle.xp_board.specs.Readings.{kind_at, domain_of}
use Rattle.xp_board.specs.Valid.{Permits}
use Rattle.xp_board.specs.Reach.{Writes, Reads, Table, use_below, LeadsTo, Path, is_in_use, is_writable_entry}
use Rattle.xp_board.specs.Fresh.{Belongs}
use Rattle.xp_board.specs.Safe.{SafeAt, Safe}
use Rattle.xp_board.specs.Sound.{Sound}
use Rattle.xp_board.proofs.SafeItems.{items_safe}
use Rattle.stale_rule.proofs.Served.{Served, base_served, entry_served}

-- a frame of the writable type is not in use
writable_unused : (k : KindWord) → type_number k.kind ≡ 7 → is_in_use k ≡ false
writable_unused k e = let kind : k.kind ≡ kinds.Writable = sym (type_back k.kind) ∙ ap type_of e in rw kind

-- ---- what the last entry leads to
leaf_unused : (m : Place → ℕ) (d g : ℕ) (b : Bool) → Served m d g (if b then Writes else Reads) → b ≡ true → is_in_use (kind_at m g) ≡ false
leaf_unused m d g true served e = writable_unused (kind_at m g) (served.serves.matches (λ k. cc))
leaf_unused m d g false served e = absurd (cc)

leaf_permits : (m : Place → ℕ) (d g : ℕ) (b : Bool) → Belongs m d g (if b then Writes else Reads) → Permits m d g
leaf_permits m d g true permits = permits
leaf_permits m d g false permits = permits

last_writable : (a b c d w : Bool) → w ≡ (a && (b && (c && d))) → w ≡ true → d ≡ true
last_writable a b c true w p e = refl
last_writable a b c false w p e = grind arith

-- ---- along a path
module _ (n : Machine) (m : Place → ℕ) (h : ℕ → Holdings) (sound : Sound n m h) where
  below : (d level f i g : ℕ) → Served m d f (Table level) → LeadsTo (sizes_of n) m level f i g → Served m d g (use_below level (m (Cell f i)))
  below d level f i g served entry = subst (λ x. Served m d x (use_below level (m (Cell f i)))) entry.target (entry_served n m h sound d level f i served entry.walked entry.present)

  path_safe : (v g : ℕ) (writable : Bool) → v < (sizes_of n).vcpus → Path (sizes_of n) m v writable g → SafeAt n m v writable g
  path_safe v g writable real path =
      let d = domain_of n v in
      let top = base_served n m h sound v path.word path.top real (let k = path.base in grind (arith, nat_tests)) path.names in
      let three : Served m d path.table3 (Table 3) = below d 4 path.top path.index4 path.table3 top path.entry4 in
      let two : Served m d path.table2 (Table 2) = below d 3 path.table3 path.index3 path.table2 three path.entry3 in
      let one : Served m d path.table1 (Table 1) = below d 2 path.table2 path.index2 path.table1 two path.entry2 in
      let leaf : Served m d g (if is_writable_entry m path.table1 path.index1 then Writes else Reads) = below d 1 path.table1 path.index1 g one path.entry1 in
      let last = last_writable (is_writable_entry m path.top path.index4) (is_writable_entry m path.table3 path.index3) (is_writable_entry m path.table2 path.index2) in
      record {
        unused = λ e. leaf_unused m d g (is_writable_entry m path.table1 path.index1) leaf (last (is_writable_entry m path.table1 path.index1) writable path.all_writable e);
        permitted = leaf_permits m d g (is_writable_entry m path.table1 path.index1) leaf.owner;
      }

-- ---- a sound machine is safe
pub sound_safe : (n : Machine) (m : Place → ℕ) (h : ℕ → Holdings) → Sound n m h → Safe n m h
sound_safe n m h sound = record { paths = path_safe n m h sound; items = λ v x real there. items_safe n m h v x sound real there; counts = sound.counts }
