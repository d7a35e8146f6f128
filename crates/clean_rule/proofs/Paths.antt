-- What a path of page tables leads to has a reference.
use Rattle.std.proofs.Common.{ℕ, ◌<◌, Bool, arith, subst}
use Rattle.std.proofs.lemmas.Bool.Decides.{nat_tests}
use Rattle.xp_words.specs.Machine.{Machine}
use Rattle.xp_words.specs.Places.{sizes_of}
use Rattle.xp_words.specs.declared.place.Place.{Place}
use Rattle.xp_words.specs.declared.place.Place.TheVariants.{Refs, Cell}
use Rattle.xp_board.specs.declared.holdings.Holdings.{Holdings}
use Rattle.xp_board.specs.Reach.{LeadsTo, Path, Table, use_below}
use Rattle.xp_board.specs.Readings.{domain_of, ref_count}
use Rattle.xp_board.specs.Sound.{Sound}
use Rattle.stale_rule.proofs.Served.{Served, base_served, entry_served}

module _ (n : Machine) (m : Place → ℕ) (h : ℕ → Holdings) (sound : Sound n m h) where
  below : (d level f i g : ℕ) → Served m d f (Table level) → LeadsTo (sizes_of n) m level f i g → Served m d g (use_below level (m (Cell f i)))
  below d level f i g served entry = subst (λ x. Served m d x (use_below level (m (Cell f i)))) entry.target (entry_served n m h sound d level f i served entry.walked entry.present)

  pub path_counted : (v g : ℕ) (writable : Bool) → v < (sizes_of n).vcpus → Path (sizes_of n) m v writable g → 0 < ref_count (m (Refs g))
  path_counted v g writable real path =
      let d = domain_of n v in
      let top = base_served n m h sound v path.word path.top real (let k = path.base in grind (arith, nat_tests)) path.names in
      let three : Served m d path.table3 (Table 3) = below d 4 path.top path.index4 path.table3 top path.entry4 in
      let two : Served m d path.table2 (Table 2) = below d 3 path.table3 path.index3 path.table2 three path.entry3 in
      let one : Served m d path.table1 (Table 1) = below d 2 path.table2 path.index2 path.table1 two path.entry2 in
      (below d 1 path.table1 path.index1 g one path.entry1).counted
