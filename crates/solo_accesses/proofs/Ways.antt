-- Plain walks: what they keep, how far they lead, and on what they depend.
use Rattle.std.proofs.Common.{◌≡◌, ℕ, zero, suc, ◌*◌, ◌^◌, ◌<◌, ◌≤◌, ◌==◌, ◌&&◌, if◌then◌else◌, Bool, true, false, Option, None, refl, sym, ap, ◌∙◌, subst, arith}
use Rattle.xp_words.specs.Entries.{frame_of}
use Rattle.xp_words.specs.Machine.{Machine}
use Rattle.xp_words.specs.declared.reply.Refusal.TheVariants.{NotMapped}
use Rattle.step_maker.specs.Licences.{is_unmapped}
use Rattle.tlb_walks.specs.Addresses.{index_of, page_of}
use Rattle.tlb_walks.specs.Walks.{barrier_with}
use Rattle.tlb_walks.proofs.Descending.{mapped_inside}
use Rattle.table_law.specs.Exchange.{with_cell}
use Rattle.table_law.specs.Plain.{Plain}
use Rattle.script_law.specs.Walks.{Way, Leads, Stops, at_entry, from_base, path, touched}

pub index_few : (va level : ℕ) → index_of va level < 512
index_few va level = omega arith

-- ---- what a walk leaves
abbrev pub way_left : Way → Plain
way_left (Leads f barrier p) = p
way_left (Stops x p) = p

pub either_way : (P : Way → Type 0) (b : Bool) (x y : Way) → P x → P y → P (if b then x else y)
either_way P true x y a c = a
either_way P false x y a c = c

module _ (n : Machine) (va : ℕ) (write : Bool) where
  -- nothing but cells
  pub path_shares : (l table : ℕ) (barrier : Option ℕ) (p : Plain) → (way_left (path n va write l table barrier p)).shares ≡ p.shares
  unfolding path
  path_shares zero table barrier p = refl
  path_shares (suc l) table barrier p =
      let i = index_of va (suc l) in
      let w = p.cells table i in
      let b = barrier_with barrier w in
      let q = with_cell table i (touched write (suc l) b w) p in
      either_way (λ y. (way_left y).shares ≡ p.shares) (is_unmapped n w) (Stops (NotMapped (suc l) w) q) (path n va write l (frame_of w) b q) refl (path_shares l (frame_of w) b q)

  pub path_kinds : (l table : ℕ) (barrier : Option ℕ) (p : Plain) → (way_left (path n va write l table barrier p)).kinds ≡ p.kinds
  unfolding path
  path_kinds zero table barrier p = refl
  path_kinds (suc l) table barrier p =
      let i = index_of va (suc l) in
      let w = p.cells table i in
      let b = barrier_with barrier w in
      let q = with_cell table i (touched write (suc l) b w) p in
      either_way (λ y. (way_left y).kinds ≡ p.kinds) (is_unmapped n w) (Stops (NotMapped (suc l) w) q) (path n va write l (frame_of w) b q) refl (path_kinds l (frame_of w) b q)

  pub base_shares : (base : ℕ) (p : Plain) → (way_left (from_base n va write base p)).shares ≡ p.shares
  base_shares zero p = refl
  base_shares (suc table) p = path_shares 4 table None p

  pub base_kinds : (base : ℕ) (p : Plain) → (way_left (from_base n va write base p)).kinds ≡ p.kinds
  base_kinds zero p = refl
  base_kinds (suc table) p = path_kinds 4 table None p

-- ---- it depends on the page alone
by_indexes : (n : Machine) (va vb : ℕ) (write : Bool) (l table : ℕ) (barrier : Option ℕ) (p : Plain) → ((k : ℕ) → 1 ≤ k → k ≤ l → index_of va k ≡ index_of vb k) → path n va write l table barrier p ≡ path n vb write l table barrier p
unfolding path
by_indexes n va vb write zero table barrier p same = refl
by_indexes n va vb write (suc l) table barrier p same =
    let i = index_of va (suc l) in
    let w = p.cells table i in
    let b = barrier_with barrier w in
    let q = with_cell table i (touched write (suc l) b w) p in
    ap (λ y. if is_unmapped n w then Stops (NotMapped (suc l) w) q else y) (by_indexes n va vb write l (frame_of w) b q (λ k low high. same k low (omega arith)))
    ∙ ap (λ (j : ℕ). at_entry n (p.cells table j) (path n vb write l) (suc l) (barrier_with barrier (p.cells table j)) (with_cell table j (touched write (suc l) (barrier_with barrier (p.cells table j)) (p.cells table j)) p)) (same (suc l) (omega arith) (omega arith))

index_4 : (va : ℕ) → index_of (2 ^ 12 * page_of va) 4 ≡ index_of va 4
index_4 va = omega arith

index_3 : (va : ℕ) → index_of (2 ^ 12 * page_of va) 3 ≡ index_of va 3
index_3 va = omega arith

index_2 : (va : ℕ) → index_of (2 ^ 12 * page_of va) 2 ≡ index_of va 2
index_2 va = omega arith

index_1 : (va : ℕ) → index_of (2 ^ 12 * page_of va) 1 ≡ index_of va 1
index_1 va = omega arith

index_same : (va k : ℕ) → 1 ≤ k → k ≤ 4 → index_of (2 ^ 12 * page_of va) k ≡ index_of va k
index_same va zero low high = absurd (omega arith)
index_same va (suc zero) low high = index_1 va
index_same va (suc (suc zero)) low high = index_2 va
index_same va (suc (suc (suc zero))) low high = index_3 va
index_same va (suc (suc (suc (suc zero)))) low high = index_4 va
index_same va (suc (suc (suc (suc (suc k))))) low high = absurd (omega arith)

pub page_alone : (n : Machine) (va : ℕ) (write : Bool) (base : ℕ) (p : Plain) → from_base n (2 ^ 12 * page_of va) write base p ≡ from_base n va write base p
page_alone n va write zero p = refl
page_alone n va write (suc table) p = by_indexes n (2 ^ 12 * page_of va) va write 4 table None p (index_same va)

-- ---- it depends on the cells of frames of the machine alone
abbrev pub SameCells : Machine → Plain → Plain → Type 0
SameCells n p q = (g j : ℕ) → g < n.frames → j < 512 → q.cells g j ≡ p.cells g j

-- they lead to the same frame, one of the machine, and leave the same cells
abbrev pub AlikeWays : Machine → Way → Way → Type 0
AlikeWays n (Leads f b p) (Leads g c q) = (g ≡ f) × (c ≡ b) × (f < n.frames) × SameCells n p q
AlikeWays n (Stops x p) (Stops y q) = (y ≡ x) × SameCells n p q
AlikeWays n _ _ = ⊥

alike_put : (a b : Bool) (x y z : ℕ) → z ≡ y → (if a && b then x else z) ≡ (if a && b then x else y)
alike_put true true x y z e = refl
alike_put true false x y z e = e
alike_put false b x y z e = e

alike_at : (n : Machine) (c : Bool) (x y z u : Way) → (c ≡ true → AlikeWays n x y) → (c ≡ false → AlikeWays n z u) → AlikeWays n (if c then x else z) (if c then y else u)
alike_at n true x y z u on off = on refl
alike_at n false x y z u on off = off refl

module _ (n : Machine) (va : ℕ) (write : Bool) where
  path_alike : (l table : ℕ) (barrier : Option ℕ) (p q : Plain) → table < n.frames → SameCells n p q → AlikeWays n (path n va write l table barrier p) (path n va write l table barrier q)
  unfolding path
  path_alike zero table barrier p q inside same = (refl, refl, inside, same)
  path_alike (suc l) table barrier p q inside same =
      let i = index_of va (suc l) in
      let w = p.cells table i in
      let b = barrier_with barrier w in
      let x = touched write (suc l) b w in
      let put : SameCells n (with_cell table i x p) (with_cell table i x q) = λ g j in_g few. alike_put (g == table) (j == i) x (p.cells g j) (q.cells g j) (same g j in_g few) in
      subst (λ (y : ℕ). AlikeWays n (at_entry n w (path n va write l) (suc l) b (with_cell table i x p))
      (at_entry n y (path n va write l) (suc l) (barrier_with barrier y) (with_cell table i (touched write (suc l) (barrier_with barrier y) y) q))) (sym (same table i inside (index_few va (suc l))))
      (alike_at n (is_unmapped n w) _ _ _ _ (λ off. (refl, put)) (λ on. path_alike l (frame_of w) b (with_cell table i x p) (with_cell table i x q) (mapped_inside n w on) put))

  pub base_alike : (base : ℕ) (p q : Plain) → base ≤ n.frames → SameCells n p q → AlikeWays n (from_base n va write base p) (from_base n va write base q)
  base_alike zero p q few same = (refl, same)
  base_alike (suc table) p q few same = path_alike 4 table None p q few same

-- the second leads where the first does
pub record LeadsAlike (n : Machine) (f : ℕ) (barrier : Option ℕ) (p : Plain) (way : Way) : Type 0 where
  pub inside : f < n.frames
  pub left : Plain
  pub is : way ≡ Leads f barrier left
  pub same : SameCells n p left

pub leads_alike : (n : Machine) (f : ℕ) (barrier : Option ℕ) (p : Plain) (way : Way) → AlikeWays n (Leads f barrier p) way → LeadsAlike n f barrier p way
leads_alike n f barrier p (Leads g c q) a = record { inside = a.2; left = q; is = ap (λ k. Leads k c q) a.0 ∙ ap (λ k. Leads f k q) a.1; same = a.3 }
leads_alike n f barrier p (Stops y q) a = absurd a
