-- What a vCPU can come to, before and after a step.
use Rattle.std.proofs.Common.{◌≡◌, ◌≢◌, ℕ, ◌+◌, ◌-◌, ◌<◌, ◌≤◌, ◌==◌, inl, inr, Bool, true, false, List, [], ◌∷◌, refl, sym, subst, arith, IsTrue, if◌then◌else◌, Option, Some, None, ◌&&◌, ap}
use Rattle.std.proofs.lemmas.Bool.Decides.{nat_tests}
use Rattle.xp_words.specs.Entries.{is_bit, frame_of}
use Rattle.xp_words.specs.declared.place.Place.{Place}
use Rattle.xp_words.specs.declared.place.Place.TheVariants.{Cell}
use Rattle.xp_words.specs.Places.{Sizes, sizes_of}
use Rattle.xp_board.specs.declared.step.Item.{Item}
use Rattle.xp_board.specs.declared.holdings.Reached.{Reached}
use Rattle.xp_board.specs.declared.holdings.Walk.{Walk}
use Rattle.xp_board.specs.declared.holdings.Holdings.{Holdings}
use Rattle.xp_board.specs.Lists.{Member, some_of}
use Rattle.xp_board.specs.FillSteps.{is_walked}
use Rattle.xp_board.specs.WellFormed.{IsDescent, IsWalkFormed}
use Rattle.xp_board.specs.Reach.{Use, Table, Writes, Reads, use_of, use_below, reached_by, Reach, cached, walked, entry}
use Rattle.xp_words.specs.Machine.{Machine}
use Rattle.xp_board.specs.Readings.{kind_at}
use Rattle.xp_board.specs.Fresh.{Matches}
use Rattle.xp_board.specs.Sound.{Sound}
use Rattle.std.proofs.lemmas.Bool.{and_parts, eqb-true}
use Rattle.xp_board.proofs.HandLists.{some_of-member}

-- ---- all that is reached has a property that what is held has, and that entries pass on
pub Reach-all : {z : Sizes} {m : Place → ℕ} {h : Holdings} (P : ℕ → Use → Type 0) →
    ((x : Item) → Member x h.cache → P x.frame (use_of x)) → ((x : Reached) → Member x (reached_by h.walk) → P x.table (Table x.level)) →
    ((f level i : ℕ) → P f (Table level) → IsTrue (is_walked level i) → IsTrue (is_bit 0 (m (Cell f i))) → frame_of (m (Cell f i)) < z.frames →
    P (frame_of (m (Cell f i))) (use_below level (m (Cell f i)))) → {g : ℕ} {u : Use} → Reach z m h g u → P g u
Reach-all P items tables down (cached x c) = items x c
Reach-all P items tables down (walked x c) = tables x c
Reach-all P items tables down (entry f level i r w p inside) = down f level i (Reach-all P items tables down r) w p inside

-- nothing is reached where nothing is held
pub Reach-none : {z : Sizes} {m : Place → ℕ} {h : Holdings} {g : ℕ} {u : Use} → h.cache ≡ [] → h.walk ≡ None → Reach z m h g u → ⊥
unfolding Member
Reach-none cache walk r =
    Reach-all (λ g u. ⊥) (λ x c. subst (λ xs. Member x xs) cache c) (λ x c. subst (λ w. Member x (reached_by w)) walk c) (λ f level i e w p inside. e) r

-- nothing more is reached where no cell changes and nothing more is held
pub Reach-same : {z : Sizes} {m m2 : Place → ℕ} {a b : Holdings} {g : ℕ} {u : Use} → ((f i : ℕ) → m2 (Cell f i) ≡ m (Cell f i)) →
    ((x : Item) → Member x b.cache → Member x a.cache) → ((x : Reached) → Member x (reached_by b.walk) → Member x (reached_by a.walk)) →
    Reach z m2 b g u → Reach z m a g u
Reach-same {z} {m} {m2} {a} cells cache walk r =
    Reach-all (λ g u. Reach z m a g u) (λ x c. cached x (cache x c)) (λ x c. walked x (walk x c))
    (λ f level i old w p inside.
    subst (λ x. Reach z m a (frame_of x) (use_below level x)) (sym (cells f i))
    (entry f level i old w (subst (λ x. IsTrue (is_bit 0 x)) (cells f i) p) (subst (λ x. frame_of x < z.frames) (cells f i) inside)))
    r

-- ---- levels
-- the level of a table is 1 to 4
abbrev pub IsLevel : Use → Type 0
IsLevel (Table level) = (1 ≤ level) × (level ≤ 4)
IsLevel Writes = Unit {0}
IsLevel Reads = Unit {0}

item_level : (b : Bool) → IsLevel (if b then Writes else Reads)
item_level true = tt
item_level false = tt

level_below : (level : ℕ) (c b : Bool) → (level == 1) ≡ b → IsLevel (Table level) → IsLevel (if b then (if c then Writes else Reads) else Table (level - 1))
level_below level true true e l = tt
level_below level false true e l = tt
level_below level c false e l = let k : level ≢ 1 = (λ at. absurd (let t : (level == 1) ≡ true = grind (arith, nat_tests) in cc)) in let lo = l.0 in let hi = l.1 in (omega arith, omega arith)

descent_top : (level : ℕ) (xs : List Reached) → IsDescent level xs → level ≤ 5
descent_top level [] d = omega arith
descent_top level (y ∷ ys) d = let rest = descent_top (level + 1) ys d.1 in omega arith

descent_level : (level : ℕ) (xs : List Reached) (x : Reached) → IsDescent level xs → 1 ≤ level → Member x xs → (1 ≤ x.level) × (x.level ≤ 4)
unfolding Member
descent_level level [] x d lo c = absurd c
descent_level level (y ∷ ys) x d lo c =
    let top = descent_top (level + 1) ys d.1 in
    elim c [
      | inl e ↦ subst (λ k. (1 ≤ k.level) × (k.level ≤ 4)) e (let k = d.0 in (omega arith, omega arith))
      | inr rest ↦ descent_level (level + 1) ys x d.1 (omega arith) rest
    ]

walk_level : (o : Option Walk) (x : Reached) → ((walk : Walk) → o ≡ Some walk → IsWalkFormed walk) → Member x (reached_by o) → (1 ≤ x.level) × (x.level ≤ 4)
unfolding Member
walk_level (Some walk) x formed c = let f = formed walk refl in descent_level f.level walk.reached x f.descent f.low c
walk_level None x formed c = absurd c

pub Reach-level : {z : Sizes} {m : Place → ℕ} {h : Holdings} {g : ℕ} {u : Use} → ((walk : Walk) → h.walk ≡ Some walk → IsWalkFormed walk) → Reach z m h g u → IsLevel u
Reach-level {m} {h} formed r =
    Reach-all (λ g u. IsLevel u) (λ x c. item_level x.writable) (λ x c. walk_level h.walk x formed c)
    (λ f level i l w p inside. level_below level (is_bit 1 (m (Cell f i))) (level == 1) refl l) r

-- ---- what is come to of a sound machine
module _ (n : Machine) (m : Place → ℕ) (h : ℕ → Holdings) (sound : Sound n m h) where
  pub reach_level : (v g : ℕ) (u : Use) → v < (sizes_of n).vcpus → Reach (sizes_of n) m (h v) g u → IsLevel u
  reach_level v g u real r = Reach-level (sound.formed v real).cache.walk r

  -- an unmarked frame has the type of each use that is made of it
  pub unmarked_matches : (v g : ℕ) (u : Use) → v < (sizes_of n).vcpus → (kind_at m g).unflushed ≡ false → u ≢ Reads → Reach (sizes_of n) m (h v) g u → Matches (kind_at m g).kind u
  unmarked_matches v g u real unmarked other r =
      elim ((sound.fresh.each v real g u r).bears.typed other) [ inl plain ↦ plain.1 | inr marked ↦ absurd (let k = marked.0 in cc) ]

-- a cached item that may be written through
pub written_reach : (z : Sizes) (m : Place → ℕ) (h : Holdings) (f : ℕ) → IsTrue (some_of (λ y. (y.frame == f) && y.writable) h.cache) → Reach z m h f Writes
written_reach z m h f some =
    let one = some_of-member (λ y. (y.frame == f) && y.writable) h.cache some in
    let both = and_parts (one.0.frame == f) one.0.writable one.2 in
    let used : use_of one.0 ≡ Writes = ap (λ b. if b then Writes else Reads) both.1 in
    subst (λ g. Reach z m h g Writes) (eqb-true one.0.frame f both.0) (subst (λ u. Reach z m h one.0.frame u) used (cached one.0 one.1))
