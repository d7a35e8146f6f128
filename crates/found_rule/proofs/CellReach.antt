-- What is come to after an act on a cell, or by the own walk.
use Rattle.std.proofs.Common.{◌≡◌, ◌≢◌, ℕ, ◌<◌, false, sym, subst, inl, inr}
use Rattle.std.proofs.lemmas.Bool.{cases_eq}
use Rattle.xp_words.specs.PageTypes.{type_number}
use Rattle.xp_words.specs.Machine.{Machine}
use Rattle.xp_words.specs.declared.place.Place.{Place}
use Rattle.xp_words.specs.declared.place.Place.TheVariants.{Cell}
use Rattle.xp_words.specs.Places.{sizes_of}
use Rattle.xp_board.specs.declared.step.Item.{Item}
use Rattle.xp_board.specs.declared.holdings.Reached.{Reached}
use Rattle.xp_board.specs.declared.holdings.Holdings.{Holdings}
use Rattle.xp_board.specs.Lists.{Member}
use Rattle.xp_board.specs.Readings.{kind_at}
use Rattle.xp_board.specs.Reach.{Use, Table, use_of, reached_by, Reach, cached, walked}
use Rattle.xp_board.specs.Sound.{Sound}
use Rattle.xp_board.proofs.PlaceTests.{same_or_other}
use Rattle.found_rule.proofs.HandFacts.{ReachKept}
use Rattle.found_rule.proofs.Serving.{Came, PassesOn, alike_passes, came_all, came_kept}
use Rattle.xp_board.proofs.ReachAll.{IsLevel, unmarked_matches, reach_level}
use Rattle.xp_board.proofs.CellAlike.{alike_same, not_reads}

module _ (n : Machine) (m : Place → ℕ) (h : ℕ → Holdings) (sound : Sound n m h) where
  -- a table that is come to, unmarked: its type is its level
  pub came_table : (v g level : ℕ) → v < (sizes_of n).vcpus → (kind_at m g).unflushed ≡ false → Came n m h v g (Table level) → (type_number (kind_at m g).kind ≡ level) × IsLevel (Table level)
  came_table v g level real unmarked (inl r) = (unmarked_matches n m h sound v g (Table level) real unmarked (not_reads level) r, reach_level n m h sound v g (Table level) real r)
  came_table v g level real unmarked (inr (inl serves)) = (serves.matches (not_reads level), serves.level)
  came_table v g level real unmarked (inr (inr read)) = absurd (not_reads level read)

-- ---- all that is come to
module _ (n : Machine) (s : ℕ) (m m2 : Place → ℕ) (b c : ℕ → Holdings) (u : Holdings) (sound : Sound n m b) (others : (t : ℕ) → t ≢ s → c t ≡ b t) (cache : (c s).cache ≡ u.cache) (walk : (c s).walk ≡ u.walk)
    (passes : (v f i : ℕ) → v < (sizes_of n).vcpus → PassesOn n m m2 b v f i) (items : (x : Item) → Member x u.cache → Came n m b s x.frame (use_of x))
    (tables : (x : Reached) → Member x (reached_by u.walk) → Came n m b s x.table (Table x.level)) where
  came_by : (v g : ℕ) (p : Use) → v < (sizes_of n).vcpus → Reach (sizes_of n) m2 (c v) g p → Came n m b v g p
  came_by v g p l r =
      elim (cases_eq v s) [
        | inl at ↦
            came_all n m m2 b sound v (c v)
            (λ x k. subst (λ y. Came n m b y x.frame (use_of x)) (sym at) (items x (subst (λ xs. Member x xs) cache (subst (λ y. Member x (c y).cache) at k))))
            (λ x k. subst (λ y. Came n m b y x.table (Table x.level)) (sym at) (tables x (subst (λ o. Member x (reached_by o)) walk (subst (λ y. Member x (reached_by (c y).walk)) at k))))
            (λ f i. passes v f i l) g p r
        | inr off ↦
            came_all n m m2 b sound v (c v) (λ x k. inl (cached x (subst (λ y. Member x y.cache) (others v off) k)))
            (λ x k. inl (walked x (subst (λ y. Member x (reached_by y.walk)) (others v off) k))) (λ f i. passes v f i l) g p r
      ]

  pub came_reach : ReachKept n m m2 b c
  came_reach v f p l busy marked past = came_kept n m m2 b sound v f p busy (came_by v f p l past)

-- where one cell is written
pub cell_passes : (n : Machine) (m m2 : Place → ℕ) (h : ℕ → Holdings) (sound : Sound n m h) (f i : ℕ) → ((q : Place) → q ≢ Cell f i → m2 q ≡ m q) →
    ((v : ℕ) → v < (sizes_of n).vcpus → PassesOn n m m2 h v f i) → (v g j : ℕ) → v < (sizes_of n).vcpus → PassesOn n m m2 h v g j
cell_passes n m m2 h sound f i others here v g j l =
    elim (same_or_other (Cell g j) (Cell f i)) [
      | inl at ↦ (let a : g ≡ f = cc in let e : j ≡ i = cc in rw (a, e) (here v l))
      | inr off ↦ alike_passes n m m2 h sound v g j (alike_same (m (Cell g j)) (m2 (Cell g j)) (others (Cell g j) off))
    ]

-- where the table is come to by nobody
pub unreached_passes : (n : Machine) (m m2 : Place → ℕ) (h : ℕ → Holdings) (f i v : ℕ) → ((level : ℕ) → Came n m h v f (Table level) → ⊥) → PassesOn n m m2 h v f i
unreached_passes n m m2 h f i v none level came walks present inside = absurd (none level came)

-- where all words stay
pub same_passes : (n : Machine) (m m2 : Place → ℕ) (h : ℕ → Holdings) (sound : Sound n m h) → ((f i : ℕ) → m2 (Cell f i) ≡ m (Cell f i)) → (v f i : ℕ) → v < (sizes_of n).vcpus → PassesOn n m m2 h v f i
same_passes n m m2 h sound cells v f i l = alike_passes n m m2 h sound v f i (alike_same (m (Cell f i)) (m2 (Cell f i)) (cells f i))
