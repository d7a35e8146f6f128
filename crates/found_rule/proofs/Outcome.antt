-- An act by what facts ask of it; and what makes up most acts: those that neither flush nor run nor change what is reached.
use Rattle.std.proofs.Common.{◌≡◌, ◌≢◌, ℕ, ◌<◌, ap, ◌∙◌, inl, inr}
use Rattle.std.proofs.lemmas.Bool.{cases_eq}
use Rattle.xp_words.specs.Machine.{Machine}
use Rattle.xp_words.specs.declared.place.Place.{Place}
use Rattle.xp_words.specs.declared.place.Place.TheVariants.{Cell}
use Rattle.xp_words.specs.Places.{sizes_of, flushed_of, run_of}
use Rattle.xp_board.specs.declared.holdings.Holdings.{Holdings}
use Rattle.xp_board.specs.Found.{Found}
use Rattle.xp_board.specs.Sound.{Sound}
use Rattle.found_rule.proofs.Growth.{Grown, stayed, added}
use Rattle.found_rule.proofs.Learning.{Act}
use Rattle.found_rule.proofs.Words.{Words}
use Rattle.found_rule.proofs.WordFacts.{off_same, cold_same}
use Rattle.found_rule.proofs.HandFacts.{ReachKept}
use Rattle.found_rule.proofs.ReachSame.{reach_same}
use Rattle.found_rule.proofs.FoundLaw.{Offs, Mine, all_found}
use Rattle.found_rule.proofs.MyHand.{HandRight, mine_by}
use Rattle.xp_board.proofs.Sums.{seat_same}

-- what facts ask of an act
pub record Outcome (n : Machine) (s : ℕ) (m m2 : Place → ℕ) (b c : ℕ → Holdings) : Type 0 where
  pub place : Place
  pub moved : Holdings
  pub words : Words n s m m2 b
  pub reach : ReachKept n m m2 b c
  pub offs : Offs n m m2 b c
  pub mine : Mine n s place m m2 b c moved

pub found_by : (n : Machine) (s : ℕ) (m m2 : Place → ℕ) (b c : ℕ → Holdings) → s < (sizes_of n).vcpus → Sound n m b → ((t : ℕ) → t ≢ s → c t ≡ b t) →
    Outcome n s m m2 b c → (t : ℕ) → t < (sizes_of n).vcpus → Found n m2 c t
found_by n s m m2 b c l sound others o t k = all_found n s o.place m m2 b c o.moved l sound o.words o.reach o.offs others o.mine t k

module _ (n : Machine) (s : ℕ) (p : Place) (m m2 : Place → ℕ) (b c : ℕ → Holdings) (u : Holdings) (acted : Act n s p m m2 (b s) u (c s)) (others : (t : ℕ) → t ≢ s → c t ≡ b t) where
  -- what each vCPU has of a part that the act does not move
  pub part_same : {A : Type 0} (part : Holdings → A) → part (c s) ≡ part u → part u ≡ part (b s) → (v : ℕ) → part (c v) ≡ part (b v)
  part_same part e k v = seat_same part s b c others (e ∙ k) v

  pub all_grown : (v : ℕ) → Grown (sizes_of n) m m2 (b v).steps (c v).steps
  all_grown v =
      elim (cases_eq v s) [ inl at ↦ rw at (added acted.made p acted.added acted.steps) | inr off ↦ stayed (ap (λ y. y.steps) (others v off)) ]

  pub reach_kept : u.cache ≡ (b s).cache → u.walk ≡ (b s).walk → ((f i : ℕ) → m2 (Cell f i) ≡ m (Cell f i)) → ReachKept n m m2 b c
  reach_kept cache walk cells v f purpose l busy marked past =
      inl
      (reach_same (sizes_of n) m m2 (b v) (c v) cells (part_same (λ y. y.cache) acted.learned.cache cache v) (part_same (λ y. y.walk) acted.learned.walk walk v) past)

  pub offs_kept : u.cold ≡ (b s).cold → u.ran ≡ (b s).ran → ((v : ℕ) → m2 (flushed_of v) ≡ m (flushed_of v)) → ((v : ℕ) → m2 (run_of v) ≡ m (run_of v)) → Words n s m m2 b → Offs n m m2 b c
  offs_kept cold ran flushed run words =
      let warm = part_same (λ y. y.cold) acted.learned.cold cold in
      record {
        off = λ v l w found off since. off_same n m m2 b c v (run v) (warm v) w (flushed v) off;
        cold = λ v l w found since. cold_same n m m2 b c v (run v) (warm v) w words.moves.clock (part_same (λ y. y.ran) acted.learned.ran ran v) (all_grown v) found since;
      }

  pub outcome_by : u.cache ≡ (b s).cache → u.walk ≡ (b s).walk → u.cold ≡ (b s).cold → u.ran ≡ (b s).ran → ((f i : ℕ) → m2 (Cell f i) ≡ m (Cell f i)) →
      ((v : ℕ) → m2 (flushed_of v) ≡ m (flushed_of v)) → ((v : ℕ) → m2 (run_of v) ≡ m (run_of v)) → Words n s m m2 b →
      (ReachKept n m m2 b c → HandRight n s m m2 b c u) → Outcome n s m m2 b c
  outcome_by cache walk cold ran cells flushed run words hand =
      let reach = reach_kept cache walk cells in
      record {
        place = p;
        moved = u;
        words = words;
        reach = reach;
        offs = offs_kept cold ran flushed run words;
        mine = mine_by n s p m m2 b c u acted (hand reach);
      }
