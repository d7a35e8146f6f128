-- Whole frames that are stored word by word, on words as on the plain value.
use Rattle.std.proofs.Common.{◌≡◌, ◌≢◌, ℕ, suc, ◌+◌, ◌-◌, ◌<◌, ◌==◌, if◌then◌else◌, Bool, true, false, List, length, Some, refl, sym, ap, ◌∙◌, subst, arith}
use Rattle.std.proofs.lemmas.Bool.Decides.{nat_tests}
use Rattle.xp_words.specs.KindWords.{kind_fields}
use Rattle.xp_words.specs.Machine.{Machine}
use Rattle.xp_words.specs.declared.place.Place.{Place}
use Rattle.xp_words.specs.declared.place.Place.TheVariants.{Cell, Kind, Refs}
use Rattle.xp_board.specs.Acts.{left_by}
use Rattle.xp_board.specs.declared.step.Act.TheVariants.{Store}
use Rattle.xp_board.proofs.PlaceTests.{is_same-other, is_same-refl}
use Rattle.step_maker.specs.Plain.{Words, change}
use Rattle.step_maker.specs.Visits.{Visit}
use Rattle.step_maker.proofs.Telling.{load_leaves}
use Rattle.replay_laws.specs.Replays.{Replays, SameWords}
use Rattle.whole_pages.specs.Whole as whole
use Rattle.whole_pages.specs.Whole.{ClearedBy, CopiedBy}
use Rattle.table_law.specs.Plain.{Describes, Plain, Share, at, fewer, raised_share, reference_back, share_of, sober}
use Rattle.script_law.specs.Pages.{with_page}

-- ---- one store
pub stored_here : (x : ℕ) (p : Place) (m : Words) → change (Store x) p m p ≡ x
unfolding left_by
stored_here x p m = ap (λ b. if b then x else m p) (is_same-refl p)

pub stored_off : (x : ℕ) (p q : Place) (m : Words) → q ≢ p → change (Store x) p m q ≡ m q
stored_off x p q m off = ap (λ b. if b then left_by (Store x) (m p) else m q) (is_same-other q p off)

-- ---- the first cells of a frame, so many, have these words; all others are as before
pub record Filled (m w : Words) (f k : ℕ) (words : ℕ → ℕ) : Type 0 where
  pub cells : (j : ℕ) → j < k → w (Cell f j) ≡ words j
  pub others : (q : Place) → ((j : ℕ) → j < k → q ≢ Cell f j) → w q ≡ m q

pub filled_none : (m w : Words) (f : ℕ) (words : ℕ → ℕ) → SameWords m w → Filled m w f 0 words
filled_none m w f words same = record { cells = λ j low. absurd (omega (arith, low)); others = λ q off. same q }

module _ (m u w : Words) (f k x : ℕ) (words : ℕ → ℕ) (before : Filled m u f k words) (same : SameWords (change (Store x) (Cell f k) u) w) (is : words k ≡ x) where
  cell_by : (b : Bool) (j : ℕ) → (j == k) ≡ b → j < k + 1 → w (Cell f j) ≡ words j
  cell_by true j on low =
      let e : j ≡ k = grind (arith, nat_tests) in
      ap (λ i. w (Cell f i)) e ∙ same (Cell f k) ∙ stored_here x (Cell f k) u ∙ sym is ∙ ap words (sym e)
  cell_by false j off low =
      let e : j ≢ k = grind (arith, nat_tests) in
      let below : j < k = grind (arith, nat_tests) in
      same (Cell f j) ∙ stored_off x (Cell f k) (Cell f j) u (λ c. let i : j ≡ k = cc in e i) ∙ before.cells j below

  pub filled_more : Filled m w f (k + 1) words
  filled_more =
      record {
        cells = λ j low. cell_by (j == k) j refl low;
        others = λ q off. same q ∙ stored_off x (Cell f k) q u (off k (omega arith)) ∙ before.others q (λ j low. off j (omega (arith, low)));
      }

-- ---- cleared
pub cleared_words : (f k : ℕ) (vs : List Visit) (m w : Words) → ClearedBy f k vs → Replays m vs w → Filled m w f k (λ j. 0)
cleared_words f _ _ m w whole.none a = filled_none m w f (λ j. 0) a
cleared_words f _ _ m w (whole.more i old vs by) a = filled_more m a.0 w f i 0 (λ j. 0) (cleared_words f i vs m a.0 by a.1) a.3 refl

-- ---- copied
pub copied_words : (to from : ℕ) (xs : List ℕ) (vs : List Visit) (m w : Words) → CopiedBy to from xs vs → Replays m vs w → Filled m w to (length xs) (λ j. m (Cell from j))
copied_words to from _ _ m w whole.none a = filled_none m w to (λ j. m (Cell from j)) a
copied_words to from _ _ m w (whole.more x old xs vs by) a =
    let k = length xs in
    let u = a.1.0 in
    let before = copied_words to from xs vs m u by a.1.1 in
    let found : m (Cell from k) ≡ x = sym (before.others (Cell from k) (λ j low e. let i : k ≡ j = cc in omega (arith, i, low))) ∙ a.1.2 in
    let loaded : SameWords u a.0 = λ q. a.1.3 q ∙ load_leaves (Cell from k) u q in
    let here : Filled m a.0 to k (λ j. m (Cell from j)) = record { cells = λ j low. loaded (Cell to j) ∙ before.cells j low; others = λ q off. loaded q ∙ before.others q off } in
    let more = filled_more m a.0 w to k x (λ j. m (Cell from j)) here a.3 found in
    subst (λ c. Filled m w to c (λ j. m (Cell from j))) (let e : k + 1 ≡ suc k = omega arith in e) more

-- ---- the plain value
module _ (n : Machine) (m w : Words) (f : ℕ) (words page : ℕ → ℕ) (p : Plain) (d : Describes n m p) (filled : Filled m w f 512 words) (are : (j : ℕ) → j < 512 → page j ≡ words j) where
  in_page : (b : Bool) (g i : ℕ) → (g == f) ≡ b → g < n.frames → i < 512 → (if b then page i else p.cells g i) ≡ w (Cell g i)
  in_page true g i on inside few =
      let e : g ≡ f = grind (arith, nat_tests) in
      are i few ∙ sym (filled.cells i few) ∙ ap (λ h. w (Cell h i)) (sym e)
  in_page false g i off inside few =
      let apart : g ≢ f = grind (arith, nat_tests) in
      d.cells g i inside few ∙ sym (filled.others (Cell g i) (λ j low c. let e : g ≡ f = cc in apart e))

  pub filled_described : Describes n w (with_page f page p)
  filled_described =
      record {
        shares = λ g inside. d.shares g inside ∙ sym (ap share_of (filled.others (Refs g) (λ j low c. cc)));
        kinds = λ g inside. d.kinds g inside ∙ sym (ap (λ y. sober (kind_fields y)) (filled.others (Kind g) (λ j low c. cc)));
        cells = λ g i inside few. in_page (g == f) g i refl inside few;
      }

-- ---- a reference that was taken and given back again
module _ (g : ℕ) (s : Share) (p : Plain) (was : p.shares g ≡ Some s) (some : 0 < s.count) where
  abbrev pub lent : Plain
  lent = record { shares = at g (Some (raised_share s)) p.shares; kinds = p.kinds; cells = p.cells }

  fewer_again : fewer (Some (raised_share s)) ≡ Some s
  fewer_again = let e : (s.count + 1 == 1) ≡ false = grind (arith, nat_tests) in rw e (let c : s.count + 1 - 1 ≡ s.count = omega arith in ap (λ k. Some (record { owner = s.owner; allocated = s.allocated; count = k })) c)

  fewer_here : fewer (lent.shares g) ≡ Some s
  fewer_here = let e : (g == g) ≡ true = grind (arith, nat_tests) in rw e fewer_again

  share_by : (b : Bool) (h : ℕ) → (h == g) ≡ b → (if b then fewer (lent.shares g) else (if b then Some (raised_share s) else p.shares h)) ≡ p.shares h
  share_by true h on = let e : h ≡ g = grind (arith, nat_tests) in fewer_here ∙ sym was ∙ ap p.shares (sym e)
  share_by false h off = refl

  pub returned : (n : Machine) (m : Words) → Describes n m (reference_back g lent) → Describes n m p
  returned n m d = record { shares = λ h inside. sym (share_by (h == g) h refl) ∙ d.shares h inside; kinds = d.kinds; cells = d.cells }
