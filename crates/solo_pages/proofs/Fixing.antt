-- The words of a descriptor page are fixed one by one, on words as on the plain value.
use Rattle.std.proofs.Common.{◌≡◌, ◌≢◌, ℕ, zero, suc, ◌+◌, ◌<◌, ◌==◌, ◌&&◌, nat_lt, is_none, if◌then◌else◌, Bool, true, false, List, Option, Some, None, refl, sym, ap, ◌∙◌, subst, arith}
use Rattle.std.proofs.lemmas.Bool.Decides.{nat_tests}
use Rattle.xp_words.specs.Entries.{fixed}
use Rattle.xp_words.specs.KindWords.{kind_fields}
use Rattle.xp_words.specs.Machine.{Machine}
use Rattle.xp_words.specs.declared.place.Place.TheVariants.{Cell, Kind, Refs}
use Rattle.xp_board.specs.Told.{PortValue, is_telling, told_word}
use Rattle.step_maker.specs.Plain.{Words}
use Rattle.step_maker.specs.Visits.{Visit}
use Rattle.step_maker.proofs.Telling.{load_leaves}
use Rattle.replay_laws.specs.Replays.{Replays, ReplaysAs, SameWords}
use Rattle.replay_laws.proofs.Replaying.{does_replays}
use Rattle.desc_pages.specs.Fixing as fixing
use Rattle.desc_pages.specs.Fixing.{Fixes, FixesBy}
use Rattle.xp_board.specs.declared.holdings.Work.{Work}
use Rattle.table_law.specs.Plain.{Describes, Plain, share_of, sober}
use Rattle.script_law.specs.Pages.{fixed_or, with_fixed}
use Rattle.script_law.specs.Repeats.{first_of}
use Rattle.solo_pages.specs.Shown.{SameBeside}
use Rattle.solo_pages.proofs.Filling.{Filled, filled_more, filled_none}
use Rattle.solo_pages.proofs.Steps.{AtFrames, does_beside}

-- ---- the first words, so many
abbrev pub fixed_at : Words → ℕ → ℕ → ℕ
fixed_at m f j = fixed_or (m (Cell f j)) (fixed (m (Cell f j)))

-- they are fixed now, and each had a fixed form; all others are as before
pub record Fixed (m w : Words) (f k : ℕ) : Type 0 where
  pub filled : Filled m w f k (fixed_at m f)
  pub had : (j : ℕ) → j < k → is_none (fixed (m (Cell f j))) ≡ false

-- one that stands as it is
stands_more : (m u w : Words) (f k : ℕ) (words : ℕ → ℕ) → Filled m u f k words → u (Cell f k) ≡ words k → SameWords u w → Filled m w f (k + 1) words
stands_more m u w f k words before here same =
    record { cells = λ j low. by (j == k) j refl low; others = λ q off. same q ∙ before.others q (λ j low. off j (omega (arith, low))) }
  where
    by : (b : Bool) (j : ℕ) → (j == k) ≡ b → j < k + 1 → w (Cell f j) ≡ words j
    by true j on low = let e : j ≡ k = grind (arith, nat_tests) in ap (λ i. w (Cell f i)) e ∙ same (Cell f k) ∙ here ∙ ap words (sym e)
    by false j off low = let below : j < k = grind (arith, nat_tests) in same (Cell f j) ∙ before.cells j below

had_more : (m : Words) (f k x y : ℕ) → ((j : ℕ) → j < k → is_none (fixed (m (Cell f j))) ≡ false) → m (Cell f k) ≡ x → fixed x ≡ Some y → (j : ℕ) → j < k + 1 → is_none (fixed (m (Cell f j))) ≡ false
had_more m f k x y before was is j low = by (j == k) refl
  where
    by : (b : Bool) → (j == k) ≡ b → is_none (fixed (m (Cell f j))) ≡ false
    by true on = let e : j ≡ k = grind (arith, nat_tests) in ap (λ i. is_none (fixed (m (Cell f i)))) e ∙ ap (λ z. is_none (fixed z)) was ∙ ap (λ (o : Option ℕ). is_none o) is
    by false off = let below : j < k = grind (arith, nat_tests) in before j below

fixed_is : (m : Words) (f k x y : ℕ) → m (Cell f k) ≡ x → fixed x ≡ Some y → fixed_at m f k ≡ y
fixed_is m f k x y was is = ap (λ z. fixed_or z (fixed z)) was ∙ ap (fixed_or x) is

off_below : (f i j : ℕ) → j < i → Cell f i ≢ Cell f j
off_below f i j low e = let k : i ≡ j = cc in omega (arith, k, low)

pub fixed_words : (f k : ℕ) (vs : List Visit) (m w : Words) → FixesBy f k vs → Replays m vs w → Fixed m w f k
fixed_words f _ _ m w fixing.none a = record { filled = filled_none m w f (fixed_at m f) a; had = λ j low. absurd (omega (arith, low)) }
fixed_words f _ _ m w (fixing.stands i x vs is by) a =
    let b = fixed_words f i vs m a.0 by a.1 in
    let was : m (Cell f i) ≡ x = sym (b.filled.others (Cell f i) (λ j low. off_below f i j low)) ∙ a.2 in
    record {
      filled = stands_more m a.0 w f i (fixed_at m f) b.filled (a.2 ∙ sym (fixed_is m f i x x was is)) (λ q. a.3 q ∙ load_leaves (Cell f i) a.0 q);
      had = had_more m f i x x b.had was is;
    }
fixed_words f _ _ m w (fixing.changes i x y old vs is off by) a =
    let u = a.1.0 in
    let b = fixed_words f i vs m u by a.1.1 in
    let was : m (Cell f i) ≡ x = sym (b.filled.others (Cell f i) (λ j low. off_below f i j low)) ∙ a.1.2 in
    let loaded : SameWords u a.0 = λ q. a.1.3 q ∙ load_leaves (Cell f i) u q in
    let here : Filled m a.0 f i (fixed_at m f) = record { cells = λ j low. loaded (Cell f j) ∙ b.filled.cells j low; others = λ q o. loaded q ∙ b.filled.others q o } in
    record { filled = filled_more m a.0 w f i y (fixed_at m f) here a.3 (fixed_is m f i x y was is); had = had_more m f i x y b.had was is }

at_fixed : (f k : ℕ) (vs : List Visit) → FixesBy f k vs → AtFrames vs
at_fixed f _ _ fixing.none = tt
at_fixed f _ _ (fixing.stands i x vs is by) = (tt, at_fixed f i vs by)
at_fixed f _ _ (fixing.changes i x y old vs is off by) = (tt, (tt, at_fixed f i vs by))

-- ---- the plain value
module _ (n : Machine) (m w : Words) (f k : ℕ) (p : Plain) (d : Describes n m p) (inside : f < n.frames) (are : Filled m w f k (fixed_at m f)) where
  in_page : (b c : Bool) (g i : ℕ) → (g == f) ≡ b → nat_lt i k ≡ c → g < n.frames → i < 512 → (if b && c then fixed_or (p.cells g i) (fixed (p.cells g i)) else p.cells g i) ≡ w (Cell g i)
  in_page true true g i on low real few =
      let e : g ≡ f = grind (arith, nat_tests) in
      let below : i < k = grind (arith, nat_tests) in
      ap (λ z. fixed_or z (fixed z)) (d.cells g i real few ∙ ap (λ h. m (Cell h i)) e) ∙ sym (are.cells i below) ∙ ap (λ h. w (Cell h i)) (sym e)
  in_page true false g i on high real few =
      d.cells g i real few ∙ sym (are.others (Cell g i) (λ j low c. let e : i ≡ j = cc in let above : i < k = omega (arith, e, low) in let not_below : nat_lt i k ≡ true = grind (arith, nat_tests) in absurd (let x = sym high ∙ not_below in cc)))
  in_page false c g i off any real few =
      let apart : g ≢ f = grind (arith, nat_tests) in
      d.cells g i real few ∙ sym (are.others (Cell g i) (λ j low c. let e : g ≡ f = cc in apart e))

  pub fixed_described : Describes n w (with_fixed f k p)
  fixed_described =
      record {
        shares = λ g real. d.shares g real ∙ sym (ap share_of (are.others (Refs g) (λ j low c. cc)));
        kinds = λ g real. d.kinds g real ∙ sym (ap (λ y. sober (kind_fields y)) (are.others (Kind g) (λ j low c. cc)));
        cells = λ g i real few. in_page (g == f) (nat_lt i k) g i refl refl real few;
      }

-- by its steps
pub record FixedPlain (n : Machine) (v w : PortValue) (f k : ℕ) (p : Plain) : Type 0 where
  pub are : Fixed (told_word v) (told_word w) f k
  pub frames : Describes n (told_word w) (with_fixed f k p)
  pub beside : SameBeside (told_word v) (told_word w)

pub fixes_plain : (n : Machine) (v w : PortValue) (f k : ℕ) (e : Work) (rest : List Work) (p : Plain) → is_telling v ≡ true → Describes n (told_word v) p → f < n.frames → Fixes v w f k e rest → FixedPlain n v w f k p
fixes_plain n v w f k e rest p telling d inside fixes =
    let all : ReplaysAs (told_word v) (λ vs. FixesBy f k vs) (told_word w) = does_replays v w _ telling fixes.visits in
    let are = fixed_words f k all.list (told_word v) (told_word w) all.like all.replays in
    record { are = are; frames = fixed_described n (told_word v) (told_word w) f k p d inside are.filled; beside = does_beside v w _ (at_fixed f k) fixes.visits }

-- ---- the first one without
first_none : (k at : ℕ) (test : ℕ → Bool) → ((j : ℕ) → j < k → test (at + j) ≡ false) → first_of k at test ≡ None
unfolding first_of
first_none zero at test off = refl
first_none (suc k) at test off =
    let here : test at ≡ false = let z : at + 0 ≡ at = omega arith in subst (λ j. test j ≡ false) z (off 0 (omega arith)) in
    ap (λ b. if b then Some at else first_of k (at + 1) test) here
    ∙ first_none k (at + 1) test (λ j low. let z : at + suc j ≡ at + 1 + j = omega arith in subst (λ i. test i ≡ false) z (off (suc j) (omega (arith, low))))

first_some : (k at i : ℕ) (test : ℕ → Bool) → i < k → ((j : ℕ) → j < i → test (at + j) ≡ false) → test (at + i) ≡ true → first_of k at test ≡ Some (at + i)
unfolding first_of
first_some zero at i test low off on = absurd (omega (arith, low))
first_some (suc k) at zero test low off on =
    let z : at + 0 ≡ at = omega arith in
    ap (λ b. if b then Some at else first_of k (at + 1) test) (subst (λ j. test j ≡ true) z on) ∙ ap (λ j. Some j) (sym z)
first_some (suc k) at (suc i) test low off on =
    let here : test at ≡ false = let z : at + 0 ≡ at = omega arith in subst (λ j. test j ≡ false) z (off 0 (omega arith)) in
    let next : at + suc i ≡ at + 1 + i = omega arith in
    ap (λ b. if b then Some at else first_of k (at + 1) test) here
    ∙ first_some k (at + 1) i test (omega (arith, low)) (λ j below. let z : at + suc j ≡ at + 1 + j = omega arith in subst (λ h. test h ≡ false) z (off (suc j) (omega (arith, below)))) (subst (λ h. test h ≡ true) next on)
    ∙ ap (λ j. Some j) (sym next)

-- from 0 on
from_zero : (test : ℕ → Bool) (b : Bool) (j : ℕ) → test j ≡ b → test (0 + j) ≡ b
from_zero test b j is = let z : j ≡ 0 + j = omega arith in subst (λ i. test i ≡ b) z is

pub none_below : (k : ℕ) (test : ℕ → Bool) → ((j : ℕ) → j < k → test j ≡ false) → first_of k 0 test ≡ None
none_below k test off = first_none k 0 test (λ j low. from_zero test false j (off j low))

pub some_below : (k i : ℕ) (test : ℕ → Bool) → i < k → ((j : ℕ) → j < i → test j ≡ false) → test i ≡ true → first_of k 0 test ≡ Some i
some_below k i test low off on = first_some k 0 i test low (λ j below. from_zero test false j (off j below)) (from_zero test true i on) ∙ (let z : 0 + i ≡ i = omega arith in ap (λ j. Some j) z)
