-- What a vCPU learns of the word that its step leaves: `u` is the hand that the act left, `w` the hand with what was learned.
use Rattle.std.proofs.Common.{◌≡◌, ◌≢◌, ℕ, ◌≤◌, ◌==◌, length, not, if◌then◌else◌, Bool, true, false, List, ◌∷◌, Option, Some, IsTrue, refl, sym, ap, subst, ◌∙◌, arith}
use Rattle.std.proofs.lemmas.Bool.{eqb-true, eqb-false}
use Rattle.xp_words.specs.Machine.{Machine}
use Rattle.xp_words.specs.declared.place.Place.{Place}
use Rattle.xp_words.specs.declared.place.Place.TheVariants.{Clock, Pages, Life, Vcpu, Refs, Kind, M2p, Cell, Map, Priv}
use Rattle.xp_words.specs.Places.{sizes_of, is_place, run_of, old0_of, old1_of}
use Rattle.xp_board.specs.declared.step.Step.{Step}
use Rattle.xp_board.specs.declared.holdings.Made.{Made}
use Rattle.xp_board.specs.declared.holdings.Looking.{Looking}
use Rattle.xp_board.specs.declared.holdings.Holdings.{Holdings}
use Rattle.xp_board.specs.Acts.{left_by}
use Rattle.xp_board.specs.Lists.{kept_of, EachOf}
use Rattle.xp_board.specs.Hands.{changed_work, changed_lock, changed_claim}
use Rattle.xp_board.specs.After.{noted, learned, learned_own, learned_work, learned_lock, learned_claim}
use Rattle.xp_board.specs.Runs.{place_of}
use Rattle.found_rule.proofs.Growth.{Added}
use Rattle.xp_board.specs.Steps.{last_since}
use Rattle.xp_board.proofs.HandLists.{EachOf-kept}
use Rattle.xp_board.proofs.MoreSteps.{last_since-here, last_since-elsewhere}
use Rattle.xp_board.proofs.HandParts.{learned_steps}

-- of a cell
pub data CellsLearned (p : Place) (left : ℕ) (u w : Holdings) : Type 0 where
  cells_off : ((f i : ℕ) → p ≢ Cell f i) → w.works ≡ u.works → w.locks ≡ u.locks → w.claimed ≡ u.claimed → CellsLearned p left u w
  cells_at : (f i : ℕ) → p ≡ Cell f i → w.works ≡ changed_work f (learned_work i left) u.works → w.locks ≡ changed_lock f (learned_lock i left) u.locks →
      w.claimed ≡ changed_claim f (learned_claim i left) u.claimed → CellsLearned p left u w

-- of a word of the own vCPU, which stands at q
pub data WordLearned (p q : Place) (left : ℕ) (x y : Option ℕ) : Type 0 where
  word_off : p ≢ q → y ≡ x → WordLearned p q left x y
  word_at : p ≡ q → y ≡ Some left → WordLearned p q left x y

pub data LookingMoved (xs ys : List Looking) : Type 0 where
  looking_stayed : ys ≡ xs → LookingMoved xs ys
  looking_went : (test : Looking → Bool) → ys ≡ kept_of test xs → LookingMoved xs ys

pub looking_each : (xs ys : List Looking) (P : Looking → Type 0) → LookingMoved xs ys → EachOf P xs → EachOf P ys
looking_each xs ys P (looking_stayed e) h = rw e h
looking_each xs ys P (looking_went test e) h = rw e (EachOf-kept P test xs h)

pub record Learned (s : ℕ) (p : Place) (left : ℕ) (u w : Holdings) : Type 0 where
  pub cells : CellsLearned p left u w
  pub run : WordLearned p (run_of s) left u.run w.run
  pub old0 : WordLearned p (old0_of s) left u.old0 w.old0
  pub old1 : WordLearned p (old1_of s) left u.old1 w.old1
  pub looking : LookingMoved u.looking w.looking
  pub refs : w.refs ≡ u.refs
  pub typed : w.typed ≡ u.typed
  pub ending : w.ending ≡ u.ending
  pub raised : w.raised ≡ u.raised
  pub cache : w.cache ≡ u.cache
  pub walk : w.walk ≡ u.walk
  pub cold : w.cold ≡ u.cold
  pub turn : w.turn ≡ u.turn
  pub acked : w.acked ≡ u.acked
  pub ran : w.ran ≡ u.ran

module _ (s : ℕ) (u w : Holdings) (p : Place) (left : ℕ) (refs : w.refs ≡ u.refs) (typed : w.typed ≡ u.typed) (ending : w.ending ≡ u.ending) (raised : w.raised ≡ u.raised)
    (cache : w.cache ≡ u.cache) (walk : w.walk ≡ u.walk) (cold : w.cold ≡ u.cold) (turn : w.turn ≡ u.turn) (acked : w.acked ≡ u.acked) (ran : w.ran ≡ u.ran) where
  some_learned : CellsLearned p left u w → WordLearned p (run_of s) left u.run w.run → WordLearned p (old0_of s) left u.old0 w.old0 → WordLearned p (old1_of s) left u.old1 w.old1 →
      LookingMoved u.looking w.looking → Learned s p left u w
  some_learned cells run old0 old1 looking =
      record {
        cells = cells;
        run = run;
        old0 = old0;
        old1 = old1;
        looking = looking;
        refs = refs;
        typed = typed;
        ending = ending;
        raised = raised;
        cache = cache;
        walk = walk;
        cold = cold;
        turn = turn;
        acked = acked;
        ran = ran;
      }

module _ (s : ℕ) (x : Step) (found left : ℕ) (u : Holdings) where
  -- only a cell, a life word or a word of the own tells more
  nothing_learned : (p : Place) → ((f i : ℕ) → p ≢ Cell f i) → ((k : ℕ) → p ≢ Vcpu s k) → Learned s p left u (noted x found u)
  nothing_learned p c v =
      some_learned s u (noted x found u) p left refl refl refl refl refl refl refl refl refl refl
      (cells_off c refl refl refl) (word_off (v 6) refl) (word_off (v 2) refl) (word_off (v 3) refl) (looking_stayed refl)

  life_learned : (d : ℕ) (t : Bool) → Learned s (Life d) left u (noted x found (if t then record u { looking = kept_of (λ e. not (e.owner == d)) u.looking } else u))
  life_learned d true =
      some_learned s u (noted x found (record u { looking = kept_of (λ e. not (e.owner == d)) u.looking })) (Life d) left refl refl refl refl refl refl refl refl refl refl
      (cells_off (λ f i e. cc) refl refl refl) (word_off (λ e. cc) refl) (word_off (λ e. cc) refl) (word_off (λ e. cc) refl) (looking_went (λ e. not (e.owner == d)) refl)
  life_learned d false = nothing_learned (Life d) (λ f i e. cc) (λ k e. cc)

  module _ (k : ℕ) where
    own_off : (j : ℕ) (o : Option ℕ) → k ≢ j → WordLearned (Vcpu s k) (Vcpu s j) left o o
    own_off j o n = word_off (λ e. n (cc)) refl

    own_at : (j : ℕ) (o : Option ℕ) → k ≡ j → WordLearned (Vcpu s k) (Vcpu s j) left o (Some left)
    own_at j o e = word_at (ap (λ i. Vcpu s i) e) refl

    own_learned : (t2 t3 t6 : Bool) → (k == 2) ≡ t2 → (k == 3) ≡ t3 → (k == 6) ≡ t6 →
        Learned s (Vcpu s k) left u
        (noted x found (if t2 then record u { old0 = Some left } else if t3 then record u { old1 = Some left } else if t6 then record u { run = Some left } else u))
    own_learned true t3 t6 e2 e3 e6 =
        let at = eqb-true k 2 e2 in
        some_learned s u (noted x found (record u { old0 = Some left })) (Vcpu s k) left refl refl refl refl refl refl refl refl refl refl
        (cells_off (λ f i e. cc) refl refl refl) (own_off 6 u.run (λ q. omega arith)) (own_at 2 u.old0 at) (own_off 3 u.old1 (λ q. omega arith)) (looking_stayed refl)
    own_learned false true t6 e2 e3 e6 =
        let at = eqb-true k 3 e3 in
        some_learned s u (noted x found (record u { old1 = Some left })) (Vcpu s k) left refl refl refl refl refl refl refl refl refl refl
        (cells_off (λ f i e. cc) refl refl refl) (own_off 6 u.run (λ q. omega arith)) (own_off 2 u.old0 (λ q. omega arith)) (own_at 3 u.old1 at) (looking_stayed refl)
    own_learned false false true e2 e3 e6 =
        let at = eqb-true k 6 e6 in
        some_learned s u (noted x found (record u { run = Some left })) (Vcpu s k) left refl refl refl refl refl refl refl refl refl refl
        (cells_off (λ f i e. cc) refl refl refl) (own_at 6 u.run at) (own_off 2 u.old0 (λ q. omega arith)) (own_off 3 u.old1 (λ q. omega arith)) (looking_stayed refl)
    own_learned false false false e2 e3 e6 =
        some_learned s u (noted x found u) (Vcpu s k) left refl refl refl refl refl refl refl refl refl refl
        (cells_off (λ f i e. cc) refl refl refl) (own_off 6 u.run (eqb-false k 6 e6)) (own_off 2 u.old0 (eqb-false k 2 e2)) (own_off 3 u.old1 (eqb-false k 3 e3)) (looking_stayed refl)

  vcpu_learned : (v k : ℕ) (t : Bool) → (v == s) ≡ t → Learned s (Vcpu v k) left u (noted x found (if t then learned_own k left u else u))
  vcpu_learned v k true e = subst (λ y. Learned s (Vcpu y k) left u (noted x found (learned_own k left u))) (sym (eqb-true v s e)) (own_learned k (k == 2) (k == 3) (k == 6) refl refl refl)
  vcpu_learned v k false e = nothing_learned (Vcpu v k) (λ f i q. cc) (λ j q. eqb-false v s e (cc))

  pub learned_parts : (p : Place) → Learned s p left u (noted x found (learned s p found left u))
  learned_parts Clock = nothing_learned Clock (λ f i e. cc) (λ k e. cc)
  learned_parts (Pages d) = nothing_learned (Pages d) (λ f i e. cc) (λ k e. cc)
  learned_parts (Life d) = life_learned d (found == 0)
  learned_parts (Vcpu v k) = vcpu_learned v k (v == s) refl
  learned_parts (Refs f) = nothing_learned (Refs f) (λ g i e. cc) (λ k e. cc)
  learned_parts (Kind f) = nothing_learned (Kind f) (λ g i e. cc) (λ k e. cc)
  learned_parts (M2p f) = nothing_learned (M2p f) (λ g i e. cc) (λ k e. cc)
  learned_parts (Cell f i) =
      some_learned s u (noted x found (learned s (Cell f i) found left u)) (Cell f i) left refl refl refl refl refl refl refl refl refl refl
      (cells_at f i refl refl refl refl) (word_off (λ e. cc) refl) (word_off (λ e. cc) refl) (word_off (λ e. cc) refl) (looking_stayed refl)
  learned_parts (Map k) = nothing_learned (Map k) (λ g i e. cc) (λ j e. cc)
  learned_parts (Priv d) = nothing_learned (Priv d) (λ g i e. cc) (λ j e. cc)

-- ---- the steps of the hand that has learned

-- ---- an act of vCPU s at p, by the hands before it (b), after what it moves (u), and after what was learned (w)
pub record Act (n : Machine) (s : ℕ) (p : Place) (m m2 : Place → ℕ) (b u w : Holdings) : Type 0 where
  pub made : Made
  pub added : Added (sizes_of n) m m2 made p
  pub others : (q : Place) → q ≢ p → m2 q ≡ m q
  pub steps : w.steps ≡ made ∷ b.steps
  pub learned : Learned s p (m2 p) u w
  pub run : u.run ≡ b.run
  pub old0 : u.old0 ≡ b.old0
  pub old1 : u.old1 ≡ b.old1

pub act : (n : Machine) (s : ℕ) (x : Step) (p : Place) (m m2 : Place → ℕ) (b u w : Holdings) → place_of n x ≡ p → IsTrue (is_place (sizes_of n) p) →
    left_by x.act (m p) ≡ m2 p → ((q : Place) → q ≢ p → m2 q ≡ m q) → u.steps ≡ b.steps → u.run ≡ b.run → u.old0 ≡ b.old0 → u.old1 ≡ b.old1 →
    w ≡ noted x (m p) (learned s p (m p) (m2 p) u) → Act n s p m m2 b u w
act n s x p m m2 b u w place real left others steps run old0 old1 hand =
    record {
      made = record { step = x; found = m p };
      added = record { place = place; real = real; found = refl; left = left };
      others = others;
      steps = ap (λ y. y.steps) hand ∙ ap (λ l. record { step = x; found = m p } ∷ l) (learned_steps s p (m p) (m2 p) u ∙ steps);
      learned = subst (λ y. Learned s p (m2 p) u y) (sym hand) (learned_parts s x (m p) (m2 p) u p);
      run = run;
      old0 = old0;
      old1 = old1;
    }

-- what it left is what was last found or left there; of other places that is as before
module _ (n : Machine) (s : ℕ) (p : Place) (m m2 : Place → ℕ) (b u w : Holdings) (acted : Act n s p m m2 b u w) where
  pub acted_here : (k : ℕ) → k ≤ length b.steps → last_since (sizes_of n) k p w.steps ≡ Some (m2 p)
  acted_here k l = ap (last_since (sizes_of n) k p) acted.steps ∙ last_since-here (sizes_of n) k p acted.made b.steps l acted.added.place ∙ ap Some acted.added.left

  pub acted_off : (k : ℕ) (q : Place) → k ≤ length b.steps → p ≢ q → last_since (sizes_of n) k q w.steps ≡ last_since (sizes_of n) k q b.steps
  acted_off k q l o = ap (last_since (sizes_of n) k q) acted.steps ∙ last_since-elsewhere (sizes_of n) k q acted.made b.steps l (λ y. o (sym acted.added.place ∙ y))
