-- How often an acquisition has named a frame.
use Rattle.std.proofs.Common.{◌≡◌, ◌≢◌, ℕ, zero, suc, ◌+◌, ◌<◌, ◌≤◌, if◌then◌else◌, Bool, true, false, Option, Some, None, refl, sym, ap, ◌∙◌, subst, inl, inr, arith}
use Rattle.std.proofs.lemmas.Bool.{cases_eq}
use Rattle.xp_words.specs.declared.kind.PageType.{PageType}
use Rattle.xp_words.specs.declared.entry.Demand.{Demand}
use Rattle.xp_words.specs.declared.entry.Demand.TheVariants.{Nothing, Bad, Read, Typed}
use Rattle.xp_words.specs.Entries.{demand_of, demand_at, below, is_slot, frame_of}
use Rattle.xp_words.proofs.Shared.{eq_false as when_ne}
use Rattle.xp_board.specs.Lists.{one_at}
use Rattle.xp_board.specs.Recorded.{names}
use Rattle.xp_board.specs.Sums.{sum_below}
use Rattle.xp_board.proofs.Sums.{when_eq, sum_below-one, sum_below-same, sum_below-fewer}
use Rattle.partial_state.specs.Levels.{level_type}
use Rattle.partial_state.proofs.LevelFacts.{level_type-below, level_type-table}
use Rattle.table_law.specs.Plain.{Plain, Share, at}
use Rattle.table_law.specs.Levels.{entry_of}
use Rattle.table_law.specs.Lawful.{plain_asked_by}
use Rattle.table_law.proofs.Doing.{Case, Doing, IsLawful, asked, total, IsTaken}

-- ---- what an entry asks is of the level below
asked_kind : PageType → Demand → PageType
asked_kind u (Typed g t) = t
asked_kind u _ = u

by_tests : (a b c d : Bool) (f : ℕ) (u : PageType) → asked_kind u (if a then Nothing else if b then Nothing else if c then Bad else if d then Read f else Typed f u) ≡ u
unfolding asked_kind
by_tests true b c d f u = refl
by_tests false true c d f u = refl
by_tests false false true d f u = refl
by_tests false false false true f u = refl
by_tests false false false false f u = refl

asks_below : (t : PageType) (i w : ℕ) → asked_kind (below t) (demand_at t i w) ≡ below t
unfolding demand_at demand_of
asks_below t i w = by_tests (is_slot t i) _ _ _ (frame_of w) (below t)

pub asks_at : (l i w g : ℕ) (t : PageType) → l ≤ 3 → demand_at (level_type (suc l)) i w ≡ Typed g t → t ≡ level_type l
unfolding asked_kind
asks_at l i w g t b e = ap (asked_kind (below (level_type (suc l)))) (sym e) ∙ asks_below (level_type (suc l)) i w ∙ level_type-below l (omega arith)

-- ---- changes of what was done
abbrev pub met_more : ℕ → Doing → Doing
met_more x d = record { taken = d.taken; met = at x (suc (d.met x)) d.met }

abbrev pub took_more : ℕ → ℕ → Doing → Doing
took_more g l d = record { taken = at g (Some l) d.taken; met = at g 0 d.met }

pub at_here : {A : Type 0} (f : ℕ) (x : A) (old : ℕ → A) → at f x old f ≡ x
at_here f x old = rw (when_eq f f refl) refl

pub at_there : {A : Type 0} (f g : ℕ) (x : A) (old : ℕ → A) → g ≢ f → at f x old g ≡ old g
at_there f g x old off = rw (when_ne g f off) refl

-- an entry of a table is met
pub total_met : (c : Case) (d : Doing) (x l g : ℕ) → x < c.machine.frames → d.taken x ≡ Some (suc l) →
    total c (met_more x d) g ≡ total c d g + names g (entry_of c.before (level_type (suc l)) x (d.met x))
unfolding sum_below
total_met c d x l g inside took =
    let p = λ (y : ℕ). asked c g (d.taken y) (at x (suc (d.met x)) d.met y) y in
    let q = λ (y : ℕ). asked c g (d.taken y) (d.met y) y in
    let one : sum_below c.machine.frames p + q x ≡ sum_below c.machine.frames q + p x =
    sum_below-one c.machine.frames p q x inside (λ y off. ap (λ k. asked c g (d.taken y) k y) (at_there x y (suc (d.met x)) d.met off)) in
    let here : p x ≡ sum_below (suc (d.met x)) (λ i. names g (entry_of c.before (level_type (suc l)) x i)) =
    ap (λ k. asked c g (d.taken x) k x) (at_here x (suc (d.met x)) d.met) ∙ ap (λ o. asked c g o (suc (d.met x)) x) took in
    let was : q x ≡ sum_below (d.met x) (λ i. names g (entry_of c.before (level_type (suc l)) x i)) = ap (λ o. asked c g o (d.met x) x) took in
    omega arith

none_asked : (c : Case) (g x l : ℕ) → asked c g (Some l) 0 x ≡ 0
unfolding sum_below
none_asked c g x zero = refl
none_asked c g x (suc l) = refl

-- a frame is taken, and nothing of it is met yet
pub total_took : (c : Case) (d : Doing) (f l g : ℕ) → d.taken f ≡ None → total c (took_more f l d) g ≡ total c d g
total_took c d f l g none =
    ap (λ s. one_at c.top g + s)
    (sum_below-same c.machine.frames (λ y. asked c g (at f (Some l) d.taken y) (at f 0 d.met y) y) (λ y. asked c g (d.taken y) (d.met y) y)
    (λ y b. elim (cases_eq y f) [
      | inl e ↦
          subst (λ z. asked c g (at f (Some l) d.taken z) (at f 0 d.met z) z ≡ asked c g (d.taken z) (d.met z) z) (sym e)
          (ap (λ o. asked c g o (at f 0 d.met f) f) (at_here f (Some l) d.taken) ∙ ap (λ k. asked c g (Some l) k f) (at_here f 0 d.met) ∙ none_asked c g f l
          ∙ sym (ap (λ o. asked c g o (d.met f) f) none))
      | inr off ↦ ap (λ o. asked c g o (at f 0 d.met y) y) (at_there f y (Some l) d.taken off) ∙ ap (λ k. asked c g (d.taken y) k y) (at_there f y 0 d.met off)
    ]))

-- ---- what is named so far is at most what a lawful acquisition names
sum_most : (k m : ℕ) (p : ℕ → ℕ) → k ≤ m → sum_below k p ≤ sum_below m p
unfolding sum_below
sum_most k zero p b = let e : k ≡ 0 = omega arith in let s : sum_below k p ≡ sum_below 0 p = ap (λ j. sum_below j p) e in omega arith
sum_most k (suc m) p b =
    elim (cases_eq k (suc m)) [
      | inl e ↦ let s : sum_below k p ≡ sum_below (suc m) p = ap (λ j. sum_below j p) e in omega arith
      | inr off ↦ let o : k ≢ suc m = off in let r = sum_most k m p (omega arith) in omega arith
    ]

module _ (c : Case) (p : Plain) (d : Doing) (took : (x l : ℕ) → d.taken x ≡ Some l → IsTaken c p x l) (most : (x : ℕ) → d.met x ≤ 512) (w : IsLawful c) (g : ℕ) (s : Share) (inside : g < c.machine.frames) (was : c.before.shares g ≡ Some s) where
  part_most : (x : ℕ) (o : Option ℕ) → d.taken x ≡ o → asked c g o (d.met x) x ≤ plain_asked_by c.before g (w.nodes x) x
  part_most x None e = omega arith
  part_most x (Some zero) e = omega arith
  part_most x (Some (suc l)) e =
      let is = took x (suc l) e in
      let node = ap (λ o. plain_asked_by c.before g o x) (w.all x (level_type (suc l)) (record { tree = is.tree; dead = is.dead; table = level_type-table (suc l) (omega arith) })) in
      let up = sum_most (d.met x) 512 (λ i. names g (entry_of c.before (level_type (suc l)) x i)) (most x) in
      omega arith

  pub total_most : s.count + total c d g ≤ c.machine.limit
  total_most =
      let up = sum_below-fewer c.machine.frames (λ x. asked c g (d.taken x) (d.met x) x) (λ x. plain_asked_by c.before g (w.nodes x) x) (λ x. part_most x (d.taken x) refl) in
      let all = w.within g s inside was in
      omega arith
