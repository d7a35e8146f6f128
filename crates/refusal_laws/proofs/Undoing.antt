-- What a refused acquisition leaves of its tables in work, parked the innermost first, is what the plain one gives back: the release of the outermost table
-- undoes the whole stack.
use Rattle.std.proofs.Common.{◌≡◌, ◌≢◌, suc, ◌+◌, ◌-◌, ◌<◌, List, [], ◌∷◌, sym, ap, ◌∙◌, subst, arith}
use Rattle.xp_words.specs.declared.entry.Demand.TheVariants.{Typed}
use Rattle.xp_words.specs.declared.kind.KindWord.{KindWord}
use Rattle.partial_state.specs.Levels.{level_type}
use Rattle.table_law.specs.Levels.{TableLeft, closed, entry_of}
use Rattle.table_law.specs.Plain.{Plain, with_kind}
use Rattle.table_law.specs.Release.{drop_demand, drop_first, let_go, undo_below}
use Rattle.table_law.specs.Stack.{IsChain}
use Rattle.table_law.proofs.Counting.{at_there}
use Rattle.course_laws.proofs.Stacking.{undone}
use Rattle.release_laws.proofs.Liking.{IsSpent}
use Rattle.release_laws.proofs.Parking.{parked, parked_goes}

-- one table is stored as partial, with the entries that are done with
abbrev pub park : TableLeft → Plain → Plain
park x p = parked x.level x.frame (512 - x.ahead) p

-- no frame stands twice, and each is in work (spent: no type count that could be given back, and not partial)
abbrev pub IsNone : TableLeft → List TableLeft → Type 0
IsNone x [] = Unit {0}
IsNone x (y ∷ ys) = (y.frame ≢ x.frame) × IsNone x ys

abbrev pub AreSpent : List TableLeft → Plain → Type 0
AreSpent [] p = Unit {0}
AreSpent (x ∷ xs) p = IsSpent (p.kinds x.frame) × IsNone x xs × AreSpent xs p

-- one level above the other
abbrev pub AreAbove : List TableLeft → Type 0
AreAbove [] = Unit {0}
AreAbove (x ∷ []) = Unit {0}
AreAbove (x ∷ y ∷ ys) = (y.level ≡ x.level + 1) × (y.ahead < 512) × AreAbove (y ∷ ys)

pub spent_off : (x : TableLeft) (k : KindWord) (p : Plain) (xs : List TableLeft) → IsNone x xs → AreSpent xs p → AreSpent xs (with_kind x.frame k p)
spent_off x k p [] none s = tt
spent_off x k p (y ∷ ys) none s = (subst IsSpent (sym (at_there x.frame y.frame k p.kinds none.0)) s.0, s.1, spent_off x k p ys none.1 s.2)

pub chain_kind : (x : TableLeft) (k : KindWord) (p : Plain) (xs : List TableLeft) → IsChain xs p → IsChain xs (with_kind x.frame k p)
chain_kind x k p [] c = tt
chain_kind x k p (y ∷ []) c = c
chain_kind x k p (y ∷ z ∷ zs) c = (c.0, chain_kind x k p (z ∷ zs) c.1)

pub one_parked : (x y : TableLeft) (ys : List TableLeft) (p : Plain) → y.level ≡ x.level + 1 → y.ahead < 512 → entry_of p (level_type (suc y.level)) y.frame (511 - y.ahead) ≡ Typed x.frame (level_type (suc x.level)) → IsSpent (p.kinds x.frame) →
    undone (y ∷ ys) (park x p) ≡ undone (x ∷ y ∷ ys) p
unfolding drop_first undo_below
one_parked x y ys p above few asks spent =
    let t = level_type (suc y.level) in
    let count : 512 - y.ahead ≡ suc (511 - y.ahead) = omega arith in
    let low : y.level ≡ suc x.level = omega arith in
    let p1 = park x p in
    let inner = closed x.frame (level_type (suc x.level)) (drop_first (let_go x.level) (level_type (suc x.level)) x.frame (512 - x.ahead) p) in
    let rest : (Plain → Plain) = λ q. undo_below ys (closed y.frame t (drop_first (let_go y.level) t y.frame (511 - y.ahead) q)) in
    ap (λ k. undo_below ys (closed y.frame t (drop_first (let_go y.level) t y.frame k p1))) count
    ∙ (ap (λ d. rest (drop_demand (let_go y.level) p1 d)) asks
    ∙ (ap (λ l. rest (let_go l x.frame p1)) low
    ∙ ap rest (parked_goes x.level x.frame (512 - x.ahead) p spent)))

-- the last one
pub last_parked : (x : TableLeft) (p : Plain) → IsSpent (p.kinds x.frame) → let_go (suc x.level) x.frame (park x p) ≡ undone (x ∷ []) p
unfolding undo_below
last_parked x p spent = parked_goes x.level x.frame (512 - x.ahead) p spent
