-- Parts of lists, multicalls and scripts.
use Rattle.std.proofs.Common.{◌≡◌, ℕ, zero, suc, ◌+◌, List, [], ◌∷◌, ◌++◌, length, Option, Some, None, refl, ap, sym, ◌∙◌, append_assoc, append-nil, add-one, arith}
use Rattle.xp_words.specs.declared.ops.Call.{Call}
use Rattle.xp_words.specs.declared.ops.Op.{Op}
use Rattle.script_law.specs.Order.{IsInOrder}
use Rattle.script_law.specs.Scripts.{Answered, Ended, and_then, answered, call_alone, called, calls_in_order, done_with, element, ended_by, in_order, joined, logged_behind, next_of, op_alone, script_alone}
use Rattle.script_law.specs.Values.{Line, Solo, Whose, Why, Outcome}

-- ---- one behind another
-- behind what is logged first
behind_lines : (ls : List Line) (b : Answered) (g : ℕ → Solo → Answered) (r : Option Why) →
    next_of (logged_behind ls b) r g ≡ logged_behind ls (next_of b r g)
behind_lines ls b g None = ap (λ xs. record (g b.answer.done b.left) { lines = xs }) (append_assoc ls b.lines (g b.answer.done b.left).lines)
behind_lines ls b g (Some y) = refl

assoc_by : (a : Answered) (f g : ℕ → Solo → Answered) (r : Option Why) → a.answer.refusal ≡ r →
    and_then (next_of a r f) g ≡ next_of a r (λ k s. and_then (f k s) g)
assoc_by a f g None is = behind_lines a.lines (f a.answer.done a.left) g (f a.answer.done a.left).answer.refusal
assoc_by a f g (Some y) is = ap (λ r. next_of a r g) is

then_assoc : (a : Answered) (f g : ℕ → Solo → Answered) → and_then (and_then a f) g ≡ and_then a (λ k s. and_then (f k s) g)
then_assoc a f g = assoc_by a f g a.answer.refusal refl

same_next : (a : Answered) (f g : ℕ → Solo → Answered) (r : Option Why) → ((k : ℕ) (s : Solo) → f k s ≡ g k s) → next_of a r f ≡ next_of a r g
same_next a f g None same = ap (logged_behind a.lines) (same a.answer.done a.left)
same_next a f g (Some y) same = refl

-- nothing behind it
then_none : (k : ℕ) (r : Option Why) (ls : List Line) (s : Solo) →
    next_of (answered (done_with k r) 0 r ls s) r (λ j t. answered j 0 None [] t) ≡ answered (done_with k r) 0 r ls s
then_none k None ls s = ap (λ xs. answered (suc k) 0 None xs s) (append-nil ls)
then_none k (Some y) ls s = refl

-- ---- lists
in_parts : {E : Type 0} (one : ℕ → E → Solo → Outcome) (es more : List E) (k : ℕ) (s : Solo) →
    in_order one (es ++ more) k s ≡ and_then (in_order one es k s) (in_order one more)
unfolding in_order
in_parts one [] more k s = refl
in_parts one (e ∷ es) more k s =
    same_next (element k (one k e s)) (in_order one (es ++ more)) (λ j t. and_then (in_order one es j t) (in_order one more)) (one k e s).refusal (λ j t. in_parts one es more j t)
    ∙ sym (then_assoc (element k (one k e s)) (in_order one es) (in_order one more))

in_one : {E : Type 0} (one : ℕ → E → Solo → Outcome) (e : E) (k : ℕ) (s : Solo) → in_order one (e ∷ []) k s ≡ element k (one k e s)
unfolding in_order
in_one one e k s = then_none k (one k e s).refusal (one k e s).lines (one k e s).left

pub ordered : {E : Type 0} (one : ℕ → E → Solo → Outcome) → IsInOrder one
ordered one = record { parts = in_parts one; single = in_one one }

-- ---- multicalls
pub calls_parts : (w : Whose) (cs more : List Call) (k : ℕ) (s : Solo) → calls_in_order w (cs ++ more) k s ≡ and_then (calls_in_order w cs k s) (calls_in_order w more)
unfolding calls_in_order
calls_parts w [] more k s = refl
calls_parts w (c ∷ cs) more k s =
    let a = called (k + 1) (call_alone w (k + 1) c s) in
    same_next a (calls_in_order w (cs ++ more)) (λ j t. and_then (calls_in_order w cs j t) (calls_in_order w more)) None (λ j t. calls_parts w cs more j t)
    ∙ sym (then_assoc a (calls_in_order w cs) (calls_in_order w more))

pub calls_one : (w : Whose) (c : Call) (k : ℕ) (s : Solo) → calls_in_order w (c ∷ []) k s ≡ called (k + 1) (call_alone w (k + 1) c s)
unfolding calls_in_order
calls_one w c k s =
    let a = called (k + 1) (call_alone w (k + 1) c s) in
    ap (λ xs. answered (k + 1) 0 None xs a.left) (append-nil a.lines)

pub calls_all : (w : Whose) (cs : List Call) (k : ℕ) (s : Solo) → (calls_in_order w cs k s).answer.done ≡ k + length cs
unfolding calls_in_order
calls_all w [] k s = omega arith
calls_all w (c ∷ cs) k s = let rest = calls_all w cs (k + 1) (call_alone w (k + 1) c s).left in omega (arith, rest)

-- ---- scripts
joined_assoc : (e : Ended) (f g : Solo → Ended) → joined (joined e f) g ≡ joined e (λ s. joined (f s) g)
joined_assoc e f g = ap (λ xs. record { log = xs; left = (g (f e.left).left).left }) (append_assoc e.log (f e.left).log (g (f e.left).left).log)

pub script_parts : (w : Whose) (ops more : List Op) (s : Solo) → script_alone w (ops ++ more) s ≡ joined (script_alone w ops s) (script_alone w more)
unfolding script_alone
script_parts w [] more s = refl
script_parts w (op ∷ ops) more s =
    let a = op_alone w op s in
    ap (λ e. joined (ended_by a) (λ t. e)) (script_parts w ops more a.left) ∙ sym (joined_assoc (ended_by a) (script_alone w ops) (script_alone w more))

pub script_one : (w : Whose) (op : Op) (s : Solo) → script_alone w (op ∷ []) s ≡ ended_by (op_alone w op s)
unfolding script_alone
script_one w op s = refl

pub script_all : (w : Whose) (ops : List Op) (s : Solo) → length (script_alone w ops s).log ≡ length ops
unfolding script_alone
script_all w [] s = refl
script_all w (op ∷ ops) s = ap suc (script_all w ops (op_alone w op s).left)
