-- All passes are joined, from the last to the first.
use Rattle.std.proofs.Common.{◌≡◌, ℕ, suc, ◌+◌, List, [], ◌∷◌, ◌++◌, length, refl, sym, ap, ◌∙◌, subst, arith, append_assoc}
use Rattle.std.proofs.lemmas.List.{map-append}
use mathlib.Core.Option.{some, some-injective}
use lib.ListN.{get_elem?}
use Rattle.atomic_table.specs.Table.{State as Table, Joins, Final, Seen}
use Rattle.atomic_table.specs.Seated.{TableId}
use Rattle.atomic_table.proofs.Lists.{at_longer, at_last}
use Rattle.xp_words.specs.Machine.{Machine}
use Rattle.xp_words.specs.Places.{sizes_of, memory}
use Rattle.xp_board.specs.declared.step.Step.{Step}
use Rattle.xp_board.specs.Runs as runs
use Rattle.xp_board.specs.Safe.{Safe}
use Rattle.shared_board.proofs.Opened.{start_sound}
use Rattle.xp_board.specs.Sound.{SoundWords, SoundState, hand_of}
use Rattle.shared_board.proofs.Stepping.{RunsSound}
use Rattle.xp_board.specs.declared.holdings.Holdings.{Holdings}
use Rattle.thread_board.specs.declared.rule.Opening.{Opening}
use Rattle.thread_board.specs.declared.rule.SharedView.{SharedView}
use Rattle.thread_board.specs.Sharing.{one, hold_of, nobody, joined_views, Fits, Kept}
use Rattle.thread_board.specs.Values.{PassValue, AreOf, held_by}
use Rattle.thread_board.specs.OneRun.{OneRun}
use Rattle.thread_board.proofs.OwnSteps.{own_from}
use Rattle.thread_board.proofs.Sharing.{kept_sound}
use Rattle.thread_board.proofs.Dealing.{joins}

-- the last of the passes
pub last_of : (t : TableId) (xs ys : List PassValue) (p : PassValue) → AreOf t xs → xs ≡ ys ++ p ∷ [] → AreOf t ys × (p.table ≡ t) × (p.vcpu ≡ length ys)
last_of t xs ys p own is =
    let all : AreOf t (ys ++ p ∷ []) = subst (AreOf t) is own in
    let last = all (length ys) p (at_last ys p (length ys) refl) in
    ((λ k q e. all k q (at_longer ys (p ∷ []) k q e)), last.0, last.1)

pub held_more : (all xs ys : List PassValue) (p : PassValue) (hands : List Holdings) → held_by all ≡ held_by xs ++ hands → xs ≡ ys ++ p ∷ [] → held_by all ≡ held_by ys ++ (p.holdings ∷ hands)
held_more all xs ys p hands was is = was ∙ ap (λ (l : List PassValue). held_by l ++ hands) is ∙ simp (map-append, append_assoc)

pub joins_at : (o : Opening) (id other n : ℕ) (h : Holdings) (v w : SharedView) → v ≡ one n h → w.from ≡ n + 1 → Joins (Kept o) id v other w (joined_views v w) nobody
joins_at o id other n h v w is from =
    let w_is : w ≡ record { from = n + length (h ∷ []); hands = w.hands } = λ k. record { from = from k; hands = w.hands } in
    subst (λ (y : SharedView × SharedView). Joins (Kept o) id y.0 other y.1 (joined_views y.0 y.1) nobody) (λ k. (sym is k, sym w_is k)) (joins o id other n (h ∷ []) w.hands)

get_all : {A : Type 0} (xs ys : List A) → length xs ≡ length ys → ((k : ℕ) (a : A) → get_elem? ys k ≡ some a → get_elem? xs k ≡ some a) → xs ≡ ys
get_all [] [] len same = refl
get_all [] (y ∷ ys) len same = absurd (omega arith)
get_all (x ∷ xs) [] len same = absurd (omega arith)
get_all (x ∷ xs) (y ∷ ys) len same = λ k. some-injective x y (same 0 y refl) k ∷ get_all xs ys (omega arith) (λ i a e. same (suc i) a e) k

-- the last state, seen by a seat with all hands
abbrev pub RunsSafe : Type 0
RunsSafe = (n : Machine) (a b : runs.State) (log : List (ℕ × Step)) → runs.Run n a log b → SoundState n a.words a.hands → Safe n (memory (sizes_of n) b.words) (hand_of b.hands)

kept_one : RunsSound → RunsSafe → (o : Opening) (t : Table (Unit {0}) SharedView) → SoundWords o.layout o.words → (was : Kept o t) → OneRun o.layout o.words t.words was.hands
kept_one law safe o t begun was =
    let begins = start_sound o.layout o.words begun in
    record {
      one = record { log = was.log; run = was.run; lists_are = λ s lt. refl };
      each = λ s lt. own_from o.layout s o.words (record { words = t.words; hands = was.hands }) was.log was.run;
      sound = kept_sound law o t begun was;
      always = λ newer older a same run. (law o.layout (runs.start o.layout o.words) a older run begins, safe o.layout (runs.start o.layout o.words) a older run begins);
    }

pub closes : RunsSound → RunsSafe → (o : Opening) (id : ℕ) (words : List ℕ) (xs : List (Unit {0})) (v : SharedView) (hands : List Holdings) → Final (Seen (Kept o) id v) words xs → SoundWords o.layout o.words →
    v ≡ record { from = 0; hands = hands } → length hands ≡ (sizes_of o.layout).vcpus → OneRun o.layout o.words words hands
closes law safe o id words xs v hands (t, seen, words_are, many_slots, rest) begun is count =
    let was = seen.0 in
    let f : Fits was.owner was.hands id (record { from = 0; hands = hands }) = subst (Fits was.owner was.hands id) is (was.each id v seen.1) in
    let many : length was.hands ≡ length hands = was.many ∙ sym count in
    let same : was.hands ≡ hands = get_all was.hands hands many (λ k a g. let z : 0 + k ≡ k = omega arith in subst (λ m. get_elem? was.hands m ≡ some a) z (f k a g).1) in
    subst (λ (y : List ℕ × List Holdings). OneRun o.layout o.words y.0 y.1) (λ k. (words_are k, same k)) (kept_one law safe o t begun was)

pub held_first : (xs ys : List PassValue) (p : PassValue) (hands : List Holdings) → xs ≡ ys ++ p ∷ [] → hands ≡ p.holdings ∷ [] → held_by xs ≡ held_by ys ++ hands
held_first xs ys p hands is one_hand = ap held_by is ∙ (simp map-append (ap (λ (l : List Holdings). held_by ys ++ l) (sym one_hand)))

-- the hands of a seat of one vCPU, as its pass says
pub hands_are : (v : SharedView) (n i : ℕ) (t x : TableId) (p : PassValue) → v ≡ one n (hold_of v) → record { table = x; vcpu = i; holdings = hold_of v } ≡ p → v.hands ≡ p.holdings ∷ []
hands_are v n i t x p is same = ap (λ (u : SharedView). u.hands) is ∙ ap (λ (q : PassValue). q.holdings ∷ []) same
