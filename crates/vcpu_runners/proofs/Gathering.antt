-- What the vCPUs of all threads come to.
use Rattle.std.proofs.Common.{◌≡◌, ℕ, zero, suc, ◌<◌, All, Option, Some, List, [], ◌∷◌, ◌++◌, length, map, take, drop, ◌+◌, append-nil, refl, sym, ap, ◌∙◌, subst, arith, slice_index_or}
use Rattle.std.specs.Prelude.{slice_get}
use Rattle.std.specs.Option.{option_map}
use Rattle.std.proofs.lemmas.List.{get_or-map, get_or-replicate, length-map}
use Rattle.std.proofs.lemmas.List.Elements.{All-get_or}
use Rattle.std.proofs.lemmas.Option.{slice_get-get_or, slice_get-map, slice_get_within}
use Rattle.std.proofs.lemmas.Simd.{map-map}
use mathlib.Core.Option.{some, some-injective, some-ne-none}
use lib.ListN.{get_elem?}
use Rattle.xp_words.specs.Machine.{Machine}
use Rattle.xp_words.specs.Places.{memory, sizes_of}
use Rattle.xp_words.specs.declared.reply.LogLine.{LogLine}
use Rattle.xp_board.specs.declared.holdings.Holdings.{Holdings}
use Rattle.xp_board.specs.Hands.{empty, IsEmptyHand}
use Rattle.xp_board.specs.declared.step.Step.{Step}
use Rattle.xp_board.specs.Runs.{Run, State, start, word_at}
use Rattle.xp_board.specs.Sound.{SoundState, SoundWords, hand_of}
use Rattle.dead_domains.specs.Buried.{HasBuried, LeavesOnlyListed}
use Rattle.thread_board.specs.OneRun.{OneRun}
use Rattle.thread_board.specs.Ports.{pass_port}
use Rattle.thread_board.specs.Values.{BoardValue, PassValue, AreOf, AreOpened, held_by, opened_pass}
use Rattle.thread_board.proofs.Dealing.{opened_is}
use Rattle.thread_board.proofs.Sharing.{at_inside as within_elem}
use Rattle.vcpu_turn.specs.Cpus.{Processing}
use Rattle.vcpu_turn.specs.Destroying.{KeepsBuried}
use Rattle.vcpu_turn.specs.Turning.{IsOf}
use Rattle.vcpu_runners.specs.Cpus.{IsShort}
use Rattle.vcpu_runners.specs.Destroyed.{AreDestroyed}
use Rattle.vcpu_runners.specs.Replayed.{AreFirst, RanInThreads, RanToItsEnd, TookTurns, port_with}
use Rattle.vcpu_runners.specs.Working.{MayRun, RanOut}
use Rattle.xp_preempt.specs.Gates.{Gate}

-- ---- an element by its place
at_elem : {A : Type 0} (l : List A) (k : ℕ) (x d : A) → get_elem? l k ≡ some x → slice_index_or l k d ≡ x
at_elem [] k x d e = absurd (some-ne-none x (sym e))
at_elem (y ∷ ys) zero x d e = some-injective y x e
at_elem (y ∷ ys) (suc k) x d e = at_elem ys k x d e

pub at_place : {A B : Type 0} (f : A → B) (xs : List A) (k : ℕ) (d : A) → k < length xs → slice_get (map f xs) k ≡ Some (f (slice_index_or xs k d))
at_place f xs k d within = slice_get-map f xs k ∙ ap (option_map f) (slice_get-get_or xs k d within)

some_same : {A : Type 0} (o : Option A) (x y : A) → o ≡ Some x → o ≡ Some y → x ≡ y
some_same o x y a b = cc

-- a list that is not empty has an element
from_head : {A : Type 0} (xs : List A) (k : ℕ) → k < length xs → A
from_head [] k within = absurd (omega arith)
from_head (x ∷ xs) k within = x

-- the list of a vector of which a slice was written as long as it is
all_of_it : {A : Type 0} (ys zs : List A) → take (length ys) (ys ++ zs) ≡ ys
all_of_it [] zs = refl
all_of_it (y ∷ ys) zs = ap (λ l. y ∷ l) (all_of_it ys zs)

pub written_back : {A : Type 0} (n : ℕ) (xs ys whole : List A) → whole ≡ take n (ys ++ drop (length ys) xs) → n ≡ length ys → whole ≡ ys
written_back n xs ys whole is all = is ∙ ap (λ k. take k (ys ++ drop (length ys) xs)) all ∙ all_of_it ys (drop (length ys) xs)

-- ---- before the first turn
module _ {A : Type 0} (pass : A → PassValue) (cpu : A → Processing) (b : BoardValue) (xs : List A) (opened : length (map pass xs) ≡ (sizes_of b.machine).vcpus) (passes : AreOpened b.table (map pass xs))
    (first : AreFirst b (map cpu xs)) where
  opened_at : (k : ℕ) (d : A) → k < length xs → pass (slice_index_or xs k d) ≡ opened_pass b.table k
  opened_at k d within =
      sym (get_or-map pass xs k d (pass d) within) ∙ at_elem (map pass xs) k (opened_pass b.table k) (pass d) (passes k (subst (λ n. k < n) (sym (length-map xs pass)) within))

  may_at : (k : ℕ) (d : A) → k < length xs → MayRun b (pass (slice_index_or xs k d)) (cpu (slice_index_or xs k d))
  may_at k d within =
      let c = cpu (slice_index_or xs k d) in
      let is = opened_at k d within in
      let own = first.of k 0 c (at_place cpu xs k d within) in
      record {
        pass = opened_is b (pass (slice_index_or xs k d)) k is (subst (λ n. k < n) (sym (length-map xs pass) ∙ opened) within);
        short = subst IsShort (get_or-map cpu xs k d (cpu d) within) (All-get_or IsShort (map cpu xs) k (cpu d) (subst (λ n. k < n) (sym (length-map xs cpu)) within) first.short);
        of = λ lender. subst (λ p. IsOf (pass_port b p lender) c) (sym is) (first.of k lender c (at_place cpu xs k d within)).0;
        runs = own.1;
      }

pub may_run : {A B : Type 0} (pass : A → PassValue) (runner : A → B) (cpu : B → Processing) (b : BoardValue) (passes : List PassValue) (runners : List B) (xs : List A) → map pass xs ≡ passes → map runner xs ≡ runners →
    length passes ≡ (sizes_of b.machine).vcpus → AreOpened b.table passes → AreFirst b (map cpu runners) → All (λ w. MayRun b (pass w) (cpu (runner w))) xs
may_run pass runner cpu b passes runners xs with_passes with_runners opened own first =
    let cpus = sym (map-map cpu runner xs) ∙ ap (map cpu) with_runners in
    λ k d within.
    may_at pass (λ w. cpu (runner w)) b xs (ap length with_passes ∙ opened) (subst (AreOpened b.table) (sym with_passes) own) (subst (AreFirst b) (sym cpus) first) k d within

-- ---- when all are retired
abbrev pub RestsSound : Type 0
RestsSound =
    (n : Machine) (words : List ℕ) (hands : List Holdings) → SoundState n words hands → ((s : ℕ) → s < (sizes_of n).vcpus → IsEmptyHand (hand_of hands s)) → SoundWords n words

abbrev pub BuriesListed : Type 0
BuriesListed =
    (n : Machine) (a b : State) (log : List (ℕ × Step)) (s d op : ℕ) (lines : List LogLine) → SoundState n a.words a.hands → Run n a log b → s < (sizes_of n).vcpus →
    HasBuried n s d op (length (hand_of a.hands s).steps) (hand_of b.hands s) lines → LeavesOnlyListed n d op lines (word_at n b) (hand_of b.hands)

-- what each worker did
abbrev pub RanEach : {A : Type 0} (pass : A → PassValue) (gate : A → Gate) (cpu : A → Processing) → BoardValue → List A → List A → Type 0
RanEach {A} pass gate cpu b xs ys =
    (k : ℕ) (d : A) → k < length xs → RanOut b (pass (slice_index_or xs k d)) (pass (slice_index_or ys k d)) (gate (slice_index_or xs k d)) (gate (slice_index_or ys k d)) (cpu (slice_index_or xs k d))
    (cpu (slice_index_or ys k d))

module _ {A : Type 0} (pass : A → PassValue) (gate : A → Gate) (cpu : A → Processing) (b : BoardValue) (xs ys : List A) (opened : length (map pass xs) ≡ (sizes_of b.machine).vcpus)
    (passes : AreOpened b.table (map pass xs)) (first : AreFirst b (map cpu xs)) (count : length ys ≡ length xs) (ran : RanEach pass gate cpu b xs ys) where
  vcpus_is : length xs ≡ (sizes_of b.machine).vcpus
  vcpus_is = sym (length-map xs pass) ∙ opened

  -- the pass of each is that of its vCPU yet
  ended_at : (k : ℕ) (d : A) → k < length xs → pass (slice_index_or ys k d) ≡ record { table = b.table; vcpu = k; holdings = (pass (slice_index_or ys k d)).holdings }
  ended_at k d within =
      let r = ran k d within in
      let vcpu = r.vcpu ∙ ap (λ (p : PassValue). p.vcpu) (opened_at pass cpu b xs opened passes first k d within) in
      λ i. record { table = r.pass.table i; vcpu = vcpu i; holdings = (pass (slice_index_or ys k d)).holdings }

  hand_at : (k : ℕ) (d : A) → k < length xs → hand_of (held_by (map pass ys)) k ≡ (pass (slice_index_or ys k d)).holdings
  hand_at k d within =
      ap (λ (l : List Holdings). slice_index_or l k empty) (map-map (λ (p : PassValue). p.holdings) pass ys)
      ∙ get_or-map (λ (w : A). (pass w).holdings) ys k d empty (subst (λ n. k < n) (sym count) within)

  -- its port in the end
  last_port : (k : ℕ) (d : A) (within : k < length xs) → pass_port b (pass (slice_index_or ys k d)) (ran k d within).lender ≡ port_with b k (ran k d within).lender (hand_of (held_by (map pass ys)) k)
  last_port k d within = ap (λ p. pass_port b p (ran k d within).lender) (ended_at k d within) ∙ ap (port_with b k (ran k d within).lender) (sym (hand_at k d within))

  end_at : (k : ℕ) (d : A) → k < length xs →
      RanToItsEnd b k (slice_get (map gate xs) k) (slice_get (map gate ys) k) (cpu (slice_index_or xs k d)) (cpu (slice_index_or ys k d)) (hand_of (held_by (map pass ys)) k)
  end_at k d within =
      let r = ran k d within in
      let x = slice_index_or xs k d in
      let y = slice_index_or ys k d in
      let start = opened_at pass cpu b xs opened passes first k d within in
      let end = last_port k d within in
      record {
        gate = gate x;
        asked = gate y;
        own = at_place gate xs k d within;
        left_is = at_place gate ys k d (subst (λ n. k < n) (sym count) within);
        lender = r.lender;
        turns = subst (λ w. TookTurns (gate x) (cpu x) (port_with b k r.lender empty) (gate y) (cpu y) w) end
            (subst (λ p. TookTurns (gate x) (cpu x) (pass_port b p r.lender) (gate y) (cpu y) (pass_port b (pass y) r.lender)) start r.turns);
        retired = r.retired;
      }

  empty_at : (k : ℕ) (d : A) → k < length xs → IsEmptyHand (hand_of (held_by (map pass ys)) k)
  empty_at k d within = subst IsEmptyHand (sym (hand_at k d within)) (ran k d within).of.idles.empty

  own_at : (k : ℕ) (p : PassValue) (d : A) → get_elem? (map pass ys) k ≡ some p → (p.table ≡ b.table) × (p.vcpu ≡ k)
  own_at k p d at =
      let there : k < length ys = subst (λ n. k < n) (length-map ys pass) (within_elem (map pass ys) k p at) in
      let is : p ≡ pass (slice_index_or ys k d) = sym (at_elem (map pass ys) k p (pass d) at) ∙ get_or-map pass ys k d (pass d) there in
      let both = is ∙ ended_at k d (subst (λ n. k < n) count there) in
      (ap (λ (q : PassValue). q.table) both, ap (λ (q : PassValue). q.vcpu) both)

  are_of : AreOf b.table (map pass ys)
  are_of k p at = own_at k p (from_head ys k (subst (λ n. k < n) (length-map ys pass) (within_elem (map pass ys) k p at))) at

  each_at : (s : ℕ) (c c2 : Processing) → slice_get (map cpu xs) s ≡ Some c → slice_get (map cpu ys) s ≡ Some c2 →
      RanToItsEnd b s (slice_get (map gate xs) s) (slice_get (map gate ys) s) c c2 (hand_of (held_by (map pass ys)) s)
  each_at s c c2 at at2 =
      let within : s < length xs = subst (λ n. s < n) (length-map xs cpu) (slice_get_within (map cpu xs) s c at) in
      let d = from_head xs s within in
      let is = some_same (slice_get (map cpu xs) s) (cpu (slice_index_or xs s d)) c (at_place cpu xs s d within) at in
      let is2 = some_same (slice_get (map cpu ys) s) (cpu (slice_index_or ys s d)) c2 (at_place cpu ys s d (subst (λ n. s < n) (sym count) within)) at2 in
      subst (λ (x : Processing × Processing). RanToItsEnd b s (slice_get (map gate xs) s) (slice_get (map gate ys) s) x.0 x.1 (hand_of (held_by (map pass ys)) s)) (λ i. (is i, is2 i)) (end_at s d within)

  -- what it destroyed is buried, by its own steps of the run
  buried_at : (k : ℕ) (d : A) (within : k < length xs) → KeepsBuried (port_with b k (ran k d within).lender (hand_of (held_by (map pass ys)) k)) (cpu (slice_index_or ys k d))
  buried_at k d within = subst (λ v. KeepsBuried v (cpu (slice_index_or ys k d))) (last_port k d within) (ran k d within).of.buried

  destroyed : BuriesListed → (words : List ℕ) → OneRun b.machine b.opening words (held_by (map pass ys)) → AreDestroyed b.machine (memory (sizes_of b.machine) words) (hand_of (held_by (map pass ys))) (map cpu ys)
  destroyed lists words run s i x c reply at op line none =
      let hands = held_by (map pass ys) in
      let last : State = record { words = words; hands = hands } in
      let opening = start b.machine b.opening in
      let within : s < length ys = subst (λ n. s < n) (length-map ys cpu) (slice_get_within (map cpu ys) s c at) in
      let there : s < length xs = subst (λ n. s < n) count within in
      let real : s < (sizes_of b.machine).vcpus = subst (λ n. s < n) vcpus_is there in
      let d = from_head xs s there in
      let is = some_same (slice_get (map cpu ys) s) (cpu (slice_index_or ys s d)) c (at_place cpu ys s d within) at in
      let keeps = subst (KeepsBuried (port_with b s (ran s d there).lender (hand_of hands s))) is (buried_at s d there) in
      let first_state = (run.always run.one.log [] opening (sym (append-nil run.one.log)) refl).0 in
      let none_made : 0 ≡ length (hand_of opening.hands s).steps = sym (ap (λ (h : Holdings). length h.steps) (get_or-replicate (sizes_of b.machine).vcpus s empty empty real)) in
      lists b.machine opening last run.one.log s x (i + 1) c.log first_state run.one.run real (subst (λ k. HasBuried b.machine s x (i + 1) k (hand_of hands s) c.log) none_made (keeps i x reply op line none))

  ran_all : RestsSound → BuriesListed → (words : List ℕ) → OneRun b.machine b.opening words (held_by (map pass ys)) → RanInThreads b (map gate xs) (map cpu xs) words (map gate ys) (map cpu ys)
  ran_all rests lists words run =
      let hands = held_by (map pass ys) in
      record {
        hands = hands;
        run = run;
        count = length-map (map pass ys) (λ (p : PassValue). p.holdings) ∙ length-map ys pass ∙ count ∙ vcpus_is;
        all = length-map ys cpu ∙ count ∙ sym (length-map xs cpu);
        each = each_at;
        sound = rests b.machine words hands run.sound (λ s real. let within : s < length xs = subst (λ n. s < n) (sym vcpus_is) real in empty_at s (from_head xs s within) within);
        destroyed = destroyed lists words run;
      }

-- as the code has it: of the workers, xs before and ys behind their turns
module _ {A B : Type 0} (pass : A → PassValue) (runner : A → B) (gate : B → Gate) (cpu : B → Processing) (b : BoardValue) (passes : List PassValue) (runners : List B) (xs ys : List A) (with_passes : map pass xs ≡ passes)
    (with_runners : map runner xs ≡ runners) (opened : length passes ≡ (sizes_of b.machine).vcpus) (own : AreOpened b.table passes) (first : AreFirst b (map cpu runners)) (count : length ys ≡ length xs)
    (ran : RanEach pass (λ w. gate (runner w)) (λ w. cpu (runner w)) b xs ys) where
  cpus_is : map (λ w. cpu (runner w)) xs ≡ map cpu runners
  cpus_is = sym (map-map cpu runner xs) ∙ ap (map cpu) with_runners

  gates_is : map (λ w. gate (runner w)) xs ≡ map gate runners
  gates_is = sym (map-map gate runner xs) ∙ ap (map gate) with_runners

  opened_all : length (map pass xs) ≡ (sizes_of b.machine).vcpus
  opened_all = ap length with_passes ∙ opened

  own_all : AreOpened b.table (map pass xs)
  own_all = subst (AreOpened b.table) (sym with_passes) own

  first_all : AreFirst b (map (λ w. cpu (runner w)) xs)
  first_all = subst (AreFirst b) (sym cpus_is) first

  pub passes_own : (ended : List PassValue) → ended ≡ map pass ys → AreOf b.table ended
  passes_own ended is = subst (AreOf b.table) (sym is) (are_of pass (λ w. gate (runner w)) (λ w. cpu (runner w)) b xs ys opened_all own_all first_all count ran)

  pub ran_in_threads : RestsSound → BuriesListed → (words : List ℕ) (ended : List PassValue) (retired : List B) → ended ≡ map pass ys → retired ≡ map runner ys → OneRun b.machine b.opening words (held_by ended) →
      RanInThreads b (map gate runners) (map cpu runners) words (map gate retired) (map cpu retired)
  ran_in_threads rests lists words ended retired is those run =
      let last : map (λ w. cpu (runner w)) ys ≡ map cpu retired = sym (map-map cpu runner ys) ∙ ap (map cpu) (sym those) in
      let left : map (λ w. gate (runner w)) ys ≡ map gate retired = sym (map-map gate runner ys) ∙ ap (map gate) (sym those) in
      subst (λ (l : List Processing). RanInThreads b (map gate runners) (map cpu runners) words (map gate retired) l) last
      (subst (λ (l : List Gate). RanInThreads b (map gate runners) (map cpu runners) words l (map (λ w. cpu (runner w)) ys)) left
      (subst (λ (l : List Processing). RanInThreads b (map gate runners) l words (map (λ w. gate (runner w)) ys) (map (λ w. cpu (runner w)) ys)) cpus_is
      (subst (λ (l : List Gate). RanInThreads b l (map (λ w. cpu (runner w)) xs) words (map (λ w. gate (runner w)) ys) (map (λ w. cpu (runner w)) ys)) gates_is
      (ran_all pass (λ w. gate (runner w)) (λ w. cpu (runner w)) b xs ys opened_all own_all first_all count ran rests lists words (subst (λ (l : List PassValue). OneRun b.machine b.opening words (held_by l)) is run)))))
