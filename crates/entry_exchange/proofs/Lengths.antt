-- How many visits the lists of single calls have: at the words of a frame, and of a wait, by the number of vCPUs.
use Rattle.std.proofs.Common.{◌≡◌, ℕ, ◌+◌, ◌*◌, ◌<◌, ◌≤◌, ◌==◌, ◌&&◌, nat_lt, Bool, true, false, List, ◌++◌, length, Option, Some, None, Result, Ok, Err, sym, ap, ◌∙◌, subst, arith, inl, inr}
use Rattle.std.specs.List.{list_all}
use Rattle.std.proofs.lemmas.Bool.{and_parts}
use Rattle.std.proofs.lemmas.Bool.Decides.{nat_tests}
use Rattle.std.proofs.lemmas.List.{length-append}
use Rattle.std.proofs.lemmas.List.Folds.{list_all-append}
use Rattle.xp_words.specs.KindWords.{kind_fields}
use Rattle.xp_words.specs.Machine.{Machine}
use Rattle.xp_words.specs.Places.{Sizes, asked_of, is_place}
use Rattle.xp_words.specs.declared.kind.KindWord.{KindWord}
use Rattle.xp_words.specs.declared.kind.PageType.{PageType}
use Rattle.xp_words.specs.declared.place.Place.TheVariants.{Clock, Kind, Priv, Vcpu}
use Rattle.xp_words.specs.declared.reply.Pause.TheVariants.{Flush, Lost}
use Rattle.xp_words.specs.declared.reply.Refusal.{Refusal}
use Rattle.xp_words.specs.declared.reply.Stop.{Stop}
use Rattle.xp_words.specs.declared.reply.Stop.TheVariants.{Refused, Paused}
use Rattle.xp_board.specs.Readings.{domain_of}
use Rattle.xp_board.specs.RefSteps.{one_down}
use Rattle.xp_board.specs.Told.{Post}
use Rattle.xp_board.specs.declared.step.Act.{Act}
use Rattle.xp_board.specs.declared.step.Act.TheVariants.{Add, Load, Max}
use Rattle.step_maker.specs.Reasons.{OfOwner}
use Rattle.step_maker.specs.Visits.{Nothing, Only, Then, Visit, Where, visit}
use Rattle.flush_words.specs.Flushing as flushing
use Rattle.flush_words.specs.Flushing.{FlushedBy}
use Rattle.flush_waits.specs.Listing as waits
use Rattle.flush_waits.specs.Listing.{LooksAt, Slow, WaitedFor, WaitsInOrder, WeighsBy, saw_flushed, saw_run}
use Rattle.frame_words.specs.Freeing.{FreesBy, PutBy, lowers_refs}
use Rattle.frame_words.specs.Refs.{GetsBy, Raises, UnreferredBy, outside, raises_refs, refused, saw_refs}
use Rattle.kind_words.specs.Kinds.{dead_kind, live_kind, partial_kind, work_kind}
use Rattle.frame_types.specs.Found.{DeadBy, Dies, DropsBy, EndsBy, GoesBy, LosesBy, SharedBy, StopsBy, StoresKind, TakesBy, TakesOf, TypeBy, WaitsOf, is_kept_by, next_kind, saw_kind, swaps_kind}
use Rattle.frame_types.specs.Plain.{is_own, waits_by}
use Rattle.frame_types.specs.Standing.{standing_of}
use Rattle.frame_types.specs.declared.standing.Standing.{Standing}
use Rattle.frame_types.specs.declared.standing.Standing.TheVariants as stands
use Rattle.frame_types.specs.declared.taking.Taken.{Taken}
use Rattle.frame_types.specs.declared.taking.Taken.TheVariants as types

-- The machine has each word that is visited.
abbrev pub are_there : Sizes → List Visit → Bool
are_there z vs = list_all (λ (s : Visit). is_place z s.place) vs

-- no such list of words that the machine has is longer
abbrev pub Short : Sizes → (List Visit → Type 0) → ℕ → Type 0
Short z P k = (vs : List Visit) → are_there z vs ≡ true → P vs → length vs ≤ k

module _ (z : Sizes) where
  -- ---- put together
  parts_there : (before after vs : List Visit) → vs ≡ after ++ before → are_there z vs ≡ true → (are_there z before ≡ true) × (are_there z after ≡ true)
  parts_there before after vs is there =
      let both = and_parts (are_there z after) (are_there z before) (sym (list_all-append (λ (s : Visit). is_place z s.place) after before) ∙ ap (λ us. are_there z us) (sym is) ∙ there) in
      (both.1, both.0)

  longer : (P : List Visit → Type 0) (j k : ℕ) → j ≤ k → Short z P j → Short z P k
  longer P j k low p vs there a = let few = p vs there a in omega arith

  nothing_short : Short z (λ vs. Nothing vs) 0
  nothing_short vs there none = subst (λ us. length us ≤ 0) (sym none) (omega arith)

  only_short : (s : Visit) → Short z (λ vs. Only s vs) 1
  only_short s vs there one = subst (λ us. length us ≤ 1) (sym one) (omega arith)

  then_short : (P Q : List Visit → Type 0) (j k : ℕ) → Short z P j → Short z Q k → Short z (λ vs. Then P Q vs) (j + k)
  then_short P Q j k p q vs there t =
      let both = parts_there t.before t.after vs t.list there in
      let before = p t.before both.0 t.first in
      let after = q t.after both.1 t.next in
      omega (arith, ap length t.list, length-append t.after t.before, before, after)

  where_short : (b : Bool) (P : List Visit → Type 0) (k : ℕ) → Short z P k → Short z (λ vs. Where b P vs) k
  where_short true P k p vs there a = p vs there a
  where_short false P k p vs there a = let none = nothing_short vs there a in omega arith

  -- ---- references
  frees_short : (f : ℕ) (last : Option ℕ) → Short z (λ vs. FreesBy f last vs) 4
  frees_short f (Some owner) vs there (clock, b, y, k, is) = subst (λ us. length us ≤ 4) (sym is) (omega arith)
  frees_short f None vs there none = let none = nothing_short vs there none in omega arith

  pub puts_short : (f : ℕ) → Short z (PutBy f) 5
  puts_short f vs there a = then_short (Only (lowers_refs f a.word)) (λ us. FreesBy f a.last us) 1 4 (only_short (lowers_refs f a.word)) (frees_short f a.last) vs there a.steps

  raises_short : (f x y : ℕ) → Short z (λ vs. Raises f x y vs) 2
  raises_short f x y vs there a = then_short (Only (saw_refs f x)) (Only (raises_refs f x y)) 1 1 (only_short (saw_refs f x)) (only_short (raises_refs f x y)) vs there a

  unreferred_short : (n : Machine) (f owner : ℕ) (r : Refusal) → Short z (λ vs. UnreferredBy n f owner r vs) 2
  unreferred_short n f owner r vs there (outside far is none) = let few = nothing_short vs there none in omega arith
  unreferred_short n f owner r vs there (refused x inside is one) = let few = only_short (saw_refs f x) vs there one in omega arith

  pub gets_short : {A : Type 0} (n : Machine) (f owner : ℕ) (answer : Result A Stop) → Short z (λ vs. GetsBy n f owner answer vs) 2
  gets_short n f owner (Ok g) vs there a = raises_short f a.0 a.0 vs there a.2
  gets_short n f owner (Err (Refused r)) vs there a = unreferred_short n f owner r vs there a
  gets_short n f owner (Err (Paused (Lost place expected found))) vs there a = raises_short f expected found vs there a.3
  gets_short n f owner (Err (Paused _)) vs there a = absurd a

  -- ---- one vCPU that is waited for: it is one of the machine
  flushed_short : (u : ℕ) (answer : Result (Unit {0}) Refusal) → Short z (λ vs. FlushedBy u answer vs) 3
  flushed_short u answer vs there flushing.none = omega arith
  flushed_short u answer vs there (flushing.once clock found to before some left) = omega arith

  weighs_short : (n : Machine) (owner u : ℕ) (reaches : Bool) → Short z (λ vs. WeighsBy n (OfOwner owner) u reaches vs) 1
  weighs_short n owner u reaches vs there (inl a) = let few = nothing_short vs there a.2 in omega arith
  weighs_short n owner u reaches vs there (inr a) = only_short (visit (Priv (domain_of n u)) Load a.1.0) vs there a.1.2

  vcpu_there : (u k : ℕ) (a : Act) (x : ℕ) (vs : List Visit) → Only (visit (Vcpu u k) a x) vs → are_there z vs ≡ true → u < z.vcpus
  unfolding is_place
  vcpu_there u k a x vs one there =
      let at : ((nat_lt u z.vcpus && nat_lt k 38) && true) ≡ true = ap (λ us. are_there z us) (sym one) ∙ there in
      grind (arith, nat_tests)

  module _ (q : Post) (owner stamp u : ℕ) where
    abbrev Reaches : Bool → List Visit → Type 0
    Reaches reaches ws = WeighsBy q.machine (OfOwner owner) u reaches ws

    run_there : (x : ℕ) (Q : List Visit → Type 0) (vs : List Visit) → are_there z vs ≡ true → Then (Only (saw_run u x)) Q vs → u < z.vcpus
    run_there x Q vs there t = vcpu_there u 6 Load x t.before t.first (parts_there t.before t.after vs t.list there).0

    saw_there : (y : ℕ) (Q : List Visit → Type 0) (vs : List Visit) → are_there z vs ≡ true → Then (Only (saw_flushed u y)) Q vs → u < z.vcpus
    saw_there y Q vs there t = vcpu_there u 5 Load y t.before t.first (parts_there t.before t.after vs t.list there).0

    looks_there : (answer : Result (Option ℕ) Refusal) (vs : List Visit) → are_there z vs ≡ true → LooksAt q (OfOwner owner) stamp u vs answer → u < z.vcpus
    looks_there answer vs there (waits.unmeant means is off none) = absurd (let k = is in cc)
    looks_there answer vs there (waits.idle x apart some one) = vcpu_there u 6 Load x vs one there
    looks_there answer vs there (waits.late y apart more t) = run_there 0 (Only (saw_flushed u y)) vs there t
    looks_there answer vs there (waits.barred y apart low t) = run_there 0 (Then (Only (saw_flushed u y)) (Reaches false)) vs there t
    looks_there answer vs there (waits.behind y k apart low t) = run_there 0 (Then (Only (saw_flushed u y)) (Then (Reaches true) (Only (visit (asked_of u) (Max stamp) k)))) vs there t
    looks_there answer vs there (waits.own_late y own more one) = vcpu_there u 5 Load y vs one there
    looks_there answer vs there (waits.own_flushed y own low t) = saw_there y (λ fs. FlushedBy u (Ok tt) fs) vs there t
    looks_there answer vs there (waits.own_spent y r own low t) = saw_there y (λ fs. FlushedBy u (Err r) fs) vs there t

    -- its run word and its flush are looked at, and what else shows that it is clear; or it is asked, or flushes its own
    ran_short : (y : ℕ) (Q : List Visit → Type 0) → Short z Q 2 → Short z (λ vs. Then (Only (saw_run u 0)) (Then (Only (saw_flushed u y)) Q) vs) 4
    ran_short y Q q vs there t =
        then_short (Only (saw_run u 0)) (Then (Only (saw_flushed u y)) Q) 1 3 (only_short (saw_run u 0))
        (λ us on k. then_short (Only (saw_flushed u y)) Q 1 2 (only_short (saw_flushed u y)) q us on k) vs there t

    looks_short : (answer : Result (Option ℕ) Refusal) → Short z (λ vs. LooksAt q (OfOwner owner) stamp u vs answer) 4
    looks_short answer vs there (waits.unmeant means is off none) = absurd (let k = is in cc)
    looks_short answer vs there (waits.idle x apart some one) = let few = only_short (saw_run u x) vs there one in omega arith
    looks_short answer vs there (waits.late y apart more t) =
        let few = then_short (Only (saw_run u 0)) (Only (saw_flushed u y)) 1 1 (only_short (saw_run u 0)) (only_short (saw_flushed u y)) vs there t in
        omega arith
    looks_short answer vs there (waits.barred y apart low t) = ran_short y (Reaches false) (longer (Reaches false) 1 2 (omega arith) (weighs_short q.machine owner u false)) vs there t
    looks_short answer vs there (waits.behind y k apart low t) =
        ran_short y (Then (Reaches true) (Only (visit (asked_of u) (Max stamp) k)))
        (λ us on asks. then_short (Reaches true) (Only (visit (asked_of u) (Max stamp) k)) 1 1 (weighs_short q.machine owner u true) (only_short (visit (asked_of u) (Max stamp) k)) us on asks) vs there t
    looks_short answer vs there (waits.own_late y own more one) = let few = only_short (saw_flushed u y) vs there one in omega arith
    looks_short answer vs there (waits.own_flushed y own low t) =
        then_short (Only (saw_flushed u y)) (λ fs. FlushedBy u (Ok tt) fs) 1 3 (only_short (saw_flushed u y)) (flushed_short u (Ok tt)) vs there t
    looks_short answer vs there (waits.own_spent y r own low t) =
        then_short (Only (saw_flushed u y)) (λ fs. FlushedBy u (Err r) fs) 1 3 (only_short (saw_flushed u y)) (flushed_short u (Err r)) vs there t

  -- ---- all of them: no more than there are, since each was visited
  module _ (q : Post) (owner stamp : ℕ) where
    waits_one : (u : ℕ) (standing : Result (Option ℕ) Refusal) (before now vs : List Visit) → vs ≡ now ++ before → (u ≤ z.vcpus) × (length before ≤ 4 * u) → are_there z now ≡ true → LooksAt q (OfOwner owner) stamp u now standing →
        (u + 1 ≤ z.vcpus) × (length vs ≤ 4 * (u + 1))
    waits_one u standing before now vs is sofar there looks =
        let low = looks_there q owner stamp u standing now there looks in
        let four = looks_short q owner stamp u standing now there looks in
        (omega arith, omega (arith, ap length is, length-append now before, sofar.1, four))

    waits_short : (vs : List Visit) (n : ℕ) (answer : Result (Option Slow) Refusal) → are_there z vs ≡ true → WaitsInOrder q (OfOwner owner) stamp vs n answer → (n ≤ z.vcpus) × (length vs ≤ 4 * n)
    waits_short vs n answer there (waits.none _ nothing) = (omega arith, nothing_short vs there nothing)
    waits_short vs n answer there (waits.more u first standing before now _ some looks is) =
        let both = parts_there before now vs is there in
        waits_one u (Ok standing) before now vs is (waits_short before u (Ok first) both.0 some) both.1 looks
    waits_short vs n answer there (waits.spent u first r before now _ some looks is) =
        let both = parts_there before now vs is there in
        waits_one u (Err r) before now vs is (waits_short before u (Ok first) both.0 some) both.1 looks

    all_waits_short : (vs : List Visit) (n : ℕ) (answer : Result (Option Slow) Refusal) → are_there z vs ≡ true → WaitsInOrder q (OfOwner owner) stamp vs n answer → length vs ≤ 4 * z.vcpus
    all_waits_short vs n answer there some = let few = waits_short vs n answer there some in omega (arith, few.0, few.1)

    waited_short : (answer : Result (Unit {0}) Stop) → Short z (λ vs. WaitedFor q (OfOwner owner) stamp answer vs) (4 * z.vcpus)
    waited_short (Ok done) vs there a = all_waits_short vs _ (Ok None) there a
    waited_short (Err (Refused r)) vs there a = all_waits_short vs a.0 (Err r) there a.1
    waited_short (Err (Paused (Flush u t x))) vs there a = all_waits_short vs _ _ there a.1
    waited_short (Err (Paused _)) vs there a = absurd a

  -- ---- kind words
  pub stores_short : (f : ℕ) (k : KindWord) → Short z (λ vs. StoresKind f k vs) 1
  stores_short f k vs there a = subst (λ us. length us ≤ 1) (sym a.1) (omega arith)

  dies_short : (f : ℕ) (want : PageType) (marked : Bool) → Short z (λ vs. Dies f want marked vs) 2
  dies_short f want marked vs there a =
      then_short (Only (visit Clock Load a.0)) (λ us. StoresKind f (dead_kind want marked a.0) us) 1 1 (only_short (visit Clock Load a.0)) (stores_short f (dead_kind want marked a.0)) vs there a.1

  pub dead_short : (f : ℕ) (want : PageType) → Short z (λ vs. DeadBy f want vs) 7
  dead_short f want vs there a = then_short (λ us. Dies f want true us) (PutBy f) 2 5 (dies_short f want true) (puts_short f) vs there a

  pub shared_short : (f : ℕ) (want : PageType) (stamp : ℕ) → Short z (λ vs. SharedBy f want stamp vs) 6
  shared_short f want stamp vs there a =
      then_short (λ us. StoresKind f (partial_kind want false true 0 stamp) us) (PutBy f) 1 5 (stores_short f (partial_kind want false true 0 stamp)) (puts_short f) vs there a

  pub drops_short : (f : ℕ) (kind : PageType) → Short z (λ vs. DropsBy f kind vs) 8
  drops_short f kind vs there a =
      let last = (kind_fields a.0).number == 1 in
      then_short (Only (visit (Kind f) (Add one_down) a.0)) (Then (Where last (λ us. Dies f kind false us)) (PutBy f)) 1 7 (only_short (visit (Kind f) (Add one_down) a.0))
      (λ us on k. then_short (Where last (λ us. Dies f kind false us)) (PutBy f) 2 5 (where_short last (λ us. Dies f kind false us) 2 (dies_short f kind false)) (puts_short f) us on k) vs there a.1

  -- ---- a type is taken: with one wait at the most
  waits_of_short : (q : Post) (owner : ℕ) (marked : Bool) (stamp : ℕ) (t : Taken) → Short z (λ vs. WaitsOf q owner marked stamp t vs) (4 * z.vcpus)
  waits_of_short q owner true stamp (types.Waiting own awaited stop) vs there a = waited_short q owner stamp (Err stop) vs there a.1
  waits_of_short q owner true stamp _ vs there a = waited_short q owner stamp (Ok tt) vs there a
  waits_of_short q owner false stamp t vs there a = let none = nothing_short vs there a in omega arith

  ends_short : (f : ℕ) (want : PageType) (marked own : Bool) (t : Taken) → Short z (λ vs. EndsBy f want marked own t vs) 1
  ends_short f want marked true types.Counted vs there a = stores_short f (live_kind want 1) vs there a
  ends_short f want marked false types.Counted vs there a = stores_short f (live_kind want 2) vs there a
  ends_short f want marked own (types.InWork progress mine) vs there a = where_short marked (λ us. StoresKind f (work_kind want false 0) us) 1 (stores_short f (work_kind want false 0)) vs there a
  ends_short f want marked own (types.Waiting mine stamp stop) vs there a = let none = nothing_short vs there a in omega arith

  goes_short : (q : Post) (f owner : ℕ) (want : PageType) (marked : Bool) (stamp : ℕ) (own : Bool) (t : Taken) → Short z (λ vs. GoesBy q f owner want marked stamp own t vs) (4 * z.vcpus + 1)
  goes_short q f owner want marked stamp own t vs there a =
      then_short (λ us. WaitsOf q owner marked stamp t us) (λ us. EndsBy f want marked own t us) (4 * z.vcpus) 1 (waits_of_short q owner marked stamp t) (ends_short f want marked own t) vs there a

  takes_short : (q : Post) (f owner : ℕ) (want : PageType) (x : ℕ) (s : Standing) (t : Taken) → Short z (λ vs. TakesBy q f owner want x s t vs) (7 + 4 * z.vcpus)
  takes_short q f owner want x stands.Counted t vs there a = let few = only_short (swaps_kind f x (next_kind (kind_fields x) want stands.Counted) x) vs there a in omega arith
  takes_short q f owner want x s t vs there a =
      let k = kind_fields x in
      let gives = Where (is_kept_by k s) (PutBy f) in
      let goes = λ (us : List Visit). GoesBy q f owner want (waits_by k want s) k.number (is_own k s) t us in
      let few = then_short (Only (swaps_kind f x (next_kind k want s) x)) (Then gives goes) 1 (5 + (4 * z.vcpus + 1)) (only_short (swaps_kind f x (next_kind k want s) x))
      (λ us on m. then_short gives goes 5 (4 * z.vcpus + 1) (where_short (is_kept_by k s) (PutBy f) 5 (puts_short f)) (goes_short q f owner want (waits_by k want s) k.number (is_own k s) t) us on m) vs there a in
      omega arith

  taken_short : (q : Post) (f owner : ℕ) (want : PageType) (t : Taken) → Short z (λ vs. TakesOf q f owner want t vs) (8 + 4 * z.vcpus)
  taken_short q f owner want t vs there a =
      let s = standing_of (kind_fields a.word) want in
      let few = then_short (Only (saw_kind f a.word)) (λ us. TakesBy q f owner want a.word s t us) 1 (7 + 4 * z.vcpus) (only_short (saw_kind f a.word)) (takes_short q f owner want a.word s t) vs there a.steps in
      omega arith

  loses_short : (n : Machine) (f : ℕ) (want : PageType) (place expected found : ℕ) → Short z (λ vs. LosesBy n f want place expected found vs) (8 + 4 * z.vcpus)
  loses_short n f want place expected found vs there a =
      let k = next_kind (kind_fields expected) want (standing_of (kind_fields expected) want) in
      let few = then_short (Only (saw_kind f expected)) (Only (swaps_kind f expected k found)) 1 1 (only_short (saw_kind f expected)) (only_short (swaps_kind f expected k found)) vs there a.3 in
      omega arith

  stops_short : (f : ℕ) (want : PageType) (e : Stop) → Short z (λ vs. StopsBy f want e vs) (8 + 4 * z.vcpus)
  stops_short f want e vs there a = let few = only_short (saw_kind f a.0) vs there a.2 in omega arith

  pub typed_short : (q : Post) (f owner : ℕ) (want : PageType) (answer : Result Taken Stop) → Short z (λ vs. TypeBy q f owner want answer vs) (8 + 4 * z.vcpus)
  typed_short q f owner want (Ok t) vs there a = taken_short q f owner want t vs there a
  typed_short q f owner want (Err (Paused (Lost place expected found))) vs there a = loses_short q.machine f want place expected found vs there a
  typed_short q f owner want (Err (Paused p)) vs there a = stops_short f want (Paused p) vs there a
  typed_short q f owner want (Err (Refused r)) vs there a = stops_short f want (Refused r) vs there a
