-- A descriptor page is taken by few steps: two for each word of it, four for each vCPU, and some more.
use Rattle.std.proofs.Common.{◌≡◌, ℕ, ◌+◌, ◌*◌, ◌<◌, ◌≤◌, Bool, true, false, List, [], ◌∷◌, length, Option, None, Result, Ok, Err, ap, ◌∙◌, subst, arith}
use Rattle.std.proofs.lemmas.List.{length-append}
use Rattle.xp_words.specs.KindWords.{kind_fields}
use Rattle.xp_words.specs.declared.kind.KindWord.{KindWord}
use Rattle.xp_words.specs.declared.kind.PageType.{PageType}
use Rattle.xp_words.specs.declared.kind.PageType.TheVariants.{Desc}
use Rattle.xp_words.specs.declared.reply.Pause.TheVariants as pauses
use Rattle.xp_words.specs.declared.reply.Refusal.{Refusal}
use Rattle.xp_words.specs.declared.reply.Stop.{Stop}
use Rattle.xp_words.specs.declared.reply.Stop.TheVariants.{Refused, Paused}
use Rattle.xp_words.specs.declared.place.Place.{Place}
use Rattle.xp_board.specs.declared.holdings.Work.{Work}
use Rattle.xp_board.specs.declared.step.Act.{Act}
use Rattle.xp_board.specs.declared.step.StepKind.{StepKind}
use Rattle.xp_board.specs.Told.{Post, PortValue}
use Rattle.step_maker.specs.Moves.{Came, Moment, Moves, Ran}
use Rattle.step_maker.proofs.Coming.{came_post, came_trans, moves_came, ran_post}
use Rattle.step_maker.proofs.Visiting.{does_came}
use Rattle.step_maker.specs.Reasons.{OfOwner, Whose}
use Rattle.step_maker.specs.Visits.{Visit, Does, Only, Then, Where, visits}
use Rattle.flush_words.proofs.Lasting.{moves_longer}
use Rattle.flush_waits.specs.Listing.{Slow, WaitedFor, WaitsInOrder}
use Rattle.flush_waits.specs.Listing as listing
use Rattle.frame_words.specs.Freeing.{PutBy}
use Rattle.frame_words.specs.Refs.{GetsBy}
use Rattle.frame_types.specs.Found.{DeadBy, Dies, EndsBy, GoesBy, StoresKind, TakesBy, TakesFound, TypeBy, WaitsOf, is_kept_by, next_kind, swaps_kind}
use Rattle.frame_types.specs.Plain.{is_own, waits_by}
use Rattle.frame_types.specs.Standing.{standing_of}
use Rattle.frame_types.specs.declared.standing.Standing.{Standing}
use Rattle.frame_types.specs.declared.standing.Standing.TheVariants as stands
use Rattle.frame_types.specs.declared.taking.Taken.{Taken}
use Rattle.frame_types.specs.declared.taking.Taken.TheVariants.{Counted, InWork, Waiting}
use Rattle.kept_marks.specs.Marks.{KeptFor}
use Rattle.kept_marks.specs.Marks as marks
use Rattle.table_entries.specs.Acquiring.{GaveRef, GotRef}
use Rattle.table_entries.proofs.Shared.{ref_came, gave_came}
use Rattle.desc_pages.specs.Fixing.{Fixes, FixesBy, changes, none, stands}
use Rattle.desc_pages.specs.Pages.{DescLeft, GotDesc, IsShort, PageValidated, TookDesc, counted, fixed, had, read, unfixed, unreferred, untaken, untyped, waiting}
use Rattle.desc_pages.proofs.Counting.{IsAtMost, does_most, gets_most, looks_most, nothing_most, only_most, put_most, then_most, where_most}

-- ---- the wait, all below a number
waits_most : (q : Post) (whose : Whose) (stamp : ℕ) (vs : List Visit) (n : ℕ) (answer : Result (Option Slow) Refusal) → WaitsInOrder q whose stamp vs n answer → length vs ≤ 4 * n
waits_most q whose stamp vs _ _ (listing.none _ off) = let few = nothing_most vs off in omega (arith, few)
waits_most q whose stamp vs _ _ (listing.more u first standing before now _ rest look list) =
    let all = ap (λ (ws : List Visit). length ws) list ∙ length-append now before in
    let below = waits_most q whose stamp before u (Ok first) rest in
    let here = looks_most q whose stamp u now (Ok standing) look in
    omega (arith, all, below, here)
waits_most q whose stamp vs _ _ (listing.spent u first r before now _ rest look list) =
    let all = ap (λ (ws : List Visit). length ws) list ∙ length-append now before in
    let below = waits_most q whose stamp before u (Ok first) rest in
    let here = looks_most q whose stamp u now (Err r) look in
    omega (arith, all, below, here)

-- where the clock is at its last value the own vCPU is the last one
look_own : (q : Post) (whose : Whose) (stamp u : ℕ) (vs : List Visit) (r : Refusal) → listing.LooksAt q whose stamp u vs (Err r) → u ≡ q.vcpu
look_own q whose stamp u vs _ (listing.own_spent y r own low steps) = own.0

last_own : (q : Post) (whose : Whose) (stamp : ℕ) (vs : List Visit) (n : ℕ) (r : Refusal) → WaitsInOrder q whose stamp vs n (Err r) → n ≡ q.vcpu + 1
last_own q whose stamp vs _ _ (listing.spent u first r before now _ rest look list) = ap (λ k. k + 1) (look_own q whose stamp u now r look)

abbrev pub vcpus : Post → ℕ
vcpus q = length q.machine.vcpu_domain

waited_most : (q : Post) (whose : Whose) (stamp : ℕ) (answer : Result (Unit {0}) Stop) → q.vcpu < vcpus q → IsAtMost (WaitedFor q whose stamp answer) (4 * vcpus q)
waited_most q whose stamp (Ok done) real vs a = waits_most q whose stamp vs (vcpus q) (Ok None) a
waited_most q whose stamp (Err (Refused r)) real vs a =
    let few = waits_most q whose stamp vs a.0 (Err r) a.1 in
    let last = last_own q whose stamp vs a.0 r a.1 in
    omega (arith, few, last, real)
waited_most q whose stamp (Err (Paused (pauses.Flush vcpu awaited found))) real vs a = waits_most q whose stamp vs (vcpus q) _ a.1
waited_most q whose stamp (Err (Paused r)) real vs a = absurd a

-- ---- the type
pub stores_most : (f : ℕ) (k : KindWord) → IsAtMost (StoresKind f k) 1
stores_most f k vs a = only_most _ vs a.1

module _ (q : Post) (f owner : ℕ) (want : PageType) (real : q.vcpu < vcpus q) where
  waits_of_most : (marked : Bool) (stamp : ℕ) (t : Taken) → IsAtMost (WaitsOf q owner marked stamp t) (4 * vcpus q)
  waits_of_most true stamp (Waiting own awaited stop) vs a = waited_most q (OfOwner owner) stamp (Err stop) real vs a.1
  waits_of_most true stamp Counted vs a = waited_most q (OfOwner owner) stamp (Ok tt) real vs a
  waits_of_most true stamp (InWork progress own) vs a = waited_most q (OfOwner owner) stamp (Ok tt) real vs a
  waits_of_most false stamp t vs a = let few = nothing_most vs a in omega (arith, few)

  ends_most : (marked own : Bool) (t : Taken) → IsAtMost (EndsBy f want marked own t) 1
  ends_most marked own Counted vs a = stores_most f _ vs a
  ends_most marked own (InWork progress mine) vs a = where_most marked (StoresKind f _) 1 (stores_most f _) vs a
  ends_most marked own (Waiting mine stamp stop) vs a = let few = nothing_most vs a in omega (arith, few)

  goes_most : (marked : Bool) (stamp : ℕ) (own : Bool) (t : Taken) → IsAtMost (GoesBy q f owner want marked stamp own t) (4 * vcpus q + 1)
  goes_most marked stamp own t vs a = then_most (λ ws. WaitsOf q owner marked stamp t ws) (λ es. EndsBy f want marked own t es) (4 * vcpus q) 1 (waits_of_most marked stamp t) (ends_most marked own t) vs a

  came_most : (x : ℕ) (s : Standing) (t : Taken) →
      IsAtMost (Then (Only (swaps_kind f x (next_kind (kind_fields x) want s) x)) (Then (Where (is_kept_by (kind_fields x) s) (PutBy f)) (λ gs. GoesBy q f owner want (waits_by (kind_fields x) want s) (kind_fields x).number (is_own (kind_fields x) s) t gs))) (1 + (5 + (4 * vcpus q + 1)))
  came_most x s t =
      then_most (Only (swaps_kind f x (next_kind (kind_fields x) want s) x)) (Then (Where (is_kept_by (kind_fields x) s) (PutBy f)) (λ gs. GoesBy q f owner want (waits_by (kind_fields x) want s) (kind_fields x).number (is_own (kind_fields x) s) t gs)) 1 (5 + (4 * vcpus q + 1)) (only_most _)
      (then_most (Where (is_kept_by (kind_fields x) s) (PutBy f)) (λ gs. GoesBy q f owner want (waits_by (kind_fields x) want s) (kind_fields x).number (is_own (kind_fields x) s) t gs) 5 (4 * vcpus q + 1)
      (where_most (is_kept_by (kind_fields x) s) (PutBy f) 5 (put_most f)) (goes_most (waits_by (kind_fields x) want s) (kind_fields x).number (is_own (kind_fields x) s) t))

  takes_most : (x : ℕ) (s : Standing) (t : Taken) → IsAtMost (TakesBy q f owner want x s t) (7 + 4 * vcpus q)
  takes_most x stands.Counted t vs a = let few = only_most _ vs a in omega (arith, few)
  takes_most x stands.Dead t vs a = let few = came_most x stands.Dead t vs a in omega (arith, few)
  takes_most x stands.Partial t vs a = let few = came_most x stands.Partial t vs a in omega (arith, few)
  takes_most x stands.Busy t vs a = let few = came_most x stands.Busy t vs a in omega (arith, few)
  takes_most x stands.Other t vs a = let few = came_most x stands.Other t vs a in omega (arith, few)

  type_most : (t : Taken) → IsAtMost (TypeBy q f owner want (Ok t)) (1 + (7 + 4 * vcpus q))
  type_most t vs a = then_most (Only _) (λ ts. TakesBy q f owner want a.word (standing_of (kind_fields a.word) want) t ts) 1 (7 + 4 * vcpus q) (only_most _) (takes_most a.word (standing_of (kind_fields a.word) want) t) vs a.steps

pub untyped_most : (q : Post) (f owner : ℕ) (want : PageType) (e : Stop) → IsAtMost (TypeBy q f owner want (Err e)) 2
untyped_most q f owner want (Paused (pauses.Lost place expected found)) vs a = then_most (Only _) (Only _) 1 1 (only_most _) (only_most _) vs a.3
untyped_most q f owner want (Refused x) vs a = let few = only_most _ vs a.2 in omega (arith, few)
untyped_most q f owner want (Paused x) vs a = let few = only_most _ vs a.2 in omega (arith, few)

-- ---- the own vCPU is one of the machine's, as a step was made
ran_real : (v w : PortValue) (ms : List Moment) → Ran v ms w → 0 < length (visits ms) → v.post.vcpu < vcpus v.post
ran_real v w [] r some = absurd (omega (arith, some))
ran_real v w (m ∷ ms) r some = subst (λ (q : Post). q.vcpu < vcpus q) (ran_post v r.0 ms r.1) r.2.moves.finds.real

took_real : (v w : PortValue) (f owner : ℕ) (want : PageType) (t : Taken) → TakesFound v w f owner want (Ok t) → v.post.vcpu < vcpus v.post
unfolding Does
took_real v w f owner want t found =
    let steps = found.2.steps in
    let all = ap (λ (ws : List Visit). length ws) steps.list ∙ length-append steps.after steps.before in
    let one = ap (λ (ws : List Visit). length ws) steps.first in
    ran_real v w found.0 found.1 (omega (arith, all, one))

pub type_short : (v w : PortValue) (f owner : ℕ) (want : PageType) (t : Taken) → TakesFound v w f owner want (Ok t) → IsShort v w 8
type_short v w f owner want t found =
    let few = does_most v w (λ vs. TypeBy v.post f owner want (Ok t) vs) (1 + (7 + 4 * vcpus v.post)) (type_most v.post f owner want (took_real v w f owner want t found) t) found in omega (arith, few)

pub moved_once : (v w : PortValue) (p : Place) (a : Act) (k : StepKind) (x : ℕ) → Moves v w p a k None x → length w.holdings.steps ≡ length v.holdings.steps + 1
moved_once v w p a k x m = moves_longer v w p a k None x m

-- ---- how a page is left
fixes_most : (f i : ℕ) (vs : List Visit) → FixesBy f i vs → length vs ≤ 2 * i
fixes_most f _ _ none = omega arith
fixes_most f _ _ (stands i x vs is rest) = let few = fixes_most f i vs rest in omega (arith, few)
fixes_most f _ _ (changes i x y old vs is off rest) = let few = fixes_most f i vs rest in omega (arith, few)

fixes_short : (v w : PortValue) (f i : ℕ) (e : Work) (rest : List Work) → Fixes v w f i e rest → length w.holdings.steps ≤ length v.holdings.steps + 2 * i
fixes_short v w f i e rest so = does_most v w (λ vs. FixesBy f i vs) (2 * i) (λ vs is. fixes_most f i vs is) so.visits

pub gave_short : (v w : PortValue) (f : ℕ) → GaveRef v w f → length w.holdings.steps ≤ length v.holdings.steps + 5
gave_short v w f gave = does_most v w (PutBy f) 5 (put_most f) gave.found

pub dies_most : (f : ℕ) (want : PageType) (marked : Bool) → IsAtMost (Dies f want marked) 2
dies_most f want marked vs a = then_most (Only _) (StoresKind f _) 1 1 (only_most _) (stores_most f _) vs a.1

validated_short : (v w : PortValue) (f : ℕ) (answer : Result (Unit {0}) Stop) → PageValidated v w f answer → length w.holdings.steps ≤ length v.holdings.steps + 1030
validated_short v w f _ (unfixed z e i word low so died) =
    let first = fixes_short v so.at f i e [] so.fixes in
    let look = moved_once so.at z _ _ _ word so.looks in
    let clock = moved_once z died.seen _ _ _ died.clock died.looks in
    let store = moved_once died.seen died.dead _ _ _ died.old died.stores in
    let back = gave_short died.dead w f died.gives in
    omega (arith, first, look, clock, store, back, low)
validated_short v w f _ (fixed z e old so store) =
    let first = fixes_short v z f 512 e [] so in
    let last = moved_once z w _ _ _ old store in
    omega (arith, first, last)

pub kept_short : (v w : PortValue) (f owner : ℕ) (k : KindWord) → KeptFor v w f k owner → length w.holdings.steps ≤ length v.holdings.steps + 4
kept_short v w f owner k (marks.own home left) = let one = moved_once v w _ _ _ left.0 left.1 in omega (arith, one)
kept_short v w f owner k (marks.alive u off left look) = let one = moved_once v u _ _ _ left.0 left.1 in let two = moved_once u w _ _ _ 0 look in omega (arith, one, two)
kept_short v w f owner k (marks.dying u x y life off left look dies back named) =
    let one = moved_once v u _ _ _ left.0 left.1 in
    let two = moved_once u x _ _ _ life look in
    let three = moved_once x y _ _ _ _ back in
    let four = moved_once y w _ _ _ 0 named in
    omega (arith, one, two, three, four)
kept_short v w f owner k (marks.taken u x life found off left look dies back other) =
    let one = moved_once v u _ _ _ left.0 left.1 in
    let two = moved_once u x _ _ _ life look in
    let three = moved_once x w _ _ _ found back in
    omega (arith, one, two, three)

left_short : (v w : PortValue) (f owner stamp : ℕ) (stop : Stop) → DescLeft v w f owner stamp stop → length w.holdings.steps ≤ length v.holdings.steps + 7
left_short v w f owner stamp (Refused x) left = does_most v w (λ vs. DeadBy f Desc vs) 7 (λ vs a. then_most (Dies f Desc true) (PutBy f) 2 5 (dies_most f Desc true) (put_most f) vs a) left
left_short v w f owner stamp (Paused x) left = let few = kept_short v w f owner _ left in omega (arith, few)

-- ---- the whole
pub took_short : (v w : PortValue) (f owner : ℕ) (answer : Result (Unit {0}) Stop) → TookDesc v f owner w answer → IsShort v w 1040
took_short v _ f owner _ (untyped y w stop took gave) =
    let first = does_most v y (λ vs. TypeBy v.post f owner Desc (Err stop) vs) 2 (untyped_most v.post f owner Desc stop) took.found in
    let last = gave_short y w f gave in
    omega (arith, first, last)
took_short v _ f owner _ (counted w took) = let few = type_short v w f owner Desc Counted took.found in omega (arith, few)
took_short v _ f owner _ (waiting y w stamp stop took left) =
    let first = type_short v y f owner Desc (Waiting true stamp stop) took.found in
    let last = left_short y w f owner stamp stop left in
    omega (arith, first, last)
took_short v _ f owner _ (read y w answer took validated) =
    let first = type_short v y f owner Desc (InWork 0 true) took.found in
    let last = validated_short y w f answer validated in
    omega (arith, first, last)

-- ---- the reference before it
pub got_most : (v w : PortValue) (f owner : ℕ) (answer : Result ℕ Stop) → GotRef v w f owner answer → length w.holdings.steps ≤ length v.holdings.steps + 2
got_most v w f owner answer got = does_most v w (λ vs. GetsBy v.post.machine f owner answer vs) 2 (gets_most v.post.machine f owner answer) got.found

pub unreferred_short : (v w : PortValue) (f owner : ℕ) (e : Stop) → GotRef v w f owner (Err e) → IsShort v w 1050
unreferred_short v w f owner e got = let few = got_most v w f owner (Err e) got in omega (arith, few)

pub referred_short : (v u w : PortValue) (f owner : ℕ) → u.post ≡ v.post → GotRef v u f owner (Ok f) → IsShort u w 1040 → IsShort v w 1050
referred_short v u w f owner same got more =
    let few = got_most v u f owner (Ok f) got in
    let alike = ap vcpus same in
    omega (arith, few, more, alike)

-- ---- by its calls it came to where it ends

validated_came : (v w : PortValue) (f : ℕ) (answer : Result (Unit {0}) Stop) → PageValidated v w f answer → Came v w
validated_came v w f _ (unfixed z e i word low so died) =
    came_trans v so.at w (does_came v so.at (λ vs. FixesBy f i vs) so.fixes.visits)
    (came_trans so.at z w (moves_came so.at z _ _ _ _ word so.looks)
    (came_trans z died.seen w (moves_came z died.seen _ _ _ _ died.clock died.looks) (came_trans died.seen died.dead w (moves_came died.seen died.dead _ _ _ _ died.old died.stores) (gave_came died.dead w f died.gives))))
validated_came v w f _ (fixed z e old so store) = came_trans v z w (does_came v z (λ vs. FixesBy f 512 vs) so.visits) (moves_came z w _ _ _ _ old store)

kept_came : (v w : PortValue) (f owner : ℕ) (k : KindWord) → KeptFor v w f k owner → Came v w
kept_came v w f owner k (marks.own home left) = moves_came v w _ _ _ _ left.0 left.1
kept_came v w f owner k (marks.alive u off left look) = came_trans v u w (moves_came v u _ _ _ _ left.0 left.1) (moves_came u w _ _ _ _ 0 look)
kept_came v w f owner k (marks.dying u x y life off left look dies back named) =
    came_trans v u w (moves_came v u _ _ _ _ left.0 left.1) (came_trans u x w (moves_came u x _ _ _ _ life look) (came_trans x y w (moves_came x y _ _ _ _ _ back) (moves_came y w _ _ _ _ 0 named)))
kept_came v w f owner k (marks.taken u x life found off left look dies back other) =
    came_trans v u w (moves_came v u _ _ _ _ left.0 left.1) (came_trans u x w (moves_came u x _ _ _ _ life look) (moves_came x w _ _ _ _ found back))

left_came : (v w : PortValue) (f owner stamp : ℕ) (stop : Stop) → DescLeft v w f owner stamp stop → Came v w
left_came v w f owner stamp (Refused x) left = does_came v w (λ vs. DeadBy f Desc vs) left
left_came v w f owner stamp (Paused x) left = kept_came v w f owner _ left

took_came : (v w : PortValue) (f owner : ℕ) (answer : Result (Unit {0}) Stop) → TookDesc v f owner w answer → Came v w
took_came v _ f owner _ (untyped y w stop took gave) = came_trans v y w (does_came v y (λ vs. TypeBy v.post f owner Desc (Err stop) vs) took.found) (gave_came y w f gave)
took_came v _ f owner _ (counted w took) = does_came v w (λ vs. TypeBy v.post f owner Desc (Ok Counted) vs) took.found
took_came v _ f owner _ (waiting y w stamp stop took left) = came_trans v y w (does_came v y (λ vs. TypeBy v.post f owner Desc (Ok (Waiting true stamp stop)) vs) took.found) (left_came y w f owner stamp stop left)
took_came v _ f owner _ (read y w answer took validated) = came_trans v y w (does_came v y (λ vs. TypeBy v.post f owner Desc (Ok (InWork 0 true)) vs) took.found) (validated_came y w f answer validated)

pub got_came : (v w : PortValue) (f owner : ℕ) (answer : Result ℕ Stop) → GotDesc v f owner w answer → Came v w
got_came v _ f owner _ (unreferred w e got) = ref_came v w f owner (Err e) got
got_came v _ f owner _ (untaken u w e got took) = came_trans v u w (ref_came v u f owner (Ok f) got) (took_came u w f owner (Err e) took)
got_came v _ f owner _ (had u w got took) = came_trans v u w (ref_came v u f owner (Ok f) got) (took_came u w f owner (Ok tt) took)

pub got_short : (v w : PortValue) (f owner : ℕ) (answer : Result ℕ Stop) → GotDesc v f owner w answer → IsShort v w 1050
got_short v _ f owner _ (unreferred w e got) = unreferred_short v w f owner e got
got_short v _ f owner _ (untaken u w e got took) = referred_short v u w f owner (came_post v u (ref_came v u f owner (Ok f) got)) got (took_short u w f owner (Err e) took)
got_short v _ f owner _ (had u w got took) = referred_short v u w f owner (came_post v u (ref_came v u f owner (Ok f) got)) got (took_short u w f owner (Ok tt) took)
