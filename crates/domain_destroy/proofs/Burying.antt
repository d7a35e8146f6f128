-- A destruction that stops, and one that buries the domain.
use Rattle.std.proofs.Common.{◌≡◌, ℕ, ◌+◌, ◌≤◌, ◌==◌, ◌&&◌, ◌||◌, nat_le, nat_lt, Bool, true, IsTrue, List, [], ◌∷◌, ◌++◌, length, None, Ok, Err, refl, sym, subst, inl, inr, arith}
use Rattle.std.proofs.lemmas.Bool.{and_parts}
use Rattle.std.proofs.lemmas.Bool.Decides.{nat_tests}
use Rattle.std.proofs.lemmas.List.Elements.{All-cons, All-nil}
use Rattle.xp_words.specs.Machine.{Machine}
use Rattle.xp_words.specs.Places.{Sizes, sizes_of}
use Rattle.xp_words.specs.declared.place.Place.{Place}
use Rattle.xp_words.specs.declared.place.Place.TheVariants.{Life}
use Rattle.xp_words.specs.declared.reply.LogLine.{LogLine}
use Rattle.xp_words.specs.declared.reply.Stop.{Stop}
use Rattle.xp_words.proofs.PlaceLaws.{place_back}
use Rattle.xp_board.specs.LifeSteps.{MayBury}
use Rattle.xp_board.specs.Runs.{place_of}
use Rattle.xp_board.specs.Steps.{is_at, left_of, some_before, some_since, some_step}
use Rattle.xp_board.specs.Told.{Post, PortValue}
use Rattle.xp_board.specs.declared.holdings.Holdings.{Holdings}
use Rattle.xp_board.specs.declared.holdings.Made.{Made}
use Rattle.xp_board.specs.declared.step.Act.TheVariants.{Store}
use Rattle.xp_board.specs.declared.step.StepKind.TheVariants as kinds
use Rattle.xp_board.proofs.StepLists.{head_or_tail, one_more}
use Rattle.step_maker.specs.Answers.{SetsLife}
use Rattle.step_maker.specs.Holds.{Same}
use Rattle.step_maker.specs.Moves.{Came, Moves, step_at}
use Rattle.step_maker.proofs.Coming.{came_post}
use Rattle.step_maker.proofs.Noting.{made_now, moves_steps}
use Rattle.step_maker.proofs.Piecing.{moves_serves}
use Rattle.step_maker.proofs.Resting.{same_rests}
use Rattle.flush_words.proofs.Lasting.{came_longer}
use Rattle.domain_destroy.specs.Asking.{IsDestroyDeed, ServesDestroy, of_domain}
use Rattle.domain_destroy.specs.Coming.{FoundListed, HasComeTo}
use Rattle.domain_destroy.specs.Course as course
use Rattle.domain_destroy.specs.Course.{Destroys, GoesOn, LeftFrame, left_lines}
use Rattle.domain_destroy.specs.Destroying.{Buries, DomainDestroyed, ListsAll, PartWent, PhaseWent}
use Rattle.domain_destroy.specs.declared.place.DestroyAt.{DestroyAt}
use Rattle.domain_destroy.specs.declared.place.DestroyAt.TheVariants.{Lists}
use Rattle.domain_destroy.proofs.Opening.{has_listed, may_bury}
use Rattle.domain_destroy.proofs.Parts.{destroy_came, goes_on_then, same_settled, serves_destroy_then, settled_then, went_then}

-- ---- all frames are listed
listed_full : (n : Machine) (s d k since : ℕ) (h : Holdings) (op : ℕ) (log : List LogLine) → n.frames ≤ k → FoundListed n s d k since h op log → FoundListed n s d n.frames since h op log
listed_full n s d k since h op log all y = record { unused = y.unused; listed = λ f l real. y.listed f (omega (arith, all, l)) real }

-- to a place behind the last frame
abbrev pub IsPastAll : PortValue → DestroyAt → ℕ → Type 0
IsPastAll v to left = (frame : ℕ) × (to ≡ Lists frame left) × (v.post.machine.frames ≤ frame)

all_listed : (x : PortValue) (d op : ℕ) (to : DestroyAt) (log : List LogLine) (left : ℕ) → IsPastAll x to left → HasComeTo x d to op log → (since : ℕ) × FoundListed x.post.machine x.post.vcpu d x.post.machine.frames since x.holdings op log
all_listed x d op to log left past come =
    let there : HasComeTo x d (Lists past.0 left) op log = subst (λ (t : DestroyAt). HasComeTo x d t op log) past.1 come in
    (there.knows.0, listed_full x.post.machine x.post.vcpu d past.0 there.knows.0 x.holdings op log past.2 there.knows.1)

pub may_bury_all : (x : PortValue) (d op : ℕ) (to : DestroyAt) (log : List LogLine) (left : ℕ) → IsPastAll x to left → HasComeTo x d to op log → MayBury x.post.machine x.post.vcpu d 255 x.holdings
may_bury_all x d op to log left past come =
    let all = all_listed x d op to log left past come in
    may_bury x.post.machine x.post.vcpu d all.0 x.holdings op log all.1

-- ---- the last step
both_true : (a b : Bool) → a ≡ true → b ≡ true → IsTrue (a && b)
both_true a b x y = rw (x, y) refl

from_first : (k : ℕ) → nat_le 0 k ≡ true
from_first k = grind (arith, nat_tests)

or_first : (a b : Bool) → IsTrue a → IsTrue (a || b)
or_first a b x = rw x refl

-- a step below a number is one of all
pub before_since : (z : Sizes) (n : ℕ) (p : Place) (test : ℕ → Bool) (xs : List Made) → IsTrue (some_before z n p test xs) → IsTrue (some_since z 0 p test xs)
unfolding some_step
before_since z n p test [] h = absurd (cc)
before_since z n p test (x ∷ xs) h =
    elim (head_or_tail (λ k y. nat_lt k n && (is_at z p y && test (left_of y))) x xs h) [
      | inl here ↦
          (let a = and_parts (nat_lt (length xs) n) (is_at z p x && test (left_of x)) here in
          or_first (nat_le 0 (length xs) && (is_at z p x && test (left_of x))) (some_since z 0 p test xs) (both_true (nat_le 0 (length xs)) (is_at z p x && test (left_of x)) (from_first (length xs)) a.1))
      | inr there ↦ one_more (λ k y. nat_le 0 k && (is_at z p y && test (left_of y))) x xs (before_since z n p test xs there)
    ]

bury_serves : (x w : PortValue) (d left found : ℕ) → Moves x w (Life d) (Store 255) kinds.Life None found → ServesDestroy x w d (Ok left)
bury_serves x w d left found m =
    record {
      deeds = SetsLife d 255 ∷ [];
      are = All-cons (IsDestroyDeed x.post.machine d) (SetsLife d 255) [] refl (All-nil (IsDestroyDeed x.post.machine d));
      serves = λ rose rises. moves_serves x w (of_domain x.post.machine d rose) (Life d) (Store 255) kinds.Life None found m refl;
    }

pub buries : (v x w : PortValue) (d op : ℕ) (to : DestroyAt) (log : List LogLine) (left found : ℕ) → Came v x → IsPastAll x to left → HasComeTo x d to op log → Moves x w (Life d) (Store 255) kinds.Life None found → Buries v w d op log left
buries v x w d op to log left found came past come m =
    let same : x.post ≡ v.post = came_post v x came in
    let all = all_listed x d op to log left past come in
    let there : HasComeTo x d (Lists past.0 left) op log = subst (λ (t : DestroyAt). HasComeTo x d t op log) past.1 come in
    let found_all : FoundListed v.post.machine v.post.vcpu d v.post.machine.frames all.0 x.holdings op log =
    subst (λ (p : Post). FoundListed p.machine p.vcpu d p.machine.frames all.0 x.holdings op log) same all.1 in
    let listed = has_listed v.post.machine v.post.vcpu d all.0 x.holdings op log found_all in
    let step = made_now (step_at x.post.machine (Life d) (Store 255) kinds.Life None) found in
    record {
      buried = record {
        before = x.holdings.steps;
        step = step;
        after = [];
        steps = moves_steps x w (Life d) (Store 255) kinds.Life None found m;
        made = omega arith;
        place = subst (λ (p : Post). place_of p.machine step.step ≡ Life d) same (place_back (sizes_of x.post.machine) (Life d) m.may.place);
        act = refl;
        doomed = before_since (sizes_of v.post.machine) listed.stopped.since (Life d) (λ w. w == v.post.vcpu + 1) x.holdings.steps listed.stopped.stored;
        then = x.holdings;
        then_is = refl;
        listed = listed;
      };
      now = came_longer v x came;
      since = all.0;
      found = found_all;
      value = sym there.counts;
    }

-- ---- all of it
pub destroy_stops : (v w : PortValue) (d op : ℕ) (at to : DestroyAt) (log log' : List LogLine) (answers : List Bool) (e : Stop) (more : List LeftFrame) → PartWent {A = Unit {0}} v w d (GoesOn d v at w to more answers (Err e)) (Err e) →
    log' ≡ log ++ left_lines op more → HasComeTo w d to op log' → DomainDestroyed v w d op at to log log' answers (Err e)
destroy_stops v w d op at to log log' answers e more part lines come =
    record {
      rests = part.rests;
      hand = part.hand;
      serves = record { deeds = part.serves.deeds; are = part.serves.are; serves = part.serves.serves };
      stops = part.stops;
      kinds = part.kinds;
      more = more;
      course = course.Destroys.stops w to more answers e part.course;
      lines = lines;
      come = come;
      buried = tt;
    }

-- as the frames are listed
pub lists_stops : (v u w : PortValue) (d op : ℕ) (at by to : DestroyAt) (log log' : List LogLine) (answers : List Bool) (e : Stop) → PhaseWent v u d at by [] answers (Ok tt) → ListsAll d op u by log w to log' (Err e) →
    HasComeTo w d to op log' → DomainDestroyed v w d op at to log log' answers (Err e)
lists_stops v u w d op at by to log log' answers e first lists come =
    let goes : GoesOn d v at w to lists.more answers (Err e) = goes_on_then d v at u by [] answers first.course w to lists.more [] (Err e) lists.part.course in
    let part = went_then v u w d tt (Err e) first lists.part goes in
    record {
      rests = part.rests;
      hand = part.hand;
      serves = part.serves;
      stops = part.stops;
      kinds = part.kinds;
      more = lists.more;
      course = course.Destroys.stops w to lists.more answers e goes;
      lines = lists.lines;
      come = come;
      buried = tt;
    }

pub destroy_ends : (v u x w : PortValue) (d op : ℕ) (at by to : DestroyAt) (log log' : List LogLine) (answers : List Bool) (left found : ℕ) → PhaseWent v u d at by [] answers (Ok tt) → ListsAll d op u by log x to log' (Ok left) → IsPastAll x to left →
    HasComeTo x d to op log' → Moves x w (Life d) (Store 255) kinds.Life None found → Same x w → DomainDestroyed v w d op at to log log' answers (Ok left)
destroy_ends v u x w d op at by to log log' answers left found first lists past come m same =
    let goes : GoesOn d v at x to lists.more answers (Ok tt) = goes_on_then d v at u by [] answers first.course x to lists.more [] (Ok tt) lists.part.course in
    let part = went_then v u x d tt (Ok left) first lists.part goes in
    let there : GoesOn d v at x (Lists past.0 left) lists.more answers (Ok tt) = subst (λ (t : DestroyAt). GoesOn d v at x t lists.more answers (Ok tt)) past.1 goes in
    record {
      rests = same_rests x w part.rests same;
      hand = settled_then v x w part.hand (same_settled x w same);
      serves = serves_destroy_then v x w d left (Ok left) part.serves (bury_serves x w d left found m);
      stops = tt;
      kinds = tt;
      more = lists.more;
      course = subst (λ (t : DestroyAt). Destroys d v at w t lists.more answers (Ok left)) (sym past.1) (course.Destroys.buries x w past.0 left found lists.more answers there past.2 m);
      lines = lists.lines;
      come = tt;
      buried = buries v x w d op to log' left found (destroy_came v x d (Ok left) part.serves) past come m;
    }
