-- Each phase opens the next.
use Rattle.std.proofs.Common.{◌≡◌, ℕ, ◌+◌, ◌≤◌, ◌==◌, ◌&&◌, nat_le, nat_lt, Bool, true, List, [], ◌∷◌, length, IsTrue, refl, inl, inr, arith}
use Rattle.std.proofs.lemmas.Bool.{and_parts}
use Rattle.std.proofs.lemmas.Bool.Decides.{nat_tests}
use Rattle.xp_words.specs.Machine.{Machine}
use Rattle.xp_words.specs.declared.place.Place.{Place}
use Rattle.xp_words.specs.Places.{Sizes, run_of, sizes_of}
use Rattle.xp_words.specs.declared.reply.LogLine.{LogLine}
use Rattle.xp_board.specs.LifeSteps.{MayBury}
use Rattle.xp_board.specs.Steps.{is_at, left_of, some_between, some_since, some_step}
use Rattle.xp_board.specs.declared.holdings.Holdings.{Holdings}
use Rattle.xp_board.specs.declared.holdings.Made.{Made}
use Rattle.xp_board.proofs.StepLists.{between_wider, head_or_tail, one_more}
use Rattle.dead_domains.specs.Listing.{HasListed}
use Rattle.domain_destroy.specs.Coming.{FoundCleared, FoundEmpty, FoundListed, FoundStopped, FoundUnused}

below_next : (k : ℕ) → nat_lt k (k + 1) ≡ true
below_next k = grind (arith, nat_tests)

all_of : (a b c : Bool) → a ≡ true → b ≡ true → c ≡ true → IsTrue ((a && b) && c)
all_of a b c x y z = rw (x, y, z) refl

-- a step from a number on is one below the number of all
pub since_between : (z : Sizes) (n : ℕ) (p : Place) (test : ℕ → Bool) (xs : List Made) → IsTrue (some_since z n p test xs) → IsTrue (some_between z n (length xs) p test xs)
unfolding some_step
since_between z n p test [] h = absurd (cc)
since_between z n p test (x ∷ xs) h =
    elim (head_or_tail (λ k y. nat_le n k && (is_at z p y && test (left_of y))) x xs h) [
      | inl here ↦
          (let a = and_parts (nat_le n (length xs)) (is_at z p x && test (left_of x)) here in
          let l : nat_lt (length xs) (length (x ∷ xs)) ≡ true = grind (arith, nat_tests) in
          rw (a.0, l, a.1) refl)
      | inr there ↦
          one_more (λ k y. (nat_le n k && nat_lt k (length (x ∷ xs))) && (is_at z p y && test (left_of y))) x xs
          (between_wider z n (length xs) (length (x ∷ xs)) p test xs (omega arith) (since_between z n p test xs there))
    ]

pub opens_empty : (n : Machine) (s d k : ℕ) (h : Holdings) → FoundStopped n s d k h → length n.vcpu_domain ≤ k → FoundEmpty n s d 0 h
opens_empty n s d k h y all =
    record {
      foreign = y.doomed.foreign;
      since = length h.steps;
      stopped = record {
        since = y.since;
        stored = y.doomed.stored;
        stopped = λ v real of. since_between (sizes_of n) y.since (run_of v) (λ w. w == 1) h.steps (y.stopped v (omega arith) real of);
        order = y.doomed.order;
      };
      order = omega arith;
      empty = λ v j l real of inside context. absurd (omega arith);
    }

pub opens_cleared : (n : Machine) (s d k : ℕ) (h : Holdings) → FoundEmpty n s d k h → length n.vcpu_domain ≤ k → FoundCleared n s d 0 (length h.steps) h
opens_cleared n s d k h y all =
    record {
      foreign = y.foreign;
      emptied = record {
        since = y.since;
        stopped = y.stopped;
        empty = λ v j real of inside context. since_between (sizes_of n) y.since _ (λ w. w == 0) h.steps (y.empty v j (omega arith) real of inside context);
        order = y.order;
      };
      order = omega arith;
      cleared = λ f l real. absurd (omega arith);
    }

pub opens_listed : (n : Machine) (s d since : ℕ) (h : Holdings) (op : ℕ) (log : List LogLine) → FoundUnused n s d since h → FoundListed n s d 0 since h op log
opens_listed n s d since h op log y = record { unused = y; listed = λ f l real. absurd (omega arith) }

pub may_bury : (n : Machine) (s d since : ℕ) (h : Holdings) (op : ℕ) (log : List LogLine) → FoundListed n s d n.frames since h op log → MayBury n s d 255 h
may_bury n s d since h op log y =
    record { dead = refl; since = since; emptied = y.unused.cleared.emptied; frames = λ f real. y.unused.cleared.cleared f real real }

pub has_listed : (n : Machine) (s d since : ℕ) (h : Holdings) (op : ℕ) (log : List LogLine) → FoundListed n s d n.frames since h op log → HasListed n s d h op log
has_listed n s d since h op log y =
    let e = y.unused.cleared.emptied in
    let t = e.stopped in
    let o = e.order in
    let p = t.order in
    record {
      since = since;
      stopped = record {
        since = t.since;
        stored = t.stored;
        stopped = λ v real of. between_wider (sizes_of n) t.since e.since since (run_of v) (λ w. w == 1) h.steps o (t.stopped v real of);
        order = omega arith;
      };
      frames = λ f real. y.listed f real real;
    }
