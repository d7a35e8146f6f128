-- Clock values that are found once more are no lower than any vCPU's flush.
use Rattle.std.proofs.Common.{◌≡◌, ℕ, ◌+◌, ◌≤◌, ◌∷◌, length, sym, ap, subst, arith}
use Rattle.xp_words.specs.declared.place.Place.TheVariants.{Clock}
use Rattle.xp_words.specs.Places.{Sizes, place_at}
use Rattle.xp_board.specs.declared.step.Step.{Step}
use Rattle.xp_board.specs.declared.holdings.Made.{Made}
use Rattle.xp_board.specs.declared.holdings.Holdings.{Holdings}
use Rattle.xp_board.specs.Steps.{left_of, EachSince}
use Rattle.xp_board.specs.After.{noted}
use Rattle.xp_board.specs.Reach.{Use}
use Rattle.xp_board.specs.Fresh.{Awaited}
use Rattle.xp_board.proofs.HandLists.{EachOf-map}
use Rattle.stale_rule.proofs.Like.{HandLike}
use Rattle.xp_board.proofs.MoreSteps.{EachSince-more, EachSince-none}

-- the hand after a mark, which makes no step
pub awaited_same : (z : Sizes) (flushed g : ℕ) (u : Use) (a b : Holdings) → HandLike a b → Awaited z flushed g u a → Awaited z flushed g u b
awaited_same z flushed g u a b like old =
    let P : ℕ → ℕ → Type 0 = λ f since. f ≡ g → EachSince z since Clock (λ w. flushed ≤ w) b.steps in
    let same : (since : ℕ) → EachSince z since Clock (λ w. flushed ≤ w) a.steps → EachSince z since Clock (λ w. flushed ≤ w) b.steps =
    λ since e. subst (λ ys. EachSince z since Clock (λ w. flushed ≤ w) ys) (sym like.steps) e in
    let first : (f : ℕ) → P f (length a.steps + 1) =
    λ f e. EachSince-none z (length a.steps + 1) Clock (λ w. flushed ≤ w) b.steps (let l = ap (λ ys. length ys) like.steps in omega arith) in
    record {
      ending = like.ending P first (EachOf-map _ _ a.ending (λ e k at. same e.since (k at)) old.ending);
      work = λ n. like.works P first (EachOf-map _ _ a.works (λ e k at. same e.since (k at)) (old.work n));
    }

-- the hand after an act
pub awaited_more : (z : Sizes) (flushed g : ℕ) (u : Use) (x : Step) (found : ℕ) (a b : Holdings) → HandLike a b →
    (place_at z x.place ≡ Clock → (flushed ≤ found) × (flushed ≤ left_of (record { step = x; found = found }))) →
    Awaited z flushed g u a → Awaited z flushed g u (noted x found b)
awaited_more z flushed g u x found a b like new old =
    let y : Made = record { step = x; found = found } in
    let P : ℕ → ℕ → Type 0 = λ f since. f ≡ g → EachSince z since Clock (λ w. flushed ≤ w) (y ∷ b.steps) in
    let more : (since : ℕ) → EachSince z since Clock (λ w. flushed ≤ w) a.steps → EachSince z since Clock (λ w. flushed ≤ w) (y ∷ b.steps) =
    λ since e. EachSince-more z since Clock (λ w. flushed ≤ w) y b.steps new (subst (λ ys. EachSince z since Clock (λ w. flushed ≤ w) ys) (sym like.steps) e) in
    let first : (f : ℕ) → P f (length a.steps + 1) =
    λ f e. EachSince-none z (length a.steps + 1) Clock (λ w. flushed ≤ w) (y ∷ b.steps) (let l = ap (λ ys. length ys) like.steps in omega arith) in
    record {
      ending = like.ending P first (EachOf-map _ _ a.ending (λ e k at. more e.since (k at)) old.ending);
      work = λ n. like.works P first (EachOf-map _ _ a.works (λ e k at. more e.since (k at)) (old.work n));
    }
