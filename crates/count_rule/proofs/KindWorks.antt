-- Works whose frames are not the one that moves keep their references.
use Rattle.std.proofs.Common.{◌≡◌, ◌≢◌, ℕ, ◌≤◌, List, ◌∷◌, sym, subst, arith}
use Rattle.xp_board.specs.declared.holdings.Holdings.{Holdings}
use Rattle.xp_board.specs.declared.holdings.Work.{Work}
use Rattle.xp_board.specs.Lists.{EachOf}
use Rattle.xp_board.specs.Hands.{refs_to, works_on, without_work}
use Rattle.xp_board.specs.Sound.{WorkAgrees}
use Rattle.xp_board.proofs.ListCounts.{EachOf-both, EachOf-apart, times_by-without_one}
use Rattle.xp_board.proofs.HandLists.{EachOf-map, EachOf-without}

module _ (f : ℕ) (u v : Holdings) (refs : (g : ℕ) → g ≢ f → refs_to g v.refs ≡ refs_to g u.refs) where
  apart_agrees : (xs : List Work) → works_on f xs ≡ 0 → EachOf (WorkAgrees u) xs → EachOf (WorkAgrees v) xs
  apart_agrees xs none old =
      EachOf-map (λ e. (e.frame ≢ f) × WorkAgrees u e) (WorkAgrees v) xs
      (λ e k. record { marked = k.1.marked; closing = λ t. let r = refs e.frame k.0 in let p = k.1.closing t in omega arith })
      (EachOf-both (λ e. e.frame ≢ f) (WorkAgrees u) xs (EachOf-apart (λ e. e.frame) f xs none) old)

  -- none of them is of that frame
  pub works_apart : v.works ≡ u.works → works_on f u.works ≡ 0 → EachOf (WorkAgrees u) u.works → EachOf (WorkAgrees v) v.works
  works_apart e none old = subst (λ y. EachOf (WorkAgrees v) y) (sym e) (apart_agrees u.works none old)

  -- one comes in
  pub works_in : (x : Work) → v.works ≡ x ∷ u.works → works_on f u.works ≡ 0 → WorkAgrees v x → EachOf (WorkAgrees u) u.works → EachOf (WorkAgrees v) v.works
  unfolding EachOf
  works_in x e none here old = let all : EachOf (WorkAgrees v) (x ∷ u.works) = (here, apart_agrees u.works none old) in subst (λ y. EachOf (WorkAgrees v) y) (sym e) all

  -- that one goes out
  pub works_out : v.works ≡ without_work f u.works → works_on f u.works ≤ 1 → EachOf (WorkAgrees u) u.works → EachOf (WorkAgrees v) v.works
  works_out e few old =
      subst (λ y. EachOf (WorkAgrees v) y) (sym e)
      (apart_agrees (without_work f u.works) (times_by-without_one (λ y. y.frame) f u.works few) (EachOf-without (WorkAgrees u) (λ y. y.frame) f u.works old))
