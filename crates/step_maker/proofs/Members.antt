-- What is in one list is in that list with others beside it.
use Rattle.std.proofs.Common.{List, [], ◌∷◌, ◌++◌, inl, inr}
use Rattle.xp_board.specs.Lists.{Member}

pub in_left : {A : Type 0} (x : A) (xs ys : List A) → Member x xs → Member x (xs ++ ys)
unfolding Member
in_left x [] ys at = absurd at
in_left x (y ∷ xs) ys (inl e) = inl e
in_left x (y ∷ xs) ys (inr at) = inr (in_left x xs ys at)

pub in_right : {A : Type 0} (x : A) (xs ys : List A) → Member x ys → Member x (xs ++ ys)
unfolding Member
in_right x [] ys at = at
in_right x (y ∷ xs) ys at = inr (in_right x xs ys at)
