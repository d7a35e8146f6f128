-- What each visit of a list is, in the pieces of the list.
use Rattle.std.proofs.Common.{List, [], ◌∷◌, ◌++◌, subst}
use Rattle.xp_board.specs.Lists.{EachOf}
use Rattle.step_maker.specs.Visits.{Only, Then, Visit}

module _ (Q : Visit → Type 0) where
  pub each_before : (xs ys : List Visit) → EachOf Q (ys ++ xs) → EachOf Q xs
  unfolding EachOf
  each_before xs [] each = each
  each_before xs (y ∷ ys) each = each_before xs ys each.1

  pub each_after : (xs ys : List Visit) → EachOf Q (ys ++ xs) → EachOf Q ys
  unfolding EachOf
  each_after xs [] each = tt
  each_after xs (y ∷ ys) each = (each.0, each_after xs ys each.1)

  module _ {A B : List Visit → Type 0} {vs : List Visit} (both : Then A B vs) (each : EachOf Q vs) where
    pub each_first : EachOf Q both.before
    each_first = each_before both.before both.after (subst (λ xs. EachOf Q xs) both.list each)

    pub each_next : EachOf Q both.after
    each_next = each_after both.before both.after (subst (λ xs. EachOf Q xs) both.list each)

  only_is : (s : Visit) (vs : List Visit) → Only s vs → EachOf Q vs → Q s
  unfolding EachOf
  only_is s vs one each = (subst (λ xs. EachOf Q xs) one each).0

  pub first_is : (s : Visit) (B : List Visit → Type 0) (vs : List Visit) → Then (Only s) B vs → EachOf Q vs → Q s
  first_is s B vs both each = only_is s both.before both.first (each_first both each)
