-- The outermost table in work stays the same one until it is done with.
use Rattle.std.proofs.Common.{◌≡◌, ℕ, Bool, List, [], ◌∷◌, Result}
use Rattle.xp_words.specs.declared.reply.Stop.{Stop}
use Rattle.xp_board.specs.Told.{PortValue}
use Rattle.partial_state.specs.declared.stack.TableWork.{TableWork}
use Rattle.table_entries.specs.Acquiring.{Advanced, Filled, TookOn, Worked, asked, begun, completed, cut_off, due, filled, fresh, one_entry_more, opened, recorded, settled, stopped, taken, unasked, unsettled, waiting}

-- frame f, of that level, is the last of these tables
abbrev pub IsOutermost : ℕ → ℕ → List TableWork → Type 0
IsOutermost f level [] = ⊥
IsOutermost f level (t ∷ []) = (t.frame ≡ f) × (t.level ≡ level)
IsOutermost f level (t ∷ o ∷ ts) = IsOutermost f level (o ∷ ts)

one_more_outermost : (f level : ℕ) (t : TableWork) (ts : List TableWork) → IsOutermost f level (t ∷ ts) → IsOutermost f level (one_entry_more t ∷ ts)
one_more_outermost f level t [] is = is
one_more_outermost f level t (o ∷ ts) is = is

module _ (owner f level : ℕ) where
  pub on_outermost : (v : PortValue) (ts : List TableWork) (w : PortValue) (us : List TableWork) (r : Result Bool Stop) → TookOn owner v ts w us r → IsOutermost f level ts → IsOutermost f level us
  on_outermost _ _ _ _ _ (fresh v t ts none) is = is
  on_outermost _ _ _ _ _ (settled v w t ts some a) is = is
  on_outermost _ _ _ _ _ (taken v u w t ts g some a b) is = is
  on_outermost _ _ _ _ _ (opened v u w t ts us g progress answer some a b) is = on_outermost u _ w us answer b is
  on_outermost _ _ _ _ _ (waiting v u w t ts g stamp stop some a b) is = is
  on_outermost _ _ _ _ _ (stopped v w t ts stop some a) is = is

  advanced_outermost : (v : PortValue) (ts : List TableWork) (w : PortValue) (us : List TableWork) (r : Result Bool Stop) → Advanced owner v ts w us r → IsOutermost f level ts → IsOutermost f level us
  advanced_outermost _ _ _ _ _ (recorded v w t ts few a) is = one_more_outermost f level t ts is
  advanced_outermost _ _ _ _ _ (opened v u w t ts us g progress own done few a b) is = on_outermost u _ w us _ b (one_more_outermost f level t ts is)
  advanced_outermost _ _ _ _ _ (cut_off v u w t ts us g progress own stop few a b) is = on_outermost u _ w us _ b (one_more_outermost f level t ts is)
  advanced_outermost _ _ _ _ _ (unsettled v w t ts stop few a) is = one_more_outermost f level t ts is
  advanced_outermost _ _ _ _ _ (stopped v w t ts stop few a) is = is
  advanced_outermost _ _ _ _ _ (completed v u w t outer ts full a b) is = is

  filled_outermost : (v : PortValue) (ts : List TableWork) (first : List Bool) (w : PortValue) (us : List TableWork) (answers : List Bool) (r : Result (Unit {0}) Stop) → Filled owner v ts first w us answers r → IsOutermost f level ts → IsOutermost f level us
  filled_outermost v ts first _ _ _ _ begun is = is
  filled_outermost v ts first _ _ _ _ (unasked u w us xs done answers before step off) is = advanced_outermost u us w xs _ step (filled_outermost v ts first u us answers _ before is)
  filled_outermost v ts first _ _ _ _ (asked u w us xs answers before step on) is = advanced_outermost u us w xs _ step (filled_outermost v ts first u us answers _ before is)
  filled_outermost v ts first _ _ _ _ (due u w us xs answers before step on) is = advanced_outermost u us w xs _ step (filled_outermost v ts first u us answers _ before is)
  filled_outermost v ts first _ _ _ _ (stopped u w us xs answers stop before step) is = advanced_outermost u us w xs _ step (filled_outermost v ts first u us answers _ before is)

  pub worked_outermost : (v : PortValue) (t : TableWork) (w : PortValue) (us : List TableWork) (answers : List Bool) (r : Result (Unit {0}) Stop) → Worked owner v t w us answers r → (t.frame ≡ f) × (t.level ≡ level) → IsOutermost f level us
  worked_outermost v t _ _ _ _ (cut_off w us stop a) is = on_outermost v (t ∷ []) w us _ a is
  worked_outermost v t _ _ _ _ (due w us a on) is = on_outermost v (t ∷ []) w us _ a is
  worked_outermost v t _ _ _ _ (filled u w us xs done answers answer a b) is = filled_outermost u us _ w xs answers answer b (on_outermost v (t ∷ []) u us _ a is)
