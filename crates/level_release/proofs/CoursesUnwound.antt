-- The tables are left, one after the other: what the loop keeps.
use Rattle.std.proofs.Common.{◌≡◌, List, [], ◌∷◌, refl, sym, subst}
use Rattle.xp_board.specs.Told.{PortValue}
use Rattle.partial_state.specs.declared.stack.TableWork.{TableWork}
use Rattle.level_release.specs.Course.{LeftInside, UnwoundDown}

-- of the tables ts these are left to do, us: what leaves us leaves ts behind the steps
pub record Unwinding (u w : PortValue) (ts us : List TableWork) : Type 0 where
  pub course : (x : PortValue) → UnwoundDown w us x → UnwoundDown u ts x

pub unwinding_begins : {u : PortValue} {ts : List TableWork} → Unwinding u u ts ts
unwinding_begins {u} {ts} = record { course = λ x a. a }

-- the outermost one is left
pub unwinding_ends : {u v w : PortValue} {t : TableWork} {ts : List TableWork} → Unwinding u v ts (t ∷ []) → UnwoundDown v (t ∷ []) w → Unwinding u w ts []
unwinding_ends {u} {v} {w} {t} {ts} i course =
    record {
      course = λ x same. i.course x (subst (λ y. UnwoundDown v (t ∷ []) y) (sym same) course);
    }

-- one inside another
inside_first : (v w : PortValue) (t : TableWork) (us rs : List TableWork) → LeftInside v t us w rs → (x : PortValue) → UnwoundDown w rs x → UnwoundDown v (t ∷ us) x
inside_first v w t [] rs left x more = absurd left
inside_first v w t (outer ∷ us) rs left x more = (w, (refl, left.1), subst (λ ys. UnwoundDown w ys x) left.0 more)

pub unwinding_on : {u v w : PortValue} {t : TableWork} {ts us rs : List TableWork} → Unwinding u v ts (t ∷ us) → LeftInside v t us w rs → Unwinding u w ts rs
unwinding_on {u} {v} {w} {t} {ts} {us} {rs} i course =
    record { course = λ x more. i.course x (inside_first v w t us rs course x more) }

-- none is left to do
pub unwinding_done : {u w : PortValue} {ts us : List TableWork} → Unwinding u w ts us → us ≡ [] → UnwoundDown u ts w
unwinding_done {u} {w} {ts} i none = let j = subst (λ xs. Unwinding u w ts xs) none i in j.course w refl
