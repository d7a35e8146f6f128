-- Tables are emptied until none is left: from u on, of the tables ts, these are left to empty.
use Rattle.std.proofs.Common.{◌≡◌, ◌≢◌, ℕ, Option, Result, Ok, IfErr, Bool, List, [], ◌∷◌, refl, sym, ap, ◌∙◌, subst}
use Rattle.xp_board.specs.Told.{PortValue}
use Rattle.xp_board.specs.declared.holdings.Holdings.{Holdings}
use Rattle.step_maker.specs.Holds.{MayWork}
use Rattle.step_maker.specs.Moves.{Came}
use Rattle.step_maker.proofs.Coming.{came_post, came_self, came_trans}
use Rattle.partial_state.specs.declared.stack.TableWork.{TableWork}
use Rattle.table_releases.specs.Tops.{IsSettledTop}
use Rattle.xp_words.specs.declared.reply.Pause.TheVariants.{Due}
use Rattle.xp_words.specs.declared.reply.Stop.{Stop}
use Rattle.xp_words.specs.declared.reply.Stop.TheVariants.{Paused}
use Rattle.level_release.specs.Course.{RanDown}
use Rattle.level_release.specs.Course as course
use Rattle.level_release.proofs.HandsLowered.{Lowers, lowers}
use Rattle.level_release.specs.Holding.{Empties, HoldsNow, IsReleasing, LeavesNamed, MayUnwind, StaysEmptying, named_hand, outermost_frame}
use Rattle.level_release.proofs.Hands.{hands_may, hands_none, hands_old}

pub record RunningDown (u w : PortValue) (ts us : List TableWork) (answer : Result (Unit {0}) Stop) : Type 0 where
  pub came : Came u w
  pub stands : StaysEmptying u w ts us
  pub outer : us ≢ [] → outermost_frame us ≡ outermost_frame ts
  -- where nothing was noted as unsettled, only the gate stops it
  pub settled : IsReleasing u ts → IsSettledTop u.holdings → IfErr answer (λ e. e ≡ Paused Due) × IsSettledTop w.holdings

module _ {u v w : PortValue} {ts us xs : List TableWork} {done : Result Bool Stop} (i : RunningDown u v ts us (Ok tt)) (l : Lowers v w us xs done) where
  running_on : {answer : Result (Unit {0}) Stop} → (IfErr done (λ e. ⊥) → IfErr answer (λ e. e ≡ Paused Due)) → RunningDown u w ts xs answer
  running_on ends =
      record {
        came = came_trans u v w i.came l.came;
        stands = λ h s. l.stands h (i.stands h s);
        outer = λ more. l.outer more ∙ i.outer l.some;
        settled = λ is s. (let both = l.settled (is.0, i.stands is.0 is.1) (i.settled is s).1 in (ends both.0, both.1));
      }

pub running : {below : Option ℕ} {u : PortValue} {ts : List TableWork} {w : PortValue} {us : List TableWork} {answers : List Bool} {answer : Result (Unit {0}) Stop} → RanDown below u ts w us answers answer → RunningDown u w ts us answer
running {u = u} course.begun = record { came = came_self u; stands = λ h s. s; outer = λ some. refl; settled = λ is s. (tt, s) }
running (course.unasked v w us xs done answers before step off) = running_on (running before) (lowers step) (λ no. tt)
running (course.asked v w us xs answers before step on) = running_on (running before) (lowers step) (λ no. tt)
running (course.due v w us xs answers before step on) = running_on (running before) (lowers step) (λ no. refl)
running (course.stopped v w us xs answers stop before step) = running_on (running before) (lowers step) (λ no. absurd no)

module _ {u w : PortValue} {ts us : List TableWork} {answer : Result (Unit {0}) Stop} (g : RunningDown u w ts us answer) (a : IsReleasing u ts) where
  pub running_may : MayWork u → MayWork w
  running_may may = hands_may a.1 (g.stands a.0 a.1) (came_post u w g.came) may

  pub running_stands : IsReleasing w us
  running_stands = (a.0, g.stands a.0 a.1)

-- ---- from one table alone
module _ {u w : PortValue} {t : TableWork} {all us : List TableWork} {answer : Result (Unit {0}) Stop} (is : all ≡ t ∷ []) (g : RunningDown u w all us answer) where
  from_one : {h : Holdings} → Empties h u (t ∷ []) → Empties h w us
  from_one {h} s = g.stands h (subst (λ xs. Empties h u xs) (sym is) s)

  -- what is left may be left partial
  pub emptied_unwinds : MayUnwind u (t ∷ []) → us ≢ [] → MayUnwind w us
  emptied_unwinds a some =
      let s = from_one a.stands.1 in
      record { may = hands_may a.stands.1 s (came_post u w g.came) a.may; stands = (a.stands.0, s); some = some; room = hands_old a.stands.1 s ∙ a.room }

  -- it is dead
  pub emptied_dead : us ≡ [] → (h : Holdings) → Empties h u (t ∷ []) → HoldsNow w h
  emptied_dead none h s = hands_none (subst (λ xs. Empties h w xs) none (from_one s))

  -- or what is left of it is named
  pub emptied_named : us ≢ [] → (x : PortValue) → LeavesNamed w x us → (h : Holdings) → Empties h u (t ∷ []) → HoldsNow x (named_hand t.frame h)
  emptied_named some x leaves h s = subst (λ f. HoldsNow x (named_hand f h)) (g.outer some ∙ ap outermost_frame is) (leaves h (from_one s))

  pub emptied_settled : IsReleasing u (t ∷ []) → IsSettledTop u.holdings → IfErr answer (λ e. e ≡ Paused Due)
  emptied_settled a settled = (g.settled (subst (λ xs. IsReleasing u xs) (sym is) a) settled).0
