-- The elements that a turn does of a list.
use Rattle.std.proofs.Common.{◌≡◌, ◌+◌, ◌<◌, ◌≤◌, ℕ, Bool, List, length, Option, Some, Result, Ok, Err, refl, sym, ap, subst, ◌∙◌, inl, inr, arith}
use Rattle.std.specs.Prelude.{slice_get}
use Rattle.std.proofs.lemmas.Bool.{cases_lt}
use Rattle.xp_words.specs.declared.ops.ExtOp.{ExtOp}
use Rattle.xp_words.specs.declared.reply.Stop.{Stop}
use Rattle.xp_board.specs.Told.{PortValue}
use Rattle.step_maker.specs.Moves.{Came}
use Rattle.step_maker.proofs.Coming.{came_self, came_trans}
use Rattle.mmuext_ops.specs.Course.{Performed}
use Rattle.mmuext_ops.specs.Elements.{ext_element}
use Rattle.vcpu_turn.specs.Ext.{ExtFits, FitsExt, Performs, awaited_for}
use Rattle.vcpu_turn.specs.Settling.{SettlesFirst, performed, unsettled}
use Rattle.vcpu_turn.specs.Lists as lists
use Rattle.vcpu_turn.specs.Lists.{DidItems, WorksOn, WorksThrough, all_done, due, last_done, more, stopped}
use Rattle.vcpu_turn.proofs.Hindering.{did_came, exts_came, settles_came}

-- on the way from v to w element e was done
pub record Did (v w : PortValue) (e : ExtOp) : Type 0 where
  pub before : PortValue
  pub behind : PortValue
  pub domain : ℕ
  pub awaited : Option ℕ
  pub answers : List Bool
  pub came : Came v before
  pub performed : Performed before behind domain (ext_element e) awaited answers (Ok tt)
  pub goes : Came behind w

pub did_on : (u v w z : PortValue) (e : ExtOp) → Came u v → Did v w e → Came w z → Did u z e
did_on u v w z e first d then =
    record { before = d.before; behind = d.behind; domain = d.domain; awaited = d.awaited; answers = d.answers; came = came_trans u v d.before first d.came; performed = d.performed; goes = came_trans d.behind w z d.goes then }

module _ (d : ℕ) (list : List ExtOp) (from : ℕ) (awaited : Option ℕ) where
  abbrev Fits : lists.Fitting
  Fits = ExtFits d list from awaited

  one : (k : ℕ) (v w : PortValue) (asked : List Bool) (e : ExtOp) → Fits k v w asked (Ok tt) → slice_get list k ≡ Some e → Did v w e
  one k v w asked e fits at = by asked (Ok tt) refl (subst (λ x. FitsExt d (awaited_for from awaited k) x v w asked (Ok tt)) at fits)
    where
      by : (more : List Bool) (r : Result (Unit {0}) Stop) → r ≡ Ok tt → SettlesFirst (Performs d (ext_element e) (awaited_for from awaited k)) v w more r → Did v w e
      by _ _ is (unsettled w answers stop settles) = absurd cc
      by _ _ is (performed u w early answers answer settles performs) =
          record {
            before = u;
            behind = w;
            domain = d;
            awaited = awaited_for from awaited k;
            answers = answers;
            came = settles_came v u early (Ok tt) settles;
            performed = subst (λ r. Performed u w d (ext_element e) (awaited_for from awaited k) answers r) is performs.course;
            goes = came_self w;
          }

  module _ (first : ℕ) (v : PortValue) (k : ℕ) (e : ExtOp) (at : slice_get list k ≡ Some e) (behind : first ≤ k) where
    last : (j : ℕ) (u w : PortValue) (answers asked : List Bool) → k < j + 1 → (k < j → Did v u e) → DidItems Fits (length list) first v j u answers → Fits j u w asked (Ok tt) → Did v w e
    last j u w answers asked within earlier did fit =
        elim (cases_lt k j) [
          | inl less ↦ did_on v v u w e (came_self v) (earlier less) (exts_came d list from awaited j u w asked (Ok tt) fit)
          | inr not_less ↦
              (let same : k ≡ j = omega arith in
              did_on v u w w e (did_came Fits (exts_came d list from awaited) (length list) first v j u answers did) (one j u w asked e fit (ap (slice_get list) (sym same) ∙ at)) (came_self w))
        ]

    items : (j : ℕ) (u : PortValue) (answers : List Bool) → DidItems Fits (length list) first v j u answers → k < j → Did v u e
    items _ _ _ lists.DidItems.none within = absurd (omega arith)
    items _ _ _ (more j u w answers asked did fit less) within = last j u w answers asked within (items j u answers did) did fit

    on : (to : ℕ) (w : PortValue) (answers : List Bool) (r : Result (Unit {0}) Stop) → WorksOn Fits (length list) first v to w answers r → k < to → Did v w e
    on _ _ _ _ (all_done same) within = absurd (omega arith)
    on _ _ _ _ (last_done j u w answers asked did fit at_end) within = last j u w answers asked within (items j u answers did) did fit
    on _ _ _ _ (due j u w answers asked did fit less) within = last j u w answers asked within (items j u answers did) did fit
    on _ _ _ _ (stopped j u w answers asked stop did fit less) within = did_on v v u w e (came_self v) (items j u answers did within) (exts_came d list from awaited j u w asked (Err stop) fit)

    pub through : (to : ℕ) (w : PortValue) (answers : List Bool) (r : Result (Unit {0}) Stop) → WorksThrough Fits (length list) v first to w answers r → k < to → Did v w e
    through to w answers r (inl (long, refused)) within = absurd (let none = refused.none in omega arith)
    through to w answers r (inr (few, works)) within = on to w answers r works within
