-- The elements of lists, and the lists themselves, are determined.
use Rattle.std.proofs.Common.{◌≡◌, ◌<◌, ◌≤◌, ◌⊎◌, ℕ, ◌^◌, Bool, true, false, List, [], ◌∷◌, ◌++◌, length, slice_get, Option, Some, None, Result, Ok, Err, refl, sym, ap, ◌∙◌, subst, inl, inr}
use native.Mathlib.Omega.{arith}
use Rattle.xp_words.specs.declared.ops.Pair.{Pair}
use Rattle.xp_words.specs.declared.ops.ExtOp.{ExtOp}
use Rattle.xp_words.specs.declared.reply.Refusal.{Refusal}
use Rattle.xp_words.specs.declared.reply.Refusal.TheVariants as refusals
use Rattle.xp_words.specs.declared.reply.Stop.{Stop}
use Rattle.xp_words.specs.declared.reply.Stop.TheVariants.{Refused}
use Rattle.xp_board.specs.Told.{PortValue}
use Rattle.step_maker.specs.Moves.{Came}
use Rattle.step_maker.proofs.Coming.{came_self, came_trans}
use Rattle.step_maker.proofs.Visiting.{does_came}
use Rattle.xp_preempt.specs.Gates.{GivesAnswers}
use Rattle.foreign_map.specs.declared.owners.Owners.{Owners}
use Rattle.mmu_update.specs.Elements.{element_of}
use Rattle.mmuext_ops.specs.Elements.{ext_element}
use Rattle.vcpu_turn.specs.Ext.{ExtFits, FitsExt, Performs, awaited_for}
use Rattle.vcpu_turn.specs.Lists.{IsRefusedWhole, WorksOn, WorksThrough}
use Rattle.vcpu_turn.specs.Pairs.{FindsOwners, FitsPair, PairFits, WorksOwned}
use Rattle.determined_laws.specs.Courses.{Alike}
use Rattle.determined_laws.proofs.Courses.{alike_apart, alike_does, alike_map, alike_next, alike_same}
use Rattle.determined_laws.proofs.Owners.{owners_tie}
use Rattle.determined_calls.proofs.Elements.{performed_alike, performed_came, updated_alike, updated_came}
use Rattle.determined_turns.proofs.Lists.{Answer, works_on_alike, works_on_came}
use Rattle.determined_turns.proofs.Settling.{first_alike, first_came}

module _ (says : ℕ → Bool) where
  -- ---- pairs of mmu_update
  pair_came : (o : Owners) (p : Option Pair) (u w : PortValue) (asked : List Bool) (a : Answer) → FitsPair o p u w asked a → Came u w
  pair_came o (Some p) u w asked a fit = first_came _ says (λ v x ys b run. updated_came v o (element_of p) x ys b run.course) (λ v x y ys zs b c m g h run goes. updated_alike v o (element_of p) x y ys zs b c says m g h run.course goes.course) u w asked a fit
  pair_came o None u w asked a fit = absurd fit

  pair_alike : (o : Owners) (p : Option Pair) (u w x : PortValue) (asked others : List Bool) (a b : Answer) (m : ℕ) → GivesAnswers says m asked → GivesAnswers says m others → FitsPair o p u w asked a → FitsPair o p u x others b →
      Alike u w x ((asked ≡ others) × (a ≡ b))
  pair_alike o (Some p) u w x asked others a b m g h fit suit =
      first_alike _ says (λ v y ys c run. updated_came v o (element_of p) y ys c run.course) (λ v y z ys zs c d k i j run goes. updated_alike v o (element_of p) y z ys zs c d says k i j run.course goes.course) u w x asked others a b m g h fit suit
  pair_alike o None u w x asked others a b m g h fit suit = absurd fit

  pairs_came : (o : Owners) (list : List Pair) (k : ℕ) (u w : PortValue) (asked : List Bool) (a : Answer) → PairFits o list k u w asked a → Came u w
  pairs_came o list k u w asked a fit = pair_came o (slice_get list k) u w asked a fit

  pairs_alike : (o : Owners) (list : List Pair) (k : ℕ) (u w x : PortValue) (asked others : List Bool) (a b : Answer) (m : ℕ) → GivesAnswers says m asked → GivesAnswers says m others → PairFits o list k u w asked a →
      PairFits o list k u x others b → Alike u w x ((asked ≡ others) × (a ≡ b) × (◌≡◌ {A = Unit {0}} tt tt))
  pairs_alike o list k u w x asked others a b m g h fit suit = alike_map (pair_alike o (slice_get list k) u w x asked others a b m g h fit suit) (λ s. (s.0, s.1, refl))

  -- ---- elements of mmuext_op
  ext_came : (d : ℕ) (awaited : Option ℕ) (e : Option ExtOp) (u w : PortValue) (asked : List Bool) (a : Answer) → FitsExt d awaited e u w asked a → Came u w
  ext_came d awaited (Some e) u w asked a fit =
      first_came _ says (λ v x ys b run. performed_came v x d (ext_element e) awaited ys b run.course) (λ v x y ys zs b c m g h run goes. performed_alike v x y d (ext_element e) awaited ys zs b c says m g h run.course goes.course) u w asked a fit
  ext_came d awaited None u w asked a fit = absurd fit

  ext_alike : (d : ℕ) (awaited : Option ℕ) (e : Option ExtOp) (u w x : PortValue) (asked others : List Bool) (a b : Answer) (m : ℕ) → GivesAnswers says m asked → GivesAnswers says m others → FitsExt d awaited e u w asked a →
      FitsExt d awaited e u x others b → Alike u w x ((asked ≡ others) × (a ≡ b))
  ext_alike d awaited (Some e) u w x asked others a b m g h fit suit =
      first_alike _ says (λ v y ys c run. performed_came v y d (ext_element e) awaited ys c run.course) (λ v y z ys zs c k i j l run goes. performed_alike v y z d (ext_element e) awaited ys zs c k says i j l run.course goes.course) u w x asked others a b m
      g h fit suit
  ext_alike d awaited None u w x asked others a b m g h fit suit = absurd fit

-- ---- refused as a whole
pub whole_came : {A : Type 0} (x : Refusal) (v : PortValue) (to : ℕ) (w : PortValue) (answers : List Bool) (a : Result A Stop) → IsRefusedWhole x v to w answers a → Came v w
whole_came x v to w answers a p = subst (λ z. Came v z) (sym p.no_step) (came_self v)

pub whole_alike : {A : Type 0} (x y : Refusal) (v : PortValue) (to other : ℕ) (w z : PortValue) (answers others : List Bool) (a b : Result A Stop) → x ≡ y → IsRefusedWhole x v to w answers a → IsRefusedWhole y v other z others b →
    Alike v w z ((to ≡ other) × (answers ≡ others) × (a ≡ b))
whole_alike x y v to other w z answers others a b e p q = alike_same (p.no_step ∙ sym q.no_step) (p.none ∙ sym q.none, p.no_ask ∙ sym q.no_ask, p.refused ∙ (ap (λ k. Err (Refused k)) e ∙ sym q.refused))

-- ---- owners
pub finds_came : {v w : PortValue} {d foreign : ℕ} {a : Result Owners Refusal} → FindsOwners v w d foreign a → Came v w
finds_came {v} {w} p = does_came v w _ p.found

pub finds_alike : {v w x : PortValue} {d foreign : ℕ} {a b : Result Owners Refusal} → FindsOwners v w d foreign a → FindsOwners v x d foreign b → Alike v w x (a ≡ b)
finds_alike {v} {d = d} {foreign} {a} {b} p q = alike_does p.found q.found (λ us vs c e. owners_tie v.post.machine d foreign a b us vs c e)

-- ---- lists
module _ (says : ℕ → Bool) (n : ℕ) where
  -- of mmuext_op
  pub ext_list_came : (d : ℕ) (list : List ExtOp) (from : ℕ) (awaited : Option ℕ) (v w : PortValue) (to : ℕ) (answers : List Bool) (a : Answer) → GivesAnswers says n answers →
      WorksThrough (ExtFits d list from awaited) (length list) v from to w answers a → Came v w
  ext_list_came d list from awaited v w to answers a g (inl p) = whole_came _ v to w answers a p.1
  ext_list_came d list from awaited v w to answers a g (inr p) =
      works_on_came (ExtFits d list from awaited) (length list) (Unit {0}) (λ k u y asked b fit. tt) says n (λ k u y asked b fit. ext_came says d (awaited_for from awaited k) (slice_get list k) u y asked b fit)
      (λ k u y z asked others b c m i j fit suit. alike_map (ext_alike says d (awaited_for from awaited k) (slice_get list k) u y z asked others b c m i j fit suit) (λ s. (s.0, s.1, refl))) from to v w answers a g p.1

  pub ext_list_alike : (d : ℕ) (list : List ExtOp) (from : ℕ) (awaited : Option ℕ) (v w x : PortValue) (to other : ℕ) (answers others : List Bool) (a b : Answer) → GivesAnswers says n answers → GivesAnswers says n others →
      WorksThrough (ExtFits d list from awaited) (length list) v from to w answers a → WorksThrough (ExtFits d list from awaited) (length list) v from other x others b → Alike v w x ((to ≡ other) × (answers ≡ others) × (a ≡ b))
  ext_list_alike d list from awaited v w x to other answers others a b g h (inl p) (inl q) = whole_alike _ _ v to other w x answers others a b refl p.1 q.1
  ext_list_alike d list from awaited v w x to other answers others a b g h (inl p) (inr q) = absurd (omega (arith, p.0, q.0))
  ext_list_alike d list from awaited v w x to other answers others a b g h (inr p) (inl q) = absurd (omega (arith, p.0, q.0))
  ext_list_alike d list from awaited v w x to other answers others a b g h (inr p) (inr q) =
      alike_map
      (works_on_alike (ExtFits d list from awaited) (length list) (Unit {0}) (λ k u y asked c fit. tt) says n (λ k u y asked c fit. ext_came says d (awaited_for from awaited k) (slice_get list k) u y asked c fit)
      (λ k u y z asked more c e m i j fit suit. alike_map (ext_alike says d (awaited_for from awaited k) (slice_get list k) u y z asked more c e m i j fit suit) (λ s. (s.0, s.1, refl))) from to other v w x answers others a b g h p.1 q.1)
      (λ s. (s.0, s.1, s.2))

  -- of mmu_update
  on_came : (o : Owners) (list : List Pair) (from to : ℕ) (u w : PortValue) (answers : List Bool) (a : Answer) → GivesAnswers says n answers → WorksOn (PairFits o list) (length list) from u to w answers a → Came u w
  on_came o list from to u w answers a g p =
      works_on_came (PairFits o list) (length list) (Unit {0}) (λ k v y asked b fit. tt) says n (pairs_came says o list) (pairs_alike says o list) from to u w answers a g p

  pub owned_came : {d foreign : ℕ} {list : List Pair} {v : PortValue} {from : ℕ} (to : ℕ) (w : PortValue) (answers : List Bool) (a : Answer) → GivesAnswers says n answers → WorksOwned d foreign list v from to w answers a → Came v w
  owned_came {v = v} _ _ _ _ g (WorksOwned.long to w answers a above whole) = whole_came _ v to w answers a whole
  owned_came {v = v} _ _ _ _ g (WorksOwned.none empty) = came_self v
  owned_came _ _ _ _ g (WorksOwned.unowned w x some few finds) = finds_came finds
  owned_came {list = list} {v = v} {from} _ _ _ _ g (WorksOwned.owned to u w o answers a some few finds run) = came_trans v u w (finds_came finds) (on_came o list from to u w answers a g run)

  pub ok_same : {A E : Type 0} (a b : A) → ◌≡◌ {A = Result A E} (Ok a) (Ok b) → a ≡ b
  ok_same a b e = cc

  pub err_same : {A E : Type 0} (a b : E) → ◌≡◌ {A = Result A E} (Err a) (Err b) → a ≡ b
  err_same a b e = cc

  pub owned_alike : {d foreign : ℕ} {list : List Pair} {v : PortValue} {from : ℕ} (w x : PortValue) (to other : ℕ) (answers others : List Bool) (a b : Answer) → GivesAnswers says n answers → GivesAnswers says n others →
      WorksOwned d foreign list v from to w answers a → WorksOwned d foreign list v from other x others b → Alike v w x ((to ≡ other) × (answers ≡ others) × (a ≡ b))
  owned_alike {v = v} _ _ _ _ _ _ _ _ g h (WorksOwned.long to w answers a above whole) (WorksOwned.long other x others b far also) = whole_alike _ _ v to other w x answers others a b refl whole also
  owned_alike _ _ _ _ _ _ _ _ g h (WorksOwned.long to w answers a above whole) (WorksOwned.none empty) = absurd (omega (arith, above, empty))
  owned_alike _ _ _ _ _ _ _ _ g h (WorksOwned.long to w answers a above whole) (WorksOwned.unowned x r some few finds) = absurd (omega (arith, above, few))
  owned_alike _ _ _ _ _ _ _ _ g h (WorksOwned.long to w answers a above whole) (WorksOwned.owned other y x o others b some few finds run) = absurd (omega (arith, above, few))
  owned_alike _ _ _ _ _ _ _ _ g h (WorksOwned.none empty) (WorksOwned.long other x others b far also) = absurd (omega (arith, far, empty))
  owned_alike _ _ _ _ _ _ _ _ g h (WorksOwned.none empty) (WorksOwned.none void) = alike_same refl (refl, refl, refl)
  owned_alike _ _ _ _ _ _ _ _ g h (WorksOwned.none empty) (WorksOwned.unowned x r some few finds) = absurd (omega (arith, some, empty))
  owned_alike _ _ _ _ _ _ _ _ g h (WorksOwned.none empty) (WorksOwned.owned other y x o others b some few finds run) = absurd (omega (arith, some, empty))
  owned_alike _ _ _ _ _ _ _ _ g h (WorksOwned.unowned w r some few finds) (WorksOwned.long other x others b far also) = absurd (omega (arith, far, few))
  owned_alike _ _ _ _ _ _ _ _ g h (WorksOwned.unowned w r some few finds) (WorksOwned.none empty) = absurd (omega (arith, some, empty))
  owned_alike _ _ _ _ _ _ _ _ g h (WorksOwned.unowned w r some few finds) (WorksOwned.unowned x s any low found) = alike_map (finds_alike finds found) (λ e. (refl, refl, ap (λ z. Err (Refused z)) (err_same {A = Owners} r s e)))
  owned_alike {list = list} {from = from} w _ _ _ _ _ _ _ g h (WorksOwned.unowned _ r some few finds) (WorksOwned.owned other y x o others b any low found run) =
      alike_apart (came_self w) (on_came o list from other y x others b h run) (finds_alike finds found) (λ e. absurd (let t = e in cc))
  owned_alike _ _ _ _ _ _ _ _ g h (WorksOwned.owned to u w o answers a some few finds run) (WorksOwned.long other x others b far also) = absurd (omega (arith, far, few))
  owned_alike _ _ _ _ _ _ _ _ g h (WorksOwned.owned to u w o answers a some few finds run) (WorksOwned.none empty) = absurd (omega (arith, some, empty))
  owned_alike {list = list} {from = from} _ x _ _ _ _ _ _ g h (WorksOwned.owned to u w o answers a some few finds run) (WorksOwned.unowned _ r any low found) =
      alike_apart (on_came o list from to u w answers a g run) (came_self x) (finds_alike finds found) (λ e. absurd (let t = e in cc))
  owned_alike {list = list} {from = from} _ _ _ _ _ _ _ _ g h (WorksOwned.owned to u w o answers a some few finds run) (WorksOwned.owned other y x q others b any low found goes) =
      alike_next (λ z. WorksOn (PairFits q list) (length list) from z other x others b) (finds_came finds) (on_came o list from to u w answers a g run) (on_came q list from other y x others b h goes) (finds_alike finds found) goes
      (λ e rest. alike_map
      (works_on_alike (PairFits o list) (length list) (Unit {0}) (λ k v z asked c fit. tt) says n (pairs_came says o list) (pairs_alike says o list) from to other u w x answers others a b g h run
      (subst (λ z. WorksOn (PairFits z list) (length list) from u other x others b) (sym (ok_same {E = Refusal} o q e)) rest)) (λ s. (s.0, s.1, s.2)))
