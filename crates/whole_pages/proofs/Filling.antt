-- Cells of a frame, stored one behind the other.
use Rattle.std.proofs.Common.{◌≡◌, ℕ, ◌+◌, List, [], ◌∷◌, length, ◌++◌, suc, None, IsTrue, refl, sym, ap, ◌∙◌, subst, inl, arith}
use Rattle.xp_words.specs.Machine.{Machine}
use Rattle.xp_words.specs.declared.place.Place.TheVariants.{Cell}
use Rattle.xp_board.specs.declared.step.Act.TheVariants.{Load, Store}
use Rattle.xp_board.specs.declared.step.StepKind.TheVariants as kinds
use Rattle.xp_board.specs.Hands.{claim_of, lock_on, work_on}
use Rattle.xp_board.specs.Told.{PortValue}
use Rattle.step_maker.specs.Holds.{Same}
use Rattle.step_maker.specs.Moves.{Moves}
use Rattle.step_maker.specs.Answers.{Deed, Serves, Writes}
use Rattle.step_maker.specs.Asked.{IsAsked, Request, named, of}
use Rattle.step_maker.specs.Finding.{Finding}
use Rattle.step_maker.specs.Visits.{Does, Nothing, Only, Then, Visit, visit}
use Rattle.step_maker.proofs.Piecing.{serves_nothing, serves_step}
use Rattle.step_maker.proofs.Visiting.{does_as, does_nothing, does_one, does_then}
use Rattle.frame_words.specs.Cells.{IsApart, MayStoreCell}
use Rattle.frame_words.proofs.CellSteps.{writes_live}
use Rattle.whole_pages.specs.Whole as whole
use Rattle.whole_pages.specs.Whole.{ClearedBy, Clears, CopiedBy, Copies, MayFill, clears, copies}
use Rattle.writable_pages.proofs.Shared.{store_deed}

names_it : (n : Machine) (s : ℕ) (r : Request) (F : Finding) (f : ℕ) → IsTrue (r.names f) → IsAsked n s r F f
names_it n s r F f is = of r.owner None (named is refl tt)

-- ---- what is in hand stays
module _ (v u : PortValue) (same : Same v u) where
  pub apart_still : {f : ℕ} → IsApart f v.holdings → IsApart f u.holdings
  apart_still {f} a =
      record {
        works = ap (λ (q : PortValue). work_on f q.holdings.works) same ∙ a.works;
        locks = ap (λ (q : PortValue). lock_on f q.holdings.locks) same ∙ a.locks;
        claimed = ap (λ (q : PortValue). claim_of f q.holdings.claimed) same ∙ a.claimed;
      }

  pub fills_still : {f : ℕ} → MayFill v f → MayFill u f
  fills_still a = record { owner = a.owner; others = a.others; typed = ap (λ (q : PortValue). q.holdings.typed) same ∙ a.typed; apart = apart_still a.apart }

pub fills : {v : PortValue} {f : ℕ} (word : ℕ) → MayFill v f → MayStoreCell v.post.machine f word v.holdings
fills {v} {f} word a = writes_live v f _ a.owner a.others a.typed word (inl refl) a.apart

-- ---- cleared
pub cleared_none : (v : PortValue) (f : ℕ) → Clears v v f 0
unfolding clears
cleared_none v f = record { serves = λ r is. serves_nothing v r; hand = refl; steps = does_as v v Nothing _ (λ vs none. subst (λ us. ClearedBy f 0 us) (sym none) whole.ClearedBy.none) (does_nothing v) }

clears_more : (f i : ℕ) → Writes f i 0 ∷ clears f i ≡ clears f (i + 1)
unfolding clears
clears_more f i = let e : suc i ≡ i + 1 = omega arith in ap (λ n. clears f n) e

pub cleared_more : {v u w : PortValue} {f i old : ℕ} → MayFill v f → Clears v u f i → Moves u w (Cell f i) (Store 0) kinds.Cell None old → Same u w → Clears v w f (i + 1)
cleared_more {v} {u} {w} {f} {i} {old} may before moves same =
    record {
      serves = λ r is. subst (λ (ds : List Deed). Serves v w r ds) (ap (λ (ds : List Deed). ds ++ clears f i) (store_deed f i 0 old u.holdings (apart_still v u before.hand may.apart)) ∙ clears_more f i)
          (serves_step v u w r (clears f i) (Cell f i) (Store 0) kinds.Cell None old (before.serves r is) moves (names_it _ _ r _ f is));
      hand = same ∙ before.hand;
      steps = does_as v w (Then (λ vs. ClearedBy f i vs) (Only (visit (Cell f i) (Store 0) old))) (λ vs. ClearedBy f (i + 1) vs)
          (λ vs t. subst (λ us. ClearedBy f (i + 1) us) (sym (t.list ∙ ap (λ (us : List Visit). us ++ t.before) t.next)) (whole.ClearedBy.more i old t.before t.first))
          (does_then v u w _ _ before.steps (does_one u w (Cell f i) (Store 0) kinds.Cell None old moves));
    }

-- ---- copied
pub copied_none : (v : PortValue) (to from : ℕ) → Copies v v to from 0
copied_none v to from =
    record {
      words = [];
      whole = refl;
      serves = λ r is reads. serves_nothing v r;
      hand = refl;
      steps = does_as v v Nothing _ (λ vs none. subst (λ us. CopiedBy to from [] us) (sym none) whole.CopiedBy.none) (does_nothing v);
    }

module _ {v u x : PortValue} {to from i word : ℕ} (may : MayFill v to) (before : Copies v u to from i) (look : Moves u x (Cell from i) Load kinds.Look None word) (still : Same u x) where
  abbrev both : ℕ → ℕ → List Visit → Type 0
  both k old vs = Then (λ us. CopiedBy to from before.words us) (Then (Only (visit (Cell from k) Load word)) (Only (visit (Cell to k) (Store word) old))) vs

  copied_steps : (w : PortValue) (k old : ℕ) → k ≡ i → Moves x w (Cell to i) (Store word) kinds.Cell None old → Does v w (both k old)
  copied_steps w k old is moves =
      rw is
      (does_then v u w _ _ before.steps (does_then u x w _ _ (does_one u x (Cell from i) Load kinds.Look None word look) (does_one x w (Cell to i) (Store word) kinds.Cell None old moves)))

  copied_list : (old : ℕ) (vs : List Visit) → both (length before.words) old vs → CopiedBy to from (word ∷ before.words) vs
  copied_list old vs t =
      let is : vs ≡ visit (Cell to (length before.words)) (Store word) old ∷ visit (Cell from (length before.words)) Load word ∷ t.before =
      t.list ∙ ap (λ (us : List Visit). us ++ t.before) (t.next.list ∙ ap (λ (us : List Visit). us ++ t.next.before) t.next.next ∙ ap (λ (us : List Visit). visit (Cell to (length before.words)) (Store word) old ∷ us) t.next.first) in
      subst (λ us. CopiedBy to from (word ∷ before.words) us) (sym is) (whole.CopiedBy.more word old before.words t.before t.first)

  pub copied_more : (w : PortValue) (old : ℕ) → Moves x w (Cell to i) (Store word) kinds.Cell None old → Same x w → Copies v w to from (i + 1)
  copied_more w old moves same =
      let here : Same v x = still ∙ before.hand in
      record {
        words = word ∷ before.words;
        whole = let n = before.whole in omega (arith, n);
        serves = λ r is reads. subst (λ (ds : List Deed). Serves v w r (ds ++ copies to before.words))
            (store_deed to i word old x.holdings (apart_still v x here may.apart) ∙ ap (λ n. Writes to n word ∷ []) (sym before.whole))
            (serves_step v x w r (copies to before.words) (Cell to i) (Store word) kinds.Cell None old
            (serves_step v u x r (copies to before.words) (Cell from i) Load kinds.Look None word (before.serves r is reads) look (inl reads)) moves (names_it _ _ r _ to is));
        hand = same ∙ here;
        steps = does_as v w (both (length before.words) old) (λ vs. CopiedBy to from (word ∷ before.words) vs) (copied_list old) (copied_steps w (length before.words) old before.whole moves);
      }
