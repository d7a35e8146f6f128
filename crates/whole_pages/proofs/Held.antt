-- What is in hand between the calls: one typed reference to the frame that is filled.
use Rattle.std.proofs.Common.{◌≡◌, ℕ, ◌≤◌, List, [], ◌∷◌, None, true, false, refl, sym, ap, ◌∙◌, subst}
use Rattle.std.proofs.Math.Nat.{le_refl}
use Rattle.xp_words.specs.declared.kind.PageType.TheVariants.{Writable}
use Rattle.xp_words.specs.Machine.{IsMachine}
use Rattle.xp_board.specs.declared.holdings.Claimed.{Claimed}
use Rattle.xp_board.specs.declared.holdings.Lock.{Lock}
use Rattle.xp_board.specs.declared.holdings.OwnerFound.TheVariants as owners
use Rattle.xp_board.specs.declared.holdings.Reference.{Reference}
use Rattle.xp_board.specs.declared.holdings.TypedReference.{TypedReference}
use Rattle.xp_board.specs.declared.holdings.Work.{Work}
use Rattle.xp_board.specs.Hands.{claim_of, lock_on, refs_to, work_on}
use Rattle.xp_board.specs.KindSteps.{live_typed}
use Rattle.xp_board.specs.Lists.{first_by}
use Rattle.xp_board.specs.Told.{Post, PortValue}
use Rattle.step_maker.specs.Holds.{FlushedHolds, FlushedSame, Holds, Rests, Same, quiet}
use Rattle.step_maker.specs.Asked.{NoMore, Request}
use Rattle.step_maker.proofs.Resting.{none_on}
use Rattle.frame_words.specs.Cells.{IsApart}
use Rattle.frame_words.specs.Freeing.{gave}
use Rattle.frame_words.specs.Refs.{took}
use Rattle.frame_words.proofs.CellSteps.{newest_held, newest_live}
use Rattle.frame_words.proofs.Putting.{without_newest}
use Rattle.frame_types.specs.Taking.{MayDropPlain, gave_type}
use Rattle.whole_pages.specs.Whole.{MayFill}

-- from v on, a typed reference to the frame came into the hand
abbrev pub HoldsPage : PortValue → PortValue → ℕ → ℕ → Type 0
HoldsPage v x f d = FlushedHolds v x (record v.holdings { typed = live_typed f Writable (owners.Of d) ∷ v.holdings.typed })

module _ (v x : PortValue) (f d : ℕ) (rests : Rests v) (typed : HoldsPage v x f d) where
  newest : x.holdings.typed ≡ live_typed f Writable (owners.Of d) ∷ v.holdings.typed
  newest = ap (λ (q : PortValue). q.holdings.typed) typed

  pub apart_all : (g : ℕ) → IsApart g x.holdings
  apart_all g =
      record {
        works = none_on (λ (y : Work). y.frame) g x.holdings.works (ap (λ (q : PortValue). q.holdings.works) typed ∙ rests.empty.works);
        locks = none_on (λ (y : Lock). y.frame) g x.holdings.locks (ap (λ (q : PortValue). q.holdings.locks) typed ∙ rests.empty.locks);
        claimed = none_on (λ (y : Claimed). y.frame) g x.holdings.claimed (ap (λ (q : PortValue). q.holdings.claimed) typed ∙ rests.empty.claimed);
      }

  pub may_fill : MayFill x f
  may_fill = record { owner = owners.Of d; others = v.holdings.typed; typed = newest; apart = apart_all f }

  pub may_drop : MayDropPlain x.post.machine f Writable x.holdings
  may_drop =
      record {
        held = newest_held x f Writable (owners.Of d) v.holdings.typed newest;
        live = newest_live x f Writable (owners.Of d) v.holdings.typed newest;
        plain = refl;
        apart = (apart_all f).works;
      }

  -- another reference came in beside it
  module _ (b : PortValue) (g : ℕ) (takes : Holds x b (took g d x.holdings)) where
    pub apart_beside : (k : ℕ) → IsApart k b.holdings
    apart_beside k =
        let a = apart_all k in
        record {
          works = ap (λ (q : PortValue). work_on k q.holdings.works) takes ∙ a.works;
          locks = ap (λ (q : PortValue). lock_on k q.holdings.locks) takes ∙ a.locks;
          claimed = ap (λ (q : PortValue). claim_of k q.holdings.claimed) takes ∙ a.claimed;
        }

    pub fill_beside : MayFill b f
    fill_beside = record { owner = owners.Of d; others = v.holdings.typed; typed = ap (λ (q : PortValue). q.holdings.typed) takes ∙ newest; apart = apart_beside f }

  -- it is given back
  pub dropped : (w : PortValue) → Holds x w (gave_type f x.holdings) → FlushedSame v w
  dropped w drops =
      ap quiet drops
      ∙ ap (λ (q : PortValue). quiet (record q { holdings = gave_type f q.holdings })) typed
      ∙ ap (λ (ts : List TypedReference). quiet (record v { holdings = record v.holdings { typed = ts } }))
      (without_newest (λ (e : TypedReference). e.frame) f (live_typed f Writable (owners.Of d)) v.holdings.typed refl)

  -- the hand has no more untyped references than before
  pub no_more_refs : (r : Request) → r.entries ≡ true → NoMore r x.holdings v.holdings
  no_more_refs r reads g =
      record {
        refs = λ apart. subst (λ rs. refs_to g rs ≤ refs_to g v.holdings.refs) (sym (ap (λ (q : PortValue). q.holdings.refs) typed)) (le_refl (refs_to g v.holdings.refs));
        works = λ off. none_on (λ (y : Work). y.frame) g v.holdings.works rests.empty.works;
        typed = λ off. absurd (let is : true ≡ false = sym reads ∙ off in cc);
      }

-- ---- beside it, another reference comes and goes
module _ (v a b c e : PortValue) (f d g : ℕ) (typed : HoldsPage v a f d) where
  pub held_still : Same a b → HoldsPage v b f d
  held_still same = ap quiet same ∙ typed

  pub ref_gone : Holds a b (took g d a.holdings) → Same b c → Holds c e (gave g c.holdings) → HoldsPage v e f d
  ref_gone takes same puts =
      ap quiet puts
      ∙ ap (λ (q : PortValue). quiet (record q { holdings = gave g q.holdings })) (same ∙ takes)
      ∙ ap (λ (rs : List Reference). quiet (record a { holdings = record a.holdings { refs = rs } }))
      (without_newest (λ (y : Reference). y.frame) g (record { frame = g; owner = owners.Of d }) a.holdings.refs refl)
      ∙ typed
