-- What is in hand between the calls of a write, and that nothing is behind it.
use Rattle.std.proofs.Common.{◌≡◌, ℕ, ◌+◌, List, [], ◌∷◌, Some, None, refl, ap, ◌∙◌, inl, ◌<◌, IsTrue}
use Rattle.xp_words.specs.declared.kind.PageType.TheVariants.{Writable}
use Rattle.xp_words.specs.Places.{sizes_of}
use Rattle.xp_board.specs.declared.holdings.Claimed.{Claimed}
use Rattle.xp_board.specs.declared.holdings.Ending.{Ending}
use Rattle.xp_board.specs.declared.holdings.Lock.{Lock}
use Rattle.xp_board.specs.declared.holdings.OwnerFound.TheVariants as owners
use Rattle.xp_board.specs.declared.holdings.Reference.{Reference}
use Rattle.xp_board.specs.declared.holdings.TypedReference.{TypedReference}
use Rattle.xp_board.specs.declared.holdings.Work.{Work}
use Rattle.xp_board.specs.Hands.{typed_to, without_ref, work_on}
use Rattle.xp_board.specs.KindSteps.{live_typed}
use Rattle.xp_board.specs.Knowledge.{knows_live}
use Rattle.xp_board.specs.Lists.{times_by}
use Rattle.xp_board.specs.Told.{PortValue}
use Rattle.step_maker.specs.Holds.{FlushedHolds, FlushedSame, Holds, Rests, Same, quiet}
use Rattle.step_maker.specs.Pauses.{IsElsewhere}
use Rattle.step_maker.proofs.Resting.{none_on, rests_by}
use Rattle.frame_words.specs.Cells.{IsApart, MayStoreCell}
use Rattle.frame_words.specs.Freeing.{gave}
use Rattle.frame_words.specs.Refs.{took}
use Rattle.frame_words.proofs.CellSteps.{newest_held, newest_live, writes_live}
use Rattle.frame_words.proofs.Putting.{without_newest}
use Rattle.frame_types.specs.Taking.{LentBy, MayDropPlain, gave_type, typed_as}
use Rattle.mmu_update.specs.Elements.{LeavesUpdate}

pub leaves_same : (v w : PortValue) → FlushedSame v w → LeavesUpdate v w
leaves_same v w same = (v.holdings.old0, v.holdings.old1, same)

pub leaves_rests : (v w : PortValue) → Rests v → LeavesUpdate v w → Rests w
leaves_rests v w rests leaves = rests_by v w leaves.0 leaves.1 rests leaves.2

-- ---- the frame is in none of the own lists
none_to : {A : Type 0} (key : A → ℕ) (f : ℕ) (xs : List A) → xs ≡ [] → times_by key f xs ≡ 0
unfolding times_by
none_to key f xs e = ap (λ ys. times_by key f ys) e

-- ---- from a port at rest, with a reference to the frame
module _ (b v : PortValue) (f d : ℕ) (rests : Rests b) (takes : Holds b v (took f d b.holdings)) where
  pub lent_by : LentBy f d v.holdings
  lent_by = record { others = b.holdings.refs; refs = ap (λ (q : PortValue). q.holdings.refs) takes }

  pub no_work : work_on f v.holdings.works ≡ None
  no_work = none_on (λ (y : Work). y.frame) f v.holdings.works (ap (λ (q : PortValue). q.holdings.works) takes ∙ rests.empty.works)

  pub elsewhere : IsElsewhere f v.holdings
  elsewhere = (
    no_work,
    none_on (λ (y : Lock). y.frame) f v.holdings.locks (ap (λ (q : PortValue). q.holdings.locks) takes ∙ rests.empty.locks),
    none_on (λ (y : Ending). y.frame) f v.holdings.ending (ap (λ (q : PortValue). q.holdings.ending) takes ∙ rests.empty.ending),
  )

  pub no_type : typed_to f v.holdings.typed ≡ 0
  no_type = none_to (λ (y : TypedReference). y.frame) f v.holdings.typed (ap (λ (q : PortValue). q.holdings.typed) takes ∙ rests.empty.typed)

  abbrev lent_ref : Reference
  lent_ref = record { frame = f; owner = owners.Of d }

  pub ref_gone : without_ref f (lent_ref ∷ b.holdings.refs) ≡ b.holdings.refs
  ref_gone = without_newest (λ (e : Reference). e.frame) f lent_ref b.holdings.refs refl

  -- the reference was given back; the first old word may have it
  pub given_up : (w : PortValue) → FlushedHolds v w (gave f v.holdings) → LeavesUpdate b w
  given_up w gives =
      leaves_same b w
      (gives ∙ ap (λ (q : PortValue). quiet (record q { holdings = gave f q.holdings })) takes ∙ ap (λ (rs : List Reference). quiet (record b { holdings = record b.holdings { refs = rs } })) ref_gone)

  pub given_to_old : (w : PortValue) → FlushedHolds v w (record (gave f v.holdings) { old0 = Some (f + 1) }) → LeavesUpdate b w
  given_to_old w gives = (
    Some (f + 1),
    b.holdings.old1,
    gives ∙ ap (λ (q : PortValue). quiet (record q { holdings = record (gave f q.holdings) { old0 = Some (f + 1) } })) takes
        ∙ ap (λ (rs : List Reference). quiet (record b { holdings = record b.holdings { refs = rs; old0 = Some (f + 1) } })) ref_gone,
  )

  -- it became a typed one
  module _ (x : PortValue) (typed : FlushedHolds v x (typed_as f d Writable v.holdings)) where
    whole : FlushedHolds b x (typed_as f d Writable (took f d b.holdings))
    whole = typed ∙ ap (λ (q : PortValue). quiet (record q { holdings = typed_as f d Writable q.holdings })) takes

    pub apart : IsApart f x.holdings
    apart =
        record {
          works = none_on (λ (y : Work). y.frame) f x.holdings.works (ap (λ (q : PortValue). q.holdings.works) whole ∙ rests.empty.works);
          locks = none_on (λ (y : Lock). y.frame) f x.holdings.locks (ap (λ (q : PortValue). q.holdings.locks) whole ∙ rests.empty.locks);
          claimed = none_on (λ (y : Claimed). y.frame) f x.holdings.claimed (ap (λ (q : PortValue). q.holdings.claimed) whole ∙ rests.empty.claimed);
        }

    newest : x.holdings.typed ≡ live_typed f Writable (owners.Of d) ∷ b.holdings.typed
    newest = ap (λ (q : PortValue). q.holdings.typed) whole

    pub held : 0 < typed_to f x.holdings.typed
    held = newest_held x f Writable (owners.Of d) b.holdings.typed newest

    pub live : IsTrue (knows_live (sizes_of x.post.machine) f Writable x.holdings)
    live = newest_live x f Writable (owners.Of d) b.holdings.typed newest

    pub may_write : (word : ℕ) → MayStoreCell x.post.machine f word x.holdings
    may_write word = writes_live x f Writable (owners.Of d) b.holdings.typed newest word (inl refl) apart

    -- and was given back
    pub given_back : (y z : PortValue) → Same x y → Holds y z (gave_type f y.holdings) → LeavesUpdate b z
    given_back y z same drops =
        leaves_same b z
        (ap quiet drops
        ∙ ap (λ (q : PortValue). quiet (record q { holdings = gave_type f q.holdings })) (ap quiet same ∙ whole)
        ∙ ap (λ (rs : List Reference). quiet (record b { holdings = gave_type f (record (typed_as f d Writable b.holdings) { refs = rs }) })) ref_gone
        ∙ ap (λ (ts : List TypedReference). quiet (record b { holdings = record b.holdings { typed = ts } })) (without_newest (λ (e : TypedReference). e.frame) f (live_typed f Writable (owners.Of d)) b.holdings.typed refl))

pub may_drop : (b v x y : PortValue) (f d : ℕ) → Rests b → Holds b v (took f d b.holdings) → FlushedHolds v x (typed_as f d Writable v.holdings) → Same x y → MayDropPlain y.post.machine f Writable y.holdings
may_drop b v x y f d rests takes typed same =
    let whole = ap quiet same ∙ typed in
    record {
      held = held b v f d rests takes y whole;
      live = live b v f d rests takes y whole;
      plain = refl;
      apart = (apart b v f d rests takes y whole).works;
    }
