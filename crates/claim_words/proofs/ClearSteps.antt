-- The mark of an allocated frame is taken off: when that is legal, and what it leaves in hand.
use Rattle.std.proofs.Common.{◌≡◌, ◌≢◌, ℕ, ◌<◌, ◌≤◌, Bool, true, false, length, Option, Some, None, Result, Ok, Err, IfOk, IfErr, MatchResult, IsTrue, refl, sym, ap, ◌∙◌, subst, arith, inr}
use Rattle.xp_words.specs.RefWords.{ref_read, ref_write, IsRef}
use Rattle.xp_words.specs.declared.refs.RefWord.TheVariants.{Owned}
use Rattle.xp_words.specs.declared.place.Place.TheVariants.{Refs}
use Rattle.xp_words.specs.Places.{sizes_of}
use Rattle.xp_words.proofs.RefLaws.{ref_read-write}
use Rattle.xp_board.specs.declared.step.Act.TheVariants.{Cas}
use Rattle.xp_board.specs.declared.step.StepKind.TheVariants as kinds
use Rattle.xp_board.specs.declared.holdings.Holdings.{Holdings}
use Rattle.xp_board.specs.declared.holdings.OwnerFound.TheVariants as owners
use Rattle.xp_board.specs.declared.holdings.Reference.{Reference}
use Rattle.xp_board.specs.declared.holdings.Work.{Work}
use Rattle.xp_board.specs.Hands.{refs_to, work_on}
use Rattle.xp_board.specs.Lists.{EachOf}
use Rattle.xp_board.specs.Readings.{owner_of, owner_in}
use Rattle.xp_board.specs.RefSteps.{after_ref_row, is_closing_on, owner_number, ref_row}
use Rattle.xp_board.specs.Sound.{WorkAgrees}
use Rattle.xp_board.specs.Spelling.{IsSpelling}
use Rattle.xp_board.specs.Told.{PortValue}
use Rattle.xp_board.proofs.RefWords.{fits_owned}
use Rattle.xp_board.proofs.ListCounts.{EachOf-found, newest_held, times_by-cons_here}
use Rattle.xp_board.proofs.Numbers.{refs_there}
use Rattle.xp_board.proofs.Sums.{if_itself}
use Rattle.step_maker.specs.Holds.{Holds, Same, MayWork, still}
use Rattle.step_maker.specs.Moves.{May, Moves, found_by}
use Rattle.frame_words.specs.Refs.{MayPut, took}
use Rattle.frame_words.proofs.RowSteps.{lost_refs}
use Rattle.claim_words.proofs.ClaimSteps.{low_domain}

module _ (v : PortValue) (f d k : ℕ) (domain : d < length v.post.machine.page_limit) (may : MayWork v) (some : 1 ≤ k) (below : k ≤ v.post.machine.limit) where
  marked_read : (allocated : Bool) → ref_read (ref_write (Owned d allocated k)) ≡ Some (Owned d allocated k)
  unfolding IsRef
  marked_read allocated =
      let few = may.machine.few_counts in
      ref_read-write (Owned d allocated k) (low_domain v d may domain, some, omega arith)

  pub may_clear : (e n : ℕ) → f < v.post.machine.frames → e ≡ ref_write (Owned d true k) → n ≡ ref_write (Owned d false k) → May v (Refs f) (Cas e n) kinds.Ref None
  unfolding IsSpelling
  may_clear e n frame from to =
      rw (from, to)
      (record {
        place = refs_there (sizes_of v.post.machine) f frame;
        marked = tt;
        running = λ needs. may.running;
        spelling = rw (marked_read false) (fits_owned v.post.machine d k false domain below);
        act = rw (marked_read true, marked_read false) (inr (record { marked = refl; left = refl }));
      })

  cleared : (w : PortValue) → Moves v w (Refs f) (Cas (ref_write (Owned d true k)) (ref_write (Owned d false k))) kinds.Ref None (ref_write (Owned d true k)) → Holds v w (took f d v.holdings)
  unfolding owner_of
  cleared w m =
      let e = ref_write (Owned d true k) in
      let row = ap (λ a. ref_row a (ref_read (ref_write (Owned d false k)))) (marked_read true) ∙ ap (λ a. ref_row (Some (Owned d true k)) a) (marked_read false) in
      ap still m.to
      ∙ ap (λ h. still (record v { holdings = h }))
      (if_itself e (after_ref_row (ref_row (ref_read e) (ref_read (ref_write (Owned d false k)))) v.post.machine v.post.vcpu f e v.holdings) v.holdings
      ∙ ap (λ r. after_ref_row r v.post.machine v.post.vcpu f e v.holdings) row)
      ∙ ap (λ o. still (record v { holdings = took f o v.holdings })) (ap (λ r. owner_number (owner_in r)) (marked_read true))

  pub cleared_hand : (w : PortValue) (r : Result (Unit {0}) ℕ) →
      Moves v w (Refs f) (Cas (ref_write (Owned d true k)) (ref_write (Owned d false k))) kinds.Ref None (found_by (ref_write (Owned d true k)) r) →
      IfErr r (λ found. found ≢ ref_write (Owned d true k)) → MatchResult r (λ done. Holds v w (took f d v.holdings)) (λ found. Same v w)
  cleared_hand w (Ok done) m off = cleared w m
  cleared_hand w (Err found) m off = lost_refs v w f _ _ found m off

-- a frame that is closing in the hand has a reference there, beside the new one
spares_by : (f d : ℕ) (h : Holdings) (o : Option Work) → work_on f h.works ≡ o → EachOf (WorkAgrees h) h.works → IsTrue (is_closing_on o) → 2 ≤ refs_to f (took f d h).refs
spares_by f d h None here agree closing = absurd cc
spares_by f d h (Some e) here agree closing =
    let there = EachOf-found (WorkAgrees h) (λ (x : Work). x.frame) f h.works e here agree in
    let one : 0 < refs_to f h.refs = subst (λ g. 0 < refs_to g h.refs) there.0 (there.1.closing closing) in
    let more = times_by-cons_here (λ (x : Reference). x.frame) f (record { frame = f; owner = owners.Of d }) h.refs refl in
    omega (arith, one, more)

took_gives : (v w : PortValue) (f d : ℕ) → EachOf (WorkAgrees v.holdings) v.holdings.works → Holds v w (took f d v.holdings) → MayPut f w.holdings
took_gives v w f d agree holds =
    let refs : (took f d v.holdings).refs ≡ w.holdings.refs = sym (ap (λ (q : PortValue). q.holdings.refs) holds) in
    let works = ap (λ (q : PortValue). work_on f q.holdings.works) holds in
    record {
      held = subst (λ rs. 0 < refs_to f rs) refs (newest_held f (record { frame = f; owner = owners.Of d }) v.holdings.refs refl);
      spares = λ closing. subst (λ rs. 2 ≤ refs_to f rs) refs (spares_by f d v.holdings (work_on f w.holdings.works) (sym works) agree closing);
    }

pub cleared_gives : (v w : PortValue) (f d e n : ℕ) (r : Result (Unit {0}) ℕ) → Moves v w (Refs f) (Cas e n) kinds.Ref None (found_by e r) →
    MatchResult r (λ done. Holds v w (took f d v.holdings)) (λ found. Same v w) → IfOk r (λ done. MayPut f w.holdings)
cleared_gives v w f d e n (Ok done) m hand =
    took_gives v w f d (subst (λ (h : Holdings). EachOf (WorkAgrees h) h.works) m.finds.mine (m.finds.sound.works v.post.vcpu m.finds.real)) hand
cleared_gives v w f d e n (Err found) m hand = tt
